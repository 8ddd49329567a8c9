-- Steps that give a value or refuse.
use Rattle.std.proofs.lemmas.Bool.{and_parts}
use Rattle.std.proofs.Common.{◌≡◌, Bool, true, false, ◌&&◌, Option, Some, None, Result, Ok, Err, refl, ap}
use Rattle.mesh_model.specs.declared.language.script.Reason.{Reason}
use Rattle.mesh_model.specs.Language.Forms.{check, found, ◌>>=◌}

-- where a step and what follows it gave a value, and_parts did
pub bound : {A B E : Type 0} (m : Result A E) (f : A → Result B E) (y : B) → (m >>= f) ≡ Ok y → (x : A) × (m ≡ Ok x) × (f x ≡ Ok y)
bound (Ok x) f y h = (x, refl, h)
bound (Err e) f y h = absurd (cc)

pub passed : {A : Type 0} (b : Bool) (e : Reason) (x v : A) → check b e x ≡ Ok v → (b ≡ true) × (x ≡ v)
passed true e x v h = (refl, cc)
passed false e x v h = absurd (cc)

pub same_value : {A E : Type 0} (x y : A) → ◌≡◌ {A = Result A E} (Ok x) (Ok y) → x ≡ y
same_value x y h = cc

pub found_says : {A : Type 0} (e : Reason) (o : Option A) (x : A) → found e o ≡ Ok x → o ≡ Some x
found_says e (Some y) x h = ap Some (same_value y x h)
found_says e None x h = absurd (cc)
