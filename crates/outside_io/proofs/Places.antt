-- The bytes of one area and of the other.
use Rattle.std.proofs.Common.{◌≡◌, List, ℕ, Option, Some, None, IfSome, refl, subst}
use Rattle.std.proofs.lemmas.Option.{none-some, same_Some}
use Rattle.outside_io.specs.declared.disk.Area.{Area}
use Rattle.outside_io.specs.declared.disk.Area.TheVariants.{A, B}
use Rattle.outside_io.specs.Areas.{Areas, bytes_of, with_bytes, other_area}

pub here : (areas : Areas) (area : Area) (bytes : List ℕ) → bytes_of (with_bytes areas area bytes) area ≡ bytes
here areas A bytes = refl
here areas B bytes = refl

pub there : (areas : Areas) (area : Area) (bytes : List ℕ) → bytes_of (with_bytes areas area bytes) (other_area area) ≡ bytes_of areas (other_area area)
there areas A bytes = refl
there areas B bytes = refl

pub same_areas : (area : Area) (x y : Areas) → bytes_of x area ≡ bytes_of y area → bytes_of x (other_area area) ≡ bytes_of y (other_area area) → x ≡ y
same_areas A x y p q = λ i. record { a = p i; b = q i }
same_areas B x y p q = λ i. record { a = q i; b = p i }

pub same_with : (area : Area) (x areas : Areas) (bytes : List ℕ) → bytes_of x area ≡ bytes → bytes_of x (other_area area) ≡ bytes_of areas (other_area area) → x ≡ with_bytes areas area bytes
same_with A x areas bytes p q = λ i. record { a = p i; b = q i }
same_with B x areas bytes p q = λ i. record { a = q i; b = p i }

pub twice : (areas : Areas) (area : Area) (p q : List ℕ) → with_bytes (with_bytes areas area p) area q ≡ with_bytes areas area q
twice areas A p q = refl
twice areas B p q = refl

-- what a clause says where the disk tells
pub told : {X : Type 0} (o : Option X) (P : X → Type 0) (x : X) → o ≡ Some x → IfSome o P → P x
told None P x e h = absurd (none-some x e)
told (Some y) P x e h = subst P (same_Some y x e) h

-- and how a clause is met
pub if_told : {X : Type 0} (o : Option X) (P : X → Type 0) → ((x : X) → o ≡ Some x → P x) → IfSome o P
if_told None P f = tt
if_told (Some y) P f = f y refl
