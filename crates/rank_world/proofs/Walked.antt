-- What is found first in a walk over the leaves among some blocks.
use Rattle.std.proofs.Common.{◌≡◌, ℕ, zero, suc, Bool, true, false, List, [], ◌∷◌, length, Option, Some, None, refl, sym, ap, ◌∙◌}
use Rattle.std.specs.Prelude.{if◌then◌else◌, filter, find, flat_map}
use Rattle.std.specs.Option.{option_or}
use Rattle.std.proofs.lemmas.List.Folds.{find-append}
use Rattle.amr_num.specs.declared.BlockAt.{BlockAt}
use Rattle.mesh_model.specs.Fields.Firsts.{first_below}
use Rattle.block_tree.specs.Numbered.{block_in}

pub or_nothing : {A : Type 0} (p : Option A) → option_or p None ≡ p
or_nothing None = refl
or_nothing (Some x) = refl

or_first : {A : Type 0} (p q r : Option A) → option_or (option_or p q) r ≡ option_or p (option_or q r)
or_first None q r = refl
or_first (Some x) q r = refl

pub first_front : {A : Type 0} (n : ℕ) (at : ℕ → Option A) → first_below (suc n) at ≡ option_or (at zero) (first_below n (λ k. at (suc k)))
first_front zero at = sym (or_nothing (at zero))
first_front (suc n) at = ap (λ p. option_or p (at (suc n))) (first_front n at) ∙ or_first (at zero) (first_below n (λ k. at (suc k))) (at (suc n))

one_part : {B : Type 0} (p : B → Bool) (f : BlockAt → List B) (t : Bool) (x : BlockAt) (ys : List BlockAt) →
    find p (flat_map f (if t then x ∷ ys else ys)) ≡ option_or (if t then find p (f x) else None) (find p (flat_map f ys))
one_part p f true x ys = find-append p (f x) (flat_map f ys)
one_part p f false x ys = refl

pub found_filtered : {B : Type 0} (p : B → Bool) (f : BlockAt → List B) (q : BlockAt → Bool) (xs : List BlockAt) →
    find p (flat_map f (filter q xs)) ≡ first_below (length xs) (λ k. if q (block_in xs k) then find p (f (block_in xs k)) else None)
found_filtered p f q [] = refl
found_filtered p f q (x ∷ xs) =
    one_part p f (q x) x (filter q xs)
    ∙ ap (λ r. option_or (if q x then find p (f x) else None) r) (found_filtered p f q xs)
    ∙ sym (first_front (length xs) (λ k. if q (block_in (x ∷ xs) k) then find p (f (block_in (x ∷ xs) k)) else None))
