-- What tests and lists of blocks say.
use Rattle.std.proofs.Common.{◌≡◌, ◌⊎◌, Bool, true, false, not, ◌&&◌, ◌||◌, refl, sym, ap, ◌∙◌, inl, inr, subst, List, [], ◌∷◌, ◌++◌}
use Rattle.std.proofs.lemmas.Bool.{cases_Bool}
use Rattle.std.specs.Prelude.{flat_map}
use Rattle.std.specs.List.{list_any, list_all}
use Rattle.amr_num.specs.declared.BlockAt.{BlockAt}
use Rattle.mesh_model.specs.Tree.Order.{IsIn}

pub and_left : (a b : Bool) → (a && b) ≡ true → a ≡ true
and_left true b h = refl
and_left false b h = cc

pub and_right : (a b : Bool) → (a && b) ≡ true → b ≡ true
and_right true b h = h
and_right false b h = cc

pub and_both : (a b : Bool) → a ≡ true → b ≡ true → (a && b) ≡ true
and_both a b p q = rw (p, q) refl

pub either_true : (a b : Bool) → (a || b) ≡ true → (a ≡ true) ⊎ (b ≡ true)
either_true true b h = inl refl
either_true false b h = inr h

pub or_left : (a b : Bool) → a ≡ true → (a || b) ≡ true
or_left a b h = ap (λ u. u || b) h

pub or_right : (a b : Bool) → b ≡ true → (a || b) ≡ true
or_right true b h = refl
or_right false b h = h

pub both_false : (a b : Bool) → (a || b) ≡ false → (a ≡ false) × (b ≡ false)
both_false true b h = cc
both_false false b h = (refl, h)

pub not_true : (a : Bool) → not a ≡ true → a ≡ false
not_true true h = cc
not_true false h = refl

pub false_not : (a : Bool) → a ≡ false → not a ≡ true
false_not a h = ap not h

-- what is not true is false
pub refuted : (a : Bool) → (a ≡ true → ⊥) → a ≡ false
refuted true h = absurd (h refl)
refuted false h = refl

pub found : (p : BlockAt → Bool) (bs : List BlockAt) → list_any p bs ≡ true → (b : BlockAt) × IsIn b bs × (p b ≡ true)
found p [] h = cc
found p (b ∷ bs) h = elim (cases_Bool (p b)) [
  | inl t ↦ (b, inl refl, t)
  | inr f ↦ let rest = found p bs (sym (ap (λ u. u || list_any p bs) f) ∙ h) in (rest.0, inr rest.1, rest.2)
]

pub there : (p : BlockAt → Bool) (b : BlockAt) (bs : List BlockAt) → IsIn b bs → p b ≡ true → list_any p bs ≡ true
there p b [] i h = absurd i
there p b (c ∷ bs) (inl e) h = ap (λ u. u || list_any p bs) (ap p e ∙ h)
there p b (c ∷ bs) (inr i) h = or_right (p c) (list_any p bs) (there p b bs i h)

pub of_all : (p : BlockAt → Bool) (b : BlockAt) (bs : List BlockAt) → IsIn b bs → list_all p bs ≡ true → p b ≡ true
of_all p b [] i h = absurd i
of_all p b (c ∷ bs) (inl e) h = ap p (sym e) ∙ and_left _ _ h
of_all p b (c ∷ bs) (inr i) h = of_all p b bs i (and_right _ _ h)

pub for_all : (p : BlockAt → Bool) (bs : List BlockAt) → ((b : BlockAt) → IsIn b bs → p b ≡ true) → list_all p bs ≡ true
for_all p [] h = refl
for_all p (b ∷ bs) h = and_both _ _ (h b (inl refl)) (for_all p bs (λ c i. h c (inr i)))

pub in_left : (b : BlockAt) (xs ys : List BlockAt) → IsIn b xs → IsIn b (xs ++ ys)
in_left b [] ys i = absurd i
in_left b (x ∷ xs) ys (inl e) = inl e
in_left b (x ∷ xs) ys (inr i) = inr (in_left b xs ys i)

pub in_right : (b : BlockAt) (xs ys : List BlockAt) → IsIn b ys → IsIn b (xs ++ ys)
in_right b [] ys i = i
in_right b (x ∷ xs) ys i = inr (in_right b xs ys i)

pub in_either : (b : BlockAt) (xs ys : List BlockAt) → IsIn b (xs ++ ys) → IsIn b xs ⊎ IsIn b ys
in_either b [] ys i = inr i
in_either b (x ∷ xs) ys (inl e) = inl (inl e)
in_either b (x ∷ xs) ys (inr i) = elim (in_either b xs ys i) [
  | inl j ↦ inl (inr j)
  | inr j ↦ inr j
]

pub in_flat : (f : BlockAt → List BlockAt) (b c : BlockAt) (bs : List BlockAt) → IsIn c bs → IsIn b (f c) → IsIn b (flat_map f bs)
in_flat f b c [] i j = absurd i
in_flat f b c (d ∷ bs) (inl e) j = in_left b (f d) (flat_map f bs) (subst (λ u. IsIn b (f u)) (sym e) j)
in_flat f b c (d ∷ bs) (inr i) j = in_right b (f d) (flat_map f bs) (in_flat f b c bs i j)

pub from_flat : (f : BlockAt → List BlockAt) (b : BlockAt) (bs : List BlockAt) → IsIn b (flat_map f bs) → (c : BlockAt) × IsIn c bs × IsIn b (f c)
from_flat f b [] i = absurd i
from_flat f b (c ∷ bs) i = elim (in_either b (f c) (flat_map f bs) i) [
  | inl j ↦ (c, inl refl, j)
  | inr j ↦ let rest = from_flat f b bs j in (rest.0, inr rest.1, rest.2)
]

pub all_three : (a b c : Bool) → (a && b && c) ≡ true → (a ≡ true) × (b ≡ true) × (c ≡ true)
all_three true true true h = (refl, refl, refl)
all_three false b c h = cc
all_three true false c h = cc
all_three true true false h = cc

pub all_four : (a b c d : Bool) → (a && b && c && d) ≡ true → (a ≡ true) × (b ≡ true) × (c ≡ true) × (d ≡ true)
all_four true true true true h = (refl, refl, refl, refl)
all_four false b c d h = cc
all_four true false c d h = cc
all_four true true false d h = cc
all_four true true true false h = cc
