-- Lists that loops make.
use Rattle.std.proofs.Common.{◌≡◌, ℕ, zero, suc, ◌+◌, ◌<◌, ◌≤◌, Bool, true, false, refl, sym, ap, ◌∙◌, arith, inl, inr, List, [], ◌∷◌, ◌++◌, append_assoc, length, take, filter, length-append, add-one}
use Rattle.std.specs.Prelude.{flat_map}
use Rattle.std.specs.List.{range_with_len}
use Rattle.std.proofs.lemmas.Bool.{cases_Bool}
use Rattle.std.proofs.lemmas.List.{append-nil, take_more}
use Rattle.std.proofs.lemmas.List.Elements.{filter-append}
use Rattle.std.proofs.lemmas.Grind.{flat_map-append}
use Rattle.amr_num.specs.declared.BlockAt.{BlockAt}
use Rattle.block_tree.specs.Numbered.{block_in}

-- ---- lists by numbers

flat_from : (f : ℕ → List BlockAt) (a n : ℕ) → flat_map f (range_with_len a (suc n)) ≡ flat_map f (range_with_len a n) ++ f (a + n)
flat_from f a zero = append-nil (f a) ∙ ap f (omega arith)
flat_from f a (suc n) =
    let same : (a + 1) + n ≡ a + suc n = omega arith in
    ap (λ u. f a ++ u) (flat_from f (a + 1) n ∙ ap (λ k. flat_map f (range_with_len (a + 1) n) ++ f k) same)
    ∙ sym (append_assoc (f a) (flat_map f (range_with_len (a + 1) n)) (f (a + suc n)))

pub flat_more : (f : ℕ → List BlockAt) (n : ℕ) → flat_map f (range_with_len 0 (n + 1)) ≡ flat_map f (range_with_len 0 n) ++ f n
flat_more f n =
    ap (λ k. flat_map f (range_with_len 0 k)) (add-one n) ∙ flat_from f 0 n
    ∙ ap (λ k. flat_map f (range_with_len 0 n) ++ f k) (omega arith)

-- ---- what passes among the first blocks

pub passed_more : (p : BlockAt → Bool) (all : List BlockAt) (i : ℕ) → i < length all → length (filter p (take (i + 1) all)) ≡ length (filter p (take i all)) + length (filter p (block_in all i ∷ []))
passed_more p all i h =
    ap (λ u. length (filter p u)) (take_more all i (record { level = 0; x = 0; y = 0; z = 0 }) h)
    ∙ ap (λ (u : List BlockAt). length u) (filter-append p (take i all) (block_in all i ∷ []))
    ∙ length-append (filter p (take i all)) (filter p (block_in all i ∷ []))

pub passed_few : (p : BlockAt → Bool) (all : List BlockAt) (i : ℕ) → length (filter p (take i all)) ≤ i
passed_few p all zero = omega arith
passed_few p [] (suc i) = omega arith
passed_few p (b ∷ bs) (suc i) =
    let rest = passed_few p bs i in
    elim (cases_Bool (p b)) [
      | inl t ↦ rw t (omega arith)
      | inr f ↦ rw f (omega arith)
    ]

pub one_more : (p : BlockAt → Bool) (b : BlockAt) → p b ≡ true → length (filter p (b ∷ [])) ≡ 1
one_more p b t = rw t refl

pub none_more : (p : BlockAt → Bool) (b : BlockAt) → p b ≡ false → length (filter p (b ∷ [])) ≡ 0
none_more p b f = rw f refl

-- ---- what each of the first blocks gives

pub flat_take : (f : BlockAt → List BlockAt) (all : List BlockAt) (i : ℕ) → i < length all → flat_map f (take (i + 1) all) ≡ flat_map f (take i all) ++ f (block_in all i)
flat_take f all i h =
    ap (flat_map f) (take_more all i (record { level = 0; x = 0; y = 0; z = 0 }) h)
    ∙ flat_map-append f (take i all) (block_in all i ∷ [])
    ∙ ap (λ u. flat_map f (take i all) ++ u) (append-nil (f (block_in all i)))
