-- Lists over the numbers of nodes are lists over nodes, and over leaves.
use Rattle.std.proofs.Common.{◌≡◌, ℕ, zero, suc, ◌+◌, ◌≤◌, Bool, if◌then◌else◌, inl, inr, List, [], ◌∷◌, ◌++◌, length, get_or, take, refl, sym, ap, ap₂, ◌∙◌, arith, append-nil, add-zero, zero-add, take_all}
use Rattle.std.proofs.Math.Seq.{take-suc}
use Rattle.std.proofs.lemmas.Bool.{cases_Bool}
use Rattle.std.proofs.lemmas.Grind.{flat_map-append}
use Rattle.std.specs.Prelude.{filter, flat_map}
use Rattle.std.specs.List.{range_with_len}
use Rattle.amr_num.specs.declared.BlockAt.{BlockAt}
use Rattle.block_tree.specs.Numbered.{block_at}
use Rattle.block_tree.proofs.Leaves.{leaves_are}
use Rattle.mesh_model.specs.Tree.Order.{nodes}
use Rattle.mesh_model.specs.Tree.Kinds.{Grid, is_leaf_block}
use Rattle.mesh_model.specs.Tree.ValidGrid.{Valid}

pub range_apart : (a m k : ℕ) → range_with_len a (m + k) ≡ range_with_len a m ++ range_with_len (a + m) k
range_apart a zero k = ap₂ range_with_len (sym (add-zero a)) (zero-add k)
range_apart a (suc m) k =
    let e : suc m + k ≡ suc (m + k) = omega arith in
    let h : a + 1 + m ≡ a + suc m = omega arith in
    ap (range_with_len a) e ∙ ap (λ r. a ∷ r) (range_apart (a + 1) m k ∙ ap (λ b. range_with_len (a + 1) m ++ range_with_len b k) h)

-- one more place
pub flat_next : {A : Type 0} (f : ℕ → List A) (j : ℕ) → flat_map f (range_with_len 0 (j + 1)) ≡ flat_map f (range_with_len 0 j) ++ f j
flat_next f j = ap (flat_map f) (range_apart 0 j 1) ∙ flat_map-append f (range_with_len 0 j) (range_with_len (0 + j) 1) ∙ ap₂ (λ k t. flat_map f (range_with_len 0 j) ++ (f k ++ t)) (zero-add j) refl ∙ ap (λ t. flat_map f (range_with_len 0 j) ++ t) (append-nil (f j))

-- what is made of the first n items by their places
flat_taken : {A : Type 0} (h : A → List ℕ) (d : A) (xs : List A) (n : ℕ) → n ≤ length xs → flat_map (λ p. h (get_or xs p d)) (range_with_len 0 n) ≡ flat_map h (take n xs)
flat_taken h d xs zero few = refl
flat_taken h d xs (suc n) few =
    let next : suc n ≡ n + 1 = omega arith in
    ap (λ m. flat_map (λ p. h (get_or xs p d)) (range_with_len 0 m)) next
    ∙ flat_next (λ p. h (get_or xs p d)) n
    ∙ ap₂ (λ (a b : List ℕ). a ++ b) (flat_taken h d xs n (omega arith)) (sym (append-nil (h (get_or xs n d))))
    ∙ sym (ap (flat_map h) (take-suc xs n d (omega arith)) ∙ flat_map-append h (take n xs) (get_or xs n d ∷ []))

pub flat_by_place : {A : Type 0} (h : A → List ℕ) (d : A) (xs : List A) → flat_map (λ p. h (get_or xs p d)) (range_with_len 0 (length xs)) ≡ flat_map h xs
flat_by_place h d xs = flat_taken h d xs (length xs) (omega arith) ∙ ap (flat_map h) (take_all (length xs) xs (omega arith))

-- what is made of the items that pass
flat_passed : {A : Type 0} (p : A → Bool) (f : A → List ℕ) (xs : List A) → flat_map (λ x. if p x then f x else []) xs ≡ flat_map f (filter p xs)
flat_passed p f [] = refl
flat_passed p f (x ∷ xs) = elim (cases_Bool (p x)) [
  | inl t ↦ rw t (ap (λ s. f x ++ s) (flat_passed p f xs))
  | inr fails ↦ rw fails (flat_passed p f xs)
]

-- what is made of the leaves
pub leaves_by_number : (g : Grid) → Valid g → (f : BlockAt → List ℕ) → flat_map (λ node. if is_leaf_block g (block_at g node) then f (block_at g node) else []) (range_with_len 0 (length (nodes g.leaves))) ≡ flat_map f g.leaves
unfolding block_at
leaves_by_number g valid f =
    flat_by_place (λ b. if is_leaf_block g b then f b else []) (record { level = 0; x = 0; y = 0; z = 0 }) (nodes g.leaves)
    ∙ flat_passed (is_leaf_block g) f (nodes g.leaves)
    ∙ ap (flat_map f) (leaves_are g valid)
