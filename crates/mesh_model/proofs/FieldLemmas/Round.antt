-- The edges at even positions beside an edge that is no leaf edge and not split are not split.
use Rattle.std.proofs.Common.{◌≡◌, ℕ, suc, ◌-◌, ◌/◌, ◌%◌, ◌<◌, ◌≤◌, ◌⊎◌, Bool, true, false, ◌&&◌, not, refl, sym, ap, ap₂, ◌∙◌, arith, inl, inr, Some, None, mul_comm}
use Rattle.std.proofs.Math.Nat.{div-div-eq-div-mul}
use Rattle.std.proofs.lemmas.Bool.{cases_lt, le-ltb}
use Rattle.std.specs.List.{list_any}
use Rattle.amr_num.specs.declared.Axis.{Axis}
use Rattle.amr_num.specs.declared.Axis.TheVariants.{X, Y, Z}
use Rattle.amr_num.specs.declared.CellAt.{CellAt}
use Rattle.amr_num.specs.declared.EdgeAt.{EdgeAt}
use Rattle.mesh_model.specs.declared.geometry.Shape.{Shape}
use Rattle.mesh_model.specs.Geometry.Coordinates.{parent_cell, edge_of, edge_numbers, below, above, wrapped, moved_twice, round_edge, with, on, next, extent, is_periodic, Inside, EdgeInside}
use Rattle.mesh_model.specs.Tree.Kinds.{Grid, block_of, is_leaf, holds, is_split_edge, is_leaf_edge}
use Rattle.mesh_model.specs.Tree.ValidGrid.{Valid}
use Rattle.mesh_model.proofs.FieldLemmas.Slots.{four_fail, extent_double}
use Rattle.mesh_model.proofs.TreeLemmas.Tests.{refuted}
use Rattle.mesh_model.proofs.TreeLemmas.Tiling.{IsChild}
use Rattle.mesh_model.proofs.FieldLemmas.Beside.{above_in, above_out, three}

-- ---- the cells beside a position

abbrev pub Has : Bool → ℕ → ℕ → ℕ → Type 0
Has p e q r = (below p e q ≡ Some r) ⊎ (above p e q ≡ Some r)

above_past : (p : Bool) (e q r : ℕ) → e ≤ q → above p e q ≡ Some r → r ≡ 0
above_past true e q r le h = let same : Some r ≡ Some 0 = sym h ∙ rw (le-ltb q e le) refl in cc
above_past false e q r le h = let none : Some r ≡ None = sym h ∙ above_out e q le in cc

pub above_is : (p : Bool) (e q r : ℕ) → above p e q ≡ Some r → ((r ≡ q) × (q < e)) ⊎ ((r ≡ 0) × (e ≤ q))
above_is p e q r h = elim (cases_lt q e) [
  | inl lt ↦ let same : Some r ≡ Some q = sym h ∙ above_in p e q lt in inl (cc, lt)
  | inr le ↦ inr (above_past p e q r le h, le)
]

-- an even position beside q, or q itself
pub record Beside (p : Bool) (e q r : ℕ) : Type 0 where
  pub even : r % 2 ≡ 0
  pub here : (r ≡ q) ⊎ ((q < e) × ((suc r ≡ q) ⊎ (r ≡ wrapped p e (suc q))))

-- ---- the cells round an edge

-- the cell at r and t on the axes across a
abbrev pub across : Axis → ℕ → ℕ → CellAt → CellAt
across a r t c = with (next (next a)) t (with (next a) r c)

module _ (s : Shape) (e : EdgeAt) (test : CellAt → Bool) where
  -- what fails of the cells round an edge fails of each that is there
  pub round_fails : list_any (holds test) (round_edge s e) ≡ false → (r t : ℕ) → Has (is_periodic s (next e.axis)) (extent s (next e.axis) e.level) (on (next e.axis) (edge_numbers e)) r → Has (is_periodic s (next (next e.axis))) (extent s (next (next e.axis)) e.level) (on (next (next e.axis)) (edge_numbers e)) t → test (across e.axis r t (edge_numbers e)) ≡ false
  round_fails h r t hr ht =
      let f = four_fail _ _ _ _ h in
      elim hr [
        | inl br ↦ elim ht [
          | inl bt ↦ ap₂ (λ u w. holds test (moved_twice (next e.axis) u (next (next e.axis)) w (edge_numbers e))) (sym br) (sym bt) ∙ f.0
          | inr at ↦ ap₂ (λ u w. holds test (moved_twice (next e.axis) u (next (next e.axis)) w (edge_numbers e))) (sym br) (sym at) ∙ f.2
        ]
        | inr ar ↦ elim ht [
          | inl bt ↦ ap₂ (λ u w. holds test (moved_twice (next e.axis) u (next (next e.axis)) w (edge_numbers e))) (sym ar) (sym bt) ∙ f.1
          | inr at ↦ ap₂ (λ u w. holds test (moved_twice (next e.axis) u (next (next e.axis)) w (edge_numbers e))) (sym ar) (sym at) ∙ f.3
        ]
      ]

-- an edge moved across its axis
abbrev pub shifted : EdgeAt → ℕ → ℕ → EdgeAt
shifted e r t = edge_of e.axis (across e.axis r t (edge_numbers e))

pub shifted_first : (a : Axis) (r t : ℕ) (n : CellAt) → on (next a) (across a r t n) ≡ r
shifted_first X r t n = refl
shifted_first Y r t n = refl
shifted_first Z r t n = refl

pub shifted_second : (a : Axis) (r t : ℕ) (n : CellAt) → on (next (next a)) (across a r t n) ≡ t
shifted_second X r t n = refl
shifted_second Y r t n = refl
shifted_second Z r t n = refl

pub across_level : (a : Axis) (r t : ℕ) (n : CellAt) → (across a r t n).level ≡ n.level
across_level X r t n = refl
across_level Y r t n = refl
across_level Z r t n = refl

half_inside : (s : Shape) (a : Axis) (l m p : ℕ) → m ≡ suc l → p < extent s a m → p / 2 < extent s a l
half_inside s a l m p e h = let double = ap (λ k. extent s a k) e ∙ extent_double s a l in omega arith

pub parent_inside : (s : Shape) (l : ℕ) (c : CellAt) → c.level ≡ suc l → Inside s c → Inside s (parent_cell c)
parent_inside s l c e i =
    let level : c.level ≡ suc (c.level - 1) = omega arith in
    three _ (half_inside s X _ _ c.x level (i X)) (half_inside s Y _ _ c.y level (i Y)) (half_inside s Z _ _ c.z level (i Z))

turned : (x n : ℕ) → x / n / 2 ≡ x / 2 / n
turned x n = div-div-eq-div-mul x n 2 ∙ ap (λ k. x / k) (mul_comm n 2) ∙ sym (div-div-eq-div-mul x 2 n)

pub parent_block_of : (n l : ℕ) (c : CellAt) → c.level ≡ suc l → IsChild (block_of n c) (block_of n (parent_cell c))
parent_block_of n l c e = record { level = omega arith; x = turned c.x n; y = turned c.y n; z = turned c.z n }

module _ (g : Grid) (valid : Valid g) (l : ℕ) (e : EdgeAt) (deep : e.level ≡ suc l) (i : EdgeInside g.shape e) (whole : is_split_edge g e ≡ false) (no_leaf : is_leaf_edge g e ≡ false) where
  no_leaf_round : list_any (holds (is_leaf g)) (round_edge g.shape e) ≡ false
  unfolding is_leaf_edge
  no_leaf_round = refuted _ (λ t.
      let leaf : is_leaf_edge g e ≡ true = ap₂ (λ a b. a && not b) t whole in
      cc)
