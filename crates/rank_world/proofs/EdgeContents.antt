-- The numbers on edges that a world's leaves have are those that its leaves hold.
use Rattle.std.proofs.Common.{◌≡◌, ℕ, zero, suc, ◌+◌, ◌*◌, ◌/◌, ◌%◌, ◌<◌, ◌≤◌, Bool, true, false, ◌&&◌, ◌||◌, not, ℤ, pos, refl, sym, ap, ap₂, ◌∙◌, arith, inl, inr, Option, Some, None}
use Rattle.std.specs.Prelude.{if◌then◌else◌, nat_lt}
use Rattle.std.specs.List.{list_any}
use Rattle.std.proofs.lemmas.Bool.{and_parts, cases_Bool, lt-ltb}
use Rattle.amr_num.specs.declared.Axis.{Axis}
use Rattle.amr_num.specs.declared.Axis.TheVariants.{X, Y, Z}
use Rattle.amr_num.specs.declared.CellAt.{CellAt}
use Rattle.amr_num.specs.declared.EdgeAt.{EdgeAt}
use Rattle.mesh_model.specs.Geometry.Canonical.{canonical_edge, is_canonical_edge}
use Rattle.mesh_model.specs.Geometry.Coordinates.{edge_numbers, edge_of, extent, is_periodic, next, on, round_edge, wrapped}
use Rattle.mesh_model.specs.Geometry.Places.{in_block, longer_across}
use Rattle.mesh_model.specs.Tree.Kinds.{Grid, block_of, holds, is_leaf, is_leaf_edge, is_split_edge}
use Rattle.mesh_model.specs.Tree.Order.{Sorted}
use Rattle.mesh_model.specs.Tree.ValidGrid.{Valid}
use Rattle.mesh_model.specs.Fields.Plain.{on_edges}
use Rattle.mesh_model.specs.Fields.Ranks.{WorldState}
use Rattle.mesh_model.specs.Fields.Views.{edge_view}
use Rattle.mesh_model.proofs.FieldLemmas.CellKinds.{kinds_of_tiles, wide_of}
use Rattle.mesh_model.proofs.FieldLemmas.EdgeSums as edges
use Rattle.mesh_model.proofs.FieldLemmas.Slots.{four_failed}
use Rattle.mesh_model.proofs.FieldLemmas.Walking.{across, canonical_across, first_end, from_cell, holds_some, moved_twice_is, own_place, place_at, second_end, step_of, step_small}
use Rattle.mesh_model.proofs.GeometryLemmas.ShapeLimits.{cells_some}
use Rattle.mesh_model.proofs.TreeLemmas.Tests.{and_left}
use Rattle.rank_world.specs.Contents.{at_cell, at_leaf_or, cell_round, edge_in, edges_of, node_of, on_rim, rim}
use Rattle.rank_world.specs.Holding.{LeavesHoldEdges}
use Rattle.rank_world.proofs.Contents.{along, leaf_of_number}

no_step : (x : ℕ) → x + 0 ≡ x
no_step x = omega arith

-- a place of the block of a cell, with steps on the axes across
place_across : (n : ℕ) (a : Axis) (o r : ℕ) (c : CellAt) → 0 < n → let m = rim a o r in
    in_block n (block_of n c) (c.x % n + m.x) (c.y % n + m.y) (c.z % n + m.z) ≡ across a (on (next a) c + o) (on (next (next a)) c + r) c
place_across n X o r c some = λ i. record { level = c.level; x = (place_at n c.x 0 ∙ no_step c.x) i; y = place_at n c.y o i; z = place_at n c.z r i }
place_across n Y o r c some = λ i. record { level = c.level; x = place_at n c.x r i; y = (place_at n c.y 0 ∙ no_step c.y) i; z = place_at n c.z o i }
place_across n Z o r c some = λ i. record { level = c.level; x = place_at n c.x o i; y = place_at n c.y r i; z = (place_at n c.z 0 ∙ no_step c.z) i }

-- and it is one of the places of the block's edges
edge_place : (a : Axis) (o r n : ℕ) (c : CellAt) → o ≤ 1 → r ≤ 1 → 0 < n → let m = rim a o r in
    (c.x % n + m.x < longer_across a X n) × (c.y % n + m.y < longer_across a Y n) × (c.z % n + m.z < longer_across a Z n)
edge_place X o r n c first second some = omega (arith, first, second, some)
edge_place Y o r n c first second some = omega (arith, first, second, some)
edge_place Z o r n c first second some = omega (arith, first, second, some)

module _ (w : WorldState) (valid : Valid w.told.grid) (order : Sorted w.told.grid.leaves) where
  abbrev g : Grid
  g = w.told.grid

  some : 0 < g.shape.n
  some = cells_some valid.shape

  -- a leaf edge is seen as its number
  pub view_of_leaf_edge : (field : EdgeAt → ℤ) (e : EdgeAt) → is_leaf_edge g e ≡ true → edge_view g field e ≡ field e
  unfolding is_leaf_edge
  view_of_leaf_edge field e leaf = edges.view_leaf g (kinds_of_tiles g valid.tiles valid.shape).tree (wide_of g.shape valid.shape) field e (not_true (is_split_edge g e) (and_parts _ _ leaf).1) leaf
    where
      not_true : (b : Bool) → not b ≡ true → b ≡ false
      not_true true h = absurd cc
      not_true false h = refl

  module _ (field : EdgeAt → ℤ) (holds_it : LeavesHoldEdges false w field) where
    -- on an edge of a leaf cell stands the view there
    on_rim_is : (a : Axis) (o r : ℕ) (c : CellAt) → o ≤ 1 → r ≤ 1 → is_leaf g c ≡ true →
        on_rim w a o r c ≡ edge_view g field (canonical_edge g.shape (edge_of a (across a (on (next a) c + o) (on (next (next a)) c + r) c)))
    unfolding on_rim
    on_rim_is a o r c first second leaf =
        let n = g.shape.n in
        let m = rim a o r in
        let b = block_of n c in
        let node = leaf_of_number g valid order b leaf in
        let inside = edge_place a o r n c first second some in
        (holds_it (node_of g b) node.0 a).at (c.x % n + m.x) (c.y % n + m.y) (c.z % n + m.z) inside.0 inside.1 inside.2
        ∙ ap (λ d. edge_view g field (canonical_edge g.shape (edge_of a (in_block n d (c.x % n + m.x) (c.y % n + m.y) (c.z % n + m.z))))) node.1
        ∙ ap (λ d. edge_view g field (canonical_edge g.shape (edge_of a d))) (place_across n a o r c some)

    module _ (e : EdgeAt) (h : (is_canonical_edge g.shape e && is_leaf_edge g e) ≡ true) where
      -- in one of the cells round an edge that is a leaf cell it has its view
      round_is : (low low' : Bool) → holds (is_leaf g) (cell_round g.shape e low low') ≡ true →
          at_cell (on_rim w e.axis (step_of g e valid.shape h low) (step_of g e valid.shape h low')) (cell_round g.shape e low low') ≡ edge_view g field e
      round_is low low' t =
          let a = e.axis in
          let o = step_of g e valid.shape h low in
          let r = step_of g e valid.shape h low' in
          let cell = holds_some (is_leaf g) (cell_round g.shape e low low') t in
          let at = moved_twice_is (next a) (next (next a)) _ _ (edge_numbers e) cell.0 cell.1 in
          ap (at_cell (on_rim w a o r)) cell.1
          ∙ ap (on_rim w a o r) (sym at.4)
          ∙ on_rim_is a o r (across a at.0 at.1 (edge_numbers e)) (step_small g e valid.shape h low) (step_small g e valid.shape h low') (ap (is_leaf g) at.4 ∙ cell.2)
          ∙ ap (edge_view g field) (
          ap (λ d. canonical_edge g.shape (edge_of a d)) (from_cell a at.0 at.1 o r (edge_numbers e))
          ∙ canonical_across g.shape a (at.0 + o) (at.1 + r) (edge_numbers e)
          ∙ ap₂ (λ u v. edge_of a (across a u v (edge_numbers e))) (first_end g e valid.shape h low at.0 at.2) (second_end g e valid.shape h low' at.1 at.3)
          ∙ ap (edge_of a) (own_place a (edge_numbers e)))

      -- the first of them, where one is
      first_of : (p : Bool) (v other wanted : ℤ) → (p ≡ true → v ≡ wanted) → (p ≡ false → other ≡ wanted) → (if p then v else other) ≡ wanted
      first_of true v other wanted here there = here refl
      first_of false v other wanted here there = there refl

      one_is : list_any (holds (is_leaf g)) (round_edge g.shape e) ≡ true
      unfolding is_leaf_edge
      one_is = (and_parts _ _ (and_parts _ _ h).1).0

      pub edge_in_is : edge_in w e ≡ edge_view g field e
      unfolding edge_in
      edge_in_is =
          first_of _ _ _ _ (round_is true true) (λ a.
          first_of _ _ _ _ (round_is false true) (λ b.
          first_of _ _ _ _ (round_is true false) (λ c.
          first_of _ _ _ _ (round_is false false) (λ d. absurd (let nowhere = four_failed _ _ _ _ a b c d in let one = one_is in cc)))))

    -- the leaves hold no other field that is 0 off the leaf edges
    pub edges_are : 0 < w.told.counts.edges → ((e : EdgeAt) → (is_canonical_edge g.shape e && is_leaf_edge g e) ≡ false → field e ≡ pos 0) → (e : EdgeAt) → edges_of w e ≡ field e
    edges_are some_edge off e = ap (λ t. if t then on_edges g (edge_in w) e else pos 0) (lt-ltb 0 w.told.counts.edges some_edge) ∙ elim (cases_Bool (is_canonical_edge g.shape e && is_leaf_edge g e)) [
      | inr other ↦ ap (λ t. if t then edge_in w e else pos 0) other ∙ sym (off e other)
      | inl both ↦ ap (λ t. if t then edge_in w e else pos 0) both ∙ edge_in_is e both ∙ view_of_leaf_edge field e (and_parts _ _ both).1
    ]

-- where there is no edge variable the numbers are 0
pub no_edges : (w : WorldState) → w.told.counts.edges ≡ 0 → (e : EdgeAt) → edges_of w e ≡ pos 0
no_edges w none e = ap (λ n. if nat_lt 0 n then on_edges w.told.grid (edge_in w) e else pos 0) none
