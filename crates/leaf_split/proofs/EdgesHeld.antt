-- Edges of a child of a leaf: parts of its boundary that are kept, and edges that are split from its parent's.
use Rattle.std.proofs.Common.{◌≡◌, ℕ, zero, suc, ◌+◌, ◌*◌, ◌/◌, ◌%◌, ◌^◌, ◌<◌, ◌≤◌, Bool, true, false, not, ◌&&◌, ◌||◌, List, ℤ, Option, Some, None, refl, sym, ap, ap₂, subst, ◌∙◌, arith, inl, eqb-true}
use Rattle.std.proofs.lemmas.Bool.{and_parts}
use Rattle.amr_num.specs.Numbers.{Within, number_range}
use Rattle.amr_num.specs.declared.Axis.{Axis}
use Rattle.amr_num.specs.declared.Axis.TheVariants.{X, Y, Z}
use Rattle.amr_num.specs.declared.BlockAt.{BlockAt}
use Rattle.amr_num.specs.declared.EdgeAt.{EdgeAt}
use Rattle.mesh_model.specs.Geometry.Blocks.{InDomain, child_block}
use Rattle.mesh_model.specs.Geometry.Coordinates.{half_edge, is_periodic, next, roots}
use Rattle.mesh_model.specs.Geometry.Places.{longer_across}
use Rattle.mesh_model.specs.Geometry.Touch.{block_on, high_end, low_end}
use Rattle.mesh_model.specs.Tree.Kinds.{Grid, is_leaf_block, is_leaf_edge, is_split_block, is_split_edge}
use Rattle.mesh_model.specs.Tree.ValidGrid.{Valid}
use Rattle.mesh_model.specs.Fields.ArrayPlaces.{HoldsEdges, edge_extents}
use Rattle.mesh_model.specs.Fields.EdgeSplits.{AreEdgesSplit, EdgeSourcesAreSmall, KeptEdgesHold, OtherEdgesLieInside, all_edges, are_even, edge_direction, is_boundary_edge, is_kept_edge}
use Rattle.mesh_model.specs.Fields.FaceSplits.{is_kept, position}
use Rattle.mesh_model.specs.Fields.FinePlaces.{edges_in}
use Rattle.mesh_model.specs.Fields.Octants.{half_at}
use Rattle.mesh_model.specs.Fields.Ranks.{IsSized, WorldState}
use Rattle.mesh_model.specs.Fields.Views.{edge_view, is_even}
use Rattle.mesh_model.proofs.FieldLemmas.Beside.{three}
use Rattle.mesh_model.proofs.FieldLemmas.CellKinds.{wide_of}
use Rattle.mesh_model.proofs.FieldLemmas.EdgeSums.{leaf_half, view_leaf}
use Rattle.mesh_model.proofs.FieldLemmas.ValidGrid.{tree}
use Rattle.mesh_model.proofs.GeometryLemmas.ShapeLimits.{cells_some}
use Rattle.mesh_model.proofs.TreeLemmas.Levels.{calm_block, is_child}
use Rattle.mesh_model.proofs.TreeLemmas.Tests.{refuted}
use Rattle.mesh_model.proofs.TreeLemmas.Tiling.{IsChild, child_is_no_leaf, child_of_whole, leaf_says}
use Rattle.mesh_model.proofs.TreeLemmas.Touching.{Meet, Touch}
use Rattle.block_tree.specs.Directions.{AreParts, along, block_toward, edge_name, has_edges, lies_round, lies_toward, passes, toward_on}
use Rattle.block_tree.specs.Numbered.{block_at}
use Rattle.block_tree.specs.declared.directions.Direction.{Direction}
use Rattle.block_tree.proofs.RoundEdges.{direction_few, direction_is, leaf_edge_of_leaf, leaf_edge_of_other, whole_edge}
use Rattle.block_tree.proofs.SideAxes.{ends_meet, neighbours}
use Rattle.prolong_op.proofs.EdgeChildren.{children_split, not_kept}
use Rattle.prolong_op.proofs.EdgeNames.{even_half}
use Rattle.prolong_op.proofs.Lines.{above_in_block, edge_lines, edges_of}
use Rattle.rank_world.specs.Holding.{IsLeafNode, IsOfValidMesh, LeavesHoldEdges, edge_array}
use Rattle.leaf_split.specs.EdgeKeeps.{KeptPartsHold, part_of}
use Rattle.leaf_split.proofs.EdgeParts.{three_there}
use Rattle.leaf_split.proofs.Keeps.{leaf_whole_block}
use Rattle.leaf_split.proofs.SideLeaves.{side_by_side}

-- ---- blocks round a child of a block that is not split

meet_toward : (p : Bool) (t e b d : ℕ) → b < e → toward_on p t e b ≡ Some d → Meet p e b (suc b) d (suc d)
meet_toward p zero e b d inside is = side_by_side p false e b d (neighbours p false e b d inside is)
meet_toward p (suc zero) e b d inside is = let same : b ≡ d = cc in inl (omega arith, omega arith)
meet_toward p (suc (suc t)) e b d inside is = side_by_side p true e b d (neighbours p true e b d inside is)

not_one : (h a b c d : Bool) → a ≡ false → b ≡ false → c ≡ false → d ≡ false → (h && (((a || b) || c) || d)) ≡ false
not_one true a b c d p q r t = rw (p, q, r, t) refl
not_one false a b c d p q r t = refl

module _ (g : Grid) (valid : Valid g) (b c : BlockAt) (child : IsChild c b) (whole : is_split_block g b ≡ false) (domain : InDomain g.shape b) (inside : InDomain g.shape c) where
  calm_there : (t : Direction) (o : Option BlockAt) → block_toward g.shape t c ≡ o → passes (is_split_block g) o ≡ false
  unfolding block_toward
  calm_there t None is = refl
  calm_there t (Some d) is =
      let there = three_there c.level (along g.shape X t.x c) (along g.shape Y t.y c) (along g.shape Z t.z c) d is in
      let level = there.0 in
      let near = λ (h : d.level ≤ 10).
      let low : c.level ≤ 10 = omega arith in
      let ends = λ (a : Axis) (w : ℕ) (meet : Meet (is_periodic g.shape a) (roots g.shape a * 2 ^ c.level) (block_on a c) (suc (block_on a c)) w (suc w)).
      subst (λ l. Meet (is_periodic g.shape a) (roots g.shape a * 2 ^ 10) (low_end c.level (block_on a c)) (high_end c.level (block_on a c)) (low_end l w) (high_end l w)) (sym level)
      (ends_meet (is_periodic g.shape a) (roots g.shape a) c.level (block_on a c) w low meet) in
      let touch : Touch g.shape c d = record {
        on = three _ (ends X d.x (meet_toward (is_periodic g.shape X) t.x (g.shape.rx * 2 ^ c.level) c.x d.x inside.x there.1))
            (ends Y d.y (meet_toward (is_periodic g.shape Y) t.y (g.shape.ry * 2 ^ c.level) c.y d.y inside.y there.2))
            (ends Z d.z (meet_toward (is_periodic g.shape Z) t.z (g.shape.rz * 2 ^ c.level) c.z d.z inside.z there.3));
      } in
      touch in
      calm_block g valid.tiles valid.shape.max valid.rule c d b child whole domain level near

  calm_toward : (t : Direction) → lies_toward g false c t ≡ false
  unfolding lies_toward
  calm_toward t = calm_there t (block_toward g.shape t c) refl

  -- no finer blocks lie round its edges
  pub calm_round : (t : Direction) → lies_round g false c t ≡ false
  unfolding lies_round
  calm_round t = not_one (has_edges t) _ _ _ _ (calm_toward t) (calm_toward (record t { x = 1 })) (calm_toward (record t { y = 1 })) (calm_toward (record t { z = 1 }))

-- ---- a child of a leaf

module _ (w : WorldState) (of : IsOfValidMesh w) (declared : 0 < w.told.counts.edges) (b : BlockAt) (q kept : ℕ) (xs : Axis → List ℤ)
    (leaf : is_leaf_block w.told.grid b ≡ true) (domain : InDomain w.told.grid.shape b) (inside : InDomain w.told.grid.shape (child_block b q))
    (parts : AreParts w.told.grid true (child_block b q) 27 kept) (views : KeptPartsHold w (child_block b q) 27 xs) where
  abbrev g : Grid
  g = w.told.grid

  abbrev c : BlockAt
  c = child_block b q

  valid : Valid w.told.grid
  valid = subst Valid (sym of.world.grid) of.valid.grid

  some : 0 < w.told.grid.shape.n
  some = cells_some valid.shape

  whole : is_split_block w.told.grid b ≡ false
  whole = leaf_whole_block w.told.grid valid b leaf

  whole_child : is_split_block w.told.grid (child_block b q) ≡ false
  whole_child = child_of_whole w.told.grid (child_block b q) b (is_child b q) whole

  module _ (a : Axis) (i j k : ℕ) (hi : i < longer_across a X w.told.grid.shape.n) (hj : j < longer_across a Y w.told.grid.shape.n) (hk : k < longer_across a Z w.told.grid.shape.n) where
    -- no edge of the child is split
    calm : is_split_edge w.told.grid (edge_name w.told.grid.shape a (child_block b q) i j k) ≡ false
    calm = whole_edge g c some inside a i j k hi hj hk whole_child ∙ calm_round g valid b c (is_child b q) whole domain inside (part_of g.shape.n a i j k)

    -- it is a leaf edge where its part is kept
    bit_is : is_leaf_edge w.told.grid (edge_name w.told.grid.shape a (child_block b q) i j k) ≡ is_kept kept (edge_direction w.told.grid.shape.n a i j k)
    bit_is =
        leaf_edge_of_other g c some inside a i j k hi hj hk (child_is_no_leaf g c b (is_child b q) whole) calm
        ∙ ap (lies_round g true c) (sym (direction_is g.shape.n some a i j k hi hj hk))
        ∙ sym (parts.each (edge_direction g.shape.n a i j k) (direction_few g.shape.n some a i j k hi hj hk))

    is_leaf_kept : is_kept_edge w.told.grid.shape.n kept a i j k ≡ true → is_leaf_edge w.told.grid (edge_name w.told.grid.shape a (child_block b q) i j k) ≡ true
    is_leaf_kept stays = bit_is ∙ (and_parts (is_boundary_edge g.shape.n a i j k) (is_kept kept (edge_direction g.shape.n a i j k)) stays).1

    off_parts : is_boundary_edge w.told.grid.shape.n a i j k ≡ true → is_kept_edge w.told.grid.shape.n kept a i j k ≡ false → is_leaf_edge w.told.grid (edge_name w.told.grid.shape a (child_block b q) i j k) ≡ false
    off_parts boundary free = bit_is ∙ none (is_boundary_edge g.shape.n a i j k) (is_kept kept (edge_direction g.shape.n a i j k)) boundary free
      where
        none : (s t : Bool) → s ≡ true → (s && t) ≡ false → t ≡ false
        none true t is both = both
        none false t is both = cc

    held_there : is_kept_edge w.told.grid.shape.n kept a i j k ≡ true → (field : EdgeAt → ℤ) → LeavesHoldEdges false w field →
        edges_in w.told.grid a (xs a) (w.told.grid.shape.g + i) (w.told.grid.shape.g + j) (w.told.grid.shape.g + k) ≡ edge_view w.told.grid field (edge_name w.told.grid.shape a (child_block b q) i j k)
    held_there stays field holds =
        let dir = edge_direction g.shape.n a i j k in
        let few = direction_few g.shape.n some a i j k hi hj hk in
        let bit = (and_parts (is_boundary_edge g.shape.n a i j k) (is_kept kept dir) stays).1 in
        (views.at dir few (sym (parts.each dir few) ∙ bit) field holds a).at i j k hi hj hk (sym (direction_is g.shape.n some a i j k hi hj hk))

  pub kept_hold : (field : EdgeAt → ℤ) → LeavesHoldEdges false w field → (a : Axis) → KeptEdgesHold w.told.grid field a (child_block b q) kept (edges_in w.told.grid a (xs a))
  kept_hold field holds a = record { at = λ i j k hi hj hk stays. held_there a i j k hi hj hk stays field holds }

  pub others_inside : (a : Axis) → OtherEdgesLieInside w.told.grid a (child_block b q) kept
  others_inside a = record { at = λ i j k hi hj hk boundary free. (calm a i j k hi hj hk, off_parts a i j k hi hj hk boundary free) }

  -- the number of a leaf edge is in range
  in_range : (e : EdgeAt) → is_split_edge w.told.grid e ≡ false → is_leaf_edge w.told.grid e ≡ true → Within number_range (edge_view w.told.grid of.mesh.edges e)
  in_range e free is = subst (Within number_range) (sym (view_leaf g (tree g valid) (wide_of g.shape valid.shape) of.mesh.edges e free is)) (of.valid.range.edges e)

  -- the edges of the parent of which those of the child are halves are leaf edges
  above_whole : (a : Axis) (i j k : ℕ) → i < longer_across a X w.told.grid.shape.n → j < longer_across a Y w.told.grid.shape.n → k < longer_across a Z w.told.grid.shape.n →
      is_kept_edge w.told.grid.shape.n kept a i j k ≡ false → are_even a i j k ≡ true → let n = w.told.grid.shape.n in
      let e = edge_name w.told.grid.shape a b (half_at n q + i / 2) (half_at n (q / 2) + j / 2) (half_at n (q / 4) + k / 2) in
      (is_split_edge w.told.grid e ≡ false) × (is_leaf_edge w.told.grid e ≡ true)
  above_whole a i j k hi hj hk free even =
      let n = w.told.grid.shape.n in
      let u = half_at n q + i / 2 in
      let v = half_at n (q / 2) + j / 2 in
      let t = half_at n (q / 4) + k / 2 in
      let e = edge_name g.shape a b u v t in
      let h = position a i j k % 2 in
      let l = above_in_block n g.shape.g (record { cells = valid.shape.cells; guards = valid.shape.guards }) (edge_extents n g.shape.g a) (edges_of n a) (edge_lines n g.shape.g a) q i j k hi hj hk in
      let both = and_parts (is_even (position (next a) i j k)) (is_even (position (next (next a)) i j k)) even in
      let same : edge_name g.shape a c i j k ≡ half_edge e h = even_half g.shape n a b q i j k valid.shape.cells (eqb-true _ 0 both.0) (eqb-true _ 0 both.1) in
      let own = not_kept g b q valid domain whole kept a (others_inside a) i j k hi hj hk free in
      let free_above : is_split_edge g e ≡ false = refuted _ (λ split.
      let leaf_below = leaf_half g (tree g valid) (wide_of g.shape valid.shape) e h (omega arith) split (ap (is_split_edge g) (sym same) ∙ own.0) in
      let none = ap (is_leaf_edge g) (sym same) ∙ own.1 in
      cc) in (
        free_above,
        leaf_edge_of_leaf g b some domain a u v t l.0 l.1 l.2 leaf whole ∙ ap not (sym (whole_edge g b some domain a u v t l.0 l.1 l.2 whole) ∙ free_above),
      )

  pub small : (parent : Axis → List ℤ) → ((a : Axis) → HoldsEdges w.told.grid of.mesh.edges a b (edges_in w.told.grid a (parent a))) → (a : Axis) →
      EdgeSourcesAreSmall w.told.grid.shape.n w.told.grid.shape.g q kept a (edges_in w.told.grid a (parent a)) (edges_in w.told.grid a (xs a))
  small parent held a = record {
    stay = λ i j k hi hj hk stays.
        subst (Within number_range) (sym (held_there a i j k hi hj hk stays of.mesh.edges (of.world.on_edges declared)))
        (in_range (edge_name g.shape a c i j k) (calm a i j k hi hj hk) (is_leaf_kept a i j k hi hj hk stays));
    split = λ i j k hi hj hk free even.
        let n = w.told.grid.shape.n in
        let e = w.told.grid.shape.g in
        let l = above_in_block n e (record { cells = valid.shape.cells; guards = valid.shape.guards }) (edge_extents n e a) (edges_of n a) (edge_lines n e a) q i j k hi hj hk in
        let one : e + half_at n q + i / 2 ≡ e + (half_at n q + i / 2) = omega arith in
        let two : e + half_at n (q / 2) + j / 2 ≡ e + (half_at n (q / 2) + j / 2) = omega arith in
        let last : e + half_at n (q / 4) + k / 2 ≡ e + (half_at n (q / 4) + k / 2) = omega arith in
        let numbers = edges_in w.told.grid a (parent a) in
        let value = ap (λ u. numbers u (e + half_at n (q / 2) + j / 2) (e + half_at n (q / 4) + k / 2)) one
        ∙ ap₂ (numbers (e + (half_at n q + i / 2))) two last
        ∙ (held a).at (half_at n q + i / 2) (half_at n (q / 2) + j / 2) (half_at n (q / 4) + k / 2) l.0 l.1 l.2 in
        let above = above_whole a i j k hi hj hk free even in
        subst (Within number_range) (sym value) (in_range (edge_name g.shape a b (half_at n q + i / 2) (half_at n (q / 2) + j / 2) (half_at n (q / 4) + k / 2)) above.0 above.1);
  }

-- ---- in the sizes of a world's blocks

-- a child of a leaf, whose kept parts are copied and whose other edges are split from the leaf's
module _ (w : WorldState) (of : IsOfValidMesh w) (declared : 0 < w.told.counts.edges) (parent q kept : ℕ) (c : BlockAt) (node : IsLeafNode w.told.grid parent)
    (is : child_block (block_at w.told.grid parent) q ≡ c) (inside : InDomain w.told.grid.shape c) (n e : ℕ) (sized : IsSized n e w.told.grid.shape)
    (ps xs : Axis → List ℤ) (from : (a : Axis) → ps a ≡ edge_array false w a parent) (parts : AreParts w.told.grid true c 27 kept) (views : KeptPartsHold w c 27 xs) where
  there : Valid w.told.grid
  there = subst Valid (sym of.world.grid) of.valid.grid

  at_home : InDomain w.told.grid.shape (block_at w.told.grid parent)
  at_home = there.tiles.inside (block_at w.told.grid parent) (leaf_says w.told.grid (block_at w.told.grid parent) node.leaf)

  child_inside : InDomain w.told.grid.shape (child_block (block_at w.told.grid parent) q)
  child_inside = subst (InDomain w.told.grid.shape) (sym is) inside

  child_parts : AreParts w.told.grid true (child_block (block_at w.told.grid parent) q) 27 kept
  child_parts = subst (λ d. AreParts w.told.grid true d 27 kept) (sym is) parts

  child_views : KeptPartsHold w (child_block (block_at w.told.grid parent) q) 27 xs
  child_views = subst (λ d. KeptPartsHold w d 27 xs) (sym is) views

  parent_views : (field : EdgeAt → ℤ) → LeavesHoldEdges false w field → (a : Axis) → HoldsEdges w.told.grid field a (block_at w.told.grid parent) (edges_in w.told.grid a (ps a))
  parent_views field holds a = subst (λ ys. HoldsEdges w.told.grid field a (block_at w.told.grid parent) (edges_in w.told.grid a ys)) (sym (from a)) (holds parent node a)

  pub sources : (a : Axis) → EdgeSourcesAreSmall n e q kept a (all_edges n e ps a) (all_edges n e xs a)
  sources a =
      let s = w.told.grid.shape in
      subst (λ m. EdgeSourcesAreSmall m e q kept a (all_edges m e ps a) (all_edges m e xs a)) sized.cells
      (subst (λ m. EdgeSourcesAreSmall s.n m q kept a (all_edges s.n m ps a) (all_edges s.n m xs a)) sized.guards
      (small w of declared (block_at w.told.grid parent) q kept xs node.leaf at_home child_inside child_parts child_views ps (parent_views of.mesh.edges (of.world.on_edges declared)) a))

  pub held : q < 8 → (new : Axis → List ℤ) → AreEdgesSplit n e q kept ps xs new → (field : EdgeAt → ℤ) → LeavesHoldEdges false w field → (a : Axis) → HoldsEdges w.told.grid field a c (edges_in w.told.grid a (new a))
  held hq new split field holds a =
      let s = w.told.grid.shape in
      let b = block_at w.told.grid parent in
      let here : AreEdgesSplit s.n s.g q kept ps xs new = subst (λ m. AreEdgesSplit m s.g q kept ps xs new) (sym sized.cells) (subst (λ m. AreEdgesSplit n m q kept ps xs new) (sym sized.guards) split) in
      subst (λ d. HoldsEdges w.told.grid field a d (edges_in w.told.grid a (new a))) is
      (children_split w.told.grid field a b q kept (ps a) (xs a) (new a) there at_home hq (leaf_whole_block w.told.grid there b node.leaf) (here a) (parent_views field holds a)
      (kept_hold w of declared b q kept xs node.leaf at_home child_inside child_parts child_views field holds a)
      (others_inside w of declared b q kept xs node.leaf at_home child_inside child_parts child_views a))
