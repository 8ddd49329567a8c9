-- A world of one node whose edges all have one number is that of a valid mesh.
use Rattle.std.proofs.Common.{◌≡◌, ℕ, ◌+◌, ◌<◌, ◌^◌, Bool, true, false, not, ◌&&◌, ◌||◌, List, [], ◌∷◌, length, pos, Option, Some, None, refl, sym, ap, ap₂, subst, ◌∙◌, arith}
use Rattle.std.specs.Prelude.{replicate, if◌then◌else◌}
use Rattle.std.specs.List.{list_any}
use Rattle.std.proofs.lemmas.List.{get_or-replicate}
use Rattle.amr_num.specs.Numbers.{Within}
use Rattle.amr_num.specs.declared.Axis.{Axis}
use Rattle.amr_num.specs.declared.Axis.TheVariants.{X, Y, Z}
use Rattle.amr_num.specs.declared.BlockAt.{BlockAt}
use Rattle.amr_num.specs.declared.CellAt.{CellAt}
use Rattle.amr_num.specs.declared.EdgeAt.{EdgeAt}
use Rattle.mesh_model.specs.Geometry.Coordinates.{round_edge}
use Rattle.mesh_model.specs.Geometry.Places.{longer_across}
use Rattle.mesh_model.specs.Fields.ArrayPlaces.{edge_extents, number_at, place_in}
use Rattle.mesh_model.specs.Fields.FinePlaces.{edges_in}
use Rattle.mesh_model.specs.Fields.Plain.{Mesh, on_edges}
use Rattle.mesh_model.specs.Fields.Ranks.{IsSized, WorldState}
use Rattle.mesh_model.specs.Fields.Valid.{ValidMesh}
use Rattle.mesh_model.specs.Tree.Kinds.{Grid, holds, is_leaf_edge, is_split, is_split_block, is_split_edge}
use Rattle.mesh_model.specs.Tree.Order.{Sorted, nodes}
use Rattle.mesh_model.specs.Tree.ValidGrid.{FewNodes, Valid}
use Rattle.mesh_model.proofs.FieldLemmas.BlockPlaces.{place_inside}
use Rattle.mesh_model.proofs.FieldLemmas.CellKinds.{wide_of}
use Rattle.mesh_model.proofs.FieldLemmas.EdgeSums.{view_leaf}
use Rattle.mesh_model.proofs.FieldLemmas.ValidGrid.{tree}
use Rattle.mesh_model.proofs.GeometryLemmas.ShapeLimits.{cells_some}
use Rattle.mesh_model.proofs.TreeLemmas.Nodes.{in_node}
use Rattle.mesh_model.proofs.TreeLemmas.Tests.{refuted}
use Rattle.mesh_model.proofs.TreeLemmas.Tiling.{leaf_says, lies_refl, split_says}
use Rattle.block_tree.specs.Directions.{edge_name}
use Rattle.block_tree.specs.Numbered.{block_at, block_in}
use Rattle.block_tree.proofs.Members.{at_in}
use Rattle.block_tree.proofs.RoundEdges.{leaf_edge_of_leaf, whole_edge}
use Rattle.rank_world.specs.Holding.{IsOfValidMesh, LeavesHoldEdges, edge_array}
use Rattle.rank_world.proofs.Meshes.{of_some_mesh}
use Rattle.leaf_split.proofs.EdgeViews.{edge_canonical}

-- no block is split where there is one node
pub none_split_block : (g : Grid) → Valid g → length (nodes g.leaves) ≡ 1 → (b : BlockAt) → is_split_block g b ≡ false
none_split_block g valid one b = refuted _ (λ s.
    let l = split_says g b s in
    let here = at_in b (nodes g.leaves) (in_node g valid b l.0 l.1 l.3) in
    let leaf = at_in l.0 (nodes g.leaves) (in_node g valid l.0 l.0 l.1 (lies_refl l.0)) in
    let first = here.1 in
    let last = leaf.1 in
    let number : here.0 ≡ leaf.0 = omega (arith, first, last, one) in
    let same_block : b ≡ l.0 = sym here.2 ∙ ap (block_in (nodes g.leaves)) number ∙ leaf.2 in
    let level = ap (λ (d : BlockAt). d.level) same_block in
    let less = l.2 in
    omega (arith, level, less))

pub none_split : (g : Grid) → ((b : BlockAt) → is_split_block g b ≡ false) → (o : Option CellAt) → holds (is_split g) o ≡ false
none_split g whole None = refl
none_split g whole (Some c) = whole _

any_none : (g : Grid) → ((b : BlockAt) → is_split_block g b ≡ false) → (os : List (Option CellAt)) → list_any (holds (is_split g)) os ≡ false
any_none g whole [] = refl
any_none g whole (o ∷ os) = ap₂ (λ p q. p || q) (none_split g whole o) (any_none g whole os)

or_zero : (t : Bool) → Within (2 ^ 40) (if t then pos 7 else pos 0)
or_zero true = omega arith
or_zero false = omega arith

-- a place of the arrays of 4 cells with a guard cell on each side
few_places : (a : Axis) (i j k : ℕ) → i < longer_across a X 4 → j < longer_across a Y 4 → k < longer_across a Z 4 → place_in (edge_extents 4 1 a) (1 + i) (1 + j) (1 + k) < 294
few_places X i j k hi hj hk = place_inside (edge_extents 4 1 X) (1 + i) (1 + j) (1 + k) (omega (arith, hi)) (omega (arith, hj)) (omega (arith, hk))
few_places Y i j k hi hj hk = place_inside (edge_extents 4 1 Y) (1 + i) (1 + j) (1 + k) (omega (arith, hi)) (omega (arith, hj)) (omega (arith, hk))
few_places Z i j k hi hj hk = place_inside (edge_extents 4 1 Z) (1 + i) (1 + j) (1 + k) (omega (arith, hi)) (omega (arith, hj)) (omega (arith, hk))

module _ (w : WorldState) (valid : Valid w.told.grid) (order : Sorted w.told.grid.leaves) (few : FewNodes w.told.grid) (cells : w.told.counts.cells ≡ 0) (face : w.told.counts.faces ≡ 0) (edge : w.told.counts.edges ≡ 1)
    (one : length (nodes w.told.grid.leaves) ≡ 1) (sized : IsSized 4 1 w.told.grid.shape) (same : (a : Axis) → edge_array false w a 0 ≡ replicate 294 (pos 7)) where
  abbrev without : WorldState
  without = record { told = record { grid = w.told.grid; counts = record { cells = 0; faces = 0; edges = 0 } }; ranks = w.ranks }

  plain : IsOfValidMesh without
  plain = of_some_mesh without valid order few (omega arith) refl refl (λ v node has. absurd (omega (arith, has)))

  abbrev the_mesh : Mesh
  the_mesh = record {
    grid = plain.mesh.grid;
    names = record { cells = plain.mesh.names.cells; face = plain.mesh.names.face; edge = Some [] };
    cells = plain.mesh.cells;
    outs = plain.mesh.outs;
    faces = plain.mesh.faces;
    edges = on_edges plain.mesh.grid (λ e. pos 7);
    refine = plain.mesh.refine;
    derefine = plain.mesh.derefine;
  }

  valid_mesh : ValidMesh the_mesh
  valid_mesh = record {
    grid = plain.valid.grid;
    order = plain.valid.order;
    nodes = plain.valid.nodes;
    numbers = record { cells = plain.valid.numbers.cells; faces = plain.valid.numbers.faces; edges = λ e h. ap (λ (t : Bool). if t then pos 7 else pos 0) h };
    declared = record { few = plain.valid.declared.few; cells = plain.valid.declared.cells; outs = plain.valid.declared.outs; faces = plain.valid.declared.faces; edges = λ h e. absurd cc };
    range = record { cells = plain.valid.range.cells; outs = plain.valid.range.outs; faces = plain.valid.range.faces; edges = λ e. or_zero _ };
    marks = record { refine = plain.valid.marks.refine; derefine = plain.valid.marks.derefine };
  }

  whole : (b : BlockAt) → is_split_block w.told.grid b ≡ false
  whole = none_split_block w.told.grid valid one

  no_split : (e : EdgeAt) → is_split_edge w.told.grid e ≡ false
  unfolding is_split_edge
  no_split e = any_none w.told.grid whole (round_edge w.told.grid.shape e)

  number : (a : Axis) (i j k : ℕ) → let s = w.told.grid.shape in i < longer_across a X s.n → j < longer_across a Y s.n → k < longer_across a Z s.n → edges_in w.told.grid a (edge_array false w a 0) (s.g + i) (s.g + j) (s.g + k) ≡ pos 7
  number a i j k hi hj hk =
      let s = w.told.grid.shape in
      let ci = subst (λ n. i < longer_across a X n) sized.cells hi in
      let cj = subst (λ n. j < longer_across a Y n) sized.cells hj in
      let ck = subst (λ n. k < longer_across a Z n) sized.cells hk in
      ap (λ xs. edges_in w.told.grid a xs (s.g + i) (s.g + j) (s.g + k)) (same a)
      ∙ ap₂ (λ n e. number_at (edge_extents n e a) (replicate 294 (pos 7)) (e + i) (e + j) (e + k)) sized.cells sized.guards
      ∙ get_or-replicate 294 (place_in (edge_extents 4 1 a) (1 + i) (1 + j) (1 + k)) (pos 7) (pos 0) (few_places a i j k ci cj ck)

  edges_hold : LeavesHoldEdges false w (on_edges w.told.grid (λ e. pos 7))
  edges_hold node leaf a = record {
    at = λ i j k hi hj hk.
        let g = w.told.grid in
        let b = block_at g node in
        let there = leaf.there in
        let first : node ≡ 0 = omega (arith, there, one) in
        let e = edge_name g.shape a b i j k in
        let inside = valid.tiles.inside b (leaf_says g b leaf.leaf) in
        let is : is_leaf_edge g e ≡ true = leaf_edge_of_leaf g b (cells_some valid.shape) inside a i j k hi hj hk leaf.leaf (whole b) ∙ ap not (sym (whole_edge g b (cells_some valid.shape) inside a i j k hi hj hk (whole b)) ∙ no_split e) in
        let canonical = edge_canonical g.shape b valid.shape.cells inside a i j k hi hj hk in
        ap (λ m. edges_in g a (edge_array false w a m) (g.shape.g + i) (g.shape.g + j) (g.shape.g + k)) first
        ∙ number a i j k hi hj hk
        ∙ sym
        (view_leaf g (tree g valid) (wide_of g.shape valid.shape) (on_edges g (λ h. pos 7)) e (no_split e) is
        ∙ ap (λ (t : Bool). if t then pos 7 else pos 0) (ap₂ (λ p q. p && q) canonical is));
  }

  pub uniform_mesh : IsOfValidMesh w
  uniform_mesh = record {
    mesh = the_mesh;
    valid = valid_mesh;
    world = record {
      grid = plain.world.grid;
      cells = cells ∙ plain.world.cells;
      faces = (λ zero. plain.world.faces.0 refl, λ none. face);
      edges = (λ zero. absurd (omega (arith, zero, edge)), λ none. absurd cc);
      contents = λ v has. absurd (omega (arith, has, cells));
      on_faces = λ some. absurd (omega (arith, some, face));
      on_edges = λ some. subst (λ (g : Grid). LeavesHoldEdges false w (on_edges g (λ e. pos 7))) plain.world.grid edges_hold;
    };
  }
