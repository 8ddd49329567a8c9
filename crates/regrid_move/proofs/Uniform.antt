-- A world of one node whose faces all have one number is that of a valid mesh.
use Rattle.std.proofs.Common.{◌≡◌, ℕ, ◌+◌, ◌<◌, ◌^◌, Bool, true, false, ◌||◌, ◌&&◌, [], length, pos, Option, Some, None, refl, sym, ap, ap₂, subst, ◌∙◌, arith, inl, inr}
use Rattle.std.specs.Prelude.{replicate, if◌then◌else◌}
use Rattle.std.proofs.lemmas.List.{get_or-replicate}
use Rattle.amr_num.specs.Numbers.{Within}
use Rattle.amr_num.specs.declared.Axis.{Axis}
use Rattle.amr_num.specs.declared.Axis.TheVariants.{X, Y, Z}
use Rattle.amr_num.specs.declared.BlockAt.{BlockAt}
use Rattle.amr_num.specs.declared.CellAt.{CellAt}
use Rattle.amr_num.specs.declared.FaceAt.{FaceAt}
use Rattle.mesh_model.specs.Geometry.Canonical.{canonical_on}
use Rattle.mesh_model.specs.Geometry.Coordinates.{face_of, high_cell, low_cell}
use Rattle.mesh_model.specs.Geometry.Places.{in_block, longer_on}
use Rattle.mesh_model.specs.Fields.ArrayPlaces.{face_extents, number_at, place_in}
use Rattle.mesh_model.specs.Fields.FinePlaces.{faces_in}
use Rattle.mesh_model.specs.Fields.Plain.{Mesh, on_faces}
use Rattle.mesh_model.specs.Fields.Ranks.{IsSized, WorldState}
use Rattle.mesh_model.specs.Fields.Valid.{ValidMesh}
use Rattle.mesh_model.specs.Tree.Kinds.{Grid, holds, is_leaf_face, is_split, is_split_block, is_split_face}
use Rattle.mesh_model.specs.Tree.Order.{Sorted, nodes}
use Rattle.mesh_model.specs.Tree.ValidGrid.{FewNodes, Valid}
use Rattle.mesh_model.proofs.FieldLemmas.BlockPlaces.{place_inside}
use Rattle.mesh_model.proofs.FieldLemmas.CellKinds.{kinds_of_tiles, wide_of}
use Rattle.mesh_model.proofs.FieldLemmas.LeafFaces.{Either, Seen, view_of_leaf_face}
use Rattle.mesh_model.proofs.TreeLemmas.Nodes.{in_node}
use Rattle.mesh_model.proofs.TreeLemmas.Tests.{refuted}
use Rattle.mesh_model.proofs.TreeLemmas.Tiling.{lies_refl, split_says}
use Rattle.block_tree.specs.Numbered.{block_at, block_in}
use Rattle.block_tree.proofs.Members.{at_in}
use Rattle.rank_world.specs.Holding.{IsOfValidMesh, LeavesHoldFaces, face_array}
use Rattle.rank_world.proofs.FaceBlocks.{leaf_face_seen}
use Rattle.rank_world.proofs.Meshes.{of_some_mesh}
use Rattle.leaf_split.proofs.UniformEdges.{none_split, none_split_block}

or_zero : (t : Bool) → Within (2 ^ 40) (if t then pos 13 else pos 0)
or_zero true = omega arith
or_zero false = omega arith

-- a place of the arrays of 4 cells with a guard cell on each side
few_places : (a : Axis) (i j k : ℕ) → i < longer_on a X 4 → j < longer_on a Y 4 → k < longer_on a Z 4 → place_in (face_extents 4 1 a) (1 + i) (1 + j) (1 + k) < 252
few_places X i j k hi hj hk = place_inside (face_extents 4 1 X) (1 + i) (1 + j) (1 + k) (omega (arith, hi)) (omega (arith, hj)) (omega (arith, hk))
few_places Y i j k hi hj hk = place_inside (face_extents 4 1 Y) (1 + i) (1 + j) (1 + k) (omega (arith, hi)) (omega (arith, hj)) (omega (arith, hk))
few_places Z i j k hi hj hk = place_inside (face_extents 4 1 Z) (1 + i) (1 + j) (1 + k) (omega (arith, hi)) (omega (arith, hj)) (omega (arith, hk))

module _ (w : WorldState) (valid : Valid w.told.grid) (order : Sorted w.told.grid.leaves) (few : FewNodes w.told.grid) (cells : w.told.counts.cells ≡ 0) (face : w.told.counts.faces ≡ 1) (edges : w.told.counts.edges ≡ 0)
    (one : length (nodes w.told.grid.leaves) ≡ 1) (sized : IsSized 4 1 w.told.grid.shape) (same : (a : Axis) → face_array w a 0 ≡ replicate 252 (pos 13)) where
  abbrev without : WorldState
  without = record { told = record { grid = w.told.grid; counts = record { cells = 0; faces = 0; edges = 0 } }; ranks = w.ranks }

  plain : IsOfValidMesh without
  plain = of_some_mesh without valid order few (omega arith) refl refl (λ v node has. absurd (omega (arith, has)))

  abbrev the_mesh : Mesh
  the_mesh = record {
    grid = plain.mesh.grid;
    names = record { cells = plain.mesh.names.cells; face = Some []; edge = plain.mesh.names.edge };
    cells = plain.mesh.cells;
    outs = plain.mesh.outs;
    faces = on_faces plain.mesh.grid (λ f. pos 13);
    edges = plain.mesh.edges;
    refine = plain.mesh.refine;
    derefine = plain.mesh.derefine;
  }

  valid_mesh : ValidMesh the_mesh
  valid_mesh = record {
    grid = plain.valid.grid;
    order = plain.valid.order;
    nodes = plain.valid.nodes;
    numbers = record { cells = plain.valid.numbers.cells; faces = λ f h. ap (λ (t : Bool). if t then pos 13 else pos 0) h; edges = plain.valid.numbers.edges };
    declared = record { few = plain.valid.declared.few; cells = plain.valid.declared.cells; outs = plain.valid.declared.outs; faces = λ h f. absurd cc; edges = plain.valid.declared.edges };
    range = record { cells = plain.valid.range.cells; outs = plain.valid.range.outs; faces = λ f. or_zero _; edges = plain.valid.range.edges };
    marks = record { refine = plain.valid.marks.refine; derefine = plain.valid.marks.derefine };
  }

  whole : (b : BlockAt) → is_split_block w.told.grid b ≡ false
  whole = none_split_block w.told.grid valid one

  leaf_face : (f : FaceAt) → Seen w.told.grid f → is_leaf_face w.told.grid f ≡ true
  unfolding Either is_split_face
  leaf_face f seen = elim seen.kind [
    | inl split ↦ (
        let no_split : is_split_face w.told.grid f ≡ false = ap₂ (λ p q. p || q) (none_split w.told.grid whole (low_cell w.told.grid.shape f)) (none_split w.told.grid whole (high_cell w.told.grid.shape f)) in
        absurd (let both = sym split ∙ no_split in cc))
    | inr is ↦ is
  ]

  number : (a : Axis) (i j k : ℕ) → let s = w.told.grid.shape in i < longer_on a X s.n → j < longer_on a Y s.n → k < longer_on a Z s.n → faces_in w.told.grid a (face_array w a 0) (s.g + i) (s.g + j) (s.g + k) ≡ pos 13
  number a i j k hi hj hk =
      let s = w.told.grid.shape in
      let ci = subst (λ n. i < longer_on a X n) sized.cells hi in
      let cj = subst (λ n. j < longer_on a Y n) sized.cells hj in
      let ck = subst (λ n. k < longer_on a Z n) sized.cells hk in
      ap (λ xs. faces_in w.told.grid a xs (s.g + i) (s.g + j) (s.g + k)) (same a)
      ∙ ap₂ (λ n e. number_at (face_extents n e a) (replicate 252 (pos 13)) (e + i) (e + j) (e + k)) sized.cells sized.guards
      ∙ get_or-replicate 252 (place_in (face_extents 4 1 a) (1 + i) (1 + j) (1 + k)) (pos 13) (pos 0) (few_places a i j k ci cj ck)

  faces_hold : LeavesHoldFaces w (on_faces w.told.grid (λ f. pos 13))
  faces_hold node leaf a = record {
    at = λ i j k hi hj hk.
        let g = w.told.grid in
        let there = leaf.there in
        let first : node ≡ 0 = omega (arith, there, one) in
        let f = face_of a (canonical_on g.shape a (in_block g.shape.n (block_at g node) i j k)) in
        let seen = leaf_face_seen g valid a (block_at g node) leaf.leaf i j k hi hj hk in
        let is = leaf_face f seen in
        ap (λ m. faces_in g a (face_array w a m) (g.shape.g + i) (g.shape.g + j) (g.shape.g + k)) first
        ∙ number a i j k hi hj hk
        ∙ sym
        (view_of_leaf_face g (kinds_of_tiles g valid.tiles valid.shape) valid.shape (wide_of g.shape valid.shape) (on_faces g (λ h. pos 13)) f is
        ∙ ap (λ (t : Bool). if t then pos 13 else pos 0) (ap₂ (λ p q. p && q) seen.canonical is));
  }

  pub uniform_mesh : IsOfValidMesh w
  uniform_mesh = record {
    mesh = the_mesh;
    valid = valid_mesh;
    world = record {
      grid = plain.world.grid;
      cells = cells ∙ plain.world.cells;
      faces = (λ zero. absurd (omega (arith, zero, face)), λ none. absurd cc);
      edges = (λ zero. plain.world.edges.0 refl, λ none. edges);
      contents = λ v has. absurd (omega (arith, has, cells));
      on_faces = λ some. subst (λ (g : Grid). LeavesHoldFaces w (on_faces g (λ f. pos 13))) plain.world.grid faces_hold;
      on_edges = λ some. absurd (omega (arith, some, edges));
    };
  }
