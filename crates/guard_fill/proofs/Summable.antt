-- Views of cells, faces and edges add up, and in a valid mesh those in split blocks are small enough to be stored.
use Rattle.std.proofs.Common.{◌≡◌, ℕ, ◌<◌, ◌≤◌, ◌⊎◌, ◌^◌, true, false, ℤ, refl, sym, ap, subst, ◌∙◌, arith, inl, inr}
use Rattle.amr_num.specs.declared.Axis.{Axis}
use Rattle.amr_num.specs.declared.Axis.TheVariants.{X, Y, Z}
use Rattle.amr_num.specs.declared.BlockAt.{BlockAt}
use Rattle.amr_num.specs.declared.CellAt.{CellAt}
use Rattle.amr_num.specs.declared.FaceAt.{FaceAt}
use Rattle.amr_num.specs.declared.EdgeAt.{EdgeAt}
use Rattle.amr_num.specs.Numbers.{Within}
use Rattle.mesh_model.specs.declared.fields.values.Var.TheVariants.{Cell, Edge, Face}
use Rattle.mesh_model.specs.Geometry.Blocks.{InDomain}
use Rattle.mesh_model.specs.Geometry.Places.{in_block, longer_across}
use Rattle.mesh_model.specs.Tree.Kinds.{Grid, is_split, is_split_block, is_split_edge, is_split_face}
use Rattle.mesh_model.specs.Tree.ValidGrid.{Valid}
use Rattle.mesh_model.specs.Fields.Views.{cell_view, edge_view, face_view}
use Rattle.mesh_model.specs.Fields.ArrayPlaces.{HoldsEdges, HoldsFaces, HoldsViews, extents_of, number_at}
use Rattle.mesh_model.specs.Fields.FinePlaces.{edges_in, faces_in}
use Rattle.mesh_model.specs.Fields.Octants.{cells_of}
use Rattle.mesh_model.specs.Fields.Ranks.{Told, WorldState}
use Rattle.mesh_model.specs.Geometry.Canonical.{canonical_on}
use Rattle.mesh_model.specs.Geometry.Coordinates.{face_of, next}
use Rattle.mesh_model.proofs.FieldLemmas.BlockOctants.{block_of_cell}
use Rattle.mesh_model.proofs.FieldLemmas.Bounds.{split_view_within, wider}
use Rattle.mesh_model.proofs.FieldLemmas.CellSums.{cell_view_sum}
use Rattle.mesh_model.proofs.FieldLemmas.EdgeBounds.{split_edge_within}
use Rattle.mesh_model.proofs.FieldLemmas.KeptValid.{leaf_cells_few}
use Rattle.mesh_model.proofs.FieldLemmas.SideBounds.{split_face_within}
use Rattle.mesh_model.proofs.FieldLemmas.ValidGrid.{tree}
use Rattle.mesh_model.proofs.GeometryLemmas.ShapeLimits.{cells_least, cells_some}
use Rattle.block_tree.specs.Numbered.{block_at}
use Rattle.rank_world.specs.Holding.{IsOfValidMesh, LeavesHold, LeavesHoldEdges, LeavesHoldFaces, NodesHold, NodesHoldEdges, NodesHoldFaces, cell_array, edge_array, face_array}
use Rattle.rank_world.proofs.FaceBlocks.{split_face_there}
use Rattle.restrict_op.proofs.EdgeOctants as edges
use Rattle.restrict_op.proofs.FaceOctants as faces
use Rattle.guard_fill.specs.Restricting.{AddUp, HasViews, HaveSmallViews, LeavesHave, NodesHave}
use Rattle.guard_fill.proofs.AxisSums.{Apart}
use Rattle.block_tree.proofs.RoundEdges.{split_edge_there}
use Rattle.block_tree.specs.Directions.{edge_name}

module _ (g : Grid) (valid : Valid g) where
  pub cells_add_up : (v : ℕ) (content : CellAt → ℤ) → AddUp (Cell v) (cell_view g content)
  cells_add_up v content = record { sum = cell_view_sum g content (tree g valid) }

  pub faces_add_up : (a : Axis) (field : FaceAt → ℤ) → AddUp (Face a) (faces.view_of g field a valid)
  faces_add_up a field = record { sum = faces.view_sum g field a valid }

  pub edges_add_up : (a : Axis) (field : EdgeAt → ℤ) → AddUp (Edge a) (edges.view_of g field a valid)
  edges_add_up a field = record { sum = edges.view_sum g field a valid }

-- ---- split edges

-- ---- in a valid mesh

module _ (w : WorldState) (of : IsOfValidMesh w) where
  abbrev pub g : Grid
  g = w.told.grid

  pub valid : Valid g
  valid = subst Valid (sym of.world.grid) of.valid.grid

  wide : (h : Grid) → Valid h → 1 < h.shape.n
  wide h valid = (let least = cells_least valid.shape in omega (arith, least))

  pub cells_have : (v : ℕ) (content : CellAt → ℤ) → LeavesHold w v content → LeavesHave w (Cell v) (cell_view g content)
  cells_have v content holds node leaf = record { at = (holds node leaf).at }

  pub faces_have : (a : Axis) (field : FaceAt → ℤ) → LeavesHoldFaces w field → LeavesHave w (Face a) (faces.view_of g field a valid)
  faces_have a field holds node leaf = record { at = (holds node leaf a).at }

  pub edges_have : (a : Axis) (field : EdgeAt → ℤ) → LeavesHoldEdges false w field → LeavesHave w (Edge a) (edges.view_of g field a valid)
  edges_have a field holds node leaf = record { at = (holds node leaf a).at }

  pub few_cells : (v : ℕ) → v < w.told.counts.cells → HaveSmallViews w (Cell v)
  few_cells v declared =
      let m = of.mesh in
      record {
        view = cell_view g (m.cells v);
        sums = cells_add_up g valid v (m.cells v);
        leaves = cells_have v (m.cells v) (of.world.contents v declared);
        small = λ b i j k split inside hi hj hk.
            let c = in_block g.shape.n b i j k in
            let is : is_split g c ≡ true = ap (is_split_block g) (block_of_cell g.shape.n b i j k hi hj hk) ∙ split in
            subst (λ h. Within (2 ^ 62) (cell_view h (m.cells v) c)) (sym of.world.grid)
            (wider (cell_view m.grid (m.cells v) c) _ (2 ^ 62) (split_view_within m.grid of.valid.grid (m.cells v) (2 ^ 40) (λ d leaf. of.valid.range.cells v d) c (subst (λ h. is_split h c ≡ true) of.world.grid is)) (leaf_cells_few m of.valid));
      }

  pub few_faces : (a : Axis) → 0 < w.told.counts.faces → HaveSmallViews w (Face a)
  few_faces a declared =
      let m = of.mesh in
      record {
        view = faces.view_of g m.faces a valid;
        sums = faces_add_up g valid a m.faces;
        leaves = faces_have a m.faces (of.world.on_faces declared);
        small = λ b i j k split inside hi hj hk.
            let f = face_of a (canonical_on g.shape a (in_block g.shape.n b i j k)) in
            let is : is_split_face g f ≡ true = split_face_there g valid a b split inside i j k hi hj hk in
            subst (λ h. Within (2 ^ 62) (face_view h m.faces f)) (sym of.world.grid)
            (wider (face_view m.grid m.faces f) _ (2 ^ 62) (split_face_within m.grid of.valid.grid m.faces (2 ^ 40) (λ d leaf. of.valid.range.faces d) (wide m.grid of.valid.grid) f (subst (λ h. is_split_face h f ≡ true) of.world.grid is)) (leaf_cells_few m of.valid));
      }

  pub few_edges : (a : Axis) → 0 < w.told.counts.edges → HaveSmallViews w (Edge a)
  few_edges a declared =
      let m = of.mesh in
      record {
        view = edges.view_of g m.edges a valid;
        sums = edges_add_up g valid a m.edges;
        leaves = edges_have a m.edges (of.world.on_edges declared);
        small = λ b i j k split inside hi hj hk.
            let e = edge_name g.shape a b i j k in
            let is : is_split_edge g e ≡ true = split_edge_there g b (cells_some valid.shape) inside a i j k hi hj hk split in
            subst (λ h. Within (2 ^ 62) (edge_view h m.edges e)) (sym of.world.grid)
            (wider (edge_view m.grid m.edges e) _ (2 ^ 62) (split_edge_within m.grid of.valid.grid m.edges (2 ^ 40) (λ d leaf. of.valid.range.edges d) (wide m.grid of.valid.grid) e (subst (λ h. is_split_edge h e ≡ true) of.world.grid is)) (leaf_cells_few m of.valid));
      }

-- ---- nodes

pub apart_faces : Apart Face
apart_faces a b is = cc

pub apart_edges : Apart Edge
apart_edges a b is = cc

module _ (w z : WorldState) (valid : Valid w.told.grid) where
  pub nodes_hold_cells : (v : ℕ) (content : CellAt → ℤ) → z.told ≡ w.told → NodesHave z (Cell v) (cell_view w.told.grid content) → NodesHold z v content
  nodes_hold_cells v content told have node there =
      subst (λ (t : Told). HoldsViews t.grid content (block_at t.grid node) (cells_of t.grid (cell_array z v node))) (sym told)
      (record { at = (subst (λ (t : Told). HasViews t.grid.shape (Cell v) (cell_view w.told.grid content) (block_at t.grid node) (number_at (extents_of t.grid.shape.n t.grid.shape.g (Cell v)) (cell_array z v node))) told (have node there)).at })

  pub nodes_hold_faces : (field : FaceAt → ℤ) → z.told ≡ w.told → ((a : Axis) → NodesHave z (Face a) (faces.view_of w.told.grid field a valid)) → NodesHoldFaces z field
  nodes_hold_faces field told have node there a =
      subst (λ (t : Told). HoldsFaces t.grid field a (block_at t.grid node) (faces_in t.grid a (face_array z a node))) (sym told)
      (record { at = (subst (λ (t : Told). HasViews t.grid.shape (Face a) (faces.view_of w.told.grid field a valid) (block_at t.grid node) (number_at (extents_of t.grid.shape.n t.grid.shape.g (Face a)) (face_array z a node))) told (have a node there)).at })

  pub nodes_hold_edges : (field : EdgeAt → ℤ) → z.told ≡ w.told → ((a : Axis) → NodesHave z (Edge a) (edges.view_of w.told.grid field a valid)) → NodesHoldEdges z field
  nodes_hold_edges field told have node there a =
      subst (λ (t : Told). HoldsEdges t.grid field a (block_at t.grid node) (edges_in t.grid a (edge_array false z a node))) (sym told)
      (record { at = (subst (λ (t : Told). HasViews t.grid.shape (Edge a) (edges.view_of w.told.grid field a valid) (block_at t.grid node) (number_at (extents_of t.grid.shape.n t.grid.shape.g (Edge a)) (edge_array false z a node))) told (have a node there)).at })
