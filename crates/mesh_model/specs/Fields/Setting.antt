-- What single numbers and marks make of a mesh.
use Rattle.std.specs.Prelude.{ℕ, Bool, not, ◌&&◌, ◌||◌, nat_lt, if◌then◌else◌, ℤ, int_le}
use Rattle.std.specs.List.{list_any}
use Rattle.amr_num.specs.declared.BlockAt.{BlockAt}
use Rattle.amr_num.specs.declared.CellAt.{CellAt}
use Rattle.amr_num.specs.declared.FaceAt.{FaceAt}
use Rattle.amr_num.specs.declared.EdgeAt.{EdgeAt}
use Rattle.mesh_model.specs.Geometry.Coordinates.{is_same_edge, is_same_face}
use Rattle.mesh_model.specs.Fields.Induct.{with_faces}
use Rattle.mesh_model.specs.Fields.Plain.{Mesh}
use Rattle.mesh_model.specs.Tree.Kinds.{is_leaf_block}
use Rattle.mesh_model.specs.Geometry.Places.{in_block, places}
use Rattle.mesh_model.specs.Geometry.Canonical.{canonical_edge, canonical_face}
use Rattle.mesh_model.specs.Geometry.Blocks.{is_same_block}

-- ---- single faces and edges

-- the mesh with another number of one leaf face, or of one leaf edge
unfoldable pub set_face : Mesh → FaceAt → ℤ → Mesh
set_face m at value = with_faces m (λ f. if is_same_face f (canonical_face m.grid.shape at) then value else m.faces f)

unfoldable pub set_edge : Mesh → EdgeAt → ℤ → Mesh
set_edge m at value = record {
  grid = m.grid;
  names = m.names;
  cells = m.cells;
  outs = m.outs;
  faces = m.faces;
  edges = λ e. if is_same_edge e (canonical_edge m.grid.shape at) then value else m.edges e;
  refine = m.refine;
  derefine = m.derefine;
}

-- ---- marks

abbrev pub with_marks : Mesh → (BlockAt → Bool) → (BlockAt → Bool) → Mesh
with_marks m refine derefine = record {
  grid = m.grid;
  names = m.names;
  cells = m.cells;
  outs = m.outs;
  faces = m.faces;
  edges = m.edges;
  refine = refine;
  derefine = derefine;
}

-- one more leaf is marked
unfoldable pub mark_refine : Mesh → BlockAt → Mesh
mark_refine m at = with_marks m (λ b. is_same_block b at || m.refine b) m.derefine

unfoldable pub mark_derefine : Mesh → BlockAt → Mesh
mark_derefine m at = with_marks m m.refine (λ b. is_same_block b at || m.derefine b)

-- some cell of a block passes
abbrev pub has_cell : ℕ → BlockAt → (CellAt → Bool) → Bool
has_cell n b passes = list_any (λ k. list_any (λ j. list_any (λ i. passes (in_block n b i j k)) (places n)) (places n)) (places n)

-- every leaf below the greatest level with a content above the number is marked for refining
unfoldable pub refine_where : Mesh → ℕ → ℤ → Mesh
refine_where m var above =
    let is_found : BlockAt → Bool = λ b. is_leaf_block m.grid b && nat_lt b.level m.grid.shape.max && has_cell m.grid.shape.n b (λ c. not (int_le (m.cells var c) above)) in
    with_marks m (λ b. is_found b || m.refine b) m.derefine

-- every leaf above the least level whose contents are all below the number is marked for merging
unfoldable pub derefine_where : Mesh → ℕ → ℤ → Mesh
derefine_where m var below =
    let is_found : BlockAt → Bool = λ b. is_leaf_block m.grid b && nat_lt m.grid.shape.min b.level && not (has_cell m.grid.shape.n b (λ c. int_le below (m.cells var c))) in
    with_marks m m.refine (λ b. is_found b || m.derefine b)
