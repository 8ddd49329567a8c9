-- The plain mesh: its leaves, and the numbers on leaf cells, leaf faces and leaf edges.
use Rattle.std.specs.Prelude.{ℕ, Bool, ◌&&◌, ℤ, pos, if◌then◌else◌}
use Rattle.amr_num.specs.declared.BlockAt.{BlockAt}
use Rattle.amr_num.specs.declared.CellAt.{CellAt}
use Rattle.amr_num.specs.declared.FaceAt.{FaceAt}
use Rattle.amr_num.specs.declared.EdgeAt.{EdgeAt}
use Rattle.mesh_model.specs.Fields.VariableNames.{VariableNames}
use Rattle.mesh_model.specs.Tree.MarkedGrid.{MarkedGrid}
use Rattle.mesh_model.specs.Tree.Kinds.{Grid, is_leaf, is_leaf_edge, is_leaf_face}
use Rattle.mesh_model.specs.Geometry.Canonical.{is_canonical, is_canonical_edge}

-- the plain mesh
pub record Mesh : Type 0 where
  pub grid : Grid
  -- the names of its variables
  pub names : VariableNames
  -- the content of a cell variable in a leaf cell, and what flowed out of it
  pub cells : ℕ → CellAt → ℤ
  pub outs : ℕ → ℤ
  -- the number of the face variable on a leaf face, and of the edge variable on a leaf edge
  pub faces : FaceAt → ℤ
  pub edges : EdgeAt → ℤ
  -- the leaves that are marked
  pub refine : BlockAt → Bool
  pub derefine : BlockAt → Bool

-- a field on leaf cells, on canonical leaf faces or on canonical leaf edges, and 0 elsewhere
abbrev pub on_cells : Grid → (CellAt → ℤ) → CellAt → ℤ
on_cells g f c = if is_leaf g c then f c else pos 0

abbrev pub on_faces : Grid → (FaceAt → ℤ) → FaceAt → ℤ
on_faces g f c = if is_canonical g.shape c && is_leaf_face g c then f c else pos 0

abbrev pub on_edges : Grid → (EdgeAt → ℤ) → EdgeAt → ℤ
on_edges g f c = if is_canonical_edge g.shape c && is_leaf_edge g c then f c else pos 0

-- the grid of a mesh with its marks
abbrev pub marked : Mesh → MarkedGrid
marked m = record { grid = m.grid; refine = m.refine; derefine = m.derefine }
