-- Guard values: what stands at block indices beyond a block, in the domain and outside it.
use Rattle.std.specs.Prelude.{ℕ, ℤ}
use Rattle.amr_num.specs.declared.Axis.{Axis}
use Rattle.amr_num.specs.declared.CellAt.{CellAt}
use Rattle.amr_num.specs.declared.FaceAt.{FaceAt}
use Rattle.amr_num.specs.declared.EdgeAt.{EdgeAt}
use Rattle.mesh_model.specs.Tree.Kinds.{Grid}
use Rattle.mesh_model.specs.Fields.Views.{cell_view, face_view, edge_view}
use Rattle.mesh_model.specs.Geometry.Outside.{inside_cell, inside_face, inside_edge}

-- the guard value at a coordinate is the view at the coordinate that stands for it inside
abbrev pub cell_guard : Grid → (CellAt → ℤ) → ℕ → ℤ → ℤ → ℤ → ℤ
cell_guard g content l x y z = cell_view g content (inside_cell g.shape l x y z)

abbrev pub face_guard : Grid → (FaceAt → ℤ) → Axis → ℕ → ℤ → ℤ → ℤ → ℤ
face_guard g number a l x y z = face_view g number (inside_face g.shape a l x y z)

abbrev pub edge_guard : Grid → (EdgeAt → ℤ) → Axis → ℕ → ℤ → ℤ → ℤ → ℤ
edge_guard g number a l x y z = edge_view g number (inside_edge g.shape a l x y z)
