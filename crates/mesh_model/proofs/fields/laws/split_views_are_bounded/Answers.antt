use Rattle.std.proofs.Common.{ℕ, ◌<◌, ◌≤◌, arith}
use Rattle.mesh_model.proofs.GeometryLemmas.ShapeLimits.{cells_least}
use Rattle.mesh_model.proofs.FieldLemmas.KeptValid.{leaf_cells_few}
use Rattle.mesh_model.proofs.FieldLemmas.Bounds.{split_view_within}
use Rattle.mesh_model.proofs.FieldLemmas.SideBounds.{split_face_within}
use Rattle.mesh_model.proofs.FieldLemmas.EdgeBounds.{split_edge_within}
use Rattle.mesh_model.proofs.fields.laws.split_views_are_bounded.Goals as goal

two : (n : ℕ) → 4 ≤ n → 1 < n
two n h = omega arith

pub returns : goal.returns
returns c = record {
  cells = λ g content most valid small d split. split_view_within g valid content most small d split;
  faces = λ g number most valid small f split. split_face_within g valid number most small (two g.shape.n (cells_least valid.shape)) f split;
  edges = λ g number most valid small e split. split_edge_within g valid number most small (two g.shape.n (cells_least valid.shape)) e split;
  few = leaf_cells_few;
}
