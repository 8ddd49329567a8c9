use Rattle.mesh_model.proofs.FieldLemmas.CellSums.{cell_view_sum}
use Rattle.mesh_model.proofs.FieldLemmas.ValidGrid.{tree}
use Rattle.mesh_model.proofs.fields.laws.cell_views_add_up.Goals as goal

pub returns : goal.returns
returns c g content d valid = cell_view_sum g content (tree g valid) d
