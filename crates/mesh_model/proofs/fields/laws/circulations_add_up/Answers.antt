use Rattle.mesh_model.proofs.FieldLemmas.CellKinds.{wide_of}
use Rattle.mesh_model.proofs.FieldLemmas.ValidGrid.{tree, deep_edge}
use Rattle.mesh_model.proofs.FieldLemmas.EdgeSums.{edge_view_sum}
use Rattle.mesh_model.proofs.FieldLemmas.Circling.{circulation_sum}
use Rattle.mesh_model.proofs.fields.laws.circulations_add_up.Goals as goal

pub returns : goal.returns
returns c g number f valid = circulation_sum g _ (λ e. edge_view_sum g (tree g valid) (wide_of g.shape valid.shape) number e (deep_edge g valid e)) f
