use Rattle.mesh_model.proofs.FieldLemmas.CellKinds.{wide_of}
use Rattle.mesh_model.proofs.FieldLemmas.Beside.{calm}
use Rattle.mesh_model.proofs.FieldLemmas.Means.{view_inner, view_mean}
use Rattle.mesh_model.proofs.fields.laws.inner_rules_read_views.Goals as goal

pub returns : goal.returns
returns c = record {
  sides = λ g d valid i whole. calm g valid (wide_of g.shape valid.shape) d i whole;
  faces = λ g number l f valid deep i whole no_leaf odd. view_inner g valid l f deep i whole no_leaf number odd;
  edges = λ g number l e valid deep i whole no_leaf odd. view_mean g valid l e deep i number whole no_leaf odd;
}
