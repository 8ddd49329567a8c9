use Rattle.amr_num.specs.declared.Axis.TheVariants.{X, Y, Z}
use Rattle.mesh_model.proofs.FieldLemmas.CellKinds.{wide_of}
use Rattle.mesh_model.proofs.FieldLemmas.ValidGrid.{tree, deep_face}
use Rattle.mesh_model.proofs.FieldLemmas.Balancing.{octants_balance}
use Rattle.mesh_model.proofs.FieldLemmas.Inside.{sub_cells_balance}
use Rattle.mesh_model.proofs.FieldLemmas.RegridBalance.{balanced_everywhere}
use Rattle.mesh_model.proofs.fields.laws.inner_rule_balances.Goals as goal

pub returns : goal.returns
returns c = record {
  octants = octants_balance;
  sub_cells = λ g number d valid i whole h q p. sub_cells_balance g (tree g valid) (wide_of g.shape valid.shape) number d whole (i X) (i Y) (i Z) (deep_face g valid) h q p;
  cells = λ g number d valid balanced i. balanced_everywhere g valid number balanced d i;
}
