use Rattle.mesh_model.proofs.FieldLemmas.BlockOctants.{child_parted}
use Rattle.prolong_op.proofs.laws.children_hold_views.Goals as goal

pub returns : goal.returns
returns c = λ g content b q parent old new valid hq whole is views. child_parted g content b q parent old new valid hq whole is views
