use Rattle.prolong_op.proofs.FaceChildren.{children_split}
use Rattle.prolong_op.proofs.laws.face_children_hold_views.Goals as goal

pub returns : goal.returns
returns c = children_split
