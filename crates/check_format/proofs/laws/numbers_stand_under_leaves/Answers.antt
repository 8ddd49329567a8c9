use Rattle.check_format.proofs.OwnGroups.{edges_by_leaves, faces_by_leaves}
use Rattle.check_format.proofs.laws.numbers_stand_under_leaves.Goals as goal

pub returns-clause-faces : goal.returns-clause-faces
returns-clause-faces c = faces_by_leaves

pub returns-clause-edges : goal.returns-clause-edges
returns-clause-edges c = edges_by_leaves
