use Rattle.check_format.proofs.BodyPieces.{pieces_are_body}
use Rattle.check_format.proofs.SamePieces.{same_pieces}
use Rattle.check_format.proofs.laws.pieces_are_the_image.Goals as goal

pub returns-clause-body : goal.returns-clause-body
returns-clause-body c = pieces_are_body

pub returns-clause-same : goal.returns-clause-same
returns-clause-same c = same_pieces
