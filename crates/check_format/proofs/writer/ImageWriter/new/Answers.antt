use Rattle.std.proofs.Common.{◌++◌, ap}
use Rattle.sha2.specs.Sha256.{sha256}
use Rattle.mesh_model.specs.Images.Image.{image}
use Rattle.check_format.proofs.BodyPieces.{pieces_are_body}
use Rattle.check_format.proofs.writer.ImageWriter.new.Goals as goal

pub returns-clause-left : goal.returns-clause-left
unfolding image
returns-clause-left c m valid = ap (λ u. u ++ sha256 u) (pieces_are_body m c.args.turn valid)
