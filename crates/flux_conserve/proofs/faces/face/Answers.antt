use Rattle.std.proofs.Common.{rules}
use Rattle.flux_conserve.specs.FaceArrays.{face_at}
use Rattle.flux_conserve.proofs.faces.face.Goals as goal

pub returns : goal.returns
unfolding face_at
returns c = search rules
