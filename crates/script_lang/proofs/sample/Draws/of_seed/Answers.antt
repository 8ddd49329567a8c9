use Rattle.std.proofs.Common.{refl}
use Rattle.mesh_model.specs.Language.Sample.{draw}
use Rattle.script_lang.proofs.sample.Draws.of_seed.Goals as goal

pub returns : goal.returns
unfolding draw
returns c = refl
