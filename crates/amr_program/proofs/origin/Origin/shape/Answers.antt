use Rattle.std.proofs.Common.{sym, ap, ◌∙◌}
use Rattle.mesh_model.specs.Run.Runs.{declared_in}
use Rattle.amr_program.specs.Origins.{mesh_from}
use Rattle.amr_program.proofs.Beginning.{declared_read}
use Rattle.amr_program.proofs.origin.Origin.shape.Goals as goal

pub returns-in-Image : goal.returns-in-Image
returns-in-Image c = sym (ap (λ o. (declared_in (mesh_from o)).shape) c.in-Image.is ∙ ap (λ d. d.shape) (declared_read c.in-Image.image))
