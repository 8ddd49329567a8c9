use Rattle.std.proofs.Common.{◌*◌, ◌<◌, ◌≤◌, ap₂, subst, sym}
use Rattle.mesh_model.proofs.GeometryLemmas.ShapeLimits.{extent_some, extent_few}
use Rattle.mesh_model.proofs.geometry.axes.extent.Goals as goal

pub returns-clause-some : goal.returns-clause-some
returns-clause-some c = subst (λ e. 0 < e) (ap₂ (λ r p. r * c.args.shape.now.n * p) (sym c.roots.ensures) (sym c.power_of_two.ensures)) (extent_some c.requires.shape c.args.axis c.args.level)

pub returns-clause-size : goal.returns-clause-size
returns-clause-size c = subst (λ e. e ≤ 65536) (ap₂ (λ r p. r * c.args.shape.now.n * p) (sym c.roots.ensures) (sym c.power_of_two.ensures)) (extent_few c.requires.shape c.args.axis c.args.level c.requires.level)
