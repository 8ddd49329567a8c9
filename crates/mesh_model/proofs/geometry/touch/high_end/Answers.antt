use Rattle.std.proofs.Common.{◌≡◌, suc, ◌+◌, ◌*◌, arith, ap₂}
use Rattle.mesh_model.specs.Geometry.Touch.{high_end}
use Rattle.mesh_model.proofs.GeometryLemmas.Ends.{end_at_most}
use Rattle.mesh_model.proofs.geometry.touch.high_end.Goals as goal

pub overflow_mul-result : goal.overflow_mul-result
overflow_mul-result c = let size = end_at_most c.args.level (c.args.x + 1) c.power_of_two.result c.requires.level (omega arith) c.power_of_two.ensures in omega arith

pub returns-clause-value : goal.returns-clause-value
unfolding high_end
returns-clause-value c = let next : c.args.x + 1 ≡ suc c.args.x = omega arith in ap₂ (λ x p. x * p) next c.power_of_two.ensures

pub returns-clause-size : goal.returns-clause-size
returns-clause-size c = end_at_most c.args.level (c.args.x + 1) c.power_of_two.result c.requires.level (omega arith) c.power_of_two.ensures
