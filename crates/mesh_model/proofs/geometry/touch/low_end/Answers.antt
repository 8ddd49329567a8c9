use Rattle.std.proofs.Common.{◌*◌, arith, ap}
use Rattle.mesh_model.specs.Geometry.Touch.{low_end}
use Rattle.mesh_model.proofs.GeometryLemmas.Ends.{end_at_most}
use Rattle.mesh_model.proofs.geometry.touch.low_end.Goals as goal

pub overflow_mul-result : goal.overflow_mul-result
overflow_mul-result c = let size = end_at_most c.args.level c.args.x c.power_of_two.result c.requires.level (omega arith) c.power_of_two.ensures in omega arith

pub returns-clause-value : goal.returns-clause-value
unfolding low_end
returns-clause-value c = ap (λ p. c.args.x * p) c.power_of_two.ensures

pub returns-clause-size : goal.returns-clause-size
returns-clause-size c = end_at_most c.args.level c.args.x c.power_of_two.result c.requires.level (omega arith) c.power_of_two.ensures
