use Rattle.std.proofs.Common.{sym, ◌∙◌}
use Rattle.check_format.proofs.Fields.{shape_says}
use Rattle.check_format.proofs.reading.header.shape_at.Goals as goal

pub returns-then-is_shape-clause-limits : goal.returns-then-is_shape-clause-limits
returns-then-is_shape-clause-limits c = shape_says _ c.in_ok-sides.ensures.six (sym c.is_shape.ensures ∙ c.if-is_shape.true)
