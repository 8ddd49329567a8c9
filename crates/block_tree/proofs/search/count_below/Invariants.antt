use Rattle.std.proofs.Common.{◌-◌}
use Rattle.block_tree.specs.Searching.{IsCut}
use Rattle.block_tree.proofs.search.count_below.Given as goal

abbrev pub invariant-loop-low : goal.invariant-loop-low
invariant-loop-low l = IsCut l.nodes l.key.0 l.low l.high

abbrev pub decreases-loop-low : goal.decreases-loop-low
decreases-loop-low l = l.high - l.low
