use Rattle.block_tree.specs.Surrounded.{AreRound}
use Rattle.block_tree.proofs.rule.is_surrounded.Given as goal

abbrev pub invariant-loop-number : goal.invariant-loop-number
invariant-loop-number l = AreRound l.shape l.nodes l.b l.number
