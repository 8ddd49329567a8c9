use Rattle.std.proofs.Common.{◌≡◌, ℕ, ◌<◌, true}
use Rattle.block_tree.specs.Numbered.{block_in, flag_in}
use Rattle.block_tree.specs.Surrounded.{AreRound}
use Rattle.block_tree.proofs.rule.keeps_level_rule.Given as goal

abbrev pub invariant-loop-node : goal.invariant-loop-node
invariant-loop-node l = (k : ℕ) → k < l.node → flag_in l.above k ≡ true → AreRound l.shape l.nodes (block_in l.nodes k) 27
