use Rattle.std.proofs.Common.{◌≡◌, ℕ, ◌<◌, false}
use Rattle.block_tree.specs.GridOf.{grid_of}
use Rattle.refine_marks.proofs.Flagged.{is_near}
use Rattle.refine_marks.proofs.neighbours.touches_flagged.Given as goal

abbrev pub invariant-loop-node : goal.invariant-loop-node
invariant-loop-node l = (k : ℕ) → k < l.node → is_near (grid_of l.tree) l.flags l.block l.level k ≡ false
