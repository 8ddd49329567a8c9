use Rattle.std.proofs.Common.{◌≡◌}
use Rattle.block_tree.specs.Marked.{IsMarksOf, room}
use Rattle.amr_engine.proofs.Marked.{AreMarkedBelow}
use Rattle.amr_engine.proofs.marking.mark_where.Given as goal

abbrev pub invariant-loop-node : goal.invariant-loop-node
invariant-loop-node g l = record {
  room : room l.marks ≡ room l.initial.marks;
  marks : IsMarksOf l.world.told.grid l.marks;
  marked : AreMarkedBelow l.node l.world l.v l.rule l.initial.marks l.marks;
}
