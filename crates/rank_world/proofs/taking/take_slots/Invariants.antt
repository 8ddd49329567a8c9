use Rattle.std.proofs.Common.{◌≡◌, ◌≤◌, vec_capacity, vec_len}
use Rattle.rank_world.specs.Slots.{AreTaken}
use Rattle.rank_world.proofs.taking.take_slots.Given as goal

abbrev pub invariant-loop-node : goal.invariant-loop-node
invariant-loop-node g l = record {
  taken : AreTaken g.row.N g.row.G l.initial.pool l.pool l.node l.slots.items;
  room : l.nodes ≤ vec_capacity l.slots;
  count : vec_len l.slots ≡ l.node;
}
