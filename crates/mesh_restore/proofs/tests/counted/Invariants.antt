use Rattle.std.proofs.Common.{◌^◌}
use Rattle.mesh_restore.specs.Filling.{AreWithin}
use Rattle.mesh_restore.proofs.tests.counted.Given as goal

abbrev pub invariant-loop-number : goal.invariant-loop-number
invariant-loop-number l = record { within : AreWithin (2 ^ 40) l.list.items }
