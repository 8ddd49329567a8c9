-- The exit numbers.
use Rattle.std.specs.Prelude.{ℕ}
use Rattle.amr_program.specs.declared.status.Status.{Status}
use Rattle.amr_program.specs.declared.status.Status.TheVariants.{Done, Words, Script, Stopped, Level, ReadFault, WriteFault, DiskFault, Damaged, NoCheckpoint, OutOfMemory}

abbrev pub exit_of : Status → ℕ
exit_of Done = 0
exit_of Words = 2
exit_of Script = 3
exit_of Stopped = 4
exit_of Level = 5
exit_of ReadFault = 6
exit_of WriteFault = 7
exit_of DiskFault = 8
exit_of Damaged = 9
exit_of NoCheckpoint = 10
exit_of OutOfMemory = 11
