use Rattle.std.proofs.Common.{length}
use Rattle.outside_io.proofs.NoChange.{stays, torn_same}
use Rattle.outside_io.specs.Areas.{bytes_of}
use Rattle.outside_io.specs.Crash.{Torn}
use Rattle.check_disk.proofs.newest_tests.ShortDiskDisk.write_at.Goals as goal

pub returns-clause-crash : goal.returns-clause-crash
returns-clause-crash c = λ e left. (e, tt, stays c.args._area (Torn c.args._place (length c.args._piece.now)) e (torn_same _ _ (bytes_of e c.args._area)))
