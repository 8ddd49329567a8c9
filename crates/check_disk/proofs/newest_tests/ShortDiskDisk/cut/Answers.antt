use Rattle.outside_io.proofs.NoChange.{shortened_same, stays}
use Rattle.outside_io.specs.Areas.{bytes_of}
use Rattle.outside_io.specs.Crash.{Shortened}
use Rattle.check_disk.proofs.newest_tests.ShortDiskDisk.cut.Goals as goal

pub returns-clause-crash : goal.returns-clause-crash
returns-clause-crash c = λ e left. (e, tt, stays c.args._area (Shortened c.args._most) e (shortened_same _ (bytes_of e c.args._area)))
