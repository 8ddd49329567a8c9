use Rattle.outside_io.proofs.NoChange.{shortened_same, stays}
use Rattle.outside_io.specs.Areas.{bytes_of}
use Rattle.outside_io.specs.Crash.{Shortened}
use Rattle.outside_io.proofs.folder_disk.FolderDiskDisk.cut.Goals as goal

pub returns-clause-crash : goal.returns-clause-crash
returns-clause-crash g c = λ e left. (e, tt, stays c.args.area (Shortened c.args.most) e (shortened_same _ (bytes_of e c.args.area)))
