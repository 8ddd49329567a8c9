use Rattle.std.proofs.Common.{length}
use Rattle.outside_io.proofs.NoChange.{torn_same, stays}
use Rattle.outside_io.specs.Areas.{bytes_of}
use Rattle.outside_io.specs.Crash.{Torn}
use Rattle.outside_io.proofs.folder_disk.FolderDiskDisk.write_at.Goals as goal

pub returns-clause-crash : goal.returns-clause-crash
returns-clause-crash g c = λ e left. (e, tt, stays c.args.area (Torn c.args.place (length c.args.piece.now)) e (torn_same _ _ (bytes_of e c.args.area)))
