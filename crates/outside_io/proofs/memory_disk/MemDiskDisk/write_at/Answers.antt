use Rattle.std.proofs.Common.{length}
use Rattle.outside_io.specs.Areas.{bytes_of, overwritten}
use Rattle.outside_io.specs.Log.{Wrote}
use Rattle.outside_io.proofs.Sound.{write_crash, change_time}
use Rattle.outside_io.proofs.memory_disk.MemDiskDisk.write_at.Goals as goal

pub returns-clause-crash : goal.returns-clause-crash
returns-clause-crash c = write_crash c.write.result c.args.area c.args.self.now c.write.new.self c.write.ensures.sound c.args.place c.args.piece.now c.requires c.write.ensures.after c.write.ensures.unmoved

pub returns-clause-time : goal.returns-clause-time
returns-clause-time c = change_time c.write.result c.args.area c.args.self.now c.write.new.self c.write.ensures.sound (Wrote c.args.place c.args.piece.now) (overwritten c.args.place c.args.piece.now (bytes_of c.args.self.now.areas c.args.area)) (length c.args.piece.now) c.write.ensures.after c.write.ensures.unmoved
