use Rattle.std.proofs.Common.{take}
use Rattle.outside_io.specs.Areas.{bytes_of}
use Rattle.outside_io.specs.Log.{CutTo}
use Rattle.outside_io.proofs.Sound.{cut_crash, change_time}
use Rattle.outside_io.proofs.memory_disk.MemDiskDisk.cut.Goals as goal

pub returns-clause-crash : goal.returns-clause-crash
returns-clause-crash c = cut_crash c.shorten.result c.args.area c.args.self.now c.shorten.new.self c.shorten.ensures.sound c.args.most c.shorten.ensures.after c.shorten.ensures.unmoved

pub returns-clause-time : goal.returns-clause-time
returns-clause-time c = change_time c.shorten.result c.args.area c.args.self.now c.shorten.new.self c.shorten.ensures.sound (CutTo c.args.most) (take c.args.most (bytes_of c.args.self.now.areas c.args.area)) 0 c.shorten.ensures.after c.shorten.ensures.unmoved
