use Rattle.outside_io.specs.Areas.{bytes_of}
use Rattle.outside_io.specs.Log.{Synced}
use Rattle.outside_io.proofs.Sound.{sync_crash, sync_durable, change_time}
use Rattle.outside_io.proofs.memory_disk.MemDiskDisk.sync.Goals as goal

pub returns-clause-crash : goal.returns-clause-crash
returns-clause-crash c = sync_crash c.settle.result c.args.area c.args.self.now c.settle.new.self c.settle.ensures.sound c.settle.ensures.after c.settle.ensures.unmoved

pub returns-clause-time : goal.returns-clause-time
returns-clause-time c = change_time c.settle.result c.args.area c.args.self.now c.settle.new.self c.settle.ensures.sound Synced (bytes_of c.args.self.now.areas c.args.area) 0 c.settle.ensures.after c.settle.ensures.unmoved

pub returns-clause-durable : goal.returns-clause-durable
returns-clause-durable c = sync_durable c.settle.result c.args.area c.args.self.now c.settle.new.self c.settle.ensures.sound c.settle.ensures.after
