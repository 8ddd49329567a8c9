use Rattle.std.proofs.Common.{◌≡◌, ◌≢◌, All, take}
use Rattle.amr_engine.specs.Plain.{declared_of, plain}
use Rattle.mesh_model.specs.Run.Runs.{TheDisk, needs, texts}
use Rattle.outside_io.specs.Moved.{Takes}
use Rattle.amr_program.proofs.Commands.{Kept, Progress}
use Rattle.amr_program.proofs.run.run.Given as goal

abbrev pub invariant-loop-line : goal.invariant-loop-line
invariant-loop-line g l = record {
  progress : Progress (plain l.fn.engine) l.lines l.line-index (plain l.engine);
  text : Takes (g.K.Sink.taken l.fn.sink) (texts (plain l.fn.engine) (take l.line-index l.lines)) (g.K.Sink.taken l.sink);
  calm : g.K.Sink.faults l.sink ≡ g.K.Sink.faults l.fn.sink;
  declared : declared_of l.engine ≡ declared_of l.fn.engine;
  kept : Kept g.D.Disk.holds g.D.Disk.may_leave g.D.Disk.moment g.D.Disk.left_since g.D.Disk.faults (plain l.fn.engine) l.lines l.line-index l.fn.disk l.disk;
  idle : All (λ line. needs line.command ≢ TheDisk) l.lines → l.disk ≡ l.fn.disk;
}
