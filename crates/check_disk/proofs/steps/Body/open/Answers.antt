use Rattle.std.proofs.Common.{◌⊎◌}
use Rattle.outside_io.specs.Crash.{Torn, InArea}
use Rattle.outside_io.proofs.Moments.{weaker}
use Rattle.check_disk.specs.Steps.{IsBehind, IsOpened}
use Rattle.check_disk.proofs.Gates.{while_opening}
use Rattle.check_disk.proofs.steps.Body.open.Goals as goal

pub returns-in_err-put_gate-clause-moments : goal.returns-in_err-put_gate-clause-moments
returns-in_err-put_gate-clause-moments g c = λ areas bytes rests written.
    let t = c.args.self.target in
    weaker g.D.Disk.moment g.D.Disk.left_since c.args.disk.now c.put_gate.new.disk (InArea t.area (Torn 0 1) areas) (λ e. IsBehind t.area areas e ⊎ IsOpened t.area bytes areas e)
    (λ e step. while_opening t areas e bytes written step) (c.put_gate.ensures.moments areas rests)
