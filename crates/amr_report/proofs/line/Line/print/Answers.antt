use Rattle.std.proofs.Common.{subst}
use Rattle.amr_report.specs.Printing.{Prints}
use Rattle.amr_report.proofs.Printed.{printed}
use Rattle.amr_report.proofs.line.Line.print.Goals as goal

pub returns : goal.returns
returns g c =
    let told = c.write_all.ensures in
    subst (λ text. Prints c.write_all.result (g.K.Sink.taken c.args.sink.now) text (g.K.Sink.taken c.write_all.new.sink) (g.K.Sink.faults c.args.sink.now) (g.K.Sink.faults c.write_all.new.sink)) c.as_bytes.ensures (printed _ _ _ c.as_bytes.result.now _ _ told.bytes told.prefix told.calm told.fault)
