use Rattle.std.proofs.Common.{subst, ap, ◌∙◌}
use Rattle.std.proofs.lemmas.Result.{err_from_is_err_and}
use Rattle.amr_report.specs.Arrays.{array_on, head_line, named_array, planes_text}
use Rattle.amr_report.specs.Printing.{Prints}
use Rattle.amr_report.proofs.Printed.{Broke, Printed, first_broke, printed_after}
use Rattle.amr_report.proofs.arrays.print_array.Goals as goal

pub returns-in_err-print : goal.returns-in_err-print
unfolding named_array
returns-in_err-print g c =
    let p = err_from_is_err_and c.from_residual.result c.from_residual.ensures.1 in
    let s = c.args.shown.now in
    let var = array_on c.args.group c.args.axis in
    let head = c.head_line.ensures ∙ ap (head_line c.args.name.now s) c.array_on-var.ensures in
    let failed = subst (λ text. Broke (g.K.Sink.taken c.args.sink.now) text (g.K.Sink.taken c.print.new.sink) (g.K.Sink.faults c.args.sink.now) (g.K.Sink.faults c.print.new.sink)) head c.in_err-print.ensures in
    rw p.1 (first_broke _ _ (head_line c.args.name.now s var) (planes_text (g.V.BlockValues.number c.args.values.now) s var) _ _ failed)

pub returns : goal.returns
unfolding named_array
returns g c =
    let s = c.args.shown.now in
    let var = array_on c.args.group c.args.axis in
    let number = g.V.BlockValues.number c.args.values.now in
    let head = c.head_line.ensures ∙ ap (head_line c.args.name.now s) c.array_on-var.ensures in
    let one = subst (λ text. Printed (g.K.Sink.taken c.args.sink.now) text (g.K.Sink.taken c.print.new.sink) (g.K.Sink.faults c.args.sink.now) (g.K.Sink.faults c.print.new.sink)) head c.in_ok-print.ensures in
    let two = subst (λ v. Prints c.print_planes.result (g.K.Sink.taken c.print.new.sink) (planes_text number s v) (g.K.Sink.taken c.print_planes.new.sink) (g.K.Sink.faults c.print.new.sink) (g.K.Sink.faults c.print_planes.new.sink)) c.array_on-var.ensures c.print_planes.ensures in
    printed_after _ _ _ _ (head_line c.args.name.now s var) (planes_text number s var) _ _ _ one two
