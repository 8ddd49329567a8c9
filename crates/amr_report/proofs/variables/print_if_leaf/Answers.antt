use Rattle.std.proofs.Common.{◌≡◌, None, subst, sym, ◌∙◌}
use Rattle.block_tree.specs.GridOf.{grid_of}
use Rattle.amr_report.specs.Arrays.{group_text, interior_of}
use Rattle.amr_report.specs.Printing.{Prints}
use Rattle.amr_report.proofs.Printed.{Printed, none_printed}
use Rattle.amr_report.proofs.Views.{leaf_shown, other_shown}
use Rattle.amr_report.proofs.variables.print_if_leaf.Goals as goal

pub returns-then-not-is_leaf : goal.returns-then-not-is_leaf
returns-then-not-is_leaf g c =
    let text = other_shown (g.V.BlockValues.number c.args.values.now) c.args.name.now (grid_of c.args.tree.now) c.args.group c.args.node (sym c.is_leaf.ensures ∙ c.if-not-is_leaf.true) in
    subst (λ t. Printed (g.K.Sink.taken c.args.sink.now) t (g.K.Sink.taken c.args.sink.now) (g.K.Sink.faults c.args.sink.now) (g.K.Sink.faults c.args.sink.now)) (sym text) (none_printed _ _)

pub returns : goal.returns
returns g c =
    let number = g.V.BlockValues.number c.args.values.now in
    let name = c.args.name.now in
    let grid = grid_of c.args.tree.now in
    let shown : record { node = c.args.node; block = c.at.result; cells = c.shape.result.n; guards = None } ≡ interior_of grid c.args.node = λ i. record { node = c.args.node; block = c.at.ensures.value i; cells = (c.shape.ensures.value i).n; guards = None } in
    let text = leaf_shown number name grid c.args.group c.args.node (sym c.is_leaf.ensures ∙ c.if-not-is_leaf.false) in
    subst (λ t. Prints c.print_group.result (g.K.Sink.taken c.args.sink.now) t (g.K.Sink.taken c.print_group.new.sink) (g.K.Sink.faults c.args.sink.now) (g.K.Sink.faults c.print_group.new.sink)) (sym text)
    (subst (λ s. Prints c.print_group.result (g.K.Sink.taken c.args.sink.now) (group_text number name s c.args.group) (g.K.Sink.taken c.print_group.new.sink) (g.K.Sink.faults c.args.sink.now) (g.K.Sink.faults c.print_group.new.sink)) shown c.print_group.ensures)
