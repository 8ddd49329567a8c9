use Rattle.std.proofs.Common.{◌≡◌, ℕ, List, Some, subst, sym}
use Rattle.block_tree.specs.GridOf.{grid_of}
use Rattle.amr_report.specs.Arrays.{group_text, whole_of}
use Rattle.amr_report.specs.Printing.{Prints}
use Rattle.amr_report.proofs.Views.{whole_is}
use Rattle.amr_report.proofs.variables.print_guards.Goals as goal

pub returns : goal.returns
returns g c m grid name values =
    let number = g.V.BlockValues.number c.args.values.now in
    let group = c.args.group in
    let P : List ℕ → Type 0 = λ text. Prints c.print_group.result (g.K.Sink.taken c.args.sink.now) text (g.K.Sink.taken c.print_group.new.sink) (g.K.Sink.faults c.args.sink.now) (g.K.Sink.faults c.print_group.new.sink) in
    let shown : record { node = c.args.node; block = c.at.result; cells = c.shape-shape.result.n; guards = Some c.shape-shape.result.g } ≡ whole_of (grid_of c.args.tree.now) c.args.node = λ i. record { node = c.args.node; block = c.at.ensures.value i; cells = (c.shape-shape.ensures.value i).n; guards = Some (c.shape-shape.ensures.value i).g } in
    let of_tree = subst (λ s. P (group_text number c.args.name.now s group)) shown c.print_group.ensures in
    let of_grid = subst (λ at. P (group_text number c.args.name.now (whole_of at c.args.node) group)) (sym grid) of_tree in
    let of_name = subst (λ n. P (group_text number n (whole_of m.grid c.args.node) group)) (sym name) of_grid in
    subst P (whole_is number m group c.args.node values) of_name
