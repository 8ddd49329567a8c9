use Rattle.std.proofs.Common.{subst, sym, length, List, ℕ}
use Rattle.std.specs.Prelude.{flat_map}
use Rattle.block_tree.proofs.Facts.{known}
use Rattle.mesh_model.specs.Tree.Order.{nodes}
use Rattle.mesh_model.specs.Tree.Kinds.{Grid}
use Rattle.mesh_model.specs.Geometry.Places.{places}
use Rattle.mesh_model.specs.Tree.ValidGrid.{Valid}
use Rattle.amr_report.specs.Arrays.{leaf_text_of}
use Rattle.amr_report.specs.Printing.{Prints}
use Rattle.amr_report.proofs.Views.{leaves_are_shown}
use Rattle.amr_report.proofs.variables.print_var.Goals as goal

pub returns : goal.returns
returns g c m grid name views =
    let number = g.V.BlockValues.number c.args.values.now in
    let group = c.args.group in
    let tree = c.args.tree.now in
    let P : List ℕ → Type 0 = λ text. Prints c.print_leaves.result (g.K.Sink.taken c.args.sink.now) text (g.K.Sink.taken c.print_leaves.new.sink) (g.K.Sink.faults c.args.sink.now) (g.K.Sink.faults c.print_leaves.new.sink) in
    let text : Grid → List ℕ → List ℕ = λ at name. flat_map (leaf_text_of number name at group) (places (length (nodes at.leaves))) in
    let of_grid = subst (λ at. P (text at c.args.name.now)) (sym grid) c.print_leaves.ensures in
    let of_name = subst (λ n. P (text m.grid n)) (sym name) of_grid in
    let valid = subst Valid (sym grid) (known tree).valid in
    subst P (leaves_are_shown number m group valid views) of_name
