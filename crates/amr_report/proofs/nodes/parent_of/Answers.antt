use Rattle.std.proofs.Common.{w64, sym, ◌∙◌, rules}
use Rattle.std.proofs.lemmas.Int.{to_z-of_z}
use Rattle.block_tree.specs.GridOf.{grid_of}
use Rattle.block_tree.specs.Numbered.{block_at}
use Rattle.amr_report.proofs.Reported.{parent_is}
use Rattle.amr_report.proofs.nodes.parent_of.Goals as goal

pub returns-in-Some : goal.returns-in-Some
returns-in-Some c =
    let told = c.in-Some.ensures in
    to_z-of_z w64 c.from.result (search rules)
    ∙ (c.from.ensures ∙ sym (parent_is c.args.tree.now (block_at (grid_of c.args.tree.now) c.args.node) c.in-Some.parent told.0 told.1))
