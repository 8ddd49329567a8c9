use Rattle.std.proofs.Common.{w64, sym, ap, ◌∙◌, rules}
use Rattle.std.proofs.lemmas.Int.{to_z-of_z}
use Rattle.block_tree.specs.GridOf.{grid_of}
use Rattle.mesh_model.specs.Tree.Reported.{across, reported}
use Rattle.amr_report.proofs.Reported.{number_is, no_number}
use Rattle.amr_report.proofs.nodes.number_across.Goals as goal

pub returns-in-Some-node_at : goal.returns-in-Some-node_at
returns-in-Some-node_at c =
    to_z-of_z w64 c.from.result (search rules)
    ∙ (c.from.ensures ∙ sym (ap (across (grid_of c.args.tree.now)) c.in-Some.is ∙ ap reported (number_is c.args.tree.now c.in-Some.b c.in-Some-node_at.node c.in-Some-node_at.ensures)))

pub returns-in-None-node_at : goal.returns-in-None-node_at
returns-in-None-node_at c = sym (ap (across (grid_of c.args.tree.now)) c.in-Some.is ∙ ap reported (no_number c.args.tree.now c.in-Some.b c.in-None-node_at.ensures))
