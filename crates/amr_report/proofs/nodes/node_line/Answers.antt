use Rattle.std.proofs.Common.{w64, ap, ap₂, ◌∙◌, rules}
use Rattle.std.proofs.lemmas.Int.{to_z-of_z}
use mir.Val.{SFits, of_z, to_z}
use Rattle.amr_num.specs.declared.Axis.TheVariants.{X, Y, Z}
use Rattle.block_tree.specs.GridOf.{grid_of}
use Rattle.amr_report.specs.Nodes.{node_begin, with_across, with_kind}
use Rattle.amr_report.proofs.Reported.{node_whole}
use Rattle.amr_report.proofs.nodes.node_line.Goals as goal

pub returns : goal.returns
returns c =
    let grid = grid_of c.args.tree.now in
    let b = c.at-b.result in
    let parent = c.parent_of.result in
    let fits : SFits w64 parent = search rules in
    let begun = ap (λ l. with_kind l c.type_of.result (to_z w64 (of_z w64 parent))) c.begin_node-line.ensures.text in
    let kind = ap₂ (with_kind (node_begin c.args.node b)) c.type_of.ensures (to_z-of_z w64 parent fits ∙ c.parent_of.ensures) in
    let on_x = c.push_across.ensures.text ∙ ap (λ l. with_across l grid X b) (c.push_kind.ensures.text ∙ (begun ∙ kind)) in
    let on_y = c.push_across-2.ensures.text ∙ ap (λ l. with_across l grid Y b) on_x in
    let on_z = c.push_across-3.ensures.text ∙ ap (λ l. with_across l grid Z b) on_y in
    c.end.ensures ∙ node_whole grid c.args.node b _ c.at-b.ensures.value on_z
