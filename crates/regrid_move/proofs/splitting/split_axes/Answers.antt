use Rattle.std.proofs.Common.{ap, sym, ◌∙◌}
use Rattle.amr_num.specs.declared.Axis.TheVariants.{X, Y, Z}
use Rattle.mesh_model.specs.Fields.Ranks.{Told}
use Rattle.mesh_model.specs.Tree.Kinds.{Grid}
use Rattle.block_tree.specs.Numbered.{block_at}
use Rattle.regrid_move.proofs.AxisMoved.{one_moved, three_moved}
use Rattle.regrid_move.proofs.splitting.split_axes.Goals as goal

pub returns-clause-views : goal.returns-clause-views
returns-clause-views g c field holds =
    let old = c.args.old.now in
    let node = c.args.node in
    let one = c.put_axis in
    let two = c.put_axis-2 in
    let last = c.put_axis-3 in
    let views = c.child_axes.ensures.views field holds in
    let here = ap (λ (h : Grid). block_at h node) (sym c.tree.ensures) ∙ sym c.at-block.ensures.value in
    let at_one = ap (λ (t : Told). block_at t.grid node) one.ensures.only.told in
    let at_two = ap (λ (t : Told). block_at t.grid node) two.ensures.only.told in
    let at_last = ap (λ (t : Told). block_at t.grid node) last.ensures.only.told in
    three_moved c.args.kind c.args.new.now one.new.new two.new.new last.new.new node one.ensures.only two.ensures.only last.ensures.only old field
    (one_moved c.args.kind old one.new.new field node X c.at-block.result c.child_axes.new.cx (at_one ∙ here) one.ensures.value (views X))
    (one_moved c.args.kind old two.new.new field node Y c.at-block.result c.child_axes.new.cy (at_two ∙ at_one ∙ here) two.ensures.value (views Y))
    (one_moved c.args.kind old last.new.new field node Z c.at-block.result c.child_axes.new.cz (at_last ∙ at_two ∙ at_one ∙ here) last.ensures.value (views Z))
