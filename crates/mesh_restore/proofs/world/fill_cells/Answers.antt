use Rattle.std.proofs.Common.{◌≡◌, ◌<◌, ◌≤◌, length, List, ℤ, [], ap, subst, sym, ◌∙◌, arith, rules}
use Rattle.std.specs.Global.{Vec}
use Rattle.std.proofs.lemmas.List.{get_or-map}
use Rattle.block_tree.proofs.Facts.{known}
use Rattle.mesh_model.specs.Tree.Kinds.{Grid}
use Rattle.mesh_model.specs.Tree.Order.{Sorted}
use Rattle.mesh_model.specs.Tree.ValidGrid.{Valid}
use Rattle.mesh_restore.specs.Restoring.{list_at}
use Rattle.mesh_restore.proofs.WorldLemmas.{contents_more, only_cells}
use Rattle.mesh_restore.proofs.world.fill_cells.Goals as goal

pub loop-variable-preserved : goal.loop-variable-preserved
loop-variable-preserved g c =
    let old = c.args.world.now in
    let now = c.loop-variable.world in
    let new = c.fill_group.new.world in
    let m = c.loop-variable.variable in
    let inv = c.loop-variable.invariant in
    let all = known c.tree-tree.result.now in
    let few : m < length c.args.cells.now = search rules in
    let is : c.deref.result.now ≡ list_at c.args.cells.now m =
    c.deref.ensures.value ∙ ap (λ (v : Vec ℤ). v.items) c.index-cells-variable.is ∙ sym (get_or-map (λ (v : Vec ℤ). v.items) c.args.cells.now m c.index-cells-variable.result [] few) in
    record {
      fit = c.fill_group.ensures.fit;
      only = only_cells old now new c.args.cells.now m c.deref.result.now is inv.only c.fill_group.ensures.filled;
      contents = contents_more old now new c.args.cells.now m c.deref.result.now is inv.only c.fill_group.ensures.filled (subst Valid c.tree-tree.ensures all.valid) (subst (λ (t : Grid). Sorted t.leaves) c.tree-tree.ensures all.order) inv.contents;
    }
