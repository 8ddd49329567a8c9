use Rattle.std.proofs.Common.{◌+◌, ◌<◌, length, sym, ap, subst, ◌∙◌, arith}
use Rattle.block_tree.proofs.Facts.{known}
use Rattle.block_tree.specs.Numbered.{block_at}
use Rattle.mesh_model.specs.Fields.Ranks.{IsFit}
use Rattle.mesh_model.specs.Tree.Kinds.{Grid, is_leaf_block}
use Rattle.mesh_model.specs.Tree.Order.{nodes}
use Rattle.mesh_model.specs.Tree.ValidGrid.{Valid}
use Rattle.mesh_steps.proofs.StepWalk.{AreFacesTakenBelow, all_taken, leaf_taken, node_not_taken, only_taken}
use Rattle.mesh_steps.specs.Circulations.{OnlyFacesAndWork}
use Rattle.mesh_steps.proofs.circulations.take_faces.Goals as goal
use Rattle.mesh_steps.proofs.circulations.take_faces.Goals.{then-is_leaf, else-is_leaf}

pub loop-node-preserved : goal.loop-node-preserved
loop-node-preserved g c =
    let old = c.args.world.now in
    let now = c.loop-node.world in
    let node = c.loop-node.node in
    let before = c.loop-node.invariant in
    let tree_is = c.tree-in-loop-node.ensures in
    let kind = sym (ap (λ (h : Grid). is_leaf_block h (block_at h node)) tree_is) in
    elim c.if-is_leaf.branch [
      | then-is_leaf w ↦
          let done = w.take_leaf.ensures in
          let new = w.take_leaf.new.world in
          record {
            only = subst (λ x. OnlyFacesAndWork old x) (sym w.world-is) (only_taken node old now new before.taken before.only done.taken);
            fit = subst (IsFit g.row.N g.row.G) (sym w.world-is) done.fit;
            taken = subst (λ x. AreFacesTakenBelow (node + 1) old x) (sym w.world-is) (leaf_taken node old now new before.taken before.only done.taken);
          }
      | else-is_leaf w ↦
          let inner = kind ∙ sym c.is_leaf.ensures ∙ w.if-is_leaf.false in
          record {
            only = subst (λ x. OnlyFacesAndWork old x) (sym w.world-is) before.only;
            fit = subst (IsFit g.row.N g.row.G) (sym w.world-is) before.fit;
            taken = subst (λ x. AreFacesTakenBelow (node + 1) old x) (sym w.world-is) (node_not_taken node old now now before.taken before.only inner);
          }
    ]

pub returns-clause-holds : goal.returns-clause-holds
returns-clause-holds g c step faces edges have =
    let old = c.args.world.now in
    let done = c.loop-node.invariant in
    let valid : Valid old.told.grid = subst Valid c.tree.ensures (known c.tree.result.now).valid in
    all_taken step c.loop-node.node old c.loop-node.world valid done.only done.taken
    (λ k leaf.
    let inside = subst (λ (h : Grid). k < length (nodes h.leaves)) (sym c.tree.ensures) leaf.there in
    omega (arith, c.len-node-end.ensures.value, inside))
    faces edges have
