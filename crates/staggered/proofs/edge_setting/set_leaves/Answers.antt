use Rattle.std.proofs.Common.{ap, arith, length, ◌∙◌}
use Rattle.mesh_model.specs.Tree.Kinds.{Grid}
use Rattle.mesh_model.specs.Tree.Order.{nodes}
use Rattle.staggered.proofs.EdgeSet.{all_set, node_more, only_more}
use Rattle.staggered.proofs.edge_setting.set_leaves.Goals as goal

pub loop-node-preserved : goal.loop-node-preserved
loop-node-preserved g c =
    let old = c.args.world.now in
    let now = c.loop-node.world in
    let new = c.set_node.new.world in
    let m = c.loop-node.node in
    let at = c.args.target.now.edge in
    let value = c.args.target.now.value in
    let before = c.loop-node.invariant in
    record {
      only = only_more m old now new at value before.set before.only c.set_node.ensures.only;
      fit = c.set_node.ensures.fit;
      set = node_more m old now new at value before.set before.only c.set_node.ensures.only c.set_node.ensures.set;
    }

pub returns-clause-set : goal.returns-clause-set
returns-clause-set g c =
    let old = c.args.world.now in
    let many = c.len-node-end.ensures.value ∙ ap (λ (t : Grid). length (nodes t.leaves)) c.tree.ensures in
    all_set c.loop-node.node old c.loop-node.world c.args.target.now.edge c.args.target.now.value c.loop-node.invariant.only c.loop-node.invariant.set
    (λ k leaf. let there = leaf.there in omega (arith, many, there))
