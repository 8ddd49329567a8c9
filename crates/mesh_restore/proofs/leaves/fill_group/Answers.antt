use Rattle.std.proofs.Common.{◌≡◌, ◌<◌, length, rules, ap, subst, sym, ◌∙◌, arith}
use Rattle.block_tree.specs.Interior.{array_on}
use Rattle.block_tree.proofs.Facts.{known}
use Rattle.mesh_model.specs.Fields.Arrays.{HasVar}
use Rattle.mesh_model.specs.Fields.Ranks.{Told}
use Rattle.mesh_model.specs.Tree.Kinds.{Grid}
use Rattle.mesh_model.specs.Tree.Order.{nodes}
use Rattle.mesh_model.specs.Tree.ValidGrid.{Valid}
use Rattle.mesh_restore.proofs.LeafLemmas.{all_filled, node_next}
use Rattle.mesh_restore.proofs.leaves.fill_group.Goals as goal

pub fill_node-rest-requires : goal.fill_node-rest-requires
fill_node-rest-requires g c =
    let told = c.loop-node.invariant.filled.only.told in
    let many = c.len-node-end.ensures.value ∙ ap (λ (t : Grid). length (nodes t.leaves)) c.tree.ensures in (
      search rules,
      (
        c.loop-node.invariant.fit,
        (
          λ a. subst (λ (t : Told). HasVar t.counts (array_on c.args.group a)) (sym told) (c.requires.declared a),
          subst (λ (t : Told). c.loop-node.node < length (nodes t.grid.leaves)) (sym told) (subst (λ m. c.loop-node.node < m) many c.loop-node-test.true),
        ),
      ),
    )

pub loop-node-preserved : goal.loop-node-preserved
loop-node-preserved g c =
    let many = c.len-node-end.ensures.value ∙ ap (λ (t : Grid). length (nodes t.leaves)) c.tree.ensures in
    record {
      fit = c.fill_node-rest.ensures.fit;
      filled = node_next c.args.group c.loop-node.node c.args.world.now c.loop-node.world c.fill_node-rest.new.world c.args.numbers.now c.loop-node.rest.now c.fill_node-rest.result.now
          (subst (λ m. c.loop-node.node < m) many c.loop-node-test.true) c.loop-node.invariant.filled c.fill_node-rest.ensures.filled;
    }

pub returns-clause-filled : goal.returns-clause-filled
returns-clause-filled g c =
    let many = c.len-node-end.ensures.value ∙ ap (λ (t : Grid). length (nodes t.leaves)) c.tree.ensures in
    let valid = subst Valid c.tree.ensures (known c.tree.result.now).valid in
    let over = c.loop-node-test.false in
    let within = c.loop-node.auto.node-end in
    all_filled c.args.world.now.told.grid c.args.group valid c.loop-node.node c.args.world.now c.loop-node.world c.args.numbers.now c.loop-node.rest.now (omega (arith, over, within, many)) c.loop-node.invariant.filled
