use Rattle.std.proofs.Common.{◌≡◌, false, true, ap₂, sym, ◌∙◌, arith, get_or}
use Rattle.amr_num.specs.declared.BlockAt.{BlockAt}
use Rattle.block_tree.specs.GridOf.{grid_of}
use Rattle.mesh_model.specs.declared.geometry.Shape.{Shape}
use Rattle.check_format.specs.Nodes.{may_stand}
use Rattle.check_format.proofs.ReadNodes.{stand_fails, stand_more}
use Rattle.check_format.proofs.reading.nodes.marks_stand.Goals as goal

pub returns-then-not-may_stand : goal.returns-then-not-may_stand
returns-then-not-may_stand c =
    let test = ap₂ (λ (s : Shape) (b : BlockAt). may_stand s b.level (get_or c.args.codes.now c.loop-node.node 0)) (sym c.shape-shape.ensures.value) (sym c.at.ensures.value) ∙ sym c.may_stand.ensures ∙ c.if-not-may_stand.true in
    let lt = c.loop-node-test.true in
    let end = c.len-node-end.ensures.value in
    stand_fails (grid_of c.args.tree.now) c.args.codes.now c.loop-node.node (omega arith) c.requires test ∙ c.loop-node.invariant

pub loop-node-preserved : goal.loop-node-preserved
loop-node-preserved c =
    let test = ap₂ (λ (s : Shape) (b : BlockAt). may_stand s b.level (get_or c.args.codes.now c.loop-node.node 0)) (sym c.shape-shape.ensures.value) (sym c.at.ensures.value) ∙ sym c.may_stand.ensures ∙ c.if-not-may_stand.false in
    let lt = c.loop-node-test.true in
    let end = c.len-node-end.ensures.value in
    stand_more (grid_of c.args.tree.now) c.args.codes.now c.loop-node.node (omega arith) c.requires test ∙ c.loop-node.invariant
