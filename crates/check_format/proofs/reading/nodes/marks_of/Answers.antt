use Rattle.std.proofs.Common.{◌≡◌, false, true, ap, sym, ◌∙◌, arith, get_or}
use Rattle.block_tree.specs.GridOf.{grid_of}
use Rattle.block_tree.specs.Marked.{derefine_of, refine_of}
use Rattle.mesh_model.specs.Images.Image.{has_derefine, has_refine}
use Rattle.check_format.proofs.ReadNodes.{may_refine, may_derefine, put_step, codes_are}
use Rattle.check_format.proofs.reading.nodes.marks_of.Goals as goal

pub put-requires-clause-refine : goal.put-requires-clause-refine
put-requires-clause-refine c = λ marked.
    let lt = c.loop-node-test.true in
    let end = c.len-node-end.ensures.value in
    may_refine c.args.tree.now c.args.codes.now c.requires.parents c.requires.stand c.loop-node.node (omega arith) (sym c.has_refine.ensures ∙ marked)

pub put-requires-clause-derefine : goal.put-requires-clause-derefine
put-requires-clause-derefine c = λ marked.
    let lt = c.loop-node-test.true in
    let end = c.len-node-end.ensures.value in
    may_derefine c.args.tree.now c.args.codes.now c.requires.parents c.requires.stand c.loop-node.node (omega arith) (sym c.has_derefine.ensures ∙ marked)

pub loop-node-preserved : goal.loop-node-preserved
loop-node-preserved c =
    let t = c.args.tree.now in
    let cs = c.args.codes.now in
    let g = grid_of t in
    let lt = c.loop-node-test.true in
    let end = c.len-node-end.ensures.value in
    record {
      marks = c.put.ensures.marks;
      room = c.put.ensures.room ∙ c.loop-node.invariant.room;
      refine = put_step t cs c.requires.parents (refine_of g c.loop-node.marks) (refine_of g c.put.new.self) c.loop-node.node c.has_refine.result (λ k. has_refine (get_or cs k 0)) (omega arith) c.put.ensures.refine c.has_refine.ensures c.loop-node.invariant.refine;
      derefine = put_step t cs c.requires.parents (derefine_of g c.loop-node.marks) (derefine_of g c.put.new.self) c.loop-node.node c.has_derefine.result (λ k. has_derefine (get_or cs k 0)) (omega arith) c.put.ensures.derefine c.has_derefine.ensures c.loop-node.invariant.derefine;
    }

pub returns-clause-codes : goal.returns-clause-codes
returns-clause-codes c =
    let last = c.loop-node-test.false in
    let end = c.len-node-end.ensures.value in
    codes_are c.args.tree.now c.args.codes.now c.requires.parents c.loop-node.marks c.requires.small
    (λ k h. c.loop-node.invariant.refine k (omega arith)) (λ k h. c.loop-node.invariant.derefine k (omega arith))
