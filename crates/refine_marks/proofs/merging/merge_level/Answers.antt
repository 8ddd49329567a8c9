use Rattle.std.proofs.Common.{◌+◌, ℕ, suc, Bool, true, subst, sym, ◌∙◌, arith}
use Rattle.block_tree.specs.GridOf.{grid_of}
use Rattle.block_tree.specs.Numbered.{block_at}
use Rattle.refine_marks.specs.Closing.{merged_with}
use Rattle.refine_marks.specs.Planned.{marked_by}
use Rattle.refine_marks.proofs.Flagged.{AreSetBelow, at_level, one_set, one_kept, all_set}
use Rattle.refine_marks.proofs.MergedLevels.{merged_true, merged_false}
use Rattle.refine_marks.proofs.merging.merge_level.Goals as goal
use Rattle.refine_marks.proofs.merging.merge_level.Goals.{then-may_merge, else-may_merge}

pub loop-node-preserved : goal.loop-node-preserved
loop-node-preserved c kept set are_kept are =
    let g = grid_of c.args.tree.now in
    let m = marked_by c.args.tree.now c.args.marks.now in
    let l = c.args.level in
    let new : ℕ → Bool = λ k. merged_with m l kept set (block_at g k) in
    let node = c.loop-node.node in
    let so_far = c.loop-node.invariant kept set are_kept are in
    let test = c.may_merge.ensures kept (at_level g (suc (suc l)) kept c.args.stays.now are_kept) in
    let here = are.each node (omega arith) in
    elim c.if-may_merge.branch [
      | then-may_merge w ↦ subst (AreSetBelow (node + 1) new c.args.merge.now) (sym w.merge-is) (one_set node new c.args.merge.now c.loop-node.merge so_far true (omega arith) (sym (merged_true m kept set l (block_at g node) (sym test ∙ w.if-may_merge.true))))
      | else-may_merge w ↦ subst (AreSetBelow (node + 1) new c.args.merge.now) (sym w.merge-is) (one_kept node new c.args.merge.now c.loop-node.merge so_far (here ∙ sym (merged_false m kept set l (block_at g node) (sym test ∙ w.if-may_merge.false))))
    ]

pub returns : goal.returns
returns c kept set are_kept are =
    let g = grid_of c.args.tree.now in
    all_set g (merged_with (marked_by c.args.tree.now c.args.marks.now) c.args.level kept set) c.args.merge.now c.loop-node.merge c.loop-node.node (c.loop-node.invariant kept set are_kept are) c.requires.merge (omega arith)
