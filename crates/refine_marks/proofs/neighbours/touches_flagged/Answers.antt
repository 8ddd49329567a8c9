use Rattle.std.proofs.Common.{sym, ◌∙◌, arith}
use Rattle.block_tree.specs.GridOf.{grid_of}
use Rattle.block_tree.proofs.Facts.{known}
use Rattle.refine_marks.proofs.Flagged.{near_touches, none_touches}
use Rattle.refine_marks.proofs.neighbours.touches_flagged.Goals as goal

pub returns-then-is_flagged_leaf : goal.returns-then-is_flagged_leaf
returns-then-is_flagged_leaf c set are =
    let g = grid_of c.args.tree.now in
    sym (near_touches g set c.args.flags.now c.args.block c.args.level are c.loop-node.node (omega arith) (sym c.is_flagged_leaf.ensures ∙ c.if-is_flagged_leaf.true))

pub returns : goal.returns
returns c set are =
    let g = grid_of c.args.tree.now in
    let tree = known c.args.tree.now in
    sym (none_touches g set c.args.flags.now c.args.block c.args.level are tree.valid (λ k i. c.loop-node.invariant k (omega arith)))
