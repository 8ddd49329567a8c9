use Rattle.std.proofs.Common.{◌≡◌, not, ◌&&◌, nat_lt, rules, ◌∙◌}
use Rattle.block_tree.specs.GridOf.{grid_of}
use Rattle.block_tree.specs.Marked.{derefine_at}
use Rattle.block_tree.specs.Numbered.{block_at, flag_in}
use Rattle.mesh_model.specs.Tree.Kinds.{is_leaf_block}
use Rattle.refine_marks.proofs.MergedLevels.{ready_is}
use Rattle.refine_marks.proofs.merging.is_ready.Goals as goal

pub returns-then-shape-at : goal.returns-then-shape-at
returns-then-shape-at c =
    let g = grid_of c.args.tree.now in
    let read : not (flag_in c.args.refine.now c.args.node) ≡ (is_leaf_block g (block_at g c.args.node) && derefine_at c.args.marks.now c.args.node && not (flag_in c.args.refine.now c.args.node) && nat_lt g.shape.min (block_at g c.args.node).level) = search rules in
    read ∙ ready_is c.args.tree.now c.args.marks.now c.args.refine.now c.args.node c.requires.refine c.requires.node

pub returns-else-shape-at : goal.returns-else-shape-at
returns-else-shape-at c =
    let g = grid_of c.args.tree.now in
    let read : _ ≡ (is_leaf_block g (block_at g c.args.node) && derefine_at c.args.marks.now c.args.node && not (flag_in c.args.refine.now c.args.node) && nat_lt g.shape.min (block_at g c.args.node).level) = search rules in
    read ∙ ready_is c.args.tree.now c.args.marks.now c.args.refine.now c.args.node c.requires.refine c.requires.node
