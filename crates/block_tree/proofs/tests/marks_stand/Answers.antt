use Rattle.std.proofs.Common.{◌≡◌, true, ap, arith}
use Rattle.mesh_model.specs.Tree.Kinds.{Grid, is_leaf_block}
use Rattle.mesh_model.proofs.TreeLemmas.Tiling.{leaf_says}
use Rattle.block_tree.specs.GridOf.{grid_of}
use Rattle.block_tree.specs.Numbered.{block_at}
use Rattle.block_tree.proofs.Flat.{roots_flat}
use Rattle.block_tree.proofs.tests.marks_stand.Goals as goal

pub put-requires-clause-refine : goal.put-requires-clause-refine
put-requires-clause-refine g c = λ up.
    let t = c.expect-tree.result in
    let start = rw c.expect-tree.ensures at c.roots.ensures in
    let leaf : is_leaf_block (grid_of t) (block_at (grid_of t) 1) ≡ true = cc in
    let low = roots_flat t _ start (block_at (grid_of t) 1) (leaf_says (grid_of t) (block_at (grid_of t) 1) leaf) in
    let top = ap (λ (u : Grid). u.shape.max) start in
    (leaf, omega arith)
