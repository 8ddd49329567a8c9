use Rattle.std.proofs.Common.{◌≡◌, length, sym, ap, ◌∙◌, arith, Bool, List}
use Rattle.mesh_model.specs.Tree.Order.{nodes}
use Rattle.block_tree.specs.GridOf.{grid_of}
use Rattle.block_tree.specs.Numbered.{flag_in}
use Rattle.block_tree.proofs.Flat.{roots_may, children_may}
use Rattle.block_tree.proofs.tests.too_many_nodes_are_counted.Goals as goal

pub regrown-requires-clause-may : goal.regrown-requires-clause-may
regrown-requires-clause-may g c =
    let start = rw c.expect-roots.ensures at c.roots.ensures in
    let down = rw c.expect-down.ensures at c.flags-2.ensures in
    roots_may c.expect-roots.result _ start (omega arith) c.deref.result.now c.deref-2.result.now 512 (c.deref-2.ensures.value ∙ down)

pub regrown-requires-2-clause-may : goal.regrown-requires-2-clause-may
regrown-requires-2-clause-may g c =
    let start = rw c.expect-roots.ensures at c.roots.ensures in
    let up = rw c.expect-up.ensures at c.flags.ensures in
    let down = rw c.expect-down.ensures at c.flags-2.ensures in
    let low = rw c.expect-down-2.ensures at c.flags-3.ensures in
    let grown = rw c.expect-fine.ensures at c.regrown.ensures.tree in
    let leaves = rw c.expect-few.ensures at c.first_leaves.ensures.leaves in
    let size : length (nodes (grid_of c.expect-roots.result).leaves) ≡ 512 = let len = c.len.ensures.value in omega arith in
    children_may c.expect-roots.result _ start c.expect-fine.result c.deref.result.now c.deref-2.result.now 512 512 (c.deref.ensures.value ∙ up) (c.deref-2.ensures.value ∙ down) size grown (omega arith)
    c.deref-3.result.now c.deref-4.result.now 4608 (c.deref-4.ensures.value ∙ low) (λ i h mark. leaves i h (ap (λ (u : List Bool). flag_in u i) (sym c.deref-3.ensures.value) ∙ mark))

pub regrown-requires-3-clause-may : goal.regrown-requires-3-clause-may
regrown-requires-3-clause-may g c =
    let start = rw c.expect-roots.ensures at c.roots.ensures in
    let up = rw c.expect-up.ensures at c.flags.ensures in
    let down = rw c.expect-down.ensures at c.flags-2.ensures in
    let low = rw c.expect-down-2.ensures at c.flags-3.ensures in
    let grown = rw c.expect-fine.ensures at c.regrown.ensures.tree in
    let leaves = rw c.expect-more.ensures at c.first_leaves-2.ensures.leaves in
    let size : length (nodes (grid_of c.expect-roots.result).leaves) ≡ 512 = let len = c.len.ensures.value in omega arith in
    children_may c.expect-roots.result _ start c.expect-fine.result c.deref.result.now c.deref-2.result.now 512 512 (c.deref.ensures.value ∙ up) (c.deref-2.ensures.value ∙ down) size grown (omega arith)
    c.deref-5.result.now c.deref-6.result.now 4608 (c.deref-6.ensures.value ∙ low) (λ i h mark. leaves i h (ap (λ (u : List Bool). flag_in u i) (sym c.deref-5.ensures.value) ∙ mark))
