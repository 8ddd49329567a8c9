use Rattle.std.proofs.Common.{◌≡◌, ◌≤◌, true, false, [], ◌∷◌, refl, ap, arith}
use Rattle.mesh_model.specs.Tree.Kinds.{Grid, is_leaf_block}
use Rattle.block_tree.specs.GridOf.{grid_of}
use Rattle.block_tree.specs.Numbered.{IsNode, block_at}
use Rattle.block_tree.proofs.Flat.{roots_may, first_may}
use Rattle.block_tree.proofs.tests.nodes_are_found.Goals as goal

pub regrown-requires-clause-may : goal.regrown-requires-clause-may
regrown-requires-clause-may g c =
    let start = rw c.expect-roots.ensures at c.roots.ensures in
    roots_may c.expect-roots.result _ start (omega arith) (true ∷ false ∷ []) (false ∷ false ∷ []) 2 refl

pub regrown-requires-2-clause-may : goal.regrown-requires-2-clause-may
regrown-requires-2-clause-may g c =
    let t = c.expect-tree.result in
    let start = rw c.expect-roots.ensures at c.roots.ensures in
    let grown = rw c.expect-tree.ensures at c.regrown.ensures.tree in
    let one = ap (λ (u : Grid). u.shape.max) start in
    let same = ap (λ (u : Grid). u.shape.max) grown in
    let shallow : t.shape.max ≤ 1 = omega arith in
    let here : IsNode (grid_of t) 0 = let len = c.len-2.ensures.value in omega arith in
    let inner : is_leaf_block (grid_of t) (block_at (grid_of t) 0) ≡ false = cc in
    first_may t shallow (true ∷ false ∷ false ∷ false ∷ false ∷ false ∷ false ∷ false ∷ false ∷ false ∷ []) (false ∷ false ∷ false ∷ false ∷ false ∷ false ∷ false ∷ false ∷ false ∷ false ∷ []) 9 10 refl refl here inner
