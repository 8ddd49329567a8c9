use Rattle.std.proofs.Common.{Bool, List, length, ap, arith}
use Rattle.amr_num.specs.declared.BlockAt.{BlockAt}
use Rattle.mesh_model.specs.Tree.Regrown.{regrown}
use Rattle.mesh_model.specs.Tree.ValidGrid.{FewNodes}
use Rattle.block_tree.specs.GridOf.{grid_of}
use Rattle.block_tree.specs.Numbered.{blocks_of, flag_in}
use Rattle.block_tree.proofs.Facts.{known}
use Rattle.block_tree.proofs.Made.{made_grid, made_tree}
use Rattle.block_tree.proofs.Regrowing.{new_valid, new_sorted}
use Rattle.block_tree.proofs.tree.Tree.regrown.Goals as goal

pub returns-clause-few : goal.returns-clause-few
returns-clause-few c =
    let below = c.if-count-most_nodes.false in
    let count = c.len-count.ensures in
    let most = c.most_nodes.ensures.value in
    let same = ap (λ (u : List BlockAt). length u) c.in-Ok.ensures.nodes in
    omega arith

pub invariant_of-result : goal.invariant_of-result
invariant_of-result c =
    let t = c.args.self.now in
    let g = grid_of t in
    let refine : BlockAt → Bool = blocks_of g (flag_in c.args.refine.now) in
    let merge : BlockAt → Bool = blocks_of g (flag_in c.args.merge.now) in
    let few : FewNodes (regrown g refine merge) =
    let below = c.if-count-most_nodes.false in
    let count = c.len-count.ensures in
    let most = c.most_nodes.ensures.value in
    let same = ap (λ (u : List BlockAt). length u) c.in-Ok.ensures.nodes in
    omega arith
    in
    record { valid = ∣ made_tree (regrown g refine merge) (new_valid refine merge g (known t).valid c.requires.may) (new_sorted refine merge g (known t).valid c.requires.may (known t).order) c.in-Ok.nodes.items c.in-Ok.ensures.nodes few ∣₁ }

pub returns-clause-tree : goal.returns-clause-tree
returns-clause-tree c =
    let t = c.args.self.now in
    let g = grid_of t in
    let refine : BlockAt → Bool = blocks_of g (flag_in c.args.refine.now) in
    let merge : BlockAt → Bool = blocks_of g (flag_in c.args.merge.now) in
    made_grid (regrown g refine merge) (new_valid refine merge g (known t).valid c.requires.may) (new_sorted refine merge g (known t).valid c.requires.may (known t).order) c.in-Ok.nodes.items c.in-Ok.ensures.nodes
