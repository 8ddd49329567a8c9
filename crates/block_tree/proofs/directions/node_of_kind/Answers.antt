use Rattle.std.proofs.Common.{◌≡◌, ◌∙◌, ap, false, true, subst, sym}
use Rattle.mesh_model.specs.Tree.Kinds.{is_leaf_block, is_split_block}
use Rattle.mesh_model.proofs.TreeLemmas.Tests.{refuted}
use Rattle.block_tree.specs.Directions.{is_kind}
use Rattle.block_tree.specs.GridOf.{grid_of}
use Rattle.block_tree.proofs.Facts.{known}
use Rattle.block_tree.proofs.Leaves.{split_leaf}
use Rattle.block_tree.proofs.Parts.{off_nodes}
use Rattle.block_tree.proofs.directions.node_of_kind.Goals as goal

pub returns-in-None : goal.returns-in-None
returns-in-None c = off_nodes (grid_of c.args.tree.now) (known c.args.tree.now).valid c.args.leaf c.args.b c.in-None.ensures

pub returns-then-is_leaf : goal.returns-then-is_leaf
returns-then-is_leaf c =
    let g = grid_of c.args.tree.now in
    let leaf : is_leaf_block g c.args.b ≡ true = ap (is_leaf_block g) (sym c.in-Some.ensures.block) ∙ sym c.is_leaf.ensures ∙ c.if-is_leaf.true in
    let whole : is_split_block g c.args.b ≡ false = refuted _ (λ s. let none = split_leaf g (known c.args.tree.now).valid c.args.b s in cc) in
    subst (λ t. is_kind g t c.args.b ≡ false) (sym c.if-leaf.false) whole
