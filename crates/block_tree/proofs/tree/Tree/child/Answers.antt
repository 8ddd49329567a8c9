use Rattle.std.proofs.Common.{◌≡◌, ◌<◌, true, false, MatchOption, ap, sym, ◌∙◌, subst}
use Rattle.amr_num.specs.declared.BlockAt.{BlockAt}
use Rattle.mesh_model.specs.Geometry.Blocks.{child_block}
use Rattle.mesh_model.specs.Tree.Order.{IsIn, nodes}
use Rattle.mesh_model.specs.Tree.Kinds.{is_leaf_block}
use Rattle.morton_key.specs.Keyed.{HasKey}
use Rattle.block_tree.specs.GridOf.{grid_of}
use Rattle.block_tree.specs.Numbered.{block_at, IsNumberOf}
use Rattle.block_tree.proofs.Numbers.{looked_up, child_in_all, inner_room, key_at}
use Rattle.block_tree.proofs.tree.Tree.child.Goals as goal

pub child_block-requires-clause-level : goal.child_block-requires-clause-level
child_block-requires-clause-level c =
    subst (λ (u : BlockAt). u.level < 10) (sym c.at.ensures.value) (inner_room c.args.self.now c.args.node c.requires.node (sym c.is_leaf.ensures ∙ c.if-is_leaf.false))

pub child_block-requires-clause-place : goal.child_block-requires-clause-place
child_block-requires-clause-place c = subst (λ u. HasKey u) (sym c.at.ensures.value) (key_at c.args.self.now c.args.node c.requires.node)

pub returns : goal.returns
returns c =
    let g = grid_of c.args.self.now in
    let b = block_at g c.args.node in
    let inner = sym c.is_leaf.ensures ∙ c.if-is_leaf.false in
    let child = child_block b c.args.octant in
    let same = c.child_block.ensures ∙ ap (λ u. child_block u c.args.octant) c.at.ensures.value in
    looked_up c.args.self.now child c.node_at.result (is_leaf_block g b ≡ true) (λ i. (is_leaf_block g b ≡ false) × IsNumberOf g child i)
    (child_in_all c.args.self.now c.args.node c.args.octant c.requires.node inner)
    (subst (λ u. MatchOption c.node_at.result (IsIn u (nodes g.leaves) → ⊥) (IsNumberOf g u)) same c.node_at.ensures)
    (λ i h. (inner, h))
