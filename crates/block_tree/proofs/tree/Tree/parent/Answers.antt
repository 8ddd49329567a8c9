use Rattle.std.proofs.Common.{◌≡◌, ◌<◌, MatchOption, ap, ◌∙◌, subst, arith}
use Rattle.amr_num.specs.declared.BlockAt.{BlockAt}
use Rattle.mesh_model.specs.Geometry.Blocks.{parent_block}
use Rattle.mesh_model.specs.Tree.Order.{IsIn, nodes}
use Rattle.block_tree.specs.GridOf.{grid_of}
use Rattle.block_tree.specs.Numbered.{block_at, IsNumberOf}
use Rattle.block_tree.proofs.Numbers.{looked_up, parent_in_all}
use Rattle.block_tree.proofs.tree.Tree.parent.Goals as goal

pub returns : goal.returns
returns c =
    let g = grid_of c.args.self.now in
    let b = block_at g c.args.node in
    let level : c.at-b.result.level ≡ b.level = ap (λ (u : BlockAt). u.level) c.at-b.ensures.value in
    let some = c.if-b-eq0.false in
    let up : 0 < b.level = omega arith in
    let same = c.parent_block.ensures ∙ ap parent_block c.at-b.ensures.value in
    looked_up c.args.self.now (parent_block b) c.node_at.result (b.level ≡ 0) (λ i. (0 < b.level) × IsNumberOf g (parent_block b) i)
    (parent_in_all c.args.self.now c.args.node c.requires up)
    (subst (λ u. MatchOption c.node_at.result (IsIn u (nodes g.leaves) → ⊥) (IsNumberOf g u)) same c.node_at.ensures)
    (λ i h. (up, h))
