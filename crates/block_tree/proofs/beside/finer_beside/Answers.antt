use Rattle.std.proofs.Common.{Bool, ◌≡◌, false, Option, Some, None, MatchOption, ap, sym, subst, ◌∙◌}
use Rattle.mesh_model.specs.declared.geometry.Shape.{Shape}
use Rattle.amr_num.specs.declared.Axis.{Axis}
use Rattle.amr_num.specs.declared.BlockAt.{BlockAt}
use Rattle.mesh_model.specs.Tree.Kinds.{is_split_block}
use Rattle.mesh_model.specs.Tree.ValidGrid.{Valid}
use Rattle.block_tree.specs.GridOf.{grid_of}
use Rattle.block_tree.specs.Numbered.{block_at}
use Rattle.block_tree.proofs.Facts.{known}
use Rattle.block_tree.proofs.Leaves.{split_leaf}
use Rattle.block_tree.proofs.Numbers.{splits}
use Rattle.mesh_model.proofs.TreeLemmas.Tests.{refuted}
use Rattle.block_tree.specs.Beside.{IsFinerNode, block_beside, finer_beside}
use Rattle.block_tree.proofs.BlocksBeside.{no_split, none_beside, split_beside, whole_beside}
use Rattle.block_tree.proofs.beside.finer_beside.Goals as goal

-- what was found beside, in the words of the grid's shape
in_shape : (s shape : Shape) (a : Axis) (high : Bool) (b : BlockAt) (r o : Option BlockAt) → s ≡ shape → r ≡ block_beside s a high b → r ≡ o → block_beside shape a high b ≡ o
in_shape s shape a high b r o same is was = ap (λ u. block_beside u a high b) (sym same) ∙ sym is ∙ was

pub returns-in_err-block : goal.returns-in_err-block
returns-in_err-block c =
    let g = grid_of c.args.tree.now in
    let none = in_shape _ g.shape c.args.axis c.args.high c.args.b _ None c.shape.ensures.value c.block_beside.ensures c.in_err-block.was in
    subst (λ r. MatchOption r (finer_beside g c.args.axis c.args.high c.args.b ≡ None) (IsFinerNode g c.args.axis c.args.high c.args.b)) (sym c.from_residual.ensures)
    (none_beside g c.args.axis c.args.high c.args.b none)

pub returns-in_err-node : goal.returns-in_err-node
returns-in_err-node c =
    let g = grid_of c.args.tree.now in
    let valid : Valid g = (known c.args.tree.now).valid in
    let d = c.in_ok-block.block in
    let is = in_shape _ g.shape c.args.axis c.args.high c.args.b _ (Some d) c.shape.ensures.value c.block_beside.ensures c.in_ok-block.was in
    subst (λ r. MatchOption r (finer_beside g c.args.axis c.args.high c.args.b ≡ None) (IsFinerNode g c.args.axis c.args.high c.args.b)) (sym c.from_residual-in_err-node.ensures)
    (whole_beside g c.args.axis c.args.high c.args.b d is (no_split g valid d c.in_err-node.ensures))

pub returns-then-is_leaf : goal.returns-then-is_leaf
returns-then-is_leaf c =
    let g = grid_of c.args.tree.now in
    let valid : Valid g = (known c.args.tree.now).valid in
    let d = c.in_ok-block.block in
    let is = in_shape _ g.shape c.args.axis c.args.high c.args.b _ (Some d) c.shape.ensures.value c.block_beside.ensures c.in_ok-block.was in
    let leaf = sym c.is_leaf.ensures ∙ c.if-is_leaf.true in
    let whole : is_split_block g (block_at g c.in_ok-node.node) ≡ false = refuted _ (λ s. let none = split_leaf g valid (block_at g c.in_ok-node.node) s in cc) in
    whole_beside g c.args.axis c.args.high c.args.b d is (ap (is_split_block g) (sym c.in_ok-node.ensures.block) ∙ whole)

pub returns-else-is_leaf : goal.returns-else-is_leaf
returns-else-is_leaf c =
    let g = grid_of c.args.tree.now in
    let d = c.in_ok-block.block in
    let number = c.in_ok-node.ensures in
    let is = in_shape _ g.shape c.args.axis c.args.high c.args.b _ (Some d) c.shape.ensures.value c.block_beside.ensures c.in_ok-block.was in
    let inner = sym c.is_leaf.ensures ∙ c.if-is_leaf.false in
    record {
      there = number.there;
      inner = inner;
      finer = split_beside g c.args.axis c.args.high c.args.b d is (ap (is_split_block g) (sym number.block) ∙ splits c.args.tree.now c.in_ok-node.node number.there inner) ∙ ap Some (sym number.block);
    }
