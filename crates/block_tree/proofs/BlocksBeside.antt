-- The block beside a block, and where it is split.
use Rattle.std.proofs.Common.{◌≡◌, ℕ, ◌*◌, ◌^◌, Bool, true, false, Option, Some, None, sym, ap, ◌∙◌}
use Rattle.std.specs.Prelude.{if◌then◌else◌}
use Rattle.amr_num.specs.declared.Axis.{Axis}
use Rattle.amr_num.specs.declared.BlockAt.{BlockAt}
use Rattle.mesh_model.specs.declared.geometry.Shape.{Shape}
use Rattle.mesh_model.specs.Geometry.Coordinates.{is_periodic, roots}
use Rattle.mesh_model.specs.Geometry.Touch.{block_on}
use Rattle.mesh_model.specs.Tree.Kinds.{Grid, is_split_block}
use Rattle.mesh_model.specs.Tree.Order.{IsIn, nodes}
use Rattle.mesh_model.specs.Tree.ValidGrid.{Valid}
use Rattle.mesh_model.proofs.TreeLemmas.Nodes.{in_node}
use Rattle.mesh_model.proofs.TreeLemmas.Tests.{refuted}
use Rattle.mesh_model.proofs.TreeLemmas.Tiling.{split_says}
use Rattle.block_tree.specs.Beside.{beside_on, block_beside, block_moved, finer_beside, if_split}

-- the block beside, by the coordinate beside
pub beside_is : (s : Shape) (a : Axis) (high : Bool) (b : BlockAt) (o : Option ℕ) → beside_on (is_periodic s a) high (roots s a * 2 ^ b.level) (block_on a b) ≡ o → block_moved a o b ≡ block_beside s a high b
unfolding block_beside
beside_is s a high b o is = ap (λ p. block_moved a p b) (sym is)

module _ (g : Grid) (a : Axis) (high : Bool) (b : BlockAt) where
  pub none_beside : block_beside g.shape a high b ≡ None → finer_beside g a high b ≡ None
  unfolding finer_beside
  none_beside is = ap (if_split g) is

  module _ (d : BlockAt) (is : block_beside g.shape a high b ≡ Some d) where
    pub split_beside : is_split_block g d ≡ true → finer_beside g a high b ≡ Some d
    unfolding finer_beside
    split_beside split = ap (if_split g) is ∙ ap (λ (t : Bool). if t then Some d else None) split

    pub whole_beside : is_split_block g d ≡ false → finer_beside g a high b ≡ None
    unfolding finer_beside
    whole_beside whole = ap (if_split g) is ∙ ap (λ (t : Bool). if t then Some d else None) whole

-- a block that is no node is not split
pub no_split : (g : Grid) → Valid g → (b : BlockAt) → (IsIn b (nodes g.leaves) → ⊥) → is_split_block g b ≡ false
no_split g valid b none = refuted _ (λ t. let leaf = split_says g b t in none (in_node g valid b leaf.0 leaf.1 leaf.3))
