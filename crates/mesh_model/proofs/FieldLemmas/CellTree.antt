-- Cells of leaves that tile the domain make a tree.
use Rattle.std.proofs.Common.{◌≡◌, ℕ, ◌+◌, ◌*◌, ◌/◌, ◌%◌, ◌<◌, ◌≤◌, refl, sym, ap, ◌∙◌, arith, mul_comm}
use Rattle.std.proofs.Math.Nat.{div-div-eq-div-mul}
use Rattle.amr_num.specs.declared.CellAt.{CellAt}
use Rattle.mesh_model.specs.Geometry.Coordinates.{sub_cell}
use Rattle.mesh_model.specs.Tree.Kinds.{Grid, block_of}
use Rattle.mesh_model.specs.Tree.ValidGrid.{Tiles}
use Rattle.mesh_model.proofs.FieldLemmas.CellSums.{TreeLike}
use Rattle.mesh_model.proofs.TreeLemmas.Tiling.{IsChild, child_of_whole, child_is_no_leaf, child_of_split, split_says}

half_block : (x i n : ℕ) → i < 2 → (2 * x + i) / n / 2 ≡ x / n
half_block x i n h =
    let half : (2 * x + i) / 2 ≡ x = omega arith in
    div-div-eq-div-mul (2 * x + i) n 2 ∙ ap (λ k. (2 * x + i) / k) (mul_comm n 2) ∙ sym (div-div-eq-div-mul (2 * x + i) 2 n) ∙ ap (λ k. k / n) half

pub child_block : (n : ℕ) (c : CellAt) (q : ℕ) → IsChild (block_of n (sub_cell c q)) (block_of n c)
child_block n c q = record {
  level = refl;
  x = half_block c.x (q % 2) n (omega arith);
  y = half_block c.y (q / 2 % 2) n (omega arith);
  z = half_block c.z (q / 4 % 2) n (omega arith);
}

pub tree_of_tiles : (g : Grid) → g.shape.max ≤ 10 → Tiles g → TreeLike g
tree_of_tiles g small tiles = record {
  below_split = λ c q s w. child_of_split g tiles _ _ (child_block g.shape.n c q) s w;
  below_whole = λ c q w. child_of_whole g _ _ (child_block g.shape.n c q) w;
  below_whole_leaf = λ c q w. child_is_no_leaf g _ _ (child_block g.shape.n c q) w;
  split_level = λ c s.
      let l = split_says g (block_of g.shape.n c) s in
      let lt = l.2 in
      let room = (tiles.inside l.0 l.1).level in
      omega arith;
}
