-- Nodes by rising key: the first child of a node stands directly behind it.
use Rattle.std.proofs.Common.{◌≡◌, ℕ, suc, ◌+◌, ◌*◌, ◌^◌, ◌<◌, ◌≤◌, true, false, sym, ap, ◌∙◌, arith, inl, inr, subst, length}
use Rattle.std.proofs.Math.Nat.{mul-le-mul_right}
use Rattle.std.proofs.lemmas.Bool.{cases_lt}
use Rattle.amr_num.specs.declared.BlockAt.{BlockAt}
use Rattle.mesh_model.specs.declared.geometry.Shape.{Shape}
use Rattle.mesh_model.specs.Geometry.Blocks.{child_block, InDomain}
use Rattle.mesh_model.specs.Geometry.Limits.{IsShape}
use Rattle.mesh_model.specs.Tree.Order.{IsIn, Sorted, key, nodes}
use Rattle.mesh_model.specs.Tree.Kinds.{Grid, is_leaf_block, is_split_block}
use Rattle.mesh_model.specs.Tree.ValidGrid.{Valid, FewNodes}
use Rattle.mesh_model.proofs.TreeLemmas.Nodes.{nodes_sorted}
use Rattle.mesh_model.proofs.TreeLemmas.Sorting.{morton_child}
use Rattle.morton_key.specs.Keyed.{HasKey}
use Rattle.block_tree.specs.Numbered.{block_in}
use Rattle.block_tree.proofs.Members.{in_at, at_in, sorted_at, before_at}
use Rattle.block_tree.proofs.Leaves.{child_node, child_split, node_split, node_inside}

-- ---- order

few_roots : (r l x : ℕ) → r ≤ 8 → x < r * 2 ^ l → x < 8 * 2 ^ l
few_roots r l x h lt = let more = mul-le-mul_right (2 ^ l) h in omega arith

pub has_key : (s : Shape) (b : BlockAt) → IsShape s → InDomain s b → HasKey b
has_key s b shape d =
    let deep = d.level in
    let top = shape.max in
    record { level = omega arith; x = few_roots s.rx b.level b.x shape.few_x d.x; y = few_roots s.ry b.level b.y shape.few_y d.y; z = few_roots s.rz b.level b.z shape.few_z d.z }

-- ---- first children

first_key : (b : BlockAt) → b.level < 10 → key (child_block b 0) ≡ suc (key b)
unfolding key
first_key b h = let place = morton_child b 0 h (omega arith) in omega arith

module _ (g : Grid) (valid : Valid g) (order : Sorted g.leaves) (few : FewNodes g) where
  pub node_key : (b : BlockAt) → IsIn b (nodes g.leaves) → HasKey b
  node_key b i = has_key g.shape b valid.shape (node_inside g valid b i)

  pub node_room : (b : BlockAt) → is_split_block g b ≡ true → b.level < 10
  node_room b t = let child = (node_key (child_block b 0) (child_node g valid b 0 t)).level in omega arith

  -- a node that is no leaf is followed by its first child
  pub next_child : (i : ℕ) → i < length (nodes g.leaves) → is_leaf_block g (block_in (nodes g.leaves) i) ≡ false →
      (i + 1 < length (nodes g.leaves)) × (block_in (nodes g.leaves) (i + 1) ≡ child_block (block_in (nodes g.leaves) i) 0)
  next_child i h f =
      let all = nodes g.leaves in
      let sorted = nodes_sorted g valid order in
      let b = block_in all i in
      let split = node_split g valid b (in_at all i h) f in
      let child = at_in (child_block b 0) all (child_node g valid b 0 split) in
      let same = ap key child.2 in
      let one = first_key b (node_room b split) in
      let later = before_at all sorted i child.0 h child.1 (omega arith) in
      elim (cases_lt (i + 1) child.0) [
        | inl lt ↦
            let up = sorted_at all sorted i (i + 1) (omega arith) (omega arith) in
            let down = sorted_at all sorted (i + 1) child.0 lt child.1 in
            absurd (omega arith)
        | inr le ↦
            let at : child.0 ≡ i + 1 = omega arith in
            (omega arith, ap (block_in all) (sym at) ∙ child.2)
      ]

  -- a leaf is not
  pub next_other : (i : ℕ) → i + 1 < length (nodes g.leaves) → is_leaf_block g (block_in (nodes g.leaves) i) ≡ true →
      block_in (nodes g.leaves) (i + 1) ≡ child_block (block_in (nodes g.leaves) i) 0 → ⊥
  next_other i h t e =
      let none = child_split g valid (block_in (nodes g.leaves) i) 0 (subst (λ u. IsIn u (nodes g.leaves)) e (in_at (nodes g.leaves) (i + 1) h)) in
      cc
