-- Children stand behind their parents.
use Rattle.std.proofs.Common.{◌≡◌, ℕ, ◌<◌, false, sym, subst}
use Rattle.mesh_model.specs.Geometry.Blocks.{child_block}
use Rattle.mesh_model.specs.Tree.Kinds.{is_leaf_block}
use Rattle.mesh_model.specs.Tree.Order.{Sorted, key, nodes}
use Rattle.morton_key.proofs.Placing.{parent_first}
use Rattle.block_tree.specs.declared.tree.Tree.{Tree}
use Rattle.block_tree.specs.GridOf.{grid_of}
use Rattle.block_tree.specs.Numbered.{IsNode, IsNumberOf, block_at}
use Rattle.block_tree.proofs.Facts.{known}
use Rattle.block_tree.proofs.Members.{before_at}
use Rattle.block_tree.proofs.Numbers.{inner_room, kept_sorted}

pub child_later : (t : Tree) (node q child : ℕ) → IsNode (grid_of t) node → is_leaf_block (grid_of t) (block_at (grid_of t) node) ≡ false → q < 8 →
    IsNumberOf (grid_of t) (child_block (block_at (grid_of t) node) q) child → node < child
unfolding block_at
child_later t node q child there inner hq found =
    let all = nodes (grid_of t).leaves in
    let sorted : Sorted all = subst Sorted (sym (known t).whole) (kept_sorted t) in
    let rises = parent_first (block_at (grid_of t) node) q (inner_room t node there inner) hq in
    before_at all sorted node child there found.there (subst (λ d. key (block_at (grid_of t) node) < key d) (sym found.block) rises)
