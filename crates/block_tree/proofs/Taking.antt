-- Nodes that go since their parent is merged, by flags.
use Rattle.std.proofs.Common.{◌≡◌, ℕ, ◌<◌, Bool, false, ◌&&◌, sym, ap, ◌∙◌, lt-ltb}
use Rattle.std.specs.Prelude.{nat_lt}
use Rattle.amr_num.specs.declared.BlockAt.{BlockAt}
use Rattle.mesh_model.specs.Geometry.Blocks.{parent_block}
use Rattle.block_tree.specs.declared.tree.Tree.{Tree}
use Rattle.block_tree.specs.GridOf.{grid_of}
use Rattle.block_tree.specs.Numbered.{IsNumberOf, blocks_of}
use Rattle.block_tree.specs.Places.{is_taken_back}
use Rattle.block_tree.proofs.Flags.{set_at}

module _ (t : Tree) (flag : ℕ → Bool) where
  pub goes_with : (b : BlockAt) (parent : ℕ) → 0 < b.level → IsNumberOf (grid_of t) (parent_block b) parent → flag parent ≡ is_taken_back (blocks_of (grid_of t) flag) b
  unfolding is_taken_back
  goes_with b parent up number =
      sym (set_at t flag parent number.there)
      ∙ ap (blocks_of (grid_of t) flag) number.block
      ∙ ap (λ u. u && blocks_of (grid_of t) flag (parent_block b)) (sym (lt-ltb 0 b.level up))

  pub root_stays : (b : BlockAt) → b.level ≡ 0 → false ≡ is_taken_back (blocks_of (grid_of t) flag) b
  unfolding is_taken_back
  root_stays b low = ap (λ n. nat_lt 0 n && blocks_of (grid_of t) flag (parent_block b)) (sym low)
