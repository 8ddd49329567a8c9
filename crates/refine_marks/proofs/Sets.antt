-- Flags of the nodes of a tree, as lists and as sets.
use Rattle.std.proofs.Common.{◌≡◌, ℕ, suc, ◌<◌, Bool, true, refl, sym, ap, ◌∙◌, subst, arith, inl, inr, List, [], ◌∷◌, length, map}
use Rattle.std.proofs.lemmas.Bool.{cases_Bool}
use Rattle.std.specs.Prelude.{if◌then◌else◌}
use Rattle.amr_num.specs.declared.BlockAt.{BlockAt}
use Rattle.mesh_model.specs.Tree.Order.{IsIn, nodes}
use Rattle.mesh_model.specs.Tree.Kinds.{Grid}
use Rattle.mesh_model.specs.Geometry.Blocks.{is_same_block}
use Rattle.mesh_model.proofs.TreeLemmas.Tests.{refuted}
use Rattle.block_tree.specs.declared.tree.Tree.{Tree}
use Rattle.block_tree.specs.GridOf.{grid_of}
use Rattle.block_tree.specs.Numbered.{IsNode, block_in, block_at, blocks_of, flag_in}
use Rattle.block_tree.proofs.Flags.{set_at, set_put, set_says}
use Rattle.refine_marks.specs.Flags.{AreFlagsOf}
use Rattle.refine_marks.proofs.Flagged.{number_of}

list_is : (chosen : BlockAt → Bool) (bs : List BlockAt) (flags : List Bool) → length flags ≡ length bs → ((k : ℕ) → k < length bs → flag_in flags k ≡ chosen (block_in bs k)) → flags ≡ map chosen bs
list_is chosen [] [] e h = refl
list_is chosen [] (f ∷ fs) e h = cc
list_is chosen (b ∷ bs) [] e h = cc
list_is chosen (b ∷ bs) (f ∷ fs) e h = λ i. h 0 (omega arith) i ∷ list_is chosen bs fs (omega arith) (λ k l. h (suc k) (omega arith)) i

-- the flags of a set, as the list of its values
pub flags_are : (g : Grid) (chosen : BlockAt → Bool) (flags : List Bool) → AreFlagsOf g chosen flags → flags ≡ map chosen (nodes g.leaves)
unfolding block_at
flags_are g chosen flags h = list_is chosen (nodes g.leaves) flags h.size h.each

module _ (t : Tree) where
  -- a flag that is written as it was leaves the set
  pub same_kept : (f : ℕ → Bool) (node : ℕ) (v : Bool) → IsNode (grid_of t) node → v ≡ f node → (b : BlockAt) → (if is_same_block (block_at (grid_of t) node) b then v else blocks_of (grid_of t) f b) ≡ blocks_of (grid_of t) f b
  same_kept f node v h e b = sym (set_put t f f node v h (sym e) (λ i n. refl) b)

  -- the set that is given by the flags of a set of nodes is that set
  pub set_is : (chosen : BlockAt → Bool) (flags : List Bool) → AreFlagsOf (grid_of t) chosen flags → ((b : BlockAt) → chosen b ≡ true → IsIn b (nodes (grid_of t).leaves)) → (b : BlockAt) → blocks_of (grid_of t) (flag_in flags) b ≡ chosen b
  set_is chosen flags are inside b = elim (cases_Bool (chosen b)) [
    | inl in_set ↦
        let number = number_of (grid_of t) b (inside b in_set) in
        let here = set_at t (flag_in flags) number.0 number.1 ∙ are.each number.0 number.1 in
        subst (λ u. blocks_of (grid_of t) (flag_in flags) u ≡ chosen u) number.2 here
    | inr none ↦ refuted _ (λ h.
        let at = set_says (grid_of t) (flag_in flags) b h in
        let here = sym (are.each at.0 at.1) ∙ at.2 in
        let same = ap chosen at.3 in
        cc) ∙ sym none
  ]
