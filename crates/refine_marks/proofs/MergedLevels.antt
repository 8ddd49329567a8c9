-- The merged parents, from the finest level to the coarsest.
use Rattle.std.proofs.Common.{◌≡◌, ℕ, suc, ◌-◌, ◌<◌, ◌≤◌, Bool, true, false, not, ◌&&◌, ◌||◌, ◌==◌, nat_lt, refl, sym, ap, ap₂, ◌∙◌, arith, inl, inr, List, [], ◌∷◌, eqb-true, eq-eqb, le-leb, lt-ltb}
use Rattle.std.proofs.lemmas.Bool.{cases_lt}
use Rattle.std.specs.List.{list_any, list_all}
use Rattle.amr_num.specs.declared.BlockAt.{BlockAt}
use Rattle.mesh_model.specs.Geometry.Blocks.{child_block, children, parent_block}
use Rattle.mesh_model.specs.Tree.Closure.{is_refined, is_ready, is_blocked, merged, is_merged}
use Rattle.mesh_model.specs.Tree.Order.{IsIn}
use Rattle.mesh_model.specs.Tree.Kinds.{Grid, is_leaf_block}
use Rattle.mesh_model.specs.Tree.MarkedGrid.{MarkedGrid}
use Rattle.mesh_model.specs.Geometry.Touch.{touches}
use Rattle.mesh_model.specs.Tree.ValidGrid.{Valid}
use Rattle.mesh_model.specs.Tree.MarkedGrid.{ValidMarkedGrid}
use Rattle.mesh_model.proofs.TreeLemmas.Closure.{from_children}
use Rattle.mesh_model.proofs.TreeLemmas.Levels.{is_child}
use Rattle.mesh_model.proofs.TreeLemmas.Ruled.{merged_may}
use Rattle.mesh_model.proofs.TreeLemmas.Tests.{and_left, for_all, or_right, refuted}
use Rattle.mesh_model.proofs.TreeLemmas.Tiling.{child_in, leaf_says}
use Rattle.block_tree.proofs.Leaves.{leaf_whole}
use Rattle.block_tree.specs.declared.marks.Marks.{Marks}
use Rattle.block_tree.specs.Marked.{derefine_at}
use Rattle.block_tree.specs.Numbered.{IsNode, IsNumberOf, block_at, flag_in}
use Rattle.block_tree.specs.declared.tree.Tree.{Tree}
use Rattle.block_tree.specs.GridOf.{grid_of}
use Rattle.block_tree.proofs.Flags.{set_at}
use Rattle.refine_marks.specs.Planned.{marked_by}
use Rattle.refine_marks.specs.Closing.{stays_beside, may_merge, merged_with, merged_from}
use Rattle.refine_marks.specs.Flags.{AreFlagsOf, touches_any}
use Rattle.refine_marks.proofs.RefinedLevels.{coarse_test, not_level, or_false, touches_same}

-- ---- tests

not_either : (a b : Bool) → not (a || b) ≡ (not a && not b)
not_either true b = refl
not_either false b = refl

pub not_not : (a : Bool) → not (not a) ≡ a
not_not true = refl
not_not false = refl

all_not_any : (p q : BlockAt → Bool) (bs : List BlockAt) → ((b : BlockAt) → IsIn b bs → p b ≡ not (q b)) → list_all p bs ≡ not (list_any q bs)
all_not_any p q [] h = refl
all_not_any p q (b ∷ bs) h = ap₂ (λ u w. u && w) (h b (inl refl)) (all_not_any p q bs (λ c i. h c (inr i))) ∙ sym (not_either (q b) (list_any q bs))

required_is : (x r s : Bool) → (x ≡ true → r ≡ not s) → (elim x [ true ↦ r | false ↦ true ]) ≡ not (x && s)
required_is true r s h = h refl
required_is false r s h = refl

-- ---- children

pub all_children : (p : BlockAt → Bool) (b : BlockAt) → ((q : ℕ) → q < 8 → p (child_block b q) ≡ true) → list_all p (children b) ≡ true
all_children p b h = for_all p (children b) (λ c i. let q = from_children b c i in ap p (sym q.2) ∙ h q.0 q.1)

-- no child of a leaf is a leaf
no_leaf_below : (g : Grid) → Valid g → (b : BlockAt) (q : ℕ) → is_leaf_block g b ≡ true → is_leaf_block g (child_block b q) ≡ false
no_leaf_below g valid b q h = refuted _ (λ t.
    let none = leaf_whole g valid (child_block b q) b (leaf_says g (child_block b q) t) (child_in (child_block b q) b (is_child b q)) (omega arith) in
    cc)

pub unready_below : (m : MarkedGrid) → Valid m.grid → (b : BlockAt) (q : ℕ) → is_leaf_block m.grid b ≡ true → is_ready m (child_block b q) ≡ false
unfolding is_ready
unready_below m valid b q h = rw (no_leaf_below m.grid valid b q h) refl

-- ---- one level

pub merged_off : (m : MarkedGrid) (kept chosen : BlockAt → Bool) (l : ℕ) (b : BlockAt) → (b.level ≡ l → ⊥) → merged_with m l kept chosen b ≡ chosen b
unfolding merged_with
merged_off m kept chosen l b h = rw (not_level b.level l h) (or_false (chosen b))

pub merged_true : (m : MarkedGrid) (kept chosen : BlockAt → Bool) (l : ℕ) (b : BlockAt) → may_merge m l kept b ≡ true → merged_with m l kept chosen b ≡ true
unfolding merged_with
merged_true m kept chosen l b h = or_right (chosen b) _ h

pub merged_false : (m : MarkedGrid) (kept chosen : BlockAt → Bool) (l : ℕ) (b : BlockAt) → may_merge m l kept b ≡ false → merged_with m l kept chosen b ≡ chosen b
unfolding merged_with
merged_false m kept chosen l b h = ap (λ u. chosen b || u) h ∙ or_false (chosen b)

merged_on : (m : MarkedGrid) (kept chosen : BlockAt → Bool) (l : ℕ) (b : BlockAt) → chosen b ≡ false → merged_with m l kept chosen b ≡ may_merge m l kept b
unfolding merged_with
merged_on m kept chosen l b h = ap (λ u. u || may_merge m l kept b) h

-- leaves of the finer levels stay where their parents do
stays_same : (p q : BlockAt → Bool) (b : BlockAt) → p (parent_block b) ≡ q (parent_block b) → stays_beside p b ≡ stays_beside q b
unfolding stays_beside
stays_same p q b h = ap (λ u. not (nat_lt 0 b.level && u)) h

may_same : (m : MarkedGrid) (p q : BlockAt → Bool) (l : ℕ) (b : BlockAt) → ((leaf : BlockAt) → leaf.level ≡ suc (suc l) → p leaf ≡ q leaf) → may_merge m l p b ≡ may_merge m l q b
may_same m p q l b h = ap (λ u. (b.level == l) && list_all (is_ready m) (children b) && not (touches_any m.grid (is_refined m) (suc l) b) && not u) (touches_same m.grid p q (suc (suc l)) b (λ leaf i e. h leaf e))

module _ (m : MarkedGrid) (valid : ValidMarkedGrid m) where
  -- a parent is merged where it may be beside the finer leaves that stay
  merged_step : (b : BlockAt) → b.level < 10 → is_merged m b ≡ may_merge m b.level (stays_beside (is_merged m)) b
  unfolding merged is_blocked touches_any stays_beside
  merged_step b h =
      let d = 10 - suc b.level in
      let one : 10 - b.level ≡ suc d = omega arith in
      let finer : list_all (λ leaf. elim ((leaf.level == suc (suc b.level)) && touches m.grid.shape leaf b) [ true ↦ merged m d (parent_block leaf) | false ↦ true ]) m.grid.leaves ≡ not (list_any (λ leaf. (leaf.level == suc (suc b.level)) && touches m.grid.shape leaf b && not (nat_lt 0 leaf.level && is_merged m (parent_block leaf))) m.grid.leaves) = all_not_any _ _ m.grid.leaves (λ leaf i. required_is ((leaf.level == suc (suc b.level)) && touches m.grid.shape leaf b) (merged m d (parent_block leaf)) (not (nat_lt 0 leaf.level && is_merged m (parent_block leaf))) (λ t.
      let level = eqb-true _ _ (and_left (leaf.level == suc (suc b.level)) (touches m.grid.shape leaf b) t) in
      let same : d ≡ 10 - (leaf.level - 1) = omega arith in
      let deep : nat_lt 0 leaf.level ≡ true = lt-ltb 0 leaf.level (omega arith) in
      ap (λ k. merged m k (parent_block leaf)) same ∙ ap (λ u. u && is_merged m (parent_block leaf)) (sym deep) ∙ sym (not_not (nat_lt 0 leaf.level && is_merged m (parent_block leaf))))) in
      ap (λ k. merged m k b) one
      ∙ ap (λ u. list_all (is_ready m) (children b) && not (is_blocked m b) && u) finer
      ∙ ap (λ u. u && list_all (is_ready m) (children b) && not (is_blocked m b) && not (touches_any m.grid (stays_beside (is_merged m)) (suc (suc b.level)) b)) (sym (eq-eqb b.level b.level refl))

  from_fine : (l : ℕ) (b : BlockAt) → l ≤ b.level → merged_from m l b ≡ is_merged m b
  unfolding merged_from
  from_fine l b h = rw (le-leb l b.level h) refl

  from_coarse : (l : ℕ) (b : BlockAt) → b.level < l → merged_from m l b ≡ false
  unfolding merged_from
  from_coarse l b h = rw (coarse_test l b.level h) refl

  -- one level more
  pub one_level : (l : ℕ) → l < 10 → (b : BlockAt) → merged_with m l (stays_beside (merged_from m (suc l))) (merged_from m (suc l)) b ≡ merged_from m l b
  one_level l h b = elim (cases_lt l b.level) [
    | inl fine ↦ merged_off m (stays_beside (merged_from m (suc l))) (merged_from m (suc l)) l b (λ e. absurd (omega arith)) ∙ from_fine (suc l) b fine ∙ sym (from_fine l b (omega arith))
    | inr low ↦ elim (cases_lt b.level l) [
      | inl coarse ↦ merged_off m (stays_beside (merged_from m (suc l))) (merged_from m (suc l)) l b (λ e. absurd (omega arith)) ∙ from_coarse (suc l) b (omega arith) ∙ sym (from_coarse l b coarse)
      | inr le ↦
          let level : b.level ≡ l = omega arith in
          merged_on m (stays_beside (merged_from m (suc l))) (merged_from m (suc l)) l b (from_coarse (suc l) b (omega arith))
          ∙ may_same m (stays_beside (merged_from m (suc l))) (stays_beside (is_merged m)) l b (λ leaf e. stays_same (merged_from m (suc l)) (is_merged m) leaf (from_fine (suc l) (parent_block leaf) (omega arith)))
          ∙ ap (λ k. may_merge m k (stays_beside (is_merged m)) b) (sym level)
          ∙ sym (merged_step b (omega arith))
          ∙ sym (from_fine l b (omega arith))
    ]
  ]

  -- before the first level, none
  pub no_level : (b : BlockAt) → false ≡ merged_from m m.grid.shape.max b
  no_level b = elim (cases_lt b.level m.grid.shape.max) [
    | inl coarse ↦ sym (from_coarse m.grid.shape.max b coarse)
    | inr fine ↦ sym (from_fine m.grid.shape.max b fine ∙ refuted _ (λ t.
        let deep = (valid.grid.tiles.inside (child_block b 0) ((merged_may m valid).leaf b 0 t (omega arith))).level in
        absurd (omega arith)))
  ]

  -- after the last one, the merged ones
  pub all_levels : (b : BlockAt) → merged_from m 0 b ≡ is_merged m b
  all_levels b = from_fine 0 b (omega arith)

-- ---- single tests

pub ready_is : (t : Tree) (marks : Marks) (refine : List Bool) (node : ℕ) → AreFlagsOf (grid_of t) (is_refined (marked_by t marks)) refine → IsNode (grid_of t) node →
    (is_leaf_block (grid_of t) (block_at (grid_of t) node) && derefine_at marks node && not (flag_in refine node) && nat_lt t.shape.min (block_at (grid_of t) node).level) ≡ is_ready (marked_by t marks) (block_at (grid_of t) node)
unfolding is_ready
ready_is t marks refine node are i =
    ap₂ (λ d r. is_leaf_block (grid_of t) (block_at (grid_of t) node) && d && not r && nat_lt t.shape.min (block_at (grid_of t) node).level)
    (sym (set_at t (derefine_at marks) node i)) (are.each node i)

pub stays_is : (g : Grid) (chosen : BlockAt → Bool) (flags : List Bool) (node parent : ℕ) → AreFlagsOf g chosen flags → IsNumberOf g (parent_block (block_at g node)) parent → 0 < (block_at g node).level → not (flag_in flags parent) ≡ stays_beside chosen (block_at g node)
unfolding stays_beside
stays_is g chosen flags node parent are up lt = ap not (are.each parent up.there ∙ ap chosen up.block) ∙ ap (λ u. not (u && chosen (parent_block (block_at g node)))) (sym (lt-ltb 0 (block_at g node).level lt))

pub root_stays : (chosen : BlockAt → Bool) (b : BlockAt) → b.level ≡ 0 → true ≡ stays_beside chosen b
unfolding stays_beside
root_stays chosen b e = ap (λ k. not (nat_lt 0 k && chosen (parent_block b))) (sym e)
