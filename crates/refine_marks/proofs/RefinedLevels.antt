-- The refined leaves, from the finest level to the coarsest.
use Rattle.std.proofs.Common.{◌≡◌, ℕ, suc, ◌-◌, ◌<◌, ◌≤◌, Bool, true, false, ◌&&◌, ◌||◌, ◌==◌, nat_le, refl, sym, ap, ap₂, ◌∙◌, arith, inl, inr, List, [], ◌∷◌, eqb-true, eq-eqb, le-leb, leb-true}
use Rattle.std.proofs.lemmas.Bool.{cases_lt}
use Rattle.std.specs.List.{list_any}
use Rattle.amr_num.specs.declared.BlockAt.{BlockAt}
use Rattle.mesh_model.specs.Tree.Closure.{refined, is_refined}
use Rattle.mesh_model.specs.Tree.Order.{IsIn}
use Rattle.mesh_model.specs.Tree.Kinds.{Grid, is_leaf_block}
use Rattle.mesh_model.specs.Tree.MarkedGrid.{MarkedGrid}
use Rattle.mesh_model.specs.Geometry.Touch.{touches}
use Rattle.mesh_model.specs.Tree.MarkedGrid.{ValidMarkedGrid}
use Rattle.mesh_model.proofs.TreeLemmas.Closure.{refined_leaf}
use Rattle.mesh_model.proofs.TreeLemmas.Ruled.{room, refined_may}
use Rattle.mesh_model.proofs.TreeLemmas.Tests.{and_left, or_right, refuted}
use Rattle.mesh_model.proofs.TreeLemmas.Tiling.{leaf_shows}
use Rattle.refine_marks.specs.Closing.{refined_from, spread_to}
use Rattle.refine_marks.specs.Flags.{AreFlagsOf, touches_any}

pub any_same : (p q : BlockAt → Bool) (bs : List BlockAt) → ((b : BlockAt) → IsIn b bs → p b ≡ q b) → list_any p bs ≡ list_any q bs
any_same p q [] h = refl
any_same p q (b ∷ bs) h = ap₂ (λ u w. u || w) (h b (inl refl)) (any_same p q bs (λ c i. h c (inr i)))

guarded_same : (x r s : Bool) → (x ≡ true → r ≡ s) → (x && r) ≡ (x && s)
guarded_same true r s h = h refl
guarded_same false r s h = refl

guarded_is : (x r s : Bool) → (x ≡ true → r ≡ s) → (elim x [ true ↦ r | false ↦ false ]) ≡ (x && s)
guarded_is true r s h = h refl
guarded_is false r s h = refl

-- what touches depends on the leaves of the level alone
pub touches_same : (g : Grid) (p q : BlockAt → Bool) (l : ℕ) (b : BlockAt) → ((leaf : BlockAt) → IsIn leaf g.leaves → leaf.level ≡ l → p leaf ≡ q leaf) → touches_any g p l b ≡ touches_any g q l b
unfolding touches_any
touches_same g p q l b h = any_same _ _ g.leaves (λ leaf i. guarded_same ((leaf.level == l) && touches g.shape leaf b) (p leaf) (q leaf) (λ t. h leaf i (eqb-true _ _ (and_left (leaf.level == l) (touches g.shape leaf b) t))))

pub are_same : (g : Grid) (p q : BlockAt → Bool) (flags : List Bool) → ((b : BlockAt) → p b ≡ q b) → AreFlagsOf g p flags → AreFlagsOf g q flags
are_same g p q flags h are = record { size = are.size; each = λ node i. are.each node i ∙ h _ }

pub or_false : (x : Bool) → (x || false) ≡ x
or_false true = refl
or_false false = refl

pub not_level : (k l : ℕ) → (k ≡ l → ⊥) → (k == l) ≡ false
not_level k l h = refuted _ (λ t. h (eqb-true k l t))

pub coarse_test : (l k : ℕ) → k < l → nat_le l k ≡ false
coarse_test l k h = refuted _ (λ t. let le = leb-true l k t in absurd (omega arith))

pub spread_off : (g : Grid) (chosen : BlockAt → Bool) (l : ℕ) (b : BlockAt) → (b.level ≡ l → ⊥) → spread_to g l chosen b ≡ chosen b
unfolding spread_to
spread_off g chosen l b h = rw (not_level b.level l h) (or_false (chosen b))

-- the leaves of the level that touch one of the set join it, and no other
pub spread_true : (g : Grid) (chosen : BlockAt → Bool) (l : ℕ) (b : BlockAt) → ((b.level == l) && is_leaf_block g b && touches_any g chosen (suc l) b) ≡ true → spread_to g l chosen b ≡ true
unfolding spread_to
spread_true g chosen l b h = or_right (chosen b) _ h

pub spread_false : (g : Grid) (chosen : BlockAt → Bool) (l : ℕ) (b : BlockAt) → ((b.level == l) && is_leaf_block g b && touches_any g chosen (suc l) b) ≡ false → spread_to g l chosen b ≡ chosen b
unfolding spread_to
spread_false g chosen l b h = rw h (or_false (chosen b))

spread_on : (g : Grid) (chosen : BlockAt → Bool) (l : ℕ) (b : BlockAt) → b.level ≡ l → spread_to g l chosen b ≡ (chosen b || (is_leaf_block g b && touches_any g chosen (suc l) b))
unfolding spread_to
spread_on g chosen l b h = rw (eq-eqb b.level l h) refl

either_or : (r leaf t : Bool) → (r ≡ true → leaf ≡ true) → (r || (leaf && t)) ≡ (leaf && (r || t))
either_or true true t h = refl
either_or true false t h = let bad = h refl in cc
either_or false true t h = refl
either_or false false t h = refl

module _ (m : MarkedGrid) (valid : ValidMarkedGrid m) where
  -- a leaf is refined where it is marked or touches a refined leaf one level finer
  refined_step : (b : BlockAt) → b.level < 10 → is_refined m b ≡ (is_leaf_block m.grid b && (m.refine b || touches_any m.grid (is_refined m) (suc b.level) b))
  unfolding refined touches_any
  refined_step b h =
      let d = 10 - suc b.level in
      let one : 10 - b.level ≡ suc d = omega arith in
      let finer : list_any (λ leaf. elim ((leaf.level == suc b.level) && touches m.grid.shape leaf b) [ true ↦ refined m d leaf | false ↦ false ]) m.grid.leaves ≡ list_any (λ leaf. (leaf.level == suc b.level) && touches m.grid.shape leaf b && is_refined m leaf) m.grid.leaves = any_same _ _ m.grid.leaves (λ leaf i. guarded_is ((leaf.level == suc b.level) && touches m.grid.shape leaf b) (refined m d leaf) (is_refined m leaf) (λ t.
      let level = eqb-true _ _ (and_left (leaf.level == suc b.level) (touches m.grid.shape leaf b) t) in
      let same : d ≡ 10 - leaf.level = omega arith in
      ap (λ k. refined m k leaf) same ∙ ap (λ u. u && refined m (10 - leaf.level) leaf) (sym (leaf_shows m.grid leaf i)))) in
      ap (λ k. is_leaf_block m.grid b && refined m k b) one ∙ ap (λ u. is_leaf_block m.grid b && (m.refine b || u)) finer

  from_fine : (l : ℕ) (b : BlockAt) → l ≤ b.level → refined_from m l b ≡ is_refined m b
  unfolding refined_from
  from_fine l b h = rw (le-leb l b.level h) refl

  from_coarse : (l : ℕ) (b : BlockAt) → b.level < l → refined_from m l b ≡ m.refine b
  unfolding refined_from
  from_coarse l b h = rw (coarse_test l b.level h) refl

  -- one level more
  pub one_level : (l : ℕ) → l < 10 → (b : BlockAt) → spread_to m.grid l (refined_from m (suc l)) b ≡ refined_from m l b
  one_level l h b = elim (cases_lt l b.level) [
    | inl fine ↦ spread_off m.grid (refined_from m (suc l)) l b (λ e. absurd (omega arith)) ∙ from_fine (suc l) b fine ∙ sym (from_fine l b (omega arith))
    | inr low ↦ elim (cases_lt b.level l) [
      | inl coarse ↦ spread_off m.grid (refined_from m (suc l)) l b (λ e. absurd (omega arith)) ∙ from_coarse (suc l) b (omega arith) ∙ sym (from_coarse l b coarse)
      | inr le ↦
          let level : b.level ≡ l = omega arith in
          let finer : touches_any m.grid (refined_from m (suc l)) (suc l) b ≡ touches_any m.grid (is_refined m) (suc l) b = touches_same m.grid _ _ (suc l) b (λ leaf i e. from_fine (suc l) leaf (omega arith)) in
          spread_on m.grid (refined_from m (suc l)) l b level
          ∙ ap₂ (λ r t. r || (is_leaf_block m.grid b && t)) (from_coarse (suc l) b (omega arith)) finer
          ∙ either_or (m.refine b) (is_leaf_block m.grid b) _ (λ t. (valid.marks.refine b t).0)
          ∙ ap (λ k. is_leaf_block m.grid b && (m.refine b || touches_any m.grid (is_refined m) (suc k) b)) (sym level)
          ∙ sym (refined_step b (omega arith))
          ∙ sym (from_fine l b (omega arith))
    ]
  ]

  -- before the first level, the marked ones
  pub no_level : (b : BlockAt) → m.refine b ≡ refined_from m m.grid.shape.max b
  no_level b = elim (cases_lt b.level m.grid.shape.max) [
    | inl coarse ↦ sym (from_coarse m.grid.shape.max b coarse)
    | inr fine ↦
        refuted _ (λ t. let deep = (valid.marks.refine b t).1 in absurd (omega arith))
        ∙ sym (refuted _ (λ t. let deep = (refined_may m valid).deep b (refined_leaf m (room m valid) b t) t in absurd (omega arith)))
        ∙ sym (from_fine m.grid.shape.max b fine)
  ]

  -- after the last one, the refined ones
  pub all_levels : (b : BlockAt) → refined_from m 0 b ≡ is_refined m b
  all_levels b = from_fine 0 b (omega arith)
