-- The refined leaves and the merged parents, as the rules say them.
use Rattle.std.proofs.Common.{◌≡◌, ℕ, zero, suc, ◌+◌, ◌-◌, ◌*◌, ◌/◌, ◌%◌, ◌<◌, ◌≤◌, Bool, true, false, ◌&&◌, ◌==◌, not, nat_lt, refl, ap, ◌∙◌, arith, inl, inr, subst, eq-eqb, eqb-true, lt-ltb, ltb-true}
use Rattle.std.specs.List.{list_any, list_all}
use Rattle.amr_num.specs.declared.BlockAt.{BlockAt}
use Rattle.mesh_model.specs.Tree.MarkedGrid.{MarkedGrid}
use Rattle.mesh_model.specs.Tree.Kinds.{is_leaf_block}
use Rattle.mesh_model.specs.Geometry.Blocks.{child_block, parent_block, children}
use Rattle.mesh_model.specs.Tree.Closure.{refined, is_refined, is_ready, is_blocked, merged, is_merged}
use Rattle.mesh_model.specs.Geometry.Touch.{touches}
use Rattle.mesh_model.specs.Tree.Order.{IsIn}
use Rattle.mesh_model.proofs.TreeLemmas.Tests.{all_three, all_four, and_left, and_right, and_both, either_true, or_left, or_right, refuted, not_true, false_not, found, there, of_all, for_all}
use Rattle.mesh_model.proofs.TreeLemmas.Tiling.{leaf_says, leaf_shows}
use Rattle.mesh_model.proofs.TreeLemmas.Touching.{Touch, touch_says, touch_shows}

-- ---- guarded tests

guarded : (b t : Bool) → (elim b [ true ↦ t | false ↦ false ]) ≡ true → (b ≡ true) × (t ≡ true)
guarded true t h = (refl, h)
guarded false t h = cc

guard : (b t : Bool) → b ≡ true → t ≡ true → (elim b [ true ↦ t | false ↦ false ]) ≡ true
guard b t p q = rw (p, q) refl

required : (b t : Bool) → (elim b [ true ↦ t | false ↦ true ]) ≡ true → b ≡ true → t ≡ true
required true t h p = h
required false t h p = cc

require : (b t : Bool) → (b ≡ true → t ≡ true) → (elim b [ true ↦ t | false ↦ true ]) ≡ true
require true t h = h refl
require false t h = refl

-- ---- children

pub in_children : (p : BlockAt) (q : ℕ) → q < 8 → IsIn (child_block p q) (children p)
in_children p zero h = inl refl
in_children p (suc zero) h = inr (inl refl)
in_children p (suc (suc zero)) h = inr (inr (inl refl))
in_children p (suc (suc (suc zero))) h = inr (inr (inr (inl refl)))
in_children p (suc (suc (suc (suc zero)))) h = inr (inr (inr (inr (inl refl))))
in_children p (suc (suc (suc (suc (suc zero))))) h = inr (inr (inr (inr (inr (inl refl)))))
in_children p (suc (suc (suc (suc (suc (suc zero)))))) h = inr (inr (inr (inr (inr (inr (inl refl))))))
in_children p (suc (suc (suc (suc (suc (suc (suc zero))))))) h = inr (inr (inr (inr (inr (inr (inr (inl refl)))))))
in_children p (suc (suc (suc (suc (suc (suc (suc (suc q)))))))) h = absurd (omega arith)

pub from_children : (p c : BlockAt) → IsIn c (children p) → (q : ℕ) × (q < 8) × (child_block p q ≡ c)
from_children p c (inl e) = (0, omega arith, e)
from_children p c (inr (inl e)) = (1, omega arith, e)
from_children p c (inr (inr (inl e))) = (2, omega arith, e)
from_children p c (inr (inr (inr (inl e)))) = (3, omega arith, e)
from_children p c (inr (inr (inr (inr (inl e))))) = (4, omega arith, e)
from_children p c (inr (inr (inr (inr (inr (inl e)))))) = (5, omega arith, e)
from_children p c (inr (inr (inr (inr (inr (inr (inl e))))))) = (6, omega arith, e)
from_children p c (inr (inr (inr (inr (inr (inr (inr (inl e)))))))) = (7, omega arith, e)
from_children p c (inr (inr (inr (inr (inr (inr (inr (inr e)))))))) = absurd e

pub parent_of_child : (p : BlockAt) (q : ℕ) → parent_block (child_block p q) ≡ p
parent_of_child p q =
    let lv : suc p.level - 1 ≡ p.level = omega arith in
    let xs : (2 * p.x + q % 2) / 2 ≡ p.x = omega arith in
    let ys : (2 * p.y + q / 2 % 2) / 2 ≡ p.y = omega arith in
    let zs : (2 * p.z + q / 4 % 2) / 2 ≡ p.z = omega arith in
    λ i. record { level = lv i; x = xs i; y = ys i; z = zs i }

-- ---- refined leaves

module _ (m : MarkedGrid) (room : (b : BlockAt) → IsIn b m.grid.leaves → b.level ≤ 10) where
  finer_test : (leaf b : BlockAt) → leaf.level ≡ suc b.level → Touch m.grid.shape leaf b → ((leaf.level == suc b.level) && touches m.grid.shape leaf b) ≡ true
  finer_test leaf b level t = and_both (leaf.level == suc b.level) (touches m.grid.shape leaf b) (eq-eqb _ _ level) (touch_shows m.grid.shape leaf b t)

  pub refined_leaf : (b : BlockAt) → is_refined m b ≡ true → IsIn b m.grid.leaves
  refined_leaf b h = leaf_says m.grid b (and_left (is_leaf_block m.grid b) (refined m (10 - b.level) b) h)

  marked : (d : ℕ) (b : BlockAt) → m.refine b ≡ true → refined m d b ≡ true
  unfolding refined
  marked zero b h = h
  marked (suc d) b h = or_left (m.refine b) _ h

  -- a marked leaf is refined
  pub refined_marked : (b : BlockAt) → IsIn b m.grid.leaves → m.refine b ≡ true → is_refined m b ≡ true
  refined_marked b i h = and_both (is_leaf_block m.grid b) (refined m (10 - b.level) b) (leaf_shows m.grid b i) (marked _ b h)

  chained : (d : ℕ) (c b : BlockAt) → IsIn c m.grid.leaves → c.level ≡ suc b.level → Touch m.grid.shape c b → refined m d c ≡ true → refined m (suc d) b ≡ true
  unfolding refined
  chained d c b i level t h = or_right (m.refine b) _ (there _ c m.grid.leaves i (guard _ (refined m d c) (finer_test c b level t) h))

  -- so is a leaf that touches a refined one, which is one level finer
  pub refined_chain : (c b : BlockAt) → IsIn b m.grid.leaves → c.level ≡ suc b.level → Touch m.grid.shape c b → is_refined m c ≡ true → is_refined m b ≡ true
  refined_chain c b i level t h =
      let ic = refined_leaf c h in
      let deep = room c ic in
      let one : 10 - b.level ≡ suc (10 - c.level) = omega arith in
      let rest : refined m (10 - c.level) c ≡ true = and_right (is_leaf_block m.grid c) (refined m (10 - c.level) c) h in
      and_both (is_leaf_block m.grid b) (refined m (10 - b.level) b) (leaf_shows m.grid b i) (ap (λ d. refined m d b) one ∙ chained (10 - c.level) c b ic level t rest)

  -- a set of leaves that has the marked ones, and each that touches one of it which is one level finer
  pub record Closed (set : BlockAt → Bool) : Type 0 where
    pub marks : (b : BlockAt) → IsIn b m.grid.leaves → m.refine b ≡ true → set b ≡ true
    pub chain : (c b : BlockAt) → IsIn c m.grid.leaves → IsIn b m.grid.leaves → c.level ≡ suc b.level → Touch m.grid.shape c b → set c ≡ true → set b ≡ true

  within : (set : BlockAt → Bool) → Closed set → (d : ℕ) (b : BlockAt) → IsIn b m.grid.leaves → refined m d b ≡ true → set b ≡ true
  unfolding refined
  within set closed zero b i h = closed.marks b i h
  within set closed (suc d) b i h = elim (either_true (m.refine b) (list_any (λ leaf. elim ((leaf.level == suc b.level) && touches m.grid.shape leaf b) [ true ↦ refined m d leaf | false ↦ false ]) m.grid.leaves) h) [
    | inl t ↦ closed.marks b i t
    | inr t ↦
        let leaf = found _ m.grid.leaves t in
        let both = guarded ((leaf.0.level == suc b.level) && touches m.grid.shape leaf.0 b) (refined m d leaf.0) leaf.2 in
        closed.chain leaf.0 b leaf.1 i (eqb-true _ _ (and_left (leaf.0.level == suc b.level) (touches m.grid.shape leaf.0 b) both.0)) (touch_says m.grid.shape leaf.0 b (and_right (leaf.0.level == suc b.level) (touches m.grid.shape leaf.0 b) both.0)) (within set closed d leaf.0 leaf.1 both.1)
  ]

  -- the refined leaves are within each such set
  pub refined_least : (set : BlockAt → Bool) → Closed set → (b : BlockAt) → is_refined m b ≡ true → set b ≡ true
  refined_least set closed b h = within set closed _ b (refined_leaf b h) (and_right (is_leaf_block m.grid b) (refined m (10 - b.level) b) h)

  -- ---- merged parents

  pub record Ready (c : BlockAt) : Type 0 where
    pub leaf : IsIn c m.grid.leaves
    pub marked : m.derefine c ≡ true
    pub stays : is_refined m c ≡ false
    pub level : m.grid.shape.min < c.level

  ready_says : (c : BlockAt) → is_ready m c ≡ true → Ready c
  unfolding is_ready
  ready_says c h =
      let four = all_four (is_leaf_block m.grid c) (m.derefine c) (not (is_refined m c)) (nat_lt m.grid.shape.min c.level) h in
      record { leaf = leaf_says m.grid c four.0; marked = four.1; stays = not_true (is_refined m c) four.2; level = ltb-true _ _ four.3 }

  ready_shows : (c : BlockAt) → Ready c → is_ready m c ≡ true
  unfolding is_ready
  ready_shows c h =
      and_both (is_leaf_block m.grid c && m.derefine c && not (is_refined m c)) (nat_lt m.grid.shape.min c.level)
      (and_both (is_leaf_block m.grid c && m.derefine c) (not (is_refined m c))
      (and_both (is_leaf_block m.grid c) (m.derefine c) (leaf_shows m.grid c h.leaf) h.marked)
      (false_not (is_refined m c) h.stays))
      (lt-ltb _ _ h.level)

  -- what is asked of a merged parent; others are the merged ones
  pub record Merges (others : BlockAt → Bool) (p : BlockAt) : Type 0 where
    pub ready : (q : ℕ) → q < 8 → Ready (child_block p q)
    pub calm : (leaf : BlockAt) → IsIn leaf m.grid.leaves → leaf.level ≡ suc p.level → Touch m.grid.shape leaf p → is_refined m leaf ≡ false
    pub finer : (leaf : BlockAt) → IsIn leaf m.grid.leaves → leaf.level ≡ suc (suc p.level) → Touch m.grid.shape leaf p → others (parent_block leaf) ≡ true

  blocked_test : (leaf p : BlockAt) → leaf.level ≡ suc p.level → Touch m.grid.shape leaf p → is_refined m leaf ≡ true → ((leaf.level == suc p.level) && touches m.grid.shape leaf p && is_refined m leaf) ≡ true
  blocked_test leaf p level t h = and_both ((leaf.level == suc p.level) && touches m.grid.shape leaf p) (is_refined m leaf) (finer_test leaf p level t) h

  not_blocked_says : (p : BlockAt) → is_blocked m p ≡ false → (leaf : BlockAt) → IsIn leaf m.grid.leaves → leaf.level ≡ suc p.level → Touch m.grid.shape leaf p → is_refined m leaf ≡ false
  unfolding is_blocked
  not_blocked_says p h leaf i level t = refuted _ (λ r.
      let blocked : is_blocked m p ≡ true = there (λ leaf. (leaf.level == suc p.level) && touches m.grid.shape leaf p && is_refined m leaf) leaf m.grid.leaves i (blocked_test leaf p level t r) in
      cc)

  not_blocked_shows : (p : BlockAt) → ((leaf : BlockAt) → IsIn leaf m.grid.leaves → leaf.level ≡ suc p.level → Touch m.grid.shape leaf p → is_refined m leaf ≡ false) → is_blocked m p ≡ false
  unfolding is_blocked
  not_blocked_shows p h = refuted _ (λ b.
      let leaf = found (λ leaf. (leaf.level == suc p.level) && touches m.grid.shape leaf p && is_refined m leaf) m.grid.leaves b in
      let three = all_three (leaf.0.level == suc p.level) (touches m.grid.shape leaf.0 p) (is_refined m leaf.0) leaf.2 in
      let none = h leaf.0 leaf.1 (eqb-true _ _ three.0) (touch_says m.grid.shape leaf.0 p three.1) in
      let some = three.2 in
      cc)

  -- at d the levels above p's children, what is merged above them is counted by d
  says : (d : ℕ) (p : BlockAt) → merged m (suc d) p ≡ true → Merges (merged m d) p
  unfolding merged
  says d p h =
      let three = all_three (list_all (is_ready m) (children p)) (not (is_blocked m p)) (list_all (λ leaf. elim ((leaf.level == suc (suc p.level)) && touches m.grid.shape leaf p) [ true ↦ merged m d (parent_block leaf) | false ↦ true ]) m.grid.leaves) h in
      record {
        ready = λ q l. ready_says (child_block p q) (of_all (is_ready m) (child_block p q) (children p) (in_children p q l) three.0);
        calm = not_blocked_says p (not_true (is_blocked m p) three.1);
        finer = λ leaf i level t. required ((leaf.level == suc (suc p.level)) && touches m.grid.shape leaf p) (merged m d (parent_block leaf)) (of_all _ leaf m.grid.leaves i three.2) (and_both (leaf.level == suc (suc p.level)) (touches m.grid.shape leaf p) (eq-eqb _ _ level) (touch_shows m.grid.shape leaf p t));
      }

  shows : (d : ℕ) (p : BlockAt) → Merges (merged m d) p → merged m (suc d) p ≡ true
  unfolding merged
  shows d p h =
      let ready : list_all (is_ready m) (children p) ≡ true = for_all (is_ready m) (children p) (λ c i. let q = from_children p c i in subst (λ u. is_ready m u ≡ true) q.2 (ready_shows (child_block p q.0) (h.ready q.0 q.1))) in
      let finer : list_all (λ leaf. elim ((leaf.level == suc (suc p.level)) && touches m.grid.shape leaf p) [ true ↦ merged m d (parent_block leaf) | false ↦ true ]) m.grid.leaves ≡ true = for_all _ m.grid.leaves (λ leaf i. require ((leaf.level == suc (suc p.level)) && touches m.grid.shape leaf p) (merged m d (parent_block leaf)) (λ t. h.finer leaf i (eqb-true _ _ (and_left (leaf.level == suc (suc p.level)) (touches m.grid.shape leaf p) t)) (touch_says m.grid.shape leaf p (and_right (leaf.level == suc (suc p.level)) (touches m.grid.shape leaf p) t)))) in
      and_both (list_all (is_ready m) (children p) && not (is_blocked m p)) _ (and_both (list_all (is_ready m) (children p)) (not (is_blocked m p)) ready (false_not (is_blocked m p) (not_blocked_shows p h.calm))) finer

  parent_level : (leaf p : BlockAt) → leaf.level ≡ suc (suc p.level) → (parent_block leaf).level ≡ suc p.level
  parent_level leaf p h = omega arith

  none_above : (p : BlockAt) → merged m zero p ≡ true → ⊥
  unfolding merged
  none_above p h = cc

  merged_at : (d : ℕ) (p : BlockAt) → 10 - p.level ≡ d → merged m d p ≡ true → Merges (is_merged m) p
  merged_at zero p e h = absurd (none_above p h)
  merged_at (suc d) p e h =
      let s = says d p h in
      record {
        ready = s.ready;
        calm = s.calm;
        finer = λ leaf i level t.
            let up = parent_level leaf p level in
            let same : 10 - (parent_block leaf).level ≡ d = omega arith in
            ap (λ k. merged m k (parent_block leaf)) same ∙ s.finer leaf i level t;
      }

  -- a merged parent has what is asked of it
  pub merged_says : (p : BlockAt) → is_merged m p ≡ true → Merges (is_merged m) p
  merged_says p h = merged_at _ p refl h

  greatest_at : (set : BlockAt → Bool) → ((p : BlockAt) → set p ≡ true → Merges set p) → (d : ℕ) (p : BlockAt) → 10 - p.level ≡ d → set p ≡ true → merged m d p ≡ true
  greatest_at set each zero p e h =
      let deep = room _ ((each p h).ready 0 (omega arith)).leaf in
      absurd (omega arith)
  greatest_at set each (suc d) p e h =
      let s = each p h in
      shows d p (record {
        ready = s.ready;
        calm = s.calm;
        finer = λ leaf i level t.
            let up = parent_level leaf p level in
            greatest_at set each d (parent_block leaf) (omega arith) (s.finer leaf i level t);
      })

  -- each set of parents of which each has what is asked of it beside the set is within the merged ones
  pub merged_greatest : (set : BlockAt → Bool) → ((p : BlockAt) → set p ≡ true → Merges set p) → (p : BlockAt) → set p ≡ true → is_merged m p ≡ true
  merged_greatest set each p h = greatest_at set each _ p refl h
