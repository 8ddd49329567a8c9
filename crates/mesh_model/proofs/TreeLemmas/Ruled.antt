-- The closure keeps the level rule, and is the least and the greatest that does.
use Rattle.std.proofs.Common.{◌≡◌, ℕ, suc, ◌<◌, ◌≤◌, ◌⊎◌, Bool, true, false, nat_lt, refl, sym, ap, ◌∙◌, arith, inl, inr, subst, lt-ltb, ltb-true}
use Rattle.std.proofs.lemmas.Bool.{cases_Bool, cases_lt}
use Rattle.amr_num.specs.declared.BlockAt.{BlockAt}
use Rattle.mesh_model.specs.declared.geometry.Shape.{Shape}
use Rattle.mesh_model.specs.Tree.MarkedGrid.{MarkedGrid, ValidMarkedGrid}
use Rattle.mesh_model.specs.Geometry.Blocks.{child_block, parent_block}
use Rattle.mesh_model.specs.Tree.Closure.{is_refined, is_merged}
use Rattle.mesh_model.specs.Tree.Regrown.{regrown, new_grid}
use Rattle.mesh_model.specs.Tree.Order.{IsIn}
use Rattle.mesh_model.specs.Tree.ValidGrid.{LevelRule, Valid}
use Rattle.mesh_model.specs.Tree.Growth.{MayRefine, MayMerge}
use Rattle.mesh_model.proofs.TreeLemmas.Tests.{refuted}
use Rattle.mesh_model.proofs.TreeLemmas.Tiling.{child_in, same_level}
use Rattle.mesh_model.proofs.TreeLemmas.Touching.{Touch, touch_says, touch_shows, touch_swap, touch_up, touch_child}
use Rattle.mesh_model.proofs.TreeLemmas.Levels.{is_child}
use Rattle.mesh_model.proofs.TreeLemmas.Closure.{Closed, Merges, refined_leaf, refined_marked, refined_chain, refined_least, merged_says, merged_greatest}
use Rattle.mesh_model.proofs.TreeLemmas.Regrown.{alone_test, Fit, FromRefined, FromMerged, Kept, is_parent, child_round, new_child, new_parent, new_kept, new_source, regrown_tiles}

-- a block that is no root is one of its parent's children
pub own_octant : (b : BlockAt) → 0 < b.level → (q : ℕ) × (q < 8) × (child_block (parent_block b) q ≡ b)
own_octant b h =
    let q = child_round b (parent_block b) (child_in b (parent_block b) (is_parent b h)) (omega arith) in
    (q.0, q.1, sym (same_level b (child_block (parent_block b) q.0) q.2 (omega arith)))

-- what touches a child touches the block
pub touch_parent : (s : Shape) (a b : BlockAt) (q : ℕ) → b.level < 10 → Touch s a (child_block b q) → Touch s a b
touch_parent s a b q h t = touch_up s a (child_block b q) b t (child_in (child_block b q) b (is_child b q)) (omega arith)

module _ (m : MarkedGrid) (valid : ValidMarkedGrid m) where
  pub room : (b : BlockAt) → IsIn b m.grid.leaves → b.level ≤ 10
  room b i = let r = (valid.grid.tiles.inside b i).level in let top = valid.grid.shape.max in omega arith

  old_rule : (a b : BlockAt) → IsIn a m.grid.leaves → IsIn b m.grid.leaves → Touch m.grid.shape a b → a.level ≤ suc b.level
  old_rule a b i j t = valid.grid.rule.near a b i j (touch_shows m.grid.shape a b t)

  is_deep : BlockAt → Bool
  is_deep b = nat_lt b.level m.grid.shape.max

  deep_closed : Closed m room is_deep
  unfolding is_deep
  deep_closed = record {
    marks = λ b i h. lt-ltb _ _ (valid.marks.refine b h).1;
    chain = λ c b i j level t h. let in_domain = (valid.grid.tiles.inside c i).level in lt-ltb _ _ (omega arith);
  }

  refined_deep : (b : BlockAt) → is_refined m b ≡ true → b.level < m.grid.shape.max
  unfolding is_deep
  refined_deep b h = ltb-true _ _ (refined_least m room is_deep deep_closed b h)

  refined_room : (b : BlockAt) → is_refined m b ≡ true → b.level < 10
  refined_room b h = let d = refined_deep b h in let top = valid.grid.shape.max in omega arith

  -- parents merged beside the refined leaves, each with what is asked of it
  module _ (merge : BlockAt → Bool) (each : (p : BlockAt) → merge p ≡ true → Merges m room merge p) where
    pub fit : Fit (is_refined m) merge m.grid
    fit = record {
      deep = λ b i h. refined_deep b h;
      leaf = λ p h q l. ((each p h).ready q l).leaf;
      stays = λ p h q l. ((each p h).ready q l).stays;
    }

    merged_level : (p : BlockAt) → merge p ≡ true → p.level < 10
    merged_level p h = let r = room (child_block p 0) (fit.leaf p h 0 (omega arith)) in omega arith

    -- what touches a merged parent touches a leaf that is its child
    leaf_below : (a p : BlockAt) → merge p ≡ true → Touch m.grid.shape a p → (k : BlockAt) × IsIn k m.grid.leaves × (k.level ≡ suc p.level) × Touch m.grid.shape a k
    leaf_below a p h t =
        let c = touch_child m.grid.shape a p (merged_level p h) t in
        (child_block p c.0, fit.leaf p h c.0 c.1, refl, c.2)

    merged_stays : (b : BlockAt) → 0 < b.level → merge (parent_block b) ≡ true → is_refined m b ≡ false
    merged_stays b h t =
        let q = own_octant b h in
        subst (λ u. is_refined m u ≡ false) q.2 (fit.stays (parent_block b) t q.0 q.1)

    abbrev Source : BlockAt → BlockAt → Type 0
    Source n b = FromRefined (is_refined m) merge n b ⊎ (FromMerged (is_refined m) merge n b ⊎ Kept (is_refined m) merge n b)

    level_of_child : (n b : BlockAt) → FromRefined (is_refined m) merge n b → n.level ≡ suc b.level
    level_of_child n b r = ap (λ (x : BlockAt). x.level) (sym r.child)

    from_parent : (n b : BlockAt) → FromMerged (is_refined m) merge n b → merge n ≡ true
    from_parent n b p = ap merge (sym p.parent) ∙ p.merged

    -- what touches a child of a refined leaf touches the leaf
    over_child : (a n b : BlockAt) → FromRefined (is_refined m) merge n b → Touch m.grid.shape a n → Touch m.grid.shape a b
    over_child a n b r t = touch_parent m.grid.shape a b r.octant (refined_room b r.refined) (subst (λ u. Touch m.grid.shape a u) (sym r.child) t)

    rule_refined : (n o b c : BlockAt) → IsIn b m.grid.leaves → IsIn c m.grid.leaves → FromRefined (is_refined m) merge n b → Source o c → Touch m.grid.shape n o → n.level ≤ suc o.level
    rule_refined n o b c i j r source t =
        let level = level_of_child n b r in
        let up : Touch m.grid.shape b o = touch_swap m.grid.shape o b (over_child o n b r (touch_swap m.grid.shape n o t)) in
        elim source [
          | inl s ↦
              let below = level_of_child o c s in
              let old = old_rule b c i j (over_child b o c s up) in
              omega arith
          | inr (inl p) ↦
              let merged = from_parent o c p in
              let k = leaf_below b o merged up in
              let k_level = k.2 in
              let old = old_rule b k.0 i k.1 k.3 in
              elim (cases_lt o.level b.level) [
                | inr low ↦ omega arith
                | inl high ↦ elim (cases_lt (suc o.level) b.level) [
                  | inr one ↦ let none = (each o merged).calm b i (omega arith) up in let some = r.refined in cc
                  | inl two ↦ let none = merged_stays b (omega arith) ((each o merged).finer b i (omega arith) up) in let some = r.refined in cc
                ]
              ]
          | inr (inr k) ↦
              let io = subst (λ u. IsIn u m.grid.leaves) k.same j in
              let old = old_rule b o i io up in
              elim (cases_lt o.level b.level) [
                | inr low ↦ omega arith
                | inl high ↦
                    let some = refined_chain m room b o io (omega arith) up r.refined in
                    let none = ap (is_refined m) (sym k.same) ∙ k.stays in
                    cc
              ]
        ]

    rule_merged : (n o b c : BlockAt) → IsIn c m.grid.leaves → FromMerged (is_refined m) merge n b → Source o c → Touch m.grid.shape n o → n.level ≤ suc o.level
    rule_merged n o b c j p source t =
        let merged = from_parent n b p in
        elim source [
          | inl s ↦
              let below = level_of_child o c s in
              let k = leaf_below c n merged (touch_swap m.grid.shape n c (over_child n o c s t)) in
              let k_level = k.2 in
              let old = old_rule k.0 c k.1 j (touch_swap m.grid.shape c k.0 k.3) in
              omega arith
          | inr (inl s) ↦
              let l = leaf_below n o (from_parent o c s) t in
              let l_level = l.2 in
              let k = leaf_below l.0 n merged (touch_swap m.grid.shape n l.0 l.3) in
              let k_level = k.2 in
              let old = old_rule k.0 l.0 k.1 l.1 (touch_swap m.grid.shape l.0 k.0 k.3) in
              omega arith
          | inr (inr s) ↦
              let io = subst (λ u. IsIn u m.grid.leaves) s.same j in
              let k = leaf_below o n merged (touch_swap m.grid.shape n o t) in
              let k_level = k.2 in
              let old = old_rule k.0 o k.1 io (touch_swap m.grid.shape o k.0 k.3) in
              omega arith
        ]

    rule_kept : (n o c : BlockAt) → IsIn n m.grid.leaves → IsIn c m.grid.leaves → (0 < n.level → merge (parent_block n) ≡ false) → Source o c → Touch m.grid.shape n o → n.level ≤ suc o.level
    rule_kept n o c i j alone source t = elim source [
      | inl s ↦
          let below = level_of_child o c s in
          let old = old_rule n c i j (over_child n o c s t) in
          omega arith
      | inr (inl s) ↦
          let merged = from_parent o c s in
          let k = leaf_below n o merged t in
          let k_level = k.2 in
          let old = old_rule n k.0 i k.1 k.3 in
          elim (cases_lt (suc o.level) n.level) [
            | inr low ↦ low
            | inl two ↦
                let some = (each o merged).finer n i (omega arith) t in
                let none = alone (omega arith) in
                cc
          ]
      | inr (inr s) ↦ old_rule n o i (subst (λ u. IsIn u m.grid.leaves) s.same j) t
    ]

    rule_at : (n o : BlockAt) → IsIn n (regrown m.grid (is_refined m) merge).leaves → IsIn o (regrown m.grid (is_refined m) merge).leaves → Touch m.grid.shape n o → n.level ≤ suc o.level
    rule_at n o i j t =
        let from_n = new_source (is_refined m) merge m.grid n i in
        let from_o = new_source (is_refined m) merge m.grid o j in
        elim from_n.2 [
          | inl r ↦ rule_refined n o from_n.0 from_o.0 from_n.1 from_o.1 r from_o.2 t
          | inr (inl p) ↦ rule_merged n o from_n.0 from_o.0 from_o.1 p from_o.2 t
          | inr (inr k) ↦
              rule_kept n o from_o.0 (subst (λ u. IsIn u m.grid.leaves) k.same from_n.1) from_o.1 (subst (λ (u : BlockAt). 0 < u.level → merge (parent_block u) ≡ false) k.same k.alone) from_o.2 t
        ]

    pub regrown_rule : LevelRule (regrown m.grid (is_refined m) merge)
    regrown_rule = record { near = λ n o i j t. rule_at n o i j (touch_says m.grid.shape n o t) }

    pub regrown_valid : Valid (regrown m.grid (is_refined m) merge)
    regrown_valid = record { shape = valid.grid.shape; tiles = regrown_tiles (is_refined m) merge m.grid fit valid.grid.tiles; rule = regrown_rule }

  -- the new grid is valid
  pub new_grid_valid : Valid (new_grid m)
  new_grid_valid = regrown_valid (is_merged m) (merged_says m room)

  -- so it is where nothing is merged
  pub refined_grid_valid : Valid (regrown m.grid (is_refined m) (λ p. false))
  refined_grid_valid = regrown_valid (λ p. false) (λ p h. cc)

  -- ---- the least set

  may_closed : (set : BlockAt → Bool) → MayRefine m set → Closed m room set
  may_closed set may = record {
    marks = may.marks;
    chain = λ c b i j level t h. elim (cases_Bool (set b)) [
      | inl s ↦ s
      | inr n ↦
          let lt = may.deep c i h in
          let top = valid.grid.shape.max in
          let q = touch_child m.grid.shape b c (omega arith) (touch_swap m.grid.shape c b t) in
          let near = may.rule.near (child_block c q.0) b (new_child set (λ p. false) m.grid c q.0 i h q.1) (new_kept set (λ p. false) m.grid b j n (alone_test set (λ p. false) b (λ l. refl))) (touch_shows m.grid.shape (child_block c q.0) b (touch_swap m.grid.shape b (child_block c q.0) q.2)) in
          absurd (omega arith)
    ];
  }

  -- the refined leaves are within each set that holds the marks and may be refined
  pub least : (set : BlockAt → Bool) → MayRefine m set → (b : BlockAt) → is_refined m b ≡ true → set b ≡ true
  least set may b h = refined_least m room set (may_closed set may) b h

  pub refined_may : MayRefine m (is_refined m)
  refined_may = record { marks = refined_marked m room; deep = λ b i h. refined_deep b h; rule = refined_grid_valid.rule }

  -- ---- the greatest set

  module _ (set : BlockAt → Bool) (may : MayMerge m set) where
    may_fit : Fit (is_refined m) set m.grid
    may_fit = record { deep = λ b i h. refined_deep b h; leaf = λ p h q l. may.leaf p q h l; stays = λ p h q l. may.stays p q h l }

    -- a refined leaf that touches a parent of the set is not finer than it
    refined_below : (leaf p : BlockAt) → set p ≡ true → is_refined m leaf ≡ true → Touch m.grid.shape leaf p → leaf.level ≤ p.level
    refined_below leaf p h r t =
        let q = touch_child m.grid.shape p leaf (refined_room leaf r) (touch_swap m.grid.shape leaf p t) in
        let near = may.rule.near (child_block leaf q.0) p (new_child (is_refined m) set m.grid leaf q.0 (refined_leaf m room leaf r) r q.1) (new_parent (is_refined m) set m.grid may_fit p h) (touch_shows m.grid.shape (child_block leaf q.0) p (touch_swap m.grid.shape p (child_block leaf q.0) q.2)) in
        omega arith

    may_merges : (p : BlockAt) → set p ≡ true → Merges m room set p
    may_merges p h = record {
      ready = λ q l. record { leaf = may.leaf p q h l; marked = may.marked p q h l; stays = may.stays p q h l; level = (valid.marks.derefine (child_block p q) (may.marked p q h l)).1 };
      calm = λ leaf i level t. refuted _ (λ r. let low = refined_below leaf p h r t in absurd (omega arith));
      finer = λ leaf i level t. elim (cases_Bool (set (parent_block leaf))) [
        | inl s ↦ s
        | inr n ↦ elim (cases_Bool (is_refined m leaf)) [
          | inl r ↦ let low = refined_below leaf p h r t in absurd (omega arith)
          | inr f ↦
              let near = may.rule.near leaf p (new_kept (is_refined m) set m.grid leaf i f (alone_test (is_refined m) set leaf (λ l. n))) (new_parent (is_refined m) set m.grid may_fit p h) (touch_shows m.grid.shape leaf p t) in
              absurd (omega arith)
        ]
      ];
    }

    -- each set of parents that may be merged beside the refined leaves is within the merged ones
    pub greatest : (p : BlockAt) → set p ≡ true → is_merged m p ≡ true
    greatest p h = merged_greatest m room set may_merges p h

  pub merged_may : MayMerge m (is_merged m)
  merged_may = record {
    leaf = λ p q h l. ((merged_says m room p h).ready q l).leaf;
    marked = λ p q h l. ((merged_says m room p h).ready q l).marked;
    stays = λ p q h l. ((merged_says m room p h).ready q l).stays;
    rule = new_grid_valid.rule;
  }
