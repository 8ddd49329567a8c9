-- The level rule among leaves that tile the domain, by the blocks round the parents.
use Rattle.std.proofs.Common.{◌≡◌, ℕ, suc, ◌+◌, ◌-◌, ◌<◌, ◌≤◌, true, Some, refl, sym, ap, subst, arith, inl, inr}
use Rattle.std.proofs.lemmas.Bool.{cases_Bool, cases_lt}
use Rattle.amr_num.specs.declared.BlockAt.{BlockAt}
use Rattle.mesh_model.specs.Geometry.Blocks.{parent_block, LiesIn, InDomain}
use Rattle.mesh_model.specs.Geometry.Limits.{IsShape}
use Rattle.mesh_model.specs.Tree.Kinds.{Grid, is_split_block}
use Rattle.mesh_model.specs.Tree.Order.{IsIn, nodes}
use Rattle.mesh_model.specs.Tree.ValidGrid.{LevelRule, Tiles}
use Rattle.mesh_model.proofs.TreeLemmas.Levels.{apart, descend, domain_down, home, touching_leaf}
use Rattle.mesh_model.proofs.TreeLemmas.Nodes.{leaf_under, round_leaf}
use Rattle.mesh_model.proofs.TreeLemmas.Regrown.{is_parent}
use Rattle.mesh_model.proofs.TreeLemmas.Tiling.{child_in, domain_up, lies_refl, lies_trans, same_level, split_says, split_shows}
use Rattle.mesh_model.proofs.TreeLemmas.Touching.{Touch, touch_says, touch_shows, touch_swap, touch_up}
use Rattle.block_tree.specs.Surrounded.{AreRound}
use Rattle.block_tree.proofs.Toward.{steps_of, there_inside, there_says, there_touches, touches_there}

module _ (g : Grid) (tiles : Tiles g) (shape : IsShape g.shape) where
  abbrev small : g.shape.max ≤ 10
  small = shape.max

  split_inside : (b : BlockAt) → is_split_block g b ≡ true → InDomain g.shape b
  split_inside b split = let under = split_says g b split in domain_up g.shape under.0 b under.3 (tiles.inside under.0 under.1)

  -- a node in a leaf is not finer than it
  node_in_leaf : (q b : BlockAt) → IsIn q (nodes g.leaves) → IsIn b g.leaves → LiesIn q b → q.level ≤ b.level
  node_in_leaf q b i j lies =
      let leaf = leaf_under g.leaves q i in
      let deep = leaf.2.level in
      let same = ap (λ (u : BlockAt). u.level) (apart g tiles small leaf.0 b leaf.1 j (lies_trans leaf.0 q b leaf.2 lies)) in
      omega arith

  -- where blocks stand round a parent, it touches no leaf that is coarser than it
  no_coarser : (p b : BlockAt) → InDomain g.shape p → AreRound g.shape (nodes g.leaves) p 27 → IsIn b g.leaves → Touch g.shape p b → p.level ≤ b.level
  no_coarser p b inside round j touch = elim (cases_lt b.level p.level) [
    | inr low ↦ low
    | inl fine ↦
        let s = g.shape in
        let top = small in
        let room = inside.level in
        let q = descend s p.level (p.level - b.level) p b (omega arith) (omega arith) touch in
        let within = domain_down s q.0 b q.2 (let level = q.1 in omega arith) (tiles.inside b j) in
        let d = touches_there s p inside (omega arith) q.0 within q.1 q.3 in
        let low = node_in_leaf q.0 b (round.each d.0 q.0 d.1 d.2) j q.2 in
        let level = q.1 in
        low_enough p.level q.0.level b.level level low
  ]
    where
      low_enough : (p q b : ℕ) → q ≡ p → q ≤ b → p ≤ b
      low_enough p q b e h = omega arith

  -- where blocks stand round each parent, the rule is kept: a leaf is one level finer than its parent
  calm_leaf : ((p : BlockAt) → is_split_block g p ≡ true → AreRound g.shape (nodes g.leaves) p 27) →
      (a b : BlockAt) → IsIn a g.leaves → IsIn b g.leaves → Touch g.shape a b → 0 < a.level → a.level ≤ suc b.level
  calm_leaf round a b i j touch some =
      let s = g.shape in
      let top = small in
      let room = (tiles.inside a i).level in
      let p : BlockAt = parent_block a in
      let lies : LiesIn a p = child_in a p (is_parent a some) in
      let split = split_shows g p a i (omega arith) lies in
      let low = no_coarser p b (domain_up s a p lies (tiles.inside a i)) (round p split) j (touch_swap s b p (touch_up s b a p (touch_swap s a b touch) lies (omega arith))) in
      omega arith

  pub round_rule : ((p : BlockAt) → is_split_block g p ≡ true → AreRound g.shape (nodes g.leaves) p 27) → LevelRule g
  round_rule round = record {
    near = λ a b i j touch. elim (cases_lt 0 a.level) [
      | inl some ↦ calm_leaf round a b i j (touch_says g.shape a b touch) some
      | inr root ↦ omega arith
    ];
  }

  -- where the rule is kept, blocks stand round each parent: one that is no node would lie in a leaf too coarse for the leaf below the
  -- parent that touches it
  coarse_beside : LevelRule g → (p q leaf : BlockAt) → is_split_block g p ≡ true → q.level ≡ p.level → InDomain g.shape q → Touch g.shape p q →
      IsIn leaf g.leaves → LiesIn q leaf → leaf.level < q.level → ⊥
  coarse_beside rule p q leaf split level within touch i lies coarse =
      let s = g.shape in
      let top = small in
      let room = within.level in
      let under = touching_leaf g tiles small q p (split_inside p split) (touch_swap s p q touch) in
      let deep = under.3 split in
      let near = rule.near under.0 leaf under.1 i (touch_shows s under.0 leaf (touch_up s under.0 q leaf (touch_swap s q under.0 under.2) lies (omega arith))) in
      omega arith

  pub rule_round : LevelRule g → (p : BlockAt) → is_split_block g p ≡ true → AreRound g.shape (nodes g.leaves) p 27
  rule_round rule p split = record {
    each = λ d q few is.
        let s = g.shape in
        let top = small in
        let inside = split_inside p split in
        let room = inside.level in
        let there = there_says s _ p q is in
        let level = there.level in
        let within = there_inside s p inside (omega arith) _ q there in
        elim (cases_Bool (is_split_block g q)) [
          | inl t ↦ let under = split_says g q t in round_leaf g tiles q under.0 under.1 under.3
          | inr whole ↦
              let leaf = home g tiles small q within whole in
              elim (cases_lt leaf.0.level q.level) [
                | inl coarse ↦ absurd (coarse_beside rule p q leaf.0 split level within (there_touches s p inside (omega arith) _ q there) leaf.1 leaf.2 coarse)
                | inr fine ↦
                    let low = leaf.2.level in
                    let same = same_level q leaf.0 leaf.2 (omega arith) in
                    round_leaf g tiles q leaf.0 leaf.1 (subst (λ u. LiesIn u q) same (lies_refl q))
              ]
        ];
  }
