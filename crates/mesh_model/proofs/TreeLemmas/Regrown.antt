-- Refining some leaves and merging some parents of a grid that tiles the domain gives a grid that does.
use Rattle.std.proofs.Common.{◌≡◌, ℕ, suc, ◌+◌, ◌-◌, ◌*◌, ◌/◌, ◌%◌, ◌^◌, ◌<◌, ◌⊎◌, Bool, true, false, ◌&&◌, ◌==◌, nat_lt, if◌then◌else◌, refl, sym, ap, ◌∙◌, arith, inl, inr, subst, [], ◌∷◌, eq-eqb, lt-ltb, ltb-true}
use Rattle.std.proofs.lemmas.Bool.{cases_Bool}
use Rattle.std.proofs.Math.Nat.{div-div-eq-div-mul}
use Rattle.std.proofs.Math.Pow.{pow-add}
use Rattle.amr_num.specs.declared.BlockAt.{BlockAt}
use Rattle.mesh_model.specs.Tree.Kinds.{Grid}
use Rattle.mesh_model.specs.Geometry.Blocks.{child_block, parent_block, children, LiesIn, InDomain}
use Rattle.mesh_model.specs.Tree.Regrown.{leaves_for, regrown}
use Rattle.mesh_model.specs.Tree.Order.{IsIn}
use Rattle.mesh_model.specs.Tree.ValidGrid.{Tiles}
use Rattle.mesh_model.proofs.TreeLemmas.Tests.{refuted, and_left, and_right, and_both, in_flat, from_flat}
use Rattle.mesh_model.proofs.TreeLemmas.Tiling.{IsChild, nested, lies_trans, same_level, child_in, domain_up, domain_child}
use Rattle.mesh_model.proofs.TreeLemmas.Levels.{is_child}
use Rattle.mesh_model.proofs.TreeLemmas.Closure.{in_children, from_children, parent_of_child}

-- the parent of a block that is no root
pub is_parent : (b : BlockAt) → 0 < b.level → IsChild b (parent_block b)
is_parent b h = record { level = omega arith; x = refl; y = refl; z = refl }

shrink : (x d : ℕ) → x / 2 ^ suc d ≡ x / 2 ^ d / 2
shrink x d = ap (λ p. x / 2 ^ p) (omega arith) ∙ ap (λ p. x / p) (pow-add 2 d 1) ∙ sym (div-div-eq-div-mul x (2 ^ d) (2 ^ 1))

-- which child of a block is round a finer one in it
pub child_round : (b a : BlockAt) → LiesIn b a → a.level < b.level → (q : ℕ) × (q < 8) × LiesIn b (child_block a q)
child_round b a h lt =
    let d = b.level - suc a.level in
    let one : b.level - a.level ≡ suc d = omega arith in
    let x : b.x / 2 ^ d / 2 ≡ a.x = sym (ap (λ k. b.x / 2 ^ k) one ∙ shrink b.x d) ∙ h.x in
    let y : b.y / 2 ^ d / 2 ≡ a.y = sym (ap (λ k. b.y / 2 ^ k) one ∙ shrink b.y d) ∙ h.y in
    let z : b.z / 2 ^ d / 2 ≡ a.z = sym (ap (λ k. b.z / 2 ^ k) one ∙ shrink b.z d) ∙ h.z in
    let q = b.x / 2 ^ d % 2 + 2 * (b.y / 2 ^ d % 2) + 4 * (b.z / 2 ^ d % 2) in
    (q, omega arith, record { level = lt; x = digit_x (b.x / 2 ^ d) (b.y / 2 ^ d) (b.z / 2 ^ d) a.x x; y = digit_y (b.x / 2 ^ d) (b.y / 2 ^ d) (b.z / 2 ^ d) a.y y; z = digit_z (b.x / 2 ^ d) (b.y / 2 ^ d) (b.z / 2 ^ d) a.z z })
  where
    digit_x : (u v w a : ℕ) → u / 2 ≡ a → u ≡ 2 * a + (u % 2 + 2 * (v % 2) + 4 * (w % 2)) % 2
    digit_x u v w a h = omega arith

    digit_y : (u v w a : ℕ) → v / 2 ≡ a → v ≡ 2 * a + (u % 2 + 2 * (v % 2) + 4 * (w % 2)) / 2 % 2
    digit_y u v w a h = omega arith

    digit_z : (u v w a : ℕ) → w / 2 ≡ a → w ≡ 2 * a + (u % 2 + 2 * (v % 2) + 4 * (w % 2)) / 4 % 2
    digit_z u v w a h = omega arith

module _ (refine merge : BlockAt → Bool) where
  unfoldable pub takes_back : BlockAt → Bool
  takes_back b = nat_lt 0 b.level && merge (parent_block b)

  pub place_refined : (b : BlockAt) → refine b ≡ true → leaves_for refine merge b ≡ children b
  place_refined b h = rw (h, leaves_for) refl

  pub place_merged : (b : BlockAt) → refine b ≡ false → takes_back b ≡ true → leaves_for refine merge b ≡ (if (b.x % 2 == 0) && (b.y % 2 == 0) && (b.z % 2 == 0) then parent_block b ∷ [] else [])
  unfolding takes_back
  place_merged b h t = rw (h, leaves_for) (rw t refl)

  pub place_kept : (b : BlockAt) → refine b ≡ false → takes_back b ≡ false → leaves_for refine merge b ≡ b ∷ []
  unfolding takes_back
  place_kept b h t = rw (h, leaves_for) (rw t refl)

  pub alone_test : (b : BlockAt) → (0 < b.level → merge (parent_block b) ≡ false) → takes_back b ≡ false
  unfolding takes_back
  alone_test b h = refuted _ (λ t.
      let none = h (ltb-true _ _ (and_left (nat_lt 0 b.level) (merge (parent_block b)) t)) in
      let some = and_right (nat_lt 0 b.level) (merge (parent_block b)) t in
      cc)

  -- how the new leaf n comes from the old leaf b
  pub record FromRefined (n b : BlockAt) : Type 0 where
    pub refined : refine b ≡ true
    pub octant : ℕ
    pub below : octant < 8
    pub child : child_block b octant ≡ n

  pub record FromMerged (n b : BlockAt) : Type 0 where
    pub stays : refine b ≡ false
    pub level : 0 < b.level
    pub merged : merge (parent_block b) ≡ true
    pub parent : parent_block b ≡ n
    pub first : ((b.x % 2 == 0) && (b.y % 2 == 0) && (b.z % 2 == 0)) ≡ true

  pub record Kept (n b : BlockAt) : Type 0 where
    pub stays : refine b ≡ false
    pub alone : 0 < b.level → merge (parent_block b) ≡ false
    pub same : b ≡ n

  from_if : (z : Bool) (n p : BlockAt) → IsIn n (if z then p ∷ [] else []) → (p ≡ n) × (z ≡ true)
  from_if true n p (inl e) = (e, refl)
  from_if true n p (inr e) = absurd e
  from_if false n p e = absurd e

  pub from_place : (n b : BlockAt) → IsIn n (leaves_for refine merge b) → FromRefined n b ⊎ (FromMerged n b ⊎ Kept n b)
  unfolding takes_back
  from_place n b i = elim (cases_Bool (refine b)) [
    | inl t ↦ let c = from_children b n (subst (λ u. IsIn n u) (place_refined b t) i) in inl (record { refined = t; octant = c.0; below = c.1; child = c.2 })
    | inr f ↦ elim (cases_Bool (takes_back b)) [
      | inl t ↦ inr (inl (record { stays = f; level = ltb-true _ _ (and_left (nat_lt 0 b.level) (merge (parent_block b)) t); merged = and_right (nat_lt 0 b.level) (merge (parent_block b)) t; parent = (from_if ((b.x % 2 == 0) && (b.y % 2 == 0) && (b.z % 2 == 0)) n (parent_block b) (subst (λ u. IsIn n u) (place_merged b f t) i)).0; first = (from_if ((b.x % 2 == 0) && (b.y % 2 == 0) && (b.z % 2 == 0)) n (parent_block b) (subst (λ u. IsIn n u) (place_merged b f t) i)).1 }))
      | inr k ↦ inr (inr (record {
        stays = f;
        alone = λ lt. sym (ap (λ u. u && merge (parent_block b)) (lt-ltb 0 b.level lt)) ∙ k;
        same = elim (subst (λ u. IsIn n u) (place_kept b f k) i) [ inl e ↦ e | inr e ↦ absurd e ];
      }))
    ]
  ]

  -- which leaves may be refined, and which parents merged beside them
  pub record Fit (g : Grid) : Type 0 where
    pub deep : (b : BlockAt) → IsIn b g.leaves → refine b ≡ true → b.level < g.shape.max
    pub leaf : (p : BlockAt) → merge p ≡ true → (q : ℕ) → q < 8 → IsIn (child_block p q) g.leaves
    pub stays : (p : BlockAt) → merge p ≡ true → (q : ℕ) → q < 8 → refine (child_block p q) ≡ false

  takes : (p : BlockAt) (q : ℕ) → merge p ≡ true → takes_back (child_block p q) ≡ true
  unfolding takes_back
  takes p q h = and_both (nat_lt 0 (suc p.level)) (merge (parent_block (child_block p q))) (lt-ltb _ _ (omega arith)) (ap merge (parent_of_child p q) ∙ h)

  even_zero : (n : ℕ) → ((2 * n + 0) % 2 == 0) ≡ true
  even_zero n = eq-eqb _ _ (omega arith)

  first_takes : (p : BlockAt) → merge p ≡ true → refine (child_block p 0) ≡ false → IsIn p (leaves_for refine merge (child_block p 0))
  first_takes p h s =
      let test : (((child_block p 0).x % 2 == 0) && ((child_block p 0).y % 2 == 0) && ((child_block p 0).z % 2 == 0)) ≡ true = and_both ((((child_block p 0).x % 2 == 0)) && ((child_block p 0).y % 2 == 0)) ((child_block p 0).z % 2 == 0) (and_both ((child_block p 0).x % 2 == 0) ((child_block p 0).y % 2 == 0) (even_zero p.x) (even_zero p.y)) (even_zero p.z) in
      let at : leaves_for refine merge (child_block p 0) ≡ (parent_block (child_block p 0) ∷ []) = place_merged (child_block p 0) s (takes p 0 h) ∙ ap (λ z. if z then parent_block (child_block p 0) ∷ [] else []) test in
      subst (λ u. IsIn p u) (sym at) (inl (parent_of_child p 0))

  module _ (g : Grid) where
    -- what is among the new leaves
    pub new_child : (b : BlockAt) (q : ℕ) → IsIn b g.leaves → refine b ≡ true → q < 8 → IsIn (child_block b q) (regrown g refine merge).leaves
    new_child b q i h l = in_flat (leaves_for refine merge) (child_block b q) b g.leaves i (subst (λ u. IsIn (child_block b q) u) (sym (place_refined b h)) (in_children b q l))

    pub new_kept : (b : BlockAt) → IsIn b g.leaves → refine b ≡ false → takes_back b ≡ false → IsIn b (regrown g refine merge).leaves
    new_kept b i h t = in_flat (leaves_for refine merge) b b g.leaves i (subst (λ u. IsIn b u) (sym (place_kept b h t)) (inl refl))

    pub new_source : (n : BlockAt) → IsIn n (regrown g refine merge).leaves → (b : BlockAt) × IsIn b g.leaves × (FromRefined n b ⊎ (FromMerged n b ⊎ Kept n b))
    new_source n i = let from = from_flat (leaves_for refine merge) n g.leaves i in (from.0, from.1, from_place n from.0 from.2)

  module _ (g : Grid) (fit : Fit g) where
    pub new_parent : (p : BlockAt) → merge p ≡ true → IsIn p (regrown g refine merge).leaves
    new_parent p h = in_flat (leaves_for refine merge) p (child_block p 0) g.leaves (fit.leaf p h 0 (omega arith)) (first_takes p h (fit.stays p h 0 (omega arith)))

    -- the level of the new leaf in the place of an old one
    new_level : BlockAt → ℕ
    new_level b = elim (refine b) [ true ↦ suc b.level | false ↦ elim (takes_back b) [ true ↦ b.level - 1 | false ↦ b.level ] ]

    level_refined : (b : BlockAt) → refine b ≡ true → new_level b ≡ suc b.level
    unfolding new_level
    level_refined b h = rw (h, new_level) refl

    level_merged : (b : BlockAt) → refine b ≡ false → takes_back b ≡ true → new_level b ≡ b.level - 1
    unfolding new_level
    level_merged b h t = rw (h, new_level) (rw t refl)

    level_kept : (b : BlockAt) → refine b ≡ false → takes_back b ≡ false → new_level b ≡ b.level
    unfolding new_level
    level_kept b h t = rw (h, new_level) (rw t refl)

    module _ (tiles : Tiles g) where
      pub regrown_inside : (n : BlockAt) → IsIn n (regrown g refine merge).leaves → InDomain g.shape n
      regrown_inside n i =
          let source = new_source g n i in
          let old = tiles.inside source.0 source.1 in
          elim source.2 [
            | inl r ↦
                let lt = fit.deep source.0 source.1 r.refined in
                subst (λ u. InDomain g.shape u) r.child (domain_child g.shape (child_block source.0 r.octant) source.0 (is_child source.0 r.octant) old (omega arith))
            | inr (inl p) ↦ subst (λ u. InDomain g.shape u) p.parent (domain_up g.shape source.0 (parent_block source.0) (child_in source.0 (parent_block source.0) (is_parent source.0 p.level)) old)
            | inr (inr k) ↦ subst (λ u. InDomain g.shape u) k.same old
          ]

      regrown_covered : (b : BlockAt) → InDomain g.shape b → b.level ≡ g.shape.max → (n : BlockAt) × IsIn n (regrown g refine merge).leaves × LiesIn b n
      unfolding takes_back
      regrown_covered b d level =
          let leaf = tiles.covered b d level in
          elim (cases_Bool (refine leaf.0)) [
            | inl t ↦
                let lt = fit.deep leaf.0 leaf.1 t in
                let q = child_round b leaf.0 leaf.2 (omega arith) in
                (child_block leaf.0 q.0, new_child g leaf.0 q.0 leaf.1 t q.1, q.2)
            | inr f ↦ elim (cases_Bool (takes_back leaf.0)) [
              | inl t ↦ (parent_block leaf.0, new_parent (parent_block leaf.0) (and_right (nat_lt 0 leaf.0.level) (merge (parent_block leaf.0)) t), lies_trans b leaf.0 (parent_block leaf.0) leaf.2 (child_in leaf.0 (parent_block leaf.0) (is_parent leaf.0 (ltb-true _ _ (and_left (nat_lt 0 leaf.0.level) (merge (parent_block leaf.0)) t)))))
              | inr k ↦ (leaf.0, new_kept g leaf.0 leaf.1 f k, leaf.2)
            ]
          ]

      -- the old leaf round a finest block of a new leaf gives the new leaf's level
      over : (b n : BlockAt) → b.level ≡ g.shape.max → IsIn n (regrown g refine merge).leaves → LiesIn b n → (leaf : BlockAt) × IsIn leaf g.leaves × LiesIn b leaf × (n.level ≡ new_level leaf)
      unfolding takes_back
      over b n level i bn =
          let source = new_source g n i in
          let old = source.0 in
          elim source.2 [
            | inl r ↦
                let child : LiesIn (child_block old r.octant) old = child_in (child_block old r.octant) old (is_child old r.octant) in
                (old, source.1, lies_trans b n old bn (subst (λ u. LiesIn u old) r.child child), ap (λ (x : BlockAt). x.level) (sym r.child) ∙ sym (level_refined old r.refined))
            | inr (inl p) ↦
                let merged : merge n ≡ true = ap merge (sym p.parent) ∙ p.merged in
                let in_first = (tiles.inside (child_block n 0) (fit.leaf n merged 0 (omega arith))).level in
                let q = child_round b n bn (omega arith) in
                let back : suc n.level - 1 ≡ n.level = omega arith in
                (child_block n q.0, fit.leaf n merged q.0 q.1, q.2, sym (level_merged (child_block n q.0) (fit.stays n merged q.0 q.1) (takes n q.0 merged) ∙ back))
            | inr (inr k) ↦ (old, source.1, subst (λ u. LiesIn b u) (sym k.same) bn, ap (λ (x : BlockAt). x.level) (sym k.same) ∙ sym (level_kept old k.stays (alone_test old k.alone)))
          ]

      regrown_once : (b n o : BlockAt) → b.level ≡ g.shape.max → IsIn n (regrown g refine merge).leaves → IsIn o (regrown g refine merge).leaves → LiesIn b n → LiesIn b o → n ≡ o
      regrown_once b n o level i j bn bo =
          let one = over b n level i bn in
          let two = over b o level j bo in
          let same = ap new_level (tiles.once b one.0 two.0 level one.1 two.1 one.2 two.2) in
          let equal : n.level ≡ o.level = one.3 ∙ same ∙ sym two.3 in
          same_level n o (nested b n o bn bo (omega arith)) equal

      pub regrown_tiles : Tiles (regrown g refine merge)
      regrown_tiles = record { inside = regrown_inside; covered = regrown_covered; once = regrown_once }
