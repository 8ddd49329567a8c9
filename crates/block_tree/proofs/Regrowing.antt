-- Refining leaves and merging parents in the list of nodes gives the nodes of the new grid.
use Rattle.std.proofs.Common.{◌≡◌, ℕ, suc, ◌+◌, ◌-◌, ◌*◌, ◌/◌, ◌%◌, ◌<◌, ◌≤◌, ◌==◌, Bool, true, false, if◌then◌else◌, refl, sym, ap, ap₂, ◌∙◌, subst, inl, inr, arith, List, [], ◌∷◌, ◌++◌, append_assoc, length, length-append, eq-eqb, eqb-true, ltb-true}
use Rattle.std.specs.Prelude.{flat_map, nat_lt}
use Rattle.std.proofs.lemmas.Bool.{cases_Bool}
use Rattle.std.proofs.lemmas.List.{append-nil}
use Rattle.std.proofs.lemmas.Grind.{flat_map-append}
use Rattle.mesh_model.proofs.TreeLemmas.Nodes.{begun_first, begun_other}
use Rattle.amr_num.specs.declared.BlockAt.{BlockAt}
use Rattle.mesh_model.specs.Geometry.Blocks.{child_block, parent_block, children, is_first_child, LiesIn}
use Rattle.mesh_model.specs.Tree.Order.{IsIn, Sorted, begun_at, nodes}
use Rattle.mesh_model.specs.Tree.Kinds.{Grid}
use Rattle.mesh_model.specs.Tree.Regrown.{regrown}
use Rattle.mesh_model.specs.Tree.Regrown as regrid
use Rattle.mesh_model.specs.Tree.ValidGrid.{Valid}
use Rattle.mesh_model.proofs.TreeLemmas.Closure.{parent_of_child}
use Rattle.mesh_model.proofs.TreeLemmas.Regrown.{Fit, takes_back, place_refined, place_merged, place_kept, regrown_tiles}
use Rattle.mesh_model.proofs.TreeLemmas.Ruled.{own_octant}
use Rattle.mesh_model.proofs.TreeLemmas.Sorting.{regrown_sorted}
use Rattle.mesh_model.proofs.TreeLemmas.Tests.{refuted, and_left, and_right, and_both, all_three}
use Rattle.block_tree.specs.Growing.{MayRegrow}
use Rattle.block_tree.specs.Places.{is_taken_back, nodes_for}
use Rattle.block_tree.proofs.Leaves.{begun_above, above_first, above_other, begun_parts, above_in, leaf_alone}

-- ---- lists

flat_flat : (f h k : BlockAt → List BlockAt) (bs : List BlockAt) → ((b : BlockAt) → IsIn b bs → flat_map f (h b) ≡ flat_map h (k b)) → flat_map f (flat_map h bs) ≡ flat_map h (flat_map k bs)
flat_flat f h k [] each = refl
flat_flat f h k (b ∷ bs) each =
    flat_map-append f (h b) (flat_map h bs)
    ∙ ap₂ (λ u w. u ++ w) (each b (inl refl)) (flat_flat f h k bs (λ c i. each c (inr i)))
    ∙ sym (flat_map-append h (k b) (flat_map k bs))

flat_same : (f : BlockAt → List BlockAt) (bs : List BlockAt) → ((b : BlockAt) → IsIn b bs → f b ≡ b ∷ []) → flat_map f bs ≡ bs
flat_same f [] each = refl
flat_same f (b ∷ bs) each = ap₂ (λ u w. u ++ w) (each b (inl refl)) (flat_same f bs (λ c i. each c (inr i)))

-- ---- children

-- what begins with a child: the first child comes behind what begins with its parent, the others alone
first_test : (b : BlockAt) → is_first_child (child_block b 0) ≡ true
first_test b = and_both _ _ (and_both _ _ (even b.x) (even b.y)) (even b.z)
  where
    even : (n : ℕ) → ((2 * n + 0) % 2 == 0) ≡ true
    even n = eq-eqb _ _ (omega arith)

other_test : (b : BlockAt) (q : ℕ) → 0 < q → q < 8 → is_first_child (child_block b q) ≡ false
other_test b q some few = refuted _ (λ t.
    let three = all_three ((2 * b.x + q % 2) % 2 == 0) ((2 * b.y + q / 2 % 2) % 2 == 0) ((2 * b.z + q / 4 % 2) % 2 == 0) t in
    let x = eqb-true _ _ three.0 in
    let y = eqb-true _ _ three.1 in
    let z = eqb-true _ _ three.2 in
    omega arith)

first_nodes : (b : BlockAt) → begun_at (suc b.level) (child_block b 0) ≡ begun_at b.level b ++ child_block b 0 ∷ []
first_nodes b = begun_first b.level (child_block b 0) (first_test b) ∙ ap (λ (u : BlockAt). begun_at b.level u ++ child_block b 0 ∷ []) (parent_of_child b 0)

other_nodes : (b : BlockAt) (q : ℕ) → 0 < q → q < 8 → begun_at (suc b.level) (child_block b q) ≡ child_block b q ∷ []
other_nodes b q some few = begun_other b.level (child_block b q) (other_test b q some few)

-- the nodes that begin with a leaf
abbrev begins : BlockAt → List BlockAt
begins b = begun_at b.level b

others_alone : (b : BlockAt) → flat_map begins (child_block b 1 ∷ child_block b 2 ∷ child_block b 3 ∷ child_block b 4 ∷ child_block b 5 ∷ child_block b 6 ∷ child_block b 7 ∷ [])
    ≡ (child_block b 1 ∷ child_block b 2 ∷ child_block b 3 ∷ child_block b 4 ∷ child_block b 5 ∷ child_block b 6 ∷ child_block b 7 ∷ [])
others_alone b = flat_same begins _ (λ c i. elim i [
  | inl e ↦ alone c 1 e (omega arith) (omega arith)
  | inr (inl e) ↦ alone c 2 e (omega arith) (omega arith)
  | inr (inr (inl e)) ↦ alone c 3 e (omega arith) (omega arith)
  | inr (inr (inr (inl e))) ↦ alone c 4 e (omega arith) (omega arith)
  | inr (inr (inr (inr (inl e)))) ↦ alone c 5 e (omega arith) (omega arith)
  | inr (inr (inr (inr (inr (inl e))))) ↦ alone c 6 e (omega arith) (omega arith)
  | inr (inr (inr (inr (inr (inr (inl e)))))) ↦ alone c 7 e (omega arith) (omega arith)
  | inr (inr (inr (inr (inr (inr (inr none)))))) ↦ absurd none
])
  where
    alone : (c : BlockAt) (q : ℕ) → child_block b q ≡ c → 0 < q → q < 8 → begins c ≡ c ∷ []
    alone c q e some few = subst (λ u. begins u ≡ u ∷ []) e (other_nodes b q some few)

children_begin : (b : BlockAt) → flat_map begins (children b) ≡ begins b ++ children b
children_begin b =
    ap₂ (λ u w. u ++ w) (first_nodes b) (others_alone b)
    ∙ append_assoc (begins b) (child_block b 0 ∷ []) _

-- ---- the nodes in each node's place

module _ (refine merge : BlockAt → Bool) where
  -- what stands in the place of a node
  abbrev pub placed : BlockAt → List BlockAt
  placed b = nodes_for b (refine b) (is_taken_back merge b)

  taken_same : (b : BlockAt) → takes_back refine merge b ≡ is_taken_back merge b
  unfolding takes_back is_taken_back
  taken_same b = refl

  placed_gone : (b : BlockAt) → is_taken_back merge b ≡ true → placed b ≡ []
  placed_gone b t = rw t refl

  placed_refined : (b : BlockAt) → is_taken_back merge b ≡ false → refine b ≡ true → placed b ≡ b ∷ children b
  placed_refined b f t = rw (f, t) refl

  placed_kept : (b : BlockAt) → is_taken_back merge b ≡ false → refine b ≡ false → placed b ≡ b ∷ []
  placed_kept b f k = rw (f, k) refl

  pub placed_few : (bs : List BlockAt) → length (flat_map placed bs) ≤ 9 * length bs
  placed_few [] = omega arith
  placed_few (b ∷ bs) =
      let rest = placed_few bs in
      let sum = length-append (placed b) (flat_map placed bs) in
      elim (cases_Bool (is_taken_back merge b)) [
        | inl t ↦ let here = ap (λ (u : List BlockAt). length u) (placed_gone b t) in omega arith
        | inr f ↦ elim (cases_Bool (refine b)) [
          | inl t ↦ let here = ap (λ (u : List BlockAt). length u) (placed_refined b f t) in omega arith
          | inr k ↦ let here = ap (λ (u : List BlockAt). length u) (placed_kept b f k) in omega arith
        ]
      ]

  module _ (g : Grid) (valid : Valid g) (may : MayRegrow g refine merge) where
    fit : Fit refine merge g
    fit = record { deep = λ b i h. may.deep b h; leaf = λ p h q l. may.children p q h l; stays = λ p h q l. may.stays p q h l }

    taken_up : (b : BlockAt) → is_taken_back merge b ≡ true → 0 < b.level
    unfolding is_taken_back
    taken_up b t = ltb-true _ _ (and_left (nat_lt 0 b.level) (merge (parent_block b)) t)

    begun_up : (b : BlockAt) → 0 < b.level → begun_above b.level b ≡ begun_above (suc (b.level - 1)) b
    begun_up b h = ap (λ l. begun_above l b) (omega arith)

    -- a block whose parent is merged is a leaf that is not refined
    taken_leaf : (b : BlockAt) → is_taken_back merge b ≡ true → IsIn b g.leaves × (refine b ≡ false)
    unfolding is_taken_back
    taken_leaf b t =
        let up = ltb-true _ _ (and_left (nat_lt 0 b.level) (merge (parent_block b)) t) in
        let merged = and_right (nat_lt 0 b.level) (merge (parent_block b)) t in
        let q = own_octant b up in
        (subst (λ u. IsIn u g.leaves) q.2 (may.children (parent_block b) q.0 merged q.1), subst (λ u. refine u ≡ false) q.2 (may.stays (parent_block b) q.0 merged q.1))

    -- an ancestor of a leaf stays as it is
    ancestor_kept : (leaf b : BlockAt) → IsIn leaf g.leaves → LiesIn leaf b → b.level < leaf.level → placed b ≡ b ∷ []
    ancestor_kept leaf b i h lt = placed_kept b
        (refuted _ (λ t. no_leaf ((taken_leaf b t).0)))
        (refuted _ (λ t. no_leaf (may.leaf b t)))
      where
        no_leaf : IsIn b g.leaves → ⊥
        no_leaf j = let same = ap (λ (u : BlockAt). u.level) (leaf_alone g valid leaf b i j h) in omega arith

    above_kept : (b : BlockAt) → IsIn b g.leaves → flat_map placed (begun_above b.level b) ≡ begun_above b.level b
    above_kept b i = flat_same placed (begun_above b.level b) (λ a j. let up = above_in b.level b a refl j in ancestor_kept b a i up.0 up.1)

    -- so what begins with a leaf becomes this
    begins_become : (b : BlockAt) → IsIn b g.leaves → flat_map placed (begins b) ≡ begun_above b.level b ++ placed b
    begins_become b i =
        ap (flat_map placed) (begun_parts b.level b)
        ∙ flat_map-append placed (begun_above b.level b) (b ∷ [])
        ∙ ap₂ (λ u w. u ++ w) (above_kept b i) (append-nil (placed b))

    leaf_places : (b : BlockAt) → IsIn b g.leaves → flat_map placed (begins b) ≡ flat_map begins (regrid.leaves_for refine merge b)
    leaf_places b i = begins_become b i ∙ elim (cases_Bool (is_taken_back merge b)) [
      | inl t ↦
          let stays = (taken_leaf b t).1 in
          let place = place_merged refine merge b stays (taken_same b ∙ t) in
          ap (λ u. begun_above b.level b ++ u) (placed_gone b t) ∙ append-nil (begun_above b.level b)
          ∙ elim (cases_Bool (is_first_child b)) [
            | inl first ↦
                begun_up b (taken_up b t) ∙ above_first (b.level - 1) b first
                ∙ sym (append-nil (begins (parent_block b)))
                ∙ ap (flat_map begins) (sym (place ∙ ap (λ z. if z then parent_block b ∷ [] else []) first))
            | inr other ↦
                begun_up b (taken_up b t) ∙ above_other (b.level - 1) b other
                ∙ ap (flat_map begins) (sym (place ∙ ap (λ z. if z then parent_block b ∷ [] else []) other))
          ]
      | inr f ↦ elim (cases_Bool (refine b)) [
        | inl t ↦
            ap (λ u. begun_above b.level b ++ u) (placed_refined b f t)
            ∙ sym (append_assoc (begun_above b.level b) (b ∷ []) (children b))
            ∙ ap (λ u. u ++ children b) (sym (begun_parts b.level b))
            ∙ sym (children_begin b)
            ∙ ap (flat_map begins) (sym (place_refined refine merge b t))
        | inr k ↦
            ap (λ u. begun_above b.level b ++ u) (placed_kept b f k)
            ∙ sym (begun_parts b.level b)
            ∙ sym (append-nil (begins b))
            ∙ ap (flat_map begins) (sym (place_kept refine merge b k (taken_same b ∙ f)))
      ]
    ]

    -- the new nodes
    pub new_nodes : flat_map placed (nodes g.leaves) ≡ nodes (regrown g refine merge).leaves
    unfolding nodes
    new_nodes = flat_flat placed begins (regrid.leaves_for refine merge) g.leaves leaf_places

    pub new_valid : Valid (regrown g refine merge)
    new_valid = record { shape = valid.shape; tiles = regrown_tiles refine merge g fit valid.tiles; rule = may.rule }

    pub new_sorted : Sorted g.leaves → Sorted (regrown g refine merge).leaves
    new_sorted order = regrown_sorted g valid refine merge fit order
