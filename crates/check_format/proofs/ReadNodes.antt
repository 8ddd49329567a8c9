-- The tests of nodes, one after the other, and the nodes with their marks.
use Rattle.std.proofs.Common.{◌≡◌, ◌≢◌, ℕ, zero, suc, ◌+◌, ◌<◌, ◌≤◌, ◌==◌, Bool, true, false, not, ◌&&◌, ◌||◌, if◌then◌else◌, List, [], ◌∷◌, length, map, drop, get_or, Option, Some, None, inl, inr, refl, sym, ap, ap₂, subst, ◌∙◌, arith, below_more}
use Rattle.std.specs.Prelude.{is_some, nat_le, nat_lt, unwrap_or}
use Rattle.std.specs.List.{list_all}
use Rattle.std.proofs.Math.Seq.{drop-cons}
use Rattle.std.proofs.lemmas.Bool.{cases_Bool, ltb-true}
use Rattle.std.proofs.lemmas.List.{get_or-map, length-map}
use Rattle.amr_num.specs.declared.BlockAt.{BlockAt}
use Rattle.block_tree.specs.declared.marks.Marks.{Marks}
use Rattle.block_tree.specs.declared.tree.Tree.{Tree}
use Rattle.block_tree.specs.GridOf.{grid_of}
use Rattle.block_tree.specs.Marked.{derefine_of, refine_of}
use Rattle.block_tree.specs.Numbered.{IsNode, block_at, block_in}
use Rattle.block_tree.proofs.Flags.{number_once, same_says, same_shows}
use Rattle.block_tree.proofs.Forests.{read_again}
use Rattle.block_tree.proofs.Numbers.{splits}
use Rattle.mesh_model.specs.declared.geometry.Shape.{Shape}
use Rattle.mesh_model.specs.Geometry.Blocks.{is_same_block}
use Rattle.mesh_model.specs.Geometry.Limits.{IsShape, most_nodes}
use Rattle.mesh_model.specs.Images.Codec.{◌>>=◌}
use Rattle.mesh_model.specs.Images.Fits.{keeps_rule, marks_stand, TreeFits}
use Rattle.mesh_model.specs.Images.Image.{blocks_by, grid_by, has_derefine, has_refine, is_parent}
use Rattle.mesh_model.specs.Images.Reading.{is_tree, tree}
use Rattle.mesh_model.specs.Tree.Forest.{HasFlags, flags_of, lowered, visited}
use Rattle.mesh_model.specs.Tree.Kinds.{Grid, is_leaf_block, is_split_block}
use Rattle.mesh_model.specs.Tree.Order.{nodes}
use Rattle.mesh_model.specs.Tree.Start.{start_leaves}
use Rattle.mesh_model.proofs.TreeLemmas.Tests.{and_left, and_right, refuted}
use Rattle.check_format.specs.Nodes.{codes, codes_of, may_stand}
use Rattle.check_format.proofs.Back.{codes_back, derefine_low, grid_few, grid_flags, grid_shape, grid_sorted, grid_valid, implied, refine_low}
use Rattle.check_format.proofs.Fields.{small_says, tree_says}
use Rattle.check_format.proofs.Spelled.{rule_shows}

-- ---- the marks of a list of nodes, one after the other

abbrev nowhere : BlockAt
nowhere = record { level = 0; x = 0; y = 0; z = 0 }

stand_step : (s : Shape) (bs : List BlockAt) (cs : List ℕ) (i : ℕ) → i < length bs → length cs ≡ length bs
    → marks_stand s (drop i bs) (drop i cs) ≡ (may_stand s (get_or bs i nowhere).level (get_or cs i 0) && marks_stand s (drop (suc i) bs) (drop (suc i) cs))
stand_step s bs cs i h e = ap₂ (marks_stand s) (drop-cons bs i nowhere h) (drop-cons cs i 0 (omega arith))

module _ (g : Grid) (cs : List ℕ) (i : ℕ) (there : IsNode g i) (e : length cs ≡ length (nodes g.leaves)) where
  abbrev all : List BlockAt
  all = nodes g.leaves

  pub stand_fails : may_stand g.shape (block_at g i).level (get_or cs i 0) ≡ false → false ≡ marks_stand g.shape (drop i all) (drop i cs)
  unfolding block_at
  stand_fails fails = sym (stand_step g.shape all cs i there e ∙ ap (λ u. u && marks_stand g.shape (drop (suc i) all) (drop (suc i) cs)) fails)

  pub stand_more : may_stand g.shape (block_at g i).level (get_or cs i 0) ≡ true → marks_stand g.shape (drop (i + 1) all) (drop (i + 1) cs) ≡ marks_stand g.shape (drop i all) (drop i cs)
  unfolding block_at
  stand_more stands =
      let step : i + 1 ≡ suc i = omega arith in
      ap (λ k. marks_stand g.shape (drop k all) (drop k cs)) step
      ∙ sym (stand_step g.shape all cs i there e ∙ ap (λ u. u && marks_stand g.shape (drop (suc i) all) (drop (suc i) cs)) stands)

each_stands : (s : Shape) (bs : List BlockAt) (cs : List ℕ) (i : ℕ) → marks_stand s bs cs ≡ true → i < length bs → length cs ≡ length bs → may_stand s (get_or bs i nowhere).level (get_or cs i 0) ≡ true
each_stands s [] cs i t h e = absurd (omega arith)
each_stands s (b ∷ bs) [] i t h e = absurd (omega arith)
each_stands s (b ∷ bs) (c ∷ cs) zero t h e = and_left (may_stand s b.level c) (marks_stand s bs cs) t
each_stands s (b ∷ bs) (c ∷ cs) (suc i) t h e = each_stands s bs cs i (and_right (may_stand s b.level c) (marks_stand s bs cs) t) (omega arith) (omega arith)

-- ---- the marks of a tree's nodes

module _ (t : Tree) (cs : List ℕ) (parents : flags_of (grid_of t) ≡ map is_parent cs) where
  abbrev g : Grid
  g = grid_of t

  pub same_count : length cs ≡ length (nodes g.leaves)
  same_count = sym (length-map cs is_parent) ∙ ap (λ (u : List Bool). length u) (sym parents) ∙ length-map (nodes g.leaves) (is_split_block g)

  parent_at : (i : ℕ) → IsNode g i → is_split_block g (block_at g i) ≡ is_parent (get_or cs i 0)
  unfolding block_at
  parent_at i h =
      sym (get_or-map (is_split_block g) (nodes g.leaves) i nowhere false h) ∙ ap (λ (u : List Bool). get_or u i false) parents
      ∙ get_or-map is_parent cs i 0 false (let n = same_count in omega arith)

  leaf_at : (i : ℕ) → IsNode g i → is_parent (get_or cs i 0) ≡ false → is_leaf_block g (block_at g i) ≡ true
  leaf_at i h low = elim (cases_Bool (is_leaf_block g (block_at g i))) [
    | inl leaf ↦ leaf
    | inr inner ↦ let split = splits t i h inner in let same = parent_at i h in absurd cc
  ]

  module _ (stand : marks_stand g.shape (nodes g.leaves) cs ≡ true) (i : ℕ) (there : IsNode g i) where
    stands : may_stand g.shape (block_at g i).level (get_or cs i 0) ≡ true
    unfolding block_at
    stands = each_stands g.shape (nodes g.leaves) cs i stand there same_count

    pub may_refine : has_refine (get_or cs i 0) ≡ true → (is_leaf_block g (block_at g i) ≡ true) × ((block_at g i).level < g.shape.max)
    may_refine has =
        let c = get_or cs i 0 in
        let l = (block_at g i).level in
        let test = and_left (not (has_refine c) || nat_lt l g.shape.max) (not (has_derefine c) || nat_lt g.shape.min l) stands in
        (leaf_at i there (refine_low c has), ltb-true _ _ (implied (has_refine c) (nat_lt l g.shape.max) test has))

    pub may_derefine : has_derefine (get_or cs i 0) ≡ true → (is_leaf_block g (block_at g i) ≡ true) × (g.shape.min < (block_at g i).level)
    may_derefine has =
        let c = get_or cs i 0 in
        let l = (block_at g i).level in
        let test = and_right (not (has_refine c) || nat_lt l g.shape.max) (not (has_derefine c) || nat_lt g.shape.min l) stands in
        (leaf_at i there (derefine_low c has), ltb-true _ _ (implied (has_derefine c) (nat_lt g.shape.min l) test has))

  -- a set that is put right at one node is right up to there
  pub put_step : (old new : BlockAt → Bool) (node : ℕ) (v : Bool) (want : ℕ → Bool) → IsNode g node
      → ((b : BlockAt) → new b ≡ (if is_same_block (block_at g node) b then v else old b)) → v ≡ want node
      → ((k : ℕ) → k < node → old (block_at g k) ≡ want k) → (k : ℕ) → k < node + 1 → new (block_at g k) ≡ want k
  put_step old new node v want there put here before = below_more _ node
      (λ k h.
      let apart : is_same_block (block_at g node) (block_at g k) ≡ false = refuted _ (λ same.
      let below : IsNode g k = omega arith in
      let one = number_once t node k there below (same_says (block_at g node) (block_at g k) same) in
      omega arith) in
      put (block_at g k) ∙ ap (λ u. if u then v else old (block_at g k)) apart ∙ before k h)
      (put (block_at g node) ∙ ap (λ u. if u then v else old (block_at g node)) (same_shows (block_at g node) (block_at g node) refl) ∙ here)

  by_place : (f : BlockAt → Bool) (h : ℕ → Bool) (bs : List BlockAt) (ks : List ℕ) → length ks ≡ length bs → ((k : ℕ) → k < length bs → f (get_or bs k nowhere) ≡ h (get_or ks k 0)) → map f bs ≡ map h ks
  by_place f h [] [] e same = refl
  by_place f h [] (k ∷ ks) e same = absurd (omega arith)
  by_place f h (b ∷ bs) [] e same = absurd (omega arith)
  by_place f h (b ∷ bs) (k ∷ ks) e same = ap₂ (λ u w. u ∷ w) (same 0 (omega arith)) (by_place f h bs ks (omega arith) (λ j lt. same (suc j) (omega arith)))

  pub codes_are : (marks : Marks) → list_all (λ c. nat_le c 4) cs ≡ true
      → ((k : ℕ) → IsNode g k → refine_of g marks (block_at g k) ≡ has_refine (get_or cs k 0))
      → ((k : ℕ) → IsNode g k → derefine_of g marks (block_at g k) ≡ has_derefine (get_or cs k 0)) → codes_of g marks ≡ cs
  unfolding block_at codes_of
  codes_are marks small refine derefine = codes_back (nodes g.leaves) cs (is_split_block g) (refine_of g marks) (derefine_of g marks) parents
      (by_place (refine_of g marks) has_refine (nodes g.leaves) cs same_count refine)
      (by_place (derefine_of g marks) has_derefine (nodes g.leaves) cs same_count derefine)
      (small_says cs small)

-- ---- codes that are those of a tree, and those that are not

module _ (s : Shape) (shape : IsShape s) (cs : List ℕ) where
  module _ (g : Grid) (h : HasFlags s (map is_parent cs) g) where
    run : visited s.max (map is_parent cs) (start_leaves s) ≡ Some (nodes g.leaves)
    run = sym (λ i. visited (h.shape i).max (h.flags i) (start_leaves (h.shape i))) ∙ (read_again g h.valid h.order).0

    blocks_are : blocks_by s cs ≡ nodes g.leaves
    unfolding blocks_by
    blocks_are = ap (λ u. unwrap_or u []) run

    pub grid_is : grid_by s cs ≡ g
    unfolding grid_by
    grid_is =
        let same : lowered (map is_parent cs) (blocks_by s cs) ≡ g.leaves = ap₂ lowered (sym h.flags) blocks_are ∙ (read_again g h.valid h.order).1 in
        let of_shape = sym h.shape in λ i. record { shape = of_shape i; leaves = same i }

    pub tree_by_marks : list_all (λ c. nat_le c 4) cs ≡ true → is_tree s cs ≡ marks_stand g.shape (nodes g.leaves) cs
    tree_by_marks small =
        let whole : is_some (visited s.max (map is_parent cs) (start_leaves s)) ≡ true = ap is_some run in
        let rule : keeps_rule (grid_by s cs) ≡ true = ap keeps_rule grid_is ∙ rule_shows g h.valid in
        let marks : marks_stand s (blocks_by s cs) cs ≡ marks_stand g.shape (nodes g.leaves) cs = ap₂ (λ u w. marks_stand u w cs) (sym h.shape) blocks_are in
        λ i. small i && whole i && rule i && marks i

  pub no_tree : 0 < length cs → length cs ≤ most_nodes s → ((g : Grid) → HasFlags s (map is_parent cs) g → ⊥) → is_tree s cs ≡ false
  no_tree some few none = refuted _ (λ t.
      let fits = tree_says s cs some few t in
      none (grid_by s cs) (record {
        shape = grid_shape s shape cs fits;
        valid = grid_valid s shape cs fits;
        order = grid_sorted s shape cs fits;
        few = grid_few s shape cs fits;
        flags = grid_flags s shape cs fits;
      }))

  tested : Option (List ℕ × List ℕ) → Option (List ℕ × List ℕ)
  tested o = o >>= λ a. if is_tree s a.0 then Some a else None

  module _ (rest bytes : List ℕ) (e : Some (cs, rest) ≡ (codes s).read bytes) where
    pub read_fails : is_tree s cs ≡ false → None ≡ (tree s).read bytes
    unfolding tested
    read_fails fails = sym (ap (λ u. if u then Some (cs, rest) else None) fails) ∙ ap tested e

    pub read_gives : is_tree s cs ≡ true → Some (cs, rest) ≡ (tree s).read bytes
    unfolding tested
    read_gives passes = sym (ap (λ u. if u then Some (cs, rest) else None) passes) ∙ ap tested e
