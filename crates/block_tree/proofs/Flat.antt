-- Trees of which all leaves have one level.
use Rattle.std.proofs.Common.{◌≡◌, ℕ, zero, suc, ◌<◌, ◌≤◌, Bool, true, false, refl, sym, ap, ◌∙◌, subst, inl, inr, arith, List, ◌∷◌, length, replicate}
use Rattle.amr_num.specs.declared.BlockAt.{BlockAt}
use Rattle.mesh_model.specs.declared.geometry.Shape.{Shape}
use Rattle.mesh_model.specs.Geometry.Blocks.{child_block}
use Rattle.mesh_model.specs.Tree.Order.{IsIn, nodes}
use Rattle.mesh_model.specs.Tree.Kinds.{Grid, is_leaf_block}
use Rattle.mesh_model.specs.Tree.Regrown.{regrown}
use Rattle.mesh_model.specs.Tree.Start.{start_grid}
use Rattle.mesh_model.proofs.TreeLemmas.Nodes.{node_in}
use Rattle.mesh_model.proofs.TreeLemmas.Regrown.{new_source}
use Rattle.mesh_model.proofs.TreeLemmas.Roots.{start_root}
use Rattle.mesh_model.proofs.TreeLemmas.Tiling.{leaf_says, same_level}
use Rattle.block_tree.specs.declared.tree.Tree.{Tree}
use Rattle.block_tree.specs.GridOf.{grid_of}
use Rattle.block_tree.specs.Growing.{MayRegrow}
use Rattle.block_tree.specs.Numbered.{IsNode, block_at, blocks_of, flag_in}
use Rattle.block_tree.proofs.Facts.{known}
use Rattle.block_tree.proofs.Flags.{set_says, set_shows, set_empty, flag_lowered}
use Rattle.std.proofs.lemmas.Bool.{cases_Bool}
use Rattle.block_tree.proofs.Covering.{no_split}
use Rattle.block_tree.proofs.Leaves.{leaf_node, node_split}
use Rattle.block_tree.proofs.Members.{at_in}
use Rattle.block_tree.proofs.Numbers.{node_in_all, child_in_all}

abbrev pub IsFlat : Grid → ℕ → Type 0
IsFlat g l = (leaf : BlockAt) → IsIn leaf g.leaves → leaf.level ≡ l

module _ (g : Grid) (l : ℕ) (flat : IsFlat g l) (refine merge : BlockAt → Bool) (none : (b : BlockAt) → merge b ≡ false) where
  new_levels : (n : BlockAt) → IsIn n (regrown g refine merge).leaves → (l ≤ n.level) × (n.level ≤ suc l)
  new_levels n i =
      let source = new_source refine merge g n i in
      let old = flat source.0 source.1 in
      elim source.2 [
        | inl r ↦ let level = ap (λ (u : BlockAt). u.level) r.child in (omega arith, omega arith)
        | inr (inl p) ↦ let no = none n in let merged = ap merge (sym p.parent) ∙ p.merged in cc
        | inr (inr k) ↦ let level = ap (λ (u : BlockAt). u.level) k.same in (omega arith, omega arith)
      ]

  -- some of its leaves may be refined
  pub flat_may : l < g.shape.max → ((b : BlockAt) → refine b ≡ true → IsIn b g.leaves) → MayRegrow g refine merge
  flat_may deep leaves = record {
    leaf = leaves;
    deep = λ b h. let level = flat b (leaves b h) in omega arith;
    children = λ p q h lt. let no = none p in cc;
    stays = λ p q h lt. let no = none p in cc;
    rule = record { near = λ leaf other i j t. let high = (new_levels leaf i).1 in let low = (new_levels other j).0 in omega arith };
  }

  -- where all are, all new leaves have the next level
  pub flat_again : ((b : BlockAt) → IsIn b g.leaves → refine b ≡ true) → IsFlat (regrown g refine merge) (suc l)
  flat_again all n i =
      let source = new_source refine merge g n i in
      let old = flat source.0 source.1 in
      elim source.2 [
        | inl r ↦ let level = ap (λ (u : BlockAt). u.level) r.child in omega arith
        | inr (inl p) ↦ let no = none n in let merged = ap merge (sym p.parent) ∙ p.merged in cc
        | inr (inr k) ↦ let up = all source.0 source.1 in let down = k.stays in cc
      ]

pub start_flat : (s : Shape) → IsFlat (start_grid s) 0
start_flat s leaf i = (start_root s leaf i).1

pub flag_raised : (n i : ℕ) → i < n → flag_in (replicate n true) i ≡ true
flag_raised zero i h = absurd (omega arith)
flag_raised (suc n) zero h = refl
flag_raised (suc n) (suc i) h = flag_raised n i (omega arith)

-- ---- flags

pub none_lowered : (g : Grid) (flags : List Bool) (n : ℕ) → flags ≡ replicate n false → (b : BlockAt) → blocks_of g (flag_in flags) b ≡ false
none_lowered g flags n e b = set_empty g (flag_in flags) (λ i. ap (λ (u : List Bool). flag_in u i) e ∙ flag_lowered n i) b

module _ (t : Tree) where
  -- the nodes of roots are leaves
  pub roots_leaves : IsFlat (grid_of t) 0 → (flag : ℕ → Bool) (b : BlockAt) → blocks_of (grid_of t) flag b ≡ true → IsIn b (grid_of t).leaves
  roots_leaves flat flag b h =
      let found = set_says (grid_of t) flag b h in
      let node = subst (λ u. IsIn u (nodes (grid_of t).leaves)) found.3 (node_in_all t found.0 found.1) in
      let under = node_in (grid_of t) (known t).valid b node in
      let low = flat under.0 under.1 in
      let coarse = under.2.level in
      subst (λ u. IsIn u (grid_of t).leaves) (same_level under.0 b under.2 (omega arith)) under.1

  pub flagged_leaves : (flag : ℕ → Bool) → ((i : ℕ) → IsNode (grid_of t) i → flag i ≡ true → IsIn (block_at (grid_of t) i) (grid_of t).leaves) → (b : BlockAt) → blocks_of (grid_of t) flag b ≡ true → IsIn b (grid_of t).leaves
  flagged_leaves flag each b h = let found = set_says (grid_of t) flag b h in subst (λ u. IsIn u (grid_of t).leaves) found.3 (each found.0 found.1 found.2)

  pub all_raised : (flags : List Bool) (n : ℕ) → flags ≡ replicate n true → length (nodes (grid_of t).leaves) ≡ n → (b : BlockAt) → IsIn b (grid_of t).leaves → blocks_of (grid_of t) (flag_in flags) b ≡ true
  unfolding block_at
  all_raised flags n e size b i =
      let at = at_in b (nodes (grid_of t).leaves) (leaf_node (grid_of t) (known t).valid b i) in
      let high = at.1 in
      set_shows (grid_of t) (flag_in flags) b at.0 at.1 (ap (λ (u : List Bool). flag_in u at.0) e ∙ flag_raised n at.0 (omega arith)) at.2

-- ---- trees that begin with the roots

module _ (t : Tree) (s : Shape) (start : grid_of t ≡ start_grid s) where
  pub roots_flat : IsFlat (grid_of t) 0
  roots_flat = subst (λ g. IsFlat g 0) (sym start) (start_flat s)

  pub roots_may : 0 < s.max → (up down : List Bool) (n : ℕ) → down ≡ replicate n false → MayRegrow (grid_of t) (blocks_of (grid_of t) (flag_in up)) (blocks_of (grid_of t) (flag_in down))
  roots_may deep up down n lowered =
      let top = ap (λ (g : Grid). g.shape.max) start in
      flat_may (grid_of t) 0 roots_flat (blocks_of (grid_of t) (flag_in up)) (blocks_of (grid_of t) (flag_in down)) (none_lowered (grid_of t) down n lowered) (omega arith) (roots_leaves t roots_flat (flag_in up))

  -- all roots refined
  module _ (u : Tree) (up down : List Bool) (n k : ℕ) (raised : up ≡ replicate n true) (lowered : down ≡ replicate k false) (size : length (nodes (grid_of t).leaves) ≡ n)
      (grown : grid_of u ≡ regrown (grid_of t) (blocks_of (grid_of t) (flag_in up)) (blocks_of (grid_of t) (flag_in down))) where
    children_flat : IsFlat (grid_of u) 1
    children_flat =
        subst (λ g. IsFlat g 1) (sym grown) (flat_again (grid_of t) 0 roots_flat (blocks_of (grid_of t) (flag_in up)) (blocks_of (grid_of t) (flag_in down)) (none_lowered (grid_of t) down k lowered) (all_raised t up n raised size))

    -- and then some of their children
    pub children_may : 1 < s.max → (next low : List Bool) (m : ℕ) → low ≡ replicate m false → ((i : ℕ) → IsNode (grid_of u) i → flag_in next i ≡ true → is_leaf_block (grid_of u) (block_at (grid_of u) i) ≡ true) →
        MayRegrow (grid_of u) (blocks_of (grid_of u) (flag_in next)) (blocks_of (grid_of u) (flag_in low))
    children_may deep next low m down2 each =
        let top = ap (λ (g : Grid). g.shape.max) start in
        let same = ap (λ (g : Grid). g.shape.max) grown in
        flat_may (grid_of u) 1 children_flat (blocks_of (grid_of u) (flag_in next)) (blocks_of (grid_of u) (flag_in low)) (none_lowered (grid_of u) low m down2) (omega arith)
        (flagged_leaves u (flag_in next) (λ i h mark. leaf_says (grid_of u) (block_at (grid_of u) i) (each i h mark)))

-- ---- merging

only_first : (n i : ℕ) → flag_in (true ∷ replicate n false) i ≡ true → i ≡ 0
only_first n zero h = refl
only_first n (suc i) h = let no = flag_lowered n i in cc

module _ (t : Tree) (shallow : t.shape.max ≤ 1) where
  no_deeper : (b : BlockAt) → IsIn b (nodes (grid_of t).leaves) → 1 ≤ b.level → IsIn b (grid_of t).leaves
  no_deeper b i h = elim (cases_Bool (is_leaf_block (grid_of t) b)) [
    | inl leaf ↦ leaf_says (grid_of t) b leaf
    | inr f ↦
        let split = node_split (grid_of t) (known t).valid b i f in
        let whole = no_split (grid_of t) (known t).valid b (omega arith) in
        cc
  ]

  shallow_levels : (refine merge : BlockAt → Bool) → ((b : BlockAt) → refine b ≡ false) → (n : BlockAt) → IsIn n (regrown (grid_of t) refine merge).leaves → n.level ≤ 1
  shallow_levels refine merge none n i =
      let source = new_source refine merge (grid_of t) n i in
      let old = ((known t).valid.tiles.inside source.0 source.1).level in
      elim source.2 [
        | inl r ↦ let no = none source.0 in let refined = r.refined in cc
        | inr (inl p) ↦ let level = ap (λ (u : BlockAt). u.level) p.parent in omega arith
        | inr (inr k) ↦ let level = ap (λ (u : BlockAt). u.level) k.same in omega arith
      ]

  -- the first node of a shallow tree may be merged where it is no leaf
  pub first_may : (up down : List Bool) (n k : ℕ) → down ≡ replicate k false → up ≡ true ∷ replicate n false → IsNode (grid_of t) 0 → is_leaf_block (grid_of t) (block_at (grid_of t) 0) ≡ false →
      MayRegrow (grid_of t) (blocks_of (grid_of t) (flag_in down)) (blocks_of (grid_of t) (flag_in up))
  first_may up down n k lowered raised here inner =
      let none = none_lowered (grid_of t) down k lowered in
      record {
        leaf = λ b h. let no = none b in cc;
        deep = λ b h. let no = none b in cc;
        children = λ p q h lt.
            let found = set_says (grid_of t) (flag_in up) p h in
            let first = only_first n found.0 (ap (λ (u : List Bool). flag_in u found.0) (sym raised) ∙ found.2) in
            let same = ap (block_at (grid_of t)) (sym first) ∙ found.3 in
            subst (λ u. IsIn (child_block u q) (grid_of t).leaves) same (no_deeper (child_block (block_at (grid_of t) 0) q) (child_in_all t 0 q here inner) (omega arith));
        stays = λ p q h lt. none (child_block p q);
        rule = record { near = λ leaf other i j h. let low = shallow_levels (blocks_of (grid_of t) (flag_in down)) (blocks_of (grid_of t) (flag_in up)) none leaf i in omega arith };
      }
