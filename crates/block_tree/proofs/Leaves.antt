-- The leaves among the nodes.
use Rattle.std.proofs.Common.{◌≡◌, ℕ, zero, suc, ◌<◌, Bool, true, false, not, ◌&&◌, nat_lt, refl, sym, ap, ap₂, ◌∙◌, arith, inl, inr, subst, List, [], ◌∷◌, ◌++◌, filter, lt-ltb, ltb-true}
use Rattle.std.proofs.lemmas.Bool.{cases_Bool, cases_lt, and_parts}
use Rattle.std.proofs.lemmas.List.Elements.{filter-append}
use Rattle.amr_num.specs.declared.BlockAt.{BlockAt}
use Rattle.mesh_model.specs.Geometry.Blocks.{child_block, parent_block, is_first_child, LiesIn, InDomain, lies_in}
use Rattle.mesh_model.specs.Tree.Order.{IsIn, begun_at, nodes}
use Rattle.mesh_model.specs.Tree.Kinds.{Grid, is_leaf_block, is_split_block}
use Rattle.mesh_model.specs.Tree.ValidGrid.{Valid}
use Rattle.mesh_model.proofs.TreeLemmas.Nodes.{begun_in, node_in, in_node, begun_first, begun_other}
use Rattle.mesh_model.proofs.TreeLemmas.Tests.{refuted, found, there, and_both}
use Rattle.mesh_model.proofs.TreeLemmas.Tiling.{lies_says, lies_shows, lies_trans, lies_refl, same_level, finest, finest_in, child_in, child_of_split, domain_up, leaf_says, leaf_shows, split_says, split_shows}
use Rattle.mesh_model.proofs.TreeLemmas.Regrown.{is_parent}
use Rattle.mesh_model.proofs.TreeLemmas.Levels.{is_child}
use Rattle.block_tree.specs.Listed.{is_above, lowest}
use Rattle.block_tree.proofs.Members.{filter_flat, filter_none, filter_one}

-- ---- a leaf and the ancestors that begin with it

-- the ancestors that begin where a block of level l does
unfoldable pub begun_above : ℕ → BlockAt → List BlockAt
begun_above zero b = []
begun_above (suc l) b = elim (is_first_child b) [
  | true ↦ begun_at l (parent_block b)
  | false ↦ []
]

pub above_first : (l : ℕ) (b : BlockAt) → is_first_child b ≡ true → begun_above (suc l) b ≡ begun_at l (parent_block b)
unfolding begun_above
above_first l b t = rw (t, begun_above) refl

pub above_other : (l : ℕ) (b : BlockAt) → is_first_child b ≡ false → begun_above (suc l) b ≡ []
unfolding begun_above
above_other l b f = rw (f, begun_above) refl

pub begun_parts : (l : ℕ) (b : BlockAt) → begun_at l b ≡ begun_above l b ++ b ∷ []
unfolding begun_at begun_above
begun_parts zero b = refl
begun_parts (suc l) b = elim (cases_Bool (is_first_child b)) [
  | inl t ↦ begun_first l b t ∙ ap (λ u. u ++ b ∷ []) (sym (above_first l b t))
  | inr f ↦ begun_other l b f ∙ ap (λ u. u ++ b ∷ []) (sym (above_other l b f))
]

pub above_in : (l : ℕ) (c b : BlockAt) → c.level ≡ l → IsIn b (begun_above l c) → LiesIn c b × (b.level < c.level)
unfolding begun_above
above_in zero c b e i = absurd i
above_in (suc l) c b e i = elim (cases_Bool (is_first_child c)) [
  | inl t ↦
      let up = begun_in l (parent_block c) b (omega arith) (subst (λ u. IsIn b u) (above_first l c t) i) in
      let coarse = up.level in
      (lies_trans c (parent_block c) b (child_in c (parent_block c) (is_parent c (omega arith))) up, omega arith)
  | inr f ↦ absurd (subst (λ u. IsIn b u) (above_other l c f) i)
]

-- ---- leaves and nodes of a valid grid

finest_level : (top : ℕ) (b : BlockAt) → (finest top b).level ≡ top
unfolding finest
finest_level top b = refl

module _ (g : Grid) (valid : Valid g) where
  -- a leaf in another is that one
  pub leaf_alone : (leaf other : BlockAt) → IsIn leaf g.leaves → IsIn other g.leaves → LiesIn leaf other → leaf ≡ other
  leaf_alone leaf other i j h =
      let top = g.shape.max in
      let room = (valid.tiles.inside leaf i).level in
      let q = finest top leaf in
      let inside : LiesIn q leaf = finest_in top leaf room in
      valid.tiles.once q leaf other (finest_level top leaf) i j inside (lies_trans q leaf other inside h)

  pub leaf_whole : (leaf b : BlockAt) → IsIn leaf g.leaves → LiesIn leaf b → b.level < leaf.level → is_leaf_block g b ≡ false
  leaf_whole leaf b i h lt = refuted _ (λ t.
      let same = ap (λ (u : BlockAt). u.level) (leaf_alone leaf b i (leaf_says g b t) h) in
      omega arith)

  pub leaf_node : (leaf : BlockAt) → IsIn leaf g.leaves → IsIn leaf (nodes g.leaves)
  leaf_node leaf i = in_node g valid leaf leaf i (lies_refl leaf)

  above_all : (n b : BlockAt) → IsIn n (nodes g.leaves) → LiesIn n b → b.level < n.level → is_above (nodes g.leaves) b ≡ true
  unfolding is_above
  above_all n b i h lt = there (λ (u : BlockAt). nat_lt b.level u.level && lies_in u b) n (nodes g.leaves) i (and_both (nat_lt b.level n.level) (lies_in n b) (lt-ltb _ _ lt) (lies_shows n b h))

  above_none : (leaf : BlockAt) → IsIn leaf g.leaves → is_above (nodes g.leaves) leaf ≡ false
  unfolding is_above
  above_none leaf i = refuted _ (λ t.
      let n = found (λ (u : BlockAt). nat_lt leaf.level u.level && lies_in u leaf) (nodes g.leaves) t in
      let both = and_parts (nat_lt leaf.level n.0.level) (lies_in n.0 leaf) n.2 in
      let finer = ltb-true _ _ both.0 in
      let under = node_in g valid n.0 n.1 in
      let deep = under.2.level in
      let same = ap (λ (u : BlockAt). u.level) (leaf_alone under.0 leaf under.1 i (lies_trans under.0 n.0 leaf under.2 (lies_says n.0 leaf both.1))) in
      omega arith)

  -- what passes at leaves and at none of their ancestors gives the leaves
  leaves_pass : (p : BlockAt → Bool) → ((leaf : BlockAt) → IsIn leaf g.leaves → p leaf ≡ true) → ((leaf b : BlockAt) → IsIn leaf g.leaves → LiesIn leaf b → b.level < leaf.level → p b ≡ false) → filter p (nodes g.leaves) ≡ g.leaves
  unfolding nodes
  leaves_pass p passes fails = filter_flat p (λ b. begun_at b.level b) g.leaves (λ b i.
      ap (filter p) (begun_parts b.level b)
      ∙ filter-append p (begun_above b.level b) (b ∷ [])
      ∙ ap₂ (λ u w. u ++ w) (filter_none p (begun_above b.level b) (λ c j. let up = above_in b.level b c refl j in fails b c i up.0 up.1)) (filter_one p b (passes b i)))

  -- the lowest nodes are the leaves
  pub lowest_nodes : lowest (nodes g.leaves) ≡ g.leaves
  unfolding lowest
  lowest_nodes = leaves_pass (λ b. not (is_above (nodes g.leaves) b))
      (λ leaf i. ap not (above_none leaf i))
      (λ leaf b i h lt. ap not (above_all leaf b (leaf_node leaf i) h lt))

  -- the leaves are the nodes that are leaves, in their order
  pub leaves_are : filter (is_leaf_block g) (nodes g.leaves) ≡ g.leaves
  leaves_are = leaves_pass (is_leaf_block g) (λ leaf i. leaf_shows g leaf i) leaf_whole

  pub node_split : (b : BlockAt) → IsIn b (nodes g.leaves) → is_leaf_block g b ≡ false → is_split_block g b ≡ true
  node_split b i f =
      let under = node_in g valid b i in
      let coarse = under.2.level in
      elim (cases_lt b.level under.0.level) [
        | inl lt ↦ split_shows g b under.0 under.1 lt under.2
        | inr le ↦
            let same = same_level under.0 b under.2 (omega arith) in
            let leaf = leaf_shows g b (subst (λ u. IsIn u g.leaves) same under.1) in
            cc
      ]

  pub split_leaf : (b : BlockAt) → is_split_block g b ≡ true → is_leaf_block g b ≡ false
  split_leaf b t = let under = split_says g b t in leaf_whole under.0 b under.1 under.3 under.2

  -- the children of a node that is no leaf are nodes, and so is the parent of a node
  pub child_node : (b : BlockAt) (q : ℕ) → is_split_block g b ≡ true → IsIn (child_block b q) (nodes g.leaves)
  child_node b q t = elim (cases_Bool (is_split_block g (child_block b q))) [
    | inl split ↦ let under = split_says g (child_block b q) split in in_node g valid (child_block b q) under.0 under.1 under.3
    | inr whole ↦ leaf_node (child_block b q) (leaf_says g (child_block b q) (child_of_split g valid.tiles (child_block b q) b (is_child b q) t whole))
  ]

  pub parent_node : (b : BlockAt) → IsIn b (nodes g.leaves) → 0 < b.level → IsIn (parent_block b) (nodes g.leaves)
  parent_node b i h =
      let under = node_in g valid b i in
      in_node g valid (parent_block b) under.0 under.1 (lies_trans under.0 b (parent_block b) under.2 (child_in b (parent_block b) (is_parent b h)))

  pub node_inside : (b : BlockAt) → IsIn b (nodes g.leaves) → InDomain g.shape b
  node_inside b i = let under = node_in g valid b i in domain_up g.shape under.0 b under.2 (valid.tiles.inside under.0 under.1)

  -- a node with a child among the nodes is no leaf
  pub child_split : (b : BlockAt) (q : ℕ) → IsIn (child_block b q) (nodes g.leaves) → is_leaf_block g b ≡ false
  child_split b q i =
      let under = node_in g valid (child_block b q) i in
      let deep = under.2.level in
      leaf_whole under.0 b under.1 (lies_trans under.0 (child_block b q) b under.2 (child_in (child_block b q) b (is_child b q))) (omega arith)
