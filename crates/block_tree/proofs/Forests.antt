-- The nodes of a tree from one flag each, and back.
use Rattle.std.proofs.Common.{◌≡◌, ℕ, zero, suc, ◌+◌, ◌-◌, ◌*◌, ◌/◌, ◌%◌, ◌^◌, ◌<◌, ◌≤◌, ◌==◌, Bool, true, false, ◌&&◌, ◌⊎◌, cond, if◌then◌else◌, nat_lt, refl, sym, ap, ap₂, subst, ◌∙◌, arith, inl, inr, List, [], ◌∷◌, ◌++◌, map, append_assoc, Option, Some, None, lt-ltb, ltb-true, eqb-true, eq-eqb}
use Rattle.std.specs.Option.{option_map}
use Rattle.std.proofs.lemmas.Bool.{cases_Bool, cases_lt}
use Rattle.amr_num.specs.declared.BlockAt.{BlockAt}
use Rattle.mesh_model.specs.declared.geometry.Shape.{Shape}
use Rattle.mesh_model.specs.Geometry.Blocks.{child_block, parent_block, children, is_first_child}
use Rattle.mesh_model.specs.Geometry.Limits.{IsShape}
use Rattle.mesh_model.specs.Tree.Order.{IsIn, Sorted, key, morton, begun_at, nodes}
use Rattle.mesh_model.specs.Tree.Kinds.{Grid, is_leaf_block, is_split_block}
use Rattle.mesh_model.specs.Tree.Start.{start_leaves, start_grid}
use Rattle.mesh_model.specs.Geometry.Blocks.{LiesIn, InDomain}
use Rattle.mesh_model.specs.Tree.ValidGrid.{Tiles, Valid}
use Rattle.mesh_model.proofs.TreeLemmas.Closure.{parent_of_child}
use Rattle.mesh_model.proofs.TreeLemmas.Levels.{apart, home, is_child}
use Rattle.mesh_model.proofs.TreeLemmas.Roots.{start_root}
use Rattle.mesh_model.proofs.TreeLemmas.Sorting.{past_end}
use Rattle.mesh_model.proofs.TreeLemmas.Tests.{all_three, refuted, and_both, in_right}
use Rattle.mesh_model.proofs.TreeLemmas.Tiling.{same_level, lies_refl, lies_trans, child_in, child_of_split, leaf_says, split_says, split_shows, finest, finest_in, domain_finest, domain_child}
use Rattle.block_tree.proofs.Made.{start_valid}
use Rattle.block_tree.proofs.Leaves.{begun_above, begun_parts, above_first, above_other}
use Rattle.mesh_model.specs.Tree.Forest.{flags_of, visited, lowered}
use Rattle.block_tree.proofs.Ordering.{Ordered, ordered_sorted, Good, split_good}

-- ---- what a run of the flags gives

step_some : (b : BlockAt) (r : Option (List BlockAt)) (all : List BlockAt) → option_map (λ rest. b ∷ rest) r ≡ Some all → (rest : List BlockAt) × (r ≡ Some rest) × (b ∷ rest ≡ all)
step_some b (Some rest) all e = (rest, refl, cc)
step_some b None all e = absurd cc

when_some : {A : Type 0} (t : Bool) (o : Option A) (x : A) → cond t o None ≡ Some x → (t ≡ true) × (o ≡ Some x)
when_some true o x e = (refl, e)
when_some false o x e = absurd cc

down : (max : ℕ) (flags : List Bool) (b : BlockAt) (bs all : List BlockAt) → visited max (false ∷ flags) (b ∷ bs) ≡ Some all → (rest : List BlockAt) × (visited max flags bs ≡ Some rest) × (b ∷ rest ≡ all)
down max flags b bs all e = step_some b (visited max flags bs) all e

record Up (max : ℕ) (flags : List Bool) (b : BlockAt) (bs all : List BlockAt) : Type 0 where
  rest : List BlockAt
  deep : b.level < max
  run : visited max flags (children b ++ bs) ≡ Some rest
  whole : b ∷ rest ≡ all

up : (max : ℕ) (flags : List Bool) (b : BlockAt) (bs all : List BlockAt) → visited max (true ∷ flags) (b ∷ bs) ≡ Some all → Up max flags b bs all
up max flags b bs all e =
    let room = when_some (nat_lt b.level max) (option_map (λ rest. b ∷ rest) (visited max flags (children b ++ bs))) all e in
    let one = step_some b (visited max flags (children b ++ bs)) all room.1 in
    record { rest = one.0; deep = ltb-true _ _ room.0; run = one.1; whole = one.2 }

-- ---- the leaves tile the domain in order

module _ (s : Shape) (small : s.max ≤ 10) where
  pub run_good : (flags : List Bool) (done pending all : List BlockAt) → visited s.max flags pending ≡ Some all → Good s (done ++ pending) → Good s (done ++ lowered flags all)
  run_good [] done [] all e good = good
  run_good [] done (b ∷ bs) all e good = absurd cc
  run_good (flag ∷ flags) done [] all e good = absurd cc
  run_good (false ∷ flags) done (b ∷ bs) all e good =
      let one = down s.max flags b bs all e in
      let moved : Good s ((done ++ b ∷ []) ++ bs) = subst (λ u. Good s u) (sym (append_assoc done (b ∷ []) bs)) good in
      let rest = run_good flags (done ++ b ∷ []) bs one.0 one.1 moved in
      subst (λ u. Good s (done ++ lowered (false ∷ flags) u)) one.2 (subst (λ u. Good s u) (append_assoc done (b ∷ []) (lowered flags one.0)) rest)
  run_good (true ∷ flags) done (b ∷ bs) all e good =
      let one = up s.max flags b bs all e in
      let rest = run_good flags done (children b ++ bs) one.rest one.run (split_good s small done b bs one.deep good) in
      subst (λ u. Good s (done ++ lowered (true ∷ flags) u)) one.whole rest

-- ---- the nodes of these leaves are the blocks visited

-- ancestors that begin with the first block
abbrev first_above : List BlockAt → List BlockAt
first_above [] = []
first_above (b ∷ bs) = begun_above b.level b

-- no ancestor begins with a block
abbrev Later : List BlockAt → Type 0
Later [] = Unit
Later (b ∷ bs) = (begun_above b.level b ≡ []) × Later bs

abbrev RestLater : List BlockAt → Type 0
RestLater [] = Unit
RestLater (b ∷ bs) = Later bs

first_none : (bs : List BlockAt) → Later bs → first_above bs ≡ []
first_none [] h = refl
first_none (b ∷ bs) h = h.0

later_rest : (bs : List BlockAt) → Later bs → RestLater bs
later_rest [] h = tt
later_rest (b ∷ bs) h = h.1

child0_first : (b : BlockAt) → is_first_child (child_block b 0) ≡ true
child0_first b = and_both ((2 * b.x + 0) % 2 == 0 && (2 * b.y + 0) % 2 == 0) ((2 * b.z + 0) % 2 == 0) (and_both ((2 * b.x + 0) % 2 == 0) ((2 * b.y + 0) % 2 == 0) (eq-eqb _ _ (omega arith)) (eq-eqb _ _ (omega arith))) (eq-eqb _ _ (omega arith))

child0_above : (b : BlockAt) → begun_above (suc b.level) (child_block b 0) ≡ begun_above b.level b ++ b ∷ []
child0_above b = above_first b.level (child_block b 0) (child0_first b) ∙ ap (begun_at b.level) (parent_of_child b 0) ∙ begun_parts b.level b

-- a child other than the first begins with no ancestor
child_later : (b : BlockAt) (q : ℕ) → 0 < q → q < 8 → begun_above (suc b.level) (child_block b q) ≡ []
child_later b q h l = above_other b.level (child_block b q) (refuted _ (λ t.
    let three = all_three ((2 * b.x + q % 2) % 2 == 0) ((2 * b.y + q / 2 % 2) % 2 == 0) ((2 * b.z + q / 4 % 2) % 2 == 0) t in
    let x = eqb-true _ _ three.0 in
    let y = eqb-true _ _ three.1 in
    let z = eqb-true _ _ three.2 in
    omega arith))

children_later : (b : BlockAt) (bs : List BlockAt) → Later bs → RestLater (children b ++ bs)
children_later b bs h = (child_later b 1 (omega arith) (omega arith), (child_later b 2 (omega arith) (omega arith), (child_later b 3 (omega arith) (omega arith), (child_later b 4 (omega arith) (omega arith), (child_later b 5 (omega arith) (omega arith), (child_later b 6 (omega arith) (omega arith), (child_later b 7 (omega arith) (omega arith), h)))))))

pub run_nodes : (max : ℕ) (flags : List Bool) (pending all : List BlockAt) → visited max flags pending ≡ Some all → RestLater pending → first_above pending ++ all ≡ nodes (lowered flags all)
unfolding nodes
run_nodes max [] [] all e h = let none : [] ≡ all = cc in sym none
run_nodes max [] (b ∷ bs) all e h = absurd cc
run_nodes max (flag ∷ flags) [] all e h = absurd cc
run_nodes max (false ∷ flags) (b ∷ bs) all e h =
    let one = down max flags b bs all e in
    let rest = run_nodes max flags bs one.0 one.1 (later_rest bs h) in
    let others : one.0 ≡ nodes (lowered flags one.0) = ap (λ u. u ++ one.0) (sym (first_none bs h)) ∙ rest in
    let whole : begun_above b.level b ++ b ∷ one.0 ≡ begun_at b.level b ++ nodes (lowered flags one.0) =
    sym (append_assoc (begun_above b.level b) (b ∷ []) one.0) ∙ ap₂ (λ u w. u ++ w) (sym (begun_parts b.level b)) others in
    subst (λ u. begun_above b.level b ++ u ≡ nodes (lowered (false ∷ flags) u)) one.2 whole
run_nodes max (true ∷ flags) (b ∷ bs) all e h =
    let one = up max flags b bs all e in
    let rest = run_nodes max flags (children b ++ bs) one.rest one.run (children_later b bs h) in
    let whole : begun_above b.level b ++ b ∷ one.rest ≡ nodes (lowered flags one.rest) =
    sym (append_assoc (begun_above b.level b) (b ∷ []) one.rest) ∙ ap (λ u. u ++ one.rest) (sym (child0_above b)) ∙ rest in
    subst (λ u. begun_above b.level b ++ u ≡ nodes (lowered (true ∷ flags) u)) one.whole whole

-- ---- the flags are those of the leaves' grid

-- under the first block there is a leaf
under_first : (max : ℕ) (flags : List Bool) (b : BlockAt) (bs all : List BlockAt) → visited max flags (b ∷ bs) ≡ Some all → (leaf : BlockAt) × IsIn leaf (lowered flags all) × LiesIn leaf b
under_first max [] b bs all e = absurd cc
under_first max (false ∷ flags) b bs all e =
    let one = down max flags b bs all e in
    (b, subst (λ u. IsIn b (lowered (false ∷ flags) u)) one.2 (inl refl), lies_refl b)
under_first max (true ∷ flags) b bs all e =
    let one = up max flags b bs all e in
    let rest = under_first max flags (child_block b 0) (child_block b 1 ∷ child_block b 2 ∷ child_block b 3 ∷ child_block b 4 ∷ child_block b 5 ∷ child_block b 6 ∷ child_block b 7 ∷ bs) one.rest one.run in
    (rest.0, subst (λ u. IsIn rest.0 (lowered (true ∷ flags) u)) one.whole rest.1, lies_trans rest.0 (child_block b 0) b rest.2 (child_in (child_block b 0) b (is_child b 0)))

module _ (g : Grid) (tiles : Tiles g) (small : g.shape.max ≤ 10) where
  leaf_not_split : (b : BlockAt) → IsIn b g.leaves → is_split_block g b ≡ false
  leaf_not_split b i = refuted _ (λ t.
      let under = split_says g b t in
      let deep = under.2 in
      let same = ap (λ (u : BlockAt). u.level) (apart g tiles small under.0 b under.1 i under.3) in
      omega arith)

  pub run_flags : (max : ℕ) (flags : List Bool) (pending all : List BlockAt) → visited max flags pending ≡ Some all → ((leaf : BlockAt) → IsIn leaf (lowered flags all) → IsIn leaf g.leaves) → map (is_split_block g) all ≡ flags
  run_flags max [] [] all e h = let none : [] ≡ all = cc in ap (map (is_split_block g)) (sym none)
  run_flags max [] (b ∷ bs) all e h = absurd cc
  run_flags max (flag ∷ flags) [] all e h = absurd cc
  run_flags max (false ∷ flags) (b ∷ bs) all e h =
      let one = down max flags b bs all e in
      let here : (leaf : BlockAt) → IsIn leaf (b ∷ lowered flags one.0) → IsIn leaf g.leaves = λ leaf i. h leaf (subst (λ u. IsIn leaf (lowered (false ∷ flags) u)) one.2 i) in
      let rest = run_flags max flags bs one.0 one.1 (λ leaf i. here leaf (inr i)) in
      subst (λ u. map (is_split_block g) u ≡ false ∷ flags) one.2 (ap₂ (λ u w. u ∷ w) (leaf_not_split b (here b (inl refl))) rest)
  run_flags max (true ∷ flags) (b ∷ bs) all e h =
      let one = up max flags b bs all e in
      let here : (leaf : BlockAt) → IsIn leaf (lowered flags one.rest) → IsIn leaf g.leaves = λ leaf i. h leaf (subst (λ u. IsIn leaf (lowered (true ∷ flags) u)) one.whole i) in
      let rest = run_flags max flags (children b ++ bs) one.rest one.run here in
      let leaf = under_first max flags (child_block b 0) (child_block b 1 ∷ child_block b 2 ∷ child_block b 3 ∷ child_block b 4 ∷ child_block b 5 ∷ child_block b 6 ∷ child_block b 7 ∷ bs) one.rest one.run in
      let deep = leaf.2.level in
      let split = split_shows g b leaf.0 (here leaf.0 leaf.1) (omega arith) (lies_trans leaf.0 (child_block b 0) b leaf.2 (child_in (child_block b 0) b (is_child b 0))) in
      subst (λ u. map (is_split_block g) u ≡ true ∷ flags) one.whole (ap₂ (λ u w. u ∷ w) split rest)

-- ---- from the roots

ordered_from : (g : Grid) → Valid g → (bs : List BlockAt) → ((b : BlockAt) → IsIn b bs → IsIn b g.leaves) → Sorted bs → Ordered bs
unfolding key
ordered_from g valid [] h s = tt
ordered_from g valid (b ∷ bs) h s = (λ c i. past_end g valid.shape valid.tiles b c (h b (inl refl)) (h c (inr i)) (s.0 c i), ordered_from g valid bs (λ c i. h c (inr i)) s.1)

all_later : (bs : List BlockAt) → ((b : BlockAt) → IsIn b bs → b.level ≡ 0) → Later bs
unfolding begun_above
all_later [] h = tt
all_later (b ∷ bs) h = (ap (λ l. begun_above l b) (h b (inl refl)), all_later bs (λ c i. h c (inr i)))

pub first_zero : (bs : List BlockAt) → ((b : BlockAt) → IsIn b bs → b.level ≡ 0) → first_above bs ≡ []
unfolding begun_above
first_zero [] h = refl
first_zero (b ∷ bs) h = ap (λ l. begun_above l b) (h b (inl refl))

-- what flags say that can be read from the roots of a shape
pub record Says (s : Shape) (flags : List Bool) (all : List BlockAt) : Type 0 where
  pub tiles : Tiles (record { shape = s; leaves = lowered flags all })
  pub order : Sorted (lowered flags all)
  pub nodes_are : nodes (lowered flags all) ≡ all
  pub flags_are : flags_of (record { shape = s; leaves = lowered flags all }) ≡ flags

module _ (s : Shape) (shape : IsShape s) where
  roots_good : Good s (start_leaves s)
  roots_good = record { tiles = (start_valid s shape).grid.tiles; order = ordered_from (start_grid s) (start_valid s shape).grid (start_leaves s) (λ b i. i) (start_valid s shape).order }

  roots_flat : (b : BlockAt) → IsIn b (start_leaves s) → b.level ≡ 0
  roots_flat b i = (start_root s b i).1

  pub said : (flags : List Bool) (all : List BlockAt) → visited s.max flags (start_leaves s) ≡ Some all → Says s flags all
  said flags all e =
      let top = shape.max in
      let good = run_good s top flags [] (start_leaves s) all e roots_good in
      let same : all ≡ nodes (lowered flags all) = ap (λ u. u ++ all) (sym (first_zero (start_leaves s) roots_flat)) ∙ run_nodes s.max flags (start_leaves s) all e (later_rest (start_leaves s) (all_later (start_leaves s) roots_flat)) in
      let g : Grid = record { shape = s; leaves = lowered flags all } in
      record {
        tiles = good.tiles;
        order = ordered_sorted (lowered flags all) (λ b i. let deep = (good.tiles.inside b i).level in omega arith) good.order;
        nodes_are = sym same;
        flags_are = ap (map (is_split_block g)) (sym same) ∙ run_flags g good.tiles top s.max flags (start_leaves s) all e (λ leaf i. i);
      }

-- ---- each grid's flags are read

-- sorted lists with the same members are the same
key_apart : (b c : BlockAt) → key b < key c → b ≡ c → ⊥
key_apart b c lt e = let same = ap key e in omega arith

pub sorted_same : (xs ys : List BlockAt) → Sorted xs → Sorted ys → ((b : BlockAt) → IsIn b xs → IsIn b ys) → ((b : BlockAt) → IsIn b ys → IsIn b xs) → xs ≡ ys
sorted_same [] [] sx sy f h = refl
sorted_same [] (y ∷ ys) sx sy f h = absurd (h y (inl refl))
sorted_same (x ∷ xs) [] sx sy f h = absurd (f x (inl refl))
sorted_same (x ∷ xs) (y ∷ ys) sx sy f h =
    let heads : x ≡ y = elim (f x (inl refl)) [
      | inl e ↦ sym e
      | inr i ↦ elim (h y (inl refl)) [
        | inl e ↦ e
        | inr j ↦ let one = sx.0 y j in let two = sy.0 x i in absurd (omega arith)
      ]
    ] in
    let tails = sorted_same xs ys sx.1 sy.1
    (λ b i. elim (f b (inr i)) [
      | inl e ↦ absurd (key_apart x b (sx.0 b i) (heads ∙ e))
      | inr j ↦ j
    ])
    (λ b i. elim (h b (inr i)) [
      | inl e ↦ absurd (key_apart y b (sy.0 b i) (sym heads ∙ e))
      | inr j ↦ j
    ]) in
    λ i. heads i ∷ tails i

module _ (g : Grid) (valid : Valid g) where
  -- flags under which blocks are visited, where what stays down are leaves
  record Grown (bs : List BlockAt) : Type 0 where
    flags : List Bool
    all : List BlockAt
    run : visited g.shape.max flags bs ≡ Some all
    leaf : (b : BlockAt) → IsIn b (lowered flags all) → IsIn b g.leaves

  IsNode : BlockAt → Type 0
  IsNode b = IsIn b g.leaves ⊎ (is_split_block g b ≡ true)

  grow_leaf : (b : BlockAt) (bs : List BlockAt) → IsIn b g.leaves → Grown bs → Grown (b ∷ bs)
  grow_leaf b bs i rest = record {
    flags = false ∷ rest.flags;
    all = b ∷ rest.all;
    run = ap (option_map (λ u. b ∷ u)) rest.run;
    leaf = λ c j. elim j [ inl e ↦ subst (λ u. IsIn u g.leaves) e i | inr k ↦ rest.leaf c k ];
  }

  grow_split : (b : BlockAt) (bs : List BlockAt) → is_split_block g b ≡ true → Grown (children b ++ bs) → Grown (b ∷ bs)
  grow_split b bs t rest =
      let under = split_says g b t in
      let deep = under.2 in
      let room = (valid.tiles.inside under.0 under.1).level in
      let test : nat_lt b.level g.shape.max ≡ true = lt-ltb _ _ (omega arith) in
      record {
        flags = true ∷ rest.flags;
        all = b ∷ rest.all;
        run = ap (λ u. if u then option_map (λ w. b ∷ w) (visited g.shape.max rest.flags (children b ++ bs)) else None) test ∙ ap (option_map (λ u. b ∷ u)) rest.run;
        leaf = rest.leaf;
      }

  child_is_node : (b : BlockAt) (q : ℕ) → is_split_block g b ≡ true → IsNode (child_block b q)
  unfolding IsNode
  child_is_node b q t = elim (cases_Bool (is_split_block g (child_block b q))) [
    | inl s ↦ inr s
    | inr n ↦ inl (leaf_says g (child_block b q) (child_of_split g valid.tiles (child_block b q) b (is_child b q) t n))
  ]

  grow : (d : ℕ) (b : BlockAt) (bs : List BlockAt) → g.shape.max ≤ b.level + d → IsNode b → Grown bs → Grown (b ∷ bs)
  unfolding IsNode
  grow d b bs h (inl i) rest = grow_leaf b bs i rest
  grow zero b bs h (inr t) rest =
      let under = split_says g b t in
      let deep = under.2 in
      let room = (valid.tiles.inside under.0 under.1).level in
      absurd (omega arith)
  grow (suc d) b bs h (inr t) rest =
      let next : (q : ℕ) (cs : List BlockAt) → Grown cs → Grown (child_block b q ∷ cs) = λ q cs r. grow d (child_block b q) cs (omega arith) (child_is_node b q t) r in
      grow_split b bs t (next 0 _ (next 1 _ (next 2 _ (next 3 _ (next 4 _ (next 5 _ (next 6 _ (next 7 _ rest))))))))

  grow_all : (bs : List BlockAt) → ((b : BlockAt) → IsIn b bs → IsNode b) → Grown bs
  grow_all [] h = record { flags = []; all = []; run = refl; leaf = λ b i. absurd i }
  grow_all (b ∷ bs) h = grow g.shape.max b bs (omega arith) (h b (inl refl)) (grow_all bs (λ c i. h c (inr i)))

  root_node : (b : BlockAt) → IsIn b (start_leaves g.shape) → IsNode b
  unfolding IsNode
  root_node b i =
      let root = start_root g.shape b i in
      elim (cases_Bool (is_split_block g b)) [
        | inl t ↦ inr t
        | inr f ↦
            let leaf = home g valid.tiles valid.shape.max b root.0 f in
            let low = leaf.2.level in
            let level = root.1 in
            inl (subst (λ u. IsIn u g.leaves) (sym (same_level b leaf.0 leaf.2 (omega arith))) leaf.1)
      ]

  pub read_again : Sorted g.leaves → (visited g.shape.max (flags_of g) (start_leaves g.shape) ≡ Some (nodes g.leaves)) × (lowered (flags_of g) (nodes g.leaves) ≡ g.leaves)
  unfolding finest
  read_again order =
      let grown = grow_all (start_leaves g.shape) root_node in
      let says = said g.shape valid.shape grown.flags grown.all grown.run in
      let same : lowered grown.flags grown.all ≡ g.leaves = sorted_same (lowered grown.flags grown.all) g.leaves says.order order grown.leaf (λ b i.
      let q = finest g.shape.max b in
      let room = (valid.tiles.inside b i).level in
      let cover = says.tiles.covered q (domain_finest g.shape b (valid.tiles.inside b i)) refl in
      let one = valid.tiles.once q cover.0 b refl (grown.leaf cover.0 cover.1) i cover.2 (finest_in g.shape.max b room) in
      subst (λ u. IsIn u (lowered grown.flags grown.all)) one cover.1) in
      let flags : grown.flags ≡ flags_of g = sym says.flags_are ∙ ap (λ (u : List BlockAt). flags_of (record { shape = g.shape; leaves = u })) same in
      let all : grown.all ≡ nodes g.leaves = sym says.nodes_are ∙ ap nodes same in
      (sym (ap (λ u. visited g.shape.max u (start_leaves g.shape)) flags) ∙ grown.run ∙ ap (λ u. Some u) all, sym (ap₂ lowered flags all) ∙ same)
