-- The halves of a leaf's edges round which finer leaves stand: they are leaf edges, and edges of the children of each split block round them.
use Rattle.std.proofs.Common.{◌≡◌, ℕ, ◌+◌, ◌*◌, ◌/◌, ◌%◌, ◌<◌, ◌≤◌, ◌⊎◌, Bool, true, false, not, ℤ, pos, ◌+ℤ◌, refl, sym, ap, subst, ◌∙◌, arith, inl, inr}
use Rattle.std.specs.Prelude.{if◌then◌else◌}
use Rattle.std.proofs.lemmas.Bool.{cases_Bool}
use Rattle.std.proofs.lemmas.Int.{ints}
use Rattle.amr_num.specs.Numbers.{Within}
use Rattle.amr_num.proofs.Parts.{sum_below_same}
use Rattle.amr_num.specs.declared.Axis.{Axis}
use Rattle.amr_num.specs.declared.Axis.TheVariants.{X, Y, Z}
use Rattle.amr_num.specs.declared.BlockAt.{BlockAt}
use Rattle.amr_num.specs.declared.EdgeAt.{EdgeAt}
use Rattle.mesh_model.specs.Fields.Views.{edge_view}
use Rattle.mesh_model.specs.Geometry.Blocks.{InDomain}
use Rattle.mesh_model.specs.Geometry.Coordinates.{half_edge, next}
use Rattle.mesh_model.specs.Tree.Kinds.{Grid, is_leaf_block, is_leaf_edge, is_split_block, is_split_edge}
use Rattle.mesh_model.specs.Tree.ValidGrid.{Valid}
use Rattle.mesh_model.proofs.FieldLemmas.CellKinds.{wide_of}
use Rattle.mesh_model.proofs.FieldLemmas.EdgeSums as edges
use Rattle.mesh_model.proofs.FieldLemmas.LeafEdges.{edge_top}
use Rattle.mesh_model.proofs.FieldLemmas.ValidGrid.{deep_edge, kinds, tree}
use Rattle.mesh_model.proofs.GeometryLemmas.Halves.{by_size, halved as in_halves, half_below, pair_inside, rest_below}
use Rattle.mesh_model.proofs.GeometryLemmas.ShapeLimits.{cells_some}
use Rattle.mesh_model.proofs.TreeLemmas.Levels.{is_child}
use Rattle.mesh_model.proofs.TreeLemmas.Tests.{refuted}
use Rattle.mesh_model.proofs.TreeLemmas.Tiling.{child_of_split, child_of_whole, domain_child, leaf_says}
use Rattle.block_tree.specs.Directions.{edge_name, lies_round}
use Rattle.block_tree.proofs.Leaves.{split_leaf}
use Rattle.block_tree.proofs.RoundEdges.{leaf_edge_of_leaf, part_of, split_edge_there, whole_edge}
use Rattle.edge_average.specs.EdgeArrays.{IsNear}
use Rattle.edge_average.specs.Laws.{IsOwnView, IsViewOfHalves, LeafEdgeViewsAreHalves, LeafEdgeViewsAreSmall}
use Rattle.edge_average.specs.Lines.{IsEdgePlace, child_on, edge_there, half_with, halved, has_finer, line_part, line_place, octant_at, place_within, sum_of_halves}
use Rattle.edge_average.proofs.LineNames.{child_name, level_there, within_most}
use Rattle.edge_average.proofs.LinePlaces.{at_line, by_line}
use Rattle.edge_average.proofs.NearBlocks.{calm_round, child_inside}

-- ---- the edges of a block by lines

pub part_is : (n : ℕ) (a : Axis) (p q r : ℕ) → part_of n a (line_place a p q r).x (line_place a p q r).y (line_place a p q r).z ≡ line_part n a q r
part_is n X p q r = refl
part_is n Y p q r = refl
part_is n Z p q r = refl

module _ (g : Grid) (b : BlockAt) (some : 0 < g.shape.n) (inside : InDomain g.shape b) (a : Axis) (p q r : ℕ) (place : IsEdgePlace g.shape.n p q r) where
  -- of a block that is not split an edge has a split cell round it where finer leaves stand round its line
  pub split_there : is_split_block g b ≡ false → is_split_edge g (edge_there g.shape a b p q r) ≡ has_finer g a b q r
  unfolding edge_there has_finer
  split_there whole =
      at_line (λ i j k. is_split_edge g (edge_name g.shape a b i j k) ≡ lies_round g false b (part_of g.shape.n a i j k)) a g.shape.n
      (λ i j k hi hj hk. whole_edge g b some inside a i j k hi hj hk whole) p q r place
      ∙ ap (lies_round g false b) (part_is g.shape.n a p q r)

  -- and of a split block each has
  pub self_split : is_split_block g b ≡ true → is_split_edge g (edge_there g.shape a b p q r) ≡ true
  unfolding edge_there
  self_split split =
      at_line (λ i j k. is_split_edge g (edge_name g.shape a b i j k) ≡ true) a g.shape.n
      (λ i j k hi hj hk. split_edge_there g b some inside a i j k hi hj hk split) p q r place

  pub leaf_there : is_leaf_block g b ≡ true → is_split_block g b ≡ false → has_finer g a b q r ≡ false → is_leaf_edge g (edge_there g.shape a b p q r) ≡ true
  unfolding edge_there has_finer
  leaf_there leaf whole calm =
      at_line (λ i j k. is_leaf_edge g (edge_name g.shape a b i j k) ≡ not (lies_round g false b (part_of g.shape.n a i j k))) a g.shape.n
      (λ i j k hi hj hk. leaf_edge_of_leaf g b some inside a i j k hi hj hk leaf whole) p q r place
      ∙ ap (λ d. not (lies_round g false b d)) (part_is g.shape.n a p q r) ∙ ap not calm

-- ---- places in children

pub in_child : (n m r q t : ℕ) → (n ≡ 4) ⊎ (n ≡ 8) → m < n / 2 → r < 2 → q ≤ n → t ≤ n → IsEdgePlace n (2 * m + r) (place_within n q) (place_within n t)
in_child n m r q t size hm hr hq ht = record { along = pair_inside n m r size hm hr; first = within_most n q size hq; second = within_most n t size ht }

pub whole_of : (g : Grid) → Valid g → (b : BlockAt) → is_leaf_block g b ≡ true → is_split_block g b ≡ false
whole_of g valid b leaf = refuted _ (λ split. let none = split_leaf g valid b split in cc)

pub inside_of : (g : Grid) → Valid g → (b : BlockAt) → is_leaf_block g b ≡ true → InDomain g.shape b
inside_of g valid b leaf = valid.tiles.inside b (leaf_says g b leaf)

-- ---- the halves of a leaf's edges

module _ (g : Grid) (valid : Valid g) (b : BlockAt) (leaf : is_leaf_block g b ≡ true) (a : Axis) where
  some : 0 < g.shape.n
  some = cells_some valid.shape

  inside : InDomain g.shape b
  inside = inside_of g valid b leaf

  whole : is_split_block g b ≡ false
  whole = whole_of g valid b leaf

  -- nothing finer stands round the half of an edge with finer leaves round it: they are the next level's
  module _ (p q r : ℕ) (place : IsEdgePlace g.shape.n p q r) (split : is_split_edge g (edge_there g.shape a b p q r) ≡ true) where
    abbrev edge : EdgeAt
    edge = edge_there g.shape a b p q r

    deep : b.level < g.shape.max
    deep = subst (λ l. l < g.shape.max) (level_there g.shape a b p q r) (edge_top g (kinds g valid) edge split)

    pub half_calm : (h : ℕ) → h < 2 → is_split_edge g (half_edge edge h) ≡ false
    unfolding has_finer
    half_calm h hh =
        let n = g.shape.n in
        let size = valid.shape.cells in
        let m = p % (n / 2) in
        let k = p / (n / 2) in
        let o = octant_at a k (half_with n q) (half_with n r) in
        let c = child_on n a b k q r in
        let here : n / 2 * k + m ≡ p = in_halves n p size in
        let name : edge_there g.shape a c (2 * m + h) (place_within n q) (place_within n r) ≡ half_edge edge h =
        child_name g.shape a b k m h q r size (half_below n p size place.along) ∙ ap (λ x. half_edge (edge_there g.shape a b x q r) h) here in
        ap (is_split_edge g) (sym name)
        ∙ split_there g c some (child_inside g valid b inside whole deep o) a (2 * m + h) (place_within n q) (place_within n r) (in_child n m h q r size (rest_below n p size) hh place.first place.second)
        (child_of_whole g c b (is_child b o) whole)
        ∙ calm_round g valid b inside whole deep o (line_part n a (place_within n q) (place_within n r))

    pub half_leaf : (h : ℕ) → h < 2 → is_leaf_edge g (half_edge edge h) ≡ true
    half_leaf h hh = edges.leaf_half g (tree g valid) (wide_of g.shape valid.shape) edge h hh split (half_calm h hh)

    pub view_of_halves : (field : EdgeAt → ℤ) → edge_view g field edge ≡ sum_of_halves field edge
    view_of_halves field =
        let wide = wide_of g.shape valid.shape in
        edges.edge_view_sum g (tree g valid) wide field edge (λ s. deep_edge g valid edge s)
        ∙ sum_below_same 2 (λ h. edge_view g field (half_edge edge h)) (λ h. field (half_edge edge h))
        (λ h hh. edges.view_leaf g (tree g valid) wide field (half_edge edge h) (half_calm h hh) (half_leaf h hh))

  module _ (p q r : ℕ) (place : IsEdgePlace g.shape.n p q r) where
    calm_leaf : is_split_edge g (edge_there g.shape a b p q r) ≡ false → is_leaf_edge g (edge_there g.shape a b p q r) ≡ true
    calm_leaf calm = leaf_there g b some inside a p q r place leaf whole (sym (split_there g b some inside a p q r place whole) ∙ calm)

    own_view : (field : EdgeAt → ℤ) → is_split_edge g (edge_there g.shape a b p q r) ≡ false → edge_view g field (edge_there g.shape a b p q r) ≡ field (edge_there g.shape a b p q r)
    own_view field calm = edges.view_leaf g (tree g valid) (wide_of g.shape valid.shape) field (edge_there g.shape a b p q r) calm (calm_leaf calm)

    -- the view of an edge is its number, and with finer leaves round it the sum of its halves'
    pub view_halved : (field : EdgeAt → ℤ) → edge_view g field (edge_there g.shape a b p q r) ≡ halved g field (edge_there g.shape a b p q r)
    view_halved field =
        let e = edge_there g.shape a b p q r in
        elim (cases_Bool (is_split_edge g e)) [
          | inl split ↦ view_of_halves p q r place split field ∙ ap (λ (u : Bool). if u then sum_of_halves field e else field e) (sym split)
          | inr calm ↦ own_view field calm ∙ ap (λ (u : Bool). if u then sum_of_halves field e else field e) (sym calm)
        ]

-- ---- the laws

module _ (g : Grid) (field : EdgeAt → ℤ) (b : BlockAt) (a : Axis) (valid : Valid g) (leaf : is_leaf_block g b ≡ true) where
  one_of_two : (p q r : ℕ) → IsEdgePlace g.shape.n p q r → let e = edge_there g.shape a b p q r in IsOwnView g field e ⊎ IsViewOfHalves g field e
  one_of_two p q r place = elim (cases_Bool (is_split_edge g (edge_there g.shape a b p q r))) [
    | inl split ↦ inr (record {
      split = split;
      leaves = half_leaf g valid b leaf a p q r place split;
      view = view_of_halves g valid b leaf a p q r place split field;
    })
    | inr calm ↦ inl (record { leaf = calm_leaf g valid b leaf a p q r place calm; view = own_view g valid b leaf a p q r place field calm })
  ]

pub views_are_halves : LeafEdgeViewsAreHalves
unfolding edge_there
views_are_halves g field b a i j k valid leaf hi hj hk =
    by_line (λ i j k. let e = edge_name g.shape a b i j k in IsOwnView g field e ⊎ IsViewOfHalves g field e) a g.shape.n (one_of_two g field b a valid leaf) i j k hi hj hk

two_small : (most : ℕ) (v w : ℤ) → Within most v → Within most w → Within (2 * most) ((pos 0 +ℤ v) +ℤ w)
two_small most v w hv hw = omega (arith, ints)

pub views_are_small : LeafEdgeViewsAreSmall
views_are_small g field most b a i j k valid leaf small hi hj hk =
    let e = edge_name g.shape a b i j k in
    elim (views_are_halves g field b a i j k valid leaf hi hj hk) [
      | inl own ↦ subst (Within (2 * most)) (sym own.view) (let one = small e own.leaf in omega (arith, ints, one))
      | inr halves ↦ subst (Within (2 * most)) (sym halves.view)
          (two_small most (field (half_edge e 0)) (field (half_edge e 1)) (small (half_edge e 0) (halves.leaves 0 (omega arith))) (small (half_edge e 1) (halves.leaves 1 (omega arith))))
    ]

-- ---- the children of a split block round a line

module _ (g : Grid) (valid : Valid g) (b : BlockAt) (leaf : is_leaf_block g b ≡ true) (a : Axis) (q r : ℕ) (hq : q ≤ g.shape.n) (hr : r ≤ g.shape.n) (finer : has_finer g a b q r ≡ true)
    (d : BlockAt) (inside : InDomain g.shape d) (split : is_split_block g d ≡ true) (deep : d.level < g.shape.max) (u v : ℕ) (hu : u ≤ g.shape.n) (hv : v ≤ g.shape.n)
    (names : (p : ℕ) → edge_there g.shape a d p u v ≡ edge_there g.shape a b p q r) where
  abbrev n : ℕ
  n = g.shape.n

  size : (n ≡ 4) ⊎ (n ≡ 8)
  size = valid.shape.cells

  pub line_split : (p : ℕ) → p < n → is_split_edge g (edge_there g.shape a b p q r) ≡ true
  line_split p hp =
      split_there g b (cells_some valid.shape) (inside_of g valid b leaf) a p q r (record { along = hp; first = hq; second = hr }) (whole_of g valid b leaf) ∙ finer

  half_first : (h : ℕ) → h < 2 → n / 2 * h + 0 < n
  half_first h hh = by_size (λ m. m / 2 * h + 0 < m) n size (omega (arith, hh)) (omega (arith, hh))

  half_some : 0 < n / 2
  half_some = by_size (λ m. 0 < m / 2) n size (omega arith) (omega arith)

  module _ (h : ℕ) (hh : h < 2) where
    abbrev child : BlockAt
    child = child_on n a d h u v

    child_there : InDomain g.shape child
    child_there = domain_child g.shape child d (is_child d (octant_at a h (half_with n u) (half_with n v))) inside (omega (arith, deep))

    first_place : IsEdgePlace n (2 * 0 + 0) (place_within n u) (place_within n v)
    first_place = in_child n 0 0 u v size half_some (omega arith) hu hv

    first_calm : is_split_edge g (edge_there g.shape a child (2 * 0 + 0) (place_within n u) (place_within n v)) ≡ false
    first_calm =
        let p = n / 2 * h + 0 in
        ap (is_split_edge g) (child_name g.shape a d h 0 0 u v size hh ∙ ap (λ e. half_edge e 0) (names p))
        ∙ half_calm g valid b leaf a p q r (record { along = half_first h hh; first = hq; second = hr }) (line_split p (half_first h hh)) 0 (omega arith)

    child_whole : is_split_block g child ≡ false
    child_whole = refuted _ (λ is.
        let split_first = self_split g child (cells_some valid.shape) child_there a (2 * 0 + 0) (place_within n u) (place_within n v) first_place is in
        let calm = first_calm in
        cc)

    near_leaf : is_leaf_block g child ≡ true
    near_leaf = child_of_split g valid.tiles child d (is_child d (octant_at a h (half_with n u) (half_with n v))) split child_whole

    near_calm : has_finer g a child (place_within n u) (place_within n v) ≡ false
    near_calm = sym (split_there g child (cells_some valid.shape) child_there a (2 * 0 + 0) (place_within n u) (place_within n v) first_place child_whole) ∙ first_calm

  pub is_near : IsNear g a d u v
  is_near = record { leaf = near_leaf; calm = near_calm }
