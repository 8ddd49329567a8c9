-- The numbers on lines of leaves, the sums that are read from finer ones, and a world of which a line has taken them.
use Rattle.std.proofs.Common.{◌≡◌, ℕ, ◌+◌, ◌*◌, ◌/◌, ◌^◌, ◌<◌, ◌≤◌, Bool, true, false, List, length, ℤ, sym, ap, subst, ◌∙◌, arith}
use Rattle.std.specs.Prelude.{if◌then◌else◌}
use Rattle.amr_num.specs.Numbers.{Within, at}
use Rattle.amr_num.proofs.Parts.{sum_below_same}
use Rattle.amr_num.specs.declared.Axis.{Axis}
use Rattle.amr_num.specs.declared.BlockAt.{BlockAt}
use Rattle.amr_num.specs.declared.EdgeAt.{EdgeAt}
use Rattle.mesh_model.specs.declared.geometry.Shape.{Shape}
use Rattle.mesh_model.specs.Fields.ArrayPlaces.{IsSize}
use Rattle.mesh_model.specs.Fields.Arrays.{HasVar, var_length}
use Rattle.mesh_model.specs.Fields.FinePlaces.{edges_in}
use Rattle.mesh_model.specs.Fields.Ranks.{IsFit, IsSized, WorldState, world_with}
use Rattle.mesh_model.specs.Geometry.Coordinates.{half_edge}
use Rattle.mesh_model.specs.Tree.Kinds.{Grid, is_leaf_block, is_leaf_edge}
use Rattle.mesh_model.specs.Tree.ValidGrid.{Valid}
use Rattle.mesh_model.proofs.FieldLemmas.Worlds.{fit_after, has_array, only_of, written_in}
use Rattle.mesh_model.proofs.GeometryLemmas.ShapeLimits.{cells_some}
use Rattle.block_tree.specs.Directions.{edge_name}
use Rattle.block_tree.specs.Numbered.{IsNode, IsNumberOf, block_at}
use Rattle.rank_world.specs.Holding.{IsLeafNode, LeafEdgesHold, edge_array, edge_var}
use Rattle.edge_average.specs.EdgeArrays.{IsNear, LineHolds, LineTaken, edge_stored}
use Rattle.edge_average.specs.EdgeSums.{IsLineSet, edge_at, pair_at}
use Rattle.edge_average.specs.Lines.{IsEdgePlace, child_on, edge_there, has_finer, place_within, sum_of_halves}
use Rattle.edge_average.proofs.HalfEdges.{in_child, inside_of, leaf_there, split_there, whole_of}
use Rattle.edge_average.proofs.LineNames.{child_name}
use Rattle.edge_average.proofs.LinePlaces.{at_line}

-- ---- lines round which nothing finer stands

module _ (work : Bool) (w : WorldState) (valid : Valid w.told.grid) (node : ℕ) (leaf : IsLeafNode w.told.grid node) (a : Axis) (s t : ℕ) (calm : has_finer w.told.grid a (block_at w.told.grid node) s t ≡ false)
    (field : EdgeAt → ℤ) (holds : LeafEdgesHold work w field) where
  abbrev grid : Grid
  grid = w.told.grid

  -- their edges are leaf edges, and have the field
  pub leaf_has : (p : ℕ) → IsEdgePlace grid.shape.n p s t → edge_stored work w a node p s t ≡ field (edge_there grid.shape a (block_at grid node) p s t)
  unfolding edge_at edge_there
  leaf_has p place =
      let b = block_at grid node in
      let xs = edge_array work w a node in
      at_line (λ i j k. is_leaf_edge grid (edge_name grid.shape a b i j k) ≡ true → edges_in grid a xs (grid.shape.g + i) (grid.shape.g + j) (grid.shape.g + k) ≡ field (edge_name grid.shape a b i j k))
      a grid.shape.n (holds node a leaf).at p s t place
      (leaf_there grid b (cells_some valid.shape) (inside_of grid valid b leaf.leaf) a p s t place leaf.leaf (whole_of grid valid b leaf.leaf) calm)

  pub calm_holds : s ≤ grid.shape.n → t ≤ grid.shape.n → LineHolds work w field node a s t
  calm_holds hs ht = record {
    at = λ p hp.
        let b = block_at grid node in
        let place : IsEdgePlace grid.shape.n p s t = record { along = hp; first = hs; second = ht } in
        let e = edge_there grid.shape a b p s t in
        leaf_has p place
        ∙ ap (λ (u : Bool). if u then sum_of_halves field e else field e)
        (sym (split_there grid b (cells_some valid.shape) (inside_of grid valid b leaf.leaf) a p s t place (whole_of grid valid b leaf.leaf) ∙ calm));
  }

-- ---- the children in which the halves of a line lie

module _ (work : Bool) (w : WorldState) (valid : Valid w.told.grid) (a : Axis) (d : BlockAt) (u v : ℕ) (hu : u ≤ w.told.grid.shape.n) (hv : v ≤ w.told.grid.shape.n) (near : IsNear w.told.grid a d u v)
    (h : ℕ) (hh : h < 2) (k : ℕ) (is : IsNumberOf w.told.grid (child_on w.told.grid.shape.n a d h u v) k) where
  abbrev g : Grid
  g = w.told.grid

  abbrev m : ℕ
  m = g.shape.n

  near_node : IsLeafNode g k
  near_node = record { there = is.there; leaf = ap (is_leaf_block g) is.block ∙ near.leaf h hh }

  near_calm : has_finer g a (block_at g k) (place_within m u) (place_within m v) ≡ false
  near_calm = ap (λ c. has_finer g a c (place_within m u) (place_within m v)) is.block ∙ near.calm h hh

  -- the sum of two edges of the child is that of the halves of one of the line's
  pair_there : (field : EdgeAt → ℤ) → LeafEdgesHold work w field → (i : ℕ) → i < m / 2 →
      pair_at m g.shape.g a (edge_array work w a k) i (place_within m u) (place_within m v) ≡ sum_of_halves field (edge_there g.shape a d (m / 2 * h + i) u v)
  unfolding pair_at
  pair_there field holds i hi =
      sum_below_same 2 (λ r. edge_stored work w a k (2 * i + r) (place_within m u) (place_within m v)) (λ r. field (half_edge (edge_there g.shape a d (m / 2 * h + i) u v) r))
      (λ r hr.
      leaf_has work w valid k near_node a (place_within m u) (place_within m v) near_calm field holds (2 * i + r) (in_child m i r u v valid.shape.cells hi hr hu hv)
      ∙ ap field (ap (λ c. edge_there g.shape a c (2 * i + r) (place_within m u) (place_within m v)) is.block ∙ child_name g.shape a d h i r u v valid.shape.cells hh))

  pub pair_near : (n e : ℕ) → IsSized n e g.shape → (field : EdgeAt → ℤ) → LeafEdgesHold work w field → (i : ℕ) → i < n / 2 →
      pair_at n e a (edge_array work w a k) i (place_within n u) (place_within n v) ≡ sum_of_halves field (edge_there g.shape a d (n / 2 * h + i) u v)
  pair_near n e sized field holds =
      let Given : ℕ → ℕ → Type 0 = λ x y. (i : ℕ) → i < x / 2 → pair_at x y a (edge_array work w a k) i (place_within x u) (place_within x v) ≡ sum_of_halves field (edge_there g.shape a d (x / 2 * h + i) u v) in
      subst (λ x. Given x e) sized.cells (subst (λ y. Given m y) sized.guards (pair_there field holds))

-- ---- a line of a leaf has taken the sums

module _ (work : Bool) (w : WorldState) (node : ℕ) (a : Axis) (s t : ℕ) (d : BlockAt) (u v : ℕ) (sums ys : List ℤ) (there : IsNode w.told.grid node) (declared : HasVar w.told.counts (edge_var work a)) where
  abbrev after : WorldState
  after = world_with w 0 (edge_var work a) node ys

  abbrev Given : ℕ → ℕ → Type 0
  Given n e = IsSize n e → IsFit n e w → length ys ≡ var_length n e (edge_var work a) →
      IsLineSet n e a s t (λ p. at sums p) (edge_array work w a node) ys →
      ((p : ℕ) → p < n → Within (2 ^ 58) (at sums p)) →
      ((field : EdgeAt → ℤ) → LeafEdgesHold work w field → (p : ℕ) → p < n → at sums p ≡ sum_of_halves field (edge_there w.told.grid.shape a d p u v)) →
      LineTaken work n e w after node a s t d u v

  taken_there : Given w.told.grid.shape.n w.told.grid.shape.g
  taken_there size fit long set small are =
      let n = w.told.grid.shape.n in
      let e = w.told.grid.shape.g in
      let has = has_array n e w (edge_var work a) node fit there declared in
      let is : edge_array work after a node ≡ ys = written_in w (edge_var work a) node ys fit.one n e size fit has long in
      let number : (p q r : ℕ) → edge_stored work after a node p q r ≡ edge_at n e a ys p q r = λ p q r. ap (λ xs. edge_at n e a xs p q r) is in
      let here : (p : ℕ) → p < n → edge_stored work after a node p s t ≡ at sums p = λ p hp. number p s t ∙ set.here p hp in
      record {
        only = only_of w (edge_var work a) node ys fit.one;
        fit = fit_after w (edge_var work a) node ys fit.one n e size fit has;
        others = λ p q r place apart. number p q r ∙ set.others p q r place apart;
        within = λ p hp. subst (Within (2 ^ 58)) (sym (here p hp)) (small p hp);
        sums = λ field holds p hp. here p hp ∙ are field holds p hp;
      }

  pub line_taken : (n e : ℕ) → IsSized n e w.told.grid.shape → Given n e
  line_taken n e sized = subst (λ m. Given m e) sized.cells (subst (λ k. Given w.told.grid.shape.n k) sized.guards taken_there)

-- ---- the same in the words of the calls

module _ (work : Bool) (w : WorldState) (valid : Valid w.told.grid) (n e : ℕ) (sized : IsSized n e w.told.grid.shape) (a : Axis) (d : BlockAt) (u v : ℕ) (hu : u ≤ n) (hv : v ≤ n) (near : IsNear w.told.grid a d u v)
    (h : ℕ) (hh : h < 2) (k : ℕ) (is : IsNumberOf w.told.grid (child_on n a d h u v) k) (x : Axis) (q r : ℕ) (on_axis : x ≡ a) (on_first : q ≡ place_within n u) (on_second : r ≡ place_within n v) where
  abbrev s : Shape
  s = w.told.grid.shape

  first_most : u ≤ s.n
  first_most = subst (λ m. u ≤ m) (sym sized.cells) hu

  second_most : v ≤ s.n
  second_most = subst (λ m. v ≤ m) (sym sized.cells) hv

  number : IsNumberOf w.told.grid (child_on s.n a d h u v) k
  number = subst (λ m. IsNumberOf w.told.grid (child_on m a d h u v) k) (sym sized.cells) is

  pub near_pair : (field : EdgeAt → ℤ) → LeafEdgesHold work w field → (i : ℕ) → i < n / 2 →
      pair_at n e x (edge_array work w x k) i q r ≡ sum_of_halves field (edge_there s a d (n / 2 * h + i) u v)
  near_pair field holds i hi =
      ap (λ y. pair_at n e y (edge_array work w y k) i q r) on_axis ∙ ap (λ y. pair_at n e a (edge_array work w a k) i y r) on_first ∙ ap (λ y. pair_at n e a (edge_array work w a k) i (place_within n u) y) on_second
      ∙ pair_near work w valid a d u v first_most second_most near h hh k number n e sized field holds i hi

pub next_half : (h k : ℕ) → h * (k + 1) ≡ h * k + h
next_half h k = grind arith
