-- Edges of leaf blocks, and their views where a field on their leaf edges is that of another mesh's views.
use Rattle.std.proofs.Common.{◌≡◌, ℕ, zero, suc, ◌+◌, ◌-◌, ◌*◌, ◌<◌, ◌≤◌, ◌⊎◌, Bool, true, false, not, ◌&&◌, ◌||◌, ◌==◌, nat_lt, ℤ, refl, sym, ap, ap₂, ◌∙◌, arith, inl, inr, eq-eqb, ne_eqb}
use Rattle.std.specs.Prelude.{if◌then◌else◌}
use Rattle.std.proofs.lemmas.Bool.{and_parts, cases_Bool, cases_lt, le-ltb, lt-ltb}
use Rattle.amr_num.specs.declared.Axis.{Axis}
use Rattle.amr_num.specs.declared.Axis.TheVariants.{X, Y, Z}
use Rattle.amr_num.specs.declared.BlockAt.{BlockAt}
use Rattle.amr_num.specs.declared.EdgeAt.{EdgeAt}
use Rattle.amr_num.specs.Numbers.{sum_below}
use Rattle.amr_num.proofs.Parts.{sum_below_same}
use Rattle.mesh_model.specs.declared.geometry.Shape.{Shape}
use Rattle.mesh_model.specs.Geometry.Blocks.{InDomain}
use Rattle.mesh_model.specs.Geometry.Canonical.{is_canonical_at, is_canonical_edge}
use Rattle.mesh_model.specs.Geometry.Coordinates.{extent, half_edge, is_periodic, wrapped}
use Rattle.mesh_model.specs.Geometry.Places.{longer_across}
use Rattle.mesh_model.specs.Geometry.Touch.{block_on}
use Rattle.mesh_model.specs.Tree.Kinds.{Grid, is_leaf_block, is_leaf_edge, is_split_edge}
use Rattle.mesh_model.specs.Tree.ValidGrid.{Valid}
use Rattle.mesh_model.specs.Fields.Views.{edge_down, edge_view}
use Rattle.mesh_model.proofs.FieldLemmas.CellKinds.{wide_of}
use Rattle.mesh_model.proofs.FieldLemmas.EdgeSums as edges
use Rattle.mesh_model.proofs.FieldLemmas.Slots.{extent_double}
use Rattle.mesh_model.proofs.FieldLemmas.ValidGrid.{deep_edge, tree}
use Rattle.mesh_model.proofs.GeometryLemmas.Halves.{some_cells}
use Rattle.mesh_model.proofs.GeometryLemmas.ShapeLimits.{cells_some}
use Rattle.mesh_model.proofs.TreeLemmas.Tiling.{leaf_says}
use Rattle.block_tree.specs.Directions.{edge_name}
use Rattle.block_tree.proofs.RoundEdges.{leaf_edge_of_leaf, whole_edge}
use Rattle.leaf_split.proofs.Keeps.{leaf_whole_block}
use Rattle.prolong_op.proofs.EdgeNames.{place_below}

-- ---- canonical names

wrapped_below : (b : Bool) (e p : ℕ) → 0 < e → p ≤ e → (not b || nat_lt (if b && (p == e) then 0 else p) e) ≡ true
wrapped_below false e p some h = refl
wrapped_below true e p some h = elim (cases_lt p e) [
  | inl less ↦ (let off = ne_eqb p e (λ is. absurd (omega (arith, less, is))) in rw off (lt-ltb p e less))
  | inr more ↦ (let on = eq-eqb p e (omega (arith, more, h)) in rw on (lt-ltb 0 e some))
]

canonical_wrapped : (s : Shape) (a : Axis) (l p : ℕ) → 0 < extent s a l → p ≤ extent s a l → is_canonical_at s a l (wrapped (is_periodic s a) (extent s a l) p) ≡ true
unfolding is_canonical_at wrapped
canonical_wrapped s a l p some h = wrapped_below (is_periodic s a) (extent s a l) p some h

-- an edge of a block is named canonically
module _ (s : Shape) (b : BlockAt) (size : (s.n ≡ 4) ⊎ (s.n ≡ 8)) (inside : InDomain s b) where
  on_axis : (a : Axis) (i : ℕ) → i < s.n + 1 → is_canonical_at s a b.level (wrapped (is_periodic s a) (extent s a b.level) (s.n * block_on a b + i)) ≡ true
  on_axis a i h =
      let last = place_below s b size inside.x inside.y inside.z a (s.n - 1) (omega (arith, some_cells s.n size)) in
      canonical_wrapped s a b.level (s.n * block_on a b + i) (omega (arith, last)) (omega (arith, last, h))

  pub edge_canonical : (a : Axis) (i j k : ℕ) → i < longer_across a X s.n → j < longer_across a Y s.n → k < longer_across a Z s.n → is_canonical_edge s (edge_name s a b i j k) ≡ true
  edge_canonical X i j k hi hj hk = ap₂ (λ u v. u && v) (on_axis Y j hj) (on_axis Z k hk)
  edge_canonical Y i j k hi hj hk = ap₂ (λ u v. u && v) (on_axis Z k hk) (on_axis X i hi)
  edge_canonical Z i j k hi hj hk = ap₂ (λ u v. u && v) (on_axis X i hi) (on_axis Y j hj)

twice_below : (p e : ℕ) → nat_lt (2 * p + 0) (2 * e) ≡ nat_lt p e
twice_below p e = elim (cases_lt p e) [
  | inl h ↦ rw (lt-ltb p e h, lt-ltb (2 * p + 0) (2 * e) (omega arith)) refl
  | inr h ↦ rw (le-ltb p e h, le-ltb (2 * p + 0) (2 * e) (omega arith)) refl
]

canonical_double : (s : Shape) (a : Axis) (l p : ℕ) → is_canonical_at s a (suc l) (2 * p + 0) ≡ is_canonical_at s a l p
unfolding is_canonical_at
canonical_double s a l p = ap (λ e. not (is_periodic s a) || nat_lt (2 * p + 0) e) (extent_double s a l) ∙ ap (λ t. not (is_periodic s a) || t) (twice_below p (extent s a l))

-- so is a half of one
canonical_half : (s : Shape) (e : EdgeAt) (h : ℕ) → is_canonical_edge s (half_edge e h) ≡ is_canonical_edge s e
canonical_half s e h = by_axis e.axis e.level e.x e.y e.z
  where
    by_axis : (a : Axis) (l x y z : ℕ) → let e : EdgeAt = record { axis = a; level = l; x = x; y = y; z = z } in is_canonical_edge s (half_edge e h) ≡ is_canonical_edge s e
    by_axis X l x y z = ap₂ (λ u v. u && v) (canonical_double s Y l y) (canonical_double s Z l z)
    by_axis Y l x y z = ap₂ (λ u v. u && v) (canonical_double s Z l z) (canonical_double s X l x)
    by_axis Z l x y z = ap₂ (λ u v. u && v) (canonical_double s X l x) (canonical_double s Y l y)

-- ---- edges that are split or leaf edges

abbrev pub Either : Grid → EdgeAt → Type 0
Either g e = (is_split_edge g e ≡ true) ⊎ (is_leaf_edge g e ≡ true)

not_true : (b : Bool) → not b ≡ true → b ≡ false
not_true true h = absurd cc
not_true false h = refl

whole_leaf : (g : Grid) (e : EdgeAt) → is_leaf_edge g e ≡ true → is_split_edge g e ≡ false
unfolding is_leaf_edge
whole_leaf g e leaf = not_true (is_split_edge g e) (and_parts _ _ leaf).1

module _ (g : Grid) (valid : Valid g) where
  -- each edge of a leaf block is one
  pub either_of_leaf : (a : Axis) (b : BlockAt) → is_leaf_block g b ≡ true → (i j k : ℕ) → i < longer_across a X g.shape.n → j < longer_across a Y g.shape.n → k < longer_across a Z g.shape.n → Either g (edge_name g.shape a b i j k)
  either_of_leaf a b leaf i j k hi hj hk =
      let some = cells_some valid.shape in
      let inside = valid.tiles.inside b (leaf_says g b leaf) in
      let whole = leaf_whole_block g valid b leaf in
      elim (cases_Bool (is_split_edge g (edge_name g.shape a b i j k))) [
        | inl split ↦ inl split
        | inr free ↦ inr (leaf_edge_of_leaf g b some inside a i j k hi hj hk leaf whole ∙ ap not (sym (whole_edge g b some inside a i j k hi hj hk whole) ∙ free))
      ]

  either_half : (e : EdgeAt) (h : ℕ) → h < 2 → is_split_edge g e ≡ true → Either g (half_edge e h)
  either_half e h few split = elim (cases_Bool (is_split_edge g (half_edge e h))) [
    | inl s ↦ inl s
    | inr n ↦ inr (edges.leaf_half g (tree g valid) (wide_of g.shape valid.shape) e h few split n)
  ]

  -- a field that agrees on leaf edges, and that split edges halve, is what the numbers add up to
  module _ (v k : EdgeAt → ℤ) (leaves : (e : EdgeAt) → is_canonical_edge g.shape e ≡ true → is_leaf_edge g e ≡ true → v e ≡ k e) (adds : (e : EdgeAt) → is_split_edge g e ≡ true → k e ≡ sum_below 2 (λ h. k (half_edge e h))) where
    down_either : (d : ℕ) (e : EdgeAt) → d ≡ 10 - e.level → is_canonical_edge g.shape e ≡ true → Either g e → edge_down g v d e ≡ k e
    down_either zero e is c (inl s) = let room = deep_edge g valid e s in absurd (omega arith)
    down_either (suc d) e is c (inl s) =
        edges.down_split g (tree g valid) (wide_of g.shape valid.shape) v d e s
        ∙ sum_below_same 2 _ _ (λ h p. down_either d (half_edge e h) (omega arith) (canonical_half g.shape e h ∙ c) (either_half e h p s))
        ∙ sym (adds e s)
    down_either d e is c (inr t) = edges.down_whole g (tree g valid) (wide_of g.shape valid.shape) v d e (whole_leaf g e t) ∙ leaves e c t

    pub view_is : (e : EdgeAt) → is_canonical_edge g.shape e ≡ true → Either g e → edge_view g v e ≡ k e
    view_is e c (inl s) = edges.view_split g (tree g valid) (wide_of g.shape valid.shape) v e s ∙ down_either (10 - e.level) e refl c (inl s)
    view_is e c (inr t) = edges.view_leaf g (tree g valid) (wide_of g.shape valid.shape) v e (whole_leaf g e t) t ∙ leaves e c t
