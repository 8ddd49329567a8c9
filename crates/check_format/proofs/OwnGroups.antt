-- Faces and edges, of which each stands under one leaf.
use Rattle.std.proofs.Common.{◌≡◌, ℕ, zero, suc, ◌+◌, ◌*◌, ◌^◌, ◌<◌, ◌≤◌, Bool, true, false, not, ◌&&◌, ◌||◌, ◌==◌, refl, sym, ap, ap₂, subst, ◌∙◌, arith, inl, inr, List, [], map, filter, Option, Some, None, is_some, eqb-true, eq-eqb}
use Rattle.std.specs.Prelude.{flat_map, if◌then◌else◌}
use Rattle.std.proofs.lemmas.Bool.{cases_Bool, cases_lt}
use Rattle.amr_num.specs.declared.Axis.{Axis}
use Rattle.amr_num.specs.declared.Axis.TheVariants.{X, Y, Z}
use Rattle.amr_num.specs.declared.BlockAt.{BlockAt}
use Rattle.amr_num.specs.declared.CellAt.{CellAt}
use Rattle.amr_num.specs.declared.FaceAt.{FaceAt}
use Rattle.amr_num.specs.declared.EdgeAt.{EdgeAt}
use Rattle.block_tree.specs.Beside.{block_beside, block_moved, finer_beside, if_split}
use Rattle.block_tree.specs.Directions.{block_of_three, block_toward, has_edges, lies_round, lies_toward, passes}
use Rattle.block_tree.specs.SideFaces.{face_name, side_position}
use Rattle.block_tree.specs.declared.directions.Direction.{Direction}
use Rattle.block_tree.proofs.RoundEdges.{leaf_edge_of_leaf}
use Rattle.block_tree.proofs.SideFaces.{calm_face, calm_side, cell, high_inside, low_inside, split_face}
use Rattle.mesh_model.specs.declared.geometry.Shape.{Shape}
use Rattle.mesh_model.specs.Geometry.Blocks.{InDomain}
use Rattle.mesh_model.specs.Geometry.Canonical.{canonical_edge, canonical_face, is_canonical, is_canonical_at, is_canonical_edge}
use Rattle.mesh_model.specs.Geometry.Coordinates.{edge_of, extent, face_of, is_periodic, is_same_edge, is_same_face, wrapped}
use Rattle.mesh_model.specs.Geometry.Limits.{IsShape}
use Rattle.mesh_model.specs.Geometry.Places.{block_edges, block_faces, box_list, in_block}
use Rattle.mesh_model.specs.Images.Image.{leaf_edges, leaf_faces}
use Rattle.mesh_model.specs.Images.Keyed.{fresh}
use Rattle.mesh_model.specs.Tree.Kinds.{Grid, is_leaf, is_leaf_block, is_leaf_edge, is_leaf_face, is_split_block, is_split_face}
use Rattle.mesh_model.specs.Tree.Order.{IsIn, Sorted}
use Rattle.mesh_model.specs.Tree.ValidGrid.{Valid}
use Rattle.mesh_model.proofs.FieldLemmas.BlockOctants.{block_of_cell}
use Rattle.mesh_model.proofs.FieldLemmas.LeafFaces.{Either, seen_above, seen_below, whole_leaf_face}
use Rattle.mesh_model.proofs.GeometryLemmas.ShapeLimits.{cells_some, extent_some}
use Rattle.mesh_model.proofs.TreeLemmas.Tests.{and_both, and_right, both_false, not_true, or_right}
use Rattle.mesh_model.proofs.TreeLemmas.Tiling.{leaf_shows}
use Rattle.check_format.specs.Own.{EdgesByLeaves, FacesByLeaves, Place, axes, edge_at, edge_stands, face_at, face_stands, is_own, own_edges, own_faces, part_at, place, places_of, step_at}
use Rattle.check_format.proofs.Again.{edge_says, edge_shows, face_says, face_shows}
use Rattle.check_format.proofs.Canonical.{named_low, reach}
use Rattle.check_format.proofs.InOrder.{map_box}
use Rattle.check_format.proofs.OwnPlaces.{KnownByBlocks, by_leaves}
use Rattle.check_format.proofs.Sharing.{Choice, Chosen, IsPlace, named}
use Rattle.check_format.proofs.Taking.{leaf_whole}

-- ---- names

extent_is : (r n l : ℕ) → r * n * 2 ^ l ≡ r * 2 ^ l * n
extent_is r n l = grind arith

pub face_named : (s : Shape) (b : BlockAt) (a : Axis) (p : Place) → face_at s b a p ≡ face_of a (named s (face_stands a) b p)
face_named s b X p = ap (λ e. face_of X (record { level = b.level; x = wrapped (is_periodic s X) e (s.n * b.x + p.x); y = s.n * b.y + p.y; z = s.n * b.z + p.z })) (extent_is s.rx s.n b.level)
face_named s b Y p = ap (λ e. face_of Y (record { level = b.level; x = s.n * b.x + p.x; y = wrapped (is_periodic s Y) e (s.n * b.y + p.y); z = s.n * b.z + p.z })) (extent_is s.ry s.n b.level)
face_named s b Z p = ap (λ e. face_of Z (record { level = b.level; x = s.n * b.x + p.x; y = s.n * b.y + p.y; z = wrapped (is_periodic s Z) e (s.n * b.z + p.z) })) (extent_is s.rz s.n b.level)

pub edge_named : (s : Shape) (b : BlockAt) (a : Axis) (p : Place) → edge_at s b a p ≡ edge_of a (named s (edge_stands a) b p)
edge_named s b X p =
    ap₂ (λ e u. edge_of X (record { level = b.level; x = s.n * b.x + p.x; y = wrapped (is_periodic s Y) e (s.n * b.y + p.y); z = wrapped (is_periodic s Z) u (s.n * b.z + p.z) })) (extent_is s.ry s.n b.level) (extent_is s.rz s.n b.level)
edge_named s b Y p =
    ap₂ (λ e u. edge_of Y (record { level = b.level; x = wrapped (is_periodic s X) e (s.n * b.x + p.x); y = s.n * b.y + p.y; z = wrapped (is_periodic s Z) u (s.n * b.z + p.z) })) (extent_is s.rx s.n b.level) (extent_is s.rz s.n b.level)
edge_named s b Z p =
    ap₂ (λ e u. edge_of Z (record { level = b.level; x = wrapped (is_periodic s X) e (s.n * b.x + p.x); y = wrapped (is_periodic s Y) u (s.n * b.y + p.y); z = s.n * b.z + p.z })) (extent_is s.rx s.n b.level) (extent_is s.ry s.n b.level)

face_parted : (a b : Axis) (c d : CellAt) → face_of a c ≡ face_of b d → (a ≡ b) × (c ≡ d)
face_parted a b c d is = (ap (λ (f : FaceAt). f.axis) is, λ i. record { level = (is i).level; x = (is i).x; y = (is i).y; z = (is i).z })

edge_parted : (a b : Axis) (c d : CellAt) → edge_of a c ≡ edge_of b d → (a ≡ b) × (c ≡ d)
edge_parted a b c d is = (ap (λ (e : EdgeAt). e.axis) is, λ i. record { level = (is i).level; x = (is i).x; y = (is i).y; z = (is i).z })

-- ---- names are canonical

canonical_end : (s : Shape) (a : Axis) (l q : ℕ) → 0 < extent s a l → q ≤ extent s a l → is_canonical_at s a l (wrapped (is_periodic s a) (extent s a l) q) ≡ true
unfolding is_canonical_at
canonical_end s a l q some le = named_low (is_periodic s a) (extent s a l) q some le

module _ (s : Shape) (shape : IsShape s) (b : BlockAt) (inside : InDomain s b) (p : Place) where
  on_x : p.x ≤ s.n → is_canonical_at s X b.level (wrapped (is_periodic s X) (extent s X b.level) (s.n * b.x + p.x)) ≡ true
  on_x le = canonical_end s X b.level _ (extent_some shape X b.level) (reach s.n s.rx b.level b.x p.x inside.x le)

  on_y : p.y ≤ s.n → is_canonical_at s Y b.level (wrapped (is_periodic s Y) (extent s Y b.level) (s.n * b.y + p.y)) ≡ true
  on_y le = canonical_end s Y b.level _ (extent_some shape Y b.level) (reach s.n s.ry b.level b.y p.y inside.y le)

  on_z : p.z ≤ s.n → is_canonical_at s Z b.level (wrapped (is_periodic s Z) (extent s Z b.level) (s.n * b.z + p.z)) ≡ true
  on_z le = canonical_end s Z b.level _ (extent_some shape Z b.level) (reach s.n s.rz b.level b.z p.z inside.z le)

  face_canonical : (a : Axis) → IsPlace s.n (face_stands a) p → is_canonical s (face_at s b a p) ≡ true
  face_canonical X h = let few = h.x in on_x (omega arith)
  face_canonical Y h = let few = h.y in on_y (omega arith)
  face_canonical Z h = let few = h.z in on_z (omega arith)

  edge_canonical : (a : Axis) → IsPlace s.n (edge_stands a) p → is_canonical_edge s (edge_at s b a p) ≡ true
  edge_canonical X h = let y = h.y in let z = h.z in and_both _ _ (on_y (omega arith)) (on_z (omega arith))
  edge_canonical Y h = let x = h.x in let z = h.z in and_both _ _ (on_z (omega arith)) (on_x (omega arith))
  edge_canonical Z h = let x = h.x in let y = h.y in and_both _ _ (on_x (omega arith)) (on_y (omega arith))

-- ---- faces by the blocks beside

-- the direction with a step on one axis
abbrev toward : Axis → ℕ → Direction
toward X s = record { x = s; y = 1; z = 1 }
toward Y s = record { x = 1; y = s; z = 1 }
toward Z s = record { x = 1; y = 1; z = s }

abbrev side_step : Bool → ℕ
side_step false = 0
side_step true = 2

split_or_none : (u : Bool) (d : BlockAt) → u ≡ is_some (if u then Some d else None)
split_or_none true d = refl
split_or_none false d = refl

module _ (g : Grid) (b : BlockAt) where
  by_x : (o : Option ℕ) → passes (is_split_block g) (block_of_three b.level o (Some b.y) (Some b.z)) ≡ is_some (if_split g (block_moved X o b))
  by_x None = refl
  by_x (Some p) = split_or_none _ _

  by_y : (o : Option ℕ) → passes (is_split_block g) (block_of_three b.level (Some b.x) o (Some b.z)) ≡ is_some (if_split g (block_moved Y o b))
  by_y None = refl
  by_y (Some p) = split_or_none _ _

  by_z : (o : Option ℕ) → passes (is_split_block g) (block_of_three b.level (Some b.x) (Some b.y) o) ≡ is_some (if_split g (block_moved Z o b))
  by_z None = refl
  by_z (Some p) = split_or_none _ _

  -- towards a side lies a split block where finer leaves stand beside it
  finer_toward : (a : Axis) (high : Bool) → lies_toward g false b (toward a (side_step high)) ≡ is_some (finer_beside g a high b)
  unfolding lies_toward block_toward finer_beside block_beside
  finer_toward X false = by_x _
  finer_toward X true = by_x _
  finer_toward Y false = by_y _
  finer_toward Y true = by_y _
  finer_toward Z false = by_z _
  finer_toward Z true = by_z _

  nowhere : (d : Direction) → d ≡ record { x = 1; y = 1; z = 1 } → is_split_block g b ≡ false → lies_toward g false b d ≡ false
  unfolding lies_toward block_toward
  nowhere d none whole = ap (λ (u : Direction). passes (is_split_block g) (block_toward g.shape u b)) none ∙ whole

module _ (g : Grid) (valid : Valid g) (a : Axis) (b : BlockAt) (i : IsIn b g.leaves) (s t : ℕ) (hs : s < g.shape.n) (ht : t < g.shape.n) where
  abbrev n : ℕ
  n = g.shape.n

  some : 0 < n
  some = cells_some valid.shape

  inside : InDomain g.shape b
  inside = valid.tiles.inside b i

  whole : is_split_block g b ≡ false
  whole = leaf_whole g valid b i

  abbrev face : ℕ → FaceAt
  face p = face_name g.shape a b p s t

  at_side : (high : Bool) (o : Option BlockAt) → finer_beside g a high b ≡ o → is_split_face g (face (side_position n high)) ≡ is_some o
  at_side high None is = calm_side g a b some inside whole s t hs ht high is
  at_side high (Some d) is = split_face g a b some inside whole s t hs ht high d is

  side_is : (high : Bool) (p u : ℕ) → p ≡ side_position n high → u ≡ side_step high → is_split_face g (face p) ≡ lies_toward g false b (toward a u)
  side_is high p u at step =
      ap (λ m. is_split_face g (face m)) at ∙ at_side high (finer_beside g a high b) refl ∙ sym (finer_toward g b a high)
      ∙ ap (λ m. lies_toward g false b (toward a m)) (sym step)

  none_toward : (a : Axis) → toward a 1 ≡ record { x = 1; y = 1; z = 1 }
  none_toward X = refl
  none_toward Y = refl
  none_toward Z = refl

  inner_is : (p u : ℕ) → 0 < p → p < n → u ≡ 1 → is_split_face g (face p) ≡ lies_toward g false b (toward a u)
  inner_is p u low high step =
      calm_face g a b some inside whole s t hs ht p (omega arith) (λ side is. elim_side side is)
      ∙ sym (nowhere g b (toward a u) (ap (toward a) step ∙ none_toward a) whole)
    where
      elim_side : (side : Bool) → p ≡ side_position n side → finer_beside g a side b ≡ None
      elim_side false is = absurd (omega arith)
      elim_side true is = absurd (omega arith)

  -- a face of a leaf is split where a split block lies towards it
  split_is : (p : ℕ) → p ≤ n → is_split_face g (face p) ≡ lies_toward g false b (toward a (step_at n true p))
  split_is p le = elim (cases_Bool (p == 0)) [
    | inl low ↦ side_is false p (step_at n true p) (eqb-true p 0 low) (ap (λ u. if u then 0 else (if p == n then 2 else 1)) low)
    | inr up ↦ elim (cases_Bool (p == n)) [
      | inl high ↦ side_is true p (step_at n true p) (eqb-true p n high) (ap₂ (λ u v. if u then 0 else (if v then 2 else 1)) up high)
      | inr between ↦
          inner_is p (step_at n true p) (elim (cases_lt 0 p) [ inl more ↦ more | inr none ↦ (let is = eq-eqb p 0 (omega arith) in absurd cc) ])
          (elim (cases_lt p n) [ inl less ↦ less | inr more ↦ (let is = eq-eqb p n (omega arith) in absurd cc) ])
          (ap₂ (λ u v. if u then 0 else (if v then 2 else 1)) up between)
    ]
  ]

  leaf_cell : (a : Axis) (p : ℕ) → p < n → is_leaf g (cell n a b p s t) ≡ true
  leaf_cell X p h = ap (is_leaf_block g) (block_of_cell n b p s t h hs ht) ∙ leaf_shows g b i
  leaf_cell Y p h = ap (is_leaf_block g) (block_of_cell n b s p t hs h ht) ∙ leaf_shows g b i
  leaf_cell Z p h = ap (is_leaf_block g) (block_of_cell n b s t p hs ht h) ∙ leaf_shows g b i

  either : (p : ℕ) → p ≤ n → Either g (face p)
  either zero le = seen_above g _ (cell n a b 0 s t) (high_inside g.shape a b s t some inside 0 some) (leaf_cell a 0 some)
  either (suc p) le = seen_below g _ (cell n a b p s t) (low_inside g.shape a b s t some inside p le) (leaf_cell a p le)

  leaf_or_split : (f : FaceAt) → Either g f → is_split_face g f ≡ false → is_leaf_face g f ≡ true
  unfolding Either
  leaf_or_split f (inl split) none = cc
  leaf_or_split f (inr leaf) none = leaf

  pub leaf_says_calm : (p : ℕ) → p ≤ n → is_leaf_face g (face p) ≡ true → lies_toward g false b (toward a (step_at n true p)) ≡ false
  leaf_says_calm p le leaf = sym (split_is p le) ∙ whole_leaf_face g (face p) leaf

  pub calm_says_leaf : (p : ℕ) → p ≤ n → lies_toward g false b (toward a (step_at n true p)) ≡ false → is_leaf_face g (face p) ≡ true
  calm_says_leaf p le calm = leaf_or_split (face p) (either p le) (split_is p le ∙ calm)

-- ---- a place's choices of directions

middle : (u w : Bool) → ((u || true) || w) ≡ true
middle true w = refl
middle false w = refl

one_of_one : (s : ℕ) → Choice s 1 → s ≡ 1
one_of_one s (inl is) = is
one_of_one s (inr is) = is

the_choice : (t : Direction) → Chosen t t
the_choice t = record { x = inr refl; y = inr refl; z = inr refl }

module _ (g : Grid) (valid : Valid g) (b : BlockAt) (i : IsIn b g.leaves) where
  calm_at : (d e : Direction) → d ≡ e → lies_toward g false b e ≡ false → lies_toward g false b d ≡ false
  calm_at d e is calm = ap (lies_toward g false b) is ∙ calm

  same_steps : (d e : Direction) → d.x ≡ e.x → d.y ≡ e.y → d.z ≡ e.z → d ≡ e
  same_steps d e x y z = λ i. record { x = x i; y = y i; z = z i }

  here : (d : Direction) → d.x ≡ 1 → d.y ≡ 1 → d.z ≡ 1 → lies_toward g false b d ≡ false
  here d x y z = nowhere g b d (same_steps d _ x y z) (leaf_whole g valid b i)

  -- ---- faces

  one_step : (a : Axis) (s : ℕ) (d : Direction) → Chosen d (toward a s) → lies_toward g false b (toward a s) ≡ false → lies_toward g false b d ≡ false
  one_step X s d c calm = elim c.x [
    | inl one ↦ here d one (one_of_one d.y c.y) (one_of_one d.z c.z)
    | inr is ↦ calm_at d (toward X s) (same_steps d _ is (one_of_one d.y c.y) (one_of_one d.z c.z)) calm
  ]
  one_step Y s d c calm = elim c.y [
    | inl one ↦ here d (one_of_one d.x c.x) one (one_of_one d.z c.z)
    | inr is ↦ calm_at d (toward Y s) (same_steps d _ (one_of_one d.x c.x) is (one_of_one d.z c.z)) calm
  ]
  one_step Z s d c calm = elim c.z [
    | inl one ↦ here d (one_of_one d.x c.x) (one_of_one d.y c.y) one
    | inr is ↦ calm_at d (toward Z s) (same_steps d _ (one_of_one d.x c.x) (one_of_one d.y c.y) is) calm
  ]

  -- a face by its position along its axis and its places across
  record AsFace (a : Axis) (p : Place) : Type 0 where
    at : ℕ
    first : ℕ
    second : ℕ
    most : at ≤ g.shape.n
    few : first < g.shape.n
    less : second < g.shape.n
    name : face_at g.shape b a p ≡ face_name g.shape a b at first second
    part : part_at g.shape.n (face_stands a) p ≡ toward a (step_at g.shape.n true at)

  as_face : (a : Axis) (p : Place) → IsPlace g.shape.n (face_stands a) p → AsFace a p
  unfolding face_name
  as_face X p h = let x = h.x in record { at = p.x; first = p.y; second = p.z; most = omega arith; few = h.y; less = h.z; name = refl; part = refl }
  as_face Y p h = let y = h.y in record { at = p.y; first = p.x; second = p.z; most = omega arith; few = h.x; less = h.z; name = refl; part = refl }
  as_face Z p h = let z = h.z in record { at = p.z; first = p.x; second = p.y; most = omega arith; few = h.x; less = h.y; name = refl; part = refl }

  face_calm : (a : Axis) (p : Place) → IsPlace g.shape.n (face_stands a) p → is_leaf_face g (face_at g.shape b a p) ≡ true → (d : Direction) → Chosen d (part_at g.shape.n (face_stands a) p) → lies_toward g false b d ≡ false
  face_calm a p h leaf d chosen =
      let f = as_face a p h in
      let calm = leaf_says_calm g valid a b i f.first f.second f.few f.less f.at f.most (ap (is_leaf_face g) (sym f.name) ∙ leaf) in
      one_step a (step_at g.shape.n true f.at) d (subst (λ t. Chosen d t) f.part chosen) calm

  calm_face_leaf : (a : Axis) (p : Place) → IsPlace g.shape.n (face_stands a) p → ((d : Direction) → Chosen d (part_at g.shape.n (face_stands a) p) → lies_toward g false b d ≡ false) → is_leaf_face g (face_at g.shape b a p) ≡ true
  calm_face_leaf a p h calm =
      let f = as_face a p h in
      ap (is_leaf_face g) f.name ∙ calm_says_leaf g valid a b i f.first f.second f.few f.less f.at f.most (calm (toward a (step_at g.shape.n true f.at)) (subst (λ t. Chosen (toward a (step_at g.shape.n true f.at)) t) (sym f.part) (the_choice _)))

  -- ---- edges

  abbrev lies : Direction → Bool
  lies d = lies_toward g false b d

  round_none : (t : Direction) → has_edges t ≡ true → lies_round g false b t ≡ false → (lies t ≡ false) × (lies (record t { x = 1 }) ≡ false) × (lies (record t { y = 1 }) ≡ false) × (lies (record t { z = 1 }) ≡ false)
  unfolding lies_round
  round_none t edges none =
      let last = both_false ((lies t || lies (record t { x = 1 })) || lies (record t { y = 1 })) (lies (record t { z = 1 })) (sym (ap (λ u. u && (((lies t || lies (record t { x = 1 })) || lies (record t { y = 1 })) || lies (record t { z = 1 }))) edges) ∙ none) in
      let third = both_false (lies t || lies (record t { x = 1 })) (lies (record t { y = 1 })) last.0 in
      let second = both_false (lies t) (lies (record t { x = 1 })) third.0 in
      (second.0, second.1, third.1, last.1)

  none_round : (t : Direction) → lies t ≡ false → lies (record t { x = 1 }) ≡ false → lies (record t { y = 1 }) ≡ false → lies (record t { z = 1 }) ≡ false → lies_round g false b t ≡ false
  unfolding lies_round
  none_round t p q r s = (λ j. has_edges t && (((p j || q j) || r j) || s j)) ∙ nothing (has_edges t)
    where
      nothing : (u : Bool) → (u && false) ≡ false
      nothing true = refl
      nothing false = refl

  two_steps : (a : Axis) (p : Place) → lies_round g false b (part_at g.shape.n (edge_stands a) p) ≡ false → (d : Direction) → Chosen d (part_at g.shape.n (edge_stands a) p) → lies d ≡ false
  two_steps X p none d c =
      let t = part_at g.shape.n (edge_stands X) p in
      let four = round_none t refl none in
      let x = one_of_one d.x c.x in
      elim c.y [
        | inl y ↦ elim c.z [
          | inl z ↦ here d x y z
          | inr z ↦ calm_at d (record t { y = 1 }) (same_steps d _ x y z) four.2
        ]
        | inr y ↦ elim c.z [
          | inl z ↦ calm_at d (record t { z = 1 }) (same_steps d _ x y z) four.3
          | inr z ↦ calm_at d t (same_steps d _ x y z) four.0
        ]
      ]
  two_steps Y p none d c =
      let t = part_at g.shape.n (edge_stands Y) p in
      let four = round_none t (middle (t.x == 1) (t.z == 1)) none in
      let y = one_of_one d.y c.y in
      elim c.x [
        | inl x ↦ elim c.z [
          | inl z ↦ here d x y z
          | inr z ↦ calm_at d (record t { x = 1 }) (same_steps d _ x y z) four.1
        ]
        | inr x ↦ elim c.z [
          | inl z ↦ calm_at d (record t { z = 1 }) (same_steps d _ x y z) four.3
          | inr z ↦ calm_at d t (same_steps d _ x y z) four.0
        ]
      ]
  two_steps Z p none d c =
      let t = part_at g.shape.n (edge_stands Z) p in
      let four = round_none t (or_right ((t.x == 1) || (t.y == 1)) true refl) none in
      let z = one_of_one d.z c.z in
      elim c.x [
        | inl x ↦ elim c.y [
          | inl y ↦ here d x y z
          | inr y ↦ calm_at d (record t { x = 1 }) (same_steps d _ x y z) four.1
        ]
        | inr x ↦ elim c.y [
          | inl y ↦ calm_at d (record t { y = 1 }) (same_steps d _ x y z) four.2
          | inr y ↦ calm_at d t (same_steps d _ x y z) four.0
        ]
      ]

  leaf_edge_is : (a : Axis) (p : Place) → IsPlace g.shape.n (edge_stands a) p → is_leaf_edge g (edge_at g.shape b a p) ≡ not (lies_round g false b (part_at g.shape.n (edge_stands a) p))
  leaf_edge_is X p h = let y = h.y in let z = h.z in leaf_edge_of_leaf g b (cells_some valid.shape) (valid.tiles.inside b i) X p.x p.y p.z h.x (omega arith) (omega arith) (leaf_shows g b i) (leaf_whole g valid b i)
  leaf_edge_is Y p h = let x = h.x in let z = h.z in leaf_edge_of_leaf g b (cells_some valid.shape) (valid.tiles.inside b i) Y p.x p.y p.z (omega arith) h.y (omega arith) (leaf_shows g b i) (leaf_whole g valid b i)
  leaf_edge_is Z p h = let x = h.x in let y = h.y in leaf_edge_of_leaf g b (cells_some valid.shape) (valid.tiles.inside b i) Z p.x p.y p.z (omega arith) (omega arith) h.z (leaf_shows g b i) (leaf_whole g valid b i)

  edge_calm : (a : Axis) (p : Place) → IsPlace g.shape.n (edge_stands a) p → is_leaf_edge g (edge_at g.shape b a p) ≡ true → (d : Direction) → Chosen d (part_at g.shape.n (edge_stands a) p) → lies d ≡ false
  edge_calm a p h leaf = two_steps a p (not_true _ (sym (leaf_edge_is a p h) ∙ leaf))

  calm_edge_leaf : (a : Axis) (p : Place) → IsPlace g.shape.n (edge_stands a) p → ((d : Direction) → Chosen d (part_at g.shape.n (edge_stands a) p) → lies d ≡ false) → is_leaf_edge g (edge_at g.shape b a p) ≡ true
  calm_edge_leaf a p h calm =
      let t = part_at g.shape.n (edge_stands a) p in
      leaf_edge_is a p h
      ∙ ap not (none_round t (calm t (the_choice t)) (calm (record t { x = 1 }) (record { x = inl refl; y = inr refl; z = inr refl }))
      (calm (record t { y = 1 }) (record { x = inr refl; y = inl refl; z = inr refl })) (calm (record t { z = 1 }) (record { x = inr refl; y = inr refl; z = inl refl })))

-- ---- the laws

by_places : {A B : Type 0} (f : A → B) (h : Place → B) (a b c : ℕ) (at : ℕ → ℕ → ℕ → A) → ((i j k : ℕ) → f (at i j k) ≡ h (place i j k)) → map f (box_list a b c at) ≡ map h (box_list a b c place)
by_places f h a b c at same = map_box f a b c at ∙ ap (box_list a b c) (λ t i j k. same i j k t) ∙ sym (map_box h a b c place)

module _ (g : Grid) (valid : Valid g) (order : Sorted g.leaves) where
  face_passes : FaceAt → Bool
  face_passes f = is_canonical g.shape f && is_leaf_face g f

  edge_passes : EdgeAt → Bool
  edge_passes e = is_canonical_edge g.shape e && is_leaf_edge g e

  faces_known : KnownByBlocks FaceAt is_same_face face_says face_shows face_of face_parted face_stands face_passes g valid order
  unfolding face_passes
  faces_known = record {
    calm = λ b a p i h t. face_calm g valid b i a p h (and_right (is_canonical g.shape (face_at g.shape b a p)) (is_leaf_face g (face_at g.shape b a p)) (ap face_passes (face_named g.shape b a p) ∙ t));
    pass = λ b a p i h calm. sym (ap face_passes (face_named g.shape b a p)) ∙ and_both _ _ (face_canonical g.shape valid.shape b (valid.tiles.inside b i) p a h) (calm_face_leaf g valid b i a p h calm);
  }

  edges_known : KnownByBlocks EdgeAt is_same_edge edge_says edge_shows edge_of edge_parted edge_stands edge_passes g valid order
  unfolding edge_passes
  edges_known = record {
    calm = λ b a p i h t. edge_calm g valid b i a p h (and_right (is_canonical_edge g.shape (edge_at g.shape b a p)) (is_leaf_edge g (edge_at g.shape b a p)) (ap edge_passes (edge_named g.shape b a p) ∙ t));
    pass = λ b a p i h calm. sym (ap edge_passes (edge_named g.shape b a p)) ∙ and_both _ _ (edge_canonical g.shape valid.shape b (valid.tiles.inside b i) p a h) (calm_edge_leaf g valid b i a p h calm);
  }

  face_list : (b : BlockAt) (a : Axis) → map (canonical_face g.shape) (block_faces g.shape.n b a) ≡ map (face_at g.shape b a) (places_of g.shape.n (face_stands a))
  face_list b X = by_places (canonical_face g.shape) (face_at g.shape b X) (suc g.shape.n) g.shape.n g.shape.n (λ i j k. face_of X (in_block g.shape.n b i j k)) (λ i j k. refl)
  face_list b Y = by_places (canonical_face g.shape) (face_at g.shape b Y) g.shape.n (suc g.shape.n) g.shape.n (λ i j k. face_of Y (in_block g.shape.n b i j k)) (λ i j k. refl)
  face_list b Z = by_places (canonical_face g.shape) (face_at g.shape b Z) g.shape.n g.shape.n (suc g.shape.n) (λ i j k. face_of Z (in_block g.shape.n b i j k)) (λ i j k. refl)

  edge_list : (b : BlockAt) (a : Axis) → map (canonical_edge g.shape) (block_edges g.shape.n b a) ≡ map (edge_at g.shape b a) (places_of g.shape.n (edge_stands a))
  edge_list b X = by_places (canonical_edge g.shape) (edge_at g.shape b X) g.shape.n (suc g.shape.n) (suc g.shape.n) (λ i j k. edge_of X (in_block g.shape.n b i j k)) (λ i j k. refl)
  edge_list b Y = by_places (canonical_edge g.shape) (edge_at g.shape b Y) (suc g.shape.n) g.shape.n (suc g.shape.n) (λ i j k. edge_of Y (in_block g.shape.n b i j k)) (λ i j k. refl)
  edge_list b Z = by_places (canonical_edge g.shape) (edge_at g.shape b Z) (suc g.shape.n) (suc g.shape.n) g.shape.n (λ i j k. edge_of Z (in_block g.shape.n b i j k)) (λ i j k. refl)

  faces_here : leaf_faces g ≡ flat_map (λ b. flat_map (own_faces g b) axes) g.leaves
  unfolding leaf_faces face_passes
  faces_here =
      ap (λ (names : BlockAt → Axis → List FaceAt). fresh is_same_face [] (filter face_passes (flat_map (λ b. flat_map (names b) axes) g.leaves)))
      (λ t b a. (face_list b a ∙ ap (λ f. map f (places_of g.shape.n (face_stands a))) (λ u p. face_named g.shape b a p u)) t)
      ∙ by_leaves FaceAt is_same_face face_says face_shows face_of face_parted face_stands face_passes g valid order faces_known
      ∙ (λ t. flat_map (λ b. flat_map (λ a. map (λ p. sym (face_named g.shape b a p) t) (filter (λ p. is_own g b (part_at g.shape.n (face_stands a) p)) (places_of g.shape.n (face_stands a)))) axes) g.leaves)

  edges_here : leaf_edges g ≡ flat_map (λ b. flat_map (own_edges g b) axes) g.leaves
  unfolding leaf_edges edge_passes
  edges_here =
      ap (λ (names : BlockAt → Axis → List EdgeAt). fresh is_same_edge [] (filter edge_passes (flat_map (λ b. flat_map (names b) axes) g.leaves)))
      (λ t b a. (edge_list b a ∙ ap (λ f. map f (places_of g.shape.n (edge_stands a))) (λ u p. edge_named g.shape b a p u)) t)
      ∙ by_leaves EdgeAt is_same_edge edge_says edge_shows edge_of edge_parted edge_stands edge_passes g valid order edges_known
      ∙ (λ t. flat_map (λ b. flat_map (λ a. map (λ p. sym (edge_named g.shape b a p) t) (filter (λ p. is_own g b (part_at g.shape.n (edge_stands a) p)) (places_of g.shape.n (edge_stands a)))) axes) g.leaves)

pub faces_by_leaves : FacesByLeaves
faces_by_leaves g valid order = faces_here g valid order

pub edges_by_leaves : EdgesByLeaves
edges_by_leaves g valid order = edges_here g valid order
