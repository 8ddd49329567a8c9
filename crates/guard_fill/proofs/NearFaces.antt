-- The views of faces in a leaf and in the nearest layer of its guard cells are small: such a face is split at most once, and where it is none of
-- the leaf faces, a coarse leaf cell is round it or beside its parent.
use Rattle.std.proofs.Common.{◌≡◌, ℕ, zero, suc, ◌+◌, ◌-◌, ◌*◌, ◌/◌, ◌%◌, ◌^◌, ◌<◌, ◌⊎◌, Bool, true, false, ◌||◌, ◌&&◌, not, ℤ, ◌+ℤ◌, ◌-ℤ◌, refl, sym, ap, ap₂, subst, ◌∙◌, arith, inl, inr, Option, Some, None}
use Rattle.std.proofs.lemmas.Bool.{cases_Bool, cases_lt}
use Rattle.std.specs.Prelude.{option_map}
use Rattle.amr_num.specs.declared.Axis.{Axis}
use Rattle.amr_num.specs.declared.Axis.TheVariants.{X, Y, Z}
use Rattle.amr_num.specs.declared.BlockAt.{BlockAt}
use Rattle.amr_num.specs.declared.CellAt.{CellAt}
use Rattle.amr_num.specs.declared.FaceAt.{FaceAt}
use Rattle.amr_num.specs.Numbers.{Within, floor_div, number_range, part, sum_below}
use Rattle.amr_num.proofs.Sizes.{floor_size, part_size, spread_size, sum_within, within_add, within_less}
use Rattle.mesh_model.specs.declared.geometry.Shape.{Shape}
use Rattle.mesh_model.specs.Fields.ArrayPlaces.{HoldsFaceGuards, IsSize, face_extents, face_there, number_at, side}
use Rattle.mesh_model.specs.Fields.FinePlaces.{faces_in}
use Rattle.mesh_model.specs.Fields.InnerRule.{Outer, middle_x, middle_y, middle_z, x_at, y_at}
use Rattle.mesh_model.specs.Fields.Ranks.{WorldState}
use Rattle.mesh_model.specs.Fields.Views.{face_view, face_view_at, inner_face, quarter_of, sides_of}
use Rattle.mesh_model.specs.Geometry.Coordinates.{Inside, above, after, below, extent, face_numbers, face_of, high_cell, is_periodic, low_cell, moved, on, parent_cell, parent_face, roots, sub_cell, sub_face, with}
use Rattle.mesh_model.specs.Geometry.Outside.{brought_in, cell_in, position_in}
use Rattle.mesh_model.specs.Geometry.Places.{guard_index}
use Rattle.mesh_model.specs.Geometry.Touch.{block_on}
use Rattle.mesh_model.specs.Tree.Kinds.{Grid, holds, is_leaf, is_leaf_face, is_split, is_split_face}
use Rattle.mesh_model.specs.Tree.Order.{IsIn}
use Rattle.mesh_model.specs.Tree.ValidGrid.{Valid}
use Rattle.mesh_model.proofs.FieldLemmas.Beside.{above_in, calm, three}
use Rattle.mesh_model.proofs.FieldLemmas.CellKinds.{wide_of}
use Rattle.mesh_model.proofs.FieldLemmas.CellSums.{parent_of_sub}
use Rattle.mesh_model.proofs.FieldLemmas.FaceSums as faces
use Rattle.mesh_model.proofs.FieldLemmas.LeafFaces.{Either, seen_above, seen_below, seen_high, seen_low, whole_leaf_face}
use Rattle.mesh_model.proofs.FieldLemmas.Means.{view_inner}
use Rattle.mesh_model.proofs.FieldLemmas.Slots.{even_position, extent_double, high_cell_sub, low_cell_sub, octant_beside, parent_of_sub_face}
use Rattle.mesh_model.proofs.FieldLemmas.ValidGrid.{deep_face, leaf_inside, leaf_whole, tree}
use Rattle.mesh_model.proofs.TreeLemmas.Tests.{both_false, refuted}
use Rattle.mesh_model.proofs.TreeLemmas.Tiling.{leaf_says}
use Rattle.guard_fill.proofs.AxisStrips.{guards_least}
use Rattle.guard_fill.proofs.NearCells.{IsNext, NextTo, coarse_leaf, next_cell, next_inside, sub_calm}
use Rattle.guard_fill.proofs.NearPositions.{IsNextPosition, cell_above, cell_below, next_position}
use Rattle.guard_fill.proofs.Patches.{turn_over}
use Rattle.block_tree.specs.Numbered.{block_at}
use Rattle.rank_world.specs.Holding.{IsLeafNode, face_array}
use Rattle.guard_fill.specs.Guarding.{LeavesGuardedFaces}
use Rattle.guard_fill.specs.Near.{IsNear}

-- ---- what the inner rule makes of small numbers

record OuterWithin (most : ℕ) (o : Outer) : Type 0 where
  x_low : (q : ℕ) → Within most (o.x_low q)
  x_high : (q : ℕ) → Within most (o.x_high q)
  y_low : (q : ℕ) → Within most (o.y_low q)
  y_high : (q : ℕ) → Within most (o.y_high q)
  z_low : (q : ℕ) → Within most (o.z_low q)
  z_high : (q : ℕ) → Within most (o.z_high q)

mean_within : (most : ℕ) (a b : ℤ) → Within most a → Within most b → Within most (floor_div (a +ℤ b) 2)
mean_within most a b ha hb = let two = within_add most most a b ha hb in floor_size 2 most (a +ℤ b) (omega arith) (omega arith)

module _ (o : Outer) (most : ℕ) (small : OuterWithin most o) where
  across : (low high : ℕ → ℤ) → ((q : ℕ) → Within most (low q)) → ((q : ℕ) → Within most (high q)) → Within (2 * (most + most)) (sum_below 2 (λ k. high (2 * k) -ℤ low (2 * k)))
  across low high hl hh = sum_within 2 (most + most) (λ k. high (2 * k) -ℤ low (2 * k)) (λ k h. within_less most most (high (2 * k)) (low (2 * k)) (hh (2 * k)) (hl (2 * k)))

  middle_x_within : (q : ℕ) → q < 4 → Within (17 * most) (middle_x o q)
  unfolding middle_x
  middle_x_within q h =
      let low = sum_within 4 most o.x_low (λ k l. small.x_low k) in
      let on_y = across o.y_low o.y_high small.y_low small.y_high in
      let on_z = across o.z_low o.z_high small.z_low small.z_high in
      let less = within_less (4 * most) (2 * (most + most)) (sum_below 4 o.x_low) (sum_below 2 (λ k. o.y_high (2 * k) -ℤ o.y_low (2 * k))) low on_y in
      let total = within_less (4 * most + 2 * (most + most)) (2 * (most + most)) (sum_below 4 o.x_low -ℤ sum_below 2 (λ k. o.y_high (2 * k) -ℤ o.y_low (2 * k))) (sum_below 2 (λ j. o.z_high (2 * j) -ℤ o.z_low (2 * j))) less on_z in
      let all = spread_size 4 (4 * most + 2 * (most + most) + 2 * (most + most)) most
      (sum_below 4 o.x_low -ℤ sum_below 2 (λ k. o.y_high (2 * k) -ℤ o.y_low (2 * k)) -ℤ sum_below 2 (λ j. o.z_high (2 * j) -ℤ o.z_low (2 * j)))
      (λ q. floor_div (o.x_low q +ℤ o.x_high q) 2) (omega arith) total (λ k l. mean_within most (o.x_low k) (o.x_high k) (small.x_low k) (small.x_high k)) q h in
      omega arith

  step_x : (i q : ℕ) → i < 2 → q < 4 → Within (18 * most) (x_at o (suc i) q -ℤ x_at o i q)
  step_x zero q hi hq = let all = within_less (17 * most) most (middle_x o q) (o.x_low q) (middle_x_within q hq) (small.x_low q) in omega arith
  step_x (suc zero) q hi hq = let all = within_less most (17 * most) (o.x_high q) (middle_x o q) (small.x_high q) (middle_x_within q hq) in omega arith
  step_x (suc (suc i)) q hi hq = absurd (omega arith)

  middle_y_within : (i k : ℕ) → i < 2 → k < 2 → Within (43 * most) (middle_y o i k)
  unfolding middle_y
  middle_y_within i k hi hk =
      let low = sum_within 2 most (λ k. o.y_low (i + 2 * k)) (λ k l. small.y_low (i + 2 * k)) in
      let on_x = sum_within 2 (18 * most) (λ k. x_at o (suc i) (2 * k) -ℤ x_at o i (2 * k)) (λ k l. step_x i (2 * k) hi (omega arith)) in
      let on_z = within_less most most (o.z_high i) (o.z_low i) (small.z_high i) (small.z_low i) in
      let less = within_less (2 * most) (2 * (18 * most)) (sum_below 2 (λ k. o.y_low (i + 2 * k))) (sum_below 2 (λ k. x_at o (suc i) (2 * k) -ℤ x_at o i (2 * k))) low on_x in
      let total = within_less (2 * most + 2 * (18 * most)) (most + most) (sum_below 2 (λ k. o.y_low (i + 2 * k)) -ℤ sum_below 2 (λ k. x_at o (suc i) (2 * k) -ℤ x_at o i (2 * k))) (o.z_high i -ℤ o.z_low i) less on_z in
      let all = spread_size 2 (2 * most + 2 * (18 * most) + (most + most)) most
      (sum_below 2 (λ k. o.y_low (i + 2 * k)) -ℤ sum_below 2 (λ k. x_at o (suc i) (2 * k) -ℤ x_at o i (2 * k)) -ℤ (o.z_high i -ℤ o.z_low i))
      (λ k. floor_div (o.y_low (i + 2 * k) +ℤ o.y_high (i + 2 * k)) 2) (omega arith) total
      (λ k l. mean_within most (o.y_low (i + 2 * k)) (o.y_high (i + 2 * k)) (small.y_low (i + 2 * k)) (small.y_high (i + 2 * k))) k hk in
      omega arith

  step_y : (j i k : ℕ) → j < 2 → i < 2 → k < 2 → Within (44 * most) (y_at o (suc j) i k -ℤ y_at o j i k)
  step_y zero i k hj hi hk = let all = within_less (43 * most) most (middle_y o i k) (o.y_low (i + 2 * k)) (middle_y_within i k hi hk) (small.y_low (i + 2 * k)) in omega arith
  step_y (suc zero) i k hj hi hk = let all = within_less most (43 * most) (o.y_high (i + 2 * k)) (middle_y o i k) (small.y_high (i + 2 * k)) (middle_y_within i k hi hk) in omega arith
  step_y (suc (suc j)) i k hj hi hk = absurd (omega arith)

  middle_z_within : (i j : ℕ) → i < 2 → j < 2 → Within (63 * most) (middle_z o i j)
  unfolding middle_z
  middle_z_within i j hi hj =
      let on_x = step_x i j hi (omega arith) in
      let on_y = step_y j i 0 hj hi (omega arith) in
      let less = within_less most (18 * most) (o.z_low (i + 2 * j)) (x_at o (suc i) j -ℤ x_at o i j) (small.z_low (i + 2 * j)) on_x in
      let all = within_less (most + 18 * most) (44 * most) (o.z_low (i + 2 * j) -ℤ (x_at o (suc i) j -ℤ x_at o i j)) (y_at o (suc j) i 0 -ℤ y_at o j i 0) less on_y in
      omega arith

  inner_within : (a : Axis) (i j k : ℕ) → i < 2 → j < 2 → k < 2 → Within (64 * most) (inner_face o a i j k)
  inner_within X i j k hi hj hk = let all = middle_x_within (j + 2 * k) (omega arith) in omega arith
  inner_within Y i j k hi hj hk = let all = middle_y_within i k hi hk in omega arith
  inner_within Z i j k hi hj hk = let all = middle_z_within i j hi hj in omega arith

-- ---- views of faces of which a leaf cell is near

module _ (g : Grid) (field : FaceAt → ℤ) (most : ℕ) (valid : Valid g) (small : (f : FaceAt) → Within most (field f)) where
  wide : (a : Axis) (l : ℕ) → 0 < extent g.shape a l
  wide = wide_of g.shape valid.shape

  leaf_within : (f : FaceAt) → is_leaf_face g f ≡ true → Within most (face_view g field f)
  leaf_within f leaf = subst (Within most) (sym (faces.view_leaf g (tree g valid) wide field f (whole_leaf_face g f leaf) leaf)) (small f)

  quarter_within : (q : ℕ) (n : ℤ) → Within most n → Within most (part q n 4)
  quarter_within q n h = let size = part_size q 4 n (omega arith) in omega arith

  -- at an even position that is not split, by the parent
  even_within : (l : ℕ) (f : FaceAt) → f.level ≡ suc l → is_split_face g f ≡ false → on f.axis (face_numbers f) % 2 ≡ 0 → Within most (face_view g field (parent_face f)) → Within most (face_view g field f)
  even_within l f level whole even parent = elim (cases_Bool (is_leaf_face g f)) [
    | inl leaf ↦ leaf_within f leaf
    | inr none ↦
        let one : f.level - 1 ≡ l = omega arith in
        let view : face_view g field f ≡ part (quarter_of f) (face_view_at g field l (parent_face f)) 4 = ap (λ k. face_view_at g field k f) level ∙ faces.at_even g (tree g valid) wide field l f whole none even in
        subst (Within most) (sym view) (quarter_within (quarter_of f) (face_view_at g field l (parent_face f)) (subst (λ k. Within most (face_view_at g field k (parent_face f))) one parent))
  ]

  -- a subface that is not split, of a face of a leaf cell
  sub_within : (f : FaceAt) (q : ℕ) → Either g f → is_split_face g (sub_face f q) ≡ false → Within most (face_view g field (sub_face f q))
  unfolding Either
  sub_within f q (inl split) whole = leaf_within (sub_face f q) (faces.leaf_sub_face g (tree g valid) wide f q split whole)
  sub_within f q (inr leaf) whole = even_within f.level (sub_face f q) refl whole (even_position f q) (subst (λ h. Within most (face_view g field h)) (sym (parent_of_sub_face f q)) (leaf_within f leaf))

  sides_within : (c : CellAt) → is_leaf g c ≡ true → OuterWithin most (sides_of g (face_view g field) c)
  sides_within c leaf =
      let inside = leaf_inside g valid c leaf in
      let quiet = calm g valid wide c inside (leaf_whole g valid c leaf) in
      let low : (a : Axis) (q : ℕ) → Within most (face_view g field (sub_face (face_of a c) q)) = (λ a q. sub_within (face_of a c) q (seen_low g a c inside leaf).kind (quiet a q).0) in
      let high : (a : Axis) (q : ℕ) → Within most (face_view g field (sub_face (face_of a (after g.shape a c)) q)) = (λ a q. sub_within (face_of a (after g.shape a c)) q (seen_high g a c inside leaf).kind (quiet a q).1) in
      record { x_low = low X; x_high = high X; y_low = low Y; y_high = high Y; z_low = low Z; z_high = high Z }

  -- inside a leaf cell that is one level coarser
  inner_view_within : (l : ℕ) (f : FaceAt) → f.level ≡ suc l → Inside g.shape (face_numbers f) → is_split_face g f ≡ false → is_leaf_face g f ≡ false → on f.axis (face_numbers f) % 2 ≡ 1 → is_leaf g (face_numbers (parent_face f)) ≡ true → Within (64 * most) (face_view g field f)
  inner_view_within l f level inside whole none odd leaf =
      subst (Within (64 * most)) (sym (view_inner g valid l f level inside whole none field odd))
      (inner_within (sides_of g (face_view g field) (face_numbers (parent_face f))) most (sides_within (face_numbers (parent_face f)) leaf) f.axis (f.x % 2) (f.y % 2) (f.z % 2) (omega arith) (omega arith) (omega arith))

  -- split once
  split_within : (f : FaceAt) → is_split_face g f ≡ true → ((q : ℕ) → is_split_face g (sub_face f q) ≡ false) → Within (4 * most) (face_view g field f)
  split_within f split whole =
      subst (Within (4 * most)) (sym (faces.face_view_sum g (tree g valid) wide field f (deep_face g valid f)))
      (sum_within 4 most (λ q. face_view g field (sub_face f q)) (λ q h. leaf_within (sub_face f q) (faces.leaf_sub_face g (tree g valid) wide f q split (whole q))))

  coarsest_within : (f : FaceAt) → f.level ≡ 0 → is_split_face g f ≡ false → Within most (face_view g field f)
  unfolding face_view_at
  coarsest_within f level whole =
      let first : face_view_at g field zero f ≡ field f = rw (whole, face_view_at) refl in
      subst (Within most) (sym (ap (λ k. face_view_at g field k f) level ∙ first)) (small f)

-- ---- faces and the cells beside them

-- a face at an even position is a subface of its parent
quarter_at : (a : Axis) (l x y z : ℕ) → 0 < l → let f : FaceAt = record { axis = a; level = l; x = x; y = y; z = z } in on a (face_numbers f) % 2 ≡ 0 → sub_face (parent_face f) (quarter_of f) ≡ f
quarter_at X l x y z up even =
    let level : suc (l - 1) ≡ l = omega arith in
    let on_x : 2 * (x / 2) + 0 ≡ x = omega arith in
    let on_y : 2 * (y / 2) + (y % 2 + 2 * (z % 2)) % 2 ≡ y = omega arith in
    let on_z : 2 * (z / 2) + (y % 2 + 2 * (z % 2)) / 2 % 2 ≡ z = omega arith in
    λ i. record { axis = X; level = level i; x = on_x i; y = on_y i; z = on_z i }
quarter_at Y l x y z up even =
    let level : suc (l - 1) ≡ l = omega arith in
    let on_x : 2 * (x / 2) + (x % 2 + 2 * (z % 2)) % 2 ≡ x = omega arith in
    let on_y : 2 * (y / 2) + 0 ≡ y = omega arith in
    let on_z : 2 * (z / 2) + (x % 2 + 2 * (z % 2)) / 2 % 2 ≡ z = omega arith in
    λ i. record { axis = Y; level = level i; x = on_x i; y = on_y i; z = on_z i }
quarter_at Z l x y z up even =
    let level : suc (l - 1) ≡ l = omega arith in
    let on_x : 2 * (x / 2) + (x % 2 + 2 * (y % 2)) % 2 ≡ x = omega arith in
    let on_y : 2 * (y / 2) + (x % 2 + 2 * (y % 2)) / 2 % 2 ≡ y = omega arith in
    let on_z : 2 * (z / 2) + 0 ≡ z = omega arith in
    λ i. record { axis = Z; level = level i; x = on_x i; y = on_y i; z = on_z i }

quarter_of_parent : (f : FaceAt) → 0 < f.level → on f.axis (face_numbers f) % 2 ≡ 0 → sub_face (parent_face f) (quarter_of f) ≡ f
quarter_of_parent f up even = quarter_at f.axis f.level f.x f.y f.z up even

-- below a face at an odd position is a cell, in the cell round the face
odd_parent : (a : Axis) (c : CellAt) → on a c % 2 ≡ 1 → parent_cell (with a (on a c - 1) c) ≡ parent_cell c
odd_parent X c odd = let half : (c.x - 1) / 2 ≡ c.x / 2 = omega arith in λ i. record { level = c.level - 1; x = half i; y = c.y / 2; z = c.z / 2 }
odd_parent Y c odd = let half : (c.y - 1) / 2 ≡ c.y / 2 = omega arith in λ i. record { level = c.level - 1; x = c.x / 2; y = half i; z = c.z / 2 }
odd_parent Z c odd = let half : (c.z - 1) / 2 ≡ c.z / 2 = omega arith in λ i. record { level = c.level - 1; x = c.x / 2; y = c.y / 2; z = half i }

odd_inside : (s : Shape) (a : Axis) (l : ℕ) (c : CellAt) → c.level ≡ suc l → on a c % 2 ≡ 1 → Inside s (with a (on a c - 1) c) → Inside s c
odd_inside s X l c level odd i = let double = ap (λ k. extent s X k) level ∙ extent_double s X l in let under = i X in three _ (omega arith) (i Y) (i Z)
odd_inside s Y l c level odd i = let double = ap (λ k. extent s Y k) level ∙ extent_double s Y l in let under = i Y in three _ (i X) (omega arith) (i Z)
odd_inside s Z l c level odd i = let double = ap (λ k. extent s Z k) level ∙ extent_double s Z l in let under = i Z in three _ (i X) (i Y) (omega arith)

below_odd : (periodic : Bool) (e p : ℕ) → p % 2 ≡ 1 → below periodic e p ≡ Some (p - 1)
below_odd periodic e p odd = let next : p ≡ suc (p - 1) = omega arith in ap (below periodic e) next

-- each position has a cell below or above it
some_beside : (periodic : Bool) (e p : ℕ) → 0 < e → ((r : ℕ) × (below periodic e p ≡ Some r)) ⊎ ((r : ℕ) × (above periodic e p ≡ Some r))
some_beside periodic e zero h = inr (0, above_in periodic e 0 h)
some_beside periodic e (suc p) h = inl (p, refl)

module _ (g : Grid) (f : FaceAt) (whole : is_split_face g f ≡ false) (none : is_leaf_face g f ≡ false) where
  no_leaf_beside : (holds (is_leaf g) (low_cell g.shape f) || holds (is_leaf g) (high_cell g.shape f)) ≡ false
  unfolding is_leaf_face
  no_leaf_beside = refuted _ (λ t.
      let leaf : is_leaf_face g f ≡ true = ap₂ (λ a b. a && not b) t whole in
      cc)

  -- neither cell beside it is split or a leaf
  plain_low : (c : CellAt) → low_cell g.shape f ≡ Some c → (is_split g c ≡ false) × (is_leaf g c ≡ false)
  unfolding is_split_face
  plain_low c is = (sym (ap (holds (is_split g)) is) ∙ (both_false (holds (is_split g) (low_cell g.shape f)) (holds (is_split g) (high_cell g.shape f)) whole).0, sym (ap (holds (is_leaf g)) is) ∙ (both_false (holds (is_leaf g) (low_cell g.shape f)) (holds (is_leaf g) (high_cell g.shape f)) no_leaf_beside).0)

  plain_high : (c : CellAt) → high_cell g.shape f ≡ Some c → (is_split g c ≡ false) × (is_leaf g c ≡ false)
  unfolding is_split_face
  plain_high c is = (sym (ap (holds (is_split g)) is) ∙ (both_false (holds (is_split g) (low_cell g.shape f)) (holds (is_split g) (high_cell g.shape f)) whole).1, sym (ap (holds (is_leaf g)) is) ∙ (both_false (holds (is_leaf g) (low_cell g.shape f)) (holds (is_leaf g) (high_cell g.shape f)) no_leaf_beside).1)

-- ---- faces near a leaf

-- the cells beside a face are next to a block
record IsNextFace (g : Grid) (b : BlockAt) (f : FaceAt) : Type 0 where
  low : (c : CellAt) → low_cell g.shape f ≡ Some c → NextTo g b c
  high : (c : CellAt) → high_cell g.shape f ≡ Some c → NextTo g b c

module _ (g : Grid) (field : FaceAt → ℤ) (most : ℕ) (valid : Valid g) (small : (f : FaceAt) → Within most (field f)) (b : BlockAt) (leaf : IsIn b g.leaves) (f : FaceAt) (near : IsNextFace g b f) where
  -- it is split at most once
  calm_cell : (q : ℕ) (o : Option CellAt) → ((c : CellAt) → o ≡ Some c → NextTo g b c) → holds (is_split g) (option_map (λ c. sub_cell c q) o) ≡ false
  calm_cell q None next = refl
  calm_cell q (Some c) next = elim (cases_Bool (is_split g c)) [
    | inl split ↦ sub_calm g valid b leaf c (next c refl) q split
    | inr whole ↦ (tree g valid).below_whole c q whole
  ]

  calm_half : (q : ℕ) → is_split_face g (sub_face f q) ≡ false
  unfolding is_split_face
  calm_half q = ap₂ (λ s t. s || t)
      (ap (holds (is_split g)) (low_cell_sub g.shape f q (wide_of g.shape valid.shape f.axis f.level)) ∙ calm_cell (octant_beside f.axis 1 q) (low_cell g.shape f) near.low)
      (ap (holds (is_split g)) (high_cell_sub g.shape f q) ∙ calm_cell (octant_beside f.axis 0 q) (high_cell g.shape f) near.high)

  module _ (l : ℕ) (level : f.level ≡ suc l) (whole : is_split_face g f ≡ false) (none : is_leaf_face g f ≡ false) where
    coarse_below : (c : CellAt) → low_cell g.shape f ≡ Some c → is_leaf g (parent_cell c) ≡ true
    coarse_below c is = let plain = plain_low g f whole none c is in coarse_leaf g valid b leaf c (near.low c is) plain.0 plain.1

    coarse_above : (c : CellAt) → high_cell g.shape f ≡ Some c → is_leaf g (parent_cell c) ≡ true
    coarse_above c is = let plain = plain_high g f whole none c is in coarse_leaf g valid b leaf c (near.high c is) plain.0 plain.1

    -- at an odd position the cell round it is a leaf
    odd_within : on f.axis (face_numbers f) % 2 ≡ 1 → Within (64 * most) (face_view g field f)
    odd_within odd =
        let n = face_numbers f in
        let under = with f.axis (on f.axis n - 1) n in
        let is : low_cell g.shape f ≡ Some under = ap (λ o. moved f.axis o n) (below_odd (is_periodic g.shape f.axis) (extent g.shape f.axis f.level) (on f.axis n) odd) in
        let inside = odd_inside g.shape f.axis l n level odd (next_inside g valid b leaf under (near.low under is)) in
        inner_view_within g field most valid small l f level inside whole none odd (ap (is_leaf g) (sym (odd_parent f.axis n odd)) ∙ coarse_below under is)

    -- at an even position a cell beside its parent is
    even_seen : on f.axis (face_numbers f) % 2 ≡ 0 → Either g (parent_face f)
    even_seen even =
        let h = parent_face f in
        let q = quarter_of f in
        let is = quarter_of_parent f (omega arith) even in
        let some = wide_of g.shape valid.shape h.axis h.level in
        elim (some_beside (is_periodic g.shape h.axis) (extent g.shape h.axis h.level) (on h.axis (face_numbers h)) some) [
          | inl (r, below_is) ↦
              let d = with h.axis r (face_numbers h) in
              let low : low_cell g.shape h ≡ Some d = ap (λ o. moved h.axis o (face_numbers h)) below_is in
              let sub : low_cell g.shape f ≡ Some (sub_cell d (octant_beside h.axis 1 q)) = ap (low_cell g.shape) (sym is) ∙ low_cell_sub g.shape h q some ∙ ap (option_map (λ c. sub_cell c (octant_beside h.axis 1 q))) low in
              seen_below g h d low (ap (is_leaf g) (sym (parent_of_sub d (octant_beside h.axis 1 q))) ∙ coarse_below (sub_cell d (octant_beside h.axis 1 q)) sub)
          | inr (r, above_is) ↦
              let d = with h.axis r (face_numbers h) in
              let high : high_cell g.shape h ≡ Some d = ap (λ o. moved h.axis o (face_numbers h)) above_is in
              let sub : high_cell g.shape f ≡ Some (sub_cell d (octant_beside h.axis 0 q)) = ap (high_cell g.shape) (sym is) ∙ high_cell_sub g.shape h q ∙ ap (option_map (λ c. sub_cell c (octant_beside h.axis 0 q))) high in
              seen_above g h d high (ap (is_leaf g) (sym (parent_of_sub d (octant_beside h.axis 0 q))) ∙ coarse_above (sub_cell d (octant_beside h.axis 0 q)) sub)
        ]

    plain_within : Within (64 * most) (face_view g field f)
    plain_within = elim (cases_lt (on f.axis (face_numbers f) % 2) 1) [
      | inl less ↦
          let even : on f.axis (face_numbers f) % 2 ≡ 0 = omega arith in
          let is = quarter_of_parent f (omega arith) even in
          let sub = sub_within g field most valid small (parent_face f) (quarter_of f) (even_seen even) (ap (is_split_face g) is ∙ whole) in
          let here = subst (λ h. Within most (face_view g field h)) is sub in
          omega arith
      | inr more ↦ odd_within (omega arith)
    ]

  whole_within : (l : ℕ) → f.level ≡ l → is_split_face g f ≡ false → Within (64 * most) (face_view g field f)
  whole_within zero level whole = let here = coarsest_within g field most valid small f level whole in omega arith
  whole_within (suc l) level whole = elim (cases_Bool (is_leaf_face g f)) [
    | inl its ↦ (let here = leaf_within g field most valid small f its in omega arith)
    | inr none ↦ plain_within l level whole none
  ]

  next_face_within : Within (64 * most) (face_view g field f)
  next_face_within = elim (cases_Bool (is_split_face g f)) [
    | inl split ↦ (let here = split_within g field most valid small f split calm_half in omega arith)
    | inr whole ↦ whole_within f.level refl whole
  ]

-- ---- the face at a place

module _ (g : Grid) (valid : Valid g) (b : BlockAt) (leaf : IsIn b g.leaves) (i j k : ℕ) (hi : IsNear g.shape i) (hj : IsNear g.shape j) (hk : IsNear g.shape k) where
  abbrev place : Axis → ℕ
  place X = i
  place Y = j
  place Z = k

  near_place : (a : Axis) → IsNear g.shape (place a)
  near_place X = hi
  near_place Y = hj
  near_place Z = hk

  in_domain : (a : Axis) → block_on a b < roots g.shape a * 2 ^ b.level
  in_domain X = (valid.tiles.inside b leaf).x
  in_domain Y = (valid.tiles.inside b leaf).y
  in_domain Z = (valid.tiles.inside b leaf).z

  -- on an axis, what is next to the block; the position of the place
  Next : Axis → ℕ → Type 0
  Next a x = IsNext (is_periodic g.shape a) (roots g.shape a * 2 ^ b.level) g.shape.n (block_on a b) x

  abbrev position_on : Axis → ℕ
  position_on a = position_in g.shape a b.level (guard_index g.shape.n g.shape.g (block_on a b) (place a))

  size : IsSize g.shape.n g.shape.g
  size = record { cells = valid.shape.cells; guards = valid.shape.guards }

  all_on : (a : Axis) → extent g.shape a b.level ≡ roots g.shape a * 2 ^ b.level * g.shape.n
  all_on a = sym (turn_over (roots g.shape a) g.shape.n b.level)

  cell_next : (a : Axis) → Next a (cell_in g.shape a b.level (guard_index g.shape.n g.shape.g (block_on a b) (place a)))
  unfolding Next
  cell_next a = next_cell g.shape a b.level (block_on a b) (place a) valid.shape (in_domain a) (near_place a)

  position_next : (a : Axis) → IsNextPosition (is_periodic g.shape a) (roots g.shape a * 2 ^ b.level) g.shape.n (block_on a b) (position_on a)
  position_next a =
      let s = g.shape in
      subst (λ m. IsNextPosition (is_periodic s a) (roots s a * 2 ^ b.level) s.n (block_on a b) (brought_in (is_periodic s a) m m (guard_index s.n s.g (block_on a b) (place a)))) (sym (all_on a))
      (next_position s.n s.g (roots s a * 2 ^ b.level) size (is_periodic s a) (block_on a b) (place a) (in_domain a) (near_place a).low (near_place a).high)

  below_next : (a : Axis) (r : ℕ) → below (is_periodic g.shape a) (extent g.shape a b.level) (position_on a) ≡ Some r → Next a r
  unfolding Next
  below_next a r is =
      let s = g.shape in
      cell_below s.n s.g (roots s a * 2 ^ b.level) size (is_periodic s a) (block_on a b) (position_on a) r (in_domain a) (position_next a)
      (subst (λ m. below (is_periodic s a) m (position_on a) ≡ Some r) (all_on a) is)

  above_next : (a : Axis) (r : ℕ) → above (is_periodic g.shape a) (extent g.shape a b.level) (position_on a) ≡ Some r → Next a r
  unfolding Next
  above_next a r is =
      let s = g.shape in
      cell_above s.n s.g (roots s a * 2 ^ b.level) size (is_periodic s a) (block_on a b) (position_on a) r (position_next a)
      (subst (λ m. above (is_periodic s a) m (position_on a) ≡ Some r) (all_on a) is)

  -- a cell beside the face is next to the block where it is on the face's axis
  with_next : (a : Axis) (r : ℕ) → Next a r → NextTo g b (with a r (face_numbers (face_there g.shape a b i j k)))
  unfolding Next
  with_next X r next = record { level = refl; axes = three _ next (cell_next Y) (cell_next Z) }
  with_next Y r next = record { level = refl; axes = three _ (cell_next X) next (cell_next Z) }
  with_next Z r next = record { level = refl; axes = three _ (cell_next X) (cell_next Y) next }

  moved_next : (a : Axis) (o : Option ℕ) (c : CellAt) → ((r : ℕ) → o ≡ Some r → Next a r) → moved a o (face_numbers (face_there g.shape a b i j k)) ≡ Some c → NextTo g b c
  moved_next a None c next is = cc
  moved_next a (Some r) c next is =
      let same : with a r (face_numbers (face_there g.shape a b i j k)) ≡ c = cc in
      subst (NextTo g b) same (with_next a r (next r refl))

  face_next : (a : Axis) → IsNextFace g b (face_there g.shape a b i j k)
  face_next X = record { low = λ c is. moved_next X _ c (below_next X) is; high = λ c is. moved_next X _ c (above_next X) is }
  face_next Y = record { low = λ c is. moved_next Y _ c (below_next Y) is; high = λ c is. moved_next Y _ c (above_next Y) is }
  face_next Z = record { low = λ c is. moved_next Z _ c (below_next Z) is; high = λ c is. moved_next Z _ c (above_next Z) is }

-- the view of a face at a place of a leaf, or of its nearest guard cells, is at most 64 times the greatest number
pub near_face_view_within : (g : Grid) (field : FaceAt → ℤ) (most : ℕ) (a : Axis) (b : BlockAt) (i j k : ℕ) → Valid g → ((f : FaceAt) → Within most (field f)) → IsIn b g.leaves →
    IsNear g.shape i → IsNear g.shape j → IsNear g.shape k → Within (64 * most) (face_view g field (face_there g.shape a b i j k))
near_face_view_within g field most a b i j k valid small leaf hi hj hk =
    next_face_within g field most valid small b leaf (face_there g.shape a b i j k) (face_next g valid b leaf i j k hi hj hk a)

-- so are the numbers of a leaf that has its guards
pub near_face_number_within : (g : Grid) (field : FaceAt → ℤ) (most : ℕ) (a : Axis) (b : BlockAt) (i j k : ℕ) (numbers : ℕ → ℕ → ℕ → ℤ) → Valid g → ((f : FaceAt) → Within most (field f)) → IsIn b g.leaves →
    HoldsFaceGuards g field a b numbers → IsNear g.shape i → IsNear g.shape j → IsNear g.shape k → Within (64 * most) (numbers i j k)
near_face_number_within g field most a b i j k numbers valid small leaf guarded hi hj hk =
    subst (Within (64 * most)) (sym (held a guarded (inside i hi) (inside j hj) (inside k hk)))
    (near_face_view_within g field most a b i j k valid small leaf hi hj hk)
  where
    inside : (t : ℕ) → IsNear g.shape t → t < side g.shape.n g.shape.g
    inside t near =
        let few = guards_least {n = g.shape.n} (record { cells = valid.shape.cells; guards = valid.shape.guards }) in
        let high = near.high in
        omega arith

    held : (c : Axis) → HoldsFaceGuards g field c b numbers → i < side g.shape.n g.shape.g → j < side g.shape.n g.shape.g → k < side g.shape.n g.shape.g → numbers i j k ≡ face_view g field (face_there g.shape c b i j k)
    held X holds li lj lk = holds.at i j k (omega arith) lj lk
    held Y holds li lj lk = holds.at i j k li (omega arith) lk
    held Z holds li lj lk = holds.at i j k li lj (omega arith)

-- and of a world with guards
pub near_faces_small : (w : WorldState) (field : FaceAt → ℤ) (a : Axis) (node i j k : ℕ) → Valid w.told.grid → ((f : FaceAt) → Within number_range (field f)) → LeavesGuardedFaces w field → IsLeafNode w.told.grid node →
    let s = w.told.grid.shape in IsNear s i → IsNear s j → IsNear s k → Within (2 ^ 56) (number_at (face_extents s.n s.g a) (face_array w a node) i j k)
near_faces_small w field a node i j k valid small guarded leaf hi hj hk =
    let g = w.told.grid in
    let b = block_at g node in
    let all = near_face_number_within g field number_range a b i j k (faces_in g a (face_array w a node)) valid small (leaf_says g b leaf.leaf) (guarded node a leaf) hi hj hk in
    omega arith
