-- A child whose faces were split from its parent's holds the views of a field.
use Rattle.std.proofs.Common.{◌≡◌, ℕ, suc, ◌+◌, ◌-◌, ◌*◌, ◌/◌, ◌%◌, ◌<◌, Bool, true, false, not, ◌&&◌, ◌||◌, ◌==◌, List, ℤ, refl, sym, ap, ap₂, ◌∙◌, arith, inl, inr, subst, eq-eqb, eqb-true, Some}
use Rattle.std.specs.Prelude.{if◌then◌else◌}
use Rattle.std.proofs.lemmas.Bool.{cases_Bool, cases_lt}
use Rattle.amr_num.specs.declared.Axis.{Axis}
use Rattle.amr_num.specs.declared.Axis.TheVariants.{X, Y, Z}
use Rattle.amr_num.specs.declared.BlockAt.{BlockAt}
use Rattle.amr_num.specs.declared.CellAt.{CellAt}
use Rattle.amr_num.specs.declared.FaceAt.{FaceAt}
use Rattle.amr_num.specs.Numbers.{part}
use Rattle.mesh_model.specs.Geometry.Blocks.{InDomain, child_block}
use Rattle.mesh_model.specs.Geometry.Canonical.{canonical_on}
use Rattle.mesh_model.specs.Geometry.Coordinates.{Inside, after, extent, face_numbers, face_of, high_cell, is_periodic, low_cell, on, parent_face, quarter, sub_cell, sub_face, wrapped}
use Rattle.mesh_model.specs.Geometry.Places.{in_block, longer_on}
use Rattle.mesh_model.specs.Tree.Kinds.{Grid, holds, is_leaf, is_leaf_face, is_split, is_split_block, is_split_face}
use Rattle.mesh_model.specs.Tree.ValidGrid.{Valid}
use Rattle.mesh_model.specs.Fields.ArrayPlaces.{HoldsFaces, IsSize, face_extents}
use Rattle.mesh_model.specs.Fields.FaceSplits.{AreFacesSplit, FaceChildrenAreSplit, KeptSidesHold, OtherSidesLieInside, all_faces, face_between, face_part, is_kept_side, is_side, position, sides_from, split_face}
use Rattle.mesh_model.specs.Fields.FinePlaces.{faces_in}
use Rattle.mesh_model.specs.Fields.Octants.{half_at}
use Rattle.mesh_model.specs.Fields.Views.{cross, face_view, face_view_at, inner_face, is_even, sides_of}
use Rattle.mesh_model.proofs.FieldLemmas.Beside.{three, wrapped_before}
use Rattle.mesh_model.proofs.FieldLemmas.BlockOctants.{block_of_cell}
use Rattle.mesh_model.proofs.FieldLemmas.CellKinds.{wide_of}
use Rattle.mesh_model.proofs.FieldLemmas.FaceSums.{at_even}
use Rattle.mesh_model.proofs.FieldLemmas.LeafFaces.{high_here, low_here}
use Rattle.mesh_model.proofs.FieldLemmas.Means.{view_inner}
use Rattle.mesh_model.proofs.FieldLemmas.Slots.{even_position, parent_of_sub_face, quarter_of_sub}
use Rattle.mesh_model.proofs.FieldLemmas.ValidGrid.{tree}
use Rattle.mesh_model.proofs.GeometryLemmas.Halves.{half_of, in_half}
use Rattle.mesh_model.proofs.TreeLemmas.Tests.{both_false}
use Rattle.prolong_op.proofs.Between.{even_is, odd_inside, odd_of, twice_half}
use Rattle.prolong_op.proofs.FaceNames.{block_inside, canonical_below, child_inside, even_face, face_of_child, sub_cell_of}
use Rattle.mesh_model.proofs.FieldLemmas.CellSums.{parent_of_sub}
use Rattle.prolong_op.proofs.Lines.{above_in_block, face_lines, faces_of}
use Rattle.prolong_op.proofs.FaceSplit.{odd_no_side}

-- ---- faces between cells that are neither split nor leaf cells

module _ (g : Grid) (f : FaceAt) (c d : CellAt) (low : low_cell g.shape f ≡ Some c) (high : high_cell g.shape f ≡ Some d)
    (whole : is_split g c ≡ false) (no_leaf : is_leaf g c ≡ false) (whole_above : is_split g d ≡ false) (no_leaf_above : is_leaf g d ≡ false) where
  between_whole : is_split_face g f ≡ false
  unfolding is_split_face
  between_whole = ap₂ (λ a b. a || b) (ap (holds (is_split g)) low ∙ whole) (ap (holds (is_split g)) high ∙ whole_above)

  between_no_leaf : is_leaf_face g f ≡ false
  unfolding is_leaf_face
  between_no_leaf = ap₂ (λ a b. (a || b) && not (is_split_face g f)) (ap (holds (is_leaf g)) low ∙ no_leaf) (ap (holds (is_leaf g)) high ∙ no_leaf_above)

-- a subface that is neither split nor a leaf face has its part of the view
sub_face_part : (g : Grid) (field : FaceAt → ℤ) (f : FaceAt) (r : ℕ) → Valid g → r < 4 → is_split_face g (sub_face f r) ≡ false → is_leaf_face g (sub_face f r) ≡ false →
    face_view g field (sub_face f r) ≡ part r (face_view g field f) 4
sub_face_part g field f r valid h whole no_leaf =
    at_even g (tree g valid) (wide_of g.shape valid.shape) field f.level (sub_face f r) whole no_leaf (even_position f r)
    ∙ ap₂ (λ r d. part r (face_view_at g field f.level d) 4) (quarter_of_sub f r h) (parent_of_sub_face f r)

cross_small : (a : Axis) (i j k : ℕ) → cross a (i % 2) (j % 2) (k % 2) < 4
cross_small X i j k = omega arith
cross_small Y i j k = omega arith
cross_small Z i j k = omega arith

-- ---- which of three numbers a face has

pub pick_kept : (s e : Bool) (o p b : ℤ) → s ≡ true → (if s then o else (if e then p else b)) ≡ o
pick_kept true e o p b h = refl
pick_kept false e o p b h = cc

pub pick_part : (s e : Bool) (o p b : ℤ) → s ≡ false → e ≡ true → (if s then o else (if e then p else b)) ≡ p
pick_part false true o p b h l = refl
pick_part true e o p b h l = cc
pick_part s false o p b h l = cc

pub pick_rule : (s e : Bool) (o p b : ℤ) → s ≡ false → e ≡ false → (if s then o else (if e then p else b)) ≡ b
pick_rule false false o p b h l = refl
pick_rule true e o p b h l = cc
pick_rule s true o p b h l = cc

even_of : (p : ℕ) → is_even p ≡ true → p % 2 ≡ 0
even_of p h = eqb-true (p % 2) 0 h

-- a quarter's position is even where the first one's is
even_quarter : (a : Axis) (u v w r : ℕ) → let d = quarter a r in is_even (position a (2 * u + d.x) (2 * v + d.y) (2 * w + d.z)) ≡ true
even_quarter X u v w r = even_is (2 * u + 0) (omega arith)
even_quarter Y u v w r = even_is (2 * v + 0) (omega arith)
even_quarter Z u v w r = even_is (2 * w + 0) (omega arith)

-- ---- the child

module _ (g : Grid) (b : BlockAt) (q : ℕ) (valid : Valid g) (domain : InDomain g.shape b) (whole : is_split_block g b ≡ false) where
  -- its cells are neither split nor leaf cells
  pub calm : (i j k : ℕ) → i < g.shape.n → j < g.shape.n → k < g.shape.n →
      (is_split g (in_block g.shape.n (child_block b q) i j k) ≡ false) × (is_leaf g (in_block g.shape.n (child_block b q) i j k) ≡ false)
  calm i j k hi hj hk =
      let n = g.shape.n in
      let size = valid.shape.cells in
      let hu = in_half n (q % 2) (i / 2) size (omega arith) (half_of n i size hi) in
      let hv = in_half n (q / 2 % 2) (j / 2) size (omega arith) (half_of n j size hj) in
      let hw = in_half n (q / 4 % 2) (k / 2) size (omega arith) (half_of n k size hk) in
      let c = in_block n b (half_at n q + i / 2) (half_at n (q / 2) + j / 2) (half_at n (q / 4) + k / 2) in
      let o = i % 2 + 2 * (j % 2) + 4 * (k % 2) in
      let of_parent : is_split g c ≡ false = ap (is_split_block g) (block_of_cell n b _ _ _ hu hv hw) ∙ whole in
      let same = sub_cell_of n b q i j k size in
      (ap (is_split g) same ∙ (tree g valid).below_whole c o of_parent, ap (is_leaf g) same ∙ (tree g valid).below_whole_leaf c o of_parent)

  -- nor are the faces between them split or leaf faces
  next_x : (i j k : ℕ) → 0 < i → i < g.shape.n → j < g.shape.n → k < g.shape.n →
      face_of X (after g.shape X (in_block g.shape.n (child_block b q) (i - 1) j k)) ≡ face_of X (in_block g.shape.n (child_block b q) i j k)
  next_x i j k some hi hj hk =
      let c = in_block g.shape.n (child_block b q) (i - 1) j k in
      let inside = child_inside g.shape b q valid.shape.cells domain i j k hi hj hk X in
      let at = wrapped_before (is_periodic g.shape X) (extent g.shape X c.level) c.x (omega arith) ∙ omega arith in
      λ t. record { axis = X; level = c.level; x = at t; y = c.y; z = c.z }

  next_y : (i j k : ℕ) → 0 < j → i < g.shape.n → j < g.shape.n → k < g.shape.n →
      face_of Y (after g.shape Y (in_block g.shape.n (child_block b q) i (j - 1) k)) ≡ face_of Y (in_block g.shape.n (child_block b q) i j k)
  next_y i j k some hi hj hk =
      let c = in_block g.shape.n (child_block b q) i (j - 1) k in
      let inside = child_inside g.shape b q valid.shape.cells domain i j k hi hj hk Y in
      let at = wrapped_before (is_periodic g.shape Y) (extent g.shape Y c.level) c.y (omega arith) ∙ omega arith in
      λ t. record { axis = Y; level = c.level; x = c.x; y = at t; z = c.z }

  next_z : (i j k : ℕ) → 0 < k → i < g.shape.n → j < g.shape.n → k < g.shape.n →
      face_of Z (after g.shape Z (in_block g.shape.n (child_block b q) i j (k - 1))) ≡ face_of Z (in_block g.shape.n (child_block b q) i j k)
  next_z i j k some hi hj hk =
      let c = in_block g.shape.n (child_block b q) i j (k - 1) in
      let inside = child_inside g.shape b q valid.shape.cells domain i j k hi hj hk Z in
      let at = wrapped_before (is_periodic g.shape Z) (extent g.shape Z c.level) c.z (omega arith) ∙ omega arith in
      λ t. record { axis = Z; level = c.level; x = c.x; y = c.y; z = at t }

  Calm : FaceAt → Type 0
  Calm f = (is_split_face g f ≡ false) × (is_leaf_face g f ≡ false)

  after_calm : (a : Axis) (i j k u v w : ℕ) → i < g.shape.n → j < g.shape.n → k < g.shape.n → u < g.shape.n → v < g.shape.n → w < g.shape.n →
      face_of a (after g.shape a (in_block g.shape.n (child_block b q) u v w)) ≡ face_of a (in_block g.shape.n (child_block b q) i j k) →
      Calm (face_of a (in_block g.shape.n (child_block b q) i j k))
  unfolding Calm
  after_calm a i j k u v w hi hj hk hu hv hw same =
      let size = valid.shape.cells in
      let c = in_block g.shape.n (child_block b q) u v w in
      let d = in_block g.shape.n (child_block b q) i j k in
      let low : low_cell g.shape (face_of a d) ≡ Some c = subst (λ f. low_cell g.shape f ≡ Some c) same (low_here g.shape a c (child_inside g.shape b q size domain u v w hu hv hw)) in
      let high = high_here g.shape a d (child_inside g.shape b q size domain i j k hi hj hk) in
      let below = calm u v w hu hv hw in
      let above = calm i j k hi hj hk in
      (between_whole g (face_of a d) c d low high below.0 below.1 above.0 above.1, between_no_leaf g (face_of a d) c d low high below.0 below.1 above.0 above.1)

  inner_calm : (a : Axis) (i j k : ℕ) → i < g.shape.n → j < g.shape.n → k < g.shape.n → 0 < position a i j k → Calm (face_of a (in_block g.shape.n (child_block b q) i j k))
  inner_calm X i j k hi hj hk some = after_calm X i j k (i - 1) j k hi hj hk (omega arith) hj hk (next_x i j k some hi hj hk)
  inner_calm Y i j k hi hj hk some = after_calm Y i j k i (j - 1) k hi hj hk hi (omega arith) hk (next_y i j k some hi hj hk)
  inner_calm Z i j k hi hj hk some = after_calm Z i j k i j (k - 1) hi hj hk hi hj (omega arith) (next_z i j k some hi hj hk)

  -- a face that is on no side lies among the cells
  off_side : (n p : ℕ) → is_side n p ≡ false → p < n + 1 → (0 < p) × (p < n)
  off_side n p none h =
      let two = both_false (p == 0) (p == n) none in
      let some : 0 < p = elim (cases_lt 0 p) [ inl t ↦ t | inr f ↦ (let e = eq-eqb p 0 (omega arith) in let z = two.0 in cc) ] in
      let less : p < n = elim (cases_lt p n) [ inl t ↦ t | inr f ↦ (let e = eq-eqb p n (omega arith) in let z = two.1 in cc) ] in
      (some, less)

  among : (a : Axis) (i j k : ℕ) → i < longer_on a X g.shape.n → j < longer_on a Y g.shape.n → k < longer_on a Z g.shape.n → is_side g.shape.n (position a i j k) ≡ false →
      (i < g.shape.n) × (j < g.shape.n) × (k < g.shape.n) × (0 < position a i j k)
  among X i j k hi hj hk none = let in_ = off_side g.shape.n i none hi in (in_.1, hj, hk, in_.0)
  among Y i j k hi hj hk none = let in_ = off_side g.shape.n j none hj in (hi, in_.1, hk, in_.0)
  among Z i j k hi hj hk none = let in_ = off_side g.shape.n k none hk in (hi, hj, in_.1, in_.0)

  abbrev name : Axis → ℕ → ℕ → ℕ → FaceAt
  name a i j k = face_of a (canonical_on g.shape a (in_block g.shape.n (child_block b q) i j k))

  -- names of faces among the cells are canonical
  name_among : (a : Axis) (i j k : ℕ) → i < g.shape.n → j < g.shape.n → k < g.shape.n → name a i j k ≡ face_of a (in_block g.shape.n (child_block b q) i j k)
  name_among a i j k hi hj hk = ap (face_of a) (canonical_below g.shape a (in_block g.shape.n (child_block b q) i j k) (child_inside g.shape b q valid.shape.cells domain i j k hi hj hk a))

  module _ (kept : ℕ) (others : OtherSidesLieInside g (child_block b q) kept) where
    -- no face that is not kept is split or a leaf face
    not_kept : (a : Axis) (i j k : ℕ) → i < longer_on a X g.shape.n → j < longer_on a Y g.shape.n → k < longer_on a Z g.shape.n →
        is_kept_side g.shape.n kept a (position a i j k) ≡ false → Calm (name a i j k)
    unfolding Calm
    not_kept a i j k hi hj hk free = elim (cases_Bool (is_side g.shape.n (position a i j k))) [
      | inl side ↦ others.at a i j k hi hj hk side free
      | inr none ↦
          let l = among a i j k hi hj hk none in
          subst (λ f. (is_split_face g f ≡ false) × (is_leaf_face g f ≡ false)) (sym (name_among a i j k l.0 l.1 l.2)) (inner_calm a i j k l.0 l.1 l.2 l.3)
    ]

    module _ (field : FaceAt → ℤ) (parent old new : Axis → List ℤ) (split : AreFacesSplit g.shape.n g.shape.g q kept parent old new)
        (views : (a : Axis) → HoldsFaces g field a b (faces_in g a (parent a))) (held : KeptSidesHold g field (child_block b q) kept (all_faces g.shape.n g.shape.g old)) where
      -- the parts are views
      part_view : (a : Axis) (i j k : ℕ) → i < longer_on a X g.shape.n → j < longer_on a Y g.shape.n → k < longer_on a Z g.shape.n →
          is_kept_side g.shape.n kept a (position a i j k) ≡ false → is_even (position a i j k) ≡ true →
          face_part g.shape.n g.shape.g q a (faces_in g a (parent a)) i j k ≡ face_view g field (name a i j k)
      unfolding Calm
      part_view a i j k hi hj hk free even =
          let n = g.shape.n in
          let e = g.shape.g in
          let u = half_at n q + i / 2 in
          let v = half_at n (q / 2) + j / 2 in
          let w = half_at n (q / 4) + k / 2 in
          let numbers = faces_in g a (parent a) in
          let r = cross a (i % 2) (j % 2) (k % 2) in
          let f = face_of a (canonical_on g.shape a (in_block n b u v w)) in
          let l = above_in_block n e (record { cells = valid.shape.cells; guards = valid.shape.guards }) (face_extents n e a) (faces_of n a) (face_lines n e a) q i j k hi hj hk in
          let same : name a i j k ≡ sub_face f r = even_face g.shape n a b q i j k valid.shape.cells (even_of (position a i j k) even) in
          let own = not_kept a i j k hi hj hk free in
          let x : e + half_at n q + i / 2 ≡ e + u = omega arith in
          let y : e + half_at n (q / 2) + j / 2 ≡ e + v = omega arith in
          let z : e + half_at n (q / 4) + k / 2 ≡ e + w = omega arith in
          ap (λ m. part r m 4)
          (ap (λ c. numbers c (e + half_at n (q / 2) + j / 2) (e + half_at n (q / 4) + k / 2)) x ∙ ap₂ (λ c d. numbers (e + u) c d) y z ∙ (views a).at u v w l.0 l.1 l.2)
          ∙ sym (sub_face_part g field f r valid (cross_small a i j k) (subst (λ h. is_split_face g h ≡ false) same own.0) (subst (λ h. is_leaf_face g h ≡ false) same own.1))
          ∙ ap (face_view g field) (sym same)

      -- the faces at even positions hold views
      even_view : (a : Axis) (i j k : ℕ) → i < longer_on a X g.shape.n → j < longer_on a Y g.shape.n → k < longer_on a Z g.shape.n → is_even (position a i j k) ≡ true →
          faces_in g a (new a) (g.shape.g + i) (g.shape.g + j) (g.shape.g + k) ≡ face_view g field (name a i j k)
      unfolding split_face
      even_view a i j k hi hj hk even =
          let n = g.shape.n in
          let e = g.shape.g in
          let p = position a i j k in
          let s = is_kept_side n kept a p in
          let was = all_faces n e old a (e + i) (e + j) (e + k) in
          let its = face_part n e q a (faces_in g a (parent a)) i j k in
          let rule = face_between e a (all_faces n e new) i j k in
          (split a).written i j k hi hj hk
          ∙ (elim (cases_Bool s) [
            | inl stays ↦ pick_kept s (is_even p) was its rule stays ∙ held.at a i j k hi hj hk stays
            | inr free ↦ pick_part s (is_even p) was its rule free even ∙ part_view a i j k hi hj hk free even
          ])

      -- so do four of them on the side of a cell
      side_view : (a : Axis) (x y z u v w r : ℕ) → let d = quarter a r in x ≡ g.shape.g + 2 * u → y ≡ g.shape.g + 2 * v → z ≡ g.shape.g + 2 * w →
          2 * u + d.x < longer_on a X g.shape.n → 2 * v + d.y < longer_on a Y g.shape.n → 2 * w + d.z < longer_on a Z g.shape.n →
          faces_in g a (new a) (x + d.x) (y + d.y) (z + d.z)
          ≡ face_view g field (sub_face (face_of a (canonical_on g.shape a (in_block g.shape.n b (half_at g.shape.n q + u) (half_at g.shape.n (q / 2) + v) (half_at g.shape.n (q / 4) + w)))) r)
      side_view a x y z u v w r ex ey ez hu hv hw =
          let n = g.shape.n in
          let e = g.shape.g in
          let d = quarter a r in
          let numbers = faces_in g a (new a) in
          let px : x + d.x ≡ e + (2 * u + d.x) = omega arith in
          let py : y + d.y ≡ e + (2 * v + d.y) = omega arith in
          let pz : z + d.z ≡ e + (2 * w + d.z) = omega arith in
          ap (λ c. numbers c (y + d.y) (z + d.z)) px ∙ ap₂ (λ l m. numbers (e + (2 * u + d.x)) l m) py pz
          ∙ even_view a (2 * u + d.x) (2 * v + d.y) (2 * w + d.z) hu hv hw (even_quarter a u v w r)
          ∙ ap (face_view g field) (face_of_child g.shape n a b q u v w r valid.shape.cells)

      module _ (u v w : ℕ) (hu : u < g.shape.n / 2) (hv : v < g.shape.n / 2) (hw : w < g.shape.n / 2) where
        abbrev round : CellAt
        round = in_block g.shape.n b (half_at g.shape.n q + u) (half_at g.shape.n (q / 2) + v) (half_at g.shape.n (q / 4) + w)

        twice : 2 * (g.shape.n / 2) ≡ g.shape.n
        twice = twice_half g.shape.n g.shape.g (record { cells = valid.shape.cells; guards = valid.shape.guards })

        round_inside : Inside g.shape round
        round_inside =
            let size = valid.shape.cells in
            block_inside g.shape b size domain.x domain.y domain.z _ _ _ (in_half g.shape.n (q % 2) u size (omega arith) hu) (in_half g.shape.n (q / 2 % 2) v size (omega arith) hv)
            (in_half g.shape.n (q / 4 % 2) w size (omega arith) hw)

        own_name : (a : Axis) (r : ℕ) → face_view g field (sub_face (face_of a (canonical_on g.shape a round)) r) ≡ face_view g field (sub_face (face_of a round) r)
        own_name a r = ap (λ c. face_view g field (sub_face (face_of a c) r)) (canonical_below g.shape a round (round_inside a))

        after_x : canonical_on g.shape X (in_block g.shape.n b (half_at g.shape.n q + (u + 1)) (half_at g.shape.n (q / 2) + v) (half_at g.shape.n (q / 4) + w)) ≡ after g.shape X round
        after_x = let at : g.shape.n * b.x + (half_at g.shape.n q + (u + 1)) ≡ suc (g.shape.n * b.x + (half_at g.shape.n q + u)) = omega arith in
            λ t. record { level = b.level; x = wrapped (is_periodic g.shape X) (extent g.shape X b.level) (at t); y = round.y; z = round.z }

        after_y : canonical_on g.shape Y (in_block g.shape.n b (half_at g.shape.n q + u) (half_at g.shape.n (q / 2) + (v + 1)) (half_at g.shape.n (q / 4) + w)) ≡ after g.shape Y round
        after_y = let at : g.shape.n * b.y + (half_at g.shape.n (q / 2) + (v + 1)) ≡ suc (g.shape.n * b.y + (half_at g.shape.n (q / 2) + v)) = omega arith in
            λ t. record { level = b.level; x = round.x; y = wrapped (is_periodic g.shape Y) (extent g.shape Y b.level) (at t); z = round.z }

        after_z : canonical_on g.shape Z (in_block g.shape.n b (half_at g.shape.n q + u) (half_at g.shape.n (q / 2) + v) (half_at g.shape.n (q / 4) + (w + 1))) ≡ after g.shape Z round
        after_z = let at : g.shape.n * b.z + (half_at g.shape.n (q / 4) + (w + 1)) ≡ suc (g.shape.n * b.z + (half_at g.shape.n (q / 4) + w)) = omega arith in
            λ t. record { level = b.level; x = round.x; y = round.y; z = wrapped (is_periodic g.shape Z) (extent g.shape Z b.level) (at t) }

        -- the sides of the cell are views
        sides_are : sides_from (all_faces g.shape.n g.shape.g new) (g.shape.g + 2 * u) (g.shape.g + 2 * v) (g.shape.g + 2 * w) ≡ sides_of g (face_view g field) round
        sides_are =
            let e = g.shape.g in
            let x = e + 2 * u in
            let y = e + 2 * v in
            let z = e + 2 * w in
            let t2 = twice in
            let view = face_view g field in
            λ t. record {
              x_low = λ r. (side_view X x y z u v w r refl refl refl (omega arith) (omega arith) (omega arith) ∙ own_name X r) t;
              x_high = λ r. (side_view X (x + 2) y z (u + 1) v w r (omega arith) refl refl (omega arith) (omega arith) (omega arith) ∙ ap (λ c. view (sub_face (face_of X c) r)) after_x) t;
              y_low = λ r. (side_view Y x y z u v w r refl refl refl (omega arith) (omega arith) (omega arith) ∙ own_name Y r) t;
              y_high = λ r. (side_view Y x (y + 2) z u (v + 1) w r refl (omega arith) refl (omega arith) (omega arith) (omega arith) ∙ ap (λ c. view (sub_face (face_of Y c) r)) after_y) t;
              z_low = λ r. (side_view Z x y z u v w r refl refl refl (omega arith) (omega arith) (omega arith) ∙ own_name Z r) t;
              z_high = λ r. (side_view Z x y (z + 2) u v (w + 1) r refl refl (omega arith) (omega arith) (omega arith) (omega arith) ∙ ap (λ c. view (sub_face (face_of Z c) r)) after_z) t;
            }

      -- a face at an odd position lies among the cells
      odd_among : (a : Axis) (i j k : ℕ) → i < longer_on a X g.shape.n → j < longer_on a Y g.shape.n → k < longer_on a Z g.shape.n → is_even (position a i j k) ≡ false →
          (i < g.shape.n) × (j < g.shape.n) × (k < g.shape.n) × (0 < position a i j k)
      odd_among a i j k hi hj hk odd =
          let one = odd_of (position a i j k) odd in
          let t = twice_half g.shape.n g.shape.g (record { cells = valid.shape.cells; guards = valid.shape.guards }) in
          three (λ a. i < longer_on a X g.shape.n → j < longer_on a Y g.shape.n → k < longer_on a Z g.shape.n → position a i j k % 2 ≡ 1 → (i < g.shape.n) × (j < g.shape.n) × (k < g.shape.n) × (0 < position a i j k))
          (λ p q r o. (omega arith, omega arith, omega arith, omega arith)) (λ p q r o. (omega arith, omega arith, omega arith, omega arith)) (λ p q r o. (omega arith, omega arith, omega arith, omega arith))
          a hi hj hk one

      odd_view : (a : Axis) (i j k : ℕ) → i < longer_on a X g.shape.n → j < longer_on a Y g.shape.n → k < longer_on a Z g.shape.n → is_even (position a i j k) ≡ false →
          faces_in g a (new a) (g.shape.g + i) (g.shape.g + j) (g.shape.g + k) ≡ face_view g field (name a i j k)
      unfolding split_face Calm
      odd_view a i j k hi hj hk odd =
          let n = g.shape.n in
          let e = g.shape.g in
          let is_size : IsSize n e = record { cells = valid.shape.cells; guards = valid.shape.guards } in
          let p = position a i j k in
          let s = is_kept_side n kept a p in
          let was = all_faces n e old a (e + i) (e + j) (e + k) in
          let its = face_part n e q a (faces_in g a (parent a)) i j k in
          let rule = face_between e a (all_faces n e new) i j k in
          let free = odd_no_side n e q kept is_size a p odd in
          let half = odd_inside n e is_size a i j k hi hj hk odd in
          let l = odd_among a i j k hi hj hk odd in
          let d = in_block n (child_block b q) i j k in
          let c = round (i / 2) (j / 2) (k / 2) half.0 half.1 half.2 in
          let o = i % 2 + 2 * (j % 2) + 4 * (k % 2) in
          let same : d ≡ sub_cell c o = sub_cell_of n b q i j k valid.shape.cells in
          let own = inner_calm a i j k l.0 l.1 l.2 l.3 in
          let inside = subst (Inside g.shape) same (child_inside g.shape b q valid.shape.cells domain i j k l.0 l.1 l.2) in
          let bx : (2 * c.x + o % 2) % 2 ≡ i % 2 = omega arith in
          let by : (2 * c.y + o / 2 % 2) % 2 ≡ j % 2 = omega arith in
          let bz : (2 * c.z + o / 4 % 2) % 2 ≡ k % 2 = omega arith in
          let one = odd_of p odd in
          let odd_there : on a (sub_cell c o) % 2 ≡ 1 = three (λ a. position a i j k % 2 ≡ 1 → on a (sub_cell c o) % 2 ≡ 1) (λ h. bx ∙ h) (λ h. by ∙ h) (λ h. bz ∙ h) a one in
          let view : face_view g field (face_of a (sub_cell c o)) ≡ inner_face (sides_of g (face_view g field) (face_numbers (parent_face (face_of a (sub_cell c o))))) a ((2 * c.x + o % 2) % 2) ((2 * c.y + o / 2 % 2) % 2) ((2 * c.z + o / 4 % 2) % 2) =
          view_inner g valid c.level (face_of a (sub_cell c o)) refl inside (subst (λ m. is_split_face g (face_of a m) ≡ false) same own.0) (subst (λ m. is_leaf_face g (face_of a m) ≡ false) same own.1) field odd_there in
          (split a).written i j k hi hj hk
          ∙ pick_rule s (is_even p) was its rule free odd
          ∙ ap (λ h. inner_face h a (i % 2) (j % 2) (k % 2)) (sides_are (i / 2) (j / 2) (k / 2) half.0 half.1 half.2)
          ∙ sym (view
          ∙ ap (λ m. inner_face (sides_of g (face_view g field) m) a ((2 * c.x + o % 2) % 2) ((2 * c.y + o / 2 % 2) % 2) ((2 * c.z + o / 4 % 2) % 2)) (parent_of_sub c o)
          ∙ ap (λ x. inner_face (sides_of g (face_view g field) c) a x ((2 * c.y + o / 2 % 2) % 2) ((2 * c.z + o / 4 % 2) % 2)) bx
          ∙ ap₂ (λ y z. inner_face (sides_of g (face_view g field) c) a (i % 2) y z) by bz)
          ∙ ap (λ m. face_view g field (face_of a m)) (sym same)
          ∙ ap (face_view g field) (sym (name_among a i j k l.0 l.1 l.2))

      pub all_view : (a : Axis) → HoldsFaces g field a (child_block b q) (faces_in g a (new a))
      all_view a = record {
        at = λ i j k hi hj hk. elim (cases_Bool (is_even (position a i j k))) [
          | inl even ↦ even_view a i j k hi hj hk even
          | inr odd ↦ odd_view a i j k hi hj hk odd
        ];
      }

-- a child of a block that is not split holds views
pub children_split : FaceChildrenAreSplit
children_split g field b q kept parent old new valid domain hq whole split views held others a = all_view g b q valid domain whole kept others field parent old new split views held a
