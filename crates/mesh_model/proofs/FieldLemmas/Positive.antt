-- Advect leaves no content below 0: what leaves a cell is at most its content.
use Rattle.std.proofs.Common.{leb-true, ◌≡◌, ℕ, zero, suc, ◌+◌, ◌-◌, ◌*◌, ◌/◌, ◌^◌, ◌<◌, ◌≤◌, Bool, true, false, ℤ, pos, negsuc, ◌+ℤ◌, ◌-ℤ◌, ◌*ℤ◌, ◌≤ℤ◌, refl, sym, ap, ◌∙◌, arith, inl, inr, subst, Option, Some, None}
use Rattle.std.specs.Prelude.{unwrap_or, ◌==◌, if◌then◌else◌, nat_lt, unsigned_abs, neg_ℤ, option_map}
use Rattle.std.proofs.Math.Nat.{mul-le-mul_left, mul-le-mul_right, div-mul-le_self}
use Rattle.std.proofs.Math.Pow.{pow_mono}
use Rattle.std.proofs.lemmas.Int.{ints}
use Rattle.std.proofs.lemmas.Bool.{cases_Bool}
use Rattle.amr_num.specs.declared.Axis.{Axis}
use Rattle.amr_num.specs.declared.Axis.TheVariants.{X, Y, Z}
use Rattle.amr_num.specs.declared.CellAt.{CellAt}
use Rattle.amr_num.specs.declared.FaceAt.{FaceAt}
use Rattle.amr_num.specs.Numbers.{sum_below, part, floor_div, floor_mod, carry}
use Rattle.amr_num.proofs.Parts.{sum_below_same}
use Rattle.mesh_model.proofs.FieldLemmas.Sums.{sum_below_sub}
use Rattle.mesh_model.specs.declared.geometry.Shape.{Shape}
use Rattle.mesh_model.specs.Geometry.Coordinates.{sub_cell, parent_cell, octant_of, sub_face, extent, on, with, moved, below, above, is_periodic, low_cell, high_cell, after, face_of, face_numbers, Inside}
use Rattle.mesh_model.specs.Tree.Kinds.{Grid, is_leaf, is_split, is_split_face}
use Rattle.mesh_model.specs.Fields.Plain.{Mesh}
use Rattle.mesh_model.specs.Tree.ValidGrid.{Valid}
use Rattle.mesh_model.specs.Fields.Valid.{ValidMesh}
use Rattle.mesh_model.specs.Fields.Views.{sum_down, view_at, cell_view, face_down}
use Rattle.mesh_model.specs.Fields.Circulation.{net_flux}
use Rattle.mesh_model.specs.Fields.Advect.{Speeds, speed, keeps_courant, below_or, above_or, donor, on_closed_side, leaf_flux, flux, advected, advect}
use Rattle.mesh_model.proofs.FieldLemmas.CellKinds.{Kinds, kinds_of_tiles, wide_of}
use Rattle.mesh_model.proofs.FieldLemmas.CellSums.{cell_view_sum}
use Rattle.mesh_model.proofs.FieldLemmas.FaceSums as faces
use Rattle.mesh_model.proofs.FieldLemmas.LeafFaces.{face_top, low_here, high_here}
use Rattle.mesh_model.proofs.FieldLemmas.Slots.{octant_beside, low_cell_sub, high_cell_sub}
use Rattle.mesh_model.proofs.FieldLemmas.Totals.{view_of_leaf}

-- ---- numbers that are not negative

sum_low : (k : ℕ) (f : ℕ → ℤ) → ((q : ℕ) → q < k → pos 0 ≤ℤ f q) → pos 0 ≤ℤ sum_below k f
sum_low zero f h = omega (arith, ints)
sum_low (suc k) f h = let here = sum_low k f (λ q p. h q (omega arith)) in let last = h k (omega arith) in omega (arith, ints)

part_low : (q k : ℕ) (n : ℤ) → pos 0 ≤ℤ n → pos 0 ≤ℤ part q n k
unfolding part
part_low q k (negsuc a) h = absurd (omega (arith, ints))
part_low q k (pos a) h = elim (cases_Bool (nat_lt q (floor_mod (pos a) k))) [
  | inl t ↦ rw t (omega (arith, ints))
  | inr f ↦ rw f (omega (arith, ints))
]

-- what a amount m at level l carries of v, in parts of 2^20
carried : ℕ → ℤ → ℤ
carried a v = floor_div (pos a *ℤ v) (2 ^ 20)

carried_low : (a : ℕ) (v : ℤ) → pos 0 ≤ℤ v → pos 0 ≤ℤ carried a v
unfolding carried
carried_low a (negsuc v) h = absurd (omega (arith, ints))
carried_low a (pos v) h = omega (arith, ints)

carried_high : (a b : ℕ) (v : ℤ) → a ≤ b → pos 0 ≤ℤ v → (carried a v *ℤ pos 1048576) ≤ℤ (pos b *ℤ v)
unfolding carried
carried_high a b (negsuc v) le h = absurd (omega (arith, ints))
carried_high a b (pos v) le h =
    let more : a * v ≤ b * v = mul-le-mul_right v le in
    let down : a * v / 1048576 * 1048576 ≤ a * v = div-mul-le_self (a * v) 1048576 in
    omega (arith, ints)

times_low : (a : ℕ) (v : ℤ) → pos 0 ≤ℤ v → pos 0 ≤ℤ (pos a *ℤ v)
times_low a v h = grind (arith, ints)

four_share : (a : ℕ) (p q r s v : ℤ) → pos 0 ≤ℤ p → pos 0 ≤ℤ q → pos 0 ≤ℤ r → pos 0 ≤ℤ s → (pos 0 +ℤ p +ℤ q +ℤ r +ℤ s) ≤ℤ v → (pos a *ℤ p +ℤ pos a *ℤ q +ℤ pos a *ℤ r +ℤ pos a *ℤ s) ≤ℤ (pos a *ℤ v)
four_share a (pos p) (pos q) (pos r) (pos s) (pos v) hp hq hr hs h =
    let le : p + q + r + s ≤ v = omega (arith, ints) in
    let more : a * (p + q + r + s) ≤ a * v = mul-le-mul_left a le in
    let apart : a * (p + q + r + s) ≡ a * p + a * q + a * r + a * s = grind arith in
    omega (arith, ints)
four_share a (negsuc p) q r s v hp hq hr hs h = absurd (omega (arith, ints))
four_share a (pos p) (negsuc q) r s v hp hq hr hs h = absurd (omega (arith, ints))
four_share a (pos p) (pos q) (negsuc r) s v hp hq hr hs h = absurd (omega (arith, ints))
four_share a (pos p) (pos q) (pos r) (negsuc s) v hp hq hr hs h = absurd (omega (arith, ints))
four_share a (pos p) (pos q) (pos r) (pos s) (negsuc v) hp hq hr hs h = absurd (omega (arith, ints))

four_bound : (a : ℕ) (u v : ℕ → ℤ) (w : ℤ) → ((q : ℕ) → q < 4 → (u q *ℤ pos 1048576) ≤ℤ (pos a *ℤ v q)) → ((q : ℕ) → q < 4 → pos 0 ≤ℤ v q) → sum_below 4 v ≤ℤ w → (sum_below 4 u *ℤ pos 1048576) ≤ℤ (pos a *ℤ w)
four_bound a u v w h low le =
    let share = four_share a (v 0) (v 1) (v 2) (v 3) w (low 0 (omega arith)) (low 1 (omega arith)) (low 2 (omega arith)) (low 3 (omega arith)) le in
    let h0 = h 0 (omega arith) in let h1 = h 1 (omega arith) in let h2 = h 2 (omega arith) in let h3 = h 3 (omega arith) in
    omega (arith, ints, share, h0, h1, h2, h3)

-- four octants on one side have at most what all eight have
four_of_eight : (a : Axis) (h : ℕ) (u : ℕ → ℤ) → h < 2 → ((q : ℕ) → pos 0 ≤ℤ u q) → sum_below 4 (λ q. u (octant_beside a h q)) ≤ℤ sum_below 8 u
four_of_eight X zero u p low = omega (arith, ints, low 1, low 3, low 5, low 7)
four_of_eight X (suc zero) u p low = omega (arith, ints, low 0, low 2, low 4, low 6)
four_of_eight Y zero u p low = omega (arith, ints, low 2, low 3, low 6, low 7)
four_of_eight Y (suc zero) u p low = omega (arith, ints, low 0, low 1, low 4, low 5)
four_of_eight Z zero u p low = omega (arith, ints, low 4, low 5, low 6, low 7)
four_of_eight Z (suc zero) u p low = omega (arith, ints, low 0, low 1, low 2, low 3)
four_of_eight a (suc (suc h)) u p low = absurd (omega arith)

-- under the Courant limit the speeds move at most one finest cell
courant_says : (s : Shape) (n : Speeds) → keeps_courant s n ≡ true → (unsigned_abs n.x + unsigned_abs n.y + unsigned_abs n.z) * 2 ^ s.max ≤ 2 ^ 20
unfolding keeps_courant
courant_says s n h = leb-true _ _ h

-- ---- views of contents that are not negative

module _ (g : Grid) (content : CellAt → ℤ) (low : (c : CellAt) → pos 0 ≤ℤ content c) where
  down_low : (d : ℕ) (c : CellAt) → pos 0 ≤ℤ sum_down g content d c
  unfolding sum_down
  down_low zero c = low c
  down_low (suc d) c = elim (cases_Bool (is_split g c)) [
    | inl t ↦ rw (t, sum_down) (sum_low 8 _ (λ q p. down_low d (sub_cell c q)))
    | inr n ↦ rw (n, sum_down) (low c)
  ]

  at_low : (l : ℕ) (c : CellAt) → pos 0 ≤ℤ view_at g content l c
  unfolding view_at
  at_low zero c = elim (cases_Bool (is_split g c)) [
    | inl t ↦ rw (t, view_at) (down_low (10 - c.level) c)
    | inr n ↦ rw (n, view_at) (low c)
  ]
  at_low (suc l) c = elim (cases_Bool (is_split g c)) [
    | inl t ↦ rw (t, view_at) (down_low (10 - c.level) c)
    | inr n ↦ elim (cases_Bool (is_leaf g c)) [
      | inl t ↦ rw (n, view_at) (rw t (low c))
      | inr f ↦ rw (n, view_at) (rw f (part_low (octant_of c) 8 (view_at g content l (parent_cell c)) (at_low l (parent_cell c))))
    ]
  ]

  pub view_low : (c : CellAt) → pos 0 ≤ℤ cell_view g content c
  view_low c = at_low c.level c

-- ---- bounds on what flows through the faces of one axis

module _ (g : Grid) (kinds : Kinds g) (wide : (a : Axis) (l : ℕ) → 0 < extent g.shape a l) (a : Axis) (w : FaceAt → ℤ) where
  flow_low : ((f : FaceAt) → f.axis ≡ a → pos 0 ≤ℤ w f) → (d : ℕ) (f : FaceAt) → f.axis ≡ a → pos 0 ≤ℤ face_down g w d f
  unfolding face_down
  flow_low leaf zero f e = leaf f e
  flow_low leaf (suc d) f e = elim (cases_Bool (is_split_face g f)) [
    | inl s ↦ subst (λ u. pos 0 ≤ℤ u) (sym (faces.down_split g kinds.tree wide w d f s)) (sum_low 4 (λ q. face_down g w d (sub_face f q)) (λ q p. flow_low leaf d (sub_face f q) e))
    | inr n ↦ subst (λ u. pos 0 ≤ℤ u) (sym (faces.down_whole g kinds.tree wide w (suc d) f n)) (leaf f e)
  ]

  down_neg : (d : ℕ) (f : FaceAt) → face_down g (λ s. pos 0 -ℤ w s) d f ≡ pos 0 -ℤ face_down g w d f
  unfolding face_down
  down_neg zero f = refl
  down_neg (suc d) f = elim (cases_Bool (is_split_face g f)) [
    | inl s ↦
        faces.down_split g kinds.tree wide (λ t. pos 0 -ℤ w t) d f s
        ∙ sum_below_same 4 _ _ (λ q p. down_neg d (sub_face f q))
        ∙ sum_below_sub 4 (λ q. pos 0) (λ q. face_down g w d (sub_face f q))
        ∙ sym (ap (λ u. pos 0 -ℤ u) (faces.down_split g kinds.tree wide w d f s))
    | inr n ↦
        faces.down_whole g kinds.tree wide (λ t. pos 0 -ℤ w t) (suc d) f n
        ∙ sym (ap (λ u. pos 0 -ℤ u) (faces.down_whole g kinds.tree wide w (suc d) f n))
  ]

  module _ (view : CellAt → ℤ) (view_at_least : (c : CellAt) → pos 0 ≤ℤ view c) (adds : (c : CellAt) → view c ≡ sum_below 8 (λ q. view (sub_cell c q)))
      (m side : ℕ) (two : side < 2) (beside : FaceAt → Option CellAt)
      (beside_sub : (f : FaceAt) (q : ℕ) → beside (sub_face f q) ≡ option_map (λ c. sub_cell c (octant_beside f.axis side q)) (beside f))
      (leaf_high : (f : FaceAt) (c : CellAt) → f.axis ≡ a → f.level ≤ g.shape.max → beside f ≡ Some c → (w f *ℤ pos 1048576) ≤ℤ (pos m *ℤ view c)) where
    four_views : (c : CellAt) (b : Axis) → sum_below 4 (λ q. view (sub_cell c (octant_beside b side q))) ≤ℤ view c
    four_views c b = subst (λ v. sum_below 4 (λ q. view (sub_cell c (octant_beside b side q))) ≤ℤ v) (sym (adds c)) (four_of_eight b side (λ q. view (sub_cell c q)) two (λ q. view_at_least (sub_cell c q)))

    flow_high : (d : ℕ) (f : FaceAt) (c : CellAt) → f.axis ≡ a → f.level ≤ g.shape.max → beside f ≡ Some c → (face_down g w d f *ℤ pos 1048576) ≤ℤ (pos m *ℤ view c)
    unfolding face_down
    flow_high zero f c e l b = leaf_high f c e l b
    flow_high (suc d) f c e l b = elim (cases_Bool (is_split_face g f)) [
      | inl s ↦
          let top = face_top g kinds f s in
          subst (λ u. (u *ℤ pos 1048576) ≤ℤ (pos m *ℤ view c)) (sym (faces.down_split g kinds.tree wide w d f s))
          (four_bound m (λ q. face_down g w d (sub_face f q)) (λ q. view (sub_cell c (octant_beside f.axis side q))) (view c)
          (λ q p. flow_high d (sub_face f q) (sub_cell c (octant_beside f.axis side q)) e top (beside_sub f q ∙ ap (option_map (λ x. sub_cell x (octant_beside f.axis side q))) b))
          (λ q p. view_at_least (sub_cell c (octant_beside f.axis side q)))
          (four_views c f.axis))
      | inr n ↦ subst (λ u. (u *ℤ pos 1048576) ≤ℤ (pos m *ℤ view c)) (sym (faces.down_whole g kinds.tree wide w (suc d) f n)) (leaf_high f c e l b)
    ]

-- ---- the donor is the cell beside the face

or_else : CellAt → Option CellAt → CellAt
or_else d None = d
or_else d (Some c) = c

some_same : (c d : CellAt) → Some c ≡ Some d → c ≡ d
unfolding or_else
some_same c d h = ap (or_else d) h

donor_from : (a : Axis) (o : Option ℕ) (other : ℕ) (c d : CellAt) → moved a o c ≡ Some d → with a (unwrap_or o other) c ≡ d
donor_from a None other c d h = cc
donor_from a (Some p) other c d h = some_same _ _ h

donor_low : (a : Axis) (b : Bool) (e p : ℕ) (c d : CellAt) → moved a (below b e p) c ≡ Some d → with a (below_or b e p) c ≡ d
donor_low a b e p c d h = donor_from a (below b e p) 0 c d h

donor_high : (a : Axis) (b : Bool) (e p : ℕ) (c d : CellAt) → moved a (above b e p) c ≡ Some d → with a (above_or b e p) c ≡ d
donor_high a b e p c d h = donor_from a (above b e p) (e - 1) c d h

neg_neg : (x : ℤ) → pos 0 -ℤ neg_ℤ x ≡ x
neg_neg x = omega (arith, ints)

module _ (g : Grid) (content : CellAt → ℤ) (n : Speeds) (low : (c : CellAt) → pos 0 ≤ℤ content c) where
  closed_or : (sp : ℤ) (f : FaceAt) → speed n f.axis ≡ sp → leaf_flux g content n f ≡ (if on_closed_side g.shape f then pos 0 else carry sp f.level (cell_view g content (donor g.shape sp f)))
  closed_or sp f e = ap (λ s. if on_closed_side g.shape f then pos 0 else carry s f.level (cell_view g content (donor g.shape s f))) e

  forth_low : (k : ℕ) (f : FaceAt) → speed n f.axis ≡ pos k → pos 0 ≤ℤ leaf_flux g content n f
  unfolding carry carried
  forth_low k f e = subst (λ u. pos 0 ≤ℤ u) (sym (closed_or (pos k) f e)) (elim (cases_Bool (on_closed_side g.shape f)) [
    | inl t ↦ rw t (omega (arith, ints))
    | inr o ↦ rw o (carried_low (k * 2 ^ f.level) (cell_view g content (donor g.shape (pos k) f)) (view_low g content low (donor g.shape (pos k) f)))
  ])

  forth_high : (k : ℕ) (f : FaceAt) (c : CellAt) → speed n f.axis ≡ pos k → f.level ≤ g.shape.max → low_cell g.shape f ≡ Some c → (leaf_flux g content n f *ℤ pos 1048576) ≤ℤ (pos (k * 2 ^ g.shape.max) *ℤ cell_view g content c)
  unfolding carry carried
  forth_high k f c e l b =
      let from : donor g.shape (pos k) f ≡ c = donor_low f.axis (is_periodic g.shape f.axis) (extent g.shape f.axis f.level) (on f.axis (face_numbers f)) (face_numbers f) c b in
      subst (λ u. (u *ℤ pos 1048576) ≤ℤ (pos (k * 2 ^ g.shape.max) *ℤ cell_view g content c)) (sym (closed_or (pos k) f e)) (elim (cases_Bool (on_closed_side g.shape f)) [
        | inl t ↦ rw t (let p = times_low (k * 2 ^ g.shape.max) (cell_view g content c) (view_low g content low c) in omega (arith, ints, p))
        | inr o ↦ rw (o, from) (carried_high (k * 2 ^ f.level) (k * 2 ^ g.shape.max) (cell_view g content c) (mul-le-mul_left k (pow_mono l)) (view_low g content low c))
      ])

  back_low : (k : ℕ) (f : FaceAt) → speed n f.axis ≡ negsuc k → pos 0 ≤ℤ (pos 0 -ℤ leaf_flux g content n f)
  unfolding carry carried
  back_low k f e = subst (λ u. pos 0 ≤ℤ (pos 0 -ℤ u)) (sym (closed_or (negsuc k) f e)) (elim (cases_Bool (on_closed_side g.shape f)) [
    | inl t ↦ rw t (omega (arith, ints))
    | inr o ↦ rw o (subst (λ u. pos 0 ≤ℤ u) (sym (neg_neg (carried (suc k * 2 ^ f.level) (cell_view g content (donor g.shape (negsuc k) f))))) (carried_low (suc k * 2 ^ f.level) (cell_view g content (donor g.shape (negsuc k) f)) (view_low g content low (donor g.shape (negsuc k) f))))
  ])

  back_high : (k : ℕ) (f : FaceAt) (c : CellAt) → speed n f.axis ≡ negsuc k → f.level ≤ g.shape.max → high_cell g.shape f ≡ Some c → ((pos 0 -ℤ leaf_flux g content n f) *ℤ pos 1048576) ≤ℤ (pos (suc k * 2 ^ g.shape.max) *ℤ cell_view g content c)
  unfolding carry carried
  back_high k f c e l b =
      let from : donor g.shape (negsuc k) f ≡ c = donor_high f.axis (is_periodic g.shape f.axis) (extent g.shape f.axis f.level) (on f.axis (face_numbers f)) (face_numbers f) c b in
      subst (λ u. ((pos 0 -ℤ u) *ℤ pos 1048576) ≤ℤ (pos (suc k * 2 ^ g.shape.max) *ℤ cell_view g content c)) (sym (closed_or (negsuc k) f e)) (elim (cases_Bool (on_closed_side g.shape f)) [
        | inl t ↦ rw t (let p = times_low (suc k * 2 ^ g.shape.max) (cell_view g content c) (view_low g content low c) in omega (arith, ints, p))
        | inr o ↦ rw (o, from) (subst (λ u. (u *ℤ pos 1048576) ≤ℤ (pos (suc k * 2 ^ g.shape.max) *ℤ cell_view g content c)) (sym (neg_neg (carried (suc k * 2 ^ f.level) (cell_view g content c)))) (carried_high (suc k * 2 ^ f.level) (suc k * 2 ^ g.shape.max) (cell_view g content c) (mul-le-mul_left (suc k) (pow_mono l)) (view_low g content low c)))
      ])

-- ---- what leaves a leaf cell

forth_axis : (high low : ℤ) (m : ℕ) (v : ℤ) → (high *ℤ pos 1048576) ≤ℤ (pos m *ℤ v) → pos 0 ≤ℤ low → ((high -ℤ low) *ℤ pos 1048576) ≤ℤ (pos m *ℤ v)
forth_axis high low m v h l = omega (arith, ints)

back_axis : (high low : ℤ) (m : ℕ) (v : ℤ) → pos 0 ≤ℤ (pos 0 -ℤ high) → ((pos 0 -ℤ low) *ℤ pos 1048576) ≤ℤ (pos m *ℤ v) → ((high -ℤ low) *ℤ pos 1048576) ≤ℤ (pos m *ℤ v)
back_axis high low m v h l = omega (arith, ints)

enough : (a b c m : ℕ) (x y z v : ℤ) → (a + b + c) * m ≤ 1048576 → pos 0 ≤ℤ v → (x *ℤ pos 1048576) ≤ℤ (pos (a * m) *ℤ v) → (y *ℤ pos 1048576) ≤ℤ (pos (b * m) *ℤ v) → (z *ℤ pos 1048576) ≤ℤ (pos (c * m) *ℤ v) → pos 0 ≤ℤ (v -ℤ (x +ℤ y +ℤ z))
enough a b c m x y z (negsuc v) s h hx hy hz = absurd (omega (arith, ints))
enough a b c m x y z (pos v) s h hx hy hz =
    let more : (a + b + c) * m * v ≤ 1048576 * v = mul-le-mul_right v s in
    let apart : (a + b + c) * m * v ≡ a * m * v + b * m * v + c * m * v = grind arith in
    omega (arith, ints)

axis_level : (s : Shape) (a : Axis) (c : CellAt) → (after s a c).level ≡ c.level
axis_level s X c = refl
axis_level s Y c = refl
axis_level s Z c = refl

module _ (g : Grid) (valid : Valid g) (content : CellAt → ℤ) (n : Speeds) (low : (c : CellAt) → pos 0 ≤ℤ content c) where
  kinds : Kinds g
  kinds = kinds_of_tiles g valid.tiles valid.shape

  wide : (a : Axis) (l : ℕ) → 0 < extent g.shape a l
  wide = wide_of g.shape valid.shape

  by_axis : (a : Axis) (f : FaceAt) → f.axis ≡ a → (sp : ℤ) → speed n a ≡ sp → speed n f.axis ≡ sp
  by_axis a f e sp h = ap (speed n) e ∙ h

  module _ (c : CellAt) (i : Inside g.shape c) (leaf : is_leaf g c ≡ true) where
    -- on one axis at most its share of the content leaves
    axis_out : (a : Axis) (sp : ℤ) → speed n a ≡ sp → ((flux g content n (face_of a (after g.shape a c)) -ℤ flux g content n (face_of a c)) *ℤ pos 1048576) ≤ℤ (pos (unsigned_abs sp * 2 ^ g.shape.max) *ℤ cell_view g content c)
    axis_out a (pos k) e =
        let lf = leaf_flux g content n in
        let down = face_of a c in
        let up = face_of a (after g.shape a c) in
        forth_axis (flux g content n up) (flux g content n down) (k * 2 ^ g.shape.max) (cell_view g content c)
        (flow_high g kinds wide a lf (cell_view g content) (view_low g content low) (cell_view_sum g content kinds.tree) (k * 2 ^ g.shape.max) 1 (omega arith) (low_cell g.shape) (λ f q. low_cell_sub g.shape f q (wide f.axis f.level))
        (λ f d ax lv b. forth_high g content n low k f d (by_axis a f ax (pos k) e) lv b)
        (10 - up.level) up c refl (subst (λ l. l ≤ g.shape.max) (sym (axis_level g.shape a c)) (kinds.leaf_top c leaf)) (low_here g.shape a c i))
        (flow_low g kinds wide a lf (λ f ax. forth_low g content n low k f (by_axis a f ax (pos k) e)) (10 - down.level) down refl)
    axis_out a (negsuc k) e =
        let lf = leaf_flux g content n in
        let back = λ (f : FaceAt). pos 0 -ℤ leaf_flux g content n f in
        let down = face_of a c in
        let up = face_of a (after g.shape a c) in
        back_axis (flux g content n up) (flux g content n down) (suc k * 2 ^ g.shape.max) (cell_view g content c)
        (subst (λ u. pos 0 ≤ℤ u) (down_neg g kinds wide a lf (10 - up.level) up) (flow_low g kinds wide a back (λ f ax. back_low g content n low k f (by_axis a f ax (negsuc k) e)) (10 - up.level) up refl))
        (subst (λ u. (u *ℤ pos 1048576) ≤ℤ (pos (suc k * 2 ^ g.shape.max) *ℤ cell_view g content c)) (down_neg g kinds wide a lf (10 - down.level) down)
        (flow_high g kinds wide a back (cell_view g content) (view_low g content low) (cell_view_sum g content kinds.tree) (suc k * 2 ^ g.shape.max) 0 (omega arith) (high_cell g.shape) (λ f q. high_cell_sub g.shape f q)
        (λ f d ax lv b. back_high g content n low k f d (by_axis a f ax (negsuc k) e) lv b)
        (10 - down.level) down c refl (kinds.leaf_top c leaf) (high_here g.shape a c i)))

    pub content_stays_low : keeps_courant g.shape n ≡ true → pos 0 ≤ℤ (content c -ℤ net_flux g (flux g content n) c)
    content_stays_low courant =
        let along = λ (a : Axis). flux g content n (face_of a (after g.shape a c)) -ℤ flux g content n (face_of a c) in
        subst (λ v. pos 0 ≤ℤ (v -ℤ net_flux g (flux g content n) c)) (view_of_leaf g kinds content c leaf)
        (enough (unsigned_abs n.x) (unsigned_abs n.y) (unsigned_abs n.z) (2 ^ g.shape.max) (along X) (along Y) (along Z) (cell_view g content c) (courant_says g.shape n courant) (view_low g content low c)
        (axis_out X n.x refl) (axis_out Y n.y refl) (axis_out Z n.z refl))

  -- contents of at least 0 stay so
  pub advected_low : keeps_courant g.shape n ≡ true → (c : CellAt) → pos 0 ≤ℤ advected g content n c
  advected_low courant c = elim (cases_Bool (is_leaf g c)) [
    | inl t ↦ rw t (content_stays_low c (kinds.leaf_range c t) t courant)
    | inr f ↦ rw f (omega (arith, ints))
  ]

-- where no content of a variable is below 0, none is after an advect
pub advect_stays_low : (m : Mesh) (var : ℕ) (n : Speeds) → ValidMesh m → keeps_courant m.grid.shape n ≡ true → (v : ℕ) → ((c : CellAt) → pos 0 ≤ℤ m.cells v c) → (c : CellAt) → pos 0 ≤ℤ (advect m var n).cells v c
advect_stays_low m var n valid courant v low c = elim (cases_Bool (v == var)) [
  | inl t ↦ rw t (advected_low m.grid valid.grid (m.cells v) n low courant c)
  | inr f ↦ rw f (low c)
]
