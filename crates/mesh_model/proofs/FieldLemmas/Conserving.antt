-- Advect keeps total plus out.
use Rattle.std.proofs.Common.{◌≡◌, ℕ, suc, ◌-◌, ◌*◌, ◌<◌, true, false, ◌||◌, ◌&&◌, not, ◌==◌, ℤ, pos, ◌+ℤ◌, ◌-ℤ◌, refl, sym, ap, ap₂, ◌∙◌, arith, inl, inr}
use Rattle.std.specs.Prelude.{if◌then◌else◌}
use Rattle.std.proofs.lemmas.Int.{ints}
use Rattle.std.proofs.lemmas.Bool.{cases_Bool}
use Rattle.std.proofs.lemmas.Bool.Decides.{nat_tests}
use Rattle.amr_num.specs.declared.Axis.{Axis}
use Rattle.amr_num.specs.declared.Axis.TheVariants.{X, Y, Z}
use Rattle.amr_num.specs.declared.CellAt.{CellAt}
use Rattle.amr_num.specs.declared.FaceAt.{FaceAt}
use Rattle.amr_num.specs.Numbers.{sum_below}
use Rattle.amr_num.proofs.Parts.{sum_below_same}
use Rattle.mesh_model.specs.declared.geometry.Shape.{Shape}
use Rattle.mesh_model.specs.Geometry.Coordinates.{sub_face, extent, is_periodic, on, wrapped, after, face_of, face_numbers, Inside}
use Rattle.mesh_model.specs.Tree.Kinds.{Grid, is_leaf}
use Rattle.mesh_model.specs.Fields.Plain.{Mesh}
use Rattle.mesh_model.specs.Tree.ValidGrid.{Valid}
use Rattle.mesh_model.specs.Fields.Valid.{ValidMesh}
use Rattle.mesh_model.specs.Fields.Views.{face_down, face_view}
use Rattle.mesh_model.specs.Fields.Circulation.{net_flux}
use Rattle.mesh_model.specs.Fields.Totals.{box_sum, level_sum, leaf_sum, total}
use Rattle.mesh_model.specs.Fields.Advect.{Speeds, on_outer_side, on_outer, leaf_flux, flux, advected, outflow, advect}
use Rattle.mesh_model.proofs.FieldLemmas.Adding.{Summed, net_flux_sum}
use Rattle.mesh_model.proofs.FieldLemmas.CellKinds.{Kinds, kinds_of_tiles, wide_of}
use Rattle.mesh_model.proofs.FieldLemmas.LeafFaces.{Seen, seen_low, seen_high, face_adds, down_is_view}
use Rattle.mesh_model.proofs.FieldLemmas.Totals.{total_by_levels}
use Rattle.mesh_model.proofs.FieldLemmas.LeafSums.{leaf_sum_is, leaf_same, leaf_add, leaf_sub, leaf_twice, level_add}
use Rattle.mesh_model.proofs.FieldLemmas.Slots.{position_double, extent_double}
use Rattle.mesh_model.proofs.FieldLemmas.Sums.{round, sum_below_zero, sum_below_sub}

-- ---- a face field with nothing on the outer sides has no net flux over a level

pub Dry : Shape → (FaceAt → ℤ) → Type 0
Dry s at = (f : FaceAt) → on_outer_side s f ≡ true → at f ≡ pos 0

low_end : (s : Shape) (f : FaceAt) → is_periodic s f.axis ≡ false → on f.axis (face_numbers f) ≡ 0 → on_outer_side s f ≡ true
unfolding on_outer_side
low_end s f h e = rw (h, e) refl

high_end : (s : Shape) (f : FaceAt) → is_periodic s f.axis ≡ false → on f.axis (face_numbers f) ≡ extent s f.axis f.level → on_outer_side s f ≡ true
unfolding on_outer_side
high_end s f h e = grind (arith, nat_tests)

module _ (g : Grid) (at : FaceAt → ℤ) (dry : Dry g.shape at) (l : ℕ) where
  at_x : ℕ → ℕ → ℕ → ℤ
  at_x p y z = at (record { axis = X; level = l; x = p; y = y; z = z })

  at_y : ℕ → ℕ → ℕ → ℤ
  at_y x p z = at (record { axis = Y; level = l; x = x; y = p; z = z })

  at_z : ℕ → ℕ → ℕ → ℤ
  at_z x y p = at (record { axis = Z; level = l; x = x; y = y; z = p })

  -- on an axis that does not wrap both ends are dry
  low_dry : (a : Axis) → is_periodic g.shape a ≡ false → (x y z : ℕ) → on a (record { level = l; x = x; y = y; z = z }) ≡ 0 → at (record { axis = a; level = l; x = x; y = y; z = z }) ≡ pos 0
  unfolding Dry
  low_dry a h x y z e = dry (record { axis = a; level = l; x = x; y = y; z = z }) (low_end g.shape (record { axis = a; level = l; x = x; y = y; z = z }) h e)

  high_dry : (a : Axis) → is_periodic g.shape a ≡ false → (x y z : ℕ) → on a (record { level = l; x = x; y = y; z = z }) ≡ extent g.shape a l → at (record { axis = a; level = l; x = x; y = y; z = z }) ≡ pos 0
  unfolding Dry
  high_dry a h x y z e = dry (record { axis = a; level = l; x = x; y = y; z = z }) (high_end g.shape (record { axis = a; level = l; x = x; y = y; z = z }) h e)

  none_x : level_sum g.shape l (λ c. at (face_of X (after g.shape X c)) -ℤ at (face_of X c)) ≡ pos 0
  unfolding box_sum at_x
  none_x =
      let ex = extent g.shape X l in let ey = extent g.shape Y l in let ez = extent g.shape Z l in
      sum_below_zero ez _ (λ z hz. sum_below_zero ey _ (λ y hy.
      round (is_periodic g.shape X) ex (λ p. at_x p y z)
      (λ h. (low_dry X h 0 y z refl, high_dry X h ex y z refl))))

  none_y : level_sum g.shape l (λ c. at (face_of Y (after g.shape Y c)) -ℤ at (face_of Y c)) ≡ pos 0
  unfolding box_sum at_y
  none_y =
      let ex = extent g.shape X l in let ey = extent g.shape Y l in let ez = extent g.shape Z l in
      sum_below_zero ez _ (λ z hz.
      sum_below_same ey _ _ (λ y hy. sum_below_sub ex (λ x. at_y x (wrapped (is_periodic g.shape Y) ey (suc y)) z) (λ x. at_y x y z))
      ∙ round (is_periodic g.shape Y) ey (λ p. sum_below ex (λ x. at_y x p z))
      (λ h. (sum_below_zero ex (λ x. at_y x 0 z) (λ x hx. low_dry Y h x 0 z refl), sum_below_zero ex (λ x. at_y x ey z) (λ x hx. high_dry Y h x ey z refl))))

  none_z : level_sum g.shape l (λ c. at (face_of Z (after g.shape Z c)) -ℤ at (face_of Z c)) ≡ pos 0
  unfolding box_sum at_z
  none_z =
      let ex = extent g.shape X l in let ey = extent g.shape Y l in let ez = extent g.shape Z l in
      sum_below_same ez _ _ (λ z hz.
      sum_below_same ey _ _ (λ y hy. sum_below_sub ex (λ x. at_z x y (wrapped (is_periodic g.shape Z) ez (suc z))) (λ x. at_z x y z))
      ∙ sum_below_sub ey (λ y. sum_below ex (λ x. at_z x y (wrapped (is_periodic g.shape Z) ez (suc z)))) (λ y. sum_below ex (λ x. at_z x y z)))
      ∙ round (is_periodic g.shape Z) ez (λ p. sum_below ey (λ y. sum_below ex (λ x. at_z x y p)))
      (λ h. (sum_below_zero ey (λ y. sum_below ex (λ x. at_z x y 0)) (λ y hy. sum_below_zero ex (λ x. at_z x y 0) (λ x hx. low_dry Z h x y 0 refl)), sum_below_zero ey (λ y. sum_below ex (λ x. at_z x y ez)) (λ y hy. sum_below_zero ex (λ x. at_z x y ez) (λ x hx. high_dry Z h x y ez refl))))

  pub level_dry : level_sum g.shape l (net_flux g at) ≡ pos 0
  level_dry =
      let x = λ (c : CellAt). at (face_of X (after g.shape X c)) -ℤ at (face_of X c) in
      let y = λ (c : CellAt). at (face_of Y (after g.shape Y c)) -ℤ at (face_of Y c) in
      let z = λ (c : CellAt). at (face_of Z (after g.shape Z c)) -ℤ at (face_of Z c) in
      level_add g.shape l (λ c. x c +ℤ y c) z ∙ ap₂ (λ a b. a +ℤ b) (level_add g.shape l x y ∙ ap₂ (λ a b. a +ℤ b) none_x none_y) none_z

-- ---- a face on an outer side has its subfaces there, and no other has

twice_same : (p e : ℕ) → (2 * p == 2 * e) ≡ (p == e)
twice_same p e = grind (arith, nat_tests)

outer_sub : (s : Shape) (f : FaceAt) (q : ℕ) → on_outer_side s (sub_face f q) ≡ on_outer_side s f
unfolding on_outer_side
outer_sub s f q =
    let p = on f.axis (face_numbers f) in
    let e = extent s f.axis f.level in
    ap₂ (λ m n. not (is_periodic s f.axis) && ((m == 0) || (m == n))) (position_double f.axis f.level f.x f.y f.z q) (extent_double s f.axis f.level)
    ∙ ap₂ (λ a b. not (is_periodic s f.axis) && (a || b)) (twice_same p 0) (twice_same p e)

-- a face field on the faces that are on no outer side
pub on_inner : Shape → (FaceAt → ℤ) → FaceAt → ℤ
on_inner s at f = if on_outer_side s f then pos 0 else at f

module _ (s : Shape) (at : FaceAt → ℤ) where
  inner_dry : (f : FaceAt) → on_outer_side s f ≡ true → on_inner s at f ≡ pos 0
  unfolding on_inner
  inner_dry f h = rw h refl

  inner_same : (f : FaceAt) → on_outer_side s f ≡ false → on_inner s at f ≡ at f
  unfolding on_inner
  inner_same f h = rw h refl

  outer_same : (f : FaceAt) → on_outer_side s f ≡ true → on_outer s at f ≡ at f
  outer_same f h = rw h refl

  outer_none : (f : FaceAt) → on_outer_side s f ≡ false → on_outer s at f ≡ pos 0
  outer_none f h = rw h refl

  inner_adds : (f : FaceAt) → at f ≡ sum_below 4 (λ r. at (sub_face f r)) → on_inner s at f ≡ sum_below 4 (λ r. on_inner s at (sub_face f r))
  inner_adds f adds = elim (cases_Bool (on_outer_side s f)) [
    | inl t ↦ inner_dry f t ∙ sym (sum_below_zero 4 _ (λ r p. inner_dry (sub_face f r) (outer_sub s f r ∙ t)))
    | inr n ↦ inner_same f n ∙ adds ∙ sym (sum_below_same 4 _ _ (λ r p. inner_same (sub_face f r) (outer_sub s f r ∙ n)))
  ]

-- the field in its two parts
two_parts : (s : Shape) (at view : FaceAt → ℤ) (f : FaceAt) → at f ≡ view f → at f ≡ on_outer s at f +ℤ on_inner s view f
two_parts s at view f e = elim (cases_Bool (on_outer_side s f)) [
  | inl t ↦ let a = outer_same s at f t in let b = inner_dry s view f t in omega (arith, ints, a, b)
  | inr n ↦ let a = outer_none s at f n in let b = inner_same s view f n in omega (arith, ints, a, b, e)
]

pub net_plus : (g : Grid) (at u v : FaceAt → ℤ) (c : CellAt) → ((a : Axis) → at (face_of a c) ≡ u (face_of a c) +ℤ v (face_of a c)) → ((a : Axis) → at (face_of a (after g.shape a c)) ≡ u (face_of a (after g.shape a c)) +ℤ v (face_of a (after g.shape a c))) → net_flux g at c ≡ net_flux g u c +ℤ net_flux g v c
net_plus g at u v c low high = omega (arith, ints, low X, low Y, low Z, high X, high Y, high Z)

module _ (g : Grid) (valid : Valid g) where
  kinds : Kinds g
  kinds = kinds_of_tiles g valid.tiles valid.shape

  wide : (a : Axis) (l : ℕ) → 0 < extent g.shape a l
  wide = wide_of g.shape valid.shape

  module _ (number : FaceAt → ℤ) where
    pub flow : FaceAt → ℤ
    flow f = face_down g number (10 - f.level) f

    inner : FaceAt → ℤ
    inner = on_inner g.shape (face_view g number)

    summed : (c : CellAt) → Summed g inner c
    unfolding inner
    summed c = record {
      low = λ a. inner_adds g.shape (face_view g number) (face_of a c) (face_adds g kinds valid.shape wide number (face_of a c));
      high = λ a. inner_adds g.shape (face_view g number) (face_of a (after g.shape a c)) (face_adds g kinds valid.shape wide number (face_of a (after g.shape a c)));
    }

    inner_flux : leaf_sum g (net_flux g inner) ≡ pos 0
    unfolding inner Dry
    inner_flux =
        leaf_sum_is g (net_flux g inner) kinds (λ c. net_flux_sum g inner c (summed c))
        ∙ level_dry g inner (inner_dry g.shape (face_view g number)) 0

    parts : (f : FaceAt) → Seen g f → flow f ≡ on_outer g.shape flow f +ℤ inner f
    unfolding inner flow
    parts f seen = two_parts g.shape flow (face_view g number) f (down_is_view g kinds valid.shape wide number f seen)

    leaf_parts : (c : CellAt) → Inside g.shape c → is_leaf g c ≡ true → net_flux g flow c ≡ net_flux g (on_outer g.shape flow) c +ℤ net_flux g inner c
    leaf_parts c i t = net_plus g flow (on_outer g.shape flow) inner c (λ a. parts _ (seen_low g a c i t)) (λ a. parts _ (seen_high g a c i t))

    -- what leaf cells lose, they lose through the outer sides
    pub lost_outside : leaf_sum g (net_flux g flow) ≡ leaf_sum g (net_flux g (on_outer g.shape flow))
    lost_outside =
        leaf_same g _ _ leaf_parts ∙ leaf_add g (net_flux g (on_outer g.shape flow)) (net_flux g inner)
        ∙ ap (λ a. leaf_sum g (net_flux g (on_outer g.shape flow)) +ℤ a) inner_flux ∙ omega (arith, ints)

  -- what the total loses, out gains
  pub conserved : (content : CellAt → ℤ) (n : Speeds) (out : ℤ) → leaf_sum g (advected g content n) +ℤ (out +ℤ outflow g content n) ≡ leaf_sum g content +ℤ out
  unfolding flow
  conserved content n out =
      let lost = leaf_twice g (λ d. content d -ℤ net_flux g (flux g content n) d) ∙ leaf_sub g content (net_flux g (flux g content n)) in
      let outside = lost_outside (leaf_flux g content n) in
      omega (arith, ints, lost, outside)

-- total plus out of each variable stays
pub advect_conserves : (m : Mesh) (var : ℕ) (n : Speeds) → ValidMesh m → (v : ℕ) → total m.grid ((advect m var n).cells v) +ℤ (advect m var n).outs v ≡ total m.grid (m.cells v) +ℤ m.outs v
advect_conserves m var n valid v = elim (cases_Bool (v == var)) [
  | inl t ↦ rw t (
      ap (λ a. a +ℤ (m.outs v +ℤ outflow m.grid (m.cells v) n)) (total_by_levels m.grid (advected m.grid (m.cells v) n) valid.grid valid.order)
      ∙ conserved m.grid valid.grid (m.cells v) n (m.outs v)
      ∙ ap (λ a. a +ℤ m.outs v) (sym (total_by_levels m.grid (m.cells v) valid.grid valid.order)))
  | inr f ↦ rw f refl
]
