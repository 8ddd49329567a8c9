-- What is left of a field on a block's faces when circulations are taken from it.
use Rattle.std.proofs.Common.{◌≡◌, ℕ, ◌+◌, ◌*◌, ◌^◌, ◌<◌, ◌≤◌, Bool, true, false, not, ◌||◌, ◌-ℤ◌, refl, ap, ap₂, sym, ◌∙◌, arith, inl, inr, eq-eqb, lt-ltb}
use Rattle.std.specs.Prelude.{nat_lt}
use Rattle.std.proofs.Math.Nat.{mul-le-mul_left}
use Rattle.std.proofs.lemmas.Bool.{cases_lt}
use Rattle.amr_num.specs.declared.Axis.{Axis}
use Rattle.amr_num.specs.declared.Axis.TheVariants.{X, Y, Z}
use Rattle.amr_num.specs.declared.BlockAt.{BlockAt}
use Rattle.amr_num.specs.declared.CellAt.{CellAt}
use Rattle.mesh_model.specs.declared.geometry.Shape.{Shape}
use Rattle.mesh_model.specs.Fields.Circulation.{circulation}
use Rattle.mesh_model.specs.Fields.Induct.{electromotive_force}
use Rattle.mesh_model.specs.Geometry.Blocks.{InDomain}
use Rattle.mesh_model.specs.Geometry.Canonical.{canonical_on, is_canonical, is_canonical_at}
use Rattle.mesh_model.specs.Geometry.Coordinates.{extent, face_of, is_periodic, on, wrapped}
use Rattle.mesh_model.specs.Geometry.Places.{in_block, longer_on}
use Rattle.mesh_model.proofs.FieldLemmas.CellKinds.{wide_of}
use Rattle.mesh_model.proofs.FieldLemmas.Divergence.{on_leaf_face}
use Rattle.mesh_model.proofs.FieldLemmas.LeafFaces.{view_of_leaf_face}
use Rattle.mesh_model.proofs.FieldLemmas.Sums.{wrapped_inside}
use Rattle.mesh_model.proofs.FieldLemmas.ValidGrid.{kinds}
use Rattle.mesh_model.proofs.GeometryLemmas.ShapeLimits.{extent_some}
use Rattle.step_induct.specs.Circling.{LessenedAreHeld, LessenedIsInducted, lessened}
use Rattle.step_induct.proofs.Held.{on_faces}

-- a position of a block's faces and edges lies in the domain
pub position_inside : (r n l b i : ℕ) → b < r * 2 ^ l → i ≤ n → n * b + i ≤ r * n * 2 ^ l
position_inside r n l b i hb hi =
    let next : n * (b + 1) ≤ n * (r * 2 ^ l) = mul-le-mul_left n (omega arith) in
    let all : n * (r * 2 ^ l) ≡ r * n * 2 ^ l = grind arith in
    let one : n * (b + 1) ≡ n * b + n = grind arith in
    omega arith

-- the far end of a periodic axis is named 0
pub wrapped_last : (e : ℕ) → wrapped true e e ≡ 0
unfolding wrapped
wrapped_last e = rw (eq-eqb e e refl) refl

-- the name of a position is canonical
wrapped_canonical : (periodic : Bool) (e p : ℕ) → 0 < e → p ≤ e → (not periodic || nat_lt (wrapped periodic e p) e) ≡ true
wrapped_canonical false e p some le = refl
wrapped_canonical true e p some le = elim (cases_lt p e) [
  | inl inside ↦ ap (λ q. nat_lt q e) (wrapped_inside e p inside) ∙ lt-ltb p e inside
  | inr end ↦ (let last : p ≡ e = omega arith in ap (λ q. nat_lt (wrapped true e q) e) last ∙ ap (λ q. nat_lt q e) (wrapped_last e) ∙ lt-ltb 0 e some)
]

named_canonical : (s : Shape) (a : Axis) (c : CellAt) → 0 < extent s a c.level → on a c ≤ extent s a c.level → is_canonical s (face_of a (canonical_on s a c)) ≡ true
unfolding is_canonical_at
named_canonical s X c some le = wrapped_canonical (is_periodic s X) (extent s X c.level) c.x some le
named_canonical s Y c some le = wrapped_canonical (is_periodic s Y) (extent s Y c.level) c.y some le
named_canonical s Z c some le = wrapped_canonical (is_periodic s Z) (extent s Z c.level) c.z some le

face_position : (s : Shape) (a : Axis) (b : BlockAt) (i j k : ℕ) → InDomain s b → i < longer_on a X s.n → j < longer_on a Y s.n → k < longer_on a Z s.n →
    on a (in_block s.n b i j k) ≤ extent s a b.level
face_position s X b i j k inside hi hj hk = position_inside s.rx s.n b.level b.x i inside.x (omega arith)
face_position s Y b i j k inside hi hj hk = position_inside s.ry s.n b.level b.y j inside.y (omega arith)
face_position s Z b i j k inside hi hj hk = position_inside s.rz s.n b.level b.z k inside.z (omega arith)

pub lessened_held : LessenedAreHeld
unfolding lessened
lessened_held g field views a b faces arrays old new valid inside made holds edges = record {
  at = λ i j k hi hj hk. made.written i j k hi hj hk ∙ ap₂ (λ u v. u -ℤ v) (holds.at i j k hi hj hk) (on_faces g views b inside arrays edges i j k a hi hj hk);
}

pub lessened_inducted : LessenedIsInducted
lessened_inducted g field n a b faces arrays old new valid inside made holds edges = record {
  at = λ i j k hi hj hk leaf.
      let views = electromotive_force g field n in
      let f = face_of a (canonical_on g.shape a (in_block g.shape.n b i j k)) in
      let wide = wide_of g.shape valid.shape in
      let canonical = named_canonical g.shape a (in_block g.shape.n b i j k) (extent_some valid.shape a b.level) (face_position g.shape a b i j k inside hi hj hk) in
      (lessened_held g field views a b faces arrays old new valid inside made holds edges).at i j k hi hj hk
      ∙ ap (λ u. u -ℤ circulation g views f) (view_of_leaf_face g (kinds g valid) valid.shape wide field f leaf)
      ∙ sym (on_leaf_face g (λ h. field h -ℤ circulation g views h) f canonical leaf);
}
