-- The forces of a block's edges are the mesh's where its arrays of faces have their guard values.
use Rattle.std.proofs.Common.{◌≡◌, ℕ, suc, ◌+◌, ◌-◌, ◌*◌, ◌^◌, ◌<◌, ◌≤◌, Bool, ◌&&◌, ◌||◌, ◌==◌, pos, ◌-ℤ◌, ap, ap₂, sym, ◌∙◌, arith, inl, inr}
use Rattle.std.specs.Prelude.{if◌then◌else◌}
use Rattle.amr_num.specs.Numbers.{carry}
use Rattle.amr_num.specs.declared.Axis.{Axis}
use Rattle.amr_num.specs.declared.Axis.TheVariants.{X, Y, Z}
use Rattle.amr_num.specs.declared.BlockAt.{BlockAt}
use Rattle.amr_num.specs.declared.CellAt.{CellAt}
use Rattle.mesh_model.specs.declared.geometry.Shape.{Shape}
use Rattle.mesh_model.specs.Fields.Advect.{Speeds, blown_from, is_closed_at, is_closed_kind, speed}
use Rattle.mesh_model.specs.Fields.Induct.{edge_on_closed_side, leaf_electromotive_force}
use Rattle.mesh_model.specs.Fields.Views.{face_view}
use Rattle.mesh_model.specs.Geometry.Blocks.{InDomain}
use Rattle.mesh_model.specs.Geometry.Canonical.{canonical_on}
use Rattle.mesh_model.specs.Geometry.Coordinates.{edge_of, extent, face_of, is_periodic, next, on, roots, side_index, side_kind, step, wrapped}
use Rattle.mesh_model.specs.Geometry.Limits.{IsShape}
use Rattle.mesh_model.specs.Geometry.Places.{in_block, is_on_side}
use Rattle.mesh_model.specs.Geometry.Touch.{block_on}
use Rattle.mesh_model.proofs.GeometryLemmas.OnAxes.{with_level}
use Rattle.mesh_model.proofs.GeometryLemmas.ShapeLimits.{cells_some}
use Rattle.step_induct.specs.Forces.{Flow, ForcesAreOfLeaves, IsFlowOf, force_from, is_closed_edge, is_closed_position, places_back}
use Rattle.step_induct.proofs.Forced.{edge_inside}
use Rattle.mesh_model.proofs.GeometryLemmas.Sides.{on_domain_side}
use Rattle.step_induct.proofs.Upstream.{closed_named, first_there, second_there, upstream_places}

some_guards : {s : Shape} → IsShape s → 1 ≤ s.g
some_guards h = elim h.guards [ inl one ↦ omega arith | inr (inl two) ↦ omega arith | inr (inr four) ↦ omega arith ]

block_inside : (s : Shape) (a : Axis) (b : BlockAt) → InDomain s b → block_on a b < roots s a * 2 ^ b.level
block_inside s X b inside = inside.x
block_inside s Y b inside = inside.y
block_inside s Z b inside = inside.z

extent_turned : (r n m : ℕ) → n * (r * m) ≡ r * n * m
extent_turned r n m = grind arith

-- ---- closed sides

module _ (s : Shape) (n : Speeds) (b : BlockAt) (flow : Flow) (shape : IsShape s) (inside : InDomain s b) (is : IsFlowOf s n b flow) where
  abbrev low : Axis → Bool
  low a = is_closed_kind (side_kind s.sides (side_index a))

  abbrev high : Axis → Bool
  high a = is_closed_kind (side_kind s.sides (suc (side_index a)))

  -- a position is on a closed side of the block where its name is on one of the domain
  position_closed : (a : Axis) (p : ℕ) → p ≤ s.n →
      is_closed_position s.n flow.closed a p ≡ is_closed_at s a b.level (wrapped (is_periodic s a) (extent s a b.level) (s.n * block_on a b + p))
  position_closed a p le =
      ap₂ (λ u v. is_on_side s.n u v p) (is.closed_low a) (is.closed_high a)
      ∙ on_domain_side s.n (block_on a b) p (roots s a * 2 ^ b.level) (low a) (high a) (cells_some shape) (block_inside s a b inside) le
      ∙ ap (λ e. ((s.n * block_on a b + p == 0) && low a) || ((s.n * block_on a b + p == e) && high a)) (extent_turned (roots s a) s.n (2 ^ b.level))
      ∙ closed_named s a b.level (s.n * block_on a b + p) shape

  closed_is : (a : Axis) (i j k : ℕ) → i ≤ s.n → j ≤ s.n → k ≤ s.n →
      is_closed_edge s.n flow.closed a i j k ≡ edge_on_closed_side s (edge_of a (canonical_on s (next a) (canonical_on s (next (next a)) (in_block s.n b i j k))))
  closed_is X i j k hi hj hk = ap₂ (λ u v. u || v) (position_closed Y j hj) (position_closed Z k hk)
  closed_is Y i j k hi hj hk = ap₂ (λ u v. u || v) (position_closed Z k hk) (position_closed X i hi)
  closed_is Z i j k hi hj hk = ap₂ (λ u v. u || v) (position_closed X i hi) (position_closed Y j hj)

-- ---- forces

named_level : (s : Shape) (a b : Axis) (c : CellAt) → (canonical_on s a (canonical_on s b c)).level ≡ c.level
named_level s a b c =
    let d = canonical_on s b c in
    with_level a (wrapped (is_periodic s a) (extent s a d.level) (on a d)) d ∙ with_level b (wrapped (is_periodic s b) (extent s b c.level) (on b c)) c

three_same : {A B C D : Type 0} (f : A → B → C → D) (p q : A) (r s : B) (u v : C) → p ≡ q → r ≡ s → u ≡ v → f p r u ≡ f q s v
three_same f p q r s u v hp hr hu = λ t. f (hp t) (hr t) (hu t)

pub forces_of_leaves : ForcesAreOfLeaves
unfolding force_from leaf_electromotive_force
forces_of_leaves g field n a b flow arrays old new shape inside is holds forced = record {
  at = λ i j k hi hj hk.
      let s = g.shape in
      let c = next a in
      let d = next c in
      let name : CellAt = canonical_on s c (canonical_on s d (in_block s.n b i j k)) in
      let le = edge_inside a s.n i j k hi hj hk in
      let some = some_guards shape in
      let on_c = speed flow.speeds c in
      let on_d = speed flow.speeds d in
      let h = step d (places_back on_d) in
      let o = step c (places_back on_c) in
      let at_c = upstream_places s.n s.g c i j k h.x h.y h.z some le.0 le.1 le.2 in
      let at_d = upstream_places s.n s.g d i j k o.x o.y o.z some le.0 le.1 le.2 in
      let first = (holds c).at (s.g + i - h.x) (s.g + j - h.y) (s.g + k - h.z) at_c.0 at_c.1 at_c.2 ∙ ap (face_view g field) (first_there s b i j k shape inside some on_d a hi hj hk) in
      let second = (holds d).at (s.g + i - o.x) (s.g + j - o.y) (s.g + k - o.z) at_d.0 at_d.1 at_d.2 ∙ ap (face_view g field) (second_there s b i j k shape inside some on_c a hi hj hk) in
      forced.written i j k hi hj hk
      ∙ three_same (λ t u v. if t then pos 0 else carry on_d flow.level u -ℤ carry on_c flow.level v) _ _ _ _ _ _ (closed_is s n b flow shape inside is a i j k le.0 le.1 le.2) first second
      ∙ ap₂ (λ (m : Speeds) l. if edge_on_closed_side s (edge_of a name) then pos 0
      else carry (speed m d) l (face_view g field (face_of c (blown_from s d (speed m d) name))) -ℤ carry (speed m c) l (face_view g field (face_of d (blown_from s c (speed m c) name)))) is.speeds_of (is.level ∙ sym (named_level s c d (in_block s.n b i j k)));
}
