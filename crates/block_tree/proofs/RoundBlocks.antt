-- The cells round an edge of a block lie in blocks in directions from it.
use Rattle.std.proofs.Common.{◌≡◌, ℕ, zero, suc, ◌+◌, ◌-◌, ◌*◌, ◌^◌, ◌<◌, Bool, false, ◌||◌, ◌==◌, Option, Some, None, refl, sym, ap, ap₂, ◌∙◌, arith, inl, inr, eq-eqb, ne_eqb}
use Rattle.std.specs.Prelude.{option_map, if◌then◌else◌}
use Rattle.std.specs.List.{list_any}
use Rattle.std.proofs.lemmas.Bool.{cases_lt}
use Rattle.amr_num.specs.declared.Axis.{Axis}
use Rattle.amr_num.specs.declared.Axis.TheVariants.{X, Y, Z}
use Rattle.amr_num.specs.declared.BlockAt.{BlockAt}
use Rattle.amr_num.specs.declared.CellAt.{CellAt}
use Rattle.mesh_model.specs.declared.geometry.Shape.{Shape}
use Rattle.mesh_model.specs.Geometry.Blocks.{InDomain}
use Rattle.mesh_model.specs.Geometry.Coordinates.{above, below, extent, is_periodic, moved_twice, next, round_edge, wrapped}
use Rattle.mesh_model.specs.Geometry.Places.{in_block, longer_across}
use Rattle.mesh_model.specs.Tree.Kinds.{holds}
use Rattle.mesh_model.specs.Fields.FaceSplits.{position}
use Rattle.block_tree.specs.Directions.{across, along, block_of_three, block_toward, edge_name, passes, toward_on}
use Rattle.block_tree.proofs.SideAxes.{above_high, above_own, below_low, below_own}

-- ---- on one axis

-- the steps to the blocks in which the cells below and above a position of a block lie, and the places of these cells there
abbrev pub low_step : ℕ → ℕ
low_step zero = 0
low_step (suc p) = 1

abbrev pub low_place : ℕ → ℕ → ℕ
low_place n zero = n - 1
low_place n (suc p) = p

abbrev pub high_step : ℕ → ℕ → ℕ
high_step n p = if p == n then 2 else 1

abbrev pub high_place : ℕ → ℕ → ℕ
high_place n p = if p == n then 0 else p

pub at_end : (n p : ℕ) → p ≡ n → (high_step n p ≡ 2) × (high_place n p ≡ 0)
at_end n p is = let test = eq-eqb p n is in (rw test refl, rw test refl)

pub before_end : (n p : ℕ) → p < n → (high_step n p ≡ 1) × (high_place n p ≡ p)
before_end n p less = let test = ne_eqb p n (λ is. absurd (omega (arith, less, is))) in (rw test refl, rw test refl)

low_within : (n p : ℕ) → 0 < n → p < n + 1 → low_place n p < n
low_within n zero some h = omega arith
low_within n (suc p) some h = omega arith

high_within : (n p : ℕ) → 0 < n → p < n + 1 → high_place n p < n
high_within n p some h = elim (cases_lt p n) [
  | inl less ↦ (let at = (before_end n p less).1 in omega (arith, at, less))
  | inr more ↦ (let at = (at_end n p (omega (arith, more, h))).1 in omega (arith, at, some))
]

module _ (p : Bool) (e m n b : ℕ) (some : 0 < n) (inside : b < e) (size : m ≡ e * n) where
  low_on : (i : ℕ) → i < n + 1 → below p m (wrapped p m (n * b + i)) ≡ option_map (λ d. n * d + low_place n i) (toward_on p (low_step i) e b)
  low_on zero h = ap (λ k. below p k (wrapped p k (n * b + 0))) size ∙ below_low p e n b some inside
  low_on (suc i) h = ap (λ k. below p k (wrapped p k (n * b + suc i))) size ∙ below_own p e n b some inside i (omega arith)

  high_on : (i : ℕ) → i < n + 1 → above p m (wrapped p m (n * b + i)) ≡ option_map (λ d. n * d + high_place n i) (toward_on p (high_step n i) e b)
  high_on i h = elim (cases_lt i n) [
    | inl less ↦
        let at = before_end n i less in
        ap (λ k. above p k (wrapped p k (n * b + i))) size ∙ above_own p e n b some inside i less
        ∙ ap₂ (λ u v. option_map (λ d. n * d + v) (toward_on p u e b)) (sym at.0) (sym at.1)
    | inr more ↦
        let last : i ≡ n = omega (arith, more, h) in
        let at = at_end n i last in
        ap₂ (λ k q. above p k (wrapped p k (n * b + q))) size last ∙ above_high p e n b some inside
        ∙ ap₂ (λ u v. option_map (λ d. n * d + v) (toward_on p u e b)) (sym at.0) (sym at.1)
  ]

extent_is : (r n l : ℕ) → r * n * 2 ^ l ≡ r * 2 ^ l * n
extent_is r n l = grind arith

-- ---- the cells of three coordinates

on_x : (b : BlockAt) (n i q r y z : ℕ) (o u : Option ℕ) →
    moved_twice Y (option_map (λ d. n * d + q) o) Z (option_map (λ d. n * d + r) u) (record { level = b.level; x = n * b.x + i; y = y; z = z }) ≡ option_map (λ d. in_block n d i q r) (block_of_three b.level (Some b.x) o u)
on_x b n i q r y z None u = refl
on_x b n i q r y z (Some o) None = refl
on_x b n i q r y z (Some o) (Some u) = refl

on_y : (b : BlockAt) (n j q r x z : ℕ) (o u : Option ℕ) →
    moved_twice Z (option_map (λ d. n * d + q) o) X (option_map (λ d. n * d + r) u) (record { level = b.level; x = x; y = n * b.y + j; z = z }) ≡ option_map (λ d. in_block n d r j q) (block_of_three b.level u (Some b.y) o)
on_y b n j q r x z None None = refl
on_y b n j q r x z None (Some u) = refl
on_y b n j q r x z (Some o) None = refl
on_y b n j q r x z (Some o) (Some u) = refl

on_z : (b : BlockAt) (n k q r x y : ℕ) (o u : Option ℕ) →
    moved_twice X (option_map (λ d. n * d + q) o) Y (option_map (λ d. n * d + r) u) (record { level = b.level; x = x; y = y; z = n * b.z + k }) ≡ option_map (λ d. in_block n d q r k) (block_of_three b.level o u (Some b.z))
on_z b n k q r x y None u = refl
on_z b n k q r x y (Some o) None = refl
on_z b n k q r x y (Some o) (Some u) = refl

passes_as : (test : CellAt → Bool) (kind : BlockAt → Bool) (at : BlockAt → CellAt) → ((d : BlockAt) → test (at d) ≡ kind d) → (o : Option BlockAt) → holds test (option_map at o) ≡ passes kind o
passes_as test kind at same None = refl
passes_as test kind at same (Some d) = same d

four_same : (a b c d a' b' c' d' : Bool) → a ≡ a' → b ≡ b' → c ≡ c' → d ≡ d' → (a || (b || (c || (d || false)))) ≡ (a' || (b' || (c' || (d' || false))))
four_same a b c d a' b' c' d' p q r t = rw (p, q, r, t) refl

-- ---- round an edge

-- one of four, with v by the steps on the two axes: low on both, high on the first, high on the second, high on both
abbrev pub four : (ℕ → ℕ → Bool) → ℕ → ℕ → ℕ → Bool
four v n p q = v (low_step p) (low_step q) || (v (high_step n p) (low_step q) || (v (low_step p) (high_step n q) || (v (high_step n p) (high_step n q) || false)))

module _ (s : Shape) (b : BlockAt) (some : 0 < s.n) (inside : InDomain s b) (test : CellAt → Bool) (kind : BlockAt → Bool)
    (same : (d : BlockAt) (i j k : ℕ) → i < s.n → j < s.n → k < s.n → test (in_block s.n d i j k) ≡ kind d) where
  -- what is tested of the cells round an edge is tested of the blocks there
  pub round_is : (a : Axis) (i j k : ℕ) → i < longer_across a X s.n → j < longer_across a Y s.n → k < longer_across a Z s.n →
      list_any (holds test) (round_edge s (edge_name s a b i j k)) ≡ four (λ u v. passes kind (block_toward s (across a u v) b)) s.n (position (next a) i j k) (position (next (next a)) i j k)
  unfolding block_toward
  round_is X i j k hi hj hk =
      let n = s.n in
      let l = b.level in
      let low_y = low_on (is_periodic s Y) (s.ry * 2 ^ l) (extent s Y l) n b.y some inside.y (extent_is s.ry n l) j hj in
      let high_y = high_on (is_periodic s Y) (s.ry * 2 ^ l) (extent s Y l) n b.y some inside.y (extent_is s.ry n l) j hj in
      let low_z = low_on (is_periodic s Z) (s.rz * 2 ^ l) (extent s Z l) n b.z some inside.z (extent_is s.rz n l) k hk in
      let high_z = high_on (is_periodic s Z) (s.rz * 2 ^ l) (extent s Z l) n b.z some inside.z (extent_is s.rz n l) k hk in
      let qy = wrapped (is_periodic s Y) (extent s Y l) (n * b.y + j) in
      let qz = wrapped (is_periodic s Z) (extent s Z l) (n * b.z + k) in
      let one = λ (q r : ℕ) (hq : q < n) (hr : r < n) (o u : Option ℕ). ap (holds test) (on_x b n i q r qy qz o u) ∙ passes_as test kind (λ d. in_block n d i q r) (λ d. same d i q r hi hq hr) (block_of_three l (Some b.x) o u) in
      let at = λ (o u : Option ℕ). holds test (moved_twice Y o Z u (record { level = l; x = n * b.x + i; y = qy; z = qz })) in
      four_same _ _ _ _ _ _ _ _
      (ap₂ at low_y low_z ∙ one (low_place n j) (low_place n k) (low_within n j some hj) (low_within n k some hk) (along s Y (low_step j) b) (along s Z (low_step k) b))
      (ap₂ at high_y low_z ∙ one (high_place n j) (low_place n k) (high_within n j some hj) (low_within n k some hk) (along s Y (high_step n j) b) (along s Z (low_step k) b))
      (ap₂ at low_y high_z ∙ one (low_place n j) (high_place n k) (low_within n j some hj) (high_within n k some hk) (along s Y (low_step j) b) (along s Z (high_step n k) b))
      (ap₂ at high_y high_z ∙ one (high_place n j) (high_place n k) (high_within n j some hj) (high_within n k some hk) (along s Y (high_step n j) b) (along s Z (high_step n k) b))
  round_is Y i j k hi hj hk =
      let n = s.n in
      let l = b.level in
      let low_z = low_on (is_periodic s Z) (s.rz * 2 ^ l) (extent s Z l) n b.z some inside.z (extent_is s.rz n l) k hk in
      let high_z = high_on (is_periodic s Z) (s.rz * 2 ^ l) (extent s Z l) n b.z some inside.z (extent_is s.rz n l) k hk in
      let low_x = low_on (is_periodic s X) (s.rx * 2 ^ l) (extent s X l) n b.x some inside.x (extent_is s.rx n l) i hi in
      let high_x = high_on (is_periodic s X) (s.rx * 2 ^ l) (extent s X l) n b.x some inside.x (extent_is s.rx n l) i hi in
      let qz = wrapped (is_periodic s Z) (extent s Z l) (n * b.z + k) in
      let qx = wrapped (is_periodic s X) (extent s X l) (n * b.x + i) in
      let one = λ (q r : ℕ) (hq : q < n) (hr : r < n) (o u : Option ℕ). ap (holds test) (on_y b n j q r qx qz o u) ∙ passes_as test kind (λ d. in_block n d r j q) (λ d. same d r j q hr hj hq) (block_of_three l u (Some b.y) o) in
      let at = λ (o u : Option ℕ). holds test (moved_twice Z o X u (record { level = l; x = qx; y = n * b.y + j; z = qz })) in
      four_same _ _ _ _ _ _ _ _
      (ap₂ at low_z low_x ∙ one (low_place n k) (low_place n i) (low_within n k some hk) (low_within n i some hi) (along s Z (low_step k) b) (along s X (low_step i) b))
      (ap₂ at high_z low_x ∙ one (high_place n k) (low_place n i) (high_within n k some hk) (low_within n i some hi) (along s Z (high_step n k) b) (along s X (low_step i) b))
      (ap₂ at low_z high_x ∙ one (low_place n k) (high_place n i) (low_within n k some hk) (high_within n i some hi) (along s Z (low_step k) b) (along s X (high_step n i) b))
      (ap₂ at high_z high_x ∙ one (high_place n k) (high_place n i) (high_within n k some hk) (high_within n i some hi) (along s Z (high_step n k) b) (along s X (high_step n i) b))
  round_is Z i j k hi hj hk =
      let n = s.n in
      let l = b.level in
      let low_x = low_on (is_periodic s X) (s.rx * 2 ^ l) (extent s X l) n b.x some inside.x (extent_is s.rx n l) i hi in
      let high_x = high_on (is_periodic s X) (s.rx * 2 ^ l) (extent s X l) n b.x some inside.x (extent_is s.rx n l) i hi in
      let low_y = low_on (is_periodic s Y) (s.ry * 2 ^ l) (extent s Y l) n b.y some inside.y (extent_is s.ry n l) j hj in
      let high_y = high_on (is_periodic s Y) (s.ry * 2 ^ l) (extent s Y l) n b.y some inside.y (extent_is s.ry n l) j hj in
      let qx = wrapped (is_periodic s X) (extent s X l) (n * b.x + i) in
      let qy = wrapped (is_periodic s Y) (extent s Y l) (n * b.y + j) in
      let one = λ (q r : ℕ) (hq : q < n) (hr : r < n) (o u : Option ℕ). ap (holds test) (on_z b n k q r qx qy o u) ∙ passes_as test kind (λ d. in_block n d q r k) (λ d. same d q r k hq hr hk) (block_of_three l o u (Some b.z)) in
      let at = λ (o u : Option ℕ). holds test (moved_twice X o Y u (record { level = l; x = qx; y = qy; z = n * b.z + k })) in
      four_same _ _ _ _ _ _ _ _
      (ap₂ at low_x low_y ∙ one (low_place n i) (low_place n j) (low_within n i some hi) (low_within n j some hj) (along s X (low_step i) b) (along s Y (low_step j) b))
      (ap₂ at high_x low_y ∙ one (high_place n i) (low_place n j) (high_within n i some hi) (low_within n j some hj) (along s X (high_step n i) b) (along s Y (low_step j) b))
      (ap₂ at low_x high_y ∙ one (low_place n i) (high_place n j) (low_within n i some hi) (high_within n j some hj) (along s X (low_step i) b) (along s Y (high_step n j) b))
      (ap₂ at high_x high_y ∙ one (high_place n i) (high_place n j) (high_within n i some hi) (high_within n j some hj) (along s X (high_step n i) b) (along s Y (high_step n j) b))
