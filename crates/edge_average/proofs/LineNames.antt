-- The names of edges by lines: in a block, in the block one step away, and in the children.
use Rattle.std.proofs.Common.{◌≡◌, ℕ, zero, suc, ◌+◌, ◌*◌, ◌/◌, ◌^◌, ◌<◌, ◌≤◌, ◌⊎◌, Bool, true, false, Some, refl, sym, ap, ap₂, ◌∙◌, arith, inl, inr, eq-eqb, ne_eqb}
use Rattle.std.proofs.lemmas.Bool.{cases_lt, cases_order, le-ltb, lt-ltb}
use Rattle.std.proofs.lemmas.Bool.Decides.{nat_tests}
use Rattle.amr_num.specs.declared.Axis.{Axis}
use Rattle.amr_num.specs.declared.Axis.TheVariants.{X, Y, Z}
use Rattle.amr_num.specs.declared.BlockAt.{BlockAt}
use Rattle.amr_num.specs.declared.EdgeAt.{EdgeAt}
use Rattle.mesh_model.specs.declared.geometry.Shape.{Shape}
use Rattle.mesh_model.specs.Fields.EdgeSplits.{end_step}
use Rattle.mesh_model.specs.Geometry.Blocks.{child_block}
use Rattle.mesh_model.specs.Geometry.Coordinates.{extent, half_edge, is_periodic, next, roots, wrapped}
use Rattle.mesh_model.specs.Geometry.Touch.{block_on}
use Rattle.mesh_model.proofs.FieldLemmas.Beside.{Follows}
use Rattle.mesh_model.proofs.FieldLemmas.Slots.{extent_double}
use Rattle.mesh_model.proofs.FieldLemmas.Sums.{wrapped_end}
use Rattle.mesh_model.proofs.GeometryLemmas.Halves.{by_size}
use Rattle.block_tree.specs.Directions.{toward_on}
use Rattle.block_tree.specs.declared.directions.Direction.{Direction}
use Rattle.block_tree.proofs.SideAxes.{inside_stays, in_row, neighbours}
use Rattle.edge_average.specs.Lines.{beyond, child_on, edge_there, half_with, octant_at, place_within, step_on}
use Rattle.edge_average.proofs.NearBlocks.{IsThere}

-- ---- edges by the coordinate along their axis and the positions on the two axes after it

line_edge : Axis → ℕ → ℕ → ℕ → ℕ → EdgeAt
line_edge X l u v w = record { axis = X; level = l; x = u; y = v; z = w }
line_edge Y l u v w = record { axis = Y; level = l; x = w; y = u; z = v }
line_edge Z l u v w = record { axis = Z; level = l; x = v; y = w; z = u }

same_line : (a : Axis) (l k u v w x y z : ℕ) → l ≡ k → u ≡ x → v ≡ y → w ≡ z → line_edge a l u v w ≡ line_edge a k x y z
same_line a l k u v w x y z el eu ev ew = λ i. line_edge a (el i) (eu i) (ev i) (ew i)

-- a position on an axis by its canonical number
position_on : Shape → Axis → BlockAt → ℕ → ℕ
position_on s c b p = wrapped (is_periodic s c) (extent s c b.level) (s.n * block_on c b + p)

name_is : (s : Shape) (a : Axis) (b : BlockAt) (p q r : ℕ) → edge_there s a b p q r ≡ line_edge a b.level (s.n * block_on a b + p) (position_on s (next a) b q) (position_on s (next (next a)) b r)
unfolding edge_there line_edge position_on
name_is s X b p q r = refl
name_is s Y b p q r = refl
name_is s Z b p q r = refl

line_level : (a : Axis) (l u v w : ℕ) → (line_edge a l u v w).level ≡ l
unfolding line_edge
line_level X l u v w = refl
line_level Y l u v w = refl
line_level Z l u v w = refl

pub level_there : (s : Shape) (a : Axis) (b : BlockAt) (p q r : ℕ) → (edge_there s a b p q r).level ≡ b.level
level_there s a b p q r = ap (λ (e : EdgeAt). e.level) (name_is s a b p q r) ∙ line_level a b.level _ _ _

same_edge : (e f : EdgeAt) → e.axis ≡ f.axis → e.level ≡ f.level → e.x ≡ f.x → e.y ≡ f.y → e.z ≡ f.z → e ≡ f
same_edge e f a l x y z = λ i. record { axis = a i; level = l i; x = x i; y = y i; z = z i }

half_is : (a : Axis) (l u v w h : ℕ) → half_edge (line_edge a l u v w) h ≡ line_edge a (suc l) (2 * u + h) (2 * v) (2 * w)
unfolding line_edge
half_is X l u v w h = same_edge _ _ refl refl refl (omega arith) (omega arith)
half_is Y l u v w h = same_edge _ _ refl refl (omega arith) refl (omega arith)
half_is Z l u v w h = same_edge _ _ refl refl (omega arith) (omega arith) refl

-- ---- children

numbers_of_child : (a : Axis) (b : BlockAt) (h j k : ℕ) → h < 2 → j < 2 → k < 2 → let c = child_block b (octant_at a h j k) in
    (block_on a c ≡ 2 * block_on a b + h) × (block_on (next a) c ≡ 2 * block_on (next a) b + j) × (block_on (next (next a)) c ≡ 2 * block_on (next (next a)) b + k)
numbers_of_child X b h j k hh hj hk = (omega arith, omega arith, omega arith)
numbers_of_child Y b h j k hh hj hk = (omega arith, omega arith, omega arith)
numbers_of_child Z b h j k hh hj hk = (omega arith, omega arith, omega arith)

pub half_cases : (n p : ℕ) → ((half_with n p ≡ 0) × (p < n / 2)) ⊎ ((half_with n p ≡ 1) × (n / 2 ≤ p))
half_cases n p = elim (cases_lt p (n / 2)) [
  | inl less ↦ inl ((let test = lt-ltb p (n / 2) less in rw test refl), less)
  | inr more ↦ inr ((let test = le-ltb p (n / 2) more in rw test refl), more)
]

pub half_few : (n p : ℕ) → half_with n p < 2
half_few n p = elim (half_cases n p) [
  | inl (is, less) ↦ omega (arith, is)
  | inr (is, more) ↦ omega (arith, is)
]

pub within_most : (n p : ℕ) → (n ≡ 4) ⊎ (n ≡ 8) → p ≤ n → place_within n p ≤ n
within_most n p size = by_size (λ m. p ≤ m → place_within m p ≤ m) n size
    (λ h. elim (half_cases 4 p) [ inl (is, less) ↦ omega (arith, is, less, h) | inr (is, more) ↦ omega (arith, is, more, h) ])
    (λ h. elim (half_cases 8 p) [ inl (is, less) ↦ omega (arith, is, less, h) | inr (is, more) ↦ omega (arith, is, more, h) ])

-- twice a place, by the half in which it lies and the place there
across_child : (n x p : ℕ) → (n ≡ 4) ⊎ (n ≡ 8) → n * (2 * x + half_with n p) + place_within n p ≡ 2 * (n * x + p)
across_child n x p size = by_size (λ m. m * (2 * x + half_with m p) + place_within m p ≡ 2 * (m * x + p)) n size
    (elim (half_cases 4 p) [ inl (is, less) ↦ omega (arith, is, less) | inr (is, more) ↦ omega (arith, is, more) ])
    (elim (half_cases 8 p) [ inl (is, less) ↦ omega (arith, is, less) | inr (is, more) ↦ omega (arith, is, more) ])

along_child : (n x h m r : ℕ) → (n ≡ 4) ⊎ (n ≡ 8) → n * (2 * x + h) + (2 * m + r) ≡ 2 * (n * x + (n / 2 * h + m)) + r
along_child n x h m r size = by_size (λ k. k * (2 * x + h) + (2 * m + r) ≡ 2 * (k * x + (k / 2 * h + m)) + r) n size (omega arith) (omega arith)

wrapped_twice : (p : Bool) (e x : ℕ) → wrapped p (2 * e) (2 * x) ≡ 2 * wrapped p e x
unfolding wrapped
wrapped_twice false e x = refl
wrapped_twice true e x = grind (arith, nat_tests)

position_child : (s : Shape) (c : Axis) (b d : BlockAt) (p : ℕ) → (s.n ≡ 4) ⊎ (s.n ≡ 8) → d.level ≡ suc b.level → block_on c d ≡ 2 * block_on c b + half_with s.n p →
    position_on s c d (place_within s.n p) ≡ 2 * position_on s c b p
unfolding position_on
position_child s c b d p size level is =
    ap₂ (λ l x. wrapped (is_periodic s c) (extent s c l) (s.n * x + place_within s.n p)) level is
    ∙ ap₂ (wrapped (is_periodic s c)) (extent_double s c b.level) (across_child s.n (block_on c b) p size) ∙ wrapped_twice (is_periodic s c) (extent s c b.level) (s.n * block_on c b + p)

-- the edges of the child in the half h of a line are halves of the line's edges
pub child_name : (s : Shape) (a : Axis) (b : BlockAt) (h m r q t : ℕ) → (s.n ≡ 4) ⊎ (s.n ≡ 8) → h < 2 →
    edge_there s a (child_on s.n a b h q t) (2 * m + r) (place_within s.n q) (place_within s.n t) ≡ half_edge (edge_there s a b (s.n / 2 * h + m) q t) r
child_name s a b h m r q t size hh =
    let n = s.n in
    let c = child_on n a b h q t in
    let at = numbers_of_child a b h (half_with n q) (half_with n t) hh (half_few n q) (half_few n t) in
    name_is s a c (2 * m + r) (place_within n q) (place_within n t)
    ∙ same_line a c.level (suc b.level) (n * block_on a c + (2 * m + r)) (position_on s (next a) c (place_within n q)) (position_on s (next (next a)) c (place_within n t))
    (2 * (n * block_on a b + (n / 2 * h + m)) + r) (2 * position_on s (next a) b q) (2 * position_on s (next (next a)) b t) refl
    (ap (λ x. n * x + (2 * m + r)) at.0 ∙ along_child n (block_on a b) h m r size) (position_child s (next a) b c q size refl at.1) (position_child s (next (next a)) b c t size refl at.2)
    ∙ sym (half_is a b.level (n * block_on a b + (n / 2 * h + m)) (position_on s (next a) b q) (position_on s (next (next a)) b t) r)
    ∙ ap (λ e. half_edge e r) (sym (name_is s a b (n / 2 * h + m) q t))

-- ---- the block one step away

end_says : (n q step : ℕ) → step ≡ end_step n q → ((step ≡ 0) × (q ≡ 0)) ⊎ (((step ≡ 2) × (q ≡ n)) ⊎ (step ≡ 1))
end_says n q step is = elim (cases_order q 0) [
  | inl first ↦ inl (is ∙ (let test = eq-eqb q 0 first in rw test refl), first)
  | inr off ↦
      let low = ne_eqb q 0 (λ e. absurd (elim off [ inl h ↦ omega (arith, h, e) | inr h ↦ omega (arith, h, e) ])) in
      elim (cases_order q n) [
        | inl last ↦ inr (inl (is ∙ (let test = eq-eqb q n last in rw (low, test) refl), last))
        | inr away ↦ (
            let high = ne_eqb q n (λ e. absurd (elim away [ inl h ↦ omega (arith, h, e) | inr h ↦ omega (arith, h, e) ])) in
            inr (inr (is ∙ rw (low, high) refl)))
      ]
]

module _ (p : Bool) (e n x y : ℕ) (some : 0 < n) (inside : x < e) where
  low_shared : Follows p e y x → wrapped p (e * n) (n * y + n) ≡ wrapped p (e * n) (n * x + 0)
  low_shared (inl is) = (let times = ap (λ m. n * m) is in let same : n * y + n ≡ n * x + 0 = omega (arith, times) in ap (wrapped p (e * n)) same)
  low_shared (inr (t, first, end)) =
      let times = ap (λ m. m * n) end in
      let far : n * y + n ≡ e * n = omega (arith, times) in
      let zero_first = ap (λ m. n * m) first in
      let none : 0 ≡ n * x + 0 = omega (arith, zero_first) in
      ap₂ (λ (u : Bool) q. wrapped u (e * n) q) t far ∙ wrapped_end (e * n) ∙ none ∙ sym (inside_stays p (e * n) (n * x + 0) (in_row n x e 0 inside some))

  high_shared : Follows p e x y → y < e → wrapped p (e * n) (n * y + 0) ≡ wrapped p (e * n) (n * x + n)
  high_shared (inl is) within = (let times = ap (λ m. n * m) is in let same : n * y + 0 ≡ n * x + n = omega (arith, times) in ap (wrapped p (e * n)) same)
  high_shared (inr (t, first, end)) within =
      let times = ap (λ m. m * n) end in
      let far : e * n ≡ n * x + n = omega (arith, times) in
      let zero_first = ap (λ m. n * m) first in
      let none : n * y + 0 ≡ 0 = omega (arith, zero_first) in
      inside_stays p (e * n) (n * y + 0) (in_row n y e 0 within some) ∙ none ∙ sym (wrapped_end (e * n)) ∙ ap₂ (λ (u : Bool) q. wrapped u (e * n) q) (sym t) far

  shared : (step q : ℕ) → toward_on p step e x ≡ Some y → (step ≡ end_step n q) ⊎ (step ≡ 1) → wrapped p (e * n) (n * y + beyond n step q) ≡ wrapped p (e * n) (n * x + q)
  shared step q is on = elim (says on) [
    | inl (low, first) ↦
        ap (λ k. wrapped p (e * n) (n * y + beyond n k q)) low ∙ low_shared (neighbours p false e x y inside (ap (λ k. toward_on p k e x) (sym low) ∙ is)) ∙ ap (λ k. wrapped p (e * n) (n * x + k)) (sym first)
    | inr (inl (high, last)) ↦ (
        let there = neighbours p true e x y inside (ap (λ k. toward_on p k e x) (sym high) ∙ is) in
        ap (λ k. wrapped p (e * n) (n * y + beyond n k q)) high ∙ high_shared there.0 there.1 ∙ ap (λ k. wrapped p (e * n) (n * x + k)) (sym last))
    | inr (inr own) ↦ (
        let there : Some x ≡ Some y = ap (λ k. toward_on p k e x) (sym own) ∙ is in
        let same : x ≡ y = cc in
        ap (λ k. wrapped p (e * n) (n * y + beyond n k q)) own ∙ ap (λ k. wrapped p (e * n) (n * k + q)) (sym same))
  ]
    where
      says : (step ≡ end_step n q) ⊎ (step ≡ 1) → ((step ≡ 0) × (q ≡ 0)) ⊎ (((step ≡ 2) × (q ≡ n)) ⊎ (step ≡ 1))
      says (inl end) = end_says n q step end
      says (inr own) = inr (inr own)

extent_is : (s : Shape) (c : Axis) (l : ℕ) → extent s c l ≡ roots s c * 2 ^ l * s.n
extent_is s c l = grind arith

module _ (s : Shape) (d : Direction) (b e : BlockAt) (some : 0 < s.n) (inside : (c : Axis) → block_on c b < roots s c * 2 ^ b.level) (there : IsThere s d b e) where
  position_beyond : (c : Axis) (q : ℕ) → (step_on c d ≡ end_step s.n q) ⊎ (step_on c d ≡ 1) → position_on s c e (beyond s.n (step_on c d) q) ≡ position_on s c b q
  unfolding position_on
  position_beyond c q on =
      let p = is_periodic s c in
      let many = roots s c * 2 ^ b.level in
      ap (λ l. wrapped p (extent s c l) (s.n * block_on c e + beyond s.n (step_on c d) q)) there.level ∙ ap (λ k. wrapped p k (s.n * block_on c e + beyond s.n (step_on c d) q)) (extent_is s c b.level)
      ∙ shared p many s.n (block_on c b) (block_on c e) some (inside c) (step_on c d) q (there.on c) on ∙ ap (λ k. wrapped p k (s.n * block_on c b + q)) (sym (extent_is s c b.level))

  own_on : (a : Axis) → step_on a d ≡ 1 → block_on a e ≡ block_on a b
  own_on a one =
      let is : Some (block_on a b) ≡ Some (block_on a e) = ap (λ k. toward_on (is_periodic s a) k (roots s a * 2 ^ b.level) (block_on a b)) (sym one) ∙ there.on a in
      cc

  -- an edge on the boundary of a block is one of the block beyond
  pub beyond_name : (a : Axis) (p q r : ℕ) → step_on a d ≡ 1 → (step_on (next a) d ≡ end_step s.n q) ⊎ (step_on (next a) d ≡ 1) → (step_on (next (next a)) d ≡ end_step s.n r) ⊎ (step_on (next (next a)) d ≡ 1) →
      edge_there s a e p (beyond s.n (step_on (next a) d) q) (beyond s.n (step_on (next (next a)) d) r) ≡ edge_there s a b p q r
  beyond_name a p q r one first second =
      name_is s a e p (beyond s.n (step_on (next a) d) q) (beyond s.n (step_on (next (next a)) d) r)
      ∙ same_line a e.level b.level _ _ _ _ _ _ there.level (ap (λ x. s.n * x + p) (own_on a one)) (position_beyond (next a) q first) (position_beyond (next (next a)) r second)
      ∙ sym (name_is s a b p q r)

-- the positions there are of the block
pub beyond_most : (n step q : ℕ) → q ≤ n → beyond n step q ≤ n
beyond_most n zero q h = omega arith
beyond_most n (suc zero) q h = h
beyond_most n (suc (suc k)) q h = omega arith
