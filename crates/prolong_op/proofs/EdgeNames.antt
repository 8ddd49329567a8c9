-- The names of a child's edges: those at even positions are halves of its parent's, and round the others stand those at the even positions beside.
use Rattle.std.proofs.Common.{◌≡◌, ℕ, suc, ◌+◌, ◌-◌, ◌*◌, ◌/◌, ◌%◌, ◌^◌, ◌<◌, ◌≤◌, ◌⊎◌, Bool, true, false, ◌&&◌, ◌==◌, refl, sym, ap, ap₂, ◌∙◌, arith, inl, inr, eq-eqb, [], ◌∷◌, ◌++◌}
use Rattle.std.specs.Prelude.{flat_map, if◌then◌else◌}
use Rattle.std.proofs.lemmas.Bool.{cases_Bool, cases_lt}
use Rattle.amr_num.specs.declared.Axis.{Axis}
use Rattle.amr_num.specs.declared.Axis.TheVariants.{X, Y, Z}
use Rattle.amr_num.specs.declared.BlockAt.{BlockAt}
use Rattle.amr_num.specs.declared.CellAt.{CellAt}
use Rattle.mesh_model.specs.declared.geometry.Shape.{Shape}
use Rattle.mesh_model.specs.Geometry.Blocks.{child_block}
use Rattle.mesh_model.specs.Geometry.Canonical.{canonical_on}
use Rattle.mesh_model.specs.Geometry.Coordinates.{EdgeInside, after, edge_of, extent, half_edge, is_periodic, next, on, with, wrapped}
use Rattle.mesh_model.specs.Geometry.Places.{in_block, longer_across}
use Rattle.mesh_model.specs.Geometry.Touch.{block_on}
use Rattle.mesh_model.specs.Tree.Kinds.{Grid}
use Rattle.mesh_model.specs.Fields.EdgeSplits.{edge_direction, end_step}
use Rattle.mesh_model.specs.Fields.FaceSplits.{direction, position}
use Rattle.mesh_model.specs.Fields.Octants.{half_at}
use Rattle.mesh_model.specs.Fields.Views.{even_round, evens, is_even}
use Rattle.mesh_model.proofs.FieldLemmas.Inside.{not_even}
use Rattle.mesh_model.proofs.GeometryLemmas.Halves.{by_size, some_cells, two_halves}
use Rattle.prolong_op.proofs.FaceNames.{line_inside, turned, wrapped_below}

-- ---- places at other positions across an axis

-- the place of a block with the positions p on the next axis and r on the one after it
abbrev pub place_beside : Axis → ℕ → BlockAt → ℕ → ℕ → ℕ → ℕ → ℕ → CellAt
place_beside X n b i j k p r = in_block n b i p r
place_beside Y n b i j k p r = in_block n b r j p
place_beside Z n b i j k p r = in_block n b p r k

-- its name among edges along the axis
abbrev pub named : Shape → Axis → CellAt → CellAt
named s a c = canonical_on s (next a) (canonical_on s (next (next a)) c)

pub own_place : (a : Axis) (n : ℕ) (b : BlockAt) (i j k : ℕ) → place_beside a n b i j k (position (next a) i j k) (position (next (next a)) i j k) ≡ in_block n b i j k
own_place X n b i j k = refl
own_place Y n b i j k = refl
own_place Z n b i j k = refl

pub on_first : (a : Axis) (n : ℕ) (b : BlockAt) (i j k p r : ℕ) → on (next a) (place_beside a n b i j k p r) ≡ n * block_on (next a) b + p
on_first X n b i j k p r = refl
on_first Y n b i j k p r = refl
on_first Z n b i j k p r = refl

pub on_second : (a : Axis) (n : ℕ) (b : BlockAt) (i j k p r : ℕ) → on (next (next a)) (place_beside a n b i j k p r) ≡ n * block_on (next (next a)) b + r
on_second X n b i j k p r = refl
on_second Y n b i j k p r = refl
on_second Z n b i j k p r = refl

-- ---- edges inside a block

step_of : Bool → Bool → ℕ
step_of z e = if z then 0 else (if e then 2 else 1)

three_ends : (z e : Bool) → ((z ≡ false) × (e ≡ false) × (step_of z e ≡ 1)) ⊎ ((step_of z e ≡ 0) ⊎ (step_of z e ≡ 2))
unfolding step_of
three_ends true e = inr (inl refl)
three_ends false true = inr (inr refl)
three_ends false false = inl (refl, refl, refl)

end_few : (n p : ℕ) → end_step n p < 3
unfolding step_of
end_few n p = elim (three_ends (p == 0) (p == n)) [ inl none ↦ (let is = none.2 in omega (arith, is)) | inr (inl low) ↦ omega (arith, low) | inr (inr high) ↦ omega (arith, high) ]

between : (n p : ℕ) → p < n + 1 → end_step n p ≡ 1 → (0 < p) × (p < n)
unfolding step_of
between n p h one = elim (three_ends (p == 0) (p == n)) [
  | inl none ↦ (
    elim (cases_lt 0 p) [ inl t ↦ t | inr f ↦ (let e = eq-eqb p 0 (omega arith) in let z = none.0 in cc) ],
    elim (cases_lt p n) [ inl t ↦ t | inr f ↦ (let e = eq-eqb p n (omega arith) in let z = none.1 in cc) ],
  )
  | inr (inl low) ↦ absurd (omega (arith, low, one))
  | inr (inr high) ↦ absurd (omega (arith, high, one))
]

on_y_z : (s t : ℕ) → s < 3 → t < 3 → direction 1 s t ≡ 13 → (s ≡ 1) × (t ≡ 1)
on_y_z s t hs ht is = (omega arith, omega arith)

on_x_z : (s t : ℕ) → s < 3 → t < 3 → direction s 1 t ≡ 13 → (s ≡ 1) × (t ≡ 1)
on_x_z s t hs ht is = (omega arith, omega arith)

on_x_y : (s t : ℕ) → s < 3 → t < 3 → direction s t 1 ≡ 13 → (s ≡ 1) × (t ≡ 1)
on_x_y s t hs ht is = (omega arith, omega arith)

-- an edge on no part of the boundary has all its coordinates between the sides
pub inside_all : (a : Axis) (n i j k : ℕ) → i < longer_across a X n → j < longer_across a Y n → k < longer_across a Z n → edge_direction n a i j k ≡ 13 →
    let p = position (next a) i j k in let r = position (next (next a)) i j k in (position a i j k < n) × ((0 < p) × (p < n)) × ((0 < r) × (r < n))
inside_all X n i j k hi hj hk is = let one = on_y_z (end_step n j) (end_step n k) (end_few n j) (end_few n k) is in (hi, between n j hj one.0, between n k hk one.1)
inside_all Y n i j k hi hj hk is = let one = on_x_z (end_step n i) (end_step n k) (end_few n i) (end_few n k) is in (hj, between n k hk one.1, between n i hi one.0)
inside_all Z n i j k hi hj hk is = let one = on_x_y (end_step n i) (end_step n j) (end_few n i) (end_few n j) is in (hk, between n i hi one.0, between n j hj one.1)

-- ---- halves

on_line : (n x r i : ℕ) → (n ≡ 4) ⊎ (n ≡ 8) → n * (2 * x + r % 2) + i ≡ 2 * (n * x + (half_at n r + i / 2)) + i % 2
on_line n x r i size = let two = two_halves n (r % 2) size in omega arith

even_line : (s : Shape) (a : Axis) (l n x r i : ℕ) → (n ≡ 4) ⊎ (n ≡ 8) → i % 2 ≡ 0 →
    wrapped (is_periodic s a) (extent s a (suc l)) (n * (2 * x + r % 2) + i) ≡ 2 * wrapped (is_periodic s a) (extent s a l) (n * x + (half_at n r + i / 2)) + 0
even_line s a l n x r i size even =
    let line = on_line n x r i size in
    let at : n * (2 * x + r % 2) + i ≡ 2 * (n * x + (half_at n r + i / 2)) + 0 = omega arith in
    ap (wrapped (is_periodic s a) (extent s a (suc l))) at ∙ turned s a l (n * x + (half_at n r + i / 2))

-- at even positions an edge of a child is a half of its parent's
pub even_half : (s : Shape) (n : ℕ) (a : Axis) (b : BlockAt) (q i j k : ℕ) → (n ≡ 4) ⊎ (n ≡ 8) → position (next a) i j k % 2 ≡ 0 → position (next (next a)) i j k % 2 ≡ 0 →
    edge_of a (named s a (in_block n (child_block b q) i j k))
    ≡ half_edge (edge_of a (named s a (in_block n b (half_at n q + i / 2) (half_at n (q / 2) + j / 2) (half_at n (q / 4) + k / 2)))) (position a i j k % 2)
even_half s n X b q i j k size ep er =
    let x = on_line n b.x q i size in
    let y = even_line s Y b.level n b.y (q / 2) j size ep in
    let z = even_line s Z b.level n b.z (q / 4) k size er in
    λ t. record { axis = X; level = suc b.level; x = x t; y = y t; z = z t }
even_half s n Y b q i j k size ep er =
    let x = even_line s X b.level n b.x q i size er in
    let y = on_line n b.y (q / 2) j size in
    let z = even_line s Z b.level n b.z (q / 4) k size ep in
    λ t. record { axis = Y; level = suc b.level; x = x t; y = y t; z = z t }
even_half s n Z b q i j k size ep er =
    let x = even_line s X b.level n b.x q i size ep in
    let y = even_line s Y b.level n b.y (q / 2) j size er in
    let z = on_line n b.z (q / 4) k size in
    λ t. record { axis = Z; level = suc b.level; x = x t; y = y t; z = z t }

-- ---- the even positions beside a name

wrapped_even : (p : Bool) (e q : ℕ) → q % 2 ≡ 0 → wrapped p e q % 2 ≡ 0
unfolding wrapped
wrapped_even p e q h = elim (cases_Bool (p && (q == e))) [
  | inl t ↦ rw t refl
  | inr f ↦ rw f h
]

even_block : (n x p : ℕ) → (n ≡ 4) ⊎ (n ≡ 8) → (n * x + p) % 2 ≡ p % 2
even_block n x p size = by_size (λ m. (m * x + p) % 2 ≡ p % 2) n size (omega arith) (omega arith)

module _ (g : Grid) (a : Axis) (c : CellAt) (n x p : ℕ) (size : (n ≡ 4) ⊎ (n ≡ 8)) (at : on a c ≡ wrapped (is_periodic g.shape a) (extent g.shape a c.level) (n * x + p)) where
  one_beside : p % 2 ≡ 0 → evens g a c ≡ (c ∷ [])
  one_beside even =
      let here : on a c % 2 ≡ 0 = ap (λ w. w % 2) at ∙ wrapped_even (is_periodic g.shape a) (extent g.shape a c.level) (n * x + p) (even_block n x p size ∙ even) in
      rw (eq-eqb (on a c % 2) 0 here) refl

  two_beside : p % 2 ≡ 1 → n * x + p < extent g.shape a c.level →
      evens g a c ≡ (with a (wrapped (is_periodic g.shape a) (extent g.shape a c.level) (n * x + (p - 1))) c ∷ with a (wrapped (is_periodic g.shape a) (extent g.shape a c.level) (n * x + (p + 1))) c ∷ [])
  two_beside odd below =
      let e = extent g.shape a c.level in
      let own = at ∙ wrapped_below (is_periodic g.shape a) e (n * x + p) below in
      let odd_here : on a c % 2 ≡ 1 = ap (λ w. w % 2) own ∙ even_block n x p size ∙ odd in
      let back : on a c - 1 ≡ n * x + (p - 1) = omega (arith, own, odd) in
      let further : suc (on a c) ≡ n * x + (p + 1) = omega (arith, own) in
      let low : on a c - 1 ≡ wrapped (is_periodic g.shape a) e (n * x + (p - 1)) = back ∙ sym (wrapped_below (is_periodic g.shape a) e (n * x + (p - 1)) (omega (arith, below))) in
      let raw : evens g a c ≡ (with a (on a c - 1) c ∷ after g.shape a c ∷ []) = rw (not_even (on a c) odd_here) refl in
      raw ∙ ap₂ (λ u v. with a u c ∷ with a (wrapped (is_periodic g.shape a) e v) c ∷ []) low further

module _ (g : Grid) (b : BlockAt) (size : (g.shape.n ≡ 4) ⊎ (g.shape.n ≡ 8)) (a : Axis) (i j k : ℕ) where
  abbrev pub name_at : ℕ → ℕ → CellAt
  name_at p r = named g.shape a (place_beside a g.shape.n b i j k p r)

module _ (g : Grid) (b : BlockAt) (size : (g.shape.n ≡ 4) ⊎ (g.shape.n ≡ 8)) where
  pub one_first : (a : Axis) (i j k p r : ℕ) → p % 2 ≡ 0 → evens g (next a) (name_at g b size a i j k p r) ≡ (name_at g b size a i j k p r ∷ [])
  one_first X i j k p r even = one_beside g Y (name_at g b size X i j k p r) g.shape.n b.y p size refl even
  one_first Y i j k p r even = one_beside g Z (name_at g b size Y i j k p r) g.shape.n b.z p size refl even
  one_first Z i j k p r even = one_beside g X (name_at g b size Z i j k p r) g.shape.n b.x p size refl even

  pub one_second : (a : Axis) (i j k p r : ℕ) → r % 2 ≡ 0 → evens g (next (next a)) (name_at g b size a i j k p r) ≡ (name_at g b size a i j k p r ∷ [])
  one_second X i j k p r even = one_beside g Z (name_at g b size X i j k p r) g.shape.n b.z r size refl even
  one_second Y i j k p r even = one_beside g X (name_at g b size Y i j k p r) g.shape.n b.x r size refl even
  one_second Z i j k p r even = one_beside g Y (name_at g b size Z i j k p r) g.shape.n b.y r size refl even

  pub two_first : (a : Axis) (i j k p r : ℕ) → p % 2 ≡ 1 → g.shape.n * block_on (next a) b + p < extent g.shape (next a) b.level →
      evens g (next a) (name_at g b size a i j k p r) ≡ (name_at g b size a i j k (p - 1) r ∷ name_at g b size a i j k (p + 1) r ∷ [])
  two_first X i j k p r odd below = two_beside g Y (name_at g b size X i j k p r) g.shape.n b.y p size refl odd below
  two_first Y i j k p r odd below = two_beside g Z (name_at g b size Y i j k p r) g.shape.n b.z p size refl odd below
  two_first Z i j k p r odd below = two_beside g X (name_at g b size Z i j k p r) g.shape.n b.x p size refl odd below

  pub two_second : (a : Axis) (i j k p r : ℕ) → r % 2 ≡ 1 → g.shape.n * block_on (next (next a)) b + r < extent g.shape (next (next a)) b.level →
      evens g (next (next a)) (name_at g b size a i j k p r) ≡ (name_at g b size a i j k p (r - 1) ∷ name_at g b size a i j k p (r + 1) ∷ [])
  two_second X i j k p r odd below = two_beside g Z (name_at g b size X i j k p r) g.shape.n b.z r size refl odd below
  two_second Y i j k p r odd below = two_beside g X (name_at g b size Y i j k p r) g.shape.n b.x r size refl odd below
  two_second Z i j k p r odd below = two_beside g Y (name_at g b size Z i j k p r) g.shape.n b.y r size refl odd below

  pub level_at : (a : Axis) (i j k p r : ℕ) → (name_at g b size a i j k p r).level ≡ b.level
  level_at X i j k p r = refl
  level_at Y i j k p r = refl
  level_at Z i j k p r = refl

  pub first_at_name : (a : Axis) (i j k p r : ℕ) → on (next a) (name_at g b size a i j k p r) ≡ wrapped (is_periodic g.shape (next a)) (extent g.shape (next a) b.level) (g.shape.n * block_on (next a) b + p)
  first_at_name X i j k p r = refl
  first_at_name Y i j k p r = refl
  first_at_name Z i j k p r = refl

  pub second_at_name : (a : Axis) (i j k p r : ℕ) →
      on (next (next a)) (name_at g b size a i j k p r) ≡ wrapped (is_periodic g.shape (next (next a))) (extent g.shape (next (next a)) b.level) (g.shape.n * block_on (next (next a)) b + r)
  second_at_name X i j k p r = refl
  second_at_name Y i j k p r = refl
  second_at_name Z i j k p r = refl

  -- the edges at even positions beside or round one
  pub round_first : (a : Axis) (i j k p r : ℕ) → p % 2 ≡ 1 → r % 2 ≡ 0 → g.shape.n * block_on (next a) b + p < extent g.shape (next a) b.level →
      even_round g (edge_of a (name_at g b size a i j k p r)) ≡ (name_at g b size a i j k (p - 1) r ∷ name_at g b size a i j k (p + 1) r ∷ [])
  round_first a i j k p r odd even below =
      ap (flat_map (evens g (next (next a)))) (two_first a i j k p r odd below)
      ∙ ap₂ (λ u v. u ++ (v ++ [])) (one_second a i j k (p - 1) r even) (one_second a i j k (p + 1) r even)

  pub round_second : (a : Axis) (i j k p r : ℕ) → p % 2 ≡ 0 → r % 2 ≡ 1 → g.shape.n * block_on (next (next a)) b + r < extent g.shape (next (next a)) b.level →
      even_round g (edge_of a (name_at g b size a i j k p r)) ≡ (name_at g b size a i j k p (r - 1) ∷ name_at g b size a i j k p (r + 1) ∷ [])
  round_second a i j k p r even odd below =
      ap (flat_map (evens g (next (next a)))) (one_first a i j k p r even)
      ∙ ap (λ u. u ++ []) (two_second a i j k p r odd below)

  pub round_both : (a : Axis) (i j k p r : ℕ) → p % 2 ≡ 1 → r % 2 ≡ 1 → g.shape.n * block_on (next a) b + p < extent g.shape (next a) b.level →
      g.shape.n * block_on (next (next a)) b + r < extent g.shape (next (next a)) b.level →
      even_round g (edge_of a (name_at g b size a i j k p r)) ≡ (name_at g b size a i j k (p - 1) (r - 1) ∷ name_at g b size a i j k (p - 1) (r + 1) ∷ name_at g b size a i j k (p + 1) (r - 1) ∷ name_at g b size a i j k (p + 1) (r + 1) ∷ [])
  round_both a i j k p r odd odd_second first second =
      ap (flat_map (evens g (next (next a)))) (two_first a i j k p r odd first)
      ∙ ap₂ (λ u v. u ++ (v ++ [])) (two_second a i j k (p - 1) r odd_second second) (two_second a i j k (p + 1) r odd_second second)

  -- an odd position is named by an odd one
  pub odd_first : (a : Axis) (i j k p r : ℕ) → p % 2 ≡ 1 → g.shape.n * block_on (next a) b + p < extent g.shape (next a) b.level → is_even (on (next a) (name_at g b size a i j k p r)) ≡ false
  odd_first a i j k p r odd below =
      not_even (on (next a) (name_at g b size a i j k p r))
      (ap (λ w. w % 2) (first_at_name a i j k p r ∙ wrapped_below (is_periodic g.shape (next a)) (extent g.shape (next a) b.level) (g.shape.n * block_on (next a) b + p) below)
      ∙ even_block g.shape.n (block_on (next a) b) p size ∙ odd)

  pub odd_second : (a : Axis) (i j k p r : ℕ) → r % 2 ≡ 1 → g.shape.n * block_on (next (next a)) b + r < extent g.shape (next (next a)) b.level →
      is_even (on (next (next a)) (name_at g b size a i j k p r)) ≡ false
  odd_second a i j k p r odd below =
      not_even (on (next (next a)) (name_at g b size a i j k p r))
      (ap (λ w. w % 2) (second_at_name a i j k p r ∙ wrapped_below (is_periodic g.shape (next (next a))) (extent g.shape (next (next a)) b.level) (g.shape.n * block_on (next (next a)) b + r) below)
      ∙ even_block g.shape.n (block_on (next (next a)) b) r size ∙ odd)

-- ---- edges of a block of the domain

wrapped_most : (p : Bool) (e q : ℕ) → q ≤ e → wrapped p e q ≤ e
unfolding wrapped
wrapped_most p e q h = elim (cases_Bool (p && (q == e))) [
  | inl t ↦ rw t (omega arith)
  | inr f ↦ rw f h
]

module _ (s : Shape) (b : BlockAt) (size : (s.n ≡ 4) ⊎ (s.n ≡ 8)) (x : b.x < s.rx * 2 ^ b.level) (y : b.y < s.ry * 2 ^ b.level) (z : b.z < s.rz * 2 ^ b.level) where
  pub place_below : (a : Axis) (i : ℕ) → i < s.n → s.n * block_on a b + i < extent s a b.level
  place_below X i h = line_inside s.n s.rx b.level b.x i size x h
  place_below Y i h = line_inside s.n s.ry b.level b.y i size y h
  place_below Z i h = line_inside s.n s.rz b.level b.z i size z h

  named_most : (a : Axis) (p : ℕ) → p ≤ s.n → wrapped (is_periodic s a) (extent s a b.level) (s.n * block_on a b + p) ≤ extent s a b.level
  named_most a p h =
      let last = place_below a (s.n - 1) (omega (arith, some_cells s.n size)) in
      wrapped_most (is_periodic s a) (extent s a b.level) (s.n * block_on a b + p) (omega (arith, last, h))

  pub edge_inside : (a : Axis) (i j k p r : ℕ) → position a i j k < s.n → p ≤ s.n → r ≤ s.n → EdgeInside s (edge_of a (named s a (place_beside a s.n b i j k p r)))
  edge_inside X i j k p r h hp hr = record { along = place_below X i h; first = named_most Y p hp; second = named_most Z r hr }
  edge_inside Y i j k p r h hp hr = record { along = place_below Y j h; first = named_most Z p hp; second = named_most X r hr }
  edge_inside Z i j k p r h hp hr = record { along = place_below Z k h; first = named_most X p hp; second = named_most Y r hr }
