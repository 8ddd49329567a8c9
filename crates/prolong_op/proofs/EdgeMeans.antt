-- Floored means of the edges at even positions, and a child's edges that are split where the parts and the means are there.
use Rattle.std.proofs.Common.{◌≡◌, ℕ, ◌+◌, ◌-◌, ◌*◌, ◌/◌, ◌%◌, ◌<◌, ◌≤◌, Bool, true, false, not, ◌&&◌, List, [], ◌∷◌, ℤ, pos, negsuc, ◌+ℤ◌, refl, sym, ap, ap₂, ◌∙◌, arith, inl, inr, subst, length, map, eqb-true}
use Rattle.std.specs.Prelude.{flat_map, if◌then◌else◌}
use Rattle.std.proofs.lemmas.Bool.{and_parts, cases_Bool, cases_lt}
use Rattle.std.proofs.lemmas.Int.{ints}
use Rattle.amr_num.specs.declared.Axis.{Axis}
use Rattle.amr_num.specs.declared.Axis.TheVariants.{X, Y, Z}
use Rattle.amr_num.specs.Numbers.{Within, floor_div, number_range}
use Rattle.amr_num.proofs.Sizes.{part_size}
use Rattle.mesh_model.specs.Geometry.Coordinates.{next}
use Rattle.mesh_model.specs.Geometry.Places.{longer_across}
use Rattle.mesh_model.specs.Fields.ArrayPlaces.{AreRowsWritten, IsSize, IsWritten, edge_extents, number_at}
use Rattle.mesh_model.specs.Fields.EdgeSplits.{EdgeSourcesAreSmall, IsAxisSplit, are_even, edge_box, edge_mean, edge_part, even_positions, is_kept_edge, split_edge}
use Rattle.mesh_model.specs.Fields.FaceSplits.{face_above, position}
use Rattle.mesh_model.specs.Fields.Views.{is_even, sum_of}
use Rattle.prolong_op.specs.EdgeSplitting.{EvenEdgesAreSmall, edge_given, edge_part_or_old, mean_or_old, number_beside}
use Rattle.mesh_model.proofs.FieldLemmas.BlockPlaces.{next_row, row_y, row_z}
use Rattle.prolong_op.proofs.Between.{even_is, odd_of, twice_half}
use Rattle.prolong_op.proofs.Lines.{block_fits, edge_lines, edges_of}

-- ---- a mean of four in which numbers stand twice

half_of_twice : (x : ℤ) → floor_div (x +ℤ x) 4 ≡ floor_div x 2
half_of_twice (pos a) = ap pos (omega arith)
half_of_twice (negsuc a) = ap negsuc (omega arith)

whole_of_four : (x : ℤ) → floor_div (x +ℤ x +ℤ x +ℤ x) 4 ≡ x
whole_of_four (pos a) = ap pos (omega arith)
whole_of_four (negsuc a) = ap negsuc (omega arith)

two_same : (x y : ℤ) → floor_div (x +ℤ (y +ℤ pos 0)) 2 ≡ floor_div (x +ℤ x +ℤ y +ℤ y) 4
two_same x y = sym (ap (λ s. floor_div s 4) (omega (arith, ints)) ∙ half_of_twice (x +ℤ (y +ℤ pos 0)))

two_in_turn : (x y : ℤ) → floor_div (x +ℤ (y +ℤ pos 0)) 2 ≡ floor_div (x +ℤ y +ℤ x +ℤ y) 4
two_in_turn x y = two_same x y ∙ ap (λ s. floor_div s 4) (omega (arith, ints))

four_once : (x y z w : ℤ) → floor_div (x +ℤ (y +ℤ (z +ℤ (w +ℤ pos 0)))) 4 ≡ floor_div (x +ℤ y +ℤ z +ℤ w) 4
four_once x y z w = ap (λ s. floor_div s 4) (omega (arith, ints))

once : (x : ℤ) → floor_div (x +ℤ pos 0) 1 ≡ x
once x = ap (λ s. floor_div s 1) (omega (arith, ints)) ∙ whole x
  where
    whole : (x : ℤ) → floor_div x 1 ≡ x
    whole (pos a) = ap pos (omega arith)
    whole (negsuc a) = ap negsuc (omega arith)

-- ---- the even positions beside one

even_of : (p : ℕ) → is_even p ≡ true → p % 2 ≡ 0
even_of p h = eqb-true (p % 2) 0 h

-- the even positions below and above a position, which is both where it is even itself
abbrev pub low_even : ℕ → ℕ
low_even p = p - p % 2

abbrev pub high_even : ℕ → ℕ
high_even p = p + p % 2

pub one_even : (p : ℕ) → is_even p ≡ true → (even_positions p ≡ (p ∷ [])) × (low_even p ≡ p) × (high_even p ≡ p)
one_even p h = let even = even_of p h in (rw h refl, omega arith, omega arith)

pub two_even : (p : ℕ) → is_even p ≡ false → (even_positions p ≡ ((p - 1) ∷ (p + 1) ∷ [])) × (low_even p ≡ p - 1) × (high_even p ≡ p + 1)
two_even p h = let odd = odd_of p h in (rw h refl, omega arith, omega arith)

abbrev pub four_mean : (ℕ → ℕ → ℤ) → ℕ → ℕ → ℕ → ℕ → ℤ
four_mean f low high near far = floor_div (f low near +ℤ f low far +ℤ f high near +ℤ f high far) 4

four_at : (f : ℕ → ℕ → ℤ) (low high near far a b c d : ℕ) → low ≡ a → high ≡ b → near ≡ c → far ≡ d → four_mean f low high near far ≡ four_mean f a b c d
four_at f low high near far a b c d e1 e2 e3 e4 =
    ap₂ (λ u v. four_mean f u v near far) e1 e2 ∙ ap₂ (λ u v. four_mean f a b u v) e3 e4

abbrev pub numbers_at : (ℕ → ℕ → ℤ) → List ℕ → List ℕ → List ℤ
numbers_at f ps rs = flat_map (λ p. map (λ r. f p r) rs) ps

abbrev pub mean_at : (ℕ → ℕ → ℤ) → List ℕ → List ℕ → ℤ
mean_at f ps rs = floor_div (sum_of (numbers_at f ps rs)) (length (numbers_at f ps rs))

-- the mean of the numbers at them is that of four
mean_is_four : (f : ℕ → ℕ → ℤ) (p r : ℕ) → mean_at f (even_positions p) (even_positions r) ≡ four_mean f (low_even p) (high_even p) (low_even r) (high_even r)
mean_is_four f p r = elim (cases_Bool (is_even p)) [
  | inl ep ↦
      let ps = one_even p ep in
      elim (cases_Bool (is_even r)) [
        | inl er ↦
            let rs = one_even r er in
            ap₂ (mean_at f) ps.0 rs.0 ∙ once (f p r) ∙ sym (whole_of_four (f p r)) ∙ sym (four_at f _ _ _ _ p p r r ps.1 ps.2 rs.1 rs.2)
        | inr or ↦
            let rs = two_even r or in
            ap₂ (mean_at f) ps.0 rs.0 ∙ two_in_turn (f p (r - 1)) (f p (r + 1)) ∙ sym (four_at f _ _ _ _ p p (r - 1) (r + 1) ps.1 ps.2 rs.1 rs.2)
      ]
  | inr op ↦
      let ps = two_even p op in
      elim (cases_Bool (is_even r)) [
        | inl er ↦
            let rs = one_even r er in
            ap₂ (mean_at f) ps.0 rs.0 ∙ two_same (f (p - 1) r) (f (p + 1) r) ∙ sym (four_at f _ _ _ _ (p - 1) (p + 1) r r ps.1 ps.2 rs.1 rs.2)
        | inr or ↦
            let rs = two_even r or in
            ap₂ (mean_at f) ps.0 rs.0 ∙ four_once (f (p - 1) (r - 1)) (f (p - 1) (r + 1)) (f (p + 1) (r - 1)) (f (p + 1) (r + 1))
            ∙ sym (four_at f _ _ _ _ (p - 1) (p + 1) (r - 1) (r + 1) ps.1 ps.2 rs.1 rs.2)
      ]
]

-- the numbers beside an edge, by its positions
abbrev pub first_at : Axis → ℕ → ℕ → ℕ → ℕ
first_at a i j k = position (next a) i j k

abbrev pub second_at : Axis → ℕ → ℕ → ℕ → ℕ
second_at a i j k = position (next (next a)) i j k

pub edge_mean_four : (a : Axis) (numbers : ℕ → ℕ → ℕ → ℤ) (i j k : ℕ) → edge_mean a numbers i j k
    ≡ four_mean (number_beside a numbers i j k) (low_even (first_at a i j k)) (high_even (first_at a i j k)) (low_even (second_at a i j k)) (high_even (second_at a i j k))
edge_mean_four X numbers i j k = mean_is_four (number_beside X numbers i j k) j k
edge_mean_four Y numbers i j k = mean_is_four (number_beside Y numbers i j k) k i
edge_mean_four Z numbers i j k = mean_is_four (number_beside Z numbers i j k) i j

-- the same of four numbers that are read one after the other
pub mean_of_four : (a : Axis) (numbers : ℕ → ℕ → ℕ → ℤ) (i j k p r : ℕ) (w x y z mean : ℤ) → p ≡ first_at a i j k → r ≡ second_at a i j k → let f = number_beside a numbers i j k in
    w ≡ f (low_even p) (low_even r) → x ≡ f (low_even p) (high_even r) → y ≡ f (high_even p) (low_even r) → z ≡ f (high_even p) (high_even r) →
    mean ≡ floor_div (w +ℤ x +ℤ y +ℤ z) 4 → mean ≡ edge_mean a numbers i j k
mean_of_four a numbers i j k p r w x y z mean ep er ew ex ey ez is =
    let f = number_beside a numbers i j k in
    is
    ∙ ap₂ (λ u v. floor_div (u +ℤ v +ℤ y +ℤ z) 4) ew ex
    ∙ ap₂ (λ u v. floor_div (f (low_even p) (low_even r) +ℤ f (low_even p) (high_even r) +ℤ u +ℤ v) 4) ey ez
    ∙ ap₂ (λ u v. four_mean f (low_even u) (high_even u) (low_even v) (high_even v)) ep er
    ∙ sym (edge_mean_four a numbers i j k)

-- at even positions an edge is its own mean
pub mean_even : (a : Axis) (numbers : ℕ → ℕ → ℕ → ℤ) (i j k : ℕ) → are_even a i j k ≡ true → edge_mean a numbers i j k ≡ numbers i j k
mean_even X numbers i j k h = let b = and_parts _ _ h in ap₂ (mean_at (number_beside X numbers i j k)) (one_even j b.0).0 (one_even k b.1).0 ∙ once (numbers i j k)
mean_even Y numbers i j k h = let b = and_parts _ _ h in ap₂ (mean_at (number_beside Y numbers i j k)) (one_even k b.0).0 (one_even i b.1).0 ∙ once (numbers i j k)
mean_even Z numbers i j k h = let b = and_parts _ _ h in ap₂ (mean_at (number_beside Z numbers i j k)) (one_even i b.0).0 (one_even j b.1).0 ∙ once (numbers i j k)

-- ---- numbers of a block

both : (a b : Bool) → a ≡ true → b ≡ true → (a && b) ≡ true
both a b e f = rw (e, f) refl

module _ (n g : ℕ) (size : IsSize n g) where
  pub even_below : (p : ℕ) → p < n + 1 → (low_even p ≤ n) × (high_even p ≤ n) × (low_even p % 2 ≡ 0) × (high_even p % 2 ≡ 0)
  even_below p h = let t = twice_half n g size in (omega arith, omega arith, omega arith, omega arith)

  -- numbers beside an edge at even positions are of the block's edges at even positions
  pub beside_small : (a : Axis) (numbers : ℕ → ℕ → ℕ → ℤ) → EvenEdgesAreSmall n g a numbers → (i j k p r : ℕ) → i < longer_across a X n → j < longer_across a Y n → k < longer_across a Z n →
      p ≤ n → r ≤ n → p % 2 ≡ 0 → r % 2 ≡ 0 → Within number_range (number_beside a (λ i j k. numbers (g + i) (g + j) (g + k)) i j k p r)
  beside_small X numbers small i j k p r hi hj hk hp hr ep er = small.at i p r hi (omega arith) (omega arith) (both _ _ (even_is p ep) (even_is r er))
  beside_small Y numbers small i j k p r hi hj hk hp hr ep er = small.at r j p (omega arith) hj (omega arith) (both _ _ (even_is p ep) (even_is r er))
  beside_small Z numbers small i j k p r hi hj hk hp hr ep er = small.at p r k (omega arith) (omega arith) hk (both _ _ (even_is p ep) (even_is r er))

  beside_same : (a : Axis) (f h : ℕ → ℕ → ℕ → ℤ) →
      ((i j k : ℕ) → i < longer_across a X n → j < longer_across a Y n → k < longer_across a Z n → are_even a i j k ≡ true → f i j k ≡ h i j k) →
      (i j k p r : ℕ) → i < longer_across a X n → j < longer_across a Y n → k < longer_across a Z n → p ≤ n → r ≤ n → p % 2 ≡ 0 → r % 2 ≡ 0 →
      number_beside a f i j k p r ≡ number_beside a h i j k p r
  beside_same X f h same i j k p r hi hj hk hp hr ep er = same i p r hi (omega arith) (omega arith) (both _ _ (even_is p ep) (even_is r er))
  beside_same Y f h same i j k p r hi hj hk hp hr ep er = same r j p (omega arith) hj (omega arith) (both _ _ (even_is p ep) (even_is r er))
  beside_same Z f h same i j k p r hi hj hk hp hr ep er = same p r k (omega arith) (omega arith) hk (both _ _ (even_is p ep) (even_is r er))

  positions_below : (a : Axis) (i j k : ℕ) → i < longer_across a X n → j < longer_across a Y n → k < longer_across a Z n → (first_at a i j k < n + 1) × (second_at a i j k < n + 1)
  positions_below X i j k hi hj hk = (hj, hk)
  positions_below Y i j k hi hj hk = (hk, hi)
  positions_below Z i j k hi hj hk = (hi, hj)

  -- numbers that are the same at even positions have the same means
  pub mean_same : (a : Axis) (f h : ℕ → ℕ → ℕ → ℤ) →
      ((i j k : ℕ) → i < longer_across a X n → j < longer_across a Y n → k < longer_across a Z n → are_even a i j k ≡ true → f i j k ≡ h i j k) →
      (i j k : ℕ) → i < longer_across a X n → j < longer_across a Y n → k < longer_across a Z n → edge_mean a f i j k ≡ edge_mean a h i j k
  mean_same a f h same i j k hi hj hk =
      let p = first_at a i j k in
      let r = second_at a i j k in
      let below = positions_below a i j k hi hj hk in
      let ps = even_below p below.0 in
      let rs = even_below r below.1 in
      let is : (u v : ℕ) → u ≤ n → v ≤ n → u % 2 ≡ 0 → v % 2 ≡ 0 → number_beside a f i j k u v ≡ number_beside a h i j k u v = λ u v hu hv eu ev. beside_same a f h same i j k u v hi hj hk hu hv eu ev in
      let low_near = is (low_even p) (low_even r) ps.0 rs.0 ps.2 rs.2 in
      let low_far = is (low_even p) (high_even r) ps.0 rs.1 ps.2 rs.3 in
      let high_near = is (high_even p) (low_even r) ps.1 rs.0 ps.3 rs.2 in
      let high_far = is (high_even p) (high_even r) ps.1 rs.1 ps.3 rs.3 in
      edge_mean_four a f i j k
      ∙ ap₂ (λ u v. floor_div (u +ℤ number_beside a f i j k (high_even p) (low_even r) +ℤ v) 4) (ap₂ (λ u v. u +ℤ v) low_near low_far) high_far
      ∙ ap (λ u. floor_div (number_beside a h i j k (low_even p) (low_even r) +ℤ number_beside a h i j k (low_even p) (high_even r) +ℤ u +ℤ number_beside a h i j k (high_even p) (high_even r)) 4) high_near
      ∙ sym (edge_mean_four a h i j k)

-- ---- which of the numbers an edge has

pick_if : (b : Bool) (p q : ℤ) → b ≡ true → (if b then p else q) ≡ p
pick_if true p q h = refl
pick_if false p q h = cc

pick_else : (b : Bool) (p q : ℤ) → b ≡ false → (if b then p else q) ≡ q
pick_else false p q h = refl
pick_else true p q h = cc

-- the part where the edge is one
pick_part : (s e : Bool) (p o : ℤ) → s ≡ false → e ≡ true → (if not s && e then p else o) ≡ p
pick_part false true p o h l = refl
pick_part true e p o h l = cc
pick_part s false p o h l = cc

pick_old : (s e : Bool) (p o : ℤ) → s ≡ true → (if not s && e then p else o) ≡ o
pick_old true e p o h = refl
pick_old false e p o h = cc

module _ (n g kept : ℕ) (size : IsSize n g) (a : Axis) where
  -- the mean of an edge at even positions is what it has
  even_stays : (numbers : ℕ → ℕ → ℕ → ℤ) (i j k : ℕ) → are_even a i j k ≡ true → mean_or_old n g kept a numbers i j k ≡ numbers (g + i) (g + j) (g + k)
  unfolding mean_or_old
  even_stays numbers i j k even =
      let own = numbers (g + i) (g + j) (g + k) in
      let mean = edge_mean a (λ i j k. numbers (g + i) (g + j) (g + k)) i j k in
      elim (cases_Bool (is_kept_edge n kept a i j k)) [
        | inl stays ↦ pick_if (is_kept_edge n kept a i j k) own mean stays
        | inr free ↦ pick_else (is_kept_edge n kept a i j k) own mean free ∙ mean_even a (λ i j k. numbers (g + i) (g + j) (g + k)) i j k even
      ]

  -- means of numbers that are the same here and at even positions are the same
  means_same : (f h : ℕ → ℕ → ℕ → ℤ) →
      ((i j k : ℕ) → i < longer_across a X n → j < longer_across a Y n → k < longer_across a Z n → are_even a i j k ≡ true → f (g + i) (g + j) (g + k) ≡ h (g + i) (g + j) (g + k)) →
      (i j k : ℕ) → i < longer_across a X n → j < longer_across a Y n → k < longer_across a Z n → f (g + i) (g + j) (g + k) ≡ h (g + i) (g + j) (g + k) →
      mean_or_old n g kept a f i j k ≡ mean_or_old n g kept a h i j k
  unfolding mean_or_old
  means_same f h same i j k hi hj hk own =
      ap₂ (λ u v. if is_kept_edge n kept a i j k then u else v) own
      (mean_same n g size a (λ i j k. f (g + i) (g + j) (g + k)) (λ i j k. h (g + i) (g + j) (g + k)) same i j k hi hj hk)

  -- row by row
  module _ (old now : List ℤ) (m : ℕ)
      (so_far : let e = edge_extents n g a in AreRowsWritten m e (edge_box n g a) (mean_or_old n g kept a (number_at e old)) old now) where
    pub evens_wait : (i j k : ℕ) → i < longer_across a X n → j < longer_across a Y n → k < longer_across a Z n → are_even a i j k ≡ true →
        number_at (edge_extents n g a) now (g + i) (g + j) (g + k) ≡ number_at (edge_extents n g a) old (g + i) (g + j) (g + k)
    evens_wait i j k hi hj hk even = elim (cases_lt (j + longer_across a Y n * k) m) [
      | inl there ↦ so_far.written i j k hi hj there ∙ even_stays (number_at (edge_extents n g a) old) i j k even
      | inr waits ↦ so_far.waits i j k hi hj hk waits
    ]

    pub row_of_means : let h = longer_across a Y n in m < h * longer_across a Z n → (t : ℕ) → t < longer_across a X n →
        mean_or_old n g kept a (number_at (edge_extents n g a) now) t (m % h) (m / h) ≡ mean_or_old n g kept a (number_at (edge_extents n g a) old) t (m % h) (m / h)
    row_of_means within t ht =
        let e = edge_extents n g a in
        let fits = block_fits n g size e (edges_of n a) (edge_lines n g a) in
        means_same (number_at e now) (number_at e old) evens_wait t (m % longer_across a Y n) (m / longer_across a Y n) ht
        (row_y e (edge_box n g a) fits m within) (row_z e (edge_box n g a) fits m within)
        (next_row e (edge_box n g a) fits m (mean_or_old n g kept a (number_at e old)) old now within so_far t ht)

  -- first the parts, then the means
  module _ (q : ℕ) (parent old mid : List ℤ)
      (parts : let e = edge_extents n g a in IsWritten e (edge_box n g a) (edge_part_or_old n g q kept a (number_at e parent) (number_at e old)) old mid) where
    -- the parts and what was kept are in range
    pub even_small : let e = edge_extents n g a in EdgeSourcesAreSmall n g q kept a (number_at e parent) (number_at e old) → EvenEdgesAreSmall n g a (number_at e mid)
    unfolding edge_given
    even_small small = record {
      at = λ i j k hi hj hk even.
          let e = edge_extents n g a in
          let s = is_kept_edge n kept a i j k in
          let its = edge_part n g q a (number_at e parent) i j k in
          let was = number_at e old (g + i) (g + j) (g + k) in
          subst (Within number_range) (sym (parts.written i j k hi hj hk))
          (elim (cases_Bool s) [
            | inl stays ↦ subst (Within number_range) (sym (pick_old s (are_even a i j k) its was stays)) (small.stay i j k hi hj hk stays)
            | inr free ↦
                let whole = face_above n g q (number_at e parent) i j k in
                let few = small.split i j k hi hj hk free even in
                let least = part_size (position a i j k % 2) 2 whole (omega arith) in
                subst (Within number_range) (sym (pick_part s (are_even a i j k) its was free even)) (omega arith)
          ]);
    }

    pub split_done : (new : List ℤ) → let e = edge_extents n g a in IsWritten e (edge_box n g a) (mean_or_old n g kept a (number_at e mid)) mid new → IsAxisSplit n g q kept a parent old new
    unfolding split_edge edge_given mean_or_old
    split_done new means = record {
      size = means.size ∙ parts.size;
      written = λ i j k hi hj hk.
          let e = edge_extents n g a in
          let s = is_kept_edge n kept a i j k in
          let even = are_even a i j k in
          let its = edge_part n g q a (number_at e parent) i j k in
          let was = number_at e old (g + i) (g + j) (g + k) in
          let now = number_at e mid (g + i) (g + j) (g + k) in
          let here = λ (xs : List ℤ). edge_mean a (λ i j k. number_at e xs (g + i) (g + j) (g + k)) i j k in
          let same = mean_same n g size a (λ i j k. number_at e mid (g + i) (g + j) (g + k)) (λ i j k. number_at e new (g + i) (g + j) (g + k))
          (λ u v w hu hv hw even. sym (means.written u v w hu hv hw ∙ even_stays (number_at e mid) u v w even)) i j k hi hj hk in
          means.written i j k hi hj hk
          ∙ (elim (cases_Bool s) [
            | inl stays ↦
                pick_if s now (here mid) stays ∙ parts.written i j k hi hj hk ∙ pick_old s even its was stays
                ∙ sym (pick_if s was (if even then its else here new) stays)
            | inr free ↦ elim (cases_Bool even) [
              | inl is ↦
                  pick_else s now (here mid) free ∙ mean_even a (λ i j k. number_at e mid (g + i) (g + j) (g + k)) i j k is
                  ∙ parts.written i j k hi hj hk ∙ pick_part s even its was free is
                  ∙ sym (pick_else s was (if even then its else here new) free ∙ pick_if even its (here new) is)
              | inr odd ↦ pick_else s now (here mid) free ∙ same ∙ sym (pick_else s was (if even then its else here new) free ∙ pick_else even its (here new) odd)
            ]
          ]);
      stays = λ i j k hi hj hk out. means.stays i j k hi hj hk out ∙ parts.stays i j k hi hj hk out;
    }
