-- Blocks, their cells and their faces side by side on one axis.
use Rattle.std.proofs.Common.{◌≡◌, ℕ, zero, suc, ◌+◌, ◌-◌, ◌*◌, ◌^◌, ◌<◌, ◌≤◌, Bool, true, false, not, Some, None, refl, sym, ap, ap₂, subst, ◌∙◌, arith, inl, inr}
use Rattle.std.specs.Prelude.{option_map}
use Rattle.std.proofs.Math.Nat.{mul-le-mul_right, mul_assoc, mul-pos}
use Rattle.std.proofs.Math.Pow.{pow-add}
use Rattle.std.proofs.lemmas.Bool.{cases_lt, le-ltb}
use Rattle.std.proofs.lemmas.Nat.{pow_pos}
use Rattle.mesh_model.specs.Geometry.Coordinates.{above, below, wrapped}
use Rattle.mesh_model.specs.Geometry.Touch.{high_end, low_end}
use Rattle.mesh_model.proofs.FieldLemmas.Beside.{Follows, above_in, above_out, before_after, below_follows}
use Rattle.mesh_model.proofs.FieldLemmas.Sums.{wrapped_end, wrapped_inside}
use Rattle.mesh_model.proofs.TreeLemmas.Touching.{Meet, meet_over, meet_times}
use Rattle.block_tree.specs.Beside.{beside_on}
use Rattle.block_tree.specs.SideFaces.{side_half, side_position}

-- ---- positions

pub inside_stays : (p : Bool) (e q : ℕ) → q < e → wrapped p e q ≡ q
unfolding wrapped
inside_stays true e q h = wrapped_inside e q h
inside_stays false e q h = refl

unturned : (e q : ℕ) → wrapped false e q ≡ q
unfolding wrapped
unturned e q = refl

-- a block's cells lie on the axis
pub in_row : (n b e i : ℕ) → b < e → i < n → n * b + i < e * n
in_row n b e i hb hi = let next : (b + 1) * n ≤ e * n = mul-le-mul_right n (omega arith) in omega arith

last_cell : (e n : ℕ) → 0 < e → 0 < n → e * n - 1 ≡ n * (e - 1) + (n - 1)
last_cell zero n he hn = absurd (omega arith)
last_cell (suc e) n he hn = let one : suc e - 1 ≡ e = omega arith in rw one (omega arith)

pub at_far_end : (e q : ℕ) → 0 < e → q ≡ e → above true e q ≡ Some 0
at_far_end e q some is = let far : e ≤ q = omega arith in rw (le-ltb q e far) refl

-- ---- the coordinate beside

-- b comes after d on the low side, and d after b on the high one
abbrev pub Neighbours : Bool → ℕ → Bool → ℕ → ℕ → Type 0
Neighbours p e false b d = Follows p e d b
Neighbours p e true b d = Follows p e b d × (d < e)

follows_at_end : (p : Bool) (e b d : ℕ) → suc b ≡ e → above p e (suc b) ≡ Some d → Follows p e b d × (d < e)
follows_at_end true e b d end is =
    let there : Some d ≡ Some 0 = sym is ∙ at_far_end e (suc b) (omega arith) end in
    let first : d ≡ 0 = cc in
    (inr (refl, first, end), omega arith)
follows_at_end false e b d end is = let there : Some d ≡ None = sym is ∙ above_out e (suc b) (omega arith) in cc

pub neighbours : (p high : Bool) (e b d : ℕ) → b < e → beside_on p high e b ≡ Some d → Neighbours p e high b d
neighbours p false e b d h is = below_follows p e b d (omega arith) is
neighbours p true e b d h is = elim (cases_lt (suc b) e) [
  | inl less ↦
      let there : Some d ≡ Some (suc b) = sym is ∙ above_in p e (suc b) less in
      let next : d ≡ suc b = cc in
      (inl (sym next), omega arith)
  | inr more ↦ follows_at_end p e b d (omega arith) is
]

-- blocks side by side meet
pub side_by_side : (p high : Bool) (e b d : ℕ) → Neighbours p e high b d → Meet p e b (suc b) d (suc d)
side_by_side p false e b d (inl is) = inl (omega arith, omega arith)
side_by_side p false e b d (inr (t, first, end)) = inr (t, inl (omega arith))
side_by_side p true e b d (inl is, within) = inl (omega arith, omega arith)
side_by_side p true e b d (inr (t, first, end), within) = inr (t, inr (omega arith))

-- beside the half of d towards b stands the half of b towards d
pub back : (p high : Bool) (e b d : ℕ) → b < e → Neighbours p e high b d → beside_on p (not high) (2 * e) (2 * d + side_half (not high)) ≡ Some (2 * b + side_half high)
back p false e b d h (inl is) = let q : suc (2 * d + 1) ≡ 2 * b + 0 = omega arith in ap (above p (2 * e)) q ∙ above_in p (2 * e) (2 * b + 0) (omega arith)
back p false e b d h (inr (t, zero_b, end)) =
    let q : suc (2 * d + 1) ≡ 2 * e = omega arith in
    let none : 0 ≡ 2 * b + 0 = omega arith in
    ap (λ (u : Bool). above u (2 * e) (suc (2 * d + 1))) t ∙ at_far_end (2 * e) (suc (2 * d + 1)) (omega arith) q ∙ ap Some none
back p true e b d h (inl is, within) = let q : 2 * d + 0 ≡ suc (2 * b + 1) = omega arith in ap (below p (2 * e)) q
back p true e b d h (inr (t, zero_d, end), within) =
    let q : 2 * d + 0 ≡ 0 = omega arith in
    let last : 2 * e - 1 ≡ 2 * b + 1 = omega arith in
    ap₂ (λ (u : Bool) v. below u (2 * e) v) t q ∙ ap Some last

-- these halves meet
pub halves_meet : (p high : Bool) (e b d : ℕ) → Neighbours p e high b d →
    Meet p (2 * e) (2 * b + side_half high) (suc (2 * b + side_half high)) (2 * d + side_half (not high)) (suc (2 * d + side_half (not high)))
halves_meet p false e b d (inl is) = inl (omega arith, omega arith)
halves_meet p false e b d (inr (t, zero_b, end)) = inr (t, inl (omega arith))
halves_meet p true e b d (inl is, within) = inl (omega arith, omega arith)
halves_meet p true e b d (inr (t, zero_d, end), within) = inr (t, inr (omega arith))

-- stretches meet in blocks of a level where they meet in blocks of the finest one
in_finest : (r l : ℕ) → l ≤ 10 → r * 2 ^ l * 2 ^ (10 - l) ≡ r * 2 ^ 10
in_finest r l h =
    let sum : l + (10 - l) ≡ 10 = omega arith in
    mul_assoc r (2 ^ l) (2 ^ (10 - l)) ∙ ap (λ m. r * m) (sym (pow-add 2 l (10 - l)) ∙ ap (λ d. 2 ^ d) sum)

pub ends_meet : (p : Bool) (r l u w : ℕ) → l ≤ 10 → Meet p (r * 2 ^ l) u (suc u) w (suc w) → Meet p (r * 2 ^ 10) (low_end l u) (high_end l u) (low_end l w) (high_end l w)
unfolding low_end high_end
ends_meet p r l u w h meet = subst (λ e. Meet p e (u * 2 ^ (10 - l)) (suc u * 2 ^ (10 - l)) (w * 2 ^ (10 - l)) (suc w * 2 ^ (10 - l))) (in_finest r l h) (meet_times p (r * 2 ^ l) _ _ _ _ (2 ^ (10 - l)) meet)

pub ends_apart : (p : Bool) (r l u w : ℕ) → l ≤ 10 → Meet p (r * 2 ^ 10) (low_end l u) (high_end l u) (low_end l w) (high_end l w) → Meet p (r * 2 ^ l) u (suc u) w (suc w)
unfolding low_end high_end
ends_apart p r l u w h meet = meet_over p (r * 2 ^ l) u (suc u) w (suc w) (2 ^ (10 - l)) (pow_pos (10 - l)) (subst (λ e. Meet p e (u * 2 ^ (10 - l)) (suc u * 2 ^ (10 - l)) (w * 2 ^ (10 - l)) (suc w * 2 ^ (10 - l))) (sym (in_finest r l h)) meet)

-- ---- cells beside a block's faces, on an axis of e blocks of n cells

module _ (p : Bool) (e n b : ℕ) (some : 0 < n) (inside : b < e) where
  -- below the position 0 of a block: the last cell of the block below
  pub below_low : below p (e * n) (wrapped p (e * n) (n * b + 0)) ≡ option_map (λ d. n * d + (n - 1)) (below p e b)
  below_low = ap (below p (e * n)) (inside_stays p (e * n) (n * b + 0) (in_row n b e 0 inside some)) ∙ cell_below b inside
    where
      last_below : (p : Bool) → below p (e * n) 0 ≡ option_map (λ d. n * d + (n - 1)) (below p e 0)
      last_below true = ap Some (last_cell e n (omega arith) some)
      last_below false = refl

      cell_below : (b : ℕ) → b < e → below p (e * n) (n * b + 0) ≡ option_map (λ d. n * d + (n - 1)) (below p e b)
      cell_below zero h = (let none : n * 0 + 0 ≡ 0 = omega arith in ap (below p (e * n)) none ∙ last_below p)
      cell_below (suc c) h = (let next : n * suc c + 0 ≡ suc (n * c + (n - 1)) = omega arith in ap (below p (e * n)) next)

  -- above the position n: the first cell of the block above
  pub above_high : above p (e * n) (wrapped p (e * n) (n * b + n)) ≡ option_map (λ d. n * d + 0) (above p e (suc b))
  above_high = elim (cases_lt (suc b) e) [
    | inl less ↦
        let row : n * suc b + 0 < e * n = in_row n (suc b) e 0 less some in
        let at : n * b + n ≡ n * suc b + 0 = omega arith in
        ap (λ q. above p (e * n) (wrapped p (e * n) q)) at ∙ ap (above p (e * n)) (inside_stays p (e * n) (n * suc b + 0) row) ∙ above_in p (e * n) (n * suc b + 0) row
        ∙ ap (option_map (λ d. n * d + 0)) (sym (above_in p e (suc b) less))
    | inr more ↦ beyond p (omega arith)
  ]
    where
      beyond : (p : Bool) → suc b ≡ e → above p (e * n) (wrapped p (e * n) (n * b + n)) ≡ option_map (λ d. n * d + 0) (above p e (suc b))
      beyond true end =
          let far : n * b + n ≡ e * n = (let times = ap (λ m. m * n) end in omega arith) in
          let first : 0 ≡ n * 0 + 0 = omega arith in
          ap (λ q. above true (e * n) (wrapped true (e * n) q)) far ∙ ap (above true (e * n)) (wrapped_end (e * n)) ∙ above_in true (e * n) 0 (mul-pos (omega arith) some)
          ∙ ap Some first ∙ ap (option_map (λ d. n * d + 0)) (sym (at_far_end e (suc b) (omega arith) end))
      beyond false end =
          let far : n * b + n ≡ e * n = (let times = ap (λ m. m * n) end in omega arith) in
          ap (above false (e * n)) (unturned (e * n) (n * b + n)) ∙ above_out (e * n) (n * b + n) (omega arith) ∙ ap (option_map (λ d. n * d + 0)) (sym (above_out e (suc b) (omega arith)))

  -- the positions between: the block's own cells
  pub below_own : (i : ℕ) → i < n → below p (e * n) (wrapped p (e * n) (n * b + suc i)) ≡ Some (n * b + i)
  below_own i h = (let next : n * b + suc i ≡ suc (n * b + i) = omega arith in ap (λ q. below p (e * n) (wrapped p (e * n) q)) next) ∙ before_after p (e * n) (n * b + i) (in_row n b e i inside h)

  pub above_own : (i : ℕ) → i < n → above p (e * n) (wrapped p (e * n) (n * b + i)) ≡ Some (n * b + i)
  above_own i h =
      let row = in_row n b e i inside h in
      ap (above p (e * n)) (inside_stays p (e * n) (n * b + i) row) ∙ above_in p (e * n) (n * b + i) row

-- ---- a face at the side of a block, and the finer ones of the half beside it

-- the position of the finer ones is twice that of the coarse one
module _ (p : Bool) (e n b d : ℕ) (some : 0 < n) (inside : b < e) where
  low_seam : Follows p e d b → wrapped p (2 * (e * n)) (n * (2 * d + 1) + n) ≡ 2 * wrapped p (e * n) (n * b + 0)
  low_seam (inl is) =
      let row = in_row n b e 0 inside some in
      let times = ap (λ m. n * m) is in
      let twice : n * (2 * d + 1) + n ≡ 2 * (n * b + 0) = omega arith in
      ap (wrapped p (2 * (e * n))) twice ∙ inside_stays p (2 * (e * n)) (2 * (n * b + 0)) (omega arith) ∙ ap (λ q. 2 * q) (sym (inside_stays p (e * n) (n * b + 0) row))
  low_seam (inr (t, zero_b, end)) =
      let row = in_row n b e 0 inside some in
      let times = ap (λ m. n * m) end in
      let far : n * (2 * d + 1) + n ≡ 2 * (e * n) = omega arith in
      let none : 0 ≡ 2 * (n * b + 0) = (let first = ap (λ m. n * m) zero_b in omega arith) in
      ap₂ (λ (u : Bool) q. wrapped u (2 * (e * n)) q) t far ∙ wrapped_end (2 * (e * n)) ∙ none ∙ ap (λ q. 2 * q) (sym (inside_stays p (e * n) (n * b + 0) row))

  high_seam : Follows p e b d → d < e → wrapped p (2 * (e * n)) (n * (2 * d + 0) + 0) ≡ 2 * wrapped p (e * n) (n * b + n)
  high_seam (inl is) within =
      let row = in_row n d e 0 within some in
      let times = ap (λ m. n * m) is in
      let twice : n * (2 * d + 0) + 0 ≡ 2 * (n * d + 0) = omega arith in
      let next : n * d + 0 ≡ n * b + n = omega arith in
      ap (wrapped p (2 * (e * n))) twice ∙ inside_stays p (2 * (e * n)) (2 * (n * d + 0)) (omega arith) ∙ ap (λ q. 2 * q) (sym (inside_stays p (e * n) (n * d + 0) row)) ∙ ap (λ q. 2 * wrapped p (e * n) q) next
  high_seam (inr (t, zero_d, end)) within =
      let row = in_row n d e 0 within some in
      let times = ap (λ m. n * m) end in
      let first = ap (λ m. n * m) zero_d in
      let far : e * n ≡ n * b + n = omega arith in
      let none : n * (2 * d + 0) + 0 ≡ 0 = omega arith in
      ap (wrapped p (2 * (e * n))) none ∙ inside_stays p (2 * (e * n)) 0 (omega arith) ∙ ap (λ q. 2 * q) (sym (wrapped_end (e * n))) ∙ ap₂ (λ (u : Bool) q. 2 * wrapped u (e * n) q) (sym t) far

  pub seam : (high : Bool) → Neighbours p e high b d →
      wrapped p (2 * (e * n)) (n * (2 * d + side_half (not high)) + side_position n (not high)) ≡ 2 * wrapped p (e * n) (n * b + side_position n high)
  seam false is = low_seam is
  seam true (is, within) = high_seam is within
