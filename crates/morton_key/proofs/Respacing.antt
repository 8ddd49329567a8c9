-- Steps of shifts and masks set bits apart and back together, since they treat each bit on its own.
use Rattle.std.proofs.Common.{◌≡◌, ℕ, zero, suc, ◌+◌, ◌*◌, ◌/◌, ◌%◌, ◌^◌, ◌<◌, ◌≤◌, Bool, true, ◌&&◌, ◌==◌, bit_and, bit_or, refl, sym, ap, ap₂, ◌∙◌, subst, arith, inl, inr, eqb-true}
use Rattle.std.proofs.Math.Pow.{pow-add}
use Rattle.std.proofs.lemmas.Nat.{pow_pos, shr_split, shl_below, mod_below, or_shifted, or_block, or_shr, or_mod, and_block, and_le_r}
use Rattle.std.proofs.lemmas.Nat.Bits.{bit_at_and, bit_at_or, same_from_bits}
use Rattle.std.proofs.lemmas.Bool.{cases_lt}
use Rattle.mesh_model.proofs.TreeLemmas.Tests.{and_left, and_right}
use Rattle.morton_key.specs.Bits.{respaced}

-- ---- masks and shifts of two numbers joined by or

masked : (a b m : ℕ) → bit_and (bit_or a b) m ≡ bit_or (bit_and a m) (bit_and b m)
masked a b m = same_from_bits _ _ (λ i. omega (arith, bit_at_and (bit_or a b) m i, bit_at_or a b i, bit_at_or (bit_and a m) (bit_and b m) i, bit_at_and a m i, bit_at_and b m i))

regrouped : (a b c d : ℕ) → bit_or (bit_or a b) (bit_or c d) ≡ bit_or (bit_or a c) (bit_or b d)
regrouped a b c d = same_from_bits _ _ (λ i. omega (arith, bit_at_or (bit_or a b) (bit_or c d) i, bit_at_or a b i, bit_at_or c d i, bit_at_or (bit_or a c) (bit_or b d) i, bit_at_or a c i, bit_at_or b d i))

moved_up : (a b s : ℕ) → bit_or a b * 2 ^ s ≡ bit_or (a * 2 ^ s) (b * 2 ^ s)
moved_up a b s =
    let p : a * 2 ^ s + 0 ≡ a * 2 ^ s = omega arith in
    let q : b * 2 ^ s + 0 ≡ b * 2 ^ s = omega arith in
    let e : bit_or (a * 2 ^ s + 0) (b * 2 ^ s + 0) ≡ bit_or a b * 2 ^ s + 0 = or_block s a b 0 0 (pow_pos s) (pow_pos s) in
    let f = ap₂ bit_or p q in
    omega arith

-- a step of 64 bits that keeps by a mask what stays and what is moved by s places
abbrev pub up : ℕ → ℕ → ℕ → ℕ
up s m n = bit_and (bit_or n (n * 2 ^ s % 2 ^ 64)) m

abbrev pub down : ℕ → ℕ → ℕ → ℕ
down s m n = bit_and (bit_or n (n / 2 ^ s)) m

up_joins : (s m a b : ℕ) → up s m (bit_or a b) ≡ bit_or (up s m a) (up s m b)
up_joins s m a b =
    let high = ap (λ u. u % 2 ^ 64) (moved_up a b s) ∙ or_mod (a * 2 ^ s) (b * 2 ^ s) 64 in
    ap (λ u. bit_and (bit_or (bit_or a b) u) m) high
    ∙ ap (λ u. bit_and u m) (regrouped a b (a * 2 ^ s % 2 ^ 64) (b * 2 ^ s % 2 ^ 64))
    ∙ masked (bit_or a (a * 2 ^ s % 2 ^ 64)) (bit_or b (b * 2 ^ s % 2 ^ 64)) m

down_joins : (s m a b : ℕ) → down s m (bit_or a b) ≡ bit_or (down s m a) (down s m b)
down_joins s m a b =
    ap (λ u. bit_and (bit_or (bit_or a b) u) m) (or_shr a b s)
    ∙ ap (λ u. bit_and u m) (regrouped a b (a / 2 ^ s) (b / 2 ^ s))
    ∙ masked (bit_or a (a / 2 ^ s)) (bit_or b (b / 2 ^ s)) m

-- ---- a function that treats each bit on its own, from its values at single bits

abbrev each : ℕ → (ℕ → Bool) → Bool
each zero t = true
each (suc n) t = t n && each n t

each_says : (n : ℕ) (t : ℕ → Bool) → each n t ≡ true → (d : ℕ) → d < n → t d ≡ true
each_says zero t e d h = absurd (omega arith)
each_says (suc n) t e d h = elim (cases_lt d n) [
  | inl lt ↦ each_says n t (and_right (t n) (each n t) e) d lt
  | inr le ↦ let same : d ≡ n = omega arith in subst (λ u. t u ≡ true) (sym same) (and_left (t n) (each n t) e)
]

joined : (r t u v : ℕ) → r * (v * u) + t * v ≡ (t + u * r) * v
joined r t u v = grind arith

module _ (f : ℕ → ℕ) (p q : ℕ) where
  -- f puts the lowest of p bits at the place a to the place b, and so on for j runs of p bits
  abbrev places : ℕ → ℕ → ℕ → Bool
  places zero a b = true
  places (suc j) a b = each (2 ^ p) (λ d. f (d * 2 ^ a) == d % 2 * 2 ^ b) && places j (a + p) (b + q)

  -- f drops what follows j runs
  abbrev Drops : ℕ → ℕ → ℕ → Type 0
  Drops zero a n = f (n * 2 ^ a) ≡ 0
  Drops (suc j) a n = Drops j (a + p) (n / 2 ^ p)

  module _ (joins : (a b : ℕ) → f (bit_or a b) ≡ bit_or (f a) (f b)) (low : (n : ℕ) → n % 2 ^ p % 2 ≡ n % 2) (wide : 2 ≤ 2 ^ q) where
    respaces : (j a b n : ℕ) → places j a b ≡ true → Drops j a n → f (n * 2 ^ a) ≡ respaced p q j n * 2 ^ b
    unfolding respaced
    respaces zero a b n t d = d ∙ none (2 ^ b)
      where
        none : (u : ℕ) → 0 ≡ 0 * u
        none u = omega arith
    respaces (suc j) a b n t d =
        let hi = n / 2 ^ p in
        let lo = n % 2 ^ p in
        let rest = respaced p q j hi in
        let bit = lo % 2 in
        let below : lo * 2 ^ a < 2 ^ (a + p) = subst (λ e. lo * 2 ^ a < e) (pow-add 2 p a ∙ turn (2 ^ p) (2 ^ a) ∙ sym (pow-add 2 a p)) (shl_below lo p a (mod_below n (2 ^ p) (pow_pos p))) in
        let small : bit < 2 ^ q = mod_two lo in
        let under : bit * 2 ^ b < 2 ^ (b + q) = subst (λ e. bit * 2 ^ b < e) (pow-add 2 q b ∙ turn (2 ^ q) (2 ^ b) ∙ sym (pow-add 2 b q)) (shl_below bit q b small) in
        let whole = shr_split n p in
        let own : lo + 2 ^ p * hi ≡ n = omega arith in
        let split : n * 2 ^ a ≡ bit_or (hi * 2 ^ (a + p)) (lo * 2 ^ a) =
        ap (λ u. u * 2 ^ a) (sym own) ∙ sym (joined hi lo (2 ^ p) (2 ^ a)) ∙ ap (λ u. hi * u + lo * 2 ^ a) (sym (pow-add 2 a p)) ∙ sym (or_shifted hi (a + p) (lo * 2 ^ a) below) in
        let one = eqb-true _ _ (each_says (2 ^ p) (λ c. f (c * 2 ^ a) == c % 2 * 2 ^ b) (and_left _ _ t) lo (mod_below n (2 ^ p) (pow_pos p))) in
        let two = respaces j (a + p) (b + q) hi (and_right _ _ t) d in
        ap f split ∙ joins (hi * 2 ^ (a + p)) (lo * 2 ^ a) ∙ ap₂ bit_or two one
        ∙ or_shifted rest (b + q) (bit * 2 ^ b) under
        ∙ ap (λ u. rest * u + bit * 2 ^ b) (pow-add 2 b q)
        ∙ joined rest bit (2 ^ q) (2 ^ b)
        ∙ ap (λ u. (u + 2 ^ q * rest) * 2 ^ b) (low n)
      where
        turn : (u v : ℕ) → u * v ≡ v * u
        turn u v = omega arith

        mod_two : (u : ℕ) → u % 2 < 2 ^ q
        mod_two u = omega arith

-- ---- thirteen bits

abbrev Joins : (ℕ → ℕ) → Type 0
Joins f = (a b : ℕ) → f (bit_or a b) ≡ bit_or (f a) (f b)

then : (f g : ℕ → ℕ) → Joins f → Joins g → Joins (λ n. g (f n))
then f g first second a b = ap g (first a b) ∙ second (f a) (f b)

-- the steps, by how many bits stay together after each
abbrev up8 : ℕ → ℕ
up8 n = up 16 0x1f00_00ff n

abbrev up4 : ℕ → ℕ
up4 n = up 8 0x10_0f00_f00f (up8 n)

abbrev up2 : ℕ → ℕ
up2 n = up 4 0x10_c30c_30c3 (up4 n)

abbrev pub spread_steps : ℕ → ℕ
spread_steps n = up 2 0x12_4924_9249 (up2 n)

spread_joins : Joins spread_steps
spread_joins = then up2 (up 2 0x12_4924_9249) (then up4 (up 4 0x10_c30c_30c3) (then up8 (up 8 0x10_0f00_f00f) (up_joins 16 0x1f00_00ff) (up_joins 8 0x10_0f00_f00f)) (up_joins 4 0x10_c30c_30c3)) (up_joins 2 0x12_4924_9249)

abbrev down1 : ℕ → ℕ
down1 n = bit_and n 0x12_4924_9249

abbrev down2 : ℕ → ℕ
down2 n = down 2 0x10_c30c_30c3 (down1 n)

abbrev down4 : ℕ → ℕ
down4 n = down 4 0x10_0f00_f00f (down2 n)

abbrev down8 : ℕ → ℕ
down8 n = down 8 0x1f00_00ff (down4 n)

abbrev pub gather_steps : ℕ → ℕ
gather_steps n = down 16 0x1fff (down8 n)

gather_joins : Joins gather_steps
gather_joins = then down8 (down 16 0x1fff) (then down4 (down 8 0x1f00_00ff) (then down2 (down 4 0x10_0f00_f00f) (then down1 (down 2 0x10_c30c_30c3) (λ a b. masked a b 0x12_4924_9249) (down_joins 2 0x10_c30c_30c3)) (down_joins 4 0x10_0f00_f00f)) (down_joins 8 0x1f00_00ff)) (down_joins 16 0x1fff)

times_one : (n : ℕ) → n * 2 ^ 0 ≡ n
times_one n = omega arith

pub spread_says : (n : ℕ) → n < 2 ^ 13 → spread_steps n ≡ respaced 1 3 13 n
spread_says n h =
    let none : n / 2 / 2 / 2 / 2 / 2 / 2 / 2 / 2 / 2 / 2 / 2 / 2 / 2 * 2 ^ 13 ≡ 0 = omega arith in
    ap spread_steps (sym (times_one n))
    ∙ respaces spread_steps 1 3 spread_joins (λ m. omega arith) (omega arith) 13 0 0 n refl (ap spread_steps none)
    ∙ times_one (respaced 1 3 13 n)

above : (n : ℕ) → bit_and (n * 2 ^ 39) 0x12_4924_9249 ≡ 0
above n =
    let e : bit_and (n * 2 ^ 39 + 0) (0 * 2 ^ 39 + 0x12_4924_9249) ≡ bit_and n 0 * 2 ^ 39 + bit_and 0 0x12_4924_9249 = and_block 39 n 0 0 0x12_4924_9249 (omega arith) (omega arith) in
    let front : n * 2 ^ 39 + 0 ≡ n * 2 ^ 39 = omega arith in
    ap (λ u. bit_and u 0x12_4924_9249) (sym front) ∙ e ∙ ap (λ u. u * 2 ^ 39 + 0) (and_none n)
  where
    and_none : (m : ℕ) → bit_and m 0 ≡ 0
    and_none m = omega (arith, and_le_r m 0)

pub gather_says : (n : ℕ) → gather_steps n ≡ respaced 3 1 13 n
gather_says n =
    ap gather_steps (sym (times_one n))
    ∙ respaces gather_steps 3 1 gather_joins (λ m. omega arith) (omega arith) 13 0 0 n refl (ap (λ u. down 16 0x1fff (down 8 0x1f00_00ff (down 4 0x10_0f00_f00f (down 2 0x10_c30c_30c3 u)))) (above (n / 8 / 8 / 8 / 8 / 8 / 8 / 8 / 8 / 8 / 8 / 8 / 8 / 8)))
    ∙ times_one (respaced 3 1 13 n)
