-- How great parts, spreads, means and carried numbers are.
use Rattle.std.proofs.Common.{ℕ, zero, suc, ◌+◌, ◌*◌, ◌/◌, ◌%◌, ◌^◌, ◌<◌, ◌≤◌, ◌≡◌, ℤ, pos, negsuc, ◌+ℤ◌, ◌-ℤ◌, ◌*ℤ◌, arith, subst, inl, inr}
use Rattle.std.proofs.Math.Nat.{div-le_self, le-mul_of_pos_right, div-le_of_le-mul, mul-le-mul_right}
use Rattle.std.proofs.lemmas.Nat.{div_below}
use Rattle.std.proofs.lemmas.Int.{ints}
use Rattle.std.proofs.lemmas.Bool.{cases_lt, le-ltb, lt-ltb}
use Rattle.std.specs.Prelude.{unsigned_abs}
use Rattle.amr_num.specs.Numbers.{floor_div, floor_mod, part, sum_below, spread, Within}

below_number : (a k q : ℕ) → 0 < k → q < a % k → suc (a / k) ≤ a
below_number a k q h lt = let most = le-mul_of_pos_right (a / k) h in omega arith

-- a part is no greater than the number
pub part_size : (q k : ℕ) (n : ℤ) → 0 < k → Within (unsigned_abs n) (part q n k)
unfolding part
part_size q k (pos a) h = elim (cases_lt q (a % k)) [
  | inl lt ↦ rw (lt-ltb q (a % k) lt) (let least = below_number a k q h lt in omega (arith, ints))
  | inr le ↦ rw (le-ltb q (a % k) le) (let least = div-le_self a k in omega (arith, ints))
]
part_size q k (negsuc a) h =
    let least = div-le_self a k in
    elim (cases_lt q (floor_mod (negsuc a) k)) [
      | inl lt ↦ rw (lt-ltb q (floor_mod (negsuc a) k) lt) (omega (arith, ints))
      | inr le ↦ rw (le-ltb q (floor_mod (negsuc a) k) le) (omega (arith, ints))
    ]

pub within_add : (m n : ℕ) (a b : ℤ) → Within m a → Within n b → Within (m + n) (a +ℤ b)
within_add m n (pos a) (pos b) h k = omega (arith, ints)
within_add m n (pos a) (negsuc b) h k = grind (arith, ints)
within_add m n (negsuc a) (pos b) h k = grind (arith, ints)
within_add m n (negsuc a) (negsuc b) h k = omega (arith, ints)

pub within_less : (m n : ℕ) (a b : ℤ) → Within m a → Within n b → Within (m + n) (a -ℤ b)
within_less m n (pos a) (pos b) h k = grind (arith, ints)
within_less m n (pos a) (negsuc b) h k = grind (arith, ints)
within_less m n (negsuc a) (pos b) h k = grind (arith, ints)
within_less m n (negsuc a) (negsuc b) h k = grind (arith, ints)

pub sum_within : (k each : ℕ) (f : ℕ → ℤ) → ((q : ℕ) → q < k → Within each (f q)) → Within (k * each) (sum_below k f)
sum_within zero each f h = omega arith
sum_within (suc k) each f h =
    let rest = sum_within k each f (λ q p. h q (omega arith)) in
    let more = within_add (k * each) each (sum_below k f) (f k) rest (h k (omega arith)) in
    let turn : k * each + each ≡ suc k * each = grind arith in
    subst (λ b. Within b (sum_below k f +ℤ f k)) turn more

-- the numbers of a spread, by the size of the total and of the guides
pub spread_size : (k most each : ℕ) (total : ℤ) (guide : ℕ → ℤ) → 0 < k → Within most total → ((q : ℕ) → q < k → Within each (guide q)) → (q : ℕ) → q < k → Within (most + suc k * each) (spread k total guide q)
unfolding spread
spread_size k most each total guide h t g q lt =
    let missed = within_less most (k * each) total (sum_below k guide) t (sum_within k each guide g) in
    let own = part_size q k (total -ℤ sum_below k guide) h in
    let sum = within_add each (most + k * each) (guide q) (part q (total -ℤ sum_below k guide) k) (g q lt) (omega arith) in
    let turn : each + (most + k * each) ≡ most + suc k * each = grind arith in
    subst (λ b. Within b (guide q +ℤ part q (total -ℤ sum_below k guide) k)) turn sum

-- ---- means and carried numbers

pub floor_size : (k most : ℕ) (n : ℤ) → 0 < k → Within (k * most) n → Within most (floor_div n k)
floor_size k most (pos a) h w = div-le_of_le-mul k {m = a} {n = most} w
floor_size k most (negsuc a) h w =
    let turn : k * most ≡ most * k = grind arith in
    let below = div_below a k most h (omega arith) in
    omega (arith, ints)

pub quarter_size : (most : ℕ) (a b c d : ℤ) → Within most a → Within most b → Within most c → Within most d → Within most (floor_div (a +ℤ b +ℤ c +ℤ d) 4)
quarter_size most a b c d ha hb hc hd =
    let two = within_add most most a b ha hb in
    let three = within_add (most + most) most (a +ℤ b) c two hc in
    let four = within_add (most + most + most) most (a +ℤ b +ℤ c) d three hd in
    floor_size 4 most (a +ℤ b +ℤ c +ℤ d) (omega arith) (omega arith)

times_size : (a : ℕ) (v : ℤ) → unsigned_abs (pos a *ℤ v) ≡ a * unsigned_abs v
times_size a (pos n) = grind (arith, ints)
times_size a (negsuc n) = grind (arith, ints)

pub carried_size : (amount : ℕ) (v : ℤ) → amount ≤ 2 ^ 20 → Within (unsigned_abs v) (floor_div (pos amount *ℤ v) (2 ^ 20))
carried_size amount v h =
    let most = mul-le-mul_right (unsigned_abs v) h in
    let size = times_size amount v in
    floor_size (2 ^ 20) (unsigned_abs v) (pos amount *ℤ v) (omega arith) (omega arith)

pub neg_size : (most : ℕ) (z : ℤ) → Within most z → Within most (pos 0 -ℤ z)
neg_size most (pos n) h = grind (arith, ints)
neg_size most (negsuc n) h = grind (arith, ints)
