-- The numbers of a spread, as code makes them.
use Rattle.std.proofs.Common.{◌≡◌, ℕ, zero, suc, ◌+◌, ◌*◌, ◌^◌, ◌<◌, ◌≤◌, ℤ, pos, ◌+ℤ◌, ◌-ℤ◌, arith, ap, ap₂, ◌∙◌, sym, subst, List, [], ◌∷◌, length, slice_index_or, All, w64, to_z, of_z}
use Rattle.std.proofs.lemmas.Int.{ints}
use Rattle.std.specs.Prelude.{unsigned_abs}
use Rattle.amr_num.specs.Numbers.{Within, at, part, spread, sum_below}
use Rattle.amr_num.proofs.Machine.{kept}
use Rattle.amr_num.proofs.Sizes.{spread_size}

pub number_of : (k : ℕ) (total : ℤ) (guides : List ℤ) (q : ℕ) (got missed : ℤ) → Within (2 ^ 56) (at guides q) → missed ≡ total -ℤ sum_below k (at guides) → Within (5 * 2 ^ 56) missed → Within (6 * 2 ^ 56) got → got ≡ to_z w64 (of_z w64 (at guides q)) +ℤ part q (to_z w64 (of_z w64 missed)) k → to_z w64 (of_z w64 got) ≡ spread k total (at guides) q
unfolding spread
number_of k total guides q got missed small is few size e =
    kept got (6 * 2 ^ 56) size (omega arith) ∙ e
    ∙ ap₂ (λ g m. g +ℤ part q m k) (kept (at guides q) (2 ^ 56) small (omega arith)) (kept missed (5 * 2 ^ 56) few (omega arith) ∙ is)

-- what is left without two guides
pub less_two : (total a b got : ℤ) → Within (3 * 2 ^ 56) total → Within (2 ^ 56) a → Within (2 ^ 56) b → got ≡ to_z w64 (of_z w64 total) -ℤ (to_z w64 (of_z w64 a) +ℤ to_z w64 (of_z w64 b)) → got ≡ total -ℤ (a +ℤ b)
less_two total a b got ht ha hb e =
    e ∙ ap₂ (λ t s. t -ℤ s) (kept total (3 * 2 ^ 56) ht (omega arith)) (ap₂ (λ x y. x +ℤ y) (kept a (2 ^ 56) ha (omega arith)) (kept b (2 ^ 56) hb (omega arith)))

pub two_missed : (total : ℤ) (guides : List ℤ) → total -ℤ (at guides 0 +ℤ at guides 1) ≡ total -ℤ sum_below 2 (at guides)
two_missed total guides = omega (arith, ints)

pub four_missed : (total : ℤ) (guides : List ℤ) → (total -ℤ (at guides 0 +ℤ at guides 1)) -ℤ (at guides 2 +ℤ at guides 3) ≡ total -ℤ sum_below 4 (at guides)
four_missed total guides = omega (arith, ints)

pub less_size : (total got : ℤ) (b : ℕ) → Within b total → b < 2 ^ 63 → unsigned_abs got ≤ unsigned_abs (to_z w64 (of_z w64 total)) + 2 * 2 ^ 56 → Within (b + 2 * 2 ^ 56) got
less_size total got b h few size = let same = ap unsigned_abs (kept total b h few) in omega arith

-- two or four numbers within a bound
pub two_within : (b : ℕ) (x y : ℤ) → Within b x → Within b y → (k : ℕ) (d : ℤ) → k < 2 → Within b (slice_index_or (x ∷ y ∷ []) k d)
two_within b x y hx hy zero d h = hx
two_within b x y hx hy (suc zero) d h = hy
two_within b x y hx hy (suc (suc k)) d h = absurd (omega arith)

pub four_within : (b : ℕ) (x y z w : ℤ) → Within b x → Within b y → Within b z → Within b w → (k : ℕ) (d : ℤ) → k < 4 → Within b (slice_index_or (x ∷ y ∷ z ∷ w ∷ []) k d)
four_within b x y z w hx hy hz hw zero d h = hx
four_within b x y z w hx hy hz hw (suc zero) d h = hy
four_within b x y z w hx hy hz hw (suc (suc zero)) d h = hz
four_within b x y z w hx hy hz hw (suc (suc (suc zero))) d h = hw
four_within b x y z w hx hy hz hw (suc (suc (suc (suc k)))) d h = absurd (omega arith)

pub number_size : (k most each : ℕ) (total : ℤ) (guides : List ℤ) (q : ℕ) (got : ℤ) → length guides ≡ k → 0 < k → Within most total → All (Within each) guides → q < k → got ≡ spread k total (at guides) q → Within (most + suc k * each) got
number_size k most each total guides q got few h t g lt e =
    subst (λ z. Within (most + suc k * each) z) (sym e) (spread_size k most each total (at guides) h t (λ p l. g p (pos 0) (omega arith)) q lt)
