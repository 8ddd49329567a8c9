-- Numbers by interleaved bits, and how a block's lies to those of the blocks in it.
use Rattle.std.proofs.Common.{◌≡◌, ℕ, zero, suc, ◌+◌, ◌*◌, ◌/◌, ◌%◌, ◌^◌, ◌<◌, refl, sym, ap, ap₂, ◌∙◌, arith}
use Rattle.std.proofs.Math.Nat.{div-div-eq-div-mul, mul_assoc}
use Rattle.std.proofs.Math.Pow.{pow-add}
use Rattle.mesh_model.proofs.TreeLemmas.Tiling.{double}
use Rattle.mesh_model.specs.Tree.Order.{interleave}

pub step : (k x y z : ℕ) → interleave (suc k) x y z ≡ (x % 2 + 2 * (y % 2) + 4 * (z % 2)) + 8 * interleave k (x / 2) (y / 2) (z / 2)
unfolding interleave
step k x y z = refl

pub none : (x y z : ℕ) → interleave zero x y z ≡ 0
unfolding interleave
none x y z = refl

pub power8 : (k : ℕ) → 8 ^ suc k ≡ 8 * 8 ^ k
power8 k = let one : suc k ≡ 1 + k = omega arith in ap (λ d. 8 ^ d) one ∙ pow-add 8 1 k

power2 : (k : ℕ) → 2 ^ suc k ≡ 2 * 2 ^ k
power2 k = let one : suc k ≡ 1 + k = omega arith in ap (λ d. 2 ^ d) one ∙ pow-add 2 1 k

eight : (n k : ℕ) → 8 ^ suc k * n ≡ 8 * (8 ^ k * n)
eight n k = ap (λ p. p * n) (power8 k) ∙ mul_assoc 8 (8 ^ k) n

no_front : (n : ℕ) → 0 + n ≡ n
no_front n = omega arith

halved : (x k : ℕ) → x / 2 / 2 ^ k ≡ x / 2 ^ suc k
halved x k = div-div-eq-div-mul x 2 (2 ^ k) ∙ ap (λ p. x / p) (sym (power2 k))

-- numbers shifted by k bits
pub shifted : (k j n x y z : ℕ) → n ≡ k + j → interleave n (x * 2 ^ k) (y * 2 ^ k) (z * 2 ^ k) ≡ 8 ^ k * interleave j x y z
shifted zero j n x y z e =
    let same : n ≡ j = omega arith in
    let x1 : x * 1 ≡ x = omega arith in
    let y1 : y * 1 ≡ y = omega arith in
    let z1 : z * 1 ≡ z = omega arith in
    rw (same, x1, y1, z1) (omega arith)
shifted (suc k) j zero x y z e = absurd (omega arith)
shifted (suc k) j (suc n) x y z e =
    let x2 = double x k in
    let y2 = double y k in
    let z2 = double z k in
    let xm : x * 2 ^ suc k % 2 ≡ 0 = omega arith in
    let ym : y * 2 ^ suc k % 2 ≡ 0 = omega arith in
    let zm : z * 2 ^ suc k % 2 ≡ 0 = omega arith in
    let xd : x * 2 ^ suc k / 2 ≡ x * 2 ^ k = omega arith in
    let yd : y * 2 ^ suc k / 2 ≡ y * 2 ^ k = omega arith in
    let zd : z * 2 ^ suc k / 2 ≡ z * 2 ^ k = omega arith in
    let rest = shifted k j n x y z (omega arith) in
    step n _ _ _
    ∙ ap₂ (λ a b. a + 8 * b) (ap₂ (λ a b. a + 4 * b) (ap₂ (λ a b. a + 2 * b) xm ym) zm) (ap₂ (λ (a : ℕ → ℕ) b. a b) (λ i. λ c. interleave n (xd i) (yd i) c) zd ∙ rest)
    ∙ no_front (8 * (8 ^ k * interleave j x y z))
    ∙ sym (eight (interleave j x y z) k)

-- what is left without the lowest k bits of each
pub digits : (k j n x y z : ℕ) → n ≡ k + j → interleave n x y z / 8 ^ k ≡ interleave j (x / 2 ^ k) (y / 2 ^ k) (z / 2 ^ k)
digits zero j n x y z e =
    let same : n ≡ j = omega arith in
    let x1 : x / 1 ≡ x = omega arith in
    let y1 : y / 1 ≡ y = omega arith in
    let z1 : z / 1 ≡ z = omega arith in
    rw (same, x1, y1, z1) (omega arith)
digits (suc k) j zero x y z e = absurd (omega arith)
digits (suc k) j (suc n) x y z e =
    let i = interleave n (x / 2) (y / 2) (z / 2) in
    let d = x % 2 + 2 * (y % 2) + 4 * (z % 2) in
    let front : (d + 8 * i) / 8 ≡ i = omega arith in
    ap (λ u. u / 8 ^ suc k) (step n x y z)
    ∙ ap (λ p. (d + 8 * i) / p) (power8 k) ∙ sym (div-div-eq-div-mul (d + 8 * i) 8 (8 ^ k)) ∙ ap (λ u. u / 8 ^ k) front
    ∙ digits k j n (x / 2) (y / 2) (z / 2) (omega arith)
    ∙ (λ t. interleave j (halved x k t) (halved y k t) (halved z k t))

-- the numbers are as their bits
pub same_numbers : (j x y z u v w : ℕ) → x < 2 ^ j → y < 2 ^ j → z < 2 ^ j → u < 2 ^ j → v < 2 ^ j → w < 2 ^ j → interleave j x y z ≡ interleave j u v w → (x ≡ u) × (y ≡ v) × (z ≡ w)
same_numbers zero x y z u v w hx hy hz hu hv hw e = (omega arith, omega arith, omega arith)
same_numbers (suc j) x y z u v w hx hy hz hu hv hw e =
    let dbl = power2 j in
    let both : (x % 2 + 2 * (y % 2) + 4 * (z % 2)) + 8 * interleave j (x / 2) (y / 2) (z / 2) ≡ (u % 2 + 2 * (v % 2) + 4 * (w % 2)) + 8 * interleave j (u / 2) (v / 2) (w / 2) = sym (step j x y z) ∙ e ∙ step j u v w in
    let rest = same_numbers j (x / 2) (y / 2) (z / 2) (u / 2) (v / 2) (w / 2) (omega arith) (omega arith) (omega arith) (omega arith) (omega arith) (omega arith) (omega arith) in
    let first = rest.0 in
    let second = rest.1 in
    let third = rest.2 in
    (omega arith, omega arith, omega arith)
