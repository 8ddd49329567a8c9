-- Interleaved numbers by their bits set apart, and back from them.
use Rattle.std.proofs.Common.{◌≡◌, ℕ, zero, suc, ◌+◌, ◌*◌, ◌/◌, ◌%◌, ◌^◌, ◌<◌, ap, ◌∙◌, refl, arith}
use Rattle.amr_num.specs.MortonKey.{interleave}
use Rattle.mesh_model.proofs.TreeLemmas.Morton.{step, none}
use Rattle.morton_key.specs.Bits.{respaced}

pub by_axes : (k x y z : ℕ) → interleave k x y z ≡ respaced 1 3 k x + 2 * respaced 1 3 k y + 4 * respaced 1 3 k z
unfolding respaced
by_axes zero x y z = none x y z
by_axes (suc k) x y z = let own = step k x y z in let rest = by_axes k (x / 2) (y / 2) (z / 2) in omega arith

lowest : (k x y z : ℕ) → x < 2 ^ k → interleave k x y z % 2 ≡ x % 2
lowest zero x y z h = let own = none x y z in omega arith
lowest (suc k) x y z h = let own = step k x y z in omega arith

half : (k x : ℕ) → x < 2 ^ suc k → x / 2 < 2 ^ k
half k x h = let e : 2 ^ suc k ≡ 2 * 2 ^ k = grind arith in omega arith

-- without the lowest bit, the next axis stands first
turned : (k x y z : ℕ) → x < 2 ^ k → interleave k x y z / 2 ≡ interleave k y z (x / 2)
turned zero x y z h = let own = none x y z in let next = none y z (x / 2) in omega arith
turned (suc k) x y z h =
    let own = step k x y z in
    let next = step k y z (x / 2) in
    let rest = turned k (x / 2) (y / 2) (z / 2) (half k x h) in
    let first = lowest k (x / 2) (y / 2) (z / 2) (half k x h) in
    omega arith

pub gather_x : (k x y z : ℕ) → x < 2 ^ k → respaced 3 1 k (interleave k x y z) ≡ x
unfolding respaced
gather_x zero x y z h = omega arith
gather_x (suc k) x y z h =
    let own = step k x y z in
    let front : interleave (suc k) x y z / 2 ^ 3 ≡ interleave k (x / 2) (y / 2) (z / 2) = omega arith in
    let first = lowest (suc k) x y z h in
    let rest = ap (respaced 3 1 k) front ∙ gather_x k (x / 2) (y / 2) (z / 2) (half k x h) in
    omega arith

pub gather_y : (k x y z : ℕ) → x < 2 ^ k → y < 2 ^ k → respaced 3 1 k (interleave k x y z / 2) ≡ y
gather_y k x y z hx hy = ap (respaced 3 1 k) (turned k x y z hx) ∙ gather_x k y z (x / 2) hy

pub gather_z : (k x y z : ℕ) → x < 2 ^ k → y < 2 ^ k → z < 2 ^ k → respaced 3 1 k (interleave k x y z / 4) ≡ z
gather_z k x y z hx hy hz =
    let twice : interleave k x y z / 4 ≡ interleave k x y z / 2 / 2 = omega arith in
    ap (respaced 3 1 k) (twice ∙ ap (λ n. n / 2) (turned k x y z hx) ∙ turned k y z (x / 2) hy) ∙ gather_x k z (x / 2) (y / 2) hz
