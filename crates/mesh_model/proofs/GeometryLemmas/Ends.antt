-- Where blocks of the domain begin and end, in blocks of the finest level.
use Rattle.std.proofs.Common.{◌≡◌, ℕ, ◌+◌, ◌-◌, ◌*◌, ◌^◌, ◌≤◌, arith, ap, sym, subst}
use Rattle.std.proofs.Math.Nat.{mul-le-mul_right, mul_assoc}
use Rattle.std.proofs.Math.Pow.{pow-add}

pub end_most : (l x : ℕ) → l ≤ 10 → x ≤ 8 * 2 ^ l → x * 2 ^ (10 - l) ≤ 8192
end_most l x h lt =
    let wide = mul-le-mul_right (2 ^ (10 - l)) lt in
    let turn = mul_assoc 8 (2 ^ l) (2 ^ (10 - l)) in
    let sum = pow-add 2 l (10 - l) in
    let whole : l + (10 - l) ≡ 10 = omega arith in
    let last = ap (λ k. 2 ^ k) whole in
    let twice = ap (λ p. 8 * p) (sym sum) in
    omega arith

pub end_at_most : (l x p : ℕ) → l ≤ 10 → x ≤ 8 * 2 ^ l → p ≡ 2 ^ (10 - l) → x * p ≤ 8192
end_at_most l x p h lt e = subst (λ q. x * q ≤ 8192) (sym e) (end_most l x h lt)
