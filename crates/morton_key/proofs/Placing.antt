-- Where blocks stand on the Morton curve, and what their keys tell.
use Rattle.std.proofs.Common.{◌≡◌, ◌≢◌, ℕ, ◌+◌, ◌-◌, ◌*◌, ◌/◌, ◌%◌, ◌^◌, ◌<◌, ◌≤◌, sym, ap, ap₂, ◌∙◌, subst, arith, inl, inr}
use Rattle.std.proofs.Math.Nat.{div-div-eq-div-mul, mul-div_cancel, mul_comm}
use Rattle.std.proofs.Math.Pow.{pow-add}
use Rattle.std.proofs.lemmas.Nat.{pow_pos, shl_below, shl-shr, shr_below, div-add-mod', mod_below}
use Rattle.std.proofs.lemmas.Bool.{cases_lt}
use Rattle.amr_num.specs.declared.BlockAt.{BlockAt}
use Rattle.amr_num.specs.MortonKey.{interleave, low_end, morton, key}
use Rattle.mesh_model.specs.Geometry.Blocks.{child_block, LiesIn}
use Rattle.mesh_model.proofs.TreeLemmas.Morton.{shifted, digits}
use Rattle.mesh_model.proofs.TreeLemmas.Sorting.{span, span_pos, morton_child, next_stretch, morton_of}
use Rattle.morton_key.specs.Bits.{respaced}
use Rattle.morton_key.specs.Keyed.{HasKey}
use Rattle.morton_key.proofs.Interleaving.{gather_x, gather_y, gather_z}

-- ---- coordinates on the finest level

pub low_few : (l x : ℕ) → l ≤ 10 → x < 8 * 2 ^ l → low_end l x < 2 ^ 13
unfolding low_end
low_few l x h lt =
    let sum : (l + 3) + (10 - l) ≡ 13 = omega arith in
    let more : 2 ^ (l + 3) ≡ 2 ^ l * 8 = pow-add 2 l 3 in
    subst (λ d. x * 2 ^ (10 - l) < 2 ^ d) sum (shl_below x (l + 3) (10 - l) (omega arith))

-- and in the block of a level in which a finest block lies
pub back_few : (l x : ℕ) → l ≤ 10 → x < 2 ^ 13 → x / 2 ^ (10 - l) < 8 * 2 ^ l
back_few l x h lt =
    let sum : (l + 3) + (10 - l) ≡ 13 = omega arith in
    let more : 2 ^ (l + 3) ≡ 2 ^ l * 8 = pow-add 2 l 3 in
    let below = shr_below x (l + 3) (10 - l) (subst (λ d. x < 2 ^ d) (sym sum) lt) in
    omega arith

pub low_back : (l x : ℕ) → low_end l x / 2 ^ (10 - l) ≡ x
unfolding low_end
low_back l x = shl-shr x (10 - l)

-- ---- what a key tells

pub key_level : (b : BlockAt) → b.level ≤ 10 → key b % 16 ≡ b.level
unfolding key
key_level b h = omega arith

pub key_place : (b : BlockAt) → b.level ≤ 10 → key b / 16 ≡ morton b
unfolding key
key_place b h = omega arith

-- the block that the bits of a number tell
unfoldable told : ℕ → BlockAt
told k = record {
  level = k % 16;
  x = respaced 3 1 13 (k / 16) / 2 ^ (10 - k % 16);
  y = respaced 3 1 13 (k / 16 / 2) / 2 ^ (10 - k % 16);
  z = respaced 3 1 13 (k / 16 / 4) / 2 ^ (10 - k % 16);
}

same_block : (b c : BlockAt) → b.level ≡ c.level → b.x ≡ c.x → b.y ≡ c.y → b.z ≡ c.z → b ≡ c
same_block b c l x y z = λ i. record { level = l i; x = x i; y = y i; z = z i }

told_by_key : (b : BlockAt) → HasKey b → told (key b) ≡ b
unfolding told morton
told_by_key b h =
    let top = h.level in
    let level = key_level b h.level in
    let place = key_place b h.level in
    let fx = low_few b.level b.x top h.x in
    let fy = low_few b.level b.y top h.y in
    let fz = low_few b.level b.z top h.z in
    let lx = low_end b.level b.x in
    let ly = low_end b.level b.y in
    let lz = low_end b.level b.z in
    same_block _ b level
    (ap₂ (λ u l. respaced 3 1 13 u / 2 ^ (10 - l)) place level ∙ ap (λ u. u / 2 ^ (10 - b.level)) (gather_x 13 lx ly lz fx) ∙ low_back b.level b.x)
    (ap₂ (λ u l. respaced 3 1 13 (u / 2) / 2 ^ (10 - l)) place level ∙ ap (λ u. u / 2 ^ (10 - b.level)) (gather_y 13 lx ly lz fx fy) ∙ low_back b.level b.y)
    (ap₂ (λ u l. respaced 3 1 13 (u / 4) / 2 ^ (10 - l)) place level ∙ ap (λ u. u / 2 ^ (10 - b.level)) (gather_z 13 lx ly lz fx fy fz) ∙ low_back b.level b.z)

-- a block whose parts are read from b's key is b
pub read_back : (k x y z : ℕ) (b : BlockAt) → HasKey b → key b ≡ k → x ≡ respaced 3 1 13 (k / 16) / 2 ^ (10 - k % 16) → y ≡ respaced 3 1 13 (k / 16 / 2) / 2 ^ (10 - k % 16) → z ≡ respaced 3 1 13 (k / 16 / 4) / 2 ^ (10 - k % 16) → ◌≡◌ {A = BlockAt} (record { level = k % 16; x = x; y = y; z = z }) b
unfolding told
read_back k x y z b h e ex ey ez =
    let same : told k ≡ b = ap told (sym e) ∙ told_by_key b h in
    same_block _ b (ap (λ (t : BlockAt). t.level) same) (ex ∙ ap (λ (t : BlockAt). t.x) same) (ey ∙ ap (λ (t : BlockAt). t.y) same) (ez ∙ ap (λ (t : BlockAt). t.z) same)

pub one_block : (b c : BlockAt) → HasKey b → HasKey c → key b ≡ key c → b ≡ c
one_block b c hb hc e = sym (told_by_key b hb) ∙ ap told e ∙ told_by_key c hc

-- ---- where blocks inside a block stand

-- the block of level k in which c lies, from where c begins
begins_in : (l x k : ℕ) → k ≤ l → l ≤ 10 → low_end l x / 2 ^ (10 - k) ≡ x / 2 ^ (l - k)
unfolding low_end
begins_in l x k h top =
    let sum : 10 - k ≡ (10 - l) + (l - k) = omega arith in
    ap (λ d. x * 2 ^ (10 - l) / 2 ^ d) sum ∙ ap (λ u. x * 2 ^ (10 - l) / u) (pow-add 2 (10 - l) (l - k))
    ∙ sym (div-div-eq-div-mul (x * 2 ^ (10 - l)) (2 ^ (10 - l)) (2 ^ (l - k)))
    ∙ ap (λ u. u / 2 ^ (l - k)) (mul-div_cancel x (pow_pos (10 - l)))

run_of : (b c : BlockAt) → c.level ≤ 10 → LiesIn c b → morton c / span b.level ≡ interleave (b.level + 3) b.x b.y b.z
unfolding morton span
run_of b c top h =
    let le = h.level in
    let x = begins_in c.level c.x b.level le top ∙ h.x in
    let y = begins_in c.level c.y b.level le top ∙ h.y in
    let z = begins_in c.level c.z b.level le top ∙ h.z in
    digits (10 - b.level) (b.level + 3) 13 (low_end c.level c.x) (low_end c.level c.y) (low_end c.level c.z) (omega arith)
    ∙ (λ i. interleave (b.level + 3) (x i) (y i) (z i))

within : (n s r : ℕ) → 0 < s → n / s ≡ r → (s * r ≤ n) × (n < s * r + s)
within n s r h e =
    let whole = div-add-mod' n s in
    let rest = mod_below n s h in
    let turn : n / s * s ≡ s * r = ap (λ u. u * s) e ∙ mul_comm r s in
    (omega arith, omega arith)

-- a block inside another begins in its stretch of the curve
inside : (b c : BlockAt) → c.level ≤ 10 → LiesIn c b → (morton b ≤ morton c) × (morton c < morton b + span b.level)
inside b c top h =
    let le = h.level in
    let at = morton_of b (omega arith) in
    let both = within (morton c) (span b.level) (interleave (b.level + 3) b.x b.y b.z) (span_pos b.level) (run_of b c top h) in
    let first = both.0 in
    let last = both.1 in
    (omega arith, omega arith)

pub outer_first : (b c : BlockAt) → HasKey c → LiesIn c b → b ≢ c → key b < key c
unfolding key
outer_first b c hc h other =
    let top = hc.level in
    let le = h.level in
    let begins = (inside b c top h).0 in
    elim (cases_lt b.level c.level) [
      | inl lt ↦ omega arith
      | inr same ↦
          let level : b.level ≡ c.level = omega arith in
          let none : c.level - b.level ≡ 0 = omega arith in
          absurd (other (same_block b c level (sym h.x ∙ whole c.x _ none) (sym h.y ∙ whole c.y _ none) (sym h.z ∙ whole c.z _ none)))
    ]
  where
    whole : (n d : ℕ) → d ≡ 0 → n / 2 ^ d ≡ n
    whole n d e = ap (λ u. n / 2 ^ u) e ∙ div_one n
      where
        div_one : (m : ℕ) → m / 2 ^ 0 ≡ m
        div_one m = omega arith

pub parent_first : (b : BlockAt) (q : ℕ) → b.level < 10 → q < 8 → key b < key (child_block b q)
unfolding key
parent_first b q h lt = let at = morton_child b q h lt in omega arith

pub keep_blocks : (b c d : BlockAt) (q r : ℕ) → HasKey c → HasKey d → q < r → r < 8 → LiesIn c (child_block b q) → LiesIn d (child_block b r) → key c < key d
unfolding key
keep_blocks b c d q r hc hd lt top in_q in_r =
    let level = in_q.level in
    let most = hc.level in
    let next = next_stretch b q r (omega arith) lt top in
    let end = (inside (child_block b q) c hc.level in_q).1 in
    let start = (inside (child_block b r) d hd.level in_r).0 in
    omega arith
