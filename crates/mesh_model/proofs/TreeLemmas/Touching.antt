-- Blocks that touch.
use Rattle.std.proofs.Common.{◌≡◌, ℕ, suc, ◌+◌, ◌-◌, ◌*◌, ◌/◌, ◌%◌, ◌^◌, ◌<◌, ◌≤◌, ◌⊎◌, Bool, true, ◌&&◌, ◌||◌, refl, sym, ap, ◌∙◌, arith, inl, inr, subst, leb-true, le-leb, nat_le}
use Rattle.std.proofs.Math.Nat.{mul-le-mul_right, le_of_mul-le-mul_right, mul_assoc, lt-div-mul-add, div-mul-le_self}
use Rattle.std.proofs.Math.Pow.{pow-add}
use Rattle.std.proofs.lemmas.Nat.{pow_pos}
use Rattle.std.proofs.lemmas.Bool.{cases_lt}
use Rattle.amr_num.specs.declared.Axis.{Axis}
use Rattle.amr_num.specs.declared.Axis.TheVariants.{X, Y, Z}
use Rattle.amr_num.specs.declared.BlockAt.{BlockAt}
use Rattle.mesh_model.specs.declared.geometry.Shape.{Shape}
use Rattle.mesh_model.specs.Geometry.Coordinates.{is_periodic, roots}
use Rattle.mesh_model.specs.Geometry.Touch.{low_end, high_end, stretches_meet, touches, meet_on, block_on}
use Rattle.mesh_model.specs.Geometry.Blocks.{child_block, LiesIn}
use Rattle.mesh_model.proofs.TreeLemmas.Tests.{all_three, and_left, and_right, and_both, either_true, or_left, or_right}

-- ---- stretches of one axis

abbrev pub Meet : Bool → ℕ → ℕ → ℕ → ℕ → ℕ → Type 0
Meet p e a a' b b' = ((a ≤ b') × (b ≤ a')) ⊎ ((p ≡ true) × ((a + e ≤ b') ⊎ (b + e ≤ a')))

meet_says : (p : Bool) (e a a' b b' : ℕ) → stretches_meet p e a a' b b' ≡ true → Meet p e a a' b b'
unfolding stretches_meet
meet_says p e a a' b b' h = elim (either_true (nat_le a b' && nat_le b a') (p && (nat_le (a + e) b' || nat_le (b + e) a')) h) [
  | inl t ↦ inl (leb-true _ _ (and_left (nat_le a b') (nat_le b a') t), leb-true _ _ (and_right (nat_le a b') (nat_le b a') t))
  | inr t ↦ elim (either_true (nat_le (a + e) b') (nat_le (b + e) a') (and_right p (nat_le (a + e) b' || nat_le (b + e) a') t)) [
    | inl u ↦ inr (and_left p (nat_le (a + e) b' || nat_le (b + e) a') t, inl (leb-true _ _ u))
    | inr u ↦ inr (and_left p (nat_le (a + e) b' || nat_le (b + e) a') t, inr (leb-true _ _ u))
  ]
]

meet_shows : (p : Bool) (e a a' b b' : ℕ) → Meet p e a a' b b' → stretches_meet p e a a' b b' ≡ true
unfolding stretches_meet
meet_shows p e a a' b b' (inl h) = or_left (nat_le a b' && nat_le b a') _ (and_both (nat_le a b') (nat_le b a') (le-leb _ _ h.0) (le-leb _ _ h.1))
meet_shows p e a a' b b' (inr h) = or_right (nat_le a b' && nat_le b a') _ (and_both p (nat_le (a + e) b' || nat_le (b + e) a') h.0 (elim h.1 [
  | inl u ↦ or_left (nat_le (a + e) b') _ (le-leb _ _ u)
  | inr u ↦ or_right (nat_le (a + e) b') _ (le-leb _ _ u)
]))

pub meet_swap : (p : Bool) (e a a' b b' : ℕ) → Meet p e a a' b b' → Meet p e b b' a a'
meet_swap p e a a' b b' (inl h) = inl (h.1, h.0)
meet_swap p e a a' b b' (inr h) = inr (h.0, elim h.1 [ inl u ↦ inr u | inr u ↦ inl u ])

-- wider stretches still meet
pub meet_wider : (p : Bool) (e a a' b b' c c' d d' : ℕ) → c ≤ a → a' ≤ c' → d ≤ b → b' ≤ d' → Meet p e a a' b b' → Meet p e c c' d d'
meet_wider p e a a' b b' c c' d d' h1 h2 h3 h4 (inl (l, r)) = inl (omega arith, omega arith)
meet_wider p e a a' b b' c c' d d' h1 h2 h3 h4 (inr (t, inl u)) = inr (t, inl (omega arith))
meet_wider p e a a' b b' c c' d d' h1 h2 h3 h4 (inr (t, inr u)) = inr (t, inr (omega arith))

-- one half of a stretch that meets another meets it
meet_half : (p : Bool) (e a a' b m b' : ℕ) → a ≤ a' → Meet p e a a' b b' → Meet p e a a' b m ⊎ Meet p e a a' m b'
meet_half p e a a' b m b' h (inl (l, r)) = elim (cases_lt m a) [
  | inl lt ↦ inr (inl (omega arith, omega arith))
  | inr le ↦ inl (inl (le, r))
]
meet_half p e a a' b m b' h (inr (t, inl u)) = inr (inr (t, inl u))
meet_half p e a a' b m b' h (inr (t, inr u)) = inl (inr (t, inr u))

sum_times : (a e k : ℕ) → a * k + e * k ≡ (a + e) * k
sum_times a e k = grind arith

pub meet_times : (p : Bool) (e a a' b b' k : ℕ) → Meet p e a a' b b' → Meet p (e * k) (a * k) (a' * k) (b * k) (b' * k)
meet_times p e a a' b b' k (inl h) = inl (mul-le-mul_right k h.0, mul-le-mul_right k h.1)
meet_times p e a a' b b' k (inr (t, inl u)) = inr (t, inl (subst (λ n. n ≤ b' * k) (sym (sum_times a e k)) (mul-le-mul_right k u)))
meet_times p e a a' b b' k (inr (t, inr u)) = inr (t, inr (subst (λ n. n ≤ a' * k) (sym (sum_times b e k)) (mul-le-mul_right k u)))

pub meet_over : (p : Bool) (e a a' b b' k : ℕ) → 0 < k → Meet p (e * k) (a * k) (a' * k) (b * k) (b' * k) → Meet p e a a' b b'
meet_over p e a a' b b' k h (inl (l, r)) = inl (le_of_mul-le-mul_right l h, le_of_mul-le-mul_right r h)
meet_over p e a a' b b' k h (inr (t, inl u)) = inr (t, inl (le_of_mul-le-mul_right (subst (λ n. n ≤ b' * k) (sum_times a e k) u) h))
meet_over p e a a' b b' k h (inr (t, inr u)) = inr (t, inr (le_of_mul-le-mul_right (subst (λ n. n ≤ a' * k) (sum_times b e k) u) h))

-- ---- ends

pub ends_rise : (l x : ℕ) → low_end l x ≤ high_end l x
unfolding low_end high_end
ends_rise l x = mul-le-mul_right (2 ^ (10 - l)) (omega arith)

powers : (l k : ℕ) → l ≤ k → k ≤ 10 → 2 ^ (10 - l) ≡ 2 ^ (k - l) * 2 ^ (10 - k)
powers l k h g = let sum : 10 - l ≡ (k - l) + (10 - k) = omega arith in ap (λ d. 2 ^ d) sum ∙ pow-add 2 (k - l) (10 - k)

pub low_within : (l x k y : ℕ) → l ≤ k → k ≤ 10 → y / 2 ^ (k - l) ≡ x → low_end l x ≤ low_end k y
unfolding low_end
low_within l x k y h g e =
    let le : x * 2 ^ (k - l) ≤ y = subst (λ n. n * 2 ^ (k - l) ≤ y) e (div-mul-le_self y (2 ^ (k - l))) in
    subst (λ n. n ≤ y * 2 ^ (10 - k)) (mul_assoc x _ _ ∙ ap (λ n. x * n) (sym (powers l k h g))) (mul-le-mul_right (2 ^ (10 - k)) le)

pub high_within : (l x k y : ℕ) → l ≤ k → k ≤ 10 → y / 2 ^ (k - l) ≡ x → high_end k y ≤ high_end l x
unfolding high_end
high_within l x k y h g e =
    let lt : y < x * 2 ^ (k - l) + 2 ^ (k - l) = subst (λ n. y < n * 2 ^ (k - l) + 2 ^ (k - l)) e (lt-div-mul-add (pow_pos (k - l))) in
    let row : suc x * 2 ^ (k - l) ≡ x * 2 ^ (k - l) + 2 ^ (k - l) = grind arith in
    let le : suc y ≤ suc x * 2 ^ (k - l) = omega arith in
    subst (λ n. suc y * 2 ^ (10 - k) ≤ n) (mul_assoc (suc x) _ _ ∙ ap (λ n. suc x * n) (sym (powers l k h g))) (mul-le-mul_right (2 ^ (10 - k)) le)

-- where the halves of a block meet
pub low_first : (l x : ℕ) → l < 10 → low_end (suc l) (2 * x + 0) ≡ low_end l x
unfolding low_end
low_first l x h = let e : 10 - l ≡ suc (10 - suc l) = omega arith in rw e (grind arith)

pub high_first : (l x : ℕ) → high_end (suc l) (2 * x + 0) ≡ low_end (suc l) (2 * x + 1)
unfolding low_end high_end
high_first l x = ap (λ n. n * 2 ^ (10 - suc l)) (omega arith)

pub high_second : (l x : ℕ) → l < 10 → high_end (suc l) (2 * x + 1) ≡ high_end l x
unfolding high_end
high_second l x h = let e : 10 - l ≡ suc (10 - suc l) = omega arith in rw e (grind arith)

-- ---- blocks

pub record Touch (s : Shape) (a b : BlockAt) : Type 0 where
  pub on : (axis : Axis) → Meet (is_periodic s axis) (roots s axis * 2 ^ 10) (low_end a.level (block_on axis a)) (high_end a.level (block_on axis a)) (low_end b.level (block_on axis b)) (high_end b.level (block_on axis b))

each_axis : (s : Shape) (a b : BlockAt) → touches s a b ≡ true → (axis : Axis) → meet_on s a b axis ≡ true
unfolding touches
each_axis s a b h X = (all_three (meet_on s a b X) (meet_on s a b Y) (meet_on s a b Z) h).0
each_axis s a b h Y = (all_three (meet_on s a b X) (meet_on s a b Y) (meet_on s a b Z) h).1
each_axis s a b h Z = (all_three (meet_on s a b X) (meet_on s a b Y) (meet_on s a b Z) h).2

pub touch_says : (s : Shape) (a b : BlockAt) → touches s a b ≡ true → Touch s a b
touch_says s a b h = record { on = λ axis. meet_says _ _ _ _ _ _ (each_axis s a b h axis) }

pub touch_shows : (s : Shape) (a b : BlockAt) → Touch s a b → touches s a b ≡ true
unfolding touches
touch_shows s a b h = and_both (meet_on s a b X && meet_on s a b Y) (meet_on s a b Z) (and_both (meet_on s a b X) (meet_on s a b Y) (meet_shows _ _ _ _ _ _ (h.on X)) (meet_shows _ _ _ _ _ _ (h.on Y))) (meet_shows _ _ _ _ _ _ (h.on Z))

pub touch_swap : (s : Shape) (a b : BlockAt) → Touch s a b → Touch s b a
touch_swap s a b h = record { on = λ axis. meet_swap _ _ _ _ _ _ (h.on axis) }

lies_on : (b a : BlockAt) (axis : Axis) → LiesIn b a → block_on axis b / 2 ^ (b.level - a.level) ≡ block_on axis a
lies_on b a X h = h.x
lies_on b a Y h = h.y
lies_on b a Z h = h.z

-- what touches a block touches the blocks round it
pub touch_up : (s : Shape) (a b c : BlockAt) → Touch s a b → LiesIn b c → b.level ≤ 10 → Touch s a c
touch_up s a b c t i h = record {
  on = λ axis. meet_wider _ _ _ _ _ _ _ _ _ _ (omega arith) (omega arith) (low_within c.level (block_on axis c) b.level (block_on axis b) i.level h (lies_on b c axis i)) (high_within c.level (block_on axis c) b.level (block_on axis b) i.level h (lies_on b c axis i)) (t.on axis);
}

-- ---- children

-- the octant with these halves
child_on : BlockAt → (Axis → ℕ) → BlockAt
child_on b half = record { level = suc b.level; x = 2 * b.x + half X; y = 2 * b.y + half Y; z = 2 * b.z + half Z }

pick : (p : Bool) (e a a' l x : ℕ) → l < 10 → a ≤ a' → Meet p e a a' (low_end l x) (high_end l x) → (j : ℕ) × (j < 2) × Meet p e a a' (low_end (suc l) (2 * x + j)) (high_end (suc l) (2 * x + j))
pick p e a a' l x h le t = elim (meet_half p e a a' (low_end l x) (low_end (suc l) (2 * x + 1)) (high_end l x) le t) [
  | inl u ↦ (0, omega arith, rw (low_first l x h, high_first l x) u)
  | inr u ↦ (1, omega arith, rw (high_second l x h) u)
]

place_child : (b : BlockAt) (half : Axis → ℕ) (axis : Axis) → block_on axis (child_on b half) ≡ 2 * block_on axis b + half axis
unfolding child_on
place_child b half X = refl
place_child b half Y = refl
place_child b half Z = refl

octant_child : (b : BlockAt) (half : Axis → ℕ) → half X < 2 → half Y < 2 → half Z < 2 → child_on b half ≡ child_block b (half X + 2 * half Y + 4 * half Z)
unfolding child_on
octant_child b half p q r =
    let x : half X ≡ (half X + 2 * half Y + 4 * half Z) % 2 = omega arith in
    let y : half Y ≡ (half X + 2 * half Y + 4 * half Z) / 2 % 2 = omega arith in
    let z : half Z ≡ (half X + 2 * half Y + 4 * half Z) / 4 % 2 = omega arith in
    λ i. record { level = suc b.level; x = 2 * b.x + x i; y = 2 * b.y + y i; z = 2 * b.z + z i }

-- what touches a block touches one of its children
pub touch_child : (s : Shape) (a b : BlockAt) → b.level < 10 → Touch s a b → (q : ℕ) × (q < 8) × Touch s a (child_block b q)
unfolding child_on
touch_child s a b h t =
    let at : (axis : Axis) → (j : ℕ) × (j < 2) × Meet (is_periodic s axis) (roots s axis * 2 ^ 10) (low_end a.level (block_on axis a)) (high_end a.level (block_on axis a)) (low_end (suc b.level) (2 * block_on axis b + j)) (high_end (suc b.level) (2 * block_on axis b + j)) = λ axis. pick _ _ _ _ b.level (block_on axis b) h (ends_rise a.level (block_on axis a)) (t.on axis) in
    let half = λ (axis : Axis). (at axis).0 in
    let p = (at X).1 in
    let q = (at Y).1 in
    let r = (at Z).1 in
    let touch : Touch s a (child_on b half) = record { on = λ axis. subst (λ n. Meet (is_periodic s axis) (roots s axis * 2 ^ 10) (low_end a.level (block_on axis a)) (high_end a.level (block_on axis a)) (low_end (suc b.level) n) (high_end (suc b.level) n)) (sym (place_child b half axis)) (at axis).2 } in
    (half X + 2 * half Y + 4 * half Z, omega arith, subst (λ c. Touch s a c) (octant_child b half p q r) touch)
