-- The new leaves stand in Morton order again.
use Rattle.std.proofs.Common.{◌≡◌, ℕ, zero, suc, ◌+◌, ◌-◌, ◌*◌, ◌/◌, ◌%◌, ◌^◌, ◌<◌, ◌≤◌, Bool, true, false, ◌&&◌, ◌==◌, if◌then◌else◌, refl, sym, ap, ap₂, ◌∙◌, arith, inl, inr, subst, List, [], ◌∷◌, ◌++◌, map, eqb-true}
use Rattle.std.specs.Prelude.{flat_map}
use Rattle.std.proofs.Math.Nat.{div-div-eq-div-mul, mul_assoc, mul-le-mul_right, mul-lt-mul_of_pos_right, mul-div_cancel, mul_comm}
use Rattle.std.proofs.Math.Pow.{pow-add}
use Rattle.std.proofs.lemmas.Nat.{pow_pos, le-div, div_below, shr_below}
use Rattle.std.proofs.lemmas.Bool.{cases_Bool, cases_lt}
use Rattle.amr_num.specs.declared.BlockAt.{BlockAt}
use Rattle.mesh_model.specs.Tree.Kinds.{Grid}
use Rattle.mesh_model.specs.Tree.MarkedGrid.{MarkedGrid, ValidMarkedGrid}
use Rattle.mesh_model.specs.Geometry.Blocks.{child_block, parent_block, children, LiesIn}
use Rattle.mesh_model.specs.Tree.Regrown.{leaves_for, regrown, new_grid}
use Rattle.mesh_model.specs.Tree.Closure.{is_refined, is_merged}
use Rattle.mesh_model.specs.Geometry.Limits.{IsShape}
use Rattle.mesh_model.specs.Geometry.Touch.{low_end}
use Rattle.mesh_model.specs.Tree.Order.{IsIn, interleave, morton, key, Sorted}
use Rattle.mesh_model.specs.Tree.ValidGrid.{Tiles, Valid}
use Rattle.mesh_model.proofs.TreeLemmas.Tests.{in_either, in_flat, from_flat, and_left, and_right}
use Rattle.mesh_model.proofs.TreeLemmas.Tiling.{finest, finest_in}
use Rattle.mesh_model.proofs.TreeLemmas.Morton.{step, shifted, digits, same_numbers, power8}
use Rattle.mesh_model.proofs.TreeLemmas.Closure.{merged_says}
use Rattle.mesh_model.proofs.TreeLemmas.Regrown.{Fit, from_place, place_refined, place_merged, place_kept, takes_back, regrown_inside}
use Rattle.mesh_model.proofs.TreeLemmas.Ruled.{fit, room}

-- ---- where blocks lie in the order

-- how far the number of the next block of a level is
unfoldable pub span : ℕ → ℕ
span l = 8 ^ (10 - l)

pub morton_of : (b : BlockAt) → b.level ≤ 10 → morton b ≡ span b.level * interleave (b.level + 3) b.x b.y b.z
unfolding morton low_end span
morton_of b h = shifted (10 - b.level) (b.level + 3) 13 b.x b.y b.z (omega arith)

pub spans : (l : ℕ) → l < 10 → span l ≡ 8 * span (suc l)
unfolding span
spans l h = let one : 10 - l ≡ suc (10 - suc l) = omega arith in ap (λ d. 8 ^ d) one ∙ power8 (10 - suc l)

child_number : (b : BlockAt) (q : ℕ) → q < 8 → interleave (suc b.level + 3) (2 * b.x + q % 2) (2 * b.y + q / 2 % 2) (2 * b.z + q / 4 % 2) ≡ q + 8 * interleave (b.level + 3) b.x b.y b.z
child_number b q h =
    let one : suc b.level + 3 ≡ suc (b.level + 3) = omega arith in
    let xd : (2 * b.x + q % 2) / 2 ≡ b.x = omega arith in
    let yd : (2 * b.y + q / 2 % 2) / 2 ≡ b.y = omega arith in
    let zd : (2 * b.z + q / 4 % 2) / 2 ≡ b.z = omega arith in
    let front : (2 * b.x + q % 2) % 2 + 2 * ((2 * b.y + q / 2 % 2) % 2) + 4 * ((2 * b.z + q / 4 % 2) % 2) ≡ q = omega arith in
    ap (λ k. interleave k (2 * b.x + q % 2) (2 * b.y + q / 2 % 2) (2 * b.z + q / 4 % 2)) one
    ∙ step (b.level + 3) _ _ _
    ∙ ap₂ (λ u w. u + 8 * w) front (λ i. interleave (b.level + 3) (xd i) (yd i) (zd i))

spread_out : (s q n : ℕ) → s * (q + 8 * n) ≡ 8 * s * n + q * s
spread_out s q n = grind arith

pub morton_child : (b : BlockAt) (q : ℕ) → b.level < 10 → q < 8 → morton (child_block b q) ≡ morton b + q * span (suc b.level)
morton_child b q h l =
    morton_of (child_block b q) (omega arith) ∙ ap (λ u. span (suc b.level) * u) (child_number b q l)
    ∙ spread_out (span (suc b.level)) q (interleave (b.level + 3) b.x b.y b.z)
    ∙ ap (λ u. u * interleave (b.level + 3) b.x b.y b.z + q * span (suc b.level)) (sym (spans b.level h))
    ∙ ap (λ u. u + q * span (suc b.level)) (sym (morton_of b (omega arith)))

pub one_more : (n s : ℕ) → suc n * s ≡ n * s + s
one_more n s = grind arith

pub span_pos : (l : ℕ) → 0 < span l
unfolding span
span_pos l = pos8 (10 - l)
  where
    pos8 : (k : ℕ) → 0 < 8 ^ k
    pos8 zero = omega arith
    pos8 (suc k) = let h = pos8 k in let e = power8 k in omega arith

-- ---- leaves one after the other

module _ (g : Grid) (shape : IsShape g.shape) (tiles : Tiles g) where
  few : (r l x : ℕ) → r ≤ 8 → x < r * 2 ^ l → x < 2 ^ (l + 3)
  few r l x h lt =
      let room = mul-le-mul_right (2 ^ l) h in
      let sum : 2 ^ (l + 3) ≡ 2 ^ l * 8 = pow-add 2 l 3 in
      omega arith

  end_of : (r l x : ℕ) → l ≤ 10 → x < r * 2 ^ l → x * 2 ^ (10 - l) < r * 2 ^ 10
  end_of r l x h lt =
      let sum : l + (10 - l) ≡ 10 = omega arith in
      subst (λ n. x * 2 ^ (10 - l) < n) (mul_assoc r (2 ^ l) (2 ^ (10 - l)) ∙ ap (λ n. r * n) (sym (pow-add 2 l (10 - l)) ∙ ap (λ d. 2 ^ d) sum)) (mul-lt-mul_of_pos_right lt (pow_pos (10 - l)))

  start_few : (r l x k : ℕ) → r ≤ 8 → l ≤ 10 → k ≤ 10 → x < r * 2 ^ l → low_end l x / 2 ^ (10 - k) < 2 ^ (k + 3)
  unfolding low_end
  start_few r l x k few_r hl hk lt =
      let sum : (k + 3) + (10 - k) ≡ 13 = omega arith in
      let e = end_of r l x hl lt in
      shr_below (x * 2 ^ (10 - l)) (k + 3) (10 - k) (subst (λ d. x * 2 ^ (10 - l) < 2 ^ d) (sym sum) (omega arith))

  -- the finest block at the start of c, seen from the level k
  start_at : (top l x k : ℕ) → l ≤ top → k ≤ top → top ≤ 10 → low_end l x / 2 ^ (10 - k) ≡ x * 2 ^ (top - l) / 2 ^ (top - k)
  unfolding low_end
  start_at top l x k hl hk ht =
      let a : 10 - l ≡ (top - l) + (10 - top) = omega arith in
      let b : 10 - k ≡ (10 - top) + (top - k) = omega arith in
      ap₂ (λ u w. x * 2 ^ u / 2 ^ w) a b
      ∙ ap₂ (λ u w. x * u / w) (pow-add 2 (top - l) (10 - top)) (pow-add 2 (10 - top) (top - k))
      ∙ ap (λ u. u / (2 ^ (10 - top) * 2 ^ (top - k))) (sym (mul_assoc x (2 ^ (top - l)) (2 ^ (10 - top))))
      ∙ sym (div-div-eq-div-mul (x * 2 ^ (top - l) * 2 ^ (10 - top)) (2 ^ (10 - top)) (2 ^ (top - k)))
      ∙ ap (λ u. u / 2 ^ (top - k)) (mul-div_cancel (x * 2 ^ (top - l)) (pow_pos (10 - top)))

  -- a leaf that begins within another is that
  starts_within : (b c : BlockAt) → IsIn b g.leaves → IsIn c g.leaves → morton c / span b.level ≡ interleave (b.level + 3) b.x b.y b.z → b ≡ c
  unfolding finest morton span
  starts_within b c i j e =
      let db = tiles.inside b i in
      let dc = tiles.inside c j in
      let lb = db.level in
      let lc = dc.level in
      let top = shape.max in
      let at = sym (digits (10 - b.level) (b.level + 3) 13 (low_end c.level c.x) (low_end c.level c.y) (low_end c.level c.z) (omega arith)) ∙ e in
      let same = same_numbers (b.level + 3) _ _ _ b.x b.y b.z
      (start_few g.shape.rx c.level c.x b.level shape.few_x (omega arith) (omega arith) dc.x)
      (start_few g.shape.ry c.level c.y b.level shape.few_y (omega arith) (omega arith) dc.y)
      (start_few g.shape.rz c.level c.z b.level shape.few_z (omega arith) (omega arith) dc.z)
      (few g.shape.rx b.level b.x shape.few_x db.x) (few g.shape.ry b.level b.y shape.few_y db.y) (few g.shape.rz b.level b.z shape.few_z db.z) at in
      let p = finest g.shape.max c in
      let in_b : LiesIn p b = record {
        level = lb;
        x = sym (start_at g.shape.max c.level c.x b.level lc lb top) ∙ same.0;
        y = sym (start_at g.shape.max c.level c.y b.level lc lb top) ∙ same.1;
        z = sym (start_at g.shape.max c.level c.z b.level lc lb top) ∙ same.2;
      } in
      tiles.once p b c refl i j in_b (finest_in g.shape.max c lc)

  -- a leaf after another begins after its end
  pub past_end : (b c : BlockAt) → IsIn b g.leaves → IsIn c g.leaves → key b < key c → morton b + span b.level ≤ morton c
  unfolding key
  past_end b c i j h =
      let lb = (tiles.inside b i).level in
      let lc = (tiles.inside c j).level in
      let top = shape.max in
      elim (cases_lt (morton c) (morton b + span b.level)) [
        | inr ok ↦ ok
        | inl early ↦
            let n = interleave (b.level + 3) b.x b.y b.z in
            let at = morton_of b (omega arith) in
            let turn = mul_comm n (span b.level) in
            let row = one_more n (span b.level) in
            let low : n * span b.level ≤ morton c = omega arith in
            let high : morton c < suc n * span b.level = omega arith in
            let first = le-div n (morton c) (span b.level) (span_pos b.level) low in
            let last = div_below (morton c) (span b.level) (suc n) (span_pos b.level) high in
            let same = ap key (starts_within b c i j (omega arith)) in
            absurd (omega arith)
      ]

-- ---- sorted lists

pub sorted_append : (xs ys : List BlockAt) → Sorted xs → Sorted ys → ((n o : BlockAt) → IsIn n xs → IsIn o ys → key n < key o) → Sorted (xs ++ ys)
sorted_append [] ys sx sy h = sy
sorted_append (x ∷ xs) ys sx sy h = (
  λ c i. elim (in_either c xs ys i) [ inl j ↦ sx.0 c j | inr j ↦ h x c (inl refl) j ],
  sorted_append xs ys sx.1 sy (λ n o i j. h n o (inr i) j),
)

pub sorted_flat : (f : BlockAt → List BlockAt) (bs : List BlockAt) → Sorted bs → ((b : BlockAt) → IsIn b bs → Sorted (f b)) → ((b c n o : BlockAt) → IsIn b bs → IsIn c bs → key b < key c → IsIn n (f b) → IsIn o (f c) → key n < key o) → Sorted (flat_map f bs)
sorted_flat f [] s each across = tt
sorted_flat f (b ∷ bs) s each across =
    sorted_append (f b) (flat_map f bs) (each b (inl refl))
    (sorted_flat f bs s.1 (λ c i. each c (inr i)) (λ c d n o i j. across c d n o (inr i) (inr j)))
    (λ n o i j. let from = from_flat f o bs j in across b from.0 n o (inl refl) (inr from.1) (s.0 from.0 from.1) i from.2)

-- ---- what stands in the place of a leaf

abbrev pub Rising : ℕ → List ℕ → Type 0
Rising low [] = Unit
Rising low (n ∷ ns) = (low ≤ n) × ((n < 8) × Rising (suc n) ns)

pub from_octants : (b c : BlockAt) (ns : List ℕ) (low : ℕ) → Rising low ns → IsIn c (map (child_block b) ns) → (q : ℕ) × (low ≤ q) × (q < 8) × (child_block b q ≡ c)
from_octants b c [] low r i = absurd i
from_octants b c (n ∷ ns) low r (inl e) = (n, r.0, r.1.0, e)
from_octants b c (n ∷ ns) low r (inr i) =
    let rest = from_octants b c ns (suc n) r.1.1 i in
    let le = r.0 in
    let lt = rest.1 in
    (rest.0, omega arith, rest.2, rest.3)

-- each child's stretch ends where the next child's begins, or before
pub next_stretch : (b : BlockAt) (q r : ℕ) → b.level < 10 → q < r → r < 8 → morton (child_block b q) + span (suc b.level) ≤ morton (child_block b r)
next_stretch b q r h lt top =
    let one = morton_child b q h (omega arith) in
    let two = morton_child b r h top in
    let row = one_more q (span (suc b.level)) in
    let le = mul-le-mul_right {m = suc q} {n = r} (span (suc b.level)) lt in
    omega arith

pub later_child : (b : BlockAt) (q r : ℕ) → b.level < 10 → q < r → r < 8 → key (child_block b q) < key (child_block b r)
unfolding key
later_child b q r h lt top =
    let next = next_stretch b q r h lt top in
    let wide = span_pos (suc b.level) in
    omega arith

sorted_octants : (b : BlockAt) (ns : List ℕ) (low : ℕ) → b.level < 10 → Rising low ns → Sorted (map (child_block b) ns)
sorted_octants b [] low h r = tt
sorted_octants b (n ∷ ns) low h r = (
  λ c i. let q = from_octants b c ns (suc n) r.1.1 i in subst (λ u. key (child_block b n) < key u) q.3 (later_child b n q.0 h q.1 q.2),
  sorted_octants b ns (suc n) h r.1.1,
)

pub octants_rise : Rising 0 (0 ∷ 1 ∷ 2 ∷ 3 ∷ 4 ∷ 5 ∷ 6 ∷ 7 ∷ [])
octants_rise = (omega arith, (omega arith, (omega arith, (omega arith, (omega arith, (omega arith, (omega arith, (omega arith, (omega arith, (omega arith, (omega arith, (omega arith, (omega arith, (omega arith, (omega arith, (omega arith, tt))))))))))))))))

sorted_children : (b : BlockAt) → b.level < 10 → Sorted (children b)
sorted_children b h = sorted_octants b (0 ∷ 1 ∷ 2 ∷ 3 ∷ 4 ∷ 5 ∷ 6 ∷ 7 ∷ []) 0 h octants_rise

sorted_if : (z : Bool) (b : BlockAt) → Sorted (if z then b ∷ [] else [])
sorted_if true b = (λ c i. absurd i, tt)
sorted_if false b = tt

module _ (g : Grid) (valid : Valid g) (refine merge : BlockAt → Bool) (fits : Fit refine merge g) where
  place_sorted : (b : BlockAt) → IsIn b g.leaves → Sorted (leaves_for refine merge b)
  place_sorted b i = elim (cases_Bool (refine b)) [
    | inl t ↦
        let deep = fits.deep b i t in
        let top = valid.shape.max in
        subst (λ u. Sorted u) (sym (place_refined refine merge b t)) (sorted_children b (omega arith))
    | inr f ↦ elim (cases_Bool (takes_back refine merge b)) [
      | inl t ↦ subst (λ u. Sorted u) (sym (place_merged refine merge b f t)) (sorted_if ((b.x % 2 == 0) && (b.y % 2 == 0) && (b.z % 2 == 0)) (parent_block b))
      | inr k ↦ subst (λ u. Sorted u) (sym (place_kept refine merge b f k)) (λ c j. absurd j, tt)
    ]
  ]

  first_child : (b : BlockAt) → 0 < b.level → ((b.x % 2 == 0) && (b.y % 2 == 0) && (b.z % 2 == 0)) ≡ true → child_block (parent_block b) 0 ≡ b
  first_child b h e =
      let x = eqb-true _ _ (and_left (b.x % 2 == 0) (b.y % 2 == 0) (and_left ((b.x % 2 == 0) && (b.y % 2 == 0)) (b.z % 2 == 0) e)) in
      let y = eqb-true _ _ (and_right (b.x % 2 == 0) (b.y % 2 == 0) (and_left ((b.x % 2 == 0) && (b.y % 2 == 0)) (b.z % 2 == 0) e)) in
      let z = eqb-true _ _ (and_right ((b.x % 2 == 0) && (b.y % 2 == 0)) (b.z % 2 == 0) e) in
      let lv : suc (b.level - 1) ≡ b.level = omega arith in
      let xs : 2 * (b.x / 2) + 0 ≡ b.x = omega arith in
      let ys : 2 * (b.y / 2) + 0 ≡ b.y = omega arith in
      let zs : 2 * (b.z / 2) + 0 ≡ b.z = omega arith in
      λ i. record { level = lv i; x = xs i; y = ys i; z = zs i }

  -- what stands in b's place begins in b
  place_begins : (n b : BlockAt) → IsIn b g.leaves → IsIn n (leaves_for refine merge b) → (morton b ≤ morton n) × (morton n < morton b + span b.level)
  place_begins n b i j =
      let top = valid.shape.max in
      let room = (valid.tiles.inside b i).level in
      let wide = span_pos b.level in
      elim (from_place refine merge n b j) [
        | inl r ↦
            let deep = fits.deep b i r.refined in
            let number = ap morton (sym r.child) ∙ morton_child b r.octant (omega arith) r.below in
            let whole = spans b.level (omega arith) in
            let part = mul-lt-mul_of_pos_right {m = r.octant} {n = 8} r.below (span_pos (suc b.level)) in
            (omega arith, omega arith)
        | inr (inl p) ↦
            let same = ap morton (first_child b p.level p.first) in
            let none = morton_child (parent_block b) 0 (omega arith) (omega arith) in
            let number = ap morton (sym p.parent) in
            (omega arith, omega arith)
        | inr (inr k) ↦ let number = ap morton (sym k.same) in (omega arith, omega arith)
      ]

  across : (b c n o : BlockAt) → IsIn b g.leaves → IsIn c g.leaves → key b < key c → IsIn n (leaves_for refine merge b) → IsIn o (leaves_for refine merge c) → key n < key o
  unfolding key
  across b c n o i j h in_b in_c =
      let top = valid.shape.max in
      let past = past_end g valid.shape valid.tiles b c i j h in
      let one = place_begins n b i in_b in
      let two = place_begins o c j in_c in
      let end = one.1 in
      let start = two.0 in
      let room = (regrown_inside refine merge g fits valid.tiles n (in_flat (leaves_for refine merge) n b g.leaves i in_b)).level in
      omega arith

  pub regrown_sorted : Sorted g.leaves → Sorted (regrown g refine merge).leaves
  regrown_sorted s = sorted_flat (leaves_for refine merge) g.leaves s place_sorted across

-- the leaves of the new grid stand in Morton order, as the old ones do
pub new_grid_sorted : (m : MarkedGrid) → ValidMarkedGrid m → Sorted (new_grid m).leaves
new_grid_sorted m valid = regrown_sorted m.grid valid.grid (is_refined m) (is_merged m) (fit m valid (is_merged m) (merged_says m (room m valid))) valid.order
