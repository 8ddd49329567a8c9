-- Places of an array: no two stand at one place of the list, and a box is written row by row.
use borrow.Rule.Slice.PartMut.{put_mid}
use Rattle.std.proofs.lemmas.List.{get_or-append_right, get_or-drop, get_or-take, get_or_append_left, length-append, length-drop, length-take-le}
use Rattle.std.proofs.Common.{◌≡◌, ℕ, ◌+◌, ◌-◌, ◌*◌, ◌/◌, ◌%◌, ◌<◌, ◌≤◌, List, get_or, ℤ, pos, refl, sym, ap, subst, ◌∙◌, arith, inl, inr, mod-eq_of_lt, length, take, drop, ◌++◌}
use Rattle.std.proofs.Math.Nat.{add-mul-div_left, add-mul-mod_self_left, div-eq_of_lt, mul-le-mul_left, div-lt_iff_lt-mul}
use Rattle.std.proofs.lemmas.Bool.{cases_lt}
use Rattle.mesh_model.specs.Fields.ArrayPlaces.{AreRowsWritten, Box, Extents, Fits, IsRowWritten, IsWritten, number_at, place_in, row_of, size_of, cell_extents, interior}

-- a digit and the number above it are found again
pub digit : (x a w : ℕ) → x < a → (x + a * w) % a ≡ x
digit x a w h = add-mul-mod_self_left x a w ∙ mod-eq_of_lt h

pub above_digit : (x a w : ℕ) → x < a → (x + a * w) / a ≡ w
above_digit x a w h =
    let some : 0 < a = omega arith in
    let none : x / a ≡ 0 = div-eq_of_lt h in
    add-mul-div_left x w {y = a} some ∙ ap (λ q. q + w) none ∙ omega arith

pub below_all : (x a w all : ℕ) → x < a → w < all → x + a * w < a * all
below_all x a w all h l = let next : a * (w + 1) ≤ a * all = mul-le-mul_left a (omega arith) in omega arith

pub quotient_below : (m a w : ℕ) → 0 < a → m < a * w → m / a < w
quotient_below m a w some h = (div-lt_iff_lt-mul {k = a} {x = m} {y = w} some).1 (omega arith)

-- a place stands within the list
pub place_inside : (e : Extents) (i j k : ℕ) → i < e.x → j < e.y → k < e.z → place_in e i j k < size_of e
unfolding place_in
place_inside e i j k hi hj hk = below_all i e.x (j + e.y * k) (e.y * e.z) hi (below_all j e.y k e.z hj hk)

-- and no two stand at one
pub same_x : (e : Extents) (i j k x y z : ℕ) → i < e.x → x < e.x → place_in e i j k ≡ place_in e x y z → i ≡ x
unfolding place_in
same_x e i j k x y z hi hx is = sym (digit i e.x (j + e.y * k) hi) ∙ ap (λ p. p % e.x) is ∙ digit x e.x (y + e.y * z) hx

lines : (e : Extents) (i j k x y z : ℕ) → i < e.x → x < e.x → place_in e i j k ≡ place_in e x y z → j + e.y * k ≡ y + e.y * z
unfolding place_in
lines e i j k x y z hi hx is = sym (above_digit i e.x (j + e.y * k) hi) ∙ ap (λ p. p / e.x) is ∙ above_digit x e.x (y + e.y * z) hx

pub same_y : (e : Extents) (i j k x y z : ℕ) → i < e.x → x < e.x → j < e.y → y < e.y → place_in e i j k ≡ place_in e x y z → j ≡ y
same_y e i j k x y z hi hx hj hy is = sym (digit j e.y k hj) ∙ ap (λ p. p % e.y) (lines e i j k x y z hi hx is) ∙ digit y e.y z hy

pub same_z : (e : Extents) (i j k x y z : ℕ) → i < e.x → x < e.x → j < e.y → y < e.y → place_in e i j k ≡ place_in e x y z → k ≡ z
same_z e i j k x y z hi hx hj hy is = sym (above_digit j e.y k hj) ∙ ap (λ p. p / e.y) (lines e i j k x y z hi hx is) ∙ above_digit y e.y z hy

-- places of a row stand side by side
pub along_row : (e : Extents) (x t j k : ℕ) → place_in e (x + t) j k ≡ place_in e x j k + t
unfolding place_in
along_row e x t j k = omega arith

-- a row that fits stands within the list
pub row_inside : (e : Extents) (x many j k : ℕ) → x + many ≤ e.x → j < e.y → k < e.z → place_in e x j k + many ≤ size_of e
unfolding place_in
row_inside e x many j k hx hj hk =
    let line = below_all j e.y k e.z hj hk in
    let next : e.x * (j + e.y * k + 1) ≤ e.x * (e.y * e.z) = mul-le-mul_left e.x (omega arith) in
    omega arith

-- the rows of a box that fits
module _ (e : Extents) (b : Box) (fits : Fits e b) where
  pub row_y : (m : ℕ) → m < b.along_y * b.along_z → m % b.along_y < b.along_y
  row_y m h = elim (cases_lt 0 b.along_y) [
    | inl some ↦ omega arith
    | inr none ↦ (let zero : b.along_y ≡ 0 = omega arith in absurd (let h2 : m < 0 * b.along_z = subst (λ a. m < a * b.along_z) zero h in omega arith))
  ]

  pub row_z : (m : ℕ) → m < b.along_y * b.along_z → m / b.along_y < b.along_z
  row_z m h = let some = row_y m h in quotient_below m b.along_y b.along_z (omega arith) h

  pub row_fits : (m : ℕ) → m < b.along_y * b.along_z → row_of e b m + b.along_x ≤ size_of e
  row_fits m h =
      let y = row_y m h in
      let z = row_z m h in
      let fy = fits.y in
      let fz = fits.z in
      row_inside e b.x b.along_x _ _ fits.x (omega arith) (omega arith)

  module _ (m : ℕ) (within : m < b.along_y * b.along_z) (wanted : ℕ → ℤ) (old new : List ℤ) (row : IsRowWritten (row_of e b m) b.along_x wanted old new) where
    -- a place off the row has what it had
    off_row : (i j k : ℕ) → i < e.x → j < e.y → k < e.z →
        ((t : ℕ) → t < b.along_x → i ≡ b.x + t → j ≡ b.y + m % b.along_y → k ≡ b.z + m / b.along_y → ⊥) → number_at e new i j k ≡ number_at e old i j k
    off_row i j k hi hj hk off =
        let y = b.y + m % b.along_y in
        let z = b.z + m / b.along_y in
        let start = row_of e b m in
        let p = place_in e i j k in
        let hy = row_y m within in
        let hz = row_z m within in
        let fx = fits.x in
        let fy = fits.y in
        let fz = fits.z in
        elim (cases_lt p start) [
          | inl low ↦ row.below p low
          | inr some ↦ elim (cases_lt p (start + b.along_x)) [
            | inr high ↦ row.above p high
            | inl inside ↦ absurd (
                let t = p - start in
                let ht : t < b.along_x = omega arith in
                let hx : b.x + t < e.x = omega arith in
                let yy : y < e.y = omega arith in
                let zz : z < e.z = omega arith in
                let there : place_in e i j k ≡ place_in e (b.x + t) y z = let again : p ≡ start + t = omega arith in again ∙ sym (along_row e b.x t y z) in
                off t ht (same_x e _ _ _ _ _ _ hi hx there) (same_y e _ _ _ _ _ _ hi hx hj yy there) (same_z e _ _ _ _ _ _ hi hx hj yy there))
          ]
        ]

  -- the row of a number by its places
  row_is : (m j k : ℕ) → j ≡ m % b.along_y → k ≡ m / b.along_y → j + b.along_y * k ≡ m
  row_is m j k y z =
      let whole : m % b.along_y + b.along_y * (m / b.along_y) ≡ m = omega arith in
      ap (λ u. u + b.along_y * k) y ∙ ap (λ u. m % b.along_y + b.along_y * u) z ∙ whole

  -- no row is written yet
  pub no_rows : (wanted : ℕ → ℕ → ℕ → ℤ) (old : List ℤ) → AreRowsWritten 0 e b wanted old old
  no_rows wanted old = record { size = refl; written = λ i j k hi hj h. absurd (omega arith); waits = λ i j k hi hj hk h. refl; stays = λ i j k hi hj hk off. refl }

  -- one more row is written
  pub one_more_row : (m : ℕ) (wanted : ℕ → ℕ → ℕ → ℤ) (old now new : List ℤ) → m < b.along_y * b.along_z → AreRowsWritten m e b wanted old now →
      IsRowWritten (row_of e b m) b.along_x (λ t. wanted t (m % b.along_y) (m / b.along_y)) now new → AreRowsWritten (m + 1) e b wanted old new
  one_more_row m wanted old now new within so_far row =
      let y = m % b.along_y in
      let z = m / b.along_y in
      let hy = row_y m within in
      let hz = row_z m within in
      let fx = fits.x in
      let fy = fits.y in
      let fz = fits.z in
      record {
        size = row.size ∙ so_far.size;
        written = λ i j k hi hj h. elim (cases_lt (j + b.along_y * k) m) [
          | inl before ↦
              let hk : k < b.along_z = (let high : (j + b.along_y * k) / b.along_y < b.along_z = quotient_below (j + b.along_y * k) b.along_y b.along_z (omega arith) (omega arith) in subst (λ w. w < b.along_z) (above_digit j b.along_y k hj) high) in
              let off : (t : ℕ) → t < b.along_x → b.x + i ≡ b.x + t → b.y + j ≡ b.y + y → b.z + k ≡ b.z + z → ⊥ = (λ t ht ex ey ez. let again = row_is m j k (omega arith) (omega arith) in absurd (omega arith)) in
              off_row m within (λ t. wanted t y z) now new row (b.x + i) (b.y + j) (b.z + k) (omega arith) (omega arith) (omega arith) off ∙ so_far.written i j k hi hj before
          | inr last ↦
              let is : j + b.along_y * k ≡ m = omega arith in
              let jy : y ≡ j = ap (λ u. u % b.along_y) (sym is) ∙ digit j b.along_y k hj in
              let kz : z ≡ k = ap (λ u. u / b.along_y) (sym is) ∙ above_digit j b.along_y k hj in
              let there : number_at e new (b.x + i) (b.y + y) (b.z + z) ≡ wanted i y z = ap (λ p. get_or new p (pos 0)) (along_row e b.x i (b.y + y) (b.z + z)) ∙ row.here i hi in
              let at_y = subst (λ u. number_at e new (b.x + i) (b.y + u) (b.z + z) ≡ wanted i u z) jy there in
              subst (λ u. number_at e new (b.x + i) (b.y + j) (b.z + u) ≡ wanted i j u) kz at_y
        ];
        waits = λ i j k hi hj hk h.
            let off : (t : ℕ) → t < b.along_x → b.x + i ≡ b.x + t → b.y + j ≡ b.y + y → b.z + k ≡ b.z + z → ⊥ = (λ t ht ex ey ez. let again = row_is m j k (omega arith) (omega arith) in absurd (omega arith)) in
            off_row m within (λ t. wanted t y z) now new row (b.x + i) (b.y + j) (b.z + k) (omega arith) (omega arith) (omega arith) off
            ∙ so_far.waits i j k hi hj hk (omega arith);
        stays = λ i j k hi hj hk beyond.
            let off : (t : ℕ) → t < b.along_x → i ≡ b.x + t → j ≡ b.y + y → k ≡ b.z + z → ⊥ = (λ t ht ex ey ez. beyond (record { x = (omega arith, omega arith); y = (omega arith, omega arith); z = (omega arith, omega arith) })) in
            off_row m within (λ t. wanted t y z) now new row i j k hi hj hk off ∙ so_far.stays i j k hi hj hk beyond;
      }

  -- the row that comes next is as it was
  pub next_row : (m : ℕ) (wanted : ℕ → ℕ → ℕ → ℤ) (old now : List ℤ) → m < b.along_y * b.along_z → AreRowsWritten m e b wanted old now → (t : ℕ) → t < b.along_x →
      number_at e now (b.x + t) (b.y + m % b.along_y) (b.z + m / b.along_y) ≡ number_at e old (b.x + t) (b.y + m % b.along_y) (b.z + m / b.along_y)
  next_row m wanted old now within so_far t ht =
      let is = row_is m (m % b.along_y) (m / b.along_y) refl refl in
      so_far.waits t (m % b.along_y) (m / b.along_y) ht (row_y m within) (row_z m within) (omega arith)

  -- all rows are written
  pub all_rows : (wanted : ℕ → ℕ → ℕ → ℤ) (old new : List ℤ) → AreRowsWritten (b.along_y * b.along_z) e b wanted old new → IsWritten e b wanted old new
  all_rows wanted old new done = record {
    size = done.size;
    written = λ i j k hi hj hk. done.written i j k hi hj (below_all j b.along_y k b.along_z hj hk);
    stays = done.stays;
  }

-- a row of a list that was written as a part of it
pub row_put : (start many : ℕ) (wanted : ℕ → ℤ) (old row : List ℤ) → start + many ≤ length old → length row ≡ many →
    ((t : ℕ) → t < many → get_or row t (pos 0) ≡ wanted t) → IsRowWritten start many wanted old (put_mid start many old row)
row_put start many wanted old row fits long is =
    let before = take start old in
    let after = drop many (drop start old) in
    let first : length before ≡ start = length-take-le start old (omega arith) in
    let rest : length after ≡ length old - start - many = length-drop many (drop start old) ∙ ap (λ m. m - many) (length-drop start old) in
    record {
      size = length-append before (row ++ after) ∙ ap (λ m. length before + m) (length-append row after) ∙ omega arith;
      here = λ t h.
          get_or-append_right before (row ++ after) start (start + t) (pos 0) first (omega arith) ∙ ap (λ p. get_or (row ++ after) p (pos 0)) (omega arith)
          ∙ get_or_append_left row after (pos 0) t (omega arith) ∙ is t h;
      below = λ p h. get_or_append_left before (row ++ after) (pos 0) p (omega arith) ∙ get_or-take start old p (pos 0) h;
      above = λ p h.
          get_or-append_right before (row ++ after) start p (pos 0) first (omega arith) ∙ get_or-append_right row after many (p - start) (pos 0) long (omega arith)
          ∙ get_or-drop many (drop start old) (p - start - many) (pos 0) ∙ get_or-drop start old (many + (p - start - many)) (pos 0)
          ∙ ap (λ q. get_or old q (pos 0)) (omega arith);
    }

-- the cells of a block lie within its array
pub interior_fits : (n g : ℕ) → Fits (cell_extents n g) (interior n g)
interior_fits n g = record { x = omega arith; y = omega arith; z = omega arith }
