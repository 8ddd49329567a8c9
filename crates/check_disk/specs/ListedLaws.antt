-- The small spelling is a format.
use Rattle.std.proofs.Common.{◌≡◌, ℕ, ◌+◌, ◌<◌, ◌≤◌, ◌^◌, Bool, true, false, ◌==◌, cond, List, [], ◌∷◌, length, drop, get_or, Result, Ok, Err, refl, ap, ◌∙◌, arith}
use Rattle.std.specs.List.{All}
use Rattle.std.proofs.lemmas.Bool.{and_parts, and_from, leb-true, eqb-true, eq-eqb, le-leb}
use Rattle.check_disk.specs.Format.{Format}
use Rattle.check_disk.specs.Listed.{listed_image, FitsListed, same_bytes, read_listed}

pub length-listed : (mesh : List ℕ) (turn : ℕ) → length (listed_image mesh turn) ≡ length mesh + 9
unfolding listed_image
length-listed mesh turn = omega arith

pub turn_at : (mesh : List ℕ) (turn : ℕ) → get_or (listed_image mesh turn) 8 0 ≡ turn
unfolding listed_image
turn_at mesh turn = refl

pub listed_some : (mesh : List ℕ) (turn : ℕ) → 1 ≤ length (listed_image mesh turn)
listed_some mesh turn = omega (arith, length-listed mesh turn)

pub listed_limit : (mesh : List ℕ) (turn : ℕ) → FitsListed mesh → length (listed_image mesh turn) ≤ 2 ^ 29
listed_limit mesh turn fits = omega (arith, length-listed mesh turn, fits.short)

same_is : (xs ys : List ℕ) → same_bytes xs ys ≡ true → xs ≡ ys
same_is [] [] same = refl
same_is [] (y ∷ ys) same = cc
same_is (x ∷ xs) [] same = cc
same_is (x ∷ xs) (y ∷ ys) same =
    let parts = and_parts (x == y) (same_bytes xs ys) same in
    let head = eqb-true x y parts.0 in
    let rest = same_is xs ys parts.1 in
    λ i. head i ∷ rest i

same_self : (xs : List ℕ) → same_bytes xs xs ≡ true
same_self [] = refl
same_self (x ∷ xs) = and_from (x == x) (same_bytes xs xs) (eq-eqb x x refl) (same_self xs)

pub listed_back : (mesh : List ℕ) (turn : ℕ) → FitsListed mesh → turn ≤ 2 → read_listed (listed_image mesh turn) ≡ Ok mesh
unfolding read_listed listed_image
listed_back mesh turn fits few =
    let short = fits.short in
    ap (λ b. cond b (Ok mesh) (Err tt))
    (and_from _ _ (same_self (listed_image mesh turn)) (and_from _ _ (le-leb turn 2 few) (le-leb (length (listed_image mesh turn)) (2 ^ 29) (omega (arith, length-listed mesh turn)))))

read_by : (b : Bool) (m mesh : List ℕ) → ◌≡◌ {A = Result (List ℕ) (Unit {0})} (cond b (Ok m) (Err tt)) (Ok mesh) → (b ≡ true) × (m ≡ mesh)
read_by true m mesh is = (refl, cc is)
read_by false m mesh is = cc is

pub listed_exact : (bytes mesh : List ℕ) → All (λ byte. byte < 256) bytes → read_listed bytes ≡ Ok mesh → (turn : ℕ) × (turn ≤ 2) × FitsListed mesh × (bytes ≡ listed_image mesh turn)
unfolding read_listed
listed_exact bytes mesh are is =
    let turn = get_or bytes 8 0 in
    let found = read_by _ (drop 9 bytes) mesh is in
    let parts = and_parts _ _ found.0 in
    let limits = and_parts _ _ parts.1 in
    let same = same_is bytes (listed_image (drop 9 bytes) turn) parts.0 ∙ ap (λ (m : List ℕ). listed_image m turn) found.1 in
    let short : length bytes ≤ 2 ^ 29 = leb-true _ _ limits.1 in
    let long : length bytes ≡ length mesh + 9 = ap (λ (l : List ℕ). length l) same ∙ length-listed mesh turn in
    (turn, leb-true _ _ limits.0, record { short = omega (arith, long, short) }, same)

-- the spelling
abbrev pub listed : Format
listed = record {
  Mesh = List ℕ;
  Fault = Unit {0};
  Fits = FitsListed;
  image = listed_image;
  read = read_listed;
  turned = λ mesh turn fits few. turn_at mesh turn;
  some = λ mesh turn fits few. listed_some mesh turn;
  limit = λ mesh turn fits few. listed_limit mesh turn fits;
  back = listed_back;
  exact = listed_exact;
}
