-- The laws of codecs, each field's once.
use Rattle.std.proofs.Common.{◌≡◌, ℕ, zero, suc, ◌+◌, ◌*◌, ◌/◌, ◌%◌, ◌^◌, ◌<◌, ◌≤◌, ◌==◌, Bool, true, false, cond, List, [], ◌∷◌, ◌++◌, length, get_or, take, drop, flat_map, Option, Some, None, refl, sym, ap, subst, ◌∙◌, append_assoc, arith, inl, inr}
use Rattle.std.specs.Prelude.{nat_lt, if◌then◌else◌}
use Rattle.std.specs.Int.{byte_at, bytes_low_first}
use Rattle.std.proofs.lemmas.Bool.{cases_Bool, ltb-false, le-ltb, eqb-true, eq-eqb}
use Rattle.std.proofs.lemmas.List.{drop_at, take-append-drop, length-append, get_or-append-add}
use Rattle.byteorder.specs.Endian.{little_bytes, little_number, little_from}
use Rattle.std.proofs.Math.Nat.{div-div-eq-div-mul, div-one, pow-suc}
use Rattle.byteorder.specs.Numbers.{little_number-reads_back, little_from-lt, length-bytes_low_first, little_from-cons}
use Rattle.mesh_model.specs.Images.Codec.{Codec, Exact, IsBytes, ◌>>=◌, read_byte, byte_where, read_text, text, number, followed, ThenFits, where_passes, PassFits, via, read_times, times, TimesFits}

pub rest_bytes : (xs ys bytes : List ℕ) → bytes ≡ xs ++ ys → IsBytes bytes → IsBytes ys
rest_bytes xs ys bytes e h i = subst (λ n. n < 256) (ap (λ bs. get_or bs (length xs + i) 0) e ∙ get_or-append-add xs ys i 0) (h (length xs + i))

-- the value of a step that did not fail
pub bind_some : {A B : Type 0} (r : Option A) (f : A → Option B) (y : B) → (r >>= f) ≡ Some y → (x : A) × (r ≡ Some x) × (f x ≡ Some y)
bind_some (Some x) f y e = (x, refl, e)
bind_some None f y e = absurd cc

pub bind_none : {A B : Type 0} (r : Option A) (f : A → Option B) (x : A) → r ≡ Some x → (r >>= f) ≡ f x
bind_none r f x e = ap (λ u. u >>= f) e

pub passed : {A : Type 0} (b : Bool) (x y : A) → cond b (Some x) None ≡ Some y → (b ≡ true) × (x ≡ y)
passed true x y e = (refl, cc)
passed false x y e = absurd cc

pub some_is : {A : Type 0} (x y : A) (e : Some x ≡ Some y) → x ≡ y
some_is x y e = cc

joined : (bytes a b u v : List ℕ) → bytes ≡ a ++ u → u ≡ b ++ v → bytes ≡ (a ++ b) ++ v
joined bytes a b u v e f = e ∙ ap (λ w. a ++ w) f ∙ sym (append_assoc a b v)

-- ---- one byte

byte_spelled : (test : ℕ → Bool) (bytes : List ℕ) (a : ℕ) (rest : List ℕ) → read_byte test bytes ≡ Some (a, rest) → (bytes ≡ a ∷ rest) × (test a ≡ true)
byte_spelled test [] a rest e = absurd cc
byte_spelled test (b ∷ bytes) a rest e =
    let p = passed (test b) (b, bytes) (a, rest) e in
    let same : b ≡ a = ap (λ (q : ℕ × List ℕ). q.0) p.1 in
    let left : bytes ≡ rest = ap (λ (q : ℕ × List ℕ). q.1) p.1 in
    (λ i. same i ∷ left i, subst (λ u. test u ≡ true) same p.0)

pub byte_exact : (test : ℕ → Bool) → Exact ℕ (byte_where test) (λ b. test b ≡ true)
byte_exact test = record {
  spelled = λ bytes a rest h e. byte_spelled test bytes a rest e;
  again = λ a rest fits. ap (λ u. if u then Some (a, rest) else None) fits;
}

-- ---- a text

text_spelled : (ts bytes rest : List ℕ) → read_text ts bytes ≡ Some (tt, rest) → bytes ≡ ts ++ rest
text_spelled [] bytes rest e = ap (λ (q : Unit {0} × List ℕ). q.1) (some_is _ _ e)
text_spelled (t ∷ ts) [] rest e = absurd cc
text_spelled (t ∷ ts) (b ∷ bytes) rest e = elim (cases_Bool (b == t)) [
  | inl hit ↦
      let same = eqb-true b t hit in
      let left = text_spelled ts bytes rest (sym (ap (λ u. if u then read_text ts bytes else None) hit) ∙ e) in
      λ i. same i ∷ left i
  | inr miss ↦ let none = sym (ap (λ u. if u then read_text ts bytes else None) miss) ∙ e in absurd cc
]

text_again : (ts rest : List ℕ) → read_text ts (ts ++ rest) ≡ Some (tt, rest)
text_again [] rest = refl
text_again (t ∷ ts) rest = ap (λ u. if u then read_text ts (ts ++ rest) else None) (eq-eqb t t refl) ∙ text_again ts rest

pub text_exact : (ts : List ℕ) → Exact (Unit {0}) (text ts) (λ u. Unit {0})
text_exact ts = record {
  spelled = λ bytes a rest h e. (text_spelled ts bytes rest e, tt);
  again = λ a rest fits. text_again ts rest;
}

-- ---- numbers

pub guarded : {A : Type 0} (b : Bool) (x y : A) → cond b None (Some x) ≡ Some y → (b ≡ false) × (x ≡ y)
guarded true x y e = absurd cc
guarded false x y e = (refl, cc)

byte_at-pow : (k x : ℕ) → byte_at k x ≡ x / 256 ^ k % 256
byte_at-pow zero x = ap (λ y. y % 256) (sym (div-one x))
byte_at-pow (suc k) x = refl

low_byte : (q x r : ℕ) → q ≡ x + 256 * r → x < 256 → q % 256 ≡ x
low_byte q x r e h = omega arith

high_rest : (q x r : ℕ) → q ≡ x + 256 * r → x < 256 → q / 256 ≡ r
high_rest q x r e h = omega arith

-- the first n of some bytes are those of their number
front_bytes : (n j m : ℕ) (xs : List ℕ) → IsBytes xs → n ≤ length xs → m / 256 ^ j ≡ little_from 0 n xs → bytes_low_first j n m ≡ take n xs
front_bytes zero j m xs h le e = refl
front_bytes (suc n) j m [] h le e = absurd (omega arith)
front_bytes (suc n) j m (x ∷ xs) h le e =
    let parts : m / 256 ^ j ≡ x + 256 * little_from 0 n xs = e ∙ ap (λ u. x + 256 * u) (little_from-cons 0 n x xs) in
    let first : byte_at j m ≡ x = byte_at-pow j m ∙ low_byte (m / 256 ^ j) x (little_from 0 n xs) parts (h 0) in
    let shift : m / 256 ^ suc j ≡ m / 256 ^ j / 256 = ap (λ p. m / p) (pow-suc 256 j) ∙ sym (div-div-eq-div-mul m (256 ^ j) 256) in
    let others = front_bytes n (suc j) m xs (λ i. h (suc i)) (omega arith) (shift ∙ high_rest (m / 256 ^ j) x (little_from 0 n xs) parts (h 0)) in
    λ i. first i ∷ others i

number_spelled : (n : ℕ) (bytes : List ℕ) (a : ℕ) (rest : List ℕ) → IsBytes bytes → (number n).read bytes ≡ Some (a, rest) → (bytes ≡ little_bytes n a ++ rest) × (a < 256 ^ n)
number_spelled n bytes a rest h e =
    let g = guarded (nat_lt (length bytes) n) (little_number n bytes, drop n bytes) (a, rest) e in
    let long : n ≤ length bytes = ltb-false _ _ g.0 in
    let front = front_bytes n 0 (little_number n bytes) bytes h long (div-one (little_number n bytes)) in
    let made : ℕ × List ℕ = (little_number n bytes, drop n bytes) in
    subst (λ (y : ℕ × List ℕ). (bytes ≡ little_bytes n y.0 ++ y.1) × (y.0 < 256 ^ n)) g.1 (sym (ap (λ u. u ++ drop n bytes) front ∙ take-append-drop n bytes), little_from-lt 0 n bytes h)

number_again : (n a : ℕ) (rest : List ℕ) → a < 256 ^ n → (number n).read (little_bytes n a ++ rest) ≡ Some (a, rest)
number_again n a rest lt =
    let long : nat_lt (length (little_bytes n a ++ rest)) n ≡ false = le-ltb _ _ (omega (arith, length-append (little_bytes n a) rest, length-bytes_low_first 0 n a)) in
    ap (λ u. if u then None else Some (little_number n (little_bytes n a ++ rest), drop n (little_bytes n a ++ rest))) long
    ∙ (λ i. Some (little_number-reads_back n a rest lt i, drop_at (little_bytes n a) rest n (length-bytes_low_first 0 n a) i))

pub number_exact : (n : ℕ) → Exact ℕ (number n) (λ x. x < 256 ^ n)
number_exact n = record { spelled = number_spelled n; again = number_again n }

-- ---- one after the other

module _ (A B : Type 0) (c : Codec A) (P : A → Type 0) (exact : Exact A c P) (d : A → Codec B) (Q : A → B → Type 0) (next : (a : A) → P a → Exact B (d a) (Q a)) where
  then_spelled : (bytes : List ℕ) (p : A × B) (rest : List ℕ) → IsBytes bytes → (followed c d).read bytes ≡ Some (p, rest) → (bytes ≡ (followed c d).write p ++ rest) × ThenFits P Q p
  then_spelled bytes p rest h e =
      let one = bind_some (c.read bytes) (λ a. (d a.0).read a.1 >>= λ b. Some ((a.0, b.0), b.1)) (p, rest) e in
      let two = bind_some ((d one.0.0).read one.0.1) (λ b. Some ((one.0.0, b.0), b.1)) (p, rest) one.2 in
      let first = exact.spelled bytes one.0.0 one.0.1 h one.1 in
      let second = (next one.0.0 first.1).spelled one.0.1 two.0.0 two.0.1 (rest_bytes (c.write one.0.0) one.0.1 bytes first.0 h) two.1 in
      let whole : bytes ≡ (c.write one.0.0 ++ (d one.0.0).write two.0.0) ++ two.0.1 = joined bytes (c.write one.0.0) ((d one.0.0).write two.0.0) one.0.1 two.0.1 first.0 second.0 in
      let made : (A × B) × List ℕ = ((one.0.0, two.0.0), two.0.1) in
      subst (λ (y : (A × B) × List ℕ). (bytes ≡ (followed c d).write y.0 ++ y.1) × ThenFits P Q y.0) (some_is made (p, rest) two.2) (whole, (first.1, second.1))

  then_again : (p : A × B) (rest : List ℕ) → ThenFits P Q p → (followed c d).read ((followed c d).write p ++ rest) ≡ Some (p, rest)
  then_again p rest fits =
      let left : (c.write p.0 ++ (d p.0).write p.1) ++ rest ≡ c.write p.0 ++ ((d p.0).write p.1 ++ rest) = append_assoc (c.write p.0) ((d p.0).write p.1) rest in
      ap (followed c d).read left
      ∙ bind_none _ (λ (a : A × List ℕ). (d a.0).read a.1 >>= λ b. Some ((a.0, b.0), b.1)) (p.0, (d p.0).write p.1 ++ rest) (exact.again p.0 ((d p.0).write p.1 ++ rest) fits.0)
      ∙ bind_none _ (λ (b : B × List ℕ). Some ((p.0, b.0), b.1)) (p.1, rest) ((next p.0 fits.0).again p.1 rest fits.1)

  pub then_exact : Exact (A × B) (followed c d) (ThenFits P Q)
  then_exact = record { spelled = then_spelled; again = then_again }

-- ---- those that pass

module _ (A : Type 0) (c : Codec A) (P : A → Type 0) (exact : Exact A c P) (test : A → Bool) where
  pass_spelled : (bytes : List ℕ) (a : A) (rest : List ℕ) → IsBytes bytes → (where_passes test c).read bytes ≡ Some (a, rest) → (bytes ≡ c.write a ++ rest) × PassFits test P a
  pass_spelled bytes a rest h e =
      let one = bind_some (c.read bytes) (λ x. if test x.0 then Some x else None) (a, rest) e in
      let two = passed (test one.0.0) one.0 (a, rest) one.2 in
      let first = exact.spelled bytes one.0.0 one.0.1 h one.1 in
      subst (λ (y : A × List ℕ). (bytes ≡ c.write y.0 ++ y.1) × PassFits test P y.0) two.1 (first.0, (first.1, two.0))

  pub pass_exact : Exact A (where_passes test c) (PassFits test P)
  pass_exact = record {
    spelled = pass_spelled;
    again = λ a rest fits. bind_none _ (λ (x : A × List ℕ). if test x.0 then Some x else None) (a, rest) (exact.again a rest fits.0) ∙ ap (λ u. if u then Some (a, rest) else None) fits.1;
  }

-- ---- values of another type

module _ (A B : Type 0) (c : Codec A) (P : A → Type 0) (exact : Exact A c P) (to : A → B) (from : B → A) (Q : B → Type 0) (fits_to : (a : A) → P a → Q (to a) × (from (to a) ≡ a)) (fits_from : (b : B) → Q b → P (from b) × (to (from b) ≡ b)) where
  as_spelled : (bytes : List ℕ) (b : B) (rest : List ℕ) → IsBytes bytes → (via to from c).read bytes ≡ Some (b, rest) → (bytes ≡ c.write (from b) ++ rest) × Q b
  as_spelled bytes b rest h e =
      let one = bind_some (c.read bytes) (λ a. Some (to a.0, a.1)) (b, rest) e in
      let first = exact.spelled bytes one.0.0 one.0.1 h one.1 in
      let both = fits_to one.0.0 first.1 in
      let made : B × List ℕ = (to one.0.0, one.0.1) in
      subst (λ (y : B × List ℕ). (bytes ≡ c.write (from y.0) ++ y.1) × Q y.0) (some_is made (b, rest) one.2) (first.0 ∙ ap (λ u. c.write u ++ one.0.1) (sym both.1), both.0)

  pub as_exact : Exact B (via to from c) Q
  as_exact = record {
    spelled = as_spelled;
    again = λ b rest fits. let both = fits_from b fits in bind_none _ (λ (a : A × List ℕ). Some (to a.0, a.1)) (from b, rest) (exact.again (from b) rest both.0) ∙ ap (λ u. Some (u, rest)) both.1;
  }

-- ---- n of them

module _ (A : Type 0) (c : Codec A) (P : A → Type 0) (exact : Exact A c P) where
  times_spelled : (n : ℕ) (bytes : List ℕ) (xs : List A) (rest : List ℕ) → IsBytes bytes → read_times n c.read bytes ≡ Some (xs, rest) → (bytes ≡ flat_map c.write xs ++ rest) × TimesFits n P xs
  times_spelled zero bytes xs rest h e =
      let made : List A × List ℕ = ([], bytes) in
      subst (λ (y : List A × List ℕ). (bytes ≡ flat_map c.write y.0 ++ y.1) × TimesFits 0 P y.0) (some_is made (xs, rest) e) (refl, (refl, tt))
  times_spelled (suc n) bytes xs rest h e =
      let one = bind_some (c.read bytes) (λ first. read_times n c.read first.1 >>= λ others. Some (first.0 ∷ others.0, others.1)) (xs, rest) e in
      let two = bind_some (read_times n c.read one.0.1) (λ others. Some (one.0.0 ∷ others.0, others.1)) (xs, rest) one.2 in
      let first = exact.spelled bytes one.0.0 one.0.1 h one.1 in
      let second = times_spelled n one.0.1 two.0.0 two.0.1 (rest_bytes (c.write one.0.0) one.0.1 bytes first.0 h) two.1 in
      let whole : bytes ≡ (c.write one.0.0 ++ flat_map c.write two.0.0) ++ two.0.1 = joined bytes (c.write one.0.0) (flat_map c.write two.0.0) one.0.1 two.0.1 first.0 second.0 in
      let made : List A × List ℕ = (one.0.0 ∷ two.0.0, two.0.1) in
      subst (λ (y : List A × List ℕ). (bytes ≡ flat_map c.write y.0 ++ y.1) × TimesFits (suc n) P y.0) (some_is made (xs, rest) two.2) (whole, (ap suc second.1.0, (first.1, second.1.1)))

  times_again : (n : ℕ) (xs : List A) (rest : List ℕ) → TimesFits n P xs → read_times n c.read (flat_map c.write xs ++ rest) ≡ Some (xs, rest)
  times_again zero [] rest fits = refl
  times_again zero (x ∷ xs) rest fits = absurd (let e = fits.0 in omega arith)
  times_again (suc n) [] rest fits = absurd (let e = fits.0 in omega arith)
  times_again (suc n) (x ∷ xs) rest fits =
      let len : length xs ≡ n = let e = fits.0 in omega arith in
      let left : (c.write x ++ flat_map c.write xs) ++ rest ≡ c.write x ++ (flat_map c.write xs ++ rest) = append_assoc (c.write x) (flat_map c.write xs) rest in
      ap (read_times (suc n) c.read) left
      ∙ bind_none _ (λ (first : A × List ℕ). read_times n c.read first.1 >>= λ others. Some (first.0 ∷ others.0, others.1)) (x, flat_map c.write xs ++ rest) (exact.again x (flat_map c.write xs ++ rest) fits.1.0)
      ∙ bind_none _ (λ (others : List A × List ℕ). Some (x ∷ others.0, others.1)) (xs, rest) (times_again n xs rest (len, fits.1.1))

  pub times_exact : (n : ℕ) → Exact (List A) (times n c) (TimesFits n P)
  times_exact n = record { spelled = times_spelled n; again = times_again n }
