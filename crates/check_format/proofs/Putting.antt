-- Bytes that are put at the front of a buffer, one after the other.
use borrow.Rule.Slice.PartMut.{mid_of, post_of, put_mid}
use Rattle.std.proofs.Common.{◌≡◌, ℕ, suc, ◌+◌, ◌-◌, ◌*◌, ◌<◌, ◌≤◌, List, [], ◌∷◌, ◌++◌, length, take, drop, refl, sym, ap, ap₂, subst, ◌∙◌, arith, append_assoc, append-nil, length-append, take_all}
use Rattle.std.proofs.Math.Seq.{drop-append_seam}
use Rattle.std.proofs.lemmas.List.{drop-drop, drop_all, length-drop, take_at}
use Rattle.std.proofs.lemmas.Grind.{flat_map-append}
use Rattle.std.specs.Prelude.{flat_map}
use Rattle.std.specs.List.{range_with_len}
use Rattle.block_tree.proofs.ByNumber.{range_apart}
use Rattle.std.proofs.Common.{get_or, inl, inr, map, min}
use Rattle.std.proofs.Math.Seq.{take-suc}
use Rattle.std.proofs.lemmas.List.{length-map, length-take-le, map-append}
use Rattle.std.proofs.lemmas.Bool.{cases_lt, lt-ltb, le-ltb}
use Rattle.amr_num.specs.declared.Axis.{Axis}
use Rattle.amr_num.specs.declared.Axis.TheVariants.{Y, Z}
use Rattle.mesh_model.specs.declared.fields.values.Group.{Group}
use Rattle.mesh_model.specs.Tree.Kinds.{Grid}
use Rattle.check_format.specs.Written.{Numbers, many, part_length, row_part, row_piece}
use Rattle.check_format.specs.Numbered.{IsPut}

-- a buffer is as long as before
pub put_length : (bytes : List ℕ) (n : ℕ) (old new : List ℕ) → IsPut bytes n old new → n ≤ length old → length new ≡ length old
put_length bytes n old new put few =
    let many = put.many in
    let rest = length-drop (length bytes) old in
    ap length put.front ∙ length-append bytes (drop (length bytes) old) ∙ omega (arith, rest, many)

pub put_front : (bytes : List ℕ) (n : ℕ) (old new : List ℕ) → IsPut bytes n old new → take n new ≡ bytes
put_front bytes n old new put = ap (take n) put.front ∙ take_at bytes (drop (length bytes) old) n (sym put.many)

put_back : (bytes : List ℕ) (n : ℕ) (old new : List ℕ) → IsPut bytes n old new → drop n new ≡ drop n old
put_back bytes n old new put =
    ap₂ drop put.many put.front ∙ drop-append_seam bytes (drop (length bytes) old) ∙ ap (λ k. drop k old) (sym put.many)

-- other bytes behind those that stand there
pub put_two : (a b : List ℕ) (n k : ℕ) (old mid sub : List ℕ) → IsPut a n old mid → n ≤ length mid → IsPut b k (mid_of n (length mid - n) mid) sub → k ≤ length mid - n
    → IsPut (a ++ b) (n + k) old (put_mid n (length mid - n) mid sub)
put_two a b n k old mid sub one room two few =
    let left = length-drop n mid in
    let tail : mid_of n (length mid - n) mid ≡ drop n mid = take_all (length mid - n) (drop n mid) (omega (arith, left)) in
    let here : IsPut b k (drop n mid) sub = subst (λ u. IsPut b k u sub) tail two in
    let long : length sub ≡ length (drop n mid) = put_length b k (drop n mid) sub here (omega (arith, left)) in
    let none : post_of n (length mid - n) mid ≡ [] = drop_all (length mid - n) (drop n mid) (omega (arith, left)) in
    let all : put_mid n (length mid - n) mid sub ≡ take n mid ++ sub = ap (λ u. take n mid ++ (sub ++ u)) none ∙ ap (λ u. take n mid ++ u) (append-nil sub) in
    let a_many = one.many in
    let b_many = two.many in
    let rest : drop (length b) (drop n mid) ≡ drop (length (a ++ b)) old =
    ap (drop (length b)) (put_back a n old mid one) ∙ drop-drop (length b) n old ∙ ap (λ u. drop u old) (let l = length-append a b in omega (arith, l, a_many)) in
    record {
      many = let l = length-append a b in omega (arith, l, a_many, b_many);
      front = all ∙ ap₂ (λ u w. u ++ w) (put_front a n old mid one) (here.front ∙ ap (λ u. b ++ u) rest) ∙ sym (append_assoc a b (drop (length (a ++ b)) old));
    }

-- one more of some numbered ones
pub one_more : (f : ℕ → List ℕ) (s i : ℕ) → s ≤ i → flat_map f (range_with_len s (i + 1 - s)) ≡ flat_map f (range_with_len s (i - s)) ++ f i
one_more f s i from =
    let next : i + 1 - s ≡ i - s + 1 = omega arith in
    let here : s + (i - s) ≡ i = omega arith in
    ap (λ n. flat_map f (range_with_len s n)) next
    ∙ ap (flat_map f) (range_apart s (i - s) 1)
    ∙ flat_map-append f (range_with_len s (i - s)) (range_with_len (s + (i - s)) 1)
    ∙ ap (λ u. flat_map f (range_with_len s (i - s)) ++ u) (append-nil (f (s + (i - s))) ∙ ap f here)

-- a part of a row ends five places on, or where the row does
pub part_is : (size part i end : ℕ) → end ≡ min size (5 * part + 5) → end ≤ i → i ≤ end → i - 5 * part ≡ part_length size part
part_is size part i end is past near = elim (cases_lt (5 * part + 5) size) [
  | inl more ↦ rw (lt-ltb (5 * part + 5) size more) (omega (arith, is, past, near, more))
  | inr less ↦ rw (le-ltb (5 * part + 5) size less) (omega (arith, is, past, near, less))
]

-- where the row ends before, there is none
pub no_part : (f : ℕ → List ℕ) (size part : ℕ) (old : List ℕ) → size ≤ 5 * part → IsPut (flat_map f (range_with_len (5 * part) (part_length size part))) 0 old old
no_part f size part old h =
    let none : part_length size part ≡ 0 = rw (le-ltb (5 * part + 5) size (omega arith)) (omega (arith, h)) in
    subst (λ n. IsPut (flat_map f (range_with_len (5 * part) n)) 0 old old) (sym none) (record { many = refl; front = refl })

-- a row that is there has its parts
pub row_there : (g : Grid) (number : Numbers) (group : Group) (node : ℕ) (a : Axis) (k j part : ℕ) (n : ℕ) (old new : List ℕ) → j < many g group a Y → k < many g group a Z
    → IsPut (row_part g number group node a k j part) n old new → IsPut (row_piece g number group node a k j part) n old new
row_there g number group node a k j part n old new y z put = rw (lt-ltb j (many g group a Y) y, lt-ltb k (many g group a Z) z) put

-- one more of a list
pub map_next : {A B : Type 0} (f : A → B) (xs : List A) (i : ℕ) (d : A) → i < length xs → map f (take i xs) ++ f (get_or xs i d) ∷ [] ≡ map f (take (i + 1) xs)
map_next f xs i d h =
    let next : suc i ≡ i + 1 = omega arith in
    sym (map-append f (take i xs) (get_or xs i d ∷ [])) ∙ ap (map f) (sym (take-suc xs i d h)) ∙ ap (λ n. map f (take n xs)) next

pub map_many : {A B : Type 0} (f : A → B) (xs : List A) (i : ℕ) → i ≤ length xs → length (map f (take i xs)) ≡ i
map_many f xs i h = length-map (take i xs) f ∙ length-take-le i xs h
