-- Arrays that change places with the hand.
use Rattle.std.proofs.Common.{◌≡◌, ℕ, ◌<◌, List, [], ◌++◌, length, take, drop, get_or, set, ℤ, sym, ap, ◌∙◌, subst, arith, inl, inr}
use Rattle.std.specs.Global.{Vec}
use Rattle.std.proofs.lemmas.Bool.{cases_lt, cases_order}
use Rattle.std.proofs.lemmas.List.{drop_all, get_or-map, get_or-set_other, get_or-set_same, length-set, map-set, set-get_or, set-set, set_past, take_at}
use Rattle.block_store.specs.Held.{AreExchanged, all_numbers, numbers, pick, put}
use Rattle.mesh_model.specs.Fields.Arrays.{block_in, refilled, with_block}

-- arrays of which one is exchanged
pub exchanged : (xs : List (Vec ℤ)) (n : ℕ) (v : Vec ℤ) → numbers (set xs n v) ≡ set (numbers xs) n v.items
exchanged xs n v = map-set (λ u. u.items) xs n v

-- the arrays of a slot
pub block_at : (xs : List (Vec (Vec ℤ))) (slot : ℕ) (b : Vec (Vec ℤ)) → slot < length xs → b ≡ get_or xs slot b → block_in (all_numbers xs) slot ≡ numbers b.items
block_at xs slot b h e = get_or-map (λ u. numbers u.items) xs slot b [] h ∙ ap (λ u. numbers u.items) (sym e)

pub put_in : (xs : List (Vec (Vec ℤ))) (slot n : ℕ) (b new : Vec (Vec ℤ)) (v : List ℤ) → slot < length xs → b ≡ get_or xs slot b →
    numbers new.items ≡ set (numbers (get_or xs slot b).items) n v → all_numbers (set xs slot new) ≡ put (all_numbers xs) slot n v
put_in xs slot n b new v h e is =
    map-set (λ u. numbers u.items) xs slot new
    ∙ ap (λ bs. set (all_numbers xs) slot bs) (is ∙ ap (λ bs. set bs n v) (sym (get_or-map (λ u. numbers u.items) xs slot b [] h)))

-- ---- blocks of numbers

-- what was put at a place is there
pub pick_put : (xs : List (List (List ℤ))) (slot n : ℕ) (v : List ℤ) → slot < length xs → n < length (block_in xs slot) → pick (put xs slot n v) slot n ≡ v
pick_put xs slot n v h l = ap (λ b. get_or b n []) (get_or-set_same xs slot (set (block_in xs slot) n v) [] h) ∙ get_or-set_same (block_in xs slot) n v [] l

pub block_put : (xs : List (List (List ℤ))) (slot n at : ℕ) (v : List ℤ) → length (block_in (put xs slot n v) at) ≡ length (block_in xs at)
block_put xs slot n at v =
    let after = set (block_in xs slot) n v in
    elim (cases_order at slot) [
      | inr (inl less) ↦ ap length (get_or-set_other xs slot at after [] (λ e. absurd (omega arith)))
      | inr (inr more) ↦ ap length (get_or-set_other xs slot at after [] (λ e. absurd (omega arith)))
      | inl same ↦ elim (cases_lt slot (length xs)) [
        | inr past ↦ ap (λ ys. length (block_in ys at)) (set_past xs slot after past)
        | inl within ↦ ap (λ i. length (block_in (put xs slot n v) i)) same ∙ ap length (get_or-set_same xs slot after [] within) ∙ length-set (block_in xs slot) n v ∙ ap (λ i. length (block_in xs i)) (sym same)
      ]
    ]

pub length_put : (xs : List (List (List ℤ))) (slot n : ℕ) (v : List ℤ) → length (put xs slot n v) ≡ length xs
length_put xs slot n v = length-set xs slot (set (block_in xs slot) n v)

-- another array is as it was
pub pick_other : (xs : List (List (List ℤ))) (slot n at m : ℕ) (v : List ℤ) → (at ≡ slot → m ≡ n → ⊥) → pick (put xs slot n v) at m ≡ pick xs at m
pick_other xs slot n at m v ne =
    let after = set (block_in xs slot) n v in
    elim (cases_order at slot) [
      | inr (inl less) ↦ ap (λ b. get_or b m []) (get_or-set_other xs slot at after [] (λ e. absurd (omega arith)))
      | inr (inr more) ↦ ap (λ b. get_or b m []) (get_or-set_other xs slot at after [] (λ e. absurd (omega arith)))
      | inl same ↦ elim (cases_lt slot (length xs)) [
        | inr past ↦ ap (λ ys. pick ys at m) (set_past xs slot after past)
        | inl within ↦
            ap (λ i. pick (put xs slot n v) i m) same ∙ ap (λ b. get_or b m []) (get_or-set_same xs slot after [] within)
            ∙ get_or-set_other (block_in xs slot) n m v [] (ne same) ∙ ap (λ i. pick xs i m) (sym same)
      ]
    ]

-- putting an array where it stands changes nothing, and what is put last stays
pub put_pick : (xs : List (List (List ℤ))) (slot n : ℕ) → put xs slot n (pick xs slot n) ≡ xs
put_pick xs slot n = ap (λ b. set xs slot b) (set-get_or (block_in xs slot) n []) ∙ set-get_or xs slot []

pub put_put : (xs : List (List (List ℤ))) (slot n : ℕ) (v w : List ℤ) → slot < length xs → put (put xs slot n v) slot n w ≡ put xs slot n w
put_put xs slot n v w h =
    let b = set (block_in xs slot) n v in
    set-set xs slot b (set (block_in (set xs slot b) slot) n w)
    ∙ ap (λ c. set xs slot (set c n w)) (get_or-set_same xs slot b [] h) ∙ ap (λ c. set xs slot c) (set-set (block_in xs slot) n v w)

-- the array in the hand is written
pub written : (xs now : List (List (List ℤ))) (slot n : ℕ) (h w : List ℤ) → slot < length xs → n < length (block_in xs slot) → put xs slot n h ≡ now →
    put xs slot n (refilled h w) ≡ with_block now slot n w
written xs now slot n h w within number e =
    ap (λ o. put xs slot n (refilled o w)) (sym (pick_put xs slot n h within number))
    ∙ sym (put_put xs slot n h (refilled (pick (put xs slot n h) slot n) w) within)
    ∙ ap (λ ys. put ys slot n (refilled (pick ys slot n) w)) e

-- a vector of which a slice was taken and given back has its numbers
pub given_back : {X : Type 0} (n : ℕ) (old new : List X) → n ≡ length old → length new ≡ length old → take n (new ++ drop (length new) old) ≡ new
given_back n old new e l = rw (drop_all (length new) old (omega arith)) (take_at new [] n (omega arith))

-- where an array is put, there are as many slots and arrays as before
pub slot_at : (xs now : List (List (List ℤ))) (slot n : ℕ) (h : List ℤ) → put xs slot n h ≡ now → (at : ℕ) → at < length now → at < length xs
slot_at xs now slot n h e at l = subst (λ m. at < m) (ap length (sym e) ∙ length_put xs slot n h) l

pub array_at : (xs now : List (List (List ℤ))) (slot n : ℕ) (h : List ℤ) → put xs slot n h ≡ now → (at m : ℕ) → m < length (block_in now at) → m < length (block_in xs at)
array_at xs now slot n h e at m l = subst (λ r. m < r) (ap (λ bs. length (block_in bs at)) (sym e) ∙ block_put xs slot n at h) l

-- the array in the hand, whose place is a, and that at the place b were exchanged
module _ (xs now : List (List (List ℤ))) (slot a b : ℕ) (h : List ℤ) (e : put xs slot a h ≡ now) (within : slot < length now) (on_a : a < length (block_in now slot)) (on_b : b < length (block_in now slot)) (apart : a ≡ b → ⊥) where
  pub exchanged_across : AreExchanged now (put (put xs slot b h) slot a (pick xs slot b)) slot a b
  exchanged_across =
      let there = put xs slot b h in
      let other = pick xs slot b in
      let inside = slot_at xs now slot a h e slot within in
      let a_there = array_at xs now slot a h e slot a on_a in
      let b_there = array_at xs now slot a h e slot b on_b in
      let in_there : slot < length there = subst (λ m. slot < m) (sym (length_put xs slot b h)) inside in
      let a_in_there : a < length (block_in there slot) = subst (λ m. a < m) (sym (block_put xs slot b slot h)) a_there in
      record {
        slots = length_put there slot a other ∙ length_put xs slot b h ∙ sym (length_put xs slot a h) ∙ ap length e;
        arrays = λ at. block_put there slot a at other ∙ block_put xs slot b at h ∙ sym (block_put xs slot a at h) ∙ ap (λ ys. length (block_in ys at)) e;
        first = pick_put there slot a other in_there a_in_there ∙ sym (pick_other xs slot a slot b h (λ s n. apart (sym n))) ∙ ap (λ ys. pick ys slot b) e;
        second = pick_other there slot a slot b other (λ s n. apart (sym n)) ∙ pick_put xs slot b h inside b_there ∙ sym (pick_put xs slot a h inside a_there) ∙ ap (λ ys. pick ys slot a) e;
        others = λ at m no_a no_b. pick_other there slot a at m other no_a ∙ pick_other xs slot b at m h no_b ∙ sym (pick_other xs slot a at m h no_a) ∙ ap (λ ys. pick ys at m) e;
      }
