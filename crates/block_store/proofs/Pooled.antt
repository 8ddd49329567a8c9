-- Pools, and what their calls make of them.
use Rattle.std.proofs.Common.{◌≡◌, ◌≢◌, ℕ, zero, suc, ◌+◌, ◌-◌, ◌<◌, ◌≤◌, ◌^◌, Bool, true, false, not, cond, List, [], ◌∷◌, ◌++◌, length, take, get_or, set, replicate, ℤ, pos, refl, sym, ap, subst, ◌∙◌, arith, inl, inr}
use Rattle.std.specs.List.{count_by, sum_by}
use Rattle.std.proofs.lemmas.Bool.{cases_lt, cases_order}
use Rattle.std.proofs.lemmas.List.{get_or-append_right, get_or-replicate, get_or-set_other, get_or-set_same, get_or_append_left, get_or_past, length-append, length-replicate, length-set, take_all}
use Rattle.std.proofs.lemmas.List.Sums.{count_by-le-length, count_by_more_no, sum_by-append, sum_by-set}
use Rattle.mesh_model.specs.declared.fields.values.Var.{Var}
use Rattle.mesh_model.specs.Fields.Arrays.{Arrays, Counts, HasArray, HasVar, array_count, array_in, array_number, block_in, var_length, with_array}
use Rattle.mesh_model.specs.Fields.ArrayPlaces.{IsSize}
use Rattle.mesh_model.proofs.FieldLemmas.BlockArrays.{array_elsewhere, lengths_stay, some_places, there}
use Rattle.block_store.specs.Held.{IsClearedBelow, pick}
use Rattle.block_store.specs.Making.{AreZeroBlocks}
use Rattle.block_store.specs.Pools.{IsGivenBack, IsPool, IsTaken, KeepsArrays, no_arrays}
use Rattle.block_store.proofs.Hand.{block_put}
use Rattle.block_store.proofs.Lengths.{number_below}

-- ---- slots

pub held_inside : (held : List Bool) (slot : ℕ) → get_or held slot false ≡ true → slot < length held
held_inside held slot h = elim (cases_lt slot (length held)) [
  | inl within ↦ within
  | inr past ↦ absurd (let none = get_or_past held slot false past in let bad : false ≡ true = sym none ∙ h in cc)
]

none_below : (held : List Bool) → ((k : ℕ) → k < length held → get_or held k false ≡ true) → (i : ℕ) → i ≤ length held → count_by not (take i held) ≡ 0
none_below held all zero h = refl
none_below held all (suc i) h =
    let less : i < length held = omega arith in
    let more : suc i ≡ i + 1 = omega arith in
    ap (λ m. count_by not (take m held)) more ∙ count_by_more_no not held i false less (ap not (all i less)) ∙ none_below held all i (omega arith)

-- where all slots are taken none is free
pub none_free : (held : List Bool) → ((k : ℕ) → k < length held → get_or held k false ≡ true) → count_by not held ≡ 0
none_free held all = ap (count_by not) (sym (take_all (length held) held (omega arith))) ∙ none_below held all (length held) (omega arith)

-- one slot fewer is free where one is taken, and one more where one is given back
pub one_taken : (held : List Bool) (slot : ℕ) → slot < length held → get_or held slot false ≡ false → count_by not held ≡ count_by not (set held slot true) + 1
one_taken held slot h free =
    let count : count_by not (set held slot true) + cond (not (get_or held slot false)) 1 0 ≡ count_by not held + 0 =
    sum_by-set (λ b. cond (not b) 1 0) held slot true false h in
    let here : count_by not (set held slot true) + 1 ≡ count_by not held + 0 =
    ap (λ b. count_by not (set held slot true) + cond (not b) 1 0) (sym free) ∙ count in
    omega arith

pub one_given : (held : List Bool) (slot : ℕ) → slot < length held → get_or held slot false ≡ true → count_by not (set held slot false) ≡ count_by not held + 1
one_given held slot h taken =
    let count : count_by not (set held slot false) + cond (not (get_or held slot false)) 1 0 ≡ count_by not held + 1 =
    sum_by-set (λ b. cond (not b) 1 0) held slot false false h in
    let here : count_by not (set held slot false) + 0 ≡ count_by not held + 1 =
    ap (λ b. count_by not (set held slot false) + cond (not b) 1 0) (sym taken) ∙ count in
    omega arith

pub count_free : (held : List Bool) (more : ℕ) → count_by not (held ++ replicate more false) ≡ count_by not held + more
count_free held more = sum_by-append (λ b. cond (not b) 1 0) held (replicate more false) ∙ ap (λ m. count_by not held + m) (all more)
  where
    all : (m : ℕ) → count_by not (replicate m false) ≡ m
    all zero = refl
    all (suc m) =
        let rest : sum_by (λ b. cond (not b) 1 0) ((false ∷ []) ++ replicate m false) ≡ 1 + count_by not (replicate m false) = sum_by-append (λ b. cond (not b) 1 0) (false ∷ []) (replicate m false) in
        rest ∙ ap (λ k. 1 + k) (all m) ∙ omega arith

-- slots that are added are free
free_beyond : (held : List Bool) (more slot : ℕ) → length held ≤ slot → get_or (held ++ replicate more false) slot false ≡ false
free_beyond held more slot h =
    get_or-append_right held (replicate more false) (length held) slot false refl h
    ∙ elim (cases_lt (slot - length held) more) [
      | inl less ↦ get_or-replicate more (slot - length held) false false less
      | inr past ↦ get_or_past (replicate more false) (slot - length held) false (omega (arith, length-replicate more false))
    ]

-- ---- arrays

-- an array that there is, in another name of the arrays
pub has_there : (inside now : Arrays) (var : Var) (slot : ℕ) → inside ≡ now → HasArray now var slot → HasArray inside var slot
has_there inside now var slot same has = subst (λ a. HasArray a var slot) (sym same) has

module _ (n g : ℕ) (a : Arrays) (free from : ℕ) (is : IsPool n g a free from) where
  pub pool_length : (var : Var) (slot : ℕ) → HasArray a var slot → length (array_in a var slot) ≡ var_length n g var
  pool_length var slot has = is.whole var slot has.declared (held_inside a.held slot has.held)

  pub pool_there : (var : Var) (slot : ℕ) → HasArray a var slot → (slot < length a.blocks) × (array_number var < length (block_in a.blocks slot))
  pool_there var slot has = there a var slot (subst (λ m. 0 < m) (sym (pool_length var slot has)) (some_places n g var is.size))

  -- an array that is taken may be written
  pub pool_lent : (var : Var) (slot : ℕ) (w : List ℤ) → HasArray a var slot → IsPool n g (with_array a var slot w) free from
  unfolding with_array
  pool_lent var slot w has =
      let at = pool_there var slot has in
      let stay = lengths_stay a var slot w at.0 at.1 in
      record {
        size = is.size;
        slots = length-set a.blocks slot _ ∙ is.slots;
        few = is.few;
        rooms = λ s h. block_put a.blocks slot (array_number var) s _ ∙ is.rooms s h;
        whole = λ u s declared h. stay u s ∙ is.whole u s declared h;
        zero = λ s h off u declared. array_elsewhere a var slot w u s (λ e same. absurd (let bad : false ≡ true = sym off ∙ ap (λ k. get_or a.held k false) same ∙ has.held in cc)) ∙ is.zero s h off u declared;
        spare = is.spare;
        first = is.first;
      }

-- what holds of the first four places holds of each
pub each_of_four : (P : ℕ → Type 0) → P 0 → P 1 → P 2 → P 3 → (k : ℕ) → k < 4 → P k
each_of_four P a b c d zero h = a
each_of_four P a b c d (suc zero) h = b
each_of_four P a b c d (suc (suc zero)) h = c
each_of_four P a b c d (suc (suc (suc zero))) h = d
each_of_four P a b c d (suc (suc (suc (suc k)))) h = absurd (omega arith)

-- ---- slots that are taken and given back

module _ (n g : ℕ) (counts : Counts) (held : List Bool) (blocks : List (List (List ℤ))) (free from slot : ℕ) where
  abbrev old : Arrays
  old = record { counts = counts; held = held; blocks = blocks }

  abbrev taken : Arrays
  taken = record { counts = counts; held = set held slot true; blocks = blocks }

  module _ (is : IsPool n g old free from) (inside : slot < length held) (off : get_or held slot false ≡ false) where
    pub slot_taken : IsTaken n g old taken slot
    unfolding array_in
    slot_taken = record {
      free = λ h. absurd (let bad : false ≡ true = sym off ∙ h in cc);
      held = get_or-set_same held slot true false inside;
      zero = λ var declared. is.zero slot inside off var declared;
      others = record {
        counts = refl;
        held = λ at ne. let other = get_or-set_other held slot at true false ne in (λ h. sym other ∙ h, λ h. other ∙ h);
        arrays = λ var at ne h. refl;
      };
      spare = one_taken held slot inside off;
    }

    pub pool_taken : (left : ℕ) → free ≡ left + 1 → ((s : ℕ) → s < slot → get_or held s false ≡ true) → IsPool n g taken left (slot + 1)
    unfolding array_in
    pool_taken left e before =
        let long = length-set held slot true in
        record {
          size = is.size;
          slots = is.slots ∙ sym long;
          few = subst (λ m. m < 2 ^ 32) (sym long) is.few;
          rooms = λ s h. is.rooms s (subst (λ m. s < m) long h);
          whole = λ var s declared h. is.whole var s declared (subst (λ m. s < m) long h);
          zero = λ s h free_still.
              let other : s ≢ slot = λ same. absurd (
              let here : get_or (set held slot true) s false ≡ true = ap (λ k. get_or (set held slot true) k false) same ∙ get_or-set_same held slot true false inside in
              let bad : true ≡ false = sym here ∙ free_still in
              cc) in
              is.zero s (subst (λ m. s < m) long h) (sym (get_or-set_other held slot s true false other) ∙ free_still);
          spare = let count = one_taken held slot inside off in let all = is.spare in omega arith;
          first = λ s h. elim (cases_lt s slot) [
            | inl less ↦ get_or-set_other held slot s true false (omega arith) ∙ before s less
            | inr last ↦ (let same : s ≡ slot = omega arith in ap (λ k. get_or (set held slot true) k false) same ∙ get_or-set_same held slot true false inside)
          ];
        }

  module _ (is : IsPool n g old free from) (on : get_or held slot false ≡ true) (cleared : List (List (List ℤ))) (done : IsClearedBelow (array_count counts) blocks cleared slot) where
    abbrev given : Arrays
    given = record { counts = counts; held = set held slot false; blocks = cleared }

    pub slot_given : IsGivenBack old given slot
    unfolding array_in
    slot_given =
        let inside = held_inside held slot on in
        record {
          free = λ h. absurd (let bad : false ≡ true = sym (get_or-set_same held slot false false inside) ∙ h in cc);
          others = record {
            counts = refl;
            held = λ at ne. let other = get_or-set_other held slot at false false ne in (λ h. sym other ∙ h, λ h. other ∙ h);
            arrays = λ var at ne h. done.others at (array_number var) ne;
          };
          spare = one_given held slot inside on;
        }

    pub one_more_fits : free + 1 < 2 ^ 32
    one_more_fits =
        let count = one_given held slot (held_inside held slot on) on in
        let most = count_by-le-length not (set held slot false) in
        let long = length-set held slot false in
        let few = is.few in
        let all = is.spare in
        omega arith

    -- each array of the slot is zeros
    now_zero : (var : Var) → HasVar counts var → pick cleared slot (array_number var) ≡ replicate (var_length n g var) (pos 0)
    unfolding array_in
    now_zero var declared =
        done.zero (array_number var) (number_below counts var declared) ∙ ap (λ m. replicate m (pos 0)) (is.whole var slot declared (held_inside held slot on))

    at_slot : (s : ℕ) (P : ℕ → Type 0) → (s ≡ slot → P s) → (s ≢ slot → P s) → P s
    at_slot s P same other = elim (cases_order s slot) [
      | inl e ↦ same e
      | inr (inl less) ↦ other (λ e. absurd (omega arith))
      | inr (inr more) ↦ other (λ e. absurd (omega arith))
    ]

    pub pool_given : (begin : ℕ) → begin ≤ from → begin ≤ slot → IsPool n g given (free + 1) begin
    unfolding array_in
    pool_given begin low lower =
        let inside = held_inside held slot on in
        let long = length-set held slot false in
        record {
          size = is.size;
          slots = done.slots ∙ is.slots ∙ sym long;
          few = subst (λ m. m < 2 ^ 32) (sym long) is.few;
          rooms = λ s h. done.arrays s ∙ is.rooms s (subst (λ m. s < m) long h);
          whole = λ var s declared h.
              at_slot s (λ t. length (pick cleared t (array_number var)) ≡ var_length n g var)
              (λ same. ap (λ t. length (pick cleared t (array_number var))) same ∙ ap length (now_zero var declared) ∙ length-replicate (var_length n g var) (pos 0))
              (λ ne. ap length (done.others s (array_number var) ne) ∙ is.whole var s declared (subst (λ m. s < m) long h));
          zero = λ s h free_now var declared.
              at_slot s (λ t. pick cleared t (array_number var) ≡ replicate (var_length n g var) (pos 0))
              (λ same. ap (λ t. pick cleared t (array_number var)) same ∙ now_zero var declared)
              (λ ne. done.others s (array_number var) ne ∙ is.zero s (subst (λ m. s < m) long h) (sym (get_or-set_other held slot s false false ne) ∙ free_now) var declared);
          spare = let count = one_given held slot inside on in let all = is.spare in omega arith;
          first = λ s h. get_or-set_other held slot s false false (omega arith) ∙ is.first s (omega arith);
        }

-- ---- slots that are added

module _ (n g : ℕ) (counts : Counts) (held : List Bool) (blocks fresh : List (List (List ℤ))) (free from more : ℕ) where
  abbrev before : Arrays
  before = record { counts = counts; held = held; blocks = blocks }

  abbrev grown : Arrays
  grown = record { counts = counts; held = held ++ replicate more false; blocks = blocks ++ fresh }

  module _ (is : IsPool n g before free from) (zeros : AreZeroBlocks n g counts more fresh) where
    held_before : (s : ℕ) → s < length held → get_or (held ++ replicate more false) s false ≡ get_or held s false
    held_before s h = get_or_append_left held (replicate more false) false s h

    block_before : (s : ℕ) → s < length held → block_in (blocks ++ fresh) s ≡ block_in blocks s
    block_before s h = get_or_append_left blocks fresh [] s (let slots = is.slots in omega arith)

    long : length (held ++ replicate more false) ≡ length held + more
    long = length-append held (replicate more false) ∙ ap (λ m. length held + m) (length-replicate more false)

    block_after : (s : ℕ) → length held ≤ s → s < length held + more → (block_in (blocks ++ fresh) s ≡ block_in fresh (s - length held)) × (s - length held < more)
    block_after s low high = (get_or-append_right blocks fresh (length held) s [] is.slots low, omega arith)

    pub keeps : KeepsArrays before grown
    unfolding array_in
    keeps = record {
      counts = refl;
      held = λ s. (
        λ h. elim (cases_lt s (length held)) [
          | inl inside ↦ sym (held_before s inside) ∙ h
          | inr past ↦ absurd (let bad : false ≡ true = sym (free_beyond held more s past) ∙ h in cc)
        ],
        λ h. held_before s (held_inside held s h) ∙ h,
      );
      arrays = λ var s h. ap (λ b. get_or b (array_number var) []) (block_before s (held_inside held s h));
    }

    pub pool_grown : length held + more < 2 ^ 32 → IsPool n g grown (free + more) from
    unfolding array_in
    pool_grown few = record {
      size = is.size;
      slots = length-append blocks fresh ∙ ap (λ m. m + length fresh) is.slots ∙ ap (λ m. length held + m) zeros.size ∙ sym long;
      few = subst (λ m. m < 2 ^ 32) (sym long) few;
      rooms = λ s h. elim (cases_lt s (length held)) [
        | inl inside ↦ ap length (block_before s inside) ∙ is.rooms s inside
        | inr past ↦ (let at = block_after s past (omega (arith, long)) in ap length at.0 ∙ (zeros.each _ at.1).size)
      ];
      whole = λ var s declared h. elim (cases_lt s (length held)) [
        | inl inside ↦ ap (λ b. length (get_or b (array_number var) [])) (block_before s inside) ∙ is.whole var s declared inside
        | inr past ↦ (
            let at = block_after s past (omega (arith, long)) in
            ap (λ b. length (get_or b (array_number var) [])) at.0 ∙ ap length ((zeros.each _ at.1).each var declared) ∙ length-replicate (var_length n g var) (pos 0))
      ];
      zero = λ s h off var declared. elim (cases_lt s (length held)) [
        | inl inside ↦ ap (λ b. get_or b (array_number var) []) (block_before s inside) ∙ is.zero s inside (sym (held_before s inside) ∙ off) var declared
        | inr past ↦ (let at = block_after s past (omega (arith, long)) in ap (λ b. get_or b (array_number var) []) at.0 ∙ (zeros.each _ at.1).each var declared)
      ];
      spare = ap (λ m. m + more) is.spare ∙ sym (count_free held more);
      first = λ s h. held_before s (held_inside held s (is.first s h)) ∙ is.first s h;
    }

pub pool_empty : (n g : ℕ) (counts : Counts) → IsSize n g → IsPool n g (no_arrays counts) 0 0
pool_empty n g counts size = record {
  size = size;
  slots = refl;
  few = omega arith;
  rooms = λ s h. absurd (omega arith);
  whole = λ var s declared h. absurd (omega arith);
  zero = λ s h. absurd (omega arith);
  spare = refl;
  first = λ s h. absurd (omega arith);
}
