-- Arrays by nodes, which stand in slots.
use Rattle.block_store.specs.declared.store.Beside.{Beside}
use Rattle.block_store.specs.PoolLends.{CanBeside, IsBeside, var_in}
use Rattle.std.proofs.Common.{◌≡◌, ◌≢◌, ℕ, ◌+◌, ◌<◌, true, false, List, [], ◌∷◌, ◌++◌, length, get_or, set, map, replicate, ℤ, pos, refl, sym, ap, subst, ◌∙◌, arith, inl, inr, below_more}
use Rattle.std.proofs.lemmas.Bool.{cases_lt, cases_order}
use Rattle.std.proofs.lemmas.List.{ext_get_or, get_or-map, get_or-replicate, get_or-set_other, get_or-set_same, get_or_append_left, get_or_past, get_or_push, length-map, length-replicate, length-set, length_push}
use Rattle.mesh_model.specs.declared.fields.values.Var.{Var}
use Rattle.mesh_model.specs.Fields.Arrays.{Arrays, Counts, HasArray, HasVar, IsHeld, array_in, array_number, block_in, refilled, var_length, with_array, with_block}
use Rattle.block_store.specs.Pools.{IsTaken, IsZero}
use Rattle.rank_world.specs.Slots.{AreSlots, AreTaken, by_node}
use Rattle.rank_world.specs.Starting.{IsNewRank}

-- a node that has arrays has a slot
pub node_inside : (pool : Arrays) (slots : List ℕ) (node : ℕ) → IsHeld (by_node pool slots) node → node < length slots
unfolding by_node
node_inside pool slots node h = elim (cases_lt node (length slots)) [
  | inl within ↦ within
  | inr past ↦ absurd (
      let none = get_or_past (replicate (length slots) true) node false (omega (arith, length-replicate (length slots) true)) in
      let bad : false ≡ true = sym none ∙ h in
      cc)
]

pub node_held : (pool : Arrays) (slots : List ℕ) (node : ℕ) → node < length slots → IsHeld (by_node pool slots) node
unfolding by_node
node_held pool slots node h = get_or-replicate (length slots) node true false h

pub by_node_counts : (pool : Arrays) (slots : List ℕ) → (by_node pool slots).counts ≡ pool.counts
unfolding by_node
by_node_counts pool slots = refl

-- its arrays are those of the slot
pub array_by_node : (pool : Arrays) (slots : List ℕ) (var : Var) (node : ℕ) → node < length slots → array_in (by_node pool slots) var node ≡ array_in pool var (get_or slots node 0)
unfolding by_node array_in
array_by_node pool slots var node h = ap (λ b. get_or b (array_number var) []) (get_or-map (block_in pool.blocks) slots node 0 [] h)

-- so they are there
pub has_slot : (pool : Arrays) (slots : List ℕ) (var : Var) (node : ℕ) → AreSlots pool slots → HasArray (by_node pool slots) var node → HasArray pool var (get_or slots node 0)
unfolding by_node
has_slot pool slots var node are has = record { declared = has.declared; held = are.held node (node_inside pool slots node has.held) }

-- ---- one array is written

pub slots_lent : (pool : Arrays) (slots : List ℕ) (var : Var) (slot : ℕ) (w : List ℤ) → AreSlots pool slots → AreSlots (with_array pool var slot w) slots
unfolding with_array
slots_lent pool slots var slot w are = record { held = are.held; apart = are.apart }

pub by_node_with : (pool : Arrays) (slots : List ℕ) (var : Var) (node : ℕ) (w : List ℤ) → AreSlots pool slots → node < length slots →
    by_node (with_array pool var (get_or slots node 0) w) slots ≡ with_array (by_node pool slots) var node w
unfolding by_node with_array
by_node_with pool slots var node w are h =
    let slot = get_or slots node 0 in
    let number = array_number var in
    let block = block_in pool.blocks slot in
    let new = set block number (refilled (get_or block number []) w) in
    let old = map (block_in pool.blocks) slots in
    let there : block_in old node ≡ block = get_or-map (block_in pool.blocks) slots node 0 [] h in
    let after = map (block_in (set pool.blocks slot new)) slots in
    let wanted = with_block old node number w in
    let wanted_is : wanted ≡ set old node new = ap (λ b. set old node (set b number (refilled (get_or b number []) w))) there in
    let size : length after ≡ length (set old node new) =
    length-map slots (block_in (set pool.blocks slot new)) ∙ sym (length-map slots (block_in pool.blocks)) ∙ sym (length-set old node new) in
    let here : block_in (set pool.blocks slot new) slot ≡ new = elim (cases_lt slot (length pool.blocks)) [
      | inl inside ↦ get_or-set_same pool.blocks slot new [] inside
      | inr past ↦
          get_or_past (set pool.blocks slot new) slot [] (omega (arith, length-set pool.blocks slot new))
          ∙ ap (λ b. set b number (refilled (get_or b number []) w)) (sym (get_or_past pool.blocks slot [] past))
    ] in
    let apart : (i : ℕ) → i < length slots → i ≢ node → block_in (set pool.blocks slot new) (get_or slots i 0) ≡ get_or (set old node new) i [] = λ i hi ne.
    get_or-set_other pool.blocks slot (get_or slots i 0) new [] (λ e. ne (are.apart i node hi h e))
    ∙ sym (get_or-map (block_in pool.blocks) slots i 0 [] hi) ∙ sym (get_or-set_other old node i new [] ne) in
    let same : after ≡ set old node new = ext_get_or [] after (set old node new) size (λ i hi.
    let inside : i < length slots = subst (λ m. i < m) (length-map slots (block_in (set pool.blocks slot new))) hi in
    get_or-map (block_in (set pool.blocks slot new)) slots i 0 [] inside
    ∙ elim (cases_order i node) [
      | inl e ↦
          ap (λ k. block_in (set pool.blocks slot new) (get_or slots k 0)) e ∙ here
          ∙ sym (get_or-set_same old node new [] (omega (arith, length-map slots (block_in pool.blocks)))) ∙ ap (λ k. get_or (set old node new) k []) (sym e)
      | inr (inl less) ↦ apart i inside (λ e. absurd (omega arith))
      | inr (inr more) ↦ apart i inside (λ e. absurd (omega arith))
    ]) in
    ap (λ (bs : List (List (List ℤ))). record { counts = pool.counts; held = replicate (length slots) true; blocks = bs }) (same ∙ sym wanted_is)

-- ---- arrays that are lent beside each other

module _ (pool : Arrays) (slots : List ℕ) (node slot : ℕ) (reads : List Var) (write : Var) (are : AreSlots pool slots) (is : slot ≡ get_or slots node 0) (within : node < length slots) where
  pub may_beside : CanBeside (by_node pool slots) node reads write → CanBeside pool slot reads write
  may_beside may = record {
    readable = λ k h. subst (HasArray pool (var_in reads k)) (sym is) (has_slot pool slots (var_in reads k) node are (may.readable k h));
    writable = subst (HasArray pool write) (sym is) (has_slot pool slots write node are may.writable);
    apart = may.apart;
  }

  same_array : (var : Var) → array_in pool var slot ≡ array_in (by_node pool slots) var node
  same_array var = ap (array_in pool var) is ∙ sym (array_by_node pool slots var node within)

  pub beside_by_node : (n g : ℕ) (lent : Beside) → IsBeside n g pool slot reads write lent → IsBeside n g (by_node pool slots) node reads write lent
  beside_by_node n g lent beside = record {
    gives_a = beside.gives_a ∙ same_array (var_in reads 0);
    gives_b = beside.gives_b ∙ same_array (var_in reads 1);
    gives_c = beside.gives_c ∙ same_array (var_in reads 2);
    gives_d = beside.gives_d ∙ same_array (var_in reads 3);
    gives_out = beside.gives_out ∙ same_array write;
    sizes = λ k h. ap length (sym (same_array (var_in reads k))) ∙ beside.sizes k h;
    whole = beside.whole;
  }

-- ---- slots that are taken

pub none_taken : (n g : ℕ) (pool : Arrays) → AreTaken n g pool pool 0 []
none_taken n g pool = record {
  size = refl;
  counts = refl;
  spare = omega arith;
  slots = record { held = λ node h. absurd (omega arith); apart = λ a b h l e. absurd (omega arith) };
  zero = λ node h. absurd (omega arith);
}

pub one_taken : (n g : ℕ) (old now new : Arrays) (count slot : ℕ) (chosen : List ℕ) → AreTaken n g old now count chosen → IsTaken n g now new slot → AreTaken n g old new (count + 1) (chosen ++ slot ∷ [])
one_taken n g old now new count slot chosen so_far taken =
    let before : (node : ℕ) → node < length chosen → get_or (chosen ++ slot ∷ []) node 0 ≡ get_or chosen node 0 = λ node h. get_or_append_left chosen (slot ∷ []) 0 node h in
    let last : get_or (chosen ++ slot ∷ []) (length chosen) 0 ≡ slot = get_or_push chosen slot 0 (length chosen) refl in
    let long : length (chosen ++ slot ∷ []) ≡ length chosen + 1 = length_push chosen slot in
    let other : (node : ℕ) → node < length chosen → get_or chosen node 0 ≡ slot → ⊥ = λ node h e. taken.free (subst (IsHeld now) e (so_far.slots.held node h)) in
    record {
      size = long ∙ ap (λ m. m + 1) so_far.size;
      counts = taken.others.counts ∙ so_far.counts;
      spare = let here = taken.spare in let all = so_far.spare in omega arith;
      slots = record {
        held = λ node h.
            below_more (λ k. IsHeld new (get_or (chosen ++ slot ∷ []) k 0)) (length chosen)
            (λ k l. subst (IsHeld new) (sym (before k l)) ((taken.others.held (get_or chosen k 0) (other k l)).1 (so_far.slots.held k l)))
            (subst (IsHeld new) (sym last) taken.held) node (subst (λ m. node < m) long h);
        apart = λ a b ha hb.
            below_more (λ x. get_or (chosen ++ slot ∷ []) x 0 ≡ get_or (chosen ++ slot ∷ []) b 0 → x ≡ b) (length chosen)
            (λ x lx. below_more (λ y. get_or (chosen ++ slot ∷ []) x 0 ≡ get_or (chosen ++ slot ∷ []) y 0 → x ≡ y) (length chosen)
            (λ y ly e. so_far.slots.apart x y lx ly (sym (before x lx) ∙ e ∙ before y ly))
            (λ e. absurd (other x lx (sym (before x lx) ∙ e ∙ last))) b (subst (λ m. b < m) long hb))
            (below_more (λ y. get_or (chosen ++ slot ∷ []) (length chosen) 0 ≡ get_or (chosen ++ slot ∷ []) y 0 → length chosen ≡ y) (length chosen)
            (λ y ly e. absurd (other y ly (sym (before y ly) ∙ sym e ∙ last))) (λ e. refl) b (subst (λ m. b < m) long hb))
            a (subst (λ m. a < m) long ha);
      };
      zero = λ node h.
          below_more (λ k. IsZero n g new (get_or (chosen ++ slot ∷ []) k 0)) (length chosen)
          (λ k l. subst (IsZero n g new) (sym (before k l))
          (λ var declared.
          taken.others.arrays var (get_or chosen k 0) (other k l) (so_far.slots.held k l)
          ∙ so_far.zero k l var (subst (λ m. HasVar m var) taken.others.counts declared)))
          (subst (IsZero n g new) (sym last) taken.zero) node (subst (λ m. node < m) long h);
    }

pub new_rank : (n g id : ℕ) (counts : Counts) (nodes : ℕ) (old pool : Arrays) (slots : List ℕ) → old.counts ≡ counts → AreTaken n g old pool nodes slots →
    IsNewRank n g id counts nodes (record { id = id; own = record { values = by_node pool slots } })
new_rank n g id counts nodes old pool slots same taken =
    let zero : (var : Var) (node : ℕ) → HasArray (by_node pool slots) var node → array_in (by_node pool slots) var node ≡ replicate (var_length n g var) (pos 0) = λ var node has.
    (let within = node_inside pool slots node has.held in
    array_by_node pool slots var node within ∙ taken.zero node within var (has_slot pool slots var node taken.slots has).declared) in
    record {
      number = refl;
      counts_are = by_node_counts pool slots ∙ taken.counts ∙ same;
      holds = λ node. (λ h. subst (λ m. node < m) taken.size (node_inside pool slots node h), λ h. node_held pool slots node (subst (λ m. node < m) (sym taken.size) h));
      whole = record { each = λ var node has. ap length (zero var node has) ∙ length-replicate (var_length n g var) (pos 0) };
      zero = record { each = zero };
    }
