-- Arrays of nodes that change places.
use Rattle.std.proofs.Common.{◌≡◌, ℕ, ◌<◌, ◌≤◌, ◌↔◌, true, false, List, [], length, get_or, map, refl, sym, ap, subst, ◌∙◌, arith, inl, inr}
use Rattle.std.proofs.lemmas.Bool.{cases_lt}
use Rattle.std.proofs.lemmas.List.{get_or_past, length-map}
use Rattle.mesh_model.specs.declared.fields.values.Var.{Var}
use Rattle.mesh_model.specs.Fields.Arrays.{Arrays, HasArray, HasVar, IsHeld, array_in, array_number, block_in, var_length}
use Rattle.mesh_model.specs.Fields.Ranks.{IsFit, IsSized, Told, WorldState, rank_at}
use Rattle.mesh_model.specs.Tree.Order.{nodes}
use Rattle.block_store.specs.Pools.{IsExchanged}
use Rattle.block_store.proofs.Exchanged.{lengths_exchanged}
use Rattle.rank_world.specs.Exchanging.{IsWorldExchanged}
use Rattle.rank_world.specs.Slots.{AreSlots, by_node}
use Rattle.rank_world.proofs.Slotted.{array_by_node}

-- a node beyond all has no arrays
array_past : (pool : Arrays) (slots : List ℕ) (var : Var) (node : ℕ) → length slots ≤ node → array_in (by_node pool slots) var node ≡ []
unfolding by_node array_in
array_past pool slots var node h = ap (λ b. get_or b (array_number var) []) (get_or_past (map (block_in pool.blocks) slots) node [] (omega (arith, length-map slots (block_in pool.blocks))))

module _ (old new : Arrays) (slots : List ℕ) (node slot : ℕ) (a b : Var) (are : AreSlots old slots) (at_slot : slot ≡ get_or slots node 0) (within : node < length slots) (is : IsExchanged old new slot a b) where
  pub slots_exchanged : AreSlots new slots
  slots_exchanged = record { held = λ k h. subst (λ xs. get_or xs (get_or slots k 0) false ≡ true) (sym is.held) (are.held k h); apart = are.apart }

  there : (arrays : Arrays) (u : Var) → array_in (by_node arrays slots) u node ≡ array_in arrays u slot
  there arrays u = array_by_node arrays slots u node within ∙ ap (array_in arrays u) (sym at_slot)

  pub exchanged_by_node : IsExchanged (by_node old slots) (by_node new slots) node a b
  unfolding by_node
  exchanged_by_node = record {
    counts = is.counts;
    held = refl;
    first = there new a ∙ is.first ∙ sym (there old b);
    second = there new b ∙ is.second ∙ sym (there old a);
    others = λ u at no_a no_b. elim (cases_lt at (length slots)) [
      | inr past ↦ array_past new slots u at past ∙ sym (array_past old slots u at past)
      | inl inside ↦ (
          let same : get_or slots at 0 ≡ slot → at ≡ node = λ e. are.apart at node inside within (e ∙ at_slot) in
          array_by_node new slots u at inside ∙ is.others u (get_or slots at 0) (λ e s. no_a e (same s)) (λ e s. no_b e (same s)) ∙ sym (array_by_node old slots u at inside))
    ];
  }

-- a world stays fit where arrays of the same length change places
pub fit_exchanged : (n g : ℕ) (old new : WorldState) (node : ℕ) (a b : Var) → IsWorldExchanged old new node a b → IsFit n g old →
    HasArray (rank_at old 0).own.values a node → HasArray (rank_at old 0).own.values b node → var_length n g a ≡ var_length n g b → IsFit n g new
fit_exchanged n g old new node a b is fit has_a has_b same =
    let was = (rank_at old 0).own.values in
    let now = (rank_at new 0).own.values in
    let made = is.here.arrays in
    let lengths = fit.whole.each a node has_a ∙ same ∙ sym (fit.whole.each b node has_b) in
    record {
      one = is.count ∙ fit.one;
      sizes = subst (λ (t : Told). IsSized n g t.grid.shape) (sym is.told) fit.sizes;
      counts = made.counts ∙ fit.counts ∙ ap (λ (t : Told). t.counts) (sym is.told);
      holds = λ k. subst (λ (t : Told). IsHeld now k ↔ (k < length (nodes t.grid.leaves))) (sym is.told)
          (subst (λ xs. (get_or xs k false ≡ true) ↔ (k < length (nodes old.told.grid.leaves))) (sym made.held) (fit.holds k));
      whole = record {
        each = λ u at has. lengths_exchanged was now node a b made lengths u at
            ∙ fit.whole.each u at (record { declared = subst (λ m. HasVar m u) made.counts has.declared; held = subst (λ xs. get_or xs at false ≡ true) made.held has.held });
      };
    }
