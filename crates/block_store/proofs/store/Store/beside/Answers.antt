use Rattle.std.proofs.Common.{◌≡◌, ◌<◌, ℕ, length, take, drop, ◌++◌, List, ℤ, sym, ap, subst, ◌∙◌, refl, arith, get_or}
use Rattle.mesh_model.specs.Fields.Arrays.{block_in}
use Rattle.block_store.specs.Held.{all_numbers, pick, put}
use Rattle.block_store.proofs.Hand.{array_at, given_back, pick_other, pick_put, slot_at, written}
use Rattle.block_store.proofs.store.Store.beside.Goals as goal

pub invariant_of-self-lent : goal.invariant_of-self-lent
invariant_of-self-lent c w within =
    let p = c.self.inside in
    let nb = c.take_up.new.blocks in
    let long : length nb ≡ length p.blocks.items = c.take_up.auto.blocks ∙ ap length c.as_mut_slice.ensures.value in
    let now : put (all_numbers nb) c.args.slot c.args.write c.take_up.new.hand.items ≡ c.args.self.now =
    c.take_up.ensures ∙ ap (λ bs. put (all_numbers bs) p.slot p.number p.hand.items) c.as_mut_slice.ensures.value ∙ c.self.view_is in
    subst (λ bs. c.args.write < length (block_in (all_numbers bs) c.args.slot)) (sym (given_back p.blocks.len p.blocks.items nb p.blocks.ok.0 long))
    (array_at (all_numbers nb) _ _ _ _ now c.args.slot c.args.write c.requires.write)

pub returns : goal.returns
returns c =
    let p = c.self.inside in
    let s = c.args.slot in
    let n = c.args.write in
    let nb = c.take_up.new.blocks in
    let h = c.take_up.new.hand in
    let xs = all_numbers nb in
    let long : length nb ≡ length p.blocks.items = c.take_up.auto.blocks ∙ ap length c.as_mut_slice.ensures.value in
    let blocks : take p.blocks.len (nb ++ drop (length nb) p.blocks.items) ≡ nb = given_back p.blocks.len p.blocks.items nb p.blocks.ok.0 long in
    let now : put xs s n h.items ≡ c.args.self.now =
    c.take_up.ensures ∙ ap (λ bs. put (all_numbers bs) p.slot p.number p.hand.items) c.as_mut_slice.ensures.value ∙ c.self.view_is in
    let within = slot_at xs _ _ _ _ now s c.requires.slot in
    let number = array_at xs _ _ _ _ now s n c.requires.write in
    let read : c.as_slice-arrays.result.now ≡ nb = c.as_slice-arrays.ensures.value ∙ blocks in
    let other : (k m : ℕ) (r : List ℤ) → k < 4 → m ≡ get_or c.args.reads k 0 → r ≡ pick (all_numbers c.as_slice-arrays.result.now) s m → r ≡ pick c.args.self.now s (get_or c.args.reads k 0) =
    λ k m r l is e.
    e ∙ ap (λ bs. pick (all_numbers bs) s m) read ∙ ap (pick xs s) is
    ∙ sym (pick_other xs s n s (get_or c.args.reads k 0) h.items (λ t f. c.requires.apart k l f)) ∙ ap (λ bs. pick bs s (get_or c.args.reads k 0)) now in (
      (
        refl,
        λ w.
            ap (λ (bs : List _). put (all_numbers bs) s n (take h.len (w ++ drop (length w) h.items))) blocks
            ∙ ap (λ m. put xs s n (take m (w ++ drop (length w) h.items))) h.ok.0
            ∙ written xs c.args.self.now s n h.items w within number now,
      ),
      record {
        lends = tt;
        a = other 0 _ _ (omega arith) refl c.read.ensures;
        b = other 1 _ _ (omega arith) refl c.read-2.ensures;
        c = other 2 _ _ (omega arith) refl c.read-3.ensures;
        d = other 3 _ _ (omega arith) refl c.read-4.ensures;
        out = c.as_mut_slice-2.ensures.value ∙ sym (pick_put xs s n h.items within number) ∙ ap (λ bs. pick bs s n) now;
      },
    )
