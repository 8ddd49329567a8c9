use Rattle.std.proofs.Common.{◌<◌, length, sym, subst, ◌∙◌}
use Rattle.std.proofs.lemmas.List.{length-map}
use Rattle.block_store.specs.Held.{AreExchanged, all_numbers, numbers, put}
use Rattle.block_store.proofs.Hand.{array_at, block_put, exchanged_across, length_put}
use Rattle.block_store.proofs.store.take_across.Goals as goal

pub exchange_in-requires-clause-number : goal.exchange_in-requires-clause-number
exchange_in-requires-clause-number c =
    let was = all_numbers c.args.blocks.now in
    let s = c.args.a.slot in
    let b = c.args.b in
    array_at (all_numbers c.take_up.new.blocks) _ s c.args.a.number c.take_up.new.hand.items c.take_up.ensures s b
    (subst (λ m. b < m) (sym (block_put was c.args.old.slot c.args.old.number s c.args.hand.now.items)) c.requires.b)

pub returns : goal.returns
returns c =
    let was = all_numbers c.args.blocks.now in
    let between = all_numbers c.take_up.new.blocks in
    let old = c.args.old in
    let h = c.args.hand.now.items in
    let s = c.args.a.slot in
    let a = c.args.a.number in
    let b = c.args.b in
    let now = put was old.slot old.number h in
    let within : s < length now =
    subst (λ m. s < m) (sym (length_put was old.slot old.number h ∙ length-map c.args.blocks.now (λ v. numbers v.items))) c.requires.slot in
    let long = block_put was old.slot old.number s h in
    let made = exchanged_across between now s a b c.take_up.new.hand.items c.take_up.ensures within
    (subst (λ m. a < m) (sym long) c.requires.a) (subst (λ m. b < m) (sym long) c.requires.b) c.requires.apart in
    subst (λ bs. AreExchanged now (put bs s a c.exchange_in.new.hand.items) s a b) (sym c.exchange_in.ensures.blocks)
    (subst (λ ys. AreExchanged now (put (put between s b c.take_up.new.hand.items) s a ys) s a b) (sym c.exchange_in.ensures.hand) made)
