use Rattle.std.proofs.Common.{◌<◌, length, sym, subst, ap₂, ◌∙◌}
use Rattle.std.proofs.lemmas.List.{length-map}
use Rattle.block_store.specs.Held.{all_numbers, numbers, pick, put}
use Rattle.block_store.proofs.Hand.{put_pick, put_put}
use Rattle.block_store.proofs.store.take_up.Goals as goal

pub returns : goal.returns
returns c =
    let s = c.args.new.slot in
    let n = c.args.new.number in
    let between = all_numbers c.put_down.new.blocks in
    let within : s < length between =
    subst (λ m. s < m) (sym (length-map c.put_down.new.blocks (λ b. numbers b.items) ∙ c.put_down.auto.blocks)) c.requires.slot in
    ap₂ (λ bs h. put bs s n h) c.exchange_in.ensures.blocks c.exchange_in.ensures.hand
    ∙ put_put between s n c.put_down.new.hand.items (pick between s n) within ∙ put_pick between s n ∙ c.put_down.ensures
