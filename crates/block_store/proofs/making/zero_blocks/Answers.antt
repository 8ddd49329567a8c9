use Rattle.std.proofs.Common.{◌≡◌, ◌+◌, ◌++◌, ◌∷◌, [], ap, subst, sym, ◌∙◌, not}
use Rattle.std.specs.Prelude.{if◌then◌else◌}
use Rattle.std.proofs.lemmas.List.{map-append}
use Rattle.block_store.specs.Held.{all_numbers, numbers}
use Rattle.block_store.specs.Making.{AreZeroBlocks}
use Rattle.block_store.proofs.Lengths.{one_more_block}
use Rattle.block_store.proofs.making.zero_blocks.Goals as goal

pub loop-block-preserved : goal.loop-block-preserved
loop-block-preserved c =
    let b = c.in_ok-zero_block.field-0 in
    let pushed : c.push.new.self.items ≡ c.loop-block.blocks.items ++ b ∷ [] =
    c.push.ensures.items ∙ ap (λ t. if t then c.loop-block.blocks.items ++ b ∷ [] else c.loop-block.blocks.items) (c.is_err.ensures.negation ∙ ap not c.if-is_err.false) in
    let same : all_numbers c.push.new.self.items ≡ all_numbers c.loop-block.blocks.items ++ numbers b.items ∷ [] =
    ap all_numbers pushed ∙ map-append (λ v. numbers v.items) c.loop-block.blocks.items (b ∷ []) in
    subst (AreZeroBlocks c.args.n c.args.g c.args.layout (c.loop-block._block + 1)) (sym same)
    (one_more_block c.args.n c.args.g c.args.layout c.loop-block._block (all_numbers c.loop-block.blocks.items) (numbers b.items) c.loop-block.invariant c.in_ok-zero_block.ensures)
