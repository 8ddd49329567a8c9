use Rattle.std.proofs.Common.{◌≡◌, ◌+◌, ◌-◌, ◌/◌, ◌<◌, ◌≤◌, arith, sym, subst, ◌∙◌}
use Rattle.block_tree.specs.Searching.{IsCut}
use Rattle.block_tree.proofs.Members.{in_at}
use Rattle.block_tree.proofs.Cutting.{cut_whole, cut_above, cut_below, less_says, more_says}
use Rattle.block_tree.proofs.search.count_below.Goals as goal

pub loop-low-init : goal.loop-low-init
loop-low-init c = cut_whole c.args.nodes.now c.args.key.0

pub bounds-nodes-middle : goal.bounds-nodes-middle
bounds-nodes-middle c = let room = c.loop-low.invariant.within in let lt = c.loop-low-test.true in omega arith

pub offset_bounds-nodes-middle : goal.offset_bounds-nodes-middle
offset_bounds-nodes-middle c = let room = c.loop-low.invariant.within in let few = c.requires.few in let lt = c.loop-low-test.true in omega arith

pub key_of-requires : goal.key_of-requires
key_of-requires c = c.requires.keyed _ (in_at c.args.nodes.now (c.loop-low.low + (c.loop-low.high - c.loop-low.low) / 2) (let room = c.loop-low.invariant.within in let lt = c.loop-low-test.true in omega arith))

pub loop-low-preserved-then-lt : goal.loop-low-preserved-then-lt
loop-low-preserved-then-lt c =
    let middle = c.loop-low.low + (c.loop-low.high - c.loop-low.low) / 2 in
    let less = less_says c.key_of.result.0 c.args.key.0 (sym c.lt.ensures ∙ c.if-lt.true) in
    cut_above c.args.nodes.now c.requires.order c.args.key.0 c.loop-low.low c.loop-low.high middle c.loop-low.invariant (omega arith) (let lt = c.loop-low-test.true in omega arith) (subst (λ k. k < c.args.key.0) c.key_of.ensures.value less)

pub loop-low-preserved : goal.loop-low-preserved
loop-low-preserved c =
    let middle = c.loop-low.low + (c.loop-low.high - c.loop-low.low) / 2 in
    let more = more_says c.key_of.result.0 c.args.key.0 (sym c.lt.ensures ∙ c.if-lt.false) in
    cut_below c.args.nodes.now c.requires.order c.args.key.0 c.loop-low.low c.loop-low.high middle c.loop-low.invariant (omega arith) (let lt = c.loop-low-test.true in omega arith) (subst (λ k. c.args.key.0 ≤ k) c.key_of.ensures.value more)

pub returns : goal.returns
returns c =
    let cut = c.loop-low.invariant in
    let order = cut.order in
    let stop = c.loop-low-test.false in
    let same : c.loop-low.high ≡ c.loop-low.low = omega arith in
    subst (λ h. IsCut c.args.nodes.now c.args.key.0 c.loop-low.low h) same cut
