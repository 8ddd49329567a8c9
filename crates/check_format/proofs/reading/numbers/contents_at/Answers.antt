use Rattle.std.proofs.Common.{◌≡◌, ◌+◌, ◌-◌, suc, [], ◌∷◌, ◌++◌, List, ℤ, sym, ap, ap₂, ◌∙◌, arith, length, Some}
use Rattle.mesh_model.specs.Images.Reading.{content}
use Rattle.check_format.proofs.Readers.{told, told_none, told_more, told_fails, told_all}
use Rattle.check_format.proofs.ReadNumbers.{contents_want, content_kept}
use Rattle.check_format.proofs.reading.numbers.contents_at.Goals as goal

pub returns-then-bytes-count : goal.returns-then-bytes-count
returns-then-bytes-count c = contents_want c.args.count c.args.bytes.now c.if-bytes-count.true

pub loop-init : goal.loop-init
loop-init c =
    let z : c.args.count - 0 ≡ c.args.count = omega arith in
    ap₂ (λ (u : List ℤ) n. told content.read u n c.args.bytes.now) (c.in-Ok.ensures.items) z ∙ told_none content.read c.args.count c.args.bytes.now

pub returns-in-None : goal.returns-in-None
returns-in-None c =
    let lt = c.loop-test.true in
    told_fails content.read c.loop.contents.items (c.args.count - c.loop.counter) c.loop.rest.now (omega arith) c.in-None.ensures.read ∙ c.loop.invariant

pub loop-preserved : goal.loop-preserved
loop-preserved c =
    let lt = c.loop-test.true in
    ap (λ (u : List ℤ). told content.read u (c.args.count - (c.loop.counter + 1)) c.in-Some.after.now) (c.in_ok-push-in-Some.ensures ∙ ap (λ z. c.loop.contents.items ++ z ∷ []) (content_kept c.in-Some.content c.in-Some.ensures.small))
    ∙ told_more content.read c.loop.contents.items (c.args.count - c.loop.counter) (c.args.count - (c.loop.counter + 1)) c.loop.rest.now c.in-Some.content c.in-Some.after.now (omega arith) c.in-Some.ensures.read
    ∙ c.loop.invariant

pub returns : goal.returns
returns c =
    let end = c.loop-test.false in
    told_all content.read c.loop.contents.items (c.args.count - c.loop.counter) c.loop.rest.now (omega arith) ∙ c.loop.invariant
