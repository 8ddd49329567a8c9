use Rattle.std.proofs.Common.{◌≡◌, ◌⊎◌, sym, subst, ◌∙◌}
use Rattle.amr_engine.specs.Saving.{Resumes, given_of, turn_of}
use Rattle.amr_engine.proofs.Writing.{begins, goes_on}
use Rattle.amr_engine.proofs.saving.resumed.Goals as goal

pub returns-in-Some : goal.returns-in-Some
returns-in-Some c m valid shape under same =
    subst (λ o. Resumes m o c.args.turn c.in-Some.writer) (sym c.in-Some.is)
    (goes_on m c.in-Some.writer c.args.turn (under c.in-Some.writer c.in-Some.is) (subst (λ o. (given_of m o ≡ 0) ⊎ (turn_of o ≡ c.args.turn)) c.in-Some.is same))

pub returns-in-None : goal.returns-in-None
returns-in-None c m valid shape under same =
    subst (λ o. Resumes m o c.args.turn c.new.result) (sym c.in-None.is)
    (begins m c.new.result c.args.turn (c.new.ensures.writer m) (c.new.ensures.last m.grid) (c.new.ensures.shape ∙ sym shape) c.new.ensures.turn (c.new.ensures.left m valid))
