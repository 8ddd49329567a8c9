use Rattle.std.proofs.Common.{◌≡◌, ◌+◌, ◌-◌, suc, [], ◌∷◌, ◌++◌, List, ℤ, sym, ap, ap₂, ◌∙◌, arith, length, Some}
use Rattle.check_format.specs.Numbers.{variable, variables_in}
use Rattle.check_format.proofs.Readers.{told, told_none, told_more, told_fails, told_all}
use Rattle.check_format.proofs.ReadNumbers.{out_kept}
use Rattle.check_format.proofs.reading.numbers.variables_at.Goals as goal

pub loop-init : goal.loop-init
loop-init c =
    let z : c.args.counts.variables - 0 ≡ c.args.counts.variables = omega arith in
    record {
      told = ap₂ (λ (u : List (ℤ × List ℤ)) n. told (variable c.args.counts.cells).read u n c.args.bytes.now) c.new-variables.ensures.none z
          ∙ told_none (variable c.args.counts.cells).read c.args.counts.variables c.args.bytes.now;
      many = record { outs = c.new-variables.ensures.outs; cells = c.new-variables.ensures.cells };
    }

pub returns-in-None-clause-read : goal.returns-in-None-clause-read
returns-in-None-clause-read c =
    let lt = c.loop-test.true in
    told_fails (variable c.args.counts.cells).read (variables_in c.loop.variables) (c.args.counts.variables - c.loop.counter) c.loop.rest.now (omega arith) (rw c.in-None.is at c.in_ok-variable_at.ensures.read)
    ∙ c.loop.invariant.told

pub loop-preserved : goal.loop-preserved
loop-preserved c =
    let lt = c.loop-test.true in
    record {
      told = ap (λ (u : List (ℤ × List ℤ)). told (variable c.args.counts.cells).read u (c.args.counts.variables - (c.loop.counter + 1)) c.in-Some.after.now) (c.in_ok-add-in-Some.ensures.added ∙ ap (λ z. variables_in c.loop.variables ++ (z, c.in-Some.contents.items) ∷ []) (out_kept c.in-Some.out (rw c.in-Some.is at c.in_ok-variable_at.ensures.small)))
          ∙ told_more (variable c.args.counts.cells).read (variables_in c.loop.variables) (c.args.counts.variables - c.loop.counter) (c.args.counts.variables - (c.loop.counter + 1)) c.loop.rest.now (c.in-Some.out, c.in-Some.contents.items) c.in-Some.after.now (omega arith) (rw c.in-Some.is at c.in_ok-variable_at.ensures.read)
          ∙ c.loop.invariant.told;
      many = record { outs = c.in_ok-add-in-Some.ensures.outs ∙ ap (λ n. n + 1) c.loop.invariant.many.outs; cells = c.in_ok-add-in-Some.ensures.cells ∙ ap (λ n. n + 1) c.loop.invariant.many.cells };
    }

pub returns-clause-read : goal.returns-clause-read
returns-clause-read c =
    let end = c.loop-test.false in
    told_all (variable c.args.counts.cells).read (variables_in c.loop.variables) (c.args.counts.variables - c.loop.counter) c.loop.rest.now (omega arith) ∙ c.loop.invariant.told

pub add-requires : goal.add-requires
add-requires c = c.loop.invariant.many.cells ∙ sym c.loop.invariant.many.outs

pub returns-clause-many : goal.returns-clause-many
returns-clause-many c =
    let last = c.loop-test.false in
    let end = c.loop.auto.counter-end in
    let all : c.loop.counter ≡ c.args.counts.variables = omega arith in
    record { outs = c.loop.invariant.many.outs ∙ all; cells = c.loop.invariant.many.cells ∙ all }
