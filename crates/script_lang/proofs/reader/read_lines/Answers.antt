use Rattle.std.proofs.Common.{◌+◌, drop, ap, ◌∙◌, arith}
use Rattle.std.proofs.lemmas.Result.{err_from_is_err_and}
use Rattle.mesh_model.specs.Language.Grammar.{lines_say}
use Rattle.script_lang.specs.Answers.{texts}
use Rattle.script_lang.proofs.Reading.{read_after, stops, goes_on, halted}
use Rattle.script_lang.proofs.reader.read_lines.Goals as goal

pub returns-in_err-add_line-clause-fault : goal.returns-in_err-add_line-clause-fault
returns-in_err-add_line-clause-fault c =
    let p = err_from_is_err_and c.from_residual.result c.from_residual.ensures.1 in
    rw (p.1, p.2) (halted _ c.loop-line.number _ _ c.in_err-add_line.ensures.fault (λ reason e. stops _ _ c.args.lines.now _ _ (omega arith) _ _ c.loop-line.invariant.read reason e))

pub loop-line-preserved : goal.loop-line-preserved
loop-line-preserved c =
    let added = c.in_ok-add_line.ensures.adds in
    record {
      read = ap (λ t. read_after t (lines_say c.add_line.new.reading (c.loop-line.number + 1) (drop (c.loop-line.line-index + 1) (texts c.args.lines.now)))) added.2 ∙ goes_on _ _ c.args.lines.now _ _ (omega arith) _ _ c.loop-line.invariant.read _ added.0 added.1;
      counted = omega arith;
      narrow = c.add_line.ensures.narrow;
    }
