use Rattle.std.proofs.Common.{sym, ◌∙◌, rules, w64, FitsSigned}
use Rattle.std.proofs.lemmas.Int.{to_z-of_z}
use Rattle.std.proofs.lemmas.Result.{err_from_is_err_and}
use Rattle.script_lang.proofs.Digits.{count_refused, count_taken}
use Rattle.script_lang.proofs.words.count.Goals as goal

pub returns-in_err-value-clause-value : goal.returns-in_err-value-clause-value
returns-in_err-value-clause-value c = let p = err_from_is_err_and c.from_residual.result c.from_residual.ensures.1 in rw (p.1, p.2) (sym (count_refused c.args.low c.args.high c.args.word.now _ c.ranges.high.fits (sym c.number.ensures ∙ c.in_err-value.was)))

pub returns-clause-value : goal.returns-clause-value
returns-clause-value c =
    let fits : FitsSigned w64 c.in_ok-value.value = search rules in
    (simp to_z-of_z at c.in_range.ensures.value) ∙ sym (count_taken c.args.low c.args.high c.args.word.now c.in_ok-value.value (sym c.number.ensures ∙ c.in_ok-value.was))
