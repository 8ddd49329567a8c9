use Rattle.std.proofs.Common.{w64, ◌++◌, ap, sym, ◌∙◌, arith, rules, ℕ}
use Rattle.std.proofs.lemmas.Int.{to_z-of_z}
use mir.Val.{SFits}
use Rattle.std.specs.Fmt.{signed_decimal}
use Rattle.std.specs.Prelude.{codes}
use Rattle.amr_report.specs.Arrays.{at_place, row_text}
use Rattle.amr_report.specs.Printing.{with_word}
use Rattle.amr_report.proofs.Joined.{row_next, row_so_far}
use Rattle.amr_report.proofs.arrays.row_line.Goals as goal

pub loop-i-init : goal.loop-i-init
loop-i-init g c =
    let fits : SFits w64 c.number_at.result = search rules in
    record {
      so_far = c.begin_number-line.ensures.text ∙ ap signed_decimal (to_z-of_z w64 c.number_at.result fits ∙ c.number_at.ensures);
      short = omega (arith, c.begin_number-line.ensures.short);
    }

pub loop-i-preserved : goal.loop-i-preserved
loop-i-preserved g c =
    let at = λ (i : ℕ). at_place (g.V.BlockValues.number c.args.values.now) c.args.shown.now c.args.var i c.args.j c.args.k in
    let fits : SFits w64 c.number_at-in-loop-i.result = search rules in
    let word = ap (λ n. with_word c.loop-i.line (signed_decimal n)) (to_z-of_z w64 c.number_at-in-loop-i.result fits ∙ c.number_at-in-loop-i.ensures) in
    let line = ap (λ l. with_word l (signed_decimal (at c.loop-i.i))) c.loop-i.invariant.so_far in
    record {
      so_far = c.push_number.ensures.text ∙ (word ∙ (line ∙ sym (row_next at c.loop-i.i (omega arith))));
      short = omega (arith, c.push_number.ensures.short, c.loop-i.invariant.short);
    }

pub returns : goal.returns
unfolding row_text
returns g c =
    let at = λ (i : ℕ). at_place (g.V.BlockValues.number c.args.values.now) c.args.shown.now c.args.var i c.args.j c.args.k in
    c.end.ensures ∙ ap (λ l. l ++ codes "\n") (c.loop-i.invariant.so_far ∙ ap (row_so_far at) (omega arith))
