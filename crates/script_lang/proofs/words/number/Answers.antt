use Rattle.std.proofs.Common.{◌≡◌, bytes_eq, codes, true, false, sym, ap, ◌∙◌}
use Rattle.script_lang.proofs.Digits.{number_zero, number_positive, number_negative, number_none}
use Rattle.mesh_model.specs.Language.Words.{after_minus, is_positive}
use Rattle.script_lang.proofs.words.number.Goals as goal

pub returns-then-eq : goal.returns-then-eq
returns-then-eq c = sym (number_zero _ _ (ap (bytes_eq c.args.word.now) (sym c.as_slice.ensures) ∙ sym c.eq.ensures ∙ c.if-eq.true))

pub returns-then-is_positive : goal.returns-then-is_positive
returns-then-is_positive c = c.size_of.ensures.value ∙ sym (number_positive _ _ (ap (bytes_eq c.args.word.now) (sym c.as_slice.ensures) ∙ sym c.eq.ensures ∙ c.if-eq.false) (sym c.is_positive.ensures ∙ c.if-is_positive.true))

pub returns-then-is_positive-2 : goal.returns-then-is_positive-2
returns-then-is_positive-2 c =
    let zero : bytes_eq c.args.word.now (codes "0") ≡ false = ap (bytes_eq c.args.word.now) (sym c.as_slice.ensures) ∙ sym c.eq.ensures ∙ c.if-eq.false in
    let here : is_positive (after_minus c.args.word.now) ≡ true = ap is_positive (sym c.after_minus-digits.ensures) ∙ sym c.is_positive-2.ensures ∙ c.if-is_positive-2.true in
    (rw c.after_minus-digits.ensures at c.negative.ensures) ∙ sym (number_negative c.args.most c.args.word.now zero (sym c.is_positive.ensures ∙ c.if-is_positive.false) here)

pub returns : goal.returns
returns c =
    let zero : bytes_eq c.args.word.now (codes "0") ≡ false = ap (bytes_eq c.args.word.now) (sym c.as_slice.ensures) ∙ sym c.eq.ensures ∙ c.if-eq.false in
    let here : is_positive (after_minus c.args.word.now) ≡ false = ap is_positive (sym c.after_minus-digits.ensures) ∙ sym c.is_positive-2.ensures ∙ c.if-is_positive-2.false in
    sym (number_none c.args.most c.args.word.now zero (sym c.is_positive.ensures ∙ c.if-is_positive.false) here)
