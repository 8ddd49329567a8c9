use Rattle.std.proofs.Common.{◌≡◌, ◌∷◌, ◌++◌, map, take, get_or, pos, w64, ap, sym, ◌∙◌, arith, rules, append_assoc}
use Rattle.std.proofs.lemmas.Int.{to_z-of_z}
use mir.Val.{SFits}
use Rattle.std.specs.Fmt.{signed_decimal}
use Rattle.amr_program.specs.Lines.{more_words}
use Rattle.amr_program.proofs.StopLine.{one_more_number}
use Rattle.amr_program.proofs.stop_line.push_numbers.Goals as goal

pub loop-number-preserved : goal.loop-number-preserved
loop-number-preserved c =
    let i = c.loop-number.number-index in
    let numbers = c.args.numbers.now in
    let before = c.loop-number.invariant in
    let number = get_or numbers i (pos 0) in
    let fits : SFits w64 number = search rules in
    let words = more_words (map signed_decimal (take i numbers)) in
    let pushed : c.push_number.new.self ≡ c.loop-number.text ++ (32 ∷ signed_decimal number) = c.push_number.ensures.text ∙ ap (λ n. c.loop-number.text ++ (32 ∷ signed_decimal n)) (to_z-of_z w64 number fits) in
    record {
      so_far = pushed ∙ ap (λ t. t ++ (32 ∷ signed_decimal number)) before.so_far ∙ append_assoc c.args.text.now words (32 ∷ signed_decimal number) ∙ ap (λ t. c.args.text.now ++ t) (sym (one_more_number numbers i (pos 0) c.loop-number-test.true));
      short = let grown = c.push_number.ensures.short in omega (arith, grown, before.short);
    }
