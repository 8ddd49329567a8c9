use Rattle.std.proofs.Common.{sym, ap, ◌++◌, [], ◌∷◌, ◌∙◌}
use Rattle.std.specs.Prelude.{codes}
use Rattle.mesh_model.specs.Run.Texts.{block_words}
use Rattle.amr_report.specs.Arrays.{axis_words, head_line, head_word}
use Rattle.amr_report.specs.Printing.{with_words}
use Rattle.amr_report.proofs.Joined.{join_words, words_apart}
use Rattle.amr_report.proofs.arrays.head_line.Goals as goal

pub returns : goal.returns
unfolding head_line
returns c =
    let s = c.args.shown.now in
    let var = c.args.var in
    let name = c.args.name.now in
    let named = c.push_word.ensures ∙ ap (λ l. with_words l (name ∷ [])) (c.begin-line.ensures ∙ c.head_word.ensures.word) in
    let with_axis = c.push_axis.ensures.text ∙ ap (λ l. with_words l (axis_words var)) named in
    let with_block = c.push_block.ensures.text ∙ ap (λ l. with_words l (block_words s.block)) with_axis in
    c.end.ensures
    ∙ ap (λ t. t ++ codes "\n") (with_block ∙ (sym (words_apart (with_words (head_word s var) (name ∷ [])) (axis_words var) (block_words s.block)) ∙ join_words (head_word s var) (name ∷ axis_words var ++ block_words s.block)))
