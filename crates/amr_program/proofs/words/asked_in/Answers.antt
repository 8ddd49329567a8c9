use Rattle.std.proofs.Common.{◌∙◌, Err, ap, subst, sym}
use Rattle.clap.specs.Faults.{fault_of, is_simple_and_free}
use Rattle.clap.specs.Kinds.{HasKind}
use Rattle.clap.specs.Simple.{is_simple, matches_of}
use Rattle.clap.specs.Words.{found_of}
use Rattle.amr_program.specs.Words as plain
use Rattle.amr_program.proofs.Asked.{is_free, is_plain, tells_failed, tells_parsed}
use Rattle.amr_program.proofs.words.asked_in.Goals as goal

pub returns-in-Ok-try_get_matches_from : goal.returns-in-Ok-try_get_matches_from
returns-in-Ok-try_get_matches_from c =
    let words = plain.texts_of c.args.words.now in
    let is = c.in-Ok.ensures in
    let parsed = c.in-Ok-try_get_matches_from.ensures in
    let none = parsed.kinds (ap is_simple_and_free is ∙ is_free) in
    let rows = (parsed.matches (ap is_simple is ∙ is_plain)).0 in
    subst (plain.Tells (plain.asked_in words)) (sym c.ok_or.ensures.value)
    (tells_parsed words (found_of c.in-Ok-try_get_matches_from.matches) (sym (ap (λ a. fault_of a words) is) ∙ none) (rows ∙ ap (λ a. matches_of a words) is) c.asked_by.result c.asked_by.ensures)

pub returns-in-Err : goal.returns-in-Err
returns-in-Err c =
    let words = plain.texts_of c.args.words.now in
    let is = c.in-Ok.ensures in
    let kinds = c.in-Err.ensures.kinds (ap is_simple_and_free is ∙ is_free) in
    subst (λ s. plain.Tells (plain.asked_in words) (Err s)) (sym c.stop_of.ensures)
    (tells_failed words c.in-Err.error (subst (λ ks. HasKind ks c.in-Err.error) (ap (λ a. fault_of a words) is) kinds))
