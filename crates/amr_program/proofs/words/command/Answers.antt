use Rattle.std.proofs.Common.{◌∙◌, ◌≡◌, true, ap, ap₂, codes, rules}
use Rattle.std.proofs.lemmas.Result.{IfOk-weaker}
use Rattle.clap.specs.Simple.{app_of_fields, on_top}
use Rattle.clap.specs.Words.{app_of, rule_of, with_rule}
use Rattle.amr_program.specs.Words as plain
use Rattle.amr_program.proofs.words.command.Goals as goal

pub returns : goal.returns
returns c =
    let named_is : app_of c.no_binary_name.result ≡ plain.named = ap app_of_fields c.no_binary_name.ensures ∙ ap (on_top (λ s. record s { no_binary_name = true })) c.new-2.ensures.app in
    let ranks = c.in_ok-arg.ensures.shape c.option.ensures.local ∙ ap₂ with_rule named_is c.option.ensures.rule in
    let order = c.in_ok-arg-2.ensures.shape c.option-2.ensures.local ∙ ap₂ with_rule ranks c.option-2.ensures.rule in
    let workers = c.in_ok-arg-3.ensures.shape c.option-3.ensures.local ∙ ap₂ with_rule order c.option-3.ensures.rule in
    let sample = c.in_ok-arg-4.ensures.shape c.option-4.ensures.local ∙ ap₂ with_rule workers c.option-4.ensures.rule in
    let restart_is : rule_of c.action-restart.result ≡ plain.flag (codes "restart") = search rules in
    IfOk-weaker c.arg-5.result _ _ (λ r adds. adds.shape (search rules) ∙ ap₂ with_rule sample restart_is) c.arg-5.ensures
