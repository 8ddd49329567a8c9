use Rattle.std.proofs.Common.{◌≡◌, ◌∙◌, ◌++◌, ap, string_bytes}
use Rattle.mesh_model.specs.Language.Sample.{declarations, start}
use Rattle.script_lang.proofs.Sampling.{sample_text}
use Rattle.script_lang.proofs.sample.sample.Goals as goal

pub returns : goal.returns
returns c =
    let text : c.into_bytes.result.items ≡ string_bytes c.push_str.new.self = ap (λ v. v.items) c.into_bytes.ensures.value in
    let first = c.of_seed-draws.result.last in
    let begun : string_bytes c.in_ok-text.text ≡ declarations = c.in_ok-text.ensures.ok in
    let started : string_bytes c.push_start.new.text ≡ declarations ++ start first = c.in_ok-push_start.ensures.text ∙ ap (λ u. u ++ start first) begun in
    text
    ∙ sample_text c.args.seed first c.push_start.new.draws.last c.push_next_round.new.draws.last c.push_next_round-2.new.draws.last
    (string_bytes c.push_start.new.text) (string_bytes c.push_next_round.new.text) (string_bytes c.push_next_round-2.new.text) (string_bytes c.push_next_round-3.new.text) (string_bytes c.push_str.new.self)
    c.of_seed-draws.ensures c.in_ok-push_start.ensures.draws c.in_ok-push_next_round.ensures.draws c.in_ok-push_next_round-2.ensures.draws
    started c.in_ok-push_next_round.ensures.text c.in_ok-push_next_round-2.ensures.text c.in_ok-push_next_round-3.ensures.text c.in_ok-push_str.ensures.bytes
