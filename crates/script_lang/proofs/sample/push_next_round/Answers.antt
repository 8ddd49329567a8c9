use Rattle.std.proofs.Common.{◌≡◌, ◌∙◌, FitsSigned, ap, rules, string_bytes, w32}
use Rattle.std.proofs.lemmas.Int.{to_z-of_z}
use Rattle.std.proofs.lemmas.Result.{on_ok_weaker}
use Rattle.mesh_model.specs.Language.Sample.{draw, speed}
use Rattle.script_lang.proofs.Drawing.{draw_after}
use Rattle.script_lang.proofs.Sampling.{same_round}
use Rattle.script_lang.proofs.sample.push_next_round.Goals as goal

pub returns : goal.returns
returns c =
    let seed = c.args.draws.now.last in
    let first = c.next_speed-x.ensures.last in
    let second = draw_after seed 1 _ _ first c.next_speed-y.ensures.last in
    let third = draw_after seed 2 _ _ second c.next_speed-z.ensures.last in
    let x : c.next_speed-x.result ≡ speed (draw seed 1) = c.next_speed-x.ensures.value ∙ ap speed first in
    let y : c.next_speed-y.result ≡ speed (draw seed 2) = c.next_speed-y.ensures.value ∙ ap speed second in
    let z : c.next_speed-z.result ≡ speed (draw seed 3) = c.next_speed-z.ensures.value ∙ ap speed third in
    let fits_x : FitsSigned w32 c.next_speed-x.result = search rules in
    let fits_y : FitsSigned w32 c.next_speed-y.result = search rules in
    let fits_z : FitsSigned w32 c.next_speed-z.result = search rules in
    let said = simp to_z-of_z at c.push_round.ensures in
    record {
      text = same_round c.push_round.result (string_bytes c.args.text.now) (string_bytes c.push_round.new.text) c.args.threshold _ _ _ _ _ _ x y z said;
      draws = on_ok_weaker c.push_round.result (λ e. third) c.push_round.ensures;
    }
