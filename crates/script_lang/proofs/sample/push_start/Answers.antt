use Rattle.std.proofs.Common.{◌≡◌, ◌∙◌, ◌+◌, ◌++◌, ap, ap₂, string_bytes}
use Rattle.std.proofs.lemmas.Result.{on_ok_weaker}
use Rattle.mesh_model.specs.Language.Sample.{box, corner, draw, loop, position}
use Rattle.script_lang.proofs.Drawing.{draw_after}
use Rattle.script_lang.proofs.Sampling.{two_parts}
use Rattle.script_lang.proofs.sample.push_start.Goals as goal

pub returns : goal.returns
returns c =
    let old = string_bytes c.args.text.now in
    let seed = c.args.draws.now.last in
    let first = c.next_corner-a.ensures.last in
    let second = draw_after seed 1 _ _ first c.next_corner-b.ensures.last in
    let third = draw_after seed 2 _ _ second c.next_corner-c.ensures.last in
    let fourth = draw_after seed 3 _ _ third c.next_content-content.ensures.last in
    let fifth = draw_after seed 4 _ _ fourth c.next_position-p.ensures.last in
    let sixth = draw_after seed 5 _ _ fifth c.next_position-q.ensures.last in
    let seventh = draw_after seed 6 _ _ sixth c.next_content-value.ensures.last in
    let a : c.next_corner-a.result ≡ corner (draw seed 1) = c.next_corner-a.ensures.value ∙ ap corner first in
    let b : c.next_corner-b.result ≡ corner (draw seed 2) = c.next_corner-b.ensures.value ∙ ap corner second in
    let third_corner : c.next_corner-c.result ≡ corner (draw seed 3) = c.next_corner-c.ensures.value ∙ ap corner third in
    let content : c.next_content-content.result ≡ 1000 + draw seed 4 = c.next_content-content.ensures.value ∙ ap (λ d. 1000 + d) fourth in
    let p : c.next_position-p.result ≡ position (draw seed 5) = c.next_position-p.ensures.value ∙ ap position fifth in
    let q : c.next_position-q.result ≡ position (draw seed 6) = c.next_position-q.ensures.value ∙ ap position sixth in
    let value : c.next_content-value.result ≡ 1000 + draw seed 7 = c.next_content-value.ensures.value ∙ ap (λ d. 1000 + d) seventh in
    let boxed : string_bytes c.push_box.new.text ≡ old ++ box (corner (draw seed 1)) (corner (draw seed 2)) (corner (draw seed 3)) (1000 + draw seed 4) =
    c.in_ok-push_box.ensures
    ∙ ap₂ (λ x y. old ++ box x y c.next_corner-c.result c.next_content-content.result) a b
    ∙ ap₂ (λ x y. old ++ box (corner (draw seed 1)) (corner (draw seed 2)) x y) third_corner content in
    let looped = rw (p, q, value) at c.push_loop.ensures in
    record {
      text = two_parts c.push_loop.result old (string_bytes c.push_box.new.text) (string_bytes c.push_loop.new.text)
          (box (corner (draw seed 1)) (corner (draw seed 2)) (corner (draw seed 3)) (1000 + draw seed 4))
          (loop (position (draw seed 5)) (position (draw seed 6)) (1000 + draw seed 7)) boxed looped;
      draws = on_ok_weaker c.push_loop.result (λ e. seventh) c.push_loop.ensures;
    }
