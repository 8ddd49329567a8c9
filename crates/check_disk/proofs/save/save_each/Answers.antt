use Rattle.std.proofs.Common.{◌≡◌, ◌+◌, length, get_or, map, sym, ap, ◌∙◌, subst, arith}
use Rattle.std.proofs.lemmas.List.{get_or-map, length-map}
use Rattle.std.proofs.lemmas.List.Elements.{All-get_or}
use Rattle.outside_io.proofs.Moments.{weaker}
use Rattle.mesh_model.specs.Images.Held.{Found, IsWhole}
use Rattle.check_disk.specs.Held.{held}
use Rattle.check_disk.specs.Stages.{stage, IsStage}
use Rattle.check_disk.proofs.RunStages.{whole_stage, later_stage, item_same, rest_same, stage_moments, next_stage}
use Rattle.check_disk.proofs.save.save_each.Goals as goal

pub save-requires-clause-fresh : goal.save-requires-clause-fresh
save-requires-clause-fresh g c =
    ap g.P.Pieces.given (item_same c.loop-one.all c.args.all.now c.loop-one.one-index c.one-item.result c.loop-one.invariant.rest)
    ∙ All-get_or (λ p. g.P.Pieces.given p ≡ 0) c.args.all.now c.loop-one.one-index c.one-item.result (omega arith) c.requires.fresh

pub save-requires-clause-fits : goal.save-requires-clause-fits
save-requires-clause-fits g c =
    subst (λ p. g.P.Pieces.format.Fits (g.P.Pieces.mesh p)) (sym (item_same c.loop-one.all c.args.all.now c.loop-one.one-index c.one-item.result c.loop-one.invariant.rest))
    (All-get_or (λ p. g.P.Pieces.format.Fits (g.P.Pieces.mesh p)) c.args.all.now c.loop-one.one-index c.one-item.result (omega arith) c.requires.fits)

pub returns-in_err-save-clause-moments : goal.returns-in_err-save-clause-moments
returns-in_err-save-clause-moments g c = λ areas rests whole.
    let n = c.loop-one.one-index in
    let f = g.P.Pieces.format in
    let x = get_or c.loop-one.all n c.one-item.result in
    let mesh = g.P.Pieces.mesh x in
    let meshes = map g.P.Pieces.mesh c.args.all.now in
    let first = held f areas in
    let long = length-map c.args.all.now g.P.Pieces.mesh in
    let item : get_or meshes n mesh ≡ mesh = get_or-map g.P.Pieces.mesh c.args.all.now n c.one-item.result mesh (omega arith) ∙ ap g.P.Pieces.mesh (sym (item_same c.loop-one.all c.args.all.now n c.one-item.result c.loop-one.invariant.rest)) in
    let is : stage first meshes (n + 1) ≡ Found mesh = next_stage first meshes n mesh (omega arith) ∙ ap Found item in
    let at = c.loop-one.invariant.saved areas rests whole in
    let step = c.save.ensures.moments at.0 at.1 (subst IsWhole (sym at.2) (whole_stage first meshes n whole)) in
    weaker g.D.Disk.moment g.D.Disk.left_since c.args.disk.now c.save.new.disk (IsStage f first meshes (n + 1)) (IsStage f first meshes (length c.args.all.now)) (λ e s. later_stage f first meshes (n + 1) (length c.args.all.now) e (omega arith) s)
    (stage_moments g.D.Disk.moment g.D.Disk.left_since f first meshes n mesh c.args.disk.now c.loop-one.disk c.save.new.disk at.0 is at.2 (c.loop-one.invariant.moments areas rests whole) step)

pub loop-one-preserved : goal.loop-one-preserved
loop-one-preserved g c =
    let n = c.loop-one.one-index in
    let f = g.P.Pieces.format in
    let x = get_or c.loop-one.all n c.one-item.result in
    let mesh = g.P.Pieces.mesh x in
    let meshes = map g.P.Pieces.mesh c.args.all.now in
    let long = length-map c.args.all.now g.P.Pieces.mesh in
    let item : get_or meshes n mesh ≡ mesh = get_or-map g.P.Pieces.mesh c.args.all.now n c.one-item.result mesh (omega arith) ∙ ap g.P.Pieces.mesh (sym (item_same c.loop-one.all c.args.all.now n c.one-item.result c.loop-one.invariant.rest)) in
    record {
      rest = rest_same c.loop-one.all c.args.all.now n c.save.new.pieces c.loop-one.invariant.rest;
      moments = λ areas rests whole.
          let is : stage (held f areas) meshes (n + 1) ≡ Found mesh = next_stage (held f areas) meshes n mesh (omega arith) ∙ ap Found item in
          let at = c.loop-one.invariant.saved areas rests whole in
          let step = c.save.ensures.moments at.0 at.1 (subst IsWhole (sym at.2) (whole_stage (held f areas) meshes n whole)) in
          stage_moments g.D.Disk.moment g.D.Disk.left_since f (held f areas) meshes n mesh c.args.disk.now c.loop-one.disk c.save.new.disk at.0 is at.2 (c.loop-one.invariant.moments areas rests whole) step;
      saved = λ areas rests whole.
          let is : stage (held f areas) meshes (n + 1) ≡ Found mesh = next_stage (held f areas) meshes n mesh (omega arith) ∙ ap Found item in
          let at = c.loop-one.invariant.saved areas rests whole in
          let done = c.in_ok-save.ensures.saved at.0 at.1 (subst IsWhole (sym at.2) (whole_stage (held f areas) meshes n whole)) in
          (done.0, done.1, done.2 ∙ sym is);
      calm = c.in_ok-save.ensures.calm ∙ c.loop-one.invariant.calm;
    }

pub returns-clause-saved : goal.returns-clause-saved
returns-clause-saved g c = λ areas rests whole.
    let at = c.loop-one.invariant.saved areas rests whole in
    let end : c.loop-one.one-index ≡ length c.args.all.now = omega arith in
    (at.0, at.1, at.2 ∙ ap (λ k. stage (held g.P.Pieces.format areas) (map g.P.Pieces.mesh c.args.all.now) k) end)
