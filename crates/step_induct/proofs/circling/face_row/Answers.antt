use Rattle.std.proofs.Common.{◌<◌, subst, sym, ◌∙◌}
use Rattle.mesh_model.specs.Fields.FaceSplits.{by_axis}
use Rattle.step_induct.proofs.Rounds.{round_circled}
use Rattle.step_induct.proofs.circling.face_row.Goals as goal

pub returns-clause-numbers : goal.returns-clause-numbers
returns-clause-numbers c t h =
    let long = subst (λ m. t < m) (sym c.requires.out) h in
    c.round_row.ensures.numbers t long
    ∙ round_circled c.args.size.n c.args.size.g c.args.axis c.after-b.result c.after-c.result (by_axis c.args.ex.now c.args.ey.now c.args.ez.now) c.along-along_b.result.now c.along-along_c.result.now
    c.step-on_b.result c.step-on_c.result t c.args.j c.args.k c.after-b.ensures c.after-c.ensures c.along-along_b.ensures c.along-along_c.ensures c.step-on_b.ensures c.step-on_c.ensures
    c.edge_row-first.result.now c.edge_row-second.result.now c.edge_row-third.result.now c.edge_row-last.result.now
    (c.edge_row-first.ensures.numbers t long) (c.edge_row-second.ensures.numbers t long) (c.edge_row-third.ensures.numbers t long) (c.edge_row-last.ensures.numbers t long)
