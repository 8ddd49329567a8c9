use Rattle.std.proofs.Common.{◌^◌, ◌<◌, ap₂, subst, sym, ◌∙◌}
use Rattle.amr_num.specs.Numbers.{Within}
use Rattle.mesh_model.specs.Geometry.Coordinates.{next}
use Rattle.mesh_model.specs.Fields.Advect.{speed}
use Rattle.mesh_model.specs.Fields.FaceSplits.{by_axis}
use Rattle.step_induct.specs.Forces.{flow_of, force_from}
use Rattle.step_induct.proofs.Forced.{edge_inside, first_is, second_is, upstream_within}
use Rattle.step_induct.proofs.forces.edge_row.Goals as goal

pub force_row-requires-clause-first_small : goal.force_row-requires-clause-first_small
force_row-requires-clause-first_small c t l =
    let n = c.args.size.n in
    let g = c.args.size.g in
    let flow = flow_of c.args.flow.now in
    let arrays = by_axis c.args.bx.now c.args.by.now c.args.bz.now in
    let a = c.args.axis in
    let le = edge_inside a n t c.args.j c.args.k (subst (λ m. t < m) c.requires.out l) c.requires.inside.0 c.requires.inside.1 in
    subst (Within (2 ^ 56))
    (sym (c.upstream_row-faces_b.ensures.numbers t l
    ∙ first_is n g a c.after-b.result c.after-c.result flow arrays c.along-normal_b.result.now c.along-normal_c.result.now t c.args.j c.args.k
    c.after-b.ensures c.after-c.ensures c.along-normal_b.ensures c.along-normal_c.ensures))
    (upstream_within (2 ^ 56) n g arrays (next a) (next (next a)) (speed flow.speeds (next (next a))) t c.args.j c.args.k c.requires.arrays.small le.0 le.1 le.2)

pub force_row-requires-clause-second_small : goal.force_row-requires-clause-second_small
force_row-requires-clause-second_small c t l =
    let n = c.args.size.n in
    let g = c.args.size.g in
    let flow = flow_of c.args.flow.now in
    let arrays = by_axis c.args.bx.now c.args.by.now c.args.bz.now in
    let a = c.args.axis in
    let le = edge_inside a n t c.args.j c.args.k (subst (λ m. t < m) c.requires.out l) c.requires.inside.0 c.requires.inside.1 in
    subst (Within (2 ^ 56))
    (sym (c.upstream_row-faces_c.ensures.numbers t l
    ∙ second_is n g a c.after-b.result c.after-c.result flow arrays c.along-normal_b.result.now c.along-normal_c.result.now t c.args.j c.args.k
    c.after-b.ensures c.after-c.ensures c.along-normal_b.ensures c.along-normal_c.ensures))
    (upstream_within (2 ^ 56) n g arrays (next (next a)) (next a) (speed flow.speeds (next a)) t c.args.j c.args.k c.requires.arrays.small le.0 le.1 le.2)

pub returns-clause-numbers : goal.returns-clause-numbers
returns-clause-numbers c t h =
    let n = c.args.size.n in
    let g = c.args.size.g in
    let flow = flow_of c.args.flow.now in
    let arrays = by_axis c.args.bx.now c.args.by.now c.args.bz.now in
    let a = c.args.axis in
    let l = subst (λ m. t < m) (sym c.requires.out) h in
    c.force_row.ensures.forces t l
    ∙ ap₂ (λ p q. force_from n a flow p q t c.args.j c.args.k)
    (c.upstream_row-faces_b.ensures.numbers t l
    ∙ first_is n g a c.after-b.result c.after-c.result flow arrays c.along-normal_b.result.now c.along-normal_c.result.now t c.args.j c.args.k
    c.after-b.ensures c.after-c.ensures c.along-normal_b.ensures c.along-normal_c.ensures)
    (c.upstream_row-faces_c.ensures.numbers t l
    ∙ second_is n g a c.after-b.result c.after-c.result flow arrays c.along-normal_b.result.now c.along-normal_c.result.now t c.args.j c.args.k
    c.after-b.ensures c.after-c.ensures c.along-normal_b.ensures c.along-normal_c.ensures)
