use Rattle.std.proofs.Common.{◌≡◌, ◌*◌, ◌<◌, ap₂, arith, rules, subst, ◌∙◌}
use Rattle.amr_num.specs.declared.Axis.TheVariants.{Y, Z}
use Rattle.mesh_model.specs.Fields.ArrayPlaces.{AreRowsWritten, edge_extents, number_at}
use Rattle.mesh_model.specs.Fields.EdgeSplits.{edge_box}
use Rattle.mesh_model.specs.Fields.FaceSplits.{by_axis}
use Rattle.mesh_model.specs.Geometry.Places.{longer_across}
use Rattle.mesh_model.proofs.FieldLemmas.BlockPlaces.{all_rows, one_more_row}
use Rattle.step_induct.specs.Forces.{flow_of, force_at}
use Rattle.step_induct.proofs.Forced.{edges_fit, forces_within}
use Rattle.step_induct.proofs.forces.edges.Goals as goal

pub loop-m-preserved : goal.loop-m-preserved
loop-m-preserved c =
    let n = c.args.size.n in
    let g = c.args.size.g in
    let a = c.args.axis in
    let m = c.loop-m.m in
    let hy : c.many.inside.y ≡ longer_across a Y n = search rules in
    let hz : c.many.inside.z ≡ longer_across a Z n = search rules in
    let within : m < longer_across a Y n * longer_across a Z n = subst (λ w. m < w * longer_across a Z n) hy (subst (λ w. m < c.many.inside.y * w) hz c.loop-m-test.true) in
    one_more_row (edge_extents n g a) (edge_box n g a) (edges_fit n g a) m (force_at n g a (flow_of c.args.flow.now) (by_axis c.args.bx.now c.args.by.now c.args.bz.now))
    c.args.out.now c.loop-m.out c.row_of_edges.new.out within c.loop-m.invariant c.row_of_edges.ensures

pub returns-clause-forces : goal.returns-clause-forces
returns-clause-forces c =
    let n = c.args.size.n in
    let g = c.args.size.g in
    let a = c.args.axis in
    let wanted = force_at n g a (flow_of c.args.flow.now) (by_axis c.args.bx.now c.args.by.now c.args.bz.now) in
    let hy : c.many.inside.y ≡ longer_across a Y n = search rules in
    let hz : c.many.inside.z ≡ longer_across a Z n = search rules in
    let all : c.many.inside.y * c.many.inside.z ≡ longer_across a Y n * longer_across a Z n = ap₂ (λ p q. p * q) hy hz in
    let last : c.loop-m.m ≡ c.many.inside.y * c.many.inside.z = omega arith in
    all_rows (edge_extents n g a) (edge_box n g a) (edges_fit n g a) wanted c.args.out.now c.loop-m.out
    (subst (λ m. AreRowsWritten m (edge_extents n g a) (edge_box n g a) wanted c.args.out.now c.loop-m.out) (last ∙ all) c.loop-m.invariant)

pub returns-clause-size : goal.returns-clause-size
returns-clause-size c most near =
    let n = c.args.size.n in
    let g = c.args.size.g in
    let a = c.args.axis in
    forces_within most n g a (flow_of c.args.flow.now) (by_axis c.args.bx.now c.args.by.now c.args.bz.now) (number_at (edge_extents n g a) c.loop-m.out) c.requires.slow near ((returns-clause-forces c).written)
