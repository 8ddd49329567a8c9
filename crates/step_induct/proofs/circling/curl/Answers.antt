use Rattle.std.proofs.Common.{◌≡◌, subst}
use Rattle.std.specs.Prelude.{IfErr, OnOk, None, Some}
use Rattle.mesh_model.specs.Fields.FaceSplits.{by_axis}
use Rattle.step_induct.specs.Circling.{circled, edges_of, faces_of}
use Rattle.step_induct.proofs.Held.{found_same}
use Rattle.step_induct.proofs.circling.curl.Goals as goal

pub returns-clause-in_range : goal.returns-clause-in_range
returns-clause-in_range g c =
    subst (λ o. OnOk c.in_range.result (o ≡ None))
    (found_same g.row.N c.args.axis c.args.leaf_sides (faces_of g.row.N g.row.G c.args.axis c.circle.new.out)
    (circled (edges_of g.row.N g.row.G (by_axis c.args.ex.now c.args.ey.now c.args.ez.now)) c.args.axis) c.circle.ensures.written)
    c.in_range.ensures.in_range

pub returns-clause-refused : goal.returns-clause-refused
returns-clause-refused g c =
    subst (λ o. IfErr c.in_range.result (λ at. o ≡ Some at))
    (found_same g.row.N c.args.axis c.args.leaf_sides (faces_of g.row.N g.row.G c.args.axis c.circle.new.out)
    (circled (edges_of g.row.N g.row.G (by_axis c.args.ex.now c.args.ey.now c.args.ez.now)) c.args.axis) c.circle.ensures.written)
    c.in_range.ensures.refused
