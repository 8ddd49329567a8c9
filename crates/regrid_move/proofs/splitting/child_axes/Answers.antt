use Rattle.std.proofs.Common.{subst, sym}
use Rattle.amr_num.specs.declared.Axis.{Axis}
use Rattle.mesh_model.specs.Fields.FaceSplits.{by_axis}
use Rattle.regrid_move.specs.AxisMoves.{FieldOf, HoldsAxis, LeavesHoldAxes}
use Rattle.regrid_move.proofs.splitting.child_axes.Goals as goal

pub returns-in-Faces-clause-views : goal.returns-in-Faces-clause-views
returns-in-Faces-clause-views g c =
    let old = c.args.old.now in
    subst (λ k. (field : FieldOf k) → LeavesHoldAxes k old field → (a : Axis) → HoldsAxis k old.told.grid field a c.args.block (by_axis c.child_faces.new.cx c.child_faces.new.cy c.child_faces.new.cz a)) (sym c.in-Faces.is)
    c.child_faces.ensures.views

pub returns-in-Edges-clause-views : goal.returns-in-Edges-clause-views
returns-in-Edges-clause-views g c =
    let old = c.args.old.now in
    subst (λ k. (field : FieldOf k) → LeavesHoldAxes k old field → (a : Axis) → HoldsAxis k old.told.grid field a c.args.block (by_axis c.child_edges.new.cx c.child_edges.new.cy c.child_edges.new.cz a)) (sym c.in-Edges.is)
    c.child_edges.ensures.views
