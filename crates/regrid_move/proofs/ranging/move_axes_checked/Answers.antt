use Rattle.std.proofs.Common.{ap, ◌∙◌}
use Rattle.mesh_model.specs.Fields.Ranks.{Told}
use Rattle.regrid_move.specs.AxisMoves.{view_of}
use Rattle.regrid_move.proofs.AxisMoved.{moved_field}
use Rattle.regrid_move.proofs.ranging.move_axes_checked.Goals as goal

pub returns-clause-stop : goal.returns-clause-stop
returns-clause-stop g c field holds =
    let old = c.args.old.now in
    let new = c.move_axes.new.new in
    let same = ap (λ (t : Told). t.grid.shape) c.move_axes.ensures.only.told ∙ c.requires.may.shape in
    c.leaf_stop.ensures (view_of c.args.kind old.told.grid field) (moved_field c.args.kind old new field c.args.node same (c.move_axes.ensures.views field holds))
