use Rattle.std.proofs.Common.{◌≡◌, ◌*◌, arith, subst}
use Rattle.mesh_model.specs.Fields.Octants.{parted}
use Rattle.mesh_model.specs.Fields.ArrayPlaces.{AreRowsWritten, cell_extents, interior, number_at}
use Rattle.mesh_model.proofs.FieldLemmas.BlockPlaces.{all_rows, interior_fits, one_more_row}
use Rattle.prolong_op.proofs.cells.split.Goals as goal

pub loop-m-preserved : goal.loop-m-preserved
loop-m-preserved c =
    let e = cell_extents c.args.n c.args.g in
    one_more_row e (interior c.args.n c.args.g) (interior_fits c.args.n c.args.g) c.loop-m.m (parted c.args.n c.args.g c.args.q (number_at e c.args.parent.now)) c.args.child.now
    c.loop-m.child c.part_row.new.child c.loop-m-test.true c.loop-m.invariant c.part_row.ensures

pub returns : goal.returns
returns c =
    let e = cell_extents c.args.n c.args.g in
    let b = interior c.args.n c.args.g in
    let wanted = parted c.args.n c.args.g c.args.q (number_at e c.args.parent.now) in
    let last : c.loop-m.m ≡ c.args.n * c.args.n = omega arith in
    all_rows e b (interior_fits c.args.n c.args.g) wanted c.args.child.now c.loop-m.child
    (subst (λ m. AreRowsWritten m e b wanted c.args.child.now c.loop-m.child) last c.loop-m.invariant)
