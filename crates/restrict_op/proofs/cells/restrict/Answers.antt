use Rattle.std.proofs.Common.{◌≡◌, ◌*◌, ◌/◌, arith, subst}
use Rattle.mesh_model.specs.Fields.Octants.{octant_box, summed}
use Rattle.mesh_model.specs.Fields.ArrayPlaces.{AreRowsWritten, cell_extents, number_at}
use Rattle.mesh_model.proofs.FieldLemmas.BlockOctants.{octant_fits}
use Rattle.mesh_model.proofs.FieldLemmas.BlockPlaces.{all_rows, one_more_row}
use Rattle.restrict_op.proofs.cells.restrict.Goals as goal

pub loop-m-preserved : goal.loop-m-preserved
loop-m-preserved c =
    let e = cell_extents c.args.n c.args.g in
    one_more_row e (octant_box c.args.n c.args.g c.args.q) (octant_fits c.args.n c.args.g c.args.q c.requires.size) c.loop-m.m (summed c.args.g (number_at e c.args.child.now))
    c.args.parent.now c.loop-m.parent c.restrict_row.new.parent c.loop-m-test.true c.loop-m.invariant c.restrict_row.ensures

pub returns : goal.returns
returns c =
    let e = cell_extents c.args.n c.args.g in
    let b = octant_box c.args.n c.args.g c.args.q in
    let last : c.loop-m.m ≡ c.args.n / 2 * (c.args.n / 2) = omega arith in
    all_rows e b (octant_fits c.args.n c.args.g c.args.q c.requires.size) (summed c.args.g (number_at e c.args.child.now)) c.args.parent.now c.loop-m.parent
    (subst (λ m. AreRowsWritten m e b (summed c.args.g (number_at e c.args.child.now)) c.args.parent.now c.loop-m.parent) last c.loop-m.invariant)
