use Rattle.std.proofs.Common.{arith}
use Rattle.mesh_model.specs.Fields.ArrayPlaces.{number_at}
use Rattle.guard_fill.specs.Strips.{box_of, from_places}
use Rattle.guard_fill.proofs.PatchRows.{all_planes, no_more_row, no_plane, one_more_at, one_more_plane, reach_fits}
use Rattle.guard_fill.proofs.copying.copy_places.Goals as goal

pub loop-k-init : goal.loop-k-init
loop-k-init c =
    let e = c.args.extents in
    no_plane e (box_of c.args.patch) (reach_fits e c.args.g c.args.patch c.requires.reach) (from_places c.args.g c.args.patch (number_at e c.args.source.now)) c.args.room.now

pub loop-j-init : goal.loop-j-init
loop-j-init c =
    let e = c.args.extents in
    no_more_row e (box_of c.args.patch) (reach_fits e c.args.g c.args.patch c.requires.reach) (from_places c.args.g c.args.patch (number_at e c.args.source.now)) c.args.room.now c.loop-k.k c.loop-k.room c.loop-k.invariant

pub loop-j-preserved : goal.loop-j-preserved
loop-j-preserved c =
    let e = c.args.extents in
    one_more_at e (box_of c.args.patch) (reach_fits e c.args.g c.args.patch c.requires.reach) (from_places c.args.g c.args.patch (number_at e c.args.source.now)) c.args.room.now c.loop-j.j c.loop-k.k c.loop-j.room c.copy_places_row.new.room
    c.loop-j-test.true c.loop-k-test.true c.loop-j.invariant c.copy_places_row.ensures

pub loop-k-preserved : goal.loop-k-preserved
loop-k-preserved c =
    let e = c.args.extents in
    one_more_plane e (box_of c.args.patch) (reach_fits e c.args.g c.args.patch c.requires.reach) (from_places c.args.g c.args.patch (number_at e c.args.source.now)) c.args.room.now c.loop-j.j c.loop-k.k c.loop-j.room (omega arith) c.loop-j.invariant

pub returns : goal.returns
returns c =
    let e = c.args.extents in
    all_planes e (box_of c.args.patch) (reach_fits e c.args.g c.args.patch c.requires.reach) (from_places c.args.g c.args.patch (number_at e c.args.source.now)) c.args.room.now c.loop-k.k c.loop-k.room (omega arith) c.loop-k.invariant
