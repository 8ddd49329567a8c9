use Rattle.std.proofs.Common.{map, arith}
use Rattle.std.proofs.lemmas.List.{length-map}
use Rattle.mesh_model.specs.Images.Image as image
use Rattle.check_format.specs.Written as written
use Rattle.check_format.proofs.Putting.{put_two}
use Rattle.check_format.proofs.head.put_rest.Goals as goal

pub returns : goal.returns
returns c =
    let six = c.requires.six in
    let sides = length-map c.args.sides.now image.side_code in
    let one = c.put_sides-size.ensures.many in
    let two = c.put_counts.ensures.many in
    let room = c.requires.room in
    let long = c.put_sides-size.auto.buf in
    put_two (map image.side_code c.args.sides.now) (written.count_bytes c.args.names.now) c.put_sides-size.result c.put_counts.result c.args.buf.now c.put_sides-size.new.buf c.put_counts.new.buf c.put_sides-size.ensures
    (omega (arith, one, sides, six, room, long)) c.put_counts.ensures (omega (arith, one, two, sides, six, room, long))
