use Rattle.std.proofs.Common.{◌++◌, map, arith}
use Rattle.std.proofs.lemmas.List.{length-append, length-map}
use Rattle.mesh_model.specs.Images.Image as image
use Rattle.check_format.specs.Written as written
use Rattle.check_format.proofs.Putting.{put_two}
use Rattle.check_format.proofs.head.put_fields.Goals as goal

pub returns-clause-put : goal.returns-clause-put
returns-clause-put c =
    let s = c.args.shape.now in
    let sides = map image.side_code s.sides in
    let counts = written.count_bytes c.args.names.now in
    let six = c.requires.shape.six in
    let many = length-map s.sides image.side_code in
    let all = length-append sides counts in
    let one = c.put_shape-size.ensures.many in
    let two = c.put_rest.ensures.many in
    let room = c.requires.room in
    let long = c.put_shape-size.auto.buf in
    put_two (written.shape_bytes c.args.turn s) (sides ++ counts) c.put_shape-size.result c.put_rest.result c.args.buf.now c.put_shape-size.new.buf c.put_rest.new.buf c.put_shape-size.ensures
    (omega (arith, one, room, long)) c.put_rest.ensures (omega (arith, one, two, all, many, six, room, long))
