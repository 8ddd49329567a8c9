use Rattle.std.proofs.Common.{◌∷◌, [], codes, arith}
use Rattle.check_format.proofs.Putting.{put_two}
use Rattle.check_format.proofs.head.put_shape.Goals as goal

pub returns : goal.returns
returns c =
    let s = c.args.shape.now in
    let one = c.put_bytes-size.ensures.many in
    let two = c.put_bytes.ensures.many in
    let room = c.requires.room in
    let long = c.put_bytes-size.auto.buf in
    put_two (codes "AMRCHK01") (c.args.turn ∷ s.n ∷ s.g ∷ s.rx ∷ s.ry ∷ s.rz ∷ s.min ∷ s.max ∷ []) c.put_bytes-size.result c.put_bytes.result c.args.buf.now c.put_bytes-size.new.buf c.put_bytes.new.buf c.put_bytes-size.ensures
    (omega (arith, one, room, long)) c.put_bytes.ensures (omega (arith, one, two, room, long))
