use borrow.Rule.Slice.PartMut.{put_mid}
use Rattle.std.proofs.Common.{◌+◌, ◌-◌, ◌++◌, ◌∷◌, [], length, map, take, ap, subst, ◌∙◌, arith}
use Rattle.amr_num.specs.declared.SideKind.TheVariants.{Periodic}
use Rattle.mesh_model.specs.Images.Image as image
use Rattle.check_format.specs.Numbered.{IsPut}
use Rattle.check_format.proofs.Putting.{map_many, map_next, put_two}
use Rattle.check_format.proofs.head.put_sides.Goals as goal

pub loop-side-preserved : goal.loop-side-preserved
loop-side-preserved c =
    let i = c.loop-side.side-index in
    let sides = c.args.sides.now in
    let held = c.loop-side.invariant in
    let many = held.many in
    let count = map_many image.side_code sides i (let h = c.loop-side-test.true in omega (arith, h)) in
    let long = c.loop-side.auto.buf in
    let room = c.requires in
    let one = c.put_bytes-size.ensures.many in
    let here = c.loop-side-test.true in
    subst (λ u. IsPut u (c.loop-side.size + c.put_bytes-size.result) c.args.buf.now (put_mid c.loop-side.size (length c.loop-side.buf - c.loop-side.size) c.loop-side.buf c.put_bytes-size.new.buf))
    (ap (λ b. map image.side_code (take i sides) ++ b ∷ []) c.side_code.ensures ∙ map_next image.side_code sides i Periodic here)
    (put_two (map image.side_code (take i sides)) (c.side_code.result ∷ []) c.loop-side.size c.put_bytes-size.result c.args.buf.now c.loop-side.buf c.put_bytes-size.new.buf held (omega (arith, many, count, long, room, here)) c.put_bytes-size.ensures (omega (arith, many, count, long, room, one, here)))
