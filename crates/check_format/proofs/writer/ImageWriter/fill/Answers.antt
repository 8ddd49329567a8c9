use borrow.Rule.Slice.PartMut.{mid_of, put_mid}
use Rattle.std.proofs.Common.{◌+◌, ◌-◌, flat_map, length, ap, sym, subst, ◌∙◌, arith}
use Rattle.std.specs.List.{range_with_len}
use Rattle.check_format.specs.declared.writer.ImageWriter.{ImageWriter}
use Rattle.check_format.specs.Numbered.{IsPut}
use Rattle.check_format.specs.Written as written
use Rattle.check_format.specs.Writing.{handed}
use Rattle.check_format.proofs.Putting.{one_more, put_two}
use Rattle.check_format.proofs.writer.ImageWriter.fill.Goals as goal

pub returns-then-size-room-clause-within : goal.returns-then-size-room-clause-within
returns-then-size-room-clause-within g c = λ h.
    let count = c.piece_count-number-end.ensures.value c.args.self.now.turn c.args.marks.now c.args.outs.now (g.V.BlockValues.number c.args.values.now) in
    let next = ap (λ w. w.next) c.loop-number.invariant.3 in
    let here = c.loop-number-test.true in
    omega (arith, count, next, here)

pub put_piece-size-requires-clause-number : goal.put_piece-size-requires-clause-number
put_piece-size-requires-clause-number g c =
    let count = c.piece_count-number-end.ensures.value c.args.self.now.turn c.args.marks.now c.args.outs.now (g.V.BlockValues.number c.args.values.now) in
    let here = c.loop-number-test.true in
    omega (arith, count, here)

pub loop-number-preserved : goal.loop-number-preserved
loop-number-preserved g c =
    let held = c.loop-number.invariant in
    let f = (written.image_pieces (handed c.args.self.now.turn c.args.tree.now c.args.marks.now c.args.names.now c.args.outs.now (g.V.BlockValues.number c.args.values.now))).piece in
    let start = c.args.self.now.next in
    let i = c.loop-number.number in
    let from = c.loop-number.auto.number in
    let long = c.loop-number.auto.buf in
    let small = c.if-size-room.false in
    let few = c.put_piece-size.ensures.few in
    let room = c.min-room.ensures in
    let big = c.requires.room in
    let piece = subst (λ t. IsPut ((written.image_pieces (handed t c.args.tree.now c.args.marks.now c.args.names.now c.args.outs.now (g.V.BlockValues.number c.args.values.now))).piece i) c.put_piece-size.result (mid_of c.loop-number.size (length c.loop-number.buf - c.loop-number.size) c.loop-number.buf) c.put_piece-size.new.buf) (ap (λ w. w.turn) held.3) c.put_piece-size.ensures.put in
    let two = put_two (flat_map f (range_with_len start (i - start))) (f i) c.loop-number.size c.put_piece-size.result c.args.buf.now c.loop-number.buf c.put_piece-size.new.buf held.0 (omega (arith, small, room, big, long)) piece (omega (arith, small, few, room, big, long)) in
    let self = c.put_piece-size.ensures.all ∙ ap (λ (w : ImageWriter). record w { last = c.put_piece-size.new.self.last }) held.3 in (
      subst (λ u. IsPut u (c.loop-number.size + c.put_piece-size.result) c.args.buf.now (put_mid c.loop-number.size (length c.loop-number.buf - c.loop-number.size) c.loop-number.buf c.put_piece-size.new.buf)) (sym (one_more f start i from)) two,
      omega (arith, small, few),
      c.put_piece-size.ensures.last,
      ap (λ (w : ImageWriter). record w { next = i + 1 }) self,
    )

pub returns-clause-within : goal.returns-clause-within
returns-clause-within g c = λ h.
    let count = c.piece_count-number-end.ensures.value c.args.self.now.turn c.args.marks.now c.args.outs.now (g.V.BlockValues.number c.args.values.now) in
    let next = ap (λ w. w.next) c.loop-number.invariant.3 in
    let end = c.loop-number.auto.number-end (omega (arith, count, h)) in
    omega (arith, count, next, end)

pub returns-clause-end : goal.returns-clause-end
returns-clause-end g c = λ z.
    let count = c.piece_count-number-end.ensures.value c.args.self.now.turn c.args.marks.now c.args.outs.now (g.V.BlockValues.number c.args.values.now) in
    let next = ap (λ w. w.next) c.loop-number.invariant.3 in
    let past = c.loop-number-test.false in
    omega (arith, count, next, past)
