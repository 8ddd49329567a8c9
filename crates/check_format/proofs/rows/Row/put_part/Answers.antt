use borrow.Rule.Slice.PartMut.{put_mid}
use Rattle.std.proofs.Common.{◌≡◌, ◌+◌, ◌-◌, ◌*◌, length, min, flat_map, sym, ap, subst, ◌∙◌, arith}
use Rattle.std.specs.List.{range_with_len}
use Rattle.block_tree.specs.GridOf.{grid_of}
use Rattle.block_tree.specs.Interior.{places_along}
use Rattle.check_format.specs.Numbered.{IsPut}
use Rattle.check_format.specs.Written as written
use Rattle.amr_num.specs.declared.Axis.TheVariants as axes
use Rattle.check_format.proofs.Putting.{one_more, part_is, put_two}
use Rattle.check_format.proofs.rows.Row.put_part.Goals as goal

-- src/rows.rt:104:9
pub loop-i-preserved : goal.loop-i-preserved
loop-i-preserved g c =
    let held = c.loop-i.invariant in
    let s = c.args.self.now in
    let f = written.place_bytes (grid_of c.args.tree.now) (g.V.BlockValues.number c.args.values.now) s.group s.node s.axis s.k s.j in
    let few = held.1 in
    let from = c.loop-i.auto.i in
    let long = c.loop-i.auto.buf in
    let more = c.put_place-size.ensures.few in
    let big = c.requires.room in
    let end = c.loop-i-test.true in
    let last = c.min-i-end.ensures in
    let two = put_two (flat_map f (range_with_len (5 * c.args.part) (c.loop-i.i - 5 * c.args.part))) (f c.loop-i.i) c.loop-i.size c.put_place-size.result c.args.buf.now c.loop-i.buf c.put_place-size.new.buf held.0 (omega arith) c.put_place-size.ensures.put (omega arith) in
    (subst (λ u. IsPut u (c.loop-i.size + c.put_place-size.result) c.args.buf.now (put_mid c.loop-i.size (length c.loop-i.buf - c.loop-i.size) c.loop-i.buf c.put_place-size.new.buf)) (sym (one_more f (5 * c.args.part) c.loop-i.i from)) two, omega arith)

-- src/rows.rt:82:5
pub returns-clause-put : goal.returns-clause-put
returns-clause-put g c =
    let s = c.args.self.now in
    let f = written.place_bytes (grid_of c.args.tree.now) (g.V.BlockValues.number c.args.values.now) s.group s.node s.axis s.k s.j in
    let many = written.many (grid_of c.args.tree.now) s.group s.axis axes.X in
    let same : c.places_along-many.result ≡ many = c.places_along-many.ensures ∙ (λ i. places_along (c.shape.ensures.value i).n (c.array_on.ensures i) axes.X) in
    let end = c.min-i-end.ensures ∙ ap (λ n. min n (5 * c.args.part + 5)) same in
    let all : c.loop-i.i - 5 * c.args.part ≡ written.part_length many c.args.part = part_is many c.args.part c.loop-i.i c.min-i-end.result end c.loop-i-test.false (c.loop-i.auto.i-end (let h = c.if-first-many.false in let e = c.min-i-end.ensures in omega (arith, h, e))) in
    subst (λ n. IsPut (flat_map f (range_with_len (5 * c.args.part) n)) c.loop-i.size c.args.buf.now c.loop-i.buf) all c.loop-i.invariant.0

-- src/rows.rt:82:5
pub returns-clause-few : goal.returns-clause-few
returns-clause-few g c =
    let few = c.loop-i.invariant.1 in
    let from = c.loop-i.auto.i in
    let last = c.min-i-end.ensures in
    let end = c.loop-i.auto.i-end (let h = c.if-first-many.false in omega (arith, h, last)) in
    omega (arith, few, from, end, last)
