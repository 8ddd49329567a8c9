use borrow.Rule.Slice.PartMut.{put_mid}
use Rattle.std.proofs.Common.{◌≡◌, ◌+◌, ◌-◌, ◌*◌, ◌/◌, ◌%◌, ◌<◌, ◌≤◌, ◌^◌, ℕ, ℤ, arith, ap, drop, get_or, length, pos, subst, sym, ◌∙◌, rules, take}
use Rattle.std.specs.Prelude.{slice_index}
use Rattle.std.proofs.lemmas.List.{length-drop, length-take, length-take-le}
use Rattle.amr_num.specs.Numbers.{Within, at, sum_below}
use Rattle.mesh_model.specs.Fields.FinePlaces.{array_octant, fine_summed, half_extents}
use Rattle.mesh_model.specs.Fields.ArrayPlaces.{IsRowWritten, extents_of, number_at, place_in, row_of, size_of}
use Rattle.mesh_model.proofs.FieldLemmas.BlockPlaces.{row_fits, row_put, row_y, row_z}
use Rattle.restrict_op.proofs.FineRows.{array_octant_fits, extents_small, fine_inside, halves_small, step_inside, steps_sum}
use Rattle.restrict_op.proofs.fine.sum_octant_row.Goals as goal

pub place-from-requires-clause-small : goal.place-from-requires-clause-small
place-from-requires-clause-small c =
    let o = c.args.octant in
    let small = extents_small o.n o.g c.requires.size o.var in
    subst (λ e. (e.x ≤ 17) × (e.y ≤ 17) × (e.z ≤ 17)) (sym c.of-extents.ensures) (small.1, small.3, small.5)

pub place-from-requires-clause-inside : goal.place-from-requires-clause-inside
place-from-requires-clause-inside c =
    let o = c.args.octant in
    let e = extents_of o.n o.g o.var in
    let h = half_extents (o.n / 2) o.var in
    let b = array_octant o.n o.g o.var o.q in
    let fits = array_octant_fits o.n o.g c.requires.size o.var o.q in
    let hy : c.along.inside.y ≡ h.y = search rules in
    let small = halves_small o.n o.g c.requires.size o.var in
    let inside = fine_inside o.n o.g c.requires.size o.var 0 (c.args.m % h.y) (c.args.m / h.y) 0 small.0 (row_y e b fits c.args.m c.requires.row) (row_z e b fits c.args.m c.requires.row) in
    let x = inside.0 in
    let y = inside.1 in
    let z = inside.2 in
    subst (λ d. (o.g < d.x) × (o.g + 2 * (c.args.m % c.along.inside.y) < d.y) × (o.g + 2 * (c.args.m / c.along.inside.y) < d.z)) (sym c.of-extents.ensures)
    (subst (λ w. (o.g < e.x) × (o.g + 2 * (c.args.m % w) < e.y) × (o.g + 2 * (c.args.m / w) < e.z)) (sym hy) (omega arith, omega arith, omega arith))

pub slice_bounds-sum_row-end : goal.slice_bounds-sum_row-end
slice_bounds-sum_row-end c =
    let o = c.args.octant in
    let e = extents_of o.n o.g o.var in
    let h = half_extents (o.n / 2) o.var in
    let b = array_octant o.n o.g o.var o.q in
    let row = row_fits e b (array_octant_fits o.n o.g c.requires.size o.var o.q) c.args.m c.requires.row in
    let hx : c.along.inside.x ≡ h.x = search rules in
    let hy : c.along.inside.y ≡ h.y = search rules in
    let start : c.place-to.result ≡ row_of e b c.args.m =
    c.place-to.ensures.value
    ∙ ap (λ d. place_in d b.x (b.y + c.args.m % c.along.inside.y) (b.z + c.args.m / c.along.inside.y)) c.of-extents.ensures
    ∙ ap (λ w. place_in e b.x (b.y + c.args.m % w) (b.z + c.args.m / w)) hy in
    let fits : c.place-to.result + c.along.inside.x ≤ length c.args.parent.now = omega (arith, c.requires.parent) in
    search rules

pub sum_row-requires-clause-inside : goal.sum_row-requires-clause-inside
sum_row-requires-clause-inside c t q ht hq =
    let o = c.args.octant in
    let e = extents_of o.n o.g o.var in
    let h = half_extents (o.n / 2) o.var in
    let b = array_octant o.n o.g o.var o.q in
    let fits = array_octant_fits o.n o.g c.requires.size o.var o.q in
    let hx : c.along.inside.x ≡ h.x = search rules in
    let hy : c.along.inside.y ≡ h.y = search rules in
    let from : c.place-from.result ≡ place_in e o.g (o.g + 2 * (c.args.m % h.y)) (o.g + 2 * (c.args.m / h.y)) =
    c.place-from.ensures.value
    ∙ ap (λ d. place_in d o.g (o.g + 2 * (c.args.m % c.along.inside.y)) (o.g + 2 * (c.args.m / c.along.inside.y))) c.of-extents.ensures
    ∙ ap (λ w. place_in e o.g (o.g + 2 * (c.args.m % w)) (o.g + 2 * (c.args.m / w))) hy in
    let within : t < h.x = omega (arith, length-take (c.place-to.result + c.along.inside.x - c.place-to.result) (drop c.place-to.result c.args.parent.now)) in
    let there = step_inside o.n o.g c.requires.size o.var c.args.steps.now c.requires.count c.requires.steps t (c.args.m % h.y) (c.args.m / h.y) within
    (row_y e b fits c.args.m c.requires.row) (row_z e b fits c.args.m c.requires.row) q hq in
    subst (λ l. c.place-from.result + 2 * t + slice_index c.args.steps.now q < l) (sym c.requires.child)
    (subst (λ p. p + 2 * t + slice_index c.args.steps.now q < size_of e) (sym from) there)

pub sum_row-requires-clause-small : goal.sum_row-requires-clause-small
sum_row-requires-clause-small c t ht =
    let o = c.args.octant in
    let e = extents_of o.n o.g o.var in
    let h = half_extents (o.n / 2) o.var in
    let b = array_octant o.n o.g o.var o.q in
    let fits = array_octant_fits o.n o.g c.requires.size o.var o.q in
    let hx : c.along.inside.x ≡ h.x = search rules in
    let hy : c.along.inside.y ≡ h.y = search rules in
    let from : c.place-from.result ≡ place_in e o.g (o.g + 2 * (c.args.m % h.y)) (o.g + 2 * (c.args.m / h.y)) =
    c.place-from.ensures.value
    ∙ ap (λ d. place_in d o.g (o.g + 2 * (c.args.m % c.along.inside.y)) (o.g + 2 * (c.args.m / c.along.inside.y))) c.of-extents.ensures
    ∙ ap (λ w. place_in e o.g (o.g + 2 * (c.args.m % w)) (o.g + 2 * (c.args.m / w))) hy in
    let within : t < h.x = omega (arith, length-take (c.place-to.result + c.along.inside.x - c.place-to.result) (drop c.place-to.result c.args.parent.now)) in
    let sums = steps_sum o.n o.g c.requires.size o.var c.args.steps.now c.requires.count c.requires.steps t (c.args.m % h.y) (c.args.m / h.y) c.args.child.now in
    let few = c.requires.few t (c.args.m % h.y) (c.args.m / h.y) within (row_y e b fits c.args.m c.requires.row) (row_z e b fits c.args.m c.requires.row) in
    subst (λ p. Within (2 ^ 62) (sum_below (length c.args.steps.now) (λ q. at c.args.child.now (p + 2 * t + slice_index c.args.steps.now q)))) (sym from)
    (subst (Within (2 ^ 62)) (sym sums) few)

pub returns : goal.returns
returns c =
    let o = c.args.octant in
    let e = extents_of o.n o.g o.var in
    let h = half_extents (o.n / 2) o.var in
    let b = array_octant o.n o.g o.var o.q in
    let j = c.args.m % h.y in
    let k = c.args.m / h.y in
    let wanted : ℕ → ℤ = λ t. fine_summed o.g o.var (number_at e c.args.child.now) t j k in
    let row = row_fits e b (array_octant_fits o.n o.g c.requires.size o.var o.q) c.args.m c.requires.row in
    let hx : c.along.inside.x ≡ h.x = search rules in
    let hy : c.along.inside.y ≡ h.y = search rules in
    let start : c.place-to.result ≡ row_of e b c.args.m =
    c.place-to.ensures.value
    ∙ ap (λ d. place_in d b.x (b.y + c.args.m % c.along.inside.y) (b.z + c.args.m / c.along.inside.y)) c.of-extents.ensures
    ∙ ap (λ w. place_in e b.x (b.y + c.args.m % w) (b.z + c.args.m / w)) hy in
    let from : c.place-from.result ≡ place_in e o.g (o.g + 2 * j) (o.g + 2 * k) =
    c.place-from.ensures.value
    ∙ ap (λ d. place_in d o.g (o.g + 2 * (c.args.m % c.along.inside.y)) (o.g + 2 * (c.args.m / c.along.inside.y))) c.of-extents.ensures
    ∙ ap (λ w. place_in e o.g (o.g + 2 * (c.args.m % w)) (o.g + 2 * (c.args.m / w))) hy in
    let fits : c.place-to.result + h.x ≤ length c.args.parent.now = omega (arith, c.requires.parent) in
    let many : c.place-to.result + c.along.inside.x - c.place-to.result ≡ h.x = omega (arith, hx) in
    let part : length (take (c.place-to.result + c.along.inside.x - c.place-to.result) (drop c.place-to.result c.args.parent.now)) ≡ h.x =
    length-take-le (c.place-to.result + c.along.inside.x - c.place-to.result) (drop c.place-to.result c.args.parent.now) (omega (arith, hx, length-drop c.place-to.result c.args.parent.now)) ∙ many in
    let long : length c.sum_row.new.out ≡ h.x = c.sum_row.ensures.size ∙ part in
    let sums : (t : ℕ) → t < h.x → get_or c.sum_row.new.out t (pos 0) ≡ wanted t = λ t ht.
    c.sum_row.ensures.sums t (subst (λ m. t < m) (sym part) ht)
    ∙ ap (λ p. sum_below (length c.args.steps.now) (λ q. at c.args.child.now (p + 2 * t + slice_index c.args.steps.now q))) from
    ∙ steps_sum o.n o.g c.requires.size o.var c.args.steps.now c.requires.count c.requires.steps t j k c.args.child.now in
    subst (λ s. IsRowWritten s h.x wanted c.args.parent.now (put_mid c.place-to.result (c.place-to.result + c.along.inside.x - c.place-to.result) c.args.parent.now c.sum_row.new.out)) start
    (subst (λ r. IsRowWritten c.place-to.result h.x wanted c.args.parent.now (put_mid c.place-to.result r c.args.parent.now c.sum_row.new.out)) (sym many)
    (row_put c.place-to.result h.x wanted c.args.parent.now c.sum_row.new.out fits long sums))
