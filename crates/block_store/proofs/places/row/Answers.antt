use Rattle.std.proofs.Common.{◌+◌, ◌≤◌, arith, ap, drop, get_or, length, pos, sym, ◌∙◌, rules}
use Rattle.std.proofs.lemmas.List.{get_or-drop, get_or-take}
use Rattle.mesh_model.proofs.FieldLemmas.BlockPlaces.{along_row, row_inside}
use Rattle.block_store.proofs.places.row.Goals as goal

pub slice_bounds-result-end : goal.slice_bounds-result-end
slice_bounds-result-end c =
    let row = row_inside c.args.extents c.args.i c.args.many c.args.j c.args.k c.requires.inside.0 c.requires.inside.1 c.requires.inside.2 in
    let fits : c.place-start.result + c.args.many ≤ length c.args.values.now = omega (arith, c.requires.whole, c.place-start.ensures.value) in
    search rules

pub returns-clause-numbers : goal.returns-clause-numbers
returns-clause-numbers c t h =
    get_or-take _ (drop c.place-start.result c.args.values.now) t (pos 0) (omega arith) ∙ get_or-drop c.place-start.result c.args.values.now t (pos 0)
    ∙ ap (λ p. get_or c.args.values.now (p + t) (pos 0)) c.place-start.ensures.value
    ∙ ap (λ p. get_or c.args.values.now p (pos 0)) (sym (along_row c.args.extents c.args.i t c.args.j c.args.k))
