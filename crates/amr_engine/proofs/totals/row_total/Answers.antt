use Rattle.std.proofs.Common.{◌≡◌, ◌+◌, ◌∙◌, ap, arith}
use Rattle.std.proofs.lemmas.Int.{ints}
use Rattle.amr_num.specs.Numbers.{at, sum_below}
use Rattle.amr_num.proofs.Parts.{sum_below_same}
use Rattle.mesh_model.specs.Fields.ArrayPlaces.{cell_extents, number_at}
use Rattle.amr_engine.proofs.totals.row_total.Goals as goal

pub returns-clause-value : goal.returns-clause-value
returns-clause-value c =
    let n = c.args.n in
    let g = c.args.g in
    let row = c.cell_row.result.now in
    let same : c.sum_of.result ≡ sum_below n (λ i. number_at (cell_extents n g) c.args.values.now (g + i) (g + c.args.j) (g + c.args.k)) =
    c.sum_of.ensures.value ∙ ap (λ m. sum_below m (λ i. at row i)) c.cell_row.ensures.size
    ∙ sum_below_same n (λ i. at row i) (λ i. number_at (cell_extents n g) c.args.values.now (g + i) (g + c.args.j) (g + c.args.k)) (λ i h. c.cell_row.ensures.cells i h) in
    grind (arith, ints)
