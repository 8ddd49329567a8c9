use Rattle.std.proofs.Common.{◌≡◌, ◌+◌, ◌+ℤ◌, ℕ, ℤ, rules}
use Rattle.amr_num.specs.Numbers.{floor_div}
use Rattle.mesh_model.specs.Fields.ArrayPlaces.{edge_extents, number_at}
use Rattle.mesh_model.specs.Fields.EdgeSplits.{edge_mean}
use Rattle.prolong_op.proofs.EdgeMeans.{mean_of_four}
use Rattle.prolong_op.proofs.edges.mean_beside.Goals as goal

pub returns : goal.returns
returns c =
    let edge = c.args.edge in
    let n = c.args.n in
    let g = c.args.g in
    let numbers : ℕ → ℕ → ℕ → ℤ = λ i j k. number_at (edge_extents n g edge.axis) c.args.values.now (g + i) (g + j) (g + k) in
    let of_four : c.mean4.result ≡ floor_div (c.number_beside.result +ℤ c.number_beside-2.result +ℤ c.number_beside-3.result +ℤ c.number_beside-4.result) 4 = search rules in
    let is : c.mean4.result ≡ edge_mean edge.axis numbers edge.i edge.j edge.k =
    mean_of_four edge.axis numbers edge.i edge.j edge.k c.first_position-first.result c.second_position-second.result c.number_beside.result c.number_beside-2.result
    c.number_beside-3.result c.number_beside-4.result c.mean4.result c.first_position-first.ensures c.second_position-second.ensures
    c.number_beside.ensures.value c.number_beside-2.ensures.value c.number_beside-3.ensures.value c.number_beside-4.ensures.value of_four in
    search rules
