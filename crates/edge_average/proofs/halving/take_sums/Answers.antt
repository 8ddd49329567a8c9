use Rattle.std.proofs.Common.{◌≡◌, length, List, ℤ, ap, subst, sym, ◌∙◌}
use Rattle.amr_num.specs.Numbers.{at}
use Rattle.mesh_model.specs.Fields.Arrays.{array_in, var_length}
use Rattle.mesh_model.specs.Fields.Ranks.{rank_at, world_with}
use Rattle.mesh_model.specs.Tree.ValidGrid.{Valid}
use Rattle.block_tree.proofs.Facts.{known}
use Rattle.block_tree.specs.Numbered.{block_at}
use Rattle.rank_world.specs.Holding.{edge_array, edge_var}
use Rattle.edge_average.specs.EdgeArrays.{LineTaken}
use Rattle.edge_average.specs.EdgeSums.{IsLineSet}
use Rattle.edge_average.specs.Lines.{edge_there, sum_of_halves}
use Rattle.flux_conserve.proofs.Taking.{sizes}
use Rattle.edge_average.proofs.Readings.{line_taken}
use Rattle.edge_average.proofs.halving.take_sums.Goals as goal

pub returns : goal.returns
returns g c =
    let n = g.row.N in
    let e = g.row.G in
    let w = c.args.world.now in
    let line = c.args.line in
    let there = c.args.there in
    let a = line.axis in
    let work = c.args.work in
    let d = block_at w.told.grid c.args.finer in
    let ys = c.set_line.new.values in
    let sums = c.gather.new.sums in
    let valid : Valid w.told.grid = subst Valid c.tree.ensures (known c.tree.result.now).valid in
    let is : c.edge_var.result ≡ edge_var work a = c.edge_var.ensures in
    let long : length ys ≡ var_length n e (edge_var work a) = c.set_line.ensures.size ∙ c.values_mut-values.ensures.whole ∙ ap (var_length n e) is in
    let set : IsLineSet n e a line.first line.second (λ p. at sums p) (edge_array work w a c.args.node) ys =
    subst (λ (xs : List ℤ). IsLineSet n e a line.first line.second (λ p. at sums p) xs ys) (c.values_mut-values.ensures.value ∙ ap (λ v. array_in (rank_at w 0).own.values v c.args.node) is) c.set_line.ensures in
    subst (λ v. LineTaken work n e w (world_with w 0 v c.args.node ys) c.args.node a line.first line.second d there.first there.second) (sym is)
    (line_taken work w c.args.node a line.first line.second d there.first there.second sums ys c.requires.leaf.there c.requires.declared n e c.requires.fit.sizes (sizes n e w.told.grid.shape c.requires.fit.sizes valid.shape)
    c.requires.fit long set c.gather.ensures.within
    (λ field holds p hp. c.gather.ensures.sums field holds p hp ∙ ap (λ x. sum_of_halves field (edge_there w.told.grid.shape x d p there.first there.second)) c.requires.axis))
