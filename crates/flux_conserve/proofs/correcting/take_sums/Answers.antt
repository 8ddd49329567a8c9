use Rattle.std.proofs.Common.{◌≡◌, length, List, ℤ, ap, subst, sym, ◌∙◌}
use Rattle.amr_num.specs.Numbers.{at}
use Rattle.mesh_model.specs.Fields.Arrays.{array_in, var_length}
use Rattle.mesh_model.specs.Fields.Ranks.{rank_at, world_with}
use Rattle.mesh_model.specs.Tree.ValidGrid.{Valid}
use Rattle.block_tree.proofs.Facts.{known}
use Rattle.rank_world.specs.Holding.{face_var}
use Rattle.flux_conserve.specs.Jumps.{side_position}
use Rattle.flux_conserve.specs.Sums.{IsSideSet, sum_place}
use Rattle.flux_conserve.specs.FaceArrays.{SideTaken, stored}
use Rattle.flux_conserve.proofs.Taking.{side_taken, sizes}
use Rattle.flux_conserve.proofs.correcting.take_sums.Goals as goal

pub returns : goal.returns
returns g c =
    let n = g.row.N in
    let e = g.row.G in
    let w = c.args.world.now in
    let a = c.args.axis in
    let work = c.args.work in
    let ys = c.set_side.new.values in
    let sums = c.gather.new.sums in
    let valid : Valid w.told.grid = subst Valid c.tree.ensures (known c.tree.result.now).valid in
    let is : c.face_var.result ≡ face_var work a = c.face_var.ensures.value in
    let long : length ys ≡ var_length n e (face_var work a) = c.set_side.ensures.size ∙ c.values_mut-values.ensures.whole ∙ ap (var_length n e) is in
    let set : IsSideSet n e a (side_position n c.args.high) (λ s t. at sums (sum_place n s t)) (stored work w a c.args.node) ys =
    subst (λ (xs : List ℤ). IsSideSet n e a (side_position n c.args.high) (λ s t. at sums (sum_place n s t)) xs ys) (c.values_mut-values.ensures.value ∙ ap (λ v. array_in (rank_at w 0).own.values v c.args.node) is)
    (subst (λ p. IsSideSet n e a p (λ s t. at sums (sum_place n s t)) c.values_mut-values.result.now ys) c.position.ensures c.set_side.ensures) in
    subst (λ v. SideTaken work n e w (world_with w 0 v c.args.node ys) c.args.node a c.args.high c.args.beside) (sym is)
    (side_taken work w c.args.node a c.args.high c.args.beside sums ys c.requires.leaf.there c.requires.declared n e c.requires.fit.sizes (sizes n e w.told.grid.shape c.requires.fit.sizes valid.shape) c.requires.fit long set
    c.gather.ensures.within c.gather.ensures.sums)
