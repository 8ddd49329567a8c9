use Rattle.std.proofs.Common.{◌≡◌, ◌<◌, length, subst, sym, ap, ◌∙◌, List, ℤ}
use Rattle.mesh_model.specs.Fields.Arrays.{Counts, array_in, var_length}
use Rattle.mesh_model.specs.Fields.ArrayPlaces.{extents_of, number_at}
use Rattle.mesh_model.specs.Fields.FinePlaces.{FineSumsAreSmall, IsSummed}
use Rattle.mesh_model.specs.Fields.Ranks.{rank_at}
use Rattle.mesh_model.specs.Tree.ValidGrid.{Valid}
use Rattle.block_tree.proofs.Facts.{known}
use Rattle.block_tree.specs.Numbered.{block_at}
use Rattle.regrid_move.specs.AxisMoves.{HoldsAxis, OctantHoldsAxis, array_of, count_of, var_of}
use Rattle.regrid_move.proofs.AxisMoved.{axis_fit, axis_only, axis_value, child_small, octant_summed, other_octant, summed_sized}
use Rattle.regrid_move.proofs.axes.sum_axis.Goals as goal

pub restrict_axis-requires-clause-few : goal.restrict_axis-requires-clause-few
restrict_axis-requires-clause-few g c =
    let old = c.args.old.now in
    let a = c.args.axis in
    let var = var_of c.args.kind a in
    let valid : Valid old.told.grid = subst Valid c.tree-tree.ensures (known c.tree-tree.result.now).valid in
    let value = c.values-values.ensures.value ∙ ap (λ v. array_in (rank_at old 0).own.values v c.args.child) c.var_of-var.ensures in
    subst (λ (ys : List ℤ). FineSumsAreSmall g.row.N g.row.G var (number_at (extents_of g.row.N g.row.G var) ys)) (sym value)
    (child_small g.row.N g.row.G c.args.kind old c.args.new.now a c.args.octant c.args.child c.args.node valid c.requires.may c.requires.child c.requires.inside)

pub returns-clause-only : goal.returns-clause-only
returns-clause-only g c =
    let declared = subst (λ (n : Counts). 0 < count_of c.args.kind n) (sym c.requires.may.counts) c.requires.may.declared in
    axis_only g.row.N g.row.G c.args.kind c.args.new.now c.args.axis c.args.node c.var_of-var.result c.var_of-var.ensures c.restrict_axis.new.parent c.values-values.ensures.size c.requires.may.new_fit c.requires.may.leaf.there declared

pub returns-clause-fit : goal.returns-clause-fit
returns-clause-fit g c =
    let declared = subst (λ (n : Counts). 0 < count_of c.args.kind n) (sym c.requires.may.counts) c.requires.may.declared in
    axis_fit g.row.N g.row.G c.args.kind c.args.new.now c.args.axis c.args.node c.var_of-var.result c.var_of-var.ensures c.restrict_axis.new.parent c.values-values.ensures.size c.requires.may.new_fit c.requires.may.leaf.there declared

pub returns-clause-sums : goal.returns-clause-sums
returns-clause-sums g c field holds =
    let k = c.args.kind in
    let w = c.args.new.now in
    let old = c.args.old.now in
    let grid = old.told.grid in
    let a = c.args.axis in
    let var = c.var_of-var.result in
    let b = block_at w.told.grid c.args.node in
    let xs = c.restrict_axis.new.parent in
    let declared = subst (λ (n : Counts). 0 < count_of k n) (sym c.requires.may.counts) c.requires.may.declared in
    let long : length xs ≡ var_length g.row.N g.row.G var = c.restrict_axis.ensures.size ∙ c.values_mut.ensures.whole in
    let is = axis_value g.row.N g.row.G k w a c.args.node var c.var_of-var.ensures xs c.values-values.ensures.size c.requires.may.new_fit c.requires.may.leaf.there declared long in
    let valid : Valid grid = subst Valid c.tree-tree.ensures (known c.tree-tree.result.now).valid in
    let child = array_of k old a c.args.child in
    let value = c.values-values.ensures.value ∙ ap (λ v. array_in (rank_at old 0).own.values v c.args.child) c.var_of-var.ensures in
    let sums : IsSummed grid.shape.n grid.shape.g (var_of k a) c.args.octant child c.values_mut.result.now xs =
    summed_sized g.row.N g.row.G c.args.octant (var_of k a) grid.shape child c.values_mut.result.now xs c.requires.may.old_fit.sizes
    (subst (λ (ys : List ℤ). IsSummed g.row.N g.row.G (var_of k a) c.args.octant ys c.values_mut.result.now xs) value c.restrict_axis.ensures) in
    subst (λ ys. OctantHoldsAxis k grid field a b c.args.octant ys) (sym is)
    (octant_summed k grid field a b c.args.octant child c.values_mut.result.now xs valid sums
    (subst (λ d. HoldsAxis k grid field a d child) c.requires.inside (holds c.args.child c.requires.child a)))

pub returns-clause-stays : goal.returns-clause-stays
returns-clause-stays g c field p hp ne holds before =
    let k = c.args.kind in
    let w = c.args.new.now in
    let old = c.args.old.now in
    let grid = old.told.grid in
    let a = c.args.axis in
    let var = c.var_of-var.result in
    let b = block_at w.told.grid c.args.node in
    let xs = c.restrict_axis.new.parent in
    let declared = subst (λ (n : Counts). 0 < count_of k n) (sym c.requires.may.counts) c.requires.may.declared in
    let long : length xs ≡ var_length g.row.N g.row.G var = c.restrict_axis.ensures.size ∙ c.values_mut.ensures.whole in
    let is = axis_value g.row.N g.row.G k w a c.args.node var c.var_of-var.ensures xs c.values-values.ensures.size c.requires.may.new_fit c.requires.may.leaf.there declared long in
    let valid : Valid grid = subst Valid c.tree-tree.ensures (known c.tree-tree.result.now).valid in
    let child = array_of k old a c.args.child in
    let value = c.values-values.ensures.value ∙ ap (λ v. array_in (rank_at old 0).own.values v c.args.child) c.var_of-var.ensures in
    let was : c.values_mut.result.now ≡ array_of k w a c.args.node = c.values_mut.ensures.value ∙ ap (λ v. array_in (rank_at w 0).own.values v c.args.node) c.var_of-var.ensures in
    let sums : IsSummed grid.shape.n grid.shape.g (var_of k a) c.args.octant child c.values_mut.result.now xs =
    summed_sized g.row.N g.row.G c.args.octant (var_of k a) grid.shape child c.values_mut.result.now xs c.requires.may.old_fit.sizes
    (subst (λ (ys : List ℤ). IsSummed g.row.N g.row.G (var_of k a) c.args.octant ys c.values_mut.result.now xs) value c.restrict_axis.ensures) in
    subst (λ ys. OctantHoldsAxis k grid field a b p ys) (sym is)
    (other_octant k grid field a b c.args.octant p child c.values_mut.result.now xs valid c.requires.octant hp ne sums
    (subst (λ d. HoldsAxis k grid field a d child) c.requires.inside (holds c.args.child c.requires.child a))
    (subst (λ (ys : List ℤ). OctantHoldsAxis k grid field a b p ys) (sym was) before))
