use Rattle.std.proofs.Common.{◌≡◌, ◌<◌, ◌⊎◌, length, subst, sym, ◌∙◌, List, ℤ}
use Rattle.mesh_model.specs.Fields.Ranks.{world_with}
use Rattle.mesh_model.specs.declared.fields.values.Var.TheVariants.{Cell}
use Rattle.mesh_model.specs.Fields.Arrays.{Counts, var_length}
use Rattle.mesh_model.specs.Fields.Octants.{SumsAreSmall, IsRestricted, OctantHolds, cells_of}
use Rattle.mesh_model.specs.Fields.ArrayPlaces.{HoldsViews, cell_extents, number_at}
use Rattle.mesh_model.specs.Tree.ValidGrid.{Valid}
use Rattle.mesh_model.proofs.FieldLemmas.BlockOctants.{few_sized, octant_summed, other_octant, restricted_sized, small_sums}
use Rattle.mesh_model.proofs.FieldLemmas.Worlds.{fit_after, has_array, only_of, written_in}
use Rattle.block_tree.proofs.Facts.{known}
use Rattle.block_tree.specs.Numbered.{block_at}
use Rattle.rank_world.specs.Holding.{cell_array}
use Rattle.regrid_move.proofs.Moved.{octant_as, octant_of}
use Rattle.regrid_move.proofs.leaves.sum_child.Goals as goal

pub restrict_cells-requires-clause-few : goal.restrict_cells-requires-clause-few
restrict_cells-requires-clause-few g c =
    let old = c.args.old.now in
    subst (λ (ys : List ℤ). SumsAreSmall g.row.N g.row.G (number_at (cell_extents g.row.N g.row.G) ys)) (sym c.values-values.ensures.value)
    (few_sized g.row.N g.row.G old.told.grid.shape (cell_array old c.args.v c.args.child) c.requires.may.old_fit.sizes
    (small_sums old.told.grid.shape.n old.told.grid.shape.g (cells_of old.told.grid (cell_array old c.args.v c.args.child))
    (subst (λ m. (m ≡ 4) ⊎ (m ≡ 8)) (sym c.requires.may.old_fit.sizes.cells) c.values-values.ensures.size.cells) (c.requires.may.range c.args.v c.args.child c.requires.may.variable c.requires.child).cells))

pub returns-clause-only : goal.returns-clause-only
returns-clause-only g c = only_of c.args.new.now (Cell c.args.v) c.args.node c.restrict_cells.new.parent c.requires.may.new_fit.one

pub returns-clause-fit : goal.returns-clause-fit
returns-clause-fit g c =
    let declared = subst (λ (n : Counts). c.args.v < n.cells) (sym c.requires.may.counts) c.requires.may.variable in
    let has = has_array g.row.N g.row.G c.args.new.now (Cell c.args.v) c.args.node c.requires.may.new_fit c.requires.may.leaf.there declared in
    fit_after c.args.new.now (Cell c.args.v) c.args.node c.restrict_cells.new.parent c.requires.may.new_fit.one g.row.N g.row.G c.values-values.ensures.size c.requires.may.new_fit has

pub returns-clause-sums : goal.returns-clause-sums
returns-clause-sums g c content holds =
    let w = c.args.new.now in
    let grid = c.args.old.now.told.grid in
    let xs = c.restrict_cells.new.parent in
    let declared = subst (λ (n : Counts). c.args.v < n.cells) (sym c.requires.may.counts) c.requires.may.variable in
    let has = has_array g.row.N g.row.G w (Cell c.args.v) c.args.node c.requires.may.new_fit c.requires.may.leaf.there declared in
    let long : length xs ≡ var_length g.row.N g.row.G (Cell c.args.v) = c.restrict_cells.ensures.size ∙ c.values_mut.ensures.whole in
    let is = written_in w (Cell c.args.v) c.args.node xs c.requires.may.new_fit.one g.row.N g.row.G c.values-values.ensures.size c.requires.may.new_fit has long in
    let valid : Valid grid = subst Valid c.tree-tree.ensures (known c.tree-tree.result.now).valid in
    let child = cell_array c.args.old.now c.args.v c.args.child in
    let sums : IsRestricted grid.shape.n grid.shape.g c.args.octant child c.values_mut.result.now xs =
    restricted_sized g.row.N g.row.G c.args.octant grid.shape child c.values_mut.result.now xs c.requires.may.old_fit.sizes
    (subst (λ (ys : List ℤ). IsRestricted g.row.N g.row.G c.args.octant ys c.values_mut.result.now xs) c.values-values.ensures.value c.restrict_cells.ensures) in
    octant_as c.args.old.now (world_with w 0 (Cell c.args.v) c.args.node xs) c.args.v c.args.node content (block_at w.told.grid c.args.node) c.args.octant xs c.requires.may.shape is
    (octant_summed grid content (block_at w.told.grid c.args.node) valid c.args.octant child c.values_mut.result.now xs sums
    (subst (λ b. HoldsViews grid content b (cells_of grid child)) c.requires.inside (holds c.args.child c.requires.child)))

pub returns-clause-stays : goal.returns-clause-stays
returns-clause-stays g c content p hp ne before =
    let w = c.args.new.now in
    let grid = c.args.old.now.told.grid in
    let xs = c.restrict_cells.new.parent in
    let b = block_at w.told.grid c.args.node in
    let declared = subst (λ (n : Counts). c.args.v < n.cells) (sym c.requires.may.counts) c.requires.may.variable in
    let has = has_array g.row.N g.row.G w (Cell c.args.v) c.args.node c.requires.may.new_fit c.requires.may.leaf.there declared in
    let long : length xs ≡ var_length g.row.N g.row.G (Cell c.args.v) = c.restrict_cells.ensures.size ∙ c.values_mut.ensures.whole in
    let is = written_in w (Cell c.args.v) c.args.node xs c.requires.may.new_fit.one g.row.N g.row.G c.values-values.ensures.size c.requires.may.new_fit has long in
    let valid : Valid grid = subst Valid c.tree-tree.ensures (known c.tree-tree.result.now).valid in
    let child = c.values-values.result.now in
    let sums : IsRestricted grid.shape.n grid.shape.g c.args.octant child c.values_mut.result.now xs =
    restricted_sized g.row.N g.row.G c.args.octant grid.shape child c.values_mut.result.now xs c.requires.may.old_fit.sizes c.restrict_cells.ensures in
    let stood : OctantHolds grid content b p (cells_of grid c.values_mut.result.now) =
    subst (λ (ys : List ℤ). OctantHolds grid content b p (cells_of grid ys)) (sym c.values_mut.ensures.value)
    (octant_of c.args.old.now w c.args.v c.args.node content b p c.requires.may.shape before) in
    octant_as c.args.old.now (world_with w 0 (Cell c.args.v) c.args.node xs) c.args.v c.args.node content b p xs c.requires.may.shape is
    (other_octant grid content b valid c.args.octant p child c.values_mut.result.now xs c.requires.octant hp ne sums stood)
