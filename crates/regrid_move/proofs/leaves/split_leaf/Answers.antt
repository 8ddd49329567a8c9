use Rattle.std.proofs.Common.{◌≡◌, ◌<◌, length, subst, sym, ◌∙◌, List, ℤ}
use Rattle.mesh_model.specs.Fields.Ranks.{world_with}
use Rattle.mesh_model.specs.declared.fields.values.Var.TheVariants.{Cell}
use Rattle.mesh_model.specs.Fields.Arrays.{Counts, var_length}
use Rattle.mesh_model.specs.Fields.Octants.{IsSplit, cells_of}
use Rattle.mesh_model.specs.Fields.ArrayPlaces.{HoldsViews}
use Rattle.mesh_model.specs.Tree.ValidGrid.{Valid}
use Rattle.mesh_model.proofs.FieldLemmas.BlockOctants.{child_parted}
use Rattle.mesh_model.proofs.FieldLemmas.Worlds.{fit_after, has_array, only_of, written_in}
use Rattle.block_tree.proofs.Facts.{known}
use Rattle.block_tree.specs.Numbered.{block_at}
use Rattle.rank_world.specs.Holding.{cell_array}
use Rattle.regrid_move.proofs.Moved.{moved_as, split_sized, whole_leaf}
use Rattle.regrid_move.proofs.leaves.split_leaf.Goals as goal

pub returns-clause-only : goal.returns-clause-only
returns-clause-only g c = only_of c.args.new.now (Cell c.args.v) c.args.node c.split_cells.new.child c.requires.may.new_fit.one

pub returns-clause-fit : goal.returns-clause-fit
returns-clause-fit g c =
    let declared = subst (λ (n : Counts). c.args.v < n.cells) (sym c.requires.may.counts) c.requires.may.variable in
    let has = has_array g.row.N g.row.G c.args.new.now (Cell c.args.v) c.args.node c.requires.may.new_fit c.requires.may.leaf.there declared in
    fit_after c.args.new.now (Cell c.args.v) c.args.node c.split_cells.new.child c.requires.may.new_fit.one g.row.N g.row.G c.values-values.ensures.size c.requires.may.new_fit has

pub returns-clause-views : goal.returns-clause-views
returns-clause-views g c content holds =
    let w = c.args.new.now in
    let grid = c.args.old.now.told.grid in
    let xs = c.split_cells.new.child in
    let declared = subst (λ (n : Counts). c.args.v < n.cells) (sym c.requires.may.counts) c.requires.may.variable in
    let has = has_array g.row.N g.row.G w (Cell c.args.v) c.args.node c.requires.may.new_fit c.requires.may.leaf.there declared in
    let long : length xs ≡ var_length g.row.N g.row.G (Cell c.args.v) = c.split_cells.ensures.size ∙ c.values_mut.ensures.whole in
    let is = written_in w (Cell c.args.v) c.args.node xs c.requires.may.new_fit.one g.row.N g.row.G c.values-values.ensures.size c.requires.may.new_fit has long in
    let valid : Valid grid = subst Valid c.tree-tree.ensures (known c.tree-tree.result.now).valid in
    let parent = cell_array c.args.old.now c.args.v c.args.parent in
    let parts : IsSplit grid.shape.n grid.shape.g c.args.octant parent c.values_mut.result.now xs =
    split_sized g.row.N g.row.G c.args.octant grid.shape parent c.values_mut.result.now xs c.requires.may.old_fit.sizes
    (subst (λ (ys : List ℤ). IsSplit g.row.N g.row.G c.args.octant ys c.values_mut.result.now xs) c.values-values.ensures.value c.split_cells.ensures) in
    let child = child_parted grid content (block_at grid c.args.parent) c.args.octant parent c.values_mut.result.now xs valid c.requires.octant (whole_leaf grid valid c.args.parent c.requires.parent)
    parts (holds c.args.parent c.requires.parent) in
    moved_as c.args.old.now (world_with w 0 (Cell c.args.v) c.args.node xs) c.args.v c.args.node content (block_at w.told.grid c.args.node) xs c.requires.may.shape is
    (subst (λ b. HoldsViews grid content b (cells_of grid xs)) c.requires.child child)
