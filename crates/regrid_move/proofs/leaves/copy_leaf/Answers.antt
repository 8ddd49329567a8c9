use Rattle.std.proofs.Common.{◌≡◌, ◌<◌, length, subst, sym, ◌∙◌}
use Rattle.mesh_model.specs.Fields.Ranks.{world_with}
use Rattle.mesh_model.specs.declared.fields.values.Var.TheVariants.{Cell}
use Rattle.mesh_model.specs.Fields.Arrays.{Counts, var_length}
use Rattle.mesh_model.specs.Fields.Octants.{cells_of}
use Rattle.mesh_model.specs.Fields.ArrayPlaces.{HoldsViews}
use Rattle.mesh_model.proofs.FieldLemmas.Worlds.{fit_after, has_array, only_of, written_in}
use Rattle.block_tree.specs.Numbered.{block_at}
use Rattle.rank_world.specs.Holding.{cell_array}
use Rattle.regrid_move.proofs.Moved.{moved_as}
use Rattle.regrid_move.proofs.leaves.copy_leaf.Goals as goal

pub returns-clause-only : goal.returns-clause-only
returns-clause-only g c = only_of c.args.new.now (Cell c.args.v) c.args.node c.copy_from_slice.new.self c.requires.may.new_fit.one

pub returns-clause-fit : goal.returns-clause-fit
returns-clause-fit g c =
    let declared = subst (λ (n : Counts). c.args.v < n.cells) (sym c.requires.may.counts) c.requires.may.variable in
    let has = has_array g.row.N g.row.G c.args.new.now (Cell c.args.v) c.args.node c.requires.may.new_fit c.requires.may.leaf.there declared in
    fit_after c.args.new.now (Cell c.args.v) c.args.node c.copy_from_slice.new.self c.requires.may.new_fit.one g.row.N g.row.G c.values-values.ensures.size c.requires.may.new_fit has

pub returns-clause-views : goal.returns-clause-views
returns-clause-views g c content holds =
    let w = c.args.new.now in
    let xs = c.copy_from_slice.new.self in
    let declared = subst (λ (n : Counts). c.args.v < n.cells) (sym c.requires.may.counts) c.requires.may.variable in
    let has = has_array g.row.N g.row.G w (Cell c.args.v) c.args.node c.requires.may.new_fit c.requires.may.leaf.there declared in
    let long : length xs ≡ var_length g.row.N g.row.G (Cell c.args.v) = c.copy_from_slice.ensures.len ∙ c.values_mut.ensures.whole in
    let is = written_in w (Cell c.args.v) c.args.node xs c.requires.may.new_fit.one g.row.N g.row.G c.values-values.ensures.size c.requires.may.new_fit has long in
    moved_as c.args.old.now (world_with w 0 (Cell c.args.v) c.args.node xs) c.args.v c.args.node content (block_at w.told.grid c.args.node) (cell_array c.args.old.now c.args.v c.args.from)
    c.requires.may.shape (is ∙ c.copy_from_slice.ensures.after ∙ c.values-values.ensures.value)
    (subst (λ b. HoldsViews c.args.old.now.told.grid content b (cells_of c.args.old.now.told.grid (cell_array c.args.old.now c.args.v c.args.from))) c.requires.same
    (holds c.args.from c.requires.from))
