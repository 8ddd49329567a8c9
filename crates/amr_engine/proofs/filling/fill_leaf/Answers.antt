use Rattle.std.proofs.Common.{◌≡◌, ap, length, subst, sym, ◌∙◌}
use Rattle.mesh_model.specs.declared.fields.values.Var.TheVariants.{Cell}
use Rattle.mesh_model.specs.Fields.Arrays.{var_length}
use Rattle.mesh_model.specs.Tree.Kinds.{Grid}
use Rattle.mesh_model.specs.Geometry.Blocks.{InDomain}
use Rattle.mesh_model.proofs.FieldLemmas.Worlds.{fit_after, has_array, only_of, written_in}
use Rattle.block_tree.specs.Numbered.{block_at}
use Rattle.rank_world.specs.Holding.{cell_array}
use Rattle.amr_engine.specs.Filling.{IsFilled}
use Rattle.mesh_model.specs.Geometry.Limits.{IsShape}
use Rattle.mesh_model.specs.Fields.ArrayPlaces.{IsSize}
use Rattle.staggered.proofs.Blocks.{size_by, small_block}
use Rattle.amr_engine.proofs.filling.fill_leaf.Goals as goal

pub fill_block-requires-clause-block : goal.fill_block-requires-clause-block
fill_block-requires-clause-block g c =
    let same = ap (λ (h : Grid). h.shape) (c.tree-2.ensures ∙ sym c.tree.ensures) ∙ sym c.shape-shape.ensures.value in
    small_block c.shape-shape.result c.at-block.result c.shape-shape.ensures.limits (subst (λ s. InDomain s c.at-block.result) same c.at-block.ensures.inside)

pub returns-clause-only : goal.returns-clause-only
returns-clause-only g c = only_of c.args.world.now (Cell c.args.v) c.args.node c.fill_block.new.values c.requires.leaf.fit.one

pub returns-clause-fit : goal.returns-clause-fit
returns-clause-fit g c =
    let has = has_array g.row.N g.row.G c.args.world.now (Cell c.args.v) c.args.node c.requires.leaf.fit c.requires.leaf.leaf.there c.requires.leaf.variable in
    let size : IsSize g.row.N g.row.G = size_by g.row.N g.row.G c.args.world.now.told.grid.shape (subst IsShape (c.shape-shape.ensures.value ∙ ap (λ (h : Grid). h.shape) c.tree.ensures) c.shape-shape.ensures.limits) c.requires.leaf.fit.sizes in
    fit_after c.args.world.now (Cell c.args.v) c.args.node c.fill_block.new.values c.requires.leaf.fit.one g.row.N g.row.G size c.requires.leaf.fit has

pub returns-clause-filled : goal.returns-clause-filled
returns-clause-filled g c =
    let w = c.args.world.now in
    let xs = c.fill_block.new.values in
    let has = has_array g.row.N g.row.G w (Cell c.args.v) c.args.node c.requires.leaf.fit c.requires.leaf.leaf.there c.requires.leaf.variable in
    let size : IsSize g.row.N g.row.G = size_by g.row.N g.row.G c.args.world.now.told.grid.shape (subst IsShape (c.shape-shape.ensures.value ∙ ap (λ (h : Grid). h.shape) c.tree.ensures) c.shape-shape.ensures.limits) c.requires.leaf.fit.sizes in
    let long : length xs ≡ var_length g.row.N g.row.G (Cell c.args.v) = c.fill_block.ensures.size ∙ c.values_mut.ensures.whole in
    let is = written_in w (Cell c.args.v) c.args.node xs c.requires.leaf.fit.one g.row.N g.row.G size c.requires.leaf.fit has long in
    let block = c.at-block.ensures.value ∙ ap (λ h. block_at h c.args.node) c.tree-2.ensures in
    subst (λ ys. IsFilled g.row.N g.row.G (block_at w.told.grid c.args.node) c.args.fill (cell_array w c.args.v c.args.node) ys) (sym is)
    (subst (λ b. IsFilled g.row.N g.row.G b c.args.fill (cell_array w c.args.v c.args.node) xs) block
    (subst (λ ys. IsFilled g.row.N g.row.G c.at-block.result c.args.fill ys xs) c.values_mut.ensures.value c.fill_block.ensures))
