use Rattle.std.proofs.Common.{◌≡◌, false, List, ℤ, ap, length, subst, sym, ◌∙◌}
use Rattle.mesh_model.specs.declared.fields.values.Var.TheVariants.{Edge}
use Rattle.mesh_model.specs.declared.geometry.Shape.{Shape}
use Rattle.mesh_model.specs.Fields.Arrays.{var_length}
use Rattle.mesh_model.specs.Fields.ArrayPlaces.{IsSize}
use Rattle.mesh_model.specs.Geometry.Blocks.{InDomain}
use Rattle.mesh_model.specs.Geometry.Limits.{IsShape}
use Rattle.mesh_model.specs.Tree.Kinds.{Grid}
use Rattle.mesh_model.proofs.FieldLemmas.Worlds.{fit_after, has_array, only_of, written_in}
use Rattle.block_tree.specs.Numbered.{block_at}
use Rattle.rank_world.specs.Holding.{edge_array}
use Rattle.staggered.specs.EdgeSetting.{AreEdgesSet}
use Rattle.staggered.proofs.Blocks.{size_by, small_block}
use Rattle.staggered.proofs.edge_setting.set_leaf.Goals as goal

pub set_rows-requires-clause-block : goal.set_rows-requires-clause-block
set_rows-requires-clause-block g c =
    small_block c.shape-shape.result c.at.result c.shape-shape.ensures.limits (subst (λ s. InDomain s c.at.result) (sym c.shape-shape.ensures.value) c.at.ensures.inside)

pub returns-clause-only : goal.returns-clause-only
returns-clause-only g c = only_of c.args.world.now (Edge c.args.target.now.edge.axis) c.args.node c.set_rows.new.values c.requires.leaf.fit.one

pub returns-clause-fit : goal.returns-clause-fit
returns-clause-fit g c =
    let w = c.args.world.now in
    let var = Edge c.args.target.now.edge.axis in
    let has = has_array g.row.N g.row.G w var c.args.node c.requires.leaf.fit c.requires.leaf.leaf.there c.requires.leaf.declared in
    let size : IsSize g.row.N g.row.G = size_by g.row.N g.row.G w.told.grid.shape (subst IsShape (c.shape-shape.ensures.value ∙ ap (λ (h : Grid). h.shape) c.tree-tree.ensures) c.shape-shape.ensures.limits) c.requires.leaf.fit.sizes in
    fit_after w var c.args.node c.set_rows.new.values c.requires.leaf.fit.one g.row.N g.row.G size c.requires.leaf.fit has

pub returns-clause-set : goal.returns-clause-set
returns-clause-set g c =
    let n = g.row.N in
    let e = g.row.G in
    let w = c.args.world.now in
    let at = c.args.target.now.edge in
    let value = c.args.target.now.value in
    let var = Edge at.axis in
    let xs = c.set_rows.new.values in
    let has = has_array n e w var c.args.node c.requires.leaf.fit c.requires.leaf.leaf.there c.requires.leaf.declared in
    let shape : c.shape-shape.result ≡ w.told.grid.shape = c.shape-shape.ensures.value ∙ ap (λ (h : Grid). h.shape) c.tree-tree.ensures in
    let size : IsSize n e = size_by n e w.told.grid.shape (subst IsShape shape c.shape-shape.ensures.limits) c.requires.leaf.fit.sizes in
    let block : c.at.result ≡ block_at w.told.grid c.args.node = c.at.ensures.value ∙ ap (λ h. block_at h c.args.node) c.tree-tree.ensures in
    let old : c.values_mut-values.result.now ≡ edge_array false w at.axis c.args.node = c.values_mut-values.ensures.value in
    let long : length xs ≡ var_length n e var = c.set_rows.ensures.size ∙ c.values_mut-values.ensures.whole in
    let is = written_in w var c.args.node xs c.requires.leaf.fit.one n e size c.requires.leaf.fit has long in
    subst (λ (ys : List ℤ). AreEdgesSet n e w.told.grid.shape at.axis (block_at w.told.grid c.args.node) at value (edge_array false w at.axis c.args.node) ys) (sym is)
    (subst (λ (s : Shape). AreEdgesSet n e s at.axis (block_at w.told.grid c.args.node) at value (edge_array false w at.axis c.args.node) xs) shape
    (subst (λ b. AreEdgesSet n e c.shape-shape.result at.axis b at value (edge_array false w at.axis c.args.node) xs) block
    (subst (λ (ys : List ℤ). AreEdgesSet n e c.shape-shape.result at.axis c.at.result at value ys xs) old c.set_rows.ensures)))
