use Rattle.std.proofs.Common.{◌≡◌, ◌^◌, ap, ap₂, arith, length, of_z, replicate, subst, to_z, w64, ◌∙◌}
use Rattle.amr_num.proofs.Machine.{kept}
use Rattle.mesh_model.specs.Fields.Advect.{three}
use Rattle.mesh_model.specs.Fields.Arrays.{var_length}
use Rattle.mesh_model.specs.Fields.ArrayPlaces.{IsSize}
use Rattle.mesh_model.specs.Geometry.Limits.{IsShape}
use Rattle.mesh_model.specs.Tree.Kinds.{Grid}
use Rattle.mesh_model.specs.declared.fields.values.Var.TheVariants.{Face}
use Rattle.mesh_model.proofs.FieldLemmas.Worlds.{fit_after, has_array, only_of, written_in}
use Rattle.std.proofs.lemmas.List.{length-replicate}
use Rattle.block_tree.specs.Numbered.{block_at}
use Rattle.staggered.specs.Facing.{level_flux}
use Rattle.staggered.proofs.Blocks.{size_by}
use Rattle.staggered.proofs.facing.set_axis.Goals as goal

pub returns-clause-only : goal.returns-clause-only
returns-clause-only g c = only_of c.args.world.now (Face c.args.axis) c.args.node c.fill_all.new.values c.requires.leaf.fit.one

pub returns-clause-fit : goal.returns-clause-fit
returns-clause-fit g c =
    let w = c.args.world.now in
    let size : IsSize g.row.N g.row.G = size_by g.row.N g.row.G w.told.grid.shape (subst IsShape (c.shape-shape.ensures.value ∙ ap (λ (h : Grid). h.shape) c.tree-tree.ensures) c.shape-shape.ensures.limits) c.requires.leaf.fit.sizes in
    fit_after w (Face c.args.axis) c.args.node c.fill_all.new.values c.requires.leaf.fit.one g.row.N g.row.G size c.requires.leaf.fit
    (has_array g.row.N g.row.G w (Face c.args.axis) c.args.node c.requires.leaf.fit c.requires.leaf.leaf.there c.requires.leaf.declared)

pub returns-clause-even : goal.returns-clause-even
returns-clause-even g c =
    let w = c.args.world.now in
    let var = Face c.args.axis in
    let xs = c.fill_all.new.values in
    let size : IsSize g.row.N g.row.G = size_by g.row.N g.row.G w.told.grid.shape (subst IsShape (c.shape-shape.ensures.value ∙ ap (λ (h : Grid). h.shape) c.tree-tree.ensures) c.shape-shape.ensures.limits) c.requires.leaf.fit.sizes in
    let has = has_array g.row.N g.row.G w var c.args.node c.requires.leaf.fit c.requires.leaf.leaf.there c.requires.leaf.declared in
    let long : length xs ≡ var_length g.row.N g.row.G var = ap length c.fill_all.ensures ∙ length-replicate (length c.values_mut.result.now) (to_z w64 (of_z w64 c.face_flux-number.result)) ∙ c.values_mut.ensures.whole in
    let level = ap (λ (h : Grid). (block_at h c.args.node).level) c.tree-tree.ensures in
    let number = kept c.face_flux-number.result (2 ^ 60) c.face_flux-number.ensures.small (omega arith) ∙ c.face_flux-number.ensures.value ∙ ap₂ (λ h l. level_flux h (three c.args.fluxes) c.args.axis l) c.tree-tree.ensures (ap (λ b. b.level) c.at-block.ensures.value ∙ level) in
    written_in w var c.args.node xs c.requires.leaf.fit.one g.row.N g.row.G size c.requires.leaf.fit has long
    ∙ c.fill_all.ensures ∙ ap₂ (λ m z. replicate m z) c.values_mut.ensures.whole number
