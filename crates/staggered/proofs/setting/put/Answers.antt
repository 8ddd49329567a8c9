use Rattle.std.proofs.Common.{◌≡◌, ◌+◌, ap, ap₂, length, of_z, rules, set, subst, to_z, w64, ◌∙◌}
use Rattle.std.proofs.lemmas.List.{length-set}
use Rattle.mesh_model.specs.Fields.Arrays.{var_length}
use Rattle.mesh_model.specs.Fields.ArrayPlaces as places
use Rattle.mesh_model.specs.Fields.ArrayPlaces.{IsSize, face_extents}
use Rattle.mesh_model.specs.Geometry.Limits.{IsShape}
use Rattle.mesh_model.specs.Tree.Kinds.{Grid}
use Rattle.mesh_model.specs.declared.fields.values.Var.TheVariants.{Face}
use Rattle.mesh_model.proofs.FieldLemmas.Worlds.{fit_after, has_array, only_of, written_in}
use Rattle.rank_world.specs.Holding.{face_array}
use Rattle.staggered.proofs.Blocks.{size_by}
use Rattle.staggered.proofs.setting.put.Goals as goal

pub returns-clause-only : goal.returns-clause-only
returns-clause-only g c = only_of c.args.world.now (Face c.args.axis) c.args.node (set c.values_mut-values.result.now c.place-place.result (to_z w64 (of_z w64 c.args.value))) c.requires.leaf.fit.one

pub returns-clause-fit : goal.returns-clause-fit
returns-clause-fit g c =
    let w = c.args.world.now in
    let size : IsSize g.row.N g.row.G = size_by g.row.N g.row.G w.told.grid.shape (subst IsShape (c.shape-shape.ensures.value ∙ ap (λ (h : Grid). h.shape) c.tree.ensures) c.shape-shape.ensures.limits) c.requires.leaf.fit.sizes in
    fit_after w (Face c.args.axis) c.args.node (set c.values_mut-values.result.now c.place-place.result (to_z w64 (of_z w64 c.args.value))) c.requires.leaf.fit.one g.row.N g.row.G size c.requires.leaf.fit
    (has_array g.row.N g.row.G w (Face c.args.axis) c.args.node c.requires.leaf.fit c.requires.leaf.leaf.there c.requires.leaf.declared)

pub returns-clause-put : goal.returns-clause-put
returns-clause-put g c =
    let w = c.args.world.now in
    let var = Face c.args.axis in
    let xs = set c.values_mut-values.result.now c.place-place.result (to_z w64 (of_z w64 c.args.value)) in
    let size : IsSize g.row.N g.row.G = size_by g.row.N g.row.G w.told.grid.shape (subst IsShape (c.shape-shape.ensures.value ∙ ap (λ (h : Grid). h.shape) c.tree.ensures) c.shape-shape.ensures.limits) c.requires.leaf.fit.sizes in
    let has = has_array g.row.N g.row.G w var c.args.node c.requires.leaf.fit c.requires.leaf.leaf.there c.requires.leaf.declared in
    let long : length xs ≡ var_length g.row.N g.row.G var = length-set c.values_mut-values.result.now c.place-place.result (to_z w64 (of_z w64 c.args.value)) ∙ c.values_mut-values.ensures.whole in
    let number : to_z w64 (of_z w64 c.args.value) ≡ c.args.value = search rules in
    let place = c.place-place.ensures.value ∙ ap (λ e. places.place_in e (g.row.G + c.args.at.x) (g.row.G + c.args.at.y) (g.row.G + c.args.at.z)) c.of_faces.ensures in
    written_in w var c.args.node xs c.requires.leaf.fit.one g.row.N g.row.G size c.requires.leaf.fit has long
    ∙ ap (λ ys. set ys c.place-place.result (to_z w64 (of_z w64 c.args.value))) c.values_mut-values.ensures.value ∙ ap₂ (λ p v. set (face_array w c.args.axis c.args.node) p v) place number
