use Rattle.std.proofs.Common.{◌≡◌, ap, subst, sym, ◌∙◌, rules, to_z, of_z, w64, set}
use Rattle.block_tree.specs.Interior.{array_on}
use Rattle.check_format.specs.Own.{place}
use Rattle.mesh_model.specs.Fields.ArrayPlaces.{IsSize}
use Rattle.mesh_model.specs.Fields.Ranks.{IsFit, world_with}
use Rattle.mesh_model.specs.Geometry.Limits.{IsShape}
use Rattle.mesh_model.specs.Tree.Kinds.{Grid}
use Rattle.mesh_model.proofs.FieldLemmas.Worlds.{fit_after, has_array}
use Rattle.mesh_restore.specs.Filling.{IsPutAt}
use Rattle.mesh_restore.proofs.PlaceLemmas.{size_by}
use Rattle.mesh_restore.proofs.PutLemmas.{put_as}
use Rattle.mesh_restore.proofs.filling.put.Goals as goal

pub returns-clause-fit : goal.returns-clause-fit
returns-clause-fit g c =
    let w = c.args.world.now in
    let var = array_on c.args.array.group c.args.array.axis in
    let size : IsSize g.row.N g.row.G = size_by g.row.N g.row.G w.told.grid.shape (subst IsShape (c.shape-shape.ensures.value ∙ ap (λ (h : Grid). h.shape) c.tree-tree.ensures) c.shape-shape.ensures.limits) c.requires.fit.sizes in
    let has = has_array g.row.N g.row.G w var c.args.array.node c.requires.fit c.requires.node c.requires.declared in
    subst (λ u. IsFit g.row.N g.row.G (world_with w 0 u c.args.array.node (set c.values_mut-values.result.now c.array_place-at.result (to_z w64 (of_z w64 c.args.number))))) (sym c.array_on-var.ensures)
    (fit_after w var c.args.array.node (set c.values_mut-values.result.now c.array_place-at.result (to_z w64 (of_z w64 c.args.number))) c.requires.fit.one g.row.N g.row.G size c.requires.fit has)

pub returns-clause-put : goal.returns-clause-put
returns-clause-put g c =
    let w = c.args.world.now in
    let p = place c.args.i c.args.j c.args.k in
    let kept : to_z w64 (of_z w64 c.args.number) ≡ c.args.number = search rules in
    let size : IsSize g.row.N g.row.G = size_by g.row.N g.row.G w.told.grid.shape (subst IsShape (c.shape-shape.ensures.value ∙ ap (λ (h : Grid). h.shape) c.tree-tree.ensures) c.shape-shape.ensures.limits) c.requires.fit.sizes in
    subst (λ z. IsPutAt w.told.grid c.args.array.group c.args.array.axis c.args.array.node p c.args.number w (world_with w 0 c.array_on-var.result c.args.array.node (set c.values_mut-values.result.now c.array_place-at.result z))) (sym kept)
    (put_as g.row.N g.row.G w c.args.array.group c.args.array.axis c.args.array.node p c.array_on-var.result c.values_mut-values.result.now c.array_place-at.result c.args.number size c.requires.fit c.requires.inside c.requires.declared c.requires.node
    c.array_on-var.ensures c.values_mut-values.ensures.value c.array_place-at.ensures.value)
