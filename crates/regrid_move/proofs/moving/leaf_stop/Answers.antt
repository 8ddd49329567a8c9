use Rattle.std.proofs.Common.{rules, ◌≡◌, ◌+◌, Some, sym, ap, ap₂, subst, ◌∙◌, to_z, of_z}
use Rattle.std.specs.Int.{w128}
use Rattle.std.specs.Option.{option_map}
use Rattle.amr_num.specs.declared.BlockAt.{BlockAt}
use Rattle.block_tree.specs.Numbered.{block_at}
use Rattle.mesh_model.specs.Fields.ArrayPlaces.{HoldsViews, cell_extents, number_at}
use Rattle.mesh_model.specs.Tree.Kinds.{Grid}
use Rattle.mesh_model.specs.Geometry.Places.{in_block}
use Rattle.mesh_model.specs.Geometry.Blocks.{InDomain}
use Rattle.mesh_model.specs.declared.fields.values.Group.TheVariants as groups
use Rattle.mesh_model.specs.declared.fields.spot.Spot.TheVariants as spots
use Rattle.regrid_move.proofs.Stops.{inside_of, small_block, stop_sized, told_of}
use Rattle.regrid_move.proofs.moving.leaf_stop.Goals as goal

pub cell_of-requires-clause-block : goal.cell_of-requires-clause-block
cell_of-requires-clause-block g c =
    let same = ap (λ (h : Grid). h.shape) (c.tree-2.ensures ∙ sym c.tree.ensures) ∙ sym c.shape-shape.ensures.value in
    small_block c.shape-shape.result c.at-block.result c.shape-shape.ensures.limits (subst (λ s. InDomain s c.at-block.result) same c.at-block.ensures.inside)

pub cell_of-requires-clause-place : goal.cell_of-requires-clause-place
cell_of-requires-clause-place g c =
    inside_of (λ x y z. number_at (cell_extents g.row.N g.row.G) c.values-values.result.now (g.row.G + x) (g.row.G + y) (g.row.G + z)) g.row.N c.in-Some.found (sym c.block_above.ensures ∙ c.in-Some.is)

pub returns-in-None : goal.returns-in-None
returns-in-None g c content moved =
    let old = c.args.old.now.told.grid in
    let new = c.args.new.now.told.grid in
    let b = block_at new c.args.node in
    let here = subst (λ xs. HoldsViews old content b (number_at (cell_extents new.shape.n new.shape.g) xs)) (sym c.values-values.ensures.value) moved in
    ap (option_map (told_of c.args.v g.row.N b)) (sym c.in-None.is ∙ c.block_above.ensures)
    ∙ stop_sized old new.shape content c.args.v b g.row.N g.row.G c.values-values.result.now c.requires.shape c.requires.new_fit.sizes here

pub returns-in-Some : goal.returns-in-Some
returns-in-Some g c content moved =
    let old = c.args.old.now.told.grid in
    let new = c.args.new.now.told.grid in
    let b = block_at new c.args.node in
    let found = c.in-Some.found in
    let here = subst (λ xs. HoldsViews old content b (number_at (cell_extents new.shape.n new.shape.g) xs)) (sym c.values-values.ensures.value) moved in
    let is = c.at-block.ensures.value ∙ ap (λ h. block_at h c.args.node) c.tree-2.ensures in
    let value : to_z w128 (of_z w128 c.from.result) ≡ found.value = search rules in
    ap₂ (λ at v. Some (record { var = groups.Cell c.args.v; spot = spots.Cell at; value = v })) (c.cell_of.ensures ∙ ap (λ (x : BlockAt). in_block g.row.N x found.i found.j found.k) is) value
    ∙ ap (option_map (told_of c.args.v g.row.N b)) (sym c.in-Some.is ∙ c.block_above.ensures)
    ∙ stop_sized old new.shape content c.args.v b g.row.N g.row.G c.values-values.result.now c.requires.shape c.requires.new_fit.sizes here
