use Rattle.std.proofs.Common.{◌≡◌, ◌^◌, Some, ap, ap₂, of_z, subst, sym, to_z, w64, ◌∙◌}
use Rattle.amr_num.specs.declared.BlockAt.{BlockAt}
use Rattle.mesh_model.specs.Fields.Advect.{three}
use Rattle.mesh_model.specs.Fields.RangeWalk.{is_above}
use Rattle.mesh_model.specs.Geometry.Blocks.{InDomain}
use Rattle.mesh_model.specs.Tree.Kinds.{Grid}
use Rattle.mesh_model.specs.Tree.ValidGrid.{Valid}
use Rattle.block_tree.specs.GridOf.{grid_of}
use Rattle.block_tree.specs.Numbered.{block_at}
use Rattle.block_tree.proofs.Facts.{known}
use Rattle.staggered.specs.Facing.{level_flux}
use Rattle.staggered.proofs.Blocks.{small_block}
use Rattle.amr_num.specs.Numbers.{Within}
use Rattle.mesh_model.specs.Geometry.Canonical.{canonical_on}
use Rattle.mesh_model.specs.Geometry.Coordinates.{face_of, step}
use Rattle.mesh_model.specs.Geometry.Places.{in_block}
use Rattle.mesh_model.specs.declared.geometry.Shape.{Shape}
use Rattle.staggered.specs.Facing.{IsCalmBelow}
use Rattle.staggered.proofs.Uniform.{above_one, first_found, first_place, flux_is, inside_of, none_above, not_above, whole_of}
use Rattle.staggered.proofs.facing.axis_above.Goals as goal
use Rattle.staggered.proofs.facing.axis_above.Goals.{then-is_calm_below, else-is_calm_below}

pub returns-then-fits : goal.returns-then-fits
returns-then-fits g c =
    let w = c.args.world.now in
    let h = w.told.grid in
    let b = block_at h c.args.node in
    let tree = c.tree-tree.ensures in
    let valid : Valid h = subst Valid tree (known c.tree-tree.result.now).valid in
    let leaf = c.requires.leaf.leaf.leaf in
    let flux = flux_is h (grid_of c.tree-tree.result.now) tree (three c.args.fluxes) c.args.axis c.args.node c.at-block.result c.face_flux-value.result c.at-block.ensures.value c.face_flux-value.ensures.value c.face_flux-value.ensures.small in
    let within = subst (Within (2 ^ 40)) flux (c.fits.ensures.0 c.if-fits.true) in
    sym (none_above h valid (three c.args.fluxes) c.args.axis b (inside_of h (grid_of c.tree-tree.result.now) tree c.args.node c.at-block.result c.at-block.ensures.value c.at-block.ensures.inside) leaf (whole_of h valid b leaf) (not_above (2 ^ 40) (level_flux h (three c.args.fluxes) c.args.axis b.level) within))

pub face_along-face-requires-clause-block : goal.face_along-face-requires-clause-block
face_along-face-requires-clause-block g c =
    small_block c.shape-shape.result c.at-block.result c.shape-shape.ensures.limits (subst (λ s. InDomain s c.at-block.result) (sym c.shape-shape.ensures.value) c.at-block.ensures.inside)

pub returns : goal.returns
returns g c =
    let w = c.args.world.now in
    let h = w.told.grid in
    let b = block_at h c.args.node in
    let tree = c.tree-tree.ensures in
    let valid : Valid h = subst Valid tree (known c.tree-tree.result.now).valid in
    let leaf = c.requires.leaf.leaf.leaf in
    let flux = flux_is h (grid_of c.tree-tree.result.now) tree (three c.args.fluxes) c.args.axis c.args.node c.at-block.result c.face_flux-value.result c.at-block.ensures.value c.face_flux-value.ensures.value c.face_flux-value.ensures.small in
    let block : c.at-block.result ≡ b = c.at-block.ensures.value ∙ ap (λ (k : Grid). block_at k c.args.node) tree in
    let shape = c.shape-shape.ensures.value ∙ ap (λ (k : Grid). k.shape) tree in
    let above = above_one (2 ^ 40) c.fits.result (to_z w64 (of_z w64 c.face_flux-value.result)) c.fits.ensures.1 c.if-fits.false in
    let calm : IsCalmBelow h c.args.axis b c.is_calm_below.result =
    subst (λ k. IsCalmBelow k c.args.axis b c.is_calm_below.result) tree (subst (λ d. IsCalmBelow (grid_of c.tree-tree.result.now) c.args.axis d c.is_calm_below.result) block c.is_calm_below.ensures) in
    let place : c.if-is_calm_below.place ≡ first_place c.is_calm_below.result = elim c.if-is_calm_below.branch [
      | then-is_calm_below u ↦ u.place-is ∙ ap first_place (sym u.if-is_calm_below.true)
      | else-is_calm_below u ↦ u.place-is ∙ ap first_place (sym u.if-is_calm_below.false)
    ] in
    ap₂ (λ f v. Some (record { face = f; value = v }))
    (c.face_along-face.ensures
    ∙ ap₂ (λ (s : Shape) (d : BlockAt). face_of c.args.axis (canonical_on s c.args.axis (in_block s.n d (step c.args.axis c.if-is_calm_below.place).x (step c.args.axis c.if-is_calm_below.place).y (step c.args.axis c.if-is_calm_below.place).z))) shape block
    ∙ ap (λ p. face_of c.args.axis (canonical_on h.shape c.args.axis (in_block h.shape.n b (step c.args.axis p).x (step c.args.axis p).y (step c.args.axis p).z))) place)
    flux
    ∙ sym (first_found h valid (three c.args.fluxes) c.args.axis b (inside_of h (grid_of c.tree-tree.result.now) tree c.args.node c.at-block.result c.at-block.ensures.value c.at-block.ensures.inside) leaf (whole_of h valid b leaf)
    c.is_calm_below.result calm (ap (is_above (2 ^ 40)) (sym flux) ∙ above))
