use Rattle.std.proofs.Common.{◌∙◌, ap, arith, subst, sym}
use Rattle.mesh_model.specs.declared.geometry.Shape.{Shape}
use Rattle.mesh_model.specs.Geometry.Blocks.{InDomain}
use Rattle.mesh_model.specs.Tree.Kinds.{Grid}
use Rattle.mesh_model.specs.Tree.ValidGrid.{Valid}
use Rattle.mesh_model.proofs.TreeLemmas.Tiling.{leaf_says}
use Rattle.block_tree.proofs.Facts.{known}
use Rattle.guard_fill.specs.Guarding.{AreReaches}
use Rattle.guard_fill.proofs.AxisStrips.{all_reach}
use Rattle.guard_fill.proofs.Neighbours.{AreBeside, patch_inside, patch_known}
use Rattle.guard_fill.proofs.Spreading.{spread_to}
use Rattle.guard_fill.proofs.guarding.spread_direction.Goals as goal

pub places_of-patch-requires-clause-block : goal.places_of-patch-requires-clause-block
places_of-patch-requires-clause-block g c =
    let grid = c.args.world.now.told.grid in
    let valid : Valid grid = subst Valid c.tree.ensures (known c.tree.result.now).valid in
    let shape = c.shape-shape.ensures.value ∙ ap (λ (h : Grid). h.shape) c.tree.ensures in
    subst (λ (s : Shape). InDomain s c.args.block) (sym shape) (valid.tiles.inside c.args.block (leaf_says grid c.args.block c.requires.leaf))

pub spread-requires : goal.spread-requires
spread-requires g c =
    let n = g.row.N in
    let e = g.row.G in
    let grid = c.args.world.now.told.grid in
    let b = c.args.block in
    let d = c.args.direction in
    let p = c.places_of-patch.result in
    let valid : Valid grid = subst Valid c.tree.ensures (known c.tree.result.now).valid in
    let shape = c.shape-shape.ensures.value ∙ ap (λ (h : Grid). h.shape) c.tree.ensures in
    let is = subst (λ (s : Shape). AreReaches n e s c.args.var b d p) shape c.places_of-patch.ensures in
    let beside : AreBeside grid.shape b p = record { x = is.x.beside; y = is.y.beside; z = is.z.beside } in
    let inside = valid.tiles.inside b (leaf_says grid b c.requires.leaf) in (
      omega arith,
      (
        c.requires.ready,
        (
          c.requires.field,
          (
            c.requires.mesh,
            (
              all_reach n e grid.shape c.args.var b d p c.requires.ready.size c.requires.direction is,
              (patch_known grid b p valid (leaf_says grid b c.requires.leaf) beside, (patch_inside grid.shape b p beside inside, (c.requires.child, c.requires.room))),
            ),
          ),
        ),
      ),
    )

pub returns-clause-spread : goal.returns-clause-spread
returns-clause-spread g c =
    let n = g.row.N in
    let e = g.row.G in
    let b = c.args.block in
    let d = c.args.direction in
    let p = c.places_of-patch.result in
    let shape = c.shape-shape.ensures.value ∙ ap (λ (h : Grid). h.shape) c.tree.ensures in
    let is = subst (λ (s : Shape). AreReaches n e s c.args.var b d p) shape c.places_of-patch.ensures in
    spread_to n e d c.args.world.now c.args.var b p c.args.room.now c.spread.new.room c.requires.direction c.requires.ready.fit.sizes is c.spread.ensures.spread
