use Rattle.std.proofs.Common.{◌∙◌, ap, arith, subst, sym}
use Rattle.mesh_model.specs.declared.geometry.Shape.{Shape}
use Rattle.mesh_model.specs.Geometry.Blocks.{InDomain}
use Rattle.mesh_model.specs.Tree.Kinds.{Grid}
use Rattle.mesh_model.specs.Tree.ValidGrid.{Valid}
use Rattle.mesh_model.proofs.TreeLemmas.Tiling.{leaf_says}
use Rattle.block_tree.proofs.Facts.{known}
use Rattle.guard_fill.specs.Strips.{IsPatch}
use Rattle.guard_fill.proofs.AxisStrips.{patch_within}
use Rattle.guard_fill.proofs.Neighbours.{patch_known}
use Rattle.guard_fill.proofs.Patches.{filled}
use Rattle.guard_fill.proofs.filling.fill_direction.Goals as goal

pub patch_of-patch-requires-clause-block : goal.patch_of-patch-requires-clause-block
patch_of-patch-requires-clause-block g c =
    let grid = c.args.world.now.told.grid in
    let valid : Valid grid = subst Valid c.tree.ensures (known c.tree.result.now).valid in
    let shape = c.shape-shape.ensures.value ∙ ap (λ (h : Grid). h.shape) c.tree.ensures in
    subst (λ (s : Shape). InDomain s c.args.block) (sym shape) (valid.tiles.inside c.args.block (leaf_says grid c.args.block c.requires.leaf))

pub read_patch-requires : goal.read_patch-requires
read_patch-requires g c =
    let n = g.row.N in
    let e = g.row.G in
    let grid = c.args.world.now.told.grid in
    let b = c.args.block in
    let d = c.args.direction in
    let p = c.patch_of-patch.result in
    let valid : Valid grid = subst Valid c.tree.ensures (known c.tree.result.now).valid in
    let shape = c.shape-shape.ensures.value ∙ ap (λ (h : Grid). h.shape) c.tree.ensures in
    let is = subst (λ (s : Shape). IsPatch n e s b d p) shape c.patch_of-patch.ensures in (
      omega arith,
      (
        c.requires.ready,
        (
          patch_within n e grid.shape b d p c.requires.ready.size c.requires.direction is,
          (patch_known grid b p valid (leaf_says grid b c.requires.leaf) (record { x = is.x.beside; y = is.y.beside; z = is.z.beside }), c.requires.room),
        ),
      ),
    )

pub returns : goal.returns
returns g c =
    let n = g.row.N in
    let e = g.row.G in
    let b = c.args.block in
    let d = c.args.direction in
    let p = c.patch_of-patch.result in
    let shape = c.shape-shape.ensures.value ∙ ap (λ (h : Grid). h.shape) c.tree.ensures in
    let is = subst (λ (s : Shape). IsPatch n e s b d p) shape c.patch_of-patch.ensures in
    filled n e d c.args.world.now c.args.v b p c.args.room.now c.read_patch.new.room c.requires.direction c.requires.ready.fit.sizes is c.read_patch.ensures
