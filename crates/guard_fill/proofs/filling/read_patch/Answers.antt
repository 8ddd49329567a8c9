use Rattle.std.proofs.Common.{arith, subst, sym, refl, List, ℤ, inl, inr}
use Rattle.mesh_model.specs.Fields.ArrayPlaces.{HoldsViews, cell_extents, number_at}
use Rattle.mesh_model.specs.Fields.Octants.{cells_of}
use Rattle.mesh_model.specs.Tree.Kinds.{Grid}
use Rattle.mesh_model.specs.Tree.Order.{IsIn, nodes}
use Rattle.block_tree.specs.Numbered.{IsNumberOf, block_at}
use Rattle.guard_fill.specs.Strips.{block_of, inner}
use Rattle.guard_fill.proofs.Patches.{patched, views_at}
use Rattle.guard_fill.proofs.filling.read_patch.Goals as goal

pub part_patch-requires : goal.part_patch-requires
part_patch-requires g c =
    let none = subst (λ (h : Grid). IsIn (block_of c.args.level c.args.patch) (nodes h.leaves) → ⊥) c.tree.ensures c.in-None.ensures in (
      omega arith,
      (c.requires.ready, (c.requires.within, (refl, (elim c.requires.known.which [ inl here ↦ absurd (none here) | inr up ↦ up ], c.requires.room)))),
    )

pub returns-in-Some : goal.returns-in-Some
returns-in-Some g c =
    let n = g.row.N in
    let e = g.row.G in
    let w = c.args.world.now in
    let grid = w.told.grid in
    let v = c.args.v in
    let p = c.args.patch in
    let b = block_of c.args.level p in
    let node = c.in-Some.node in
    let found : IsNumberOf grid b node = subst (λ (h : Grid). IsNumberOf h b node) c.tree.ensures c.in-Some.ensures in
    let xs = c.values-values.result.now in
    patched n e w v c.args.level p (inner e (number_at (cell_extents n e) xs)) c.args.room.now c.copy_strip.new.room c.requires.within c.copy_strip.ensures
    (λ content holds.
    views_at grid n e content b xs c.requires.ready.fit.sizes
    (subst (λ u. HoldsViews grid content u (cells_of grid xs)) found.block
    (subst (λ (ys : List ℤ). HoldsViews grid content (block_at grid node) (cells_of grid ys)) (sym c.values-values.ensures.value) (holds node found.there))))
