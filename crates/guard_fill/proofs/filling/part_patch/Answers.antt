use Rattle.std.proofs.Common.{◌≡◌, ◌+◌, ◌*◌, ◌%◌, ◌∙◌, ap, arith, subst, sym, List, ℤ, true, false}
use Rattle.mesh_model.specs.Fields.ArrayPlaces.{HoldsViews, cell_extents, number_at}
use Rattle.mesh_model.specs.Fields.Octants.{cells_of, parted}
use Rattle.mesh_model.specs.Fields.Views.{cell_view}
use Rattle.mesh_model.specs.Geometry.Blocks.{child_block, parent_block}
use Rattle.mesh_model.specs.Geometry.Places.{in_block}
use Rattle.mesh_model.specs.Tree.Kinds.{Grid, is_leaf_block, is_split_block}
use Rattle.mesh_model.specs.Tree.ValidGrid.{Valid}
use Rattle.block_tree.specs.Numbered.{IsNumberOf, block_at}
use Rattle.block_tree.proofs.Facts.{known}
use Rattle.block_tree.proofs.Leaves.{split_leaf}
use Rattle.mesh_model.proofs.TreeLemmas.Tests.{refuted}
use Rattle.guard_fill.specs.Strips.{block_of}
use Rattle.guard_fill.proofs.Neighbours.{own_child}
use Rattle.guard_fill.proofs.Patches.{parts_at, patched}
use Rattle.guard_fill.proofs.filling.part_patch.Goals as goal

pub returns : goal.returns
returns g c =
    let n = g.row.N in
    let e = g.row.G in
    let w = c.args.world.now in
    let grid = w.told.grid in
    let v = c.args.v in
    let b = c.args.block in
    let p = c.args.patch in
    let q = b.x % 2 + 2 * (b.y % 2) + 4 * (b.z % 2) in
    let leaf = c.in-Some.leaf in
    let valid : Valid grid = subst Valid c.tree.ensures (known c.tree.result.now).valid in
    let found : IsNumberOf grid (parent_block b) leaf = subst (λ (h : Grid). IsNumberOf h (parent_block b) leaf) c.tree.ensures c.in-Some.ensures.1 in
    let xs = c.values-values.result.now in
    let child : child_block (block_at grid leaf) q ≡ block_of b.level p = ap (λ u. child_block u q) found.block ∙ own_child b c.requires.parent.0 ∙ c.requires.block in
    let is_leaf : is_leaf_block grid (block_at grid leaf) ≡ true = ap (is_leaf_block grid) found.block ∙ c.requires.parent.1 in
    let whole : is_split_block grid (block_at grid leaf) ≡ false = refuted _ (λ s. let none = split_leaf grid valid (block_at grid leaf) s in cc) in
    patched n e w v b.level p (parted n e q (number_at (cell_extents n e) xs)) c.args.room.now c.part_strip.new.room c.requires.within c.part_strip.ensures
    (λ content holds i j k hi hj hk.
    let views : HoldsViews grid content (block_at grid leaf) (cells_of grid xs) =
    subst (λ (ys : List ℤ). HoldsViews grid content (block_at grid leaf) (cells_of grid ys)) (sym c.values-values.ensures.value) (holds leaf found.there) in
    parts_at grid n e content (block_at grid leaf) xs c.requires.ready.fit.sizes views q valid (omega arith) whole i j k hi hj hk
    ∙ ap (λ u. cell_view grid content (in_block n u i j k)) child)
