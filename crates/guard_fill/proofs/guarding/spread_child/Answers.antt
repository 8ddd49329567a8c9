use Rattle.std.proofs.Common.{◌≡◌, ◌+◌, ◌*◌, ◌%◌, ◌≤◌, ◌∙◌, ap, arith, subst, sym}
use Rattle.mesh_model.specs.Fields.ArrayPlaces.{Extents, IsWritten, extents_of, number_at}
use Rattle.mesh_model.specs.Geometry.Blocks.{child_block, parent_block}
use Rattle.mesh_model.specs.Tree.Kinds.{Grid, is_leaf_block}
use Rattle.block_tree.specs.Numbered.{IsNumberOf, block_at}
use Rattle.rank_world.specs.Holding.{IsLeafNode}
use Rattle.guard_fill.specs.Guarding.{canon}
use Rattle.guard_fill.specs.Restricting.{HasViews}
use Rattle.guard_fill.specs.Strips.{box_of, from_places}
use Rattle.guard_fill.proofs.AxisStrips.{extents_short}
use Rattle.guard_fill.proofs.Neighbours.{own_child}
use Rattle.guard_fill.proofs.Spreading.{spread_from}
use Rattle.guard_fill.proofs.guarding.spread_child.Goals as goal

pub make_child-requires : goal.make_child-requires
make_child-requires g c =
    let w = c.args.world.now in
    let b = c.args.block in
    let leaf = c.in-Some.leaf in
    let found : IsNumberOf w.told.grid (parent_block b) leaf = subst (λ (h : Grid). IsNumberOf h (parent_block b) leaf) c.tree.ensures c.in-Some.ensures.1 in
    let q = b.x % 2 + 2 * (b.y % 2) + 4 * (b.z % 2) in
    let child : child_block (block_at w.told.grid leaf) q ≡ b = ap (λ u. child_block u q) found.block ∙ own_child b c.requires.parent.0 in
    let is_leaf : IsLeafNode w.told.grid leaf = record { there = found.there; leaf = ap (is_leaf_block w.told.grid) found.block ∙ c.requires.parent.1 } in
    (omega arith, (c.requires.ready, (c.requires.field, (c.requires.mesh, (is_leaf, (omega arith, (child, (c.requires.inside, c.requires.child))))))))

pub copy_places-requires-clause-small : goal.copy_places-requires-clause-small
copy_places-requires-clause-small g c = subst (λ (e : Extents). (e.x ≤ 17) × (e.y ≤ 17) × (e.z ≤ 17)) (sym c.of.ensures) (extents_short g.row.N g.row.G c.requires.ready.size c.args.var)

pub returns-clause-spread : goal.returns-clause-spread
returns-clause-spread g c =
    let n = g.row.N in
    let e = g.row.G in
    let w = c.args.world.now in
    let s = w.told.grid.shape in
    let var = c.args.var in
    let p = c.args.patch in
    let xs = c.make_child.new.room in
    spread_from n e w var c.args.block.level p xs c.args.room.now c.copy_places.new.room c.requires.ready.fit.sizes c.requires.reach
    (subst (λ (x : Extents). IsWritten x (box_of p) (from_places e p (number_at x xs)) c.args.room.now c.copy_places.new.room) c.of.ensures c.copy_places.ensures)
    (λ view of. subst (λ u. HasViews s var (λ d. view (canon s var d)) u (number_at (extents_of s.n s.g var) xs)) c.requires.block (c.make_child.ensures.views view of.views))
