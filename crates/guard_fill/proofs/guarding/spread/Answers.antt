use Rattle.std.proofs.Common.{◌≤◌, arith, subst, sym, refl, List, ℤ, inl, inr}
use Rattle.mesh_model.specs.Fields.ArrayPlaces.{Extents, IsWritten, extents_of, number_at}
use Rattle.mesh_model.specs.Tree.Kinds.{Grid}
use Rattle.mesh_model.specs.Tree.Order.{IsIn, nodes}
use Rattle.block_tree.specs.Numbered.{IsNumberOf, block_at}
use Rattle.guard_fill.specs.Guarding.{canon}
use Rattle.guard_fill.specs.Restricting.{HasViews}
use Rattle.guard_fill.specs.Strips.{block_of, box_of, from_places}
use Rattle.guard_fill.proofs.AxisStrips.{extents_short}
use Rattle.guard_fill.proofs.Spreading.{spread_from}
use Rattle.guard_fill.proofs.guarding.spread.Goals as goal

pub copy_places-requires-clause-small : goal.copy_places-requires-clause-small
copy_places-requires-clause-small g c = subst (λ (e : Extents). (e.x ≤ 17) × (e.y ≤ 17) × (e.z ≤ 17)) (sym c.of.ensures) (extents_short g.row.N g.row.G c.requires.ready.size c.args.var)

pub spread_child-requires : goal.spread_child-requires
spread_child-requires g c =
    let none = subst (λ (h : Grid). IsIn (block_of c.args.level c.args.patch) (nodes h.leaves) → ⊥) c.tree.ensures c.in-None.ensures in (
      omega arith,
      (
        c.requires.ready,
        (c.requires.field, (c.requires.mesh, (c.requires.reach, (refl, (elim c.requires.known.which [ inl here ↦ absurd (none here) | inr up ↦ up ], (c.requires.inside, (c.requires.child, c.requires.room))))))),
      ),
    )

pub returns-in-Some-clause-spread : goal.returns-in-Some-clause-spread
returns-in-Some-clause-spread g c =
    let n = g.row.N in
    let e = g.row.G in
    let w = c.args.world.now in
    let s = w.told.grid.shape in
    let var = c.args.var in
    let p = c.args.patch in
    let b = block_of c.args.level p in
    let node = c.in-Some.node in
    let xs = c.values-values.result.now in
    let found : IsNumberOf w.told.grid b node = subst (λ (h : Grid). IsNumberOf h b node) c.tree.ensures c.in-Some.ensures in
    spread_from n e w var c.args.level p xs c.args.room.now c.copy_places.new.room c.requires.ready.fit.sizes c.requires.reach
    (subst (λ (x : Extents). IsWritten x (box_of p) (from_places e p (number_at x xs)) c.args.room.now c.copy_places.new.room) c.of.ensures c.copy_places.ensures)
    (λ view of.
    subst (λ u. HasViews s var (λ d. view (canon s var d)) u (number_at (extents_of s.n s.g var) xs)) found.block
    (subst (λ (ys : List ℤ). HasViews s var (λ d. view (canon s var d)) (block_at w.told.grid node) (number_at (extents_of s.n s.g var) ys)) (sym c.values-values.ensures.value) (of.nodes node found.there)))
