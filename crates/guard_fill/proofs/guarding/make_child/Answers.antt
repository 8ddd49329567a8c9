use Rattle.std.proofs.Common.{subst, sym}
use Rattle.mesh_model.specs.Fields.ArrayPlaces.{extents_of, number_at}
use Rattle.guard_fill.specs.Guarding.{AreViews, canon}
use Rattle.guard_fill.specs.Restricting.{HasViews}
use Rattle.guard_fill.proofs.guarding.make_child.Goals as goal

pub returns-in-Face-clause-views : goal.returns-in-Face-clause-views
returns-in-Face-clause-views g c view of =
    let w = c.args.world.now in
    let s = w.told.grid.shape in
    subst (λ u. HasViews s u (λ d. view (canon s u d)) c.args.block (number_at (extents_of s.n s.g u) c.make_faces.new.room)) (sym c.in-Face.is)
    (c.make_faces.ensures.views view (subst (λ u. AreViews w u view) c.in-Face.is of))

pub returns-in-Edge-clause-views : goal.returns-in-Edge-clause-views
returns-in-Edge-clause-views g c view of =
    let w = c.args.world.now in
    let s = w.told.grid.shape in
    subst (λ u. HasViews s u (λ d. view (canon s u d)) c.args.block (number_at (extents_of s.n s.g u) c.make_edges.new.room)) (sym c.in-Edge.is)
    (c.make_edges.ensures.views view (subst (λ u. AreViews w u view) c.in-Edge.is of))
