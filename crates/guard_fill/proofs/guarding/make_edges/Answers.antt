use Rattle.std.proofs.Common.{subst, sym, List, ℤ}
use Rattle.amr_num.specs.declared.Axis.TheVariants.{X, Y, Z}
use Rattle.mesh_model.specs.declared.fields.values.Var.TheVariants.{Edge}
use Rattle.mesh_model.specs.Fields.ArrayPlaces.{extents_of, number_at}
use Rattle.guard_fill.specs.Guarding.{AreViews, canon}
use Rattle.guard_fill.specs.Restricting.{HasViews}
use Rattle.guard_fill.proofs.Spreading.{made_edges}
use Rattle.guard_fill.proofs.guarding.make_edges.Goals as goal

pub returns-in-X-clause-views : goal.returns-in-X-clause-views
returns-in-X-clause-views g c view of =
    let w = c.args.world.now in
    let s = w.told.grid.shape in
    let b = c.args.block in
    let xs = c.child_edges.new.cx in
    subst (λ a. HasViews s (Edge a) (λ d. view (canon s (Edge a) d)) b (number_at (extents_of s.n s.g (Edge a)) c.copy_from_slice.new.self)) (sym c.in-X.is)
    (subst (λ (ys : List ℤ). HasViews s (Edge X) (λ d. view (canon s (Edge X) d)) b (number_at (extents_of s.n s.g (Edge X)) ys)) (sym c.copy_from_slice.ensures.after)
    (made_edges w X view b xs (subst (λ a. AreViews w (Edge a) view) c.in-X.is of) (λ field holds. c.child_edges.ensures.views field holds X)))

pub returns-in-Y-clause-views : goal.returns-in-Y-clause-views
returns-in-Y-clause-views g c view of =
    let w = c.args.world.now in
    let s = w.told.grid.shape in
    let b = c.args.block in
    let xs = c.child_edges.new.cy in
    subst (λ a. HasViews s (Edge a) (λ d. view (canon s (Edge a) d)) b (number_at (extents_of s.n s.g (Edge a)) c.copy_from_slice-in-Y.new.self)) (sym c.in-Y.is)
    (subst (λ (ys : List ℤ). HasViews s (Edge Y) (λ d. view (canon s (Edge Y) d)) b (number_at (extents_of s.n s.g (Edge Y)) ys)) (sym c.copy_from_slice-in-Y.ensures.after)
    (made_edges w Y view b xs (subst (λ a. AreViews w (Edge a) view) c.in-Y.is of) (λ field holds. c.child_edges.ensures.views field holds Y)))

pub returns-in-Z-clause-views : goal.returns-in-Z-clause-views
returns-in-Z-clause-views g c view of =
    let w = c.args.world.now in
    let s = w.told.grid.shape in
    let b = c.args.block in
    let xs = c.child_edges.new.cz in
    subst (λ a. HasViews s (Edge a) (λ d. view (canon s (Edge a) d)) b (number_at (extents_of s.n s.g (Edge a)) c.copy_from_slice-in-Z.new.self)) (sym c.in-Z.is)
    (subst (λ (ys : List ℤ). HasViews s (Edge Z) (λ d. view (canon s (Edge Z) d)) b (number_at (extents_of s.n s.g (Edge Z)) ys)) (sym c.copy_from_slice-in-Z.ensures.after)
    (made_edges w Z view b xs (subst (λ a. AreViews w (Edge a) view) c.in-Z.is of) (λ field holds. c.child_edges.ensures.views field holds Z)))
