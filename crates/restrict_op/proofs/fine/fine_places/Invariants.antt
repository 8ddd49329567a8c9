use Rattle.std.proofs.Common.{◌≡◌, ◌<◌, ℕ}
use Rattle.std.specs.Prelude.{slice_index}
use Rattle.mesh_model.specs.Fields.ArrayPlaces.{place_in}
use Rattle.mesh_model.specs.Fields.FinePlaces.{fine_step}
use Rattle.restrict_op.proofs.fine.fine_places.Given as goal

abbrev pub invariant-loop-q : goal.invariant-loop-q
invariant-loop-q l = (q : ℕ) → q < l.q → let s = fine_step l.var q in slice_index l.steps q ≡ place_in l.extents s.x s.y s.z
