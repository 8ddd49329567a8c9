use Rattle.std.proofs.Common.{◌≡◌, ◌+◌, ◌<◌, ℕ, false}
use Rattle.std.specs.List.{list_any}
use Rattle.mesh_model.specs.Fields.ArrayPlaces.{cell_extents, number_at}
use Rattle.mesh_model.specs.Geometry.Places.{places}
use Rattle.amr_engine.specs.MarkedWhere.{passes}
use Rattle.amr_engine.proofs.marking.some_in_plane.Given as goal

abbrev pub invariant-loop-j : goal.invariant-loop-j
invariant-loop-j l = (j : ℕ) → j < l.j → list_any (λ i. passes l.rule (number_at (cell_extents l.n l.g) l.values (l.g + i) (l.g + j) (l.g + l.k))) (places l.n) ≡ false
