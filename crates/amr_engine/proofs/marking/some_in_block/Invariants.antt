use Rattle.std.proofs.Common.{◌≡◌, ◌+◌, ◌<◌, ℕ, false}
use Rattle.mesh_model.specs.Fields.ArrayPlaces.{cell_extents, number_at}
use Rattle.amr_engine.specs.MarkedWhere.{plane_has}
use Rattle.amr_engine.proofs.marking.some_in_block.Given as goal

abbrev pub invariant-loop-k : goal.invariant-loop-k
invariant-loop-k l = (k : ℕ) → k < l.k → plane_has l.n (λ x y z. number_at (cell_extents l.n l.g) l.values (l.g + x) (l.g + y) (l.g + z)) l.rule k ≡ false
