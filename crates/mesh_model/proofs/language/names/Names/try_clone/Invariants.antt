use Rattle.std.proofs.Common.{◌≡◌, take, None}
use Rattle.mesh_model.proofs.language.names.Names.try_clone.Given as goal

abbrev pub invariant-loop-v : goal.invariant-loop-v
invariant-loop-v l = l.names ≡ record { cells = take l.v l.self.cells; face = None; edge = None }
