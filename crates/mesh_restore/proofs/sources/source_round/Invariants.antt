use Rattle.std.proofs.Common.{◌≡◌, ℕ, ◌<◌, None, get_or}
use Rattle.mesh_restore.specs.Sources.{choice_of}
use Rattle.mesh_restore.proofs.SourceLemmas.{number_of}
use Rattle.mesh_restore.proofs.sources.source_round.Given as goal

abbrev pub invariant-loop-bits : goal.invariant-loop-bits
invariant-loop-bits l = (m : ℕ) → m < l.bits → get_or l.sources (number_of (choice_of l.part m)) None ≡ None
