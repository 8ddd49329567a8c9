use Rattle.std.proofs.Common.{◌≡◌, ℕ, ◌<◌, false, [], get_or, bytes_eq}
use Rattle.script_lang.proofs.variables.find_cell.Given as goal

abbrev pub invariant-loop-v : goal.invariant-loop-v
invariant-loop-v l = (k : ℕ) → k < l.v → bytes_eq (get_or l.names.cells k []) l.name ≡ false
