use Rattle.std.proofs.Common.{true, false, [], ◌∷◌, refl, arith}
use Rattle.block_tree.proofs.Flat.{roots_may}
use Rattle.check_format.proofs.tests.tree_of.Goals as goal

pub regrown-requires-clause-may : goal.regrown-requires-clause-may
regrown-requires-clause-may c = roots_may c.in-Ok.roots _ c.in-Ok.ensures (omega arith) (true ∷ false ∷ []) (false ∷ false ∷ []) 2 refl
