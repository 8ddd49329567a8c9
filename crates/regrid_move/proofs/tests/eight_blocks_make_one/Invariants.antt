use Rattle.regrid_move.specs.Tried.{MayTry}
use Rattle.regrid_move.proofs.tests.eight_blocks_make_one.Given as goal

abbrev pub invariant-loop-node : goal.invariant-loop-node
invariant-loop-node g l = MayTry 4 1 l.mesh
