use Rattle.regrid_move.specs.Tried.{MayTry}
use Rattle.regrid_move.proofs.tests.one_block_makes_eight.Given as goal

abbrev pub invariant-loop-place : goal.invariant-loop-place
invariant-loop-place g l = MayTry 4 1 l.mesh
