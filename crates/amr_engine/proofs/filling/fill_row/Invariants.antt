use Rattle.amr_engine.specs.Filling.{IsFilledBelow}
use Rattle.amr_engine.proofs.filling.fill_row.Given as goal

abbrev pub invariant-loop-i : goal.invariant-loop-i
invariant-loop-i l = IsFilledBelow l.i l.initial.row l.row l.block l.j l.k l.fill
