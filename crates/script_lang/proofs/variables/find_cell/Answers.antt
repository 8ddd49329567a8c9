use Rattle.std.proofs.Common.{◌≡◌, [], bytes_eq, get_or, true, arith, sym, below_more}
use Rattle.std.proofs.lemmas.Grind.{common_steps}
use Rattle.std.proofs.lemmas.Option.{gets}
use Rattle.script_lang.proofs.Places.{position_is}
use Rattle.script_lang.proofs.variables.find_cell.Goals as goal

pub returns-then-eq : goal.returns-then-eq
returns-then-eq c = let here : bytes_eq (get_or c.args.names.now.cells c.loop-v.v []) c.args.name.now ≡ true = grind (arith, gets, common_steps) in sym (position_is _ c.args.names.now.cells _ [] (omega arith) c.loop-v.invariant here)

pub loop-v-preserved : goal.loop-v-preserved
loop-v-preserved c = below_more _ _ c.loop-v.invariant (grind (arith, gets, common_steps))
