use Rattle.mesh_model.proofs.FieldLemmas.RegridBalance.{regrid_balances}
use Rattle.mesh_model.proofs.fields.laws.regrid_keeps_balance.Goals as goal

pub returns : goal.returns
returns c m valid h = regrid_balances m valid h
