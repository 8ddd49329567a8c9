use Rattle.mesh_model.proofs.FieldLemmas.Totals.{regrid_keeps_total}
use Rattle.mesh_model.proofs.fields.laws.regrid_keeps_totals.Goals as goal

pub returns : goal.returns
returns c m v valid = regrid_keeps_total m v valid
