use Rattle.mesh_model.proofs.FieldLemmas.FieldsKept.{leaf_contents_stay_low}
use Rattle.mesh_model.proofs.fields.laws.advect_stays_positive.Goals as goal

pub returns : goal.returns
returns c m var n v valid courant low = leaf_contents_stay_low m var n v valid valid.numbers courant low
