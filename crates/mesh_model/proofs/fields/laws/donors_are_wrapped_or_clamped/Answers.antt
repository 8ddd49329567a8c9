use Rattle.mesh_model.proofs.FieldLemmas.Donors.{donor_inside}
use Rattle.mesh_model.proofs.fields.laws.donors_are_wrapped_or_clamped.Goals as goal

pub returns : goal.returns
returns c = donor_inside
