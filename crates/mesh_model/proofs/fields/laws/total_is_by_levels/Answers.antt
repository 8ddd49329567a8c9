use Rattle.mesh_model.proofs.FieldLemmas.Totals.{total_by_levels, total_of_views}
use Rattle.mesh_model.proofs.fields.laws.total_is_by_levels.Goals as goal

pub returns : goal.returns
returns c = record { levels = λ m content valid. total_by_levels m.grid content valid.grid valid.order; root = λ m content valid. total_of_views m.grid content valid.grid valid.order }
