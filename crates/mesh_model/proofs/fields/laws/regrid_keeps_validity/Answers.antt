use Rattle.mesh_model.proofs.TreeLemmas.Ruled.{new_grid_valid}
use Rattle.mesh_model.proofs.TreeLemmas.Sorting.{new_grid_sorted}
use Rattle.mesh_model.proofs.FieldLemmas.KeptValid.{regrid_valid}
use Rattle.mesh_model.proofs.fields.laws.regrid_keeps_validity.Goals as goal

pub returns : goal.returns
returns c = record { grid = λ m valid. (new_grid_valid m valid, new_grid_sorted m valid); mesh = regrid_valid }
