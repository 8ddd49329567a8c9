use Rattle.mesh_model.proofs.FieldLemmas.ValidGrid.{leaf_whole}
use Rattle.mesh_model.proofs.FieldLemmas.LeafCells.{finer_cell, split_of_cell, coarser_cell}
use Rattle.mesh_model.proofs.fields.laws.kinds_are_by_cells.Goals as goal

pub returns : goal.returns
returns c = record {
  split = λ g d valid. (λ s. finer_cell g valid d s, λ f. split_of_cell g valid d f.0 f.1 f.2 f.3);
  three = λ g d valid. (λ leaf. leaf_whole g valid d leaf, λ i room no_leaf whole. coarser_cell g valid d i room no_leaf whole);
}
