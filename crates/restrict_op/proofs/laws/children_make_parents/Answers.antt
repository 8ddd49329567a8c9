use Rattle.mesh_model.proofs.FieldLemmas.BlockOctants.{octant_summed, octants_make, other_octant}
use Rattle.restrict_op.proofs.laws.children_make_parents.Goals as goal

pub returns : goal.returns
returns c = record {
  sums = λ g content b q child old new valid is views. octant_summed g content b valid q child old new is views;
  stay = λ g content b q p child old new valid hq hp ne is holds. other_octant g content b valid q p child old new hq hp ne is holds;
  whole = λ g content b numbers valid each. octants_make g content b valid.shape.cells numbers each;
}
