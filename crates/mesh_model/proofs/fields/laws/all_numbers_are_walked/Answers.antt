use Rattle.mesh_model.proofs.GeometryLemmas.ShapeLimits.{cells_some}
use Rattle.mesh_model.proofs.FieldLemmas.Walking.{contents_in_range, outs_in_range, faces_in_range, edges_in_range}
use Rattle.mesh_model.proofs.fields.laws.all_numbers_are_walked.Goals as goal

pub returns : goal.returns
returns c m shape on declared h = record {
  cells = contents_in_range m (cells_some shape) on declared h;
  outs = outs_in_range m declared h;
  faces = faces_in_range m shape on h;
  edges = edges_in_range m shape on h;
}
