-- The start mesh: all roots are leaves, in Morton order, all numbers are 0 and no mark stands.
use Rattle.std.specs.Prelude.{false, pos}
use Rattle.mesh_model.specs.declared.geometry.Shape.{Shape}
use Rattle.mesh_model.specs.Fields.Plain.{Mesh}
use Rattle.mesh_model.specs.Fields.VariableNames.{VariableNames}
use Rattle.mesh_model.specs.Tree.Start.{start_grid}

abbrev pub start_mesh : Shape → VariableNames → Mesh
start_mesh s names = record {
  grid = start_grid s;
  names = names;
  cells = λ v c. pos 0;
  outs = λ v. pos 0;
  faces = λ f. pos 0;
  edges = λ e. pos 0;
  refine = λ b. false;
  derefine = λ b. false;
}
