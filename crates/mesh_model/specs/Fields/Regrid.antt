-- What regrid makes of a mesh.
use Rattle.std.specs.Prelude.{false}
use Rattle.mesh_model.specs.Fields.Plain.{Mesh, marked, on_cells, on_faces, on_edges}
use Rattle.mesh_model.specs.Fields.Views.{cell_view, face_view, edge_view}
use Rattle.mesh_model.specs.Tree.Regrown.{new_grid}

-- the mesh after regrid: each new leaf cell, leaf face and leaf edge holds the old mesh's view of it, what flowed out stays, and marks
-- are gone
abbrev pub regrid : Mesh → Mesh
regrid m = record {
  grid = new_grid (marked m);
  names = m.names;
  cells = λ v. on_cells (new_grid (marked m)) (cell_view m.grid (m.cells v));
  outs = m.outs;
  faces = on_faces (new_grid (marked m)) (face_view m.grid m.faces);
  edges = on_edges (new_grid (marked m)) (edge_view m.grid m.edges);
  refine = λ b. false;
  derefine = λ b. false;
}
