-- The plain mesh by names, a world, what has flowed out, and marks.
use Rattle.std.specs.Prelude.{◌≡◌, ◌<◌, ◌↔◌, false, nat_lt, if◌then◌else◌, List, length, ℤ, pos, None, slice_index_or}
use Rattle.block_tree.specs.Marked.{derefine_of, refine_of, room}
use Rattle.block_tree.specs.declared.marks.Marks.{Marks}
use Rattle.mesh_model.specs.Geometry.Limits.{most_nodes}
use Rattle.mesh_model.specs.Fields.VariableNames.{VariableNames}
use Rattle.mesh_model.specs.Fields.Plain.{Mesh}
use Rattle.mesh_model.specs.Fields.Ranks.{WorldState}
use Rattle.rank_world.specs.Contents.{contents_of, edges_of, faces_of}
use Rattle.rank_world.specs.Holding.{LeavesHoldEdges, LeavesHoldFaces}

-- the mesh with these names, whose tree and contents are a world's, with what has flowed out of each variable and with the marks
unfoldable pub mesh_of : VariableNames → WorldState → List ℤ → Marks → Mesh
mesh_of names w outs marks = record {
  grid = w.told.grid;
  names = names;
  cells = λ v c. if nat_lt v (length names.cells) then contents_of w v c else pos 0;
  outs = λ v. slice_index_or outs v (pos 0);
  faces = faces_of w;
  edges = edges_of w;
  refine = refine_of w.told.grid marks;
  derefine = derefine_of w.told.grid marks;
}

-- a world has arrays for the variables that are declared, all leaves agree on what it has on their faces and edges, and there is room for marks
-- on every tree
pub record IsLaidOut (names : VariableNames) (w : WorldState) (outs : List ℤ) (marks : Marks) : Type 0 where
  pub cells : w.told.counts.cells ≡ length names.cells
  pub faces : (w.told.counts.faces ≡ 0) ↔ (names.face ≡ None)
  pub edges : (w.told.counts.edges ≡ 0) ↔ (names.edge ≡ None)
  pub on_faces : 0 < w.told.counts.faces → LeavesHoldFaces w (faces_of w)
  pub on_edges : 0 < w.told.counts.edges → LeavesHoldEdges false w (edges_of w)
  pub flowed : length outs ≡ length names.cells
  pub room : room marks ≡ most_nodes w.told.grid.shape
