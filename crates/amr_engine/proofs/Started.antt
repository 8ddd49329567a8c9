-- A new world is that of the start mesh.
use Rattle.std.proofs.Common.{◌≡◌, ℕ, ◌+◌, ◌<◌, ◌≤◌, false, List, length, get_or, replicate, ℤ, pos, None, refl, sym, ap, subst, ◌∙◌, arith, inl, inr}
use Rattle.std.specs.Prelude.{◌↔◌}
use Rattle.std.proofs.lemmas.Bool.{cases_lt}
use Rattle.std.proofs.lemmas.List.{get_or-replicate, get_or_past, length-replicate}
use Rattle.block_tree.specs.Marked.{IsUnmarked, room}
use Rattle.block_tree.specs.Numbered.{block_at}
use Rattle.block_tree.specs.declared.marks.Marks.{Marks}
use Rattle.mesh_model.specs.declared.fields.values.Var.TheVariants.{Cell, Edge, Face}
use Rattle.mesh_model.specs.declared.geometry.Shape.{Shape}
use Rattle.mesh_model.specs.Fields.ArrayPlaces.{place_in}
use Rattle.mesh_model.specs.Fields.Arrays.{Counts, var_length}
use Rattle.mesh_model.specs.Fields.FinePlaces.{edges_in, faces_in}
use Rattle.mesh_model.specs.Fields.Octants.{cells_of}
use Rattle.mesh_model.specs.Fields.Ranks.{WorldState}
use Rattle.mesh_model.specs.Fields.Start.{start_mesh}
use Rattle.mesh_model.specs.Fields.Valid.{ValidMesh}
use Rattle.mesh_model.specs.Fields.VariableNames.{VariableNames}
use Rattle.mesh_model.specs.Geometry.Limits.{IsShape, most_nodes}
use Rattle.mesh_model.specs.Geometry.Places.{in_block}
use Rattle.mesh_model.specs.Tree.Start.{start_grid}
use Rattle.mesh_model.proofs.FieldLemmas.Start.{start_mesh_valid}
use Rattle.mesh_model.proofs.FieldLemmas.Worlds.{has_array}
use Rattle.mesh_model.proofs.FieldLemmas.ZeroViews.{no_cell_views, no_edge_views, no_face_views}
use Rattle.rank_world.specs.Holding.{IsOfMesh, LeavesHold, LeavesHoldEdges, LeavesHoldFaces, cell_array, edge_array, face_array}
use Rattle.rank_world.specs.Starting.{IsNewWorld}
use Rattle.amr_engine.specs.EngineMesh.{IsLaidOut, mesh_of}
use Rattle.amr_engine.proofs.Shown.{laid_shown, mesh_shown}

zero_at : (many p : ℕ) → get_or (replicate many (pos 0)) p (pos 0) ≡ pos 0
zero_at many p = elim (cases_lt p many) [
  | inl within ↦ get_or-replicate many p (pos 0) (pos 0) within
  | inr past ↦ get_or_past (replicate many (pos 0)) p (pos 0) (omega (arith, length-replicate many (pos 0)))
]

module _ (n g : ℕ) (s : Shape) (names : VariableNames) (w : WorldState) (variables : ℕ) (outs : List ℤ) (marks : Marks) (shape : IsShape s) (few : length names.cells ≤ 4)
    (many : variables ≡ length names.cells) (faces edges : ℕ) (any_face : (faces ≡ 0) ↔ (names.face ≡ None)) (any_edge : (edges ≡ 0) ↔ (names.edge ≡ None))
    (new : IsNewWorld n g (start_grid s) (record { cells = variables; faces = faces; edges = edges }) w)
    (none : IsUnmarked (start_grid s) marks) (space : room marks ≡ most_nodes s) (flowed : outs ≡ replicate variables (pos 0)) where
  zero_holds : (v : ℕ) → v < w.told.counts.cells → LeavesHold w v (λ c. pos 0)
  zero_holds v below node leaf = record {
    at = λ i j k hi hj hk.
        let grid = w.told.grid in
        let c = in_block grid.shape.n (block_at grid node) i j k in
        let zero : cell_array w v node ≡ replicate (var_length n g (Cell v)) (pos 0) = new.zero.each (Cell v) node (has_array n g w (Cell v) node new.fit leaf.there below) in
        ap (λ xs. cells_of grid xs (grid.shape.g + i) (grid.shape.g + j) (grid.shape.g + k)) zero ∙ zero_at (var_length n g (Cell v)) (place_in _ (grid.shape.g + i) (grid.shape.g + j) (grid.shape.g + k))
        ∙ sym (no_cell_views grid (λ d. pos 0) (λ d. refl) c);
  }

  zero_faces : 0 < w.told.counts.faces → LeavesHoldFaces w (λ f. pos 0)
  zero_faces some node leaf a = record {
    at = λ i j k hi hj hk.
        let grid = w.told.grid in
        let zero : face_array w a node ≡ replicate (var_length n g (Face a)) (pos 0) = new.zero.each (Face a) node (has_array n g w (Face a) node new.fit leaf.there some) in
        ap (λ xs. faces_in grid a xs (grid.shape.g + i) (grid.shape.g + j) (grid.shape.g + k)) zero ∙ zero_at (var_length n g (Face a)) (place_in _ (grid.shape.g + i) (grid.shape.g + j) (grid.shape.g + k))
        ∙ sym (no_face_views grid (λ f. pos 0) (λ f. refl) _);
  }

  zero_edges : 0 < w.told.counts.edges → LeavesHoldEdges false w (λ e. pos 0)
  zero_edges some node leaf a = record {
    at = λ i j k hi hj hk.
        let grid = w.told.grid in
        let zero : edge_array false w a node ≡ replicate (var_length n g (Edge a)) (pos 0) = new.zero.each (Edge a) node (has_array n g w (Edge a) node new.fit leaf.there some) in
        ap (λ xs. edges_in grid a xs (grid.shape.g + i) (grid.shape.g + j) (grid.shape.g + k)) zero ∙ zero_at (var_length n g (Edge a)) (place_in _ (grid.shape.g + i) (grid.shape.g + j) (grid.shape.g + k))
        ∙ sym (no_edge_views grid (λ e. pos 0) (λ e. refl) _);
  }

  pub start_world : IsOfMesh w (start_mesh s names)
  start_world = record {
    grid = new.grid_is;
    cells = ap (λ (k : Counts). k.cells) new.counts_are ∙ many;
    faces = subst (λ k. (k ≡ 0) ↔ (names.face ≡ None)) (sym (ap (λ (k : Counts). k.faces) new.counts_are)) any_face;
    edges = subst (λ k. (k ≡ 0) ↔ (names.edge ≡ None)) (sym (ap (λ (k : Counts). k.edges) new.counts_are)) any_edge;
    contents = zero_holds;
    on_faces = zero_faces;
    on_edges = zero_edges;
  }

  pub start_valid : ValidMesh (start_mesh s names)
  start_valid = start_mesh_valid s names shape few

  pub start_laid : IsLaidOut names w outs marks
  start_laid =
      laid_shown names w outs marks (start_mesh s names) start_world start_valid refl (ap length flowed ∙ length-replicate variables (pos 0) ∙ many)
      (space ∙ sym (ap (λ h. most_nodes h.shape) new.grid_is))

  pub start_is : mesh_of names w outs marks ≡ start_mesh s names
  start_is =
      let unmarked : IsUnmarked w.told.grid marks = subst (λ h. IsUnmarked h marks) (sym new.grid_is) none in
      mesh_shown names w outs marks (start_mesh s names) start_world start_valid refl (λ v. ap (λ xs. get_or xs v (pos 0)) flowed ∙ zero_at variables v) (λ b. unmarked.refine b) (λ b. unmarked.derefine b)
