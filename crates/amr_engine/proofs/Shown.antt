-- The mesh that an engine stands for is the mesh of which its world is.
use Rattle.std.proofs.Common.{◌≡◌, ℕ, ◌<◌, ◌≤◌, true, false, List, length, get_or, ℤ, pos, None, refl, sym, ap, subst, ◌∙◌, arith, inl, inr}
use Rattle.std.specs.Prelude.{◌&&◌, ◌↔◌, if◌then◌else◌, nat_lt}
use Rattle.std.proofs.lemmas.Bool.{cases_lt, le-ltb, lt-ltb}
use Rattle.amr_num.specs.declared.BlockAt.{BlockAt}
use Rattle.amr_num.specs.declared.CellAt.{CellAt}
use Rattle.amr_num.specs.declared.EdgeAt.{EdgeAt}
use Rattle.amr_num.specs.declared.FaceAt.{FaceAt}
use Rattle.block_tree.specs.Marked.{derefine_of, refine_of, room}
use Rattle.block_tree.specs.declared.marks.Marks.{Marks}
use Rattle.mesh_model.specs.Fields.Plain.{Mesh, on_cells}
use Rattle.mesh_model.specs.Fields.Ranks.{WorldState}
use Rattle.mesh_model.specs.Fields.Valid.{ValidMesh}
use Rattle.mesh_model.specs.Fields.VariableNames.{VariableNames}
use Rattle.mesh_model.specs.Tree.Kinds.{Grid, is_leaf, is_leaf_block, is_leaf_edge, is_leaf_face}
use Rattle.mesh_model.specs.Geometry.Canonical.{is_canonical, is_canonical_edge}
use Rattle.mesh_model.specs.Geometry.Limits.{most_nodes}
use Rattle.mesh_model.specs.Tree.Order.{Sorted}
use Rattle.mesh_model.specs.Tree.ValidGrid.{Valid}
use Rattle.mesh_model.specs.Geometry.Places.{in_block}
use Rattle.mesh_model.proofs.FieldLemmas.BlockOctants.{block_of_cell}
use Rattle.mesh_model.proofs.FieldLemmas.CellSums.{view_leaf}
use Rattle.mesh_model.proofs.FieldLemmas.LeafSums.{on_leaf}
use Rattle.mesh_model.proofs.FieldLemmas.ValidGrid.{leaf_whole}
use Rattle.block_tree.specs.Numbered.{block_at}
use Rattle.rank_world.specs.Contents.{contents_of, edges_of, faces_of}
use Rattle.rank_world.specs.Holding.{IsOfMesh, LeavesHold, LeavesHoldEdges, LeavesHoldFaces}
use Rattle.rank_world.proofs.Contents.{contents_are, leaves_hold}
use Rattle.rank_world.proofs.EdgeContents.{edges_are, no_edges}
use Rattle.rank_world.proofs.FaceContents.{faces_are, no_faces}
use Rattle.amr_engine.specs.EngineMesh.{IsLaidOut, mesh_of}

-- leaves that hold a field hold each that agrees with it on leaf cells
pub leaves_same : (w : WorldState) (v : ℕ) (content other : CellAt → ℤ) → Valid w.told.grid → ((c : CellAt) → is_leaf w.told.grid c ≡ true → other c ≡ content c) → LeavesHold w v content → LeavesHold w v other
leaves_same w v content other valid same holds node leaf = record {
  at = λ i j k hi hj hk.
      let g = w.told.grid in
      let b = block_at g node in
      let c = in_block g.shape.n b i j k in
      let here : is_leaf g c ≡ true = ap (is_leaf_block g) (block_of_cell g.shape.n b i j k hi hj hk) ∙ leaf.leaf in
      let whole = leaf_whole g valid c here in
      (holds node leaf).at i j k hi hj hk ∙ view_leaf g content c whole here ∙ sym (view_leaf g other c whole here ∙ same c here);
}

pub leaves_on : (w : WorldState) (v : ℕ) (content : CellAt → ℤ) → Valid w.told.grid → LeavesHold w v content → LeavesHold w v (on_cells w.told.grid content)
leaves_on w v content valid holds = leaves_same w v content (on_cells w.told.grid content) valid (λ c here. on_leaf w.told.grid content c here) holds

-- a world is that of the mesh that it stands for
pub own_mesh : (names : VariableNames) (w : WorldState) (outs : List ℤ) (marks : Marks) → IsLaidOut names w outs marks → Valid w.told.grid → Sorted w.told.grid.leaves → IsOfMesh w (mesh_of names w outs marks)
unfolding mesh_of
own_mesh names w outs marks laid valid order = record {
  grid = refl;
  cells = laid.cells;
  faces = laid.faces;
  edges = laid.edges;
  contents = λ v below.
      let there : nat_lt v (length names.cells) ≡ true = lt-ltb v (length names.cells) (omega (arith, laid.cells, below)) in
      subst (λ t. LeavesHold w v (λ c. if t then contents_of w v c else pos 0)) (sym there) (leaves_hold w v valid order);
  on_faces = laid.on_faces;
  on_edges = laid.on_edges;
}

-- its numbers on edges are the mesh's
pub edges_shown : (w : WorldState) (m : Mesh) → IsOfMesh w m → ValidMesh m → (e : EdgeAt) → edges_of w e ≡ m.edges e
edges_shown w m of valid e = elim (cases_lt 0 w.told.counts.edges) [
  | inl some ↦
      edges_are w (subst Valid (sym of.grid) valid.grid) (subst (λ (g : Grid). Sorted g.leaves) (sym of.grid) valid.order) m.edges (of.on_edges some) some
      (λ h off. valid.numbers.edges h (subst (λ g. (is_canonical_edge g.shape h && is_leaf_edge g h) ≡ false) of.grid off)) e
  | inr none ↦ (let zero : w.told.counts.edges ≡ 0 = omega (arith, none) in no_edges w zero e ∙ sym (valid.declared.edges (of.edges.0 zero) e))
]

-- its numbers on faces are the mesh's
pub faces_shown : (w : WorldState) (m : Mesh) → IsOfMesh w m → ValidMesh m → (f : FaceAt) → faces_of w f ≡ m.faces f
faces_shown w m of valid f = elim (cases_lt 0 w.told.counts.faces) [
  | inl some ↦
      faces_are w (subst Valid (sym of.grid) valid.grid) (subst (λ (g : Grid). Sorted g.leaves) (sym of.grid) valid.order) m.faces some (of.on_faces some)
      (λ h off. valid.numbers.faces h (subst (λ g. (is_canonical g.shape h && is_leaf_face g h) ≡ false) of.grid off)) f
  | inr none ↦ (let zero : w.told.counts.faces ≡ 0 = omega (arith, none) in no_faces w zero f ∙ sym (valid.declared.faces (of.faces.0 zero) f))
]

-- and stands for the mesh whose world it is
pub mesh_shown : (names : VariableNames) (w : WorldState) (outs : List ℤ) (marks : Marks) (m : Mesh) → IsOfMesh w m → ValidMesh m → names ≡ m.names →
    ((v : ℕ) → get_or outs v (pos 0) ≡ m.outs v) → ((b : BlockAt) → refine_of w.told.grid marks b ≡ m.refine b) → ((b : BlockAt) → derefine_of w.told.grid marks b ≡ m.derefine b) →
    mesh_of names w outs marks ≡ m
unfolding mesh_of
mesh_shown names w outs marks m of valid named flowed refine derefine =
    let same_names : names.cells ≡ m.names.cells = ap (λ (n : VariableNames). n.cells) named in
    let grid : Valid w.told.grid = subst Valid (sym of.grid) valid.grid in
    let order : Sorted w.told.grid.leaves = subst (λ (g : Grid). Sorted g.leaves) (sym of.grid) valid.order in
    let cell : (v : ℕ) (c : CellAt) → (if nat_lt v (length names.cells) then contents_of w v c else pos 0) ≡ m.cells v c = λ v c.
    elim (cases_lt v (length names.cells)) [
      | inl below ↦ (
          let there : v < length m.names.cells = subst (λ (l : List (List ℕ)). v < length l) same_names below in
          ap (λ t. if t then contents_of w v c else pos 0) (lt-ltb v (length names.cells) below)
          ∙ contents_are w v grid order (m.cells v) (of.contents v (omega (arith, of.cells, there))) (λ d off. valid.numbers.cells v d (subst (λ g. is_leaf g d ≡ false) of.grid off)) c)
      | inr past ↦ (
          let far : length m.names.cells ≤ v = subst (λ (l : List (List ℕ)). length l ≤ v) same_names past in
          ap (λ t. if t then contents_of w v c else pos 0) (le-ltb v (length names.cells) past) ∙ sym (valid.declared.cells v far c))
    ] in
    λ i. record {
      grid = of.grid i;
      names = named i;
      cells = λ v c. cell v c i;
      outs = λ v. flowed v i;
      faces = λ f. faces_shown w m of valid f i;
      edges = λ e. edges_shown w m of valid e i;
      refine = λ b. refine b i;
      derefine = λ b. derefine b i;
    }

-- a world of a valid mesh is laid out for its variables
pub laid_shown : (names : VariableNames) (w : WorldState) (outs : List ℤ) (marks : Marks) (m : Mesh) → IsOfMesh w m → ValidMesh m → names ≡ m.names → length outs ≡ length names.cells →
    room marks ≡ most_nodes w.told.grid.shape → IsLaidOut names w outs marks
laid_shown names w outs marks m of valid named flowed space = record {
  cells = of.cells ∙ sym (ap (λ (n : VariableNames). length n.cells) named);
  faces = subst (λ (n : VariableNames). (w.told.counts.faces ≡ 0) ↔ (n.face ≡ None)) (sym named) of.faces;
  edges = subst (λ (n : VariableNames). (w.told.counts.edges ≡ 0) ↔ (n.edge ≡ None)) (sym named) of.edges;
  on_faces = λ some. subst (LeavesHoldFaces w) (λ i f. sym (faces_shown w m of valid f) i) (of.on_faces some);
  on_edges = λ some. subst (LeavesHoldEdges false w) (λ i e. sym (edges_shown w m of valid e) i) (of.on_edges some);
  flowed = flowed;
  room = space;
}
