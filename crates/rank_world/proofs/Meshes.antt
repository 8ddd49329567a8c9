-- Worlds of meshes: one whose leaves hold numbers in range, without faces and edges, is that of a valid mesh.
use Rattle.std.proofs.Common.{◌≡◌, ℕ, ◌+◌, ◌*◌, ◌%◌, ◌<◌, ◌≤◌, ◌⊎◌, ◌↔◌, true, false, List, [], length, ℤ, pos, None, nat_lt, if◌then◌else◌, refl, sym, ap, ap₂, subst, ◌∙◌, arith, inl, inr}
use Rattle.std.specs.Prelude.{replicate}
use Rattle.std.proofs.lemmas.Bool.{cases_Bool, cases_lt, cases_order, le-ltb, lt-ltb}
use Rattle.std.proofs.lemmas.List.{length-replicate}
use Rattle.amr_num.specs.declared.Axis.{Axis}
use Rattle.amr_num.specs.declared.CellAt.{CellAt}
use Rattle.amr_num.specs.declared.EdgeAt.{EdgeAt}
use Rattle.amr_num.specs.declared.FaceAt.{FaceAt}
use Rattle.amr_num.specs.Numbers.{Within, number_range}
use Rattle.mesh_model.specs.declared.fields.values.Var.TheVariants.{Cell, Edge, Face}
use Rattle.mesh_model.specs.Fields.ArrayPlaces.{HoldsEdges, HoldsFaces, HoldsViews}
use Rattle.mesh_model.specs.Fields.FinePlaces.{edges_in, faces_in}
use Rattle.mesh_model.specs.Fields.Octants.{cells_of}
use Rattle.mesh_model.specs.Fields.Plain.{Mesh}
use Rattle.mesh_model.specs.Fields.Ranks.{Told, WorldState}
use Rattle.mesh_model.specs.Geometry.Places.{in_block}
use Rattle.mesh_model.specs.Tree.Kinds.{block_of, is_leaf, is_leaf_block}
use Rattle.mesh_model.specs.Tree.Order.{Sorted, key, nodes}
use Rattle.mesh_model.specs.Tree.ValidGrid.{FewNodes, Valid}
use Rattle.mesh_model.proofs.FieldLemmas.BlockOctants.{block_of_cell}
use Rattle.mesh_model.proofs.FieldLemmas.BlockPlaces.{digit}
use Rattle.mesh_model.proofs.FieldLemmas.CellSums.{view_leaf}
use Rattle.mesh_model.proofs.FieldLemmas.ValidGrid.{leaf_whole}
use Rattle.mesh_model.proofs.GeometryLemmas.ShapeLimits.{cells_some}
use Rattle.mesh_model.proofs.TreeLemmas.Nodes.{nodes_sorted}
use Rattle.mesh_model.proofs.TreeLemmas.Tiling.{leaf_says}
use Rattle.block_tree.specs.Numbered.{IsNode, block_at}
use Rattle.block_tree.proofs.Leaves.{leaf_node}
use Rattle.block_tree.proofs.Members.{at_in, one_place}
use Rattle.rank_world.specs.Holding.{IsLeafNode, IsOfMesh, IsOfValidMesh, LeavesHold, LeavesHoldEdges, LeavesHoldFaces, LeavesInRange, NodeHolds, OnlyCells, cell_array, edge_array, face_array, numbers_of}

module _ (w : WorldState) (valid : Valid w.told.grid) (order : Sorted w.told.grid.leaves) where
  abbrev IsLeafCell : CellAt → Type 0
  IsLeafCell c = is_leaf w.told.grid c ≡ true

  -- the node of a leaf cell
  unfoldable found : (c : CellAt) → IsLeafCell c → (i : ℕ) × (i < length (nodes w.told.grid.leaves)) × (block_at w.told.grid i ≡ block_of w.told.grid.shape.n c)
  unfolding block_at
  found c leaf =
      let b = block_of w.told.grid.shape.n c in
      at_in b (nodes w.told.grid.leaves) (leaf_node w.told.grid valid b (leaf_says w.told.grid b leaf))

  node_is : (c : CellAt) (leaf : IsLeafCell c) (node : ℕ) → IsNode w.told.grid node → block_at w.told.grid node ≡ block_of w.told.grid.shape.n c → (found c leaf).0 ≡ node
  unfolding block_at
  node_is c leaf node there same =
      let f = found c leaf in
      one_place (nodes w.told.grid.leaves) (nodes_sorted w.told.grid valid order) f.0 node f.1 there (ap key (f.2 ∙ sym same))

  -- the content of a cell is the number of the leaf there
  unfoldable content_by : ℕ → (c : CellAt) → IsLeafCell c ⊎ (is_leaf w.told.grid c ≡ false) → ℤ
  content_by v c (inl leaf) = let s = w.told.grid.shape in numbers_of w v (found c leaf).0 (s.g + c.x % s.n) (s.g + c.y % s.n) (s.g + c.z % s.n)
  content_by v c (inr none) = pos 0

  content : ℕ → CellAt → ℤ
  content v c = if nat_lt v w.told.counts.cells then content_by v c (cases_Bool (is_leaf w.told.grid c)) else pos 0

  content_of : (v : ℕ) → v < w.told.counts.cells → (c : CellAt) → content v c ≡ content_by v c (cases_Bool (is_leaf w.told.grid c))
  unfolding content
  content_of v h c = let test = lt-ltb v w.told.counts.cells h in rw test refl

  content_past : (v : ℕ) → w.told.counts.cells ≤ v → (c : CellAt) → content v c ≡ pos 0
  unfolding content
  content_past v h c = let test = le-ltb v w.told.counts.cells h in rw test refl

  by_number : (v : ℕ) (c : CellAt) (kind : IsLeafCell c ⊎ (is_leaf w.told.grid c ≡ false)) (node : ℕ) → IsLeafCell c → IsNode w.told.grid node → block_at w.told.grid node ≡ block_of w.told.grid.shape.n c →
      content_by v c kind ≡ (let s = w.told.grid.shape in numbers_of w v node (s.g + c.x % s.n) (s.g + c.y % s.n) (s.g + c.z % s.n))
  unfolding content_by
  by_number v c (inl leaf) node is_one there same = let s = w.told.grid.shape in ap (λ i. numbers_of w v i (s.g + c.x % s.n) (s.g + c.y % s.n) (s.g + c.z % s.n)) (node_is c leaf node there same)
  by_number v c (inr none) node is_one there same = cc

  off_leaf : (v : ℕ) (c : CellAt) (kind : IsLeafCell c ⊎ (is_leaf w.told.grid c ≡ false)) → is_leaf w.told.grid c ≡ false → content_by v c kind ≡ pos 0
  unfolding content_by
  off_leaf v c (inl leaf) is_none = cc
  off_leaf v c (inr none) is_none = refl

  in_range : LeavesInRange w → (v : ℕ) → v < w.told.counts.cells → (c : CellAt) (kind : IsLeafCell c ⊎ (is_leaf w.told.grid c ≡ false)) → Within number_range (content_by v c kind)
  unfolding content_by
  in_range range v h c (inl leaf) =
      let s = w.told.grid.shape in
      let some = cells_some valid.shape in
      let f = found c leaf in
      (range v f.0 h (record { there = f.1; leaf = ap (is_leaf_block w.told.grid) f.2 ∙ leaf })).cells (c.x % s.n) (c.y % s.n) (c.z % s.n) (omega arith) (omega arith) (omega arith)
  in_range range v h c (inr none) = omega arith

  leaves_hold : (v : ℕ) → v < w.told.counts.cells → LeavesHold w v (content v)
  leaves_hold v h node leaf = record {
    at = λ i j k hi hj hk.
        let g = w.told.grid in
        let s = g.shape in
        let b = block_at g node in
        let c = in_block s.n b i j k in
        let block = block_of_cell s.n b i j k hi hj hk in
        let is_one : IsLeafCell c = ap (is_leaf_block g) block ∙ leaf.leaf in
        let x : c.x % s.n ≡ i = ap (λ m. m % s.n) (turned s.n b.x i) ∙ digit i s.n b.x hi in
        let y : c.y % s.n ≡ j = ap (λ m. m % s.n) (turned s.n b.y j) ∙ digit j s.n b.y hj in
        let z : c.z % s.n ≡ k = ap (λ m. m % s.n) (turned s.n b.z k) ∙ digit k s.n b.z hk in
        sym
        (view_leaf g (content v) c (leaf_whole g valid c is_one) is_one ∙ content_of v h c ∙ by_number v c (cases_Bool (is_leaf g c)) node is_one leaf.there (sym block)
        ∙ ap (λ u. numbers_of w v node (s.g + u) (s.g + c.y % s.n) (s.g + c.z % s.n)) x ∙ ap₂ (λ u r. numbers_of w v node (s.g + i) (s.g + u) (s.g + r)) y z);
  }
    where
      turned : (n b i : ℕ) → n * b + i ≡ i + n * b
      turned n b i = omega arith

  the_mesh : Mesh
  the_mesh = record {
    grid = w.told.grid;
    names = record { cells = replicate w.told.counts.cells []; face = None; edge = None };
    cells = content;
    outs = λ v. pos 0;
    faces = λ f. pos 0;
    edges = λ e. pos 0;
    refine = λ b. false;
    derefine = λ b. false;
  }

  pub of_some_mesh : FewNodes w.told.grid → w.told.counts.cells ≤ 4 → w.told.counts.faces ≡ 0 → w.told.counts.edges ≡ 0 → LeavesInRange w → IsOfValidMesh w
  unfolding the_mesh
  of_some_mesh few cells faces edges range =
      let count = length-replicate {A = List ℕ} w.told.counts.cells [] in
      record {
        mesh = the_mesh;
        valid = record {
          grid = valid;
          order = order;
          nodes = few;
          numbers = record { cells = λ v c is_none. each v c is_none; faces = λ f h. refl; edges = λ e h. refl };
          declared = record { few = omega arith; cells = λ v h c. content_past v (omega arith) c; outs = λ v h. refl; faces = λ h f. refl; edges = λ h e. refl };
          range = record { cells = all; outs = λ v. omega arith; faces = λ f. omega arith; edges = λ e. omega arith };
          marks = record { refine = λ b h. cc; derefine = λ b h. cc };
        };
        world = record { grid = refl; cells = sym count; faces = (λ h. refl, λ h. faces); edges = (λ h. refl, λ h. edges); contents = leaves_hold; on_faces = λ h. absurd (omega (arith, faces, h)); on_edges = λ h. absurd (omega (arith, edges, h)) };
      }
    where
      each : (v : ℕ) (c : CellAt) → is_leaf w.told.grid c ≡ false → content v c ≡ pos 0
      each v c is_none = elim (cases_lt v w.told.counts.cells) [
        | inl within ↦ content_of v within c ∙ off_leaf v c (cases_Bool (is_leaf w.told.grid c)) is_none
        | inr past ↦ content_past v past c
      ]

      all : (v : ℕ) (c : CellAt) → Within number_range (content v c)
      all v c = elim (cases_lt v w.told.counts.cells) [
        | inl within ↦ subst (Within number_range) (sym (content_of v within c)) (in_range range v within c (cases_Bool (is_leaf w.told.grid c)))
        | inr past ↦ subst (Within number_range) (sym (content_past v past c)) (omega arith)
      ]

-- a world is that of a mesh still where its leaves hold what they held
pub mesh_kept : (a b : WorldState) (m : Mesh) → b.told ≡ a.told → ((v : ℕ) → v < a.told.counts.cells → LeavesHold a v (m.cells v) → LeavesHold b v (m.cells v)) → (LeavesHoldFaces a m.faces → LeavesHoldFaces b m.faces) →
    (LeavesHoldEdges false a m.edges → LeavesHoldEdges false b m.edges) → IsOfMesh a m → IsOfMesh b m
mesh_kept a b m told cells faces edges of = record {
  grid = ap (λ (t : Told). t.grid) told ∙ of.grid;
  cells = ap (λ (t : Told). t.counts.cells) told ∙ of.cells;
  faces = subst (λ (t : Told). (t.counts.faces ≡ 0) ↔ (m.names.face ≡ None)) (sym told) of.faces;
  edges = subst (λ (t : Told). (t.counts.edges ≡ 0) ↔ (m.names.edge ≡ None)) (sym told) of.edges;
  contents = λ v h. let was = subst (λ (t : Told). v < t.counts.cells) told h in cells v was (of.contents v was);
  on_faces = λ h. faces (of.on_faces (subst (λ (t : Told). 0 < t.counts.faces) told h));
  on_edges = λ h. edges (of.on_edges (subst (λ (t : Told). 0 < t.counts.edges) told h));
}

-- a node holds what it held where its array is as it was
pub holds_same : (b c : WorldState) (v node : ℕ) (content : CellAt → ℤ) → c.told ≡ b.told → cell_array c v node ≡ cell_array b v node → NodeHolds b v content node → NodeHolds c v content node
holds_same b c v node content told same holds =
    subst (λ (t : Told). HoldsViews t.grid content (block_at t.grid node) (cells_of t.grid (cell_array c v node))) (sym told)
    (subst (λ xs. HoldsViews b.told.grid content (block_at b.told.grid node) (cells_of b.told.grid xs)) (sym same) holds)

-- leaves whose arrays of faces are what they were hold the same field on faces
pub faces_same : (a b : WorldState) (field : FaceAt → ℤ) → b.told ≡ a.told → ((x : Axis) (node : ℕ) → IsLeafNode a.told.grid node → face_array b x node ≡ face_array a x node) → LeavesHoldFaces a field → LeavesHoldFaces b field
faces_same a b field told same holds node leaf x =
    let was : IsLeafNode a.told.grid node = subst (λ (t : Told). IsLeafNode t.grid node) told leaf in
    subst (λ (t : Told). HoldsFaces t.grid field x (block_at t.grid node) (faces_in t.grid x (face_array b x node))) (sym told)
    (subst (λ xs. HoldsFaces a.told.grid field x (block_at a.told.grid node) (faces_in a.told.grid x xs)) (sym (same x node was)) (holds node was x))

-- and of edges
pub edges_same : (a b : WorldState) (field : EdgeAt → ℤ) → b.told ≡ a.told → ((x : Axis) (node : ℕ) → IsLeafNode a.told.grid node → edge_array false b x node ≡ edge_array false a x node) → LeavesHoldEdges false a field → LeavesHoldEdges false b field
edges_same a b field told same holds node leaf x =
    let was : IsLeafNode a.told.grid node = subst (λ (t : Told). IsLeafNode t.grid node) told leaf in
    subst (λ (t : Told). HoldsEdges t.grid field x (block_at t.grid node) (edges_in t.grid x (edge_array false b x node))) (sym told)
    (subst (λ xs. HoldsEdges a.told.grid field x (block_at a.told.grid node) (edges_in a.told.grid x xs)) (sym (same x node was)) (holds node was x))

-- so it is where the numbers of one cell variable change
pub cells_keep_mesh : (a b : WorldState) (v : ℕ) (m : Mesh) → OnlyCells a b v → ((content : CellAt → ℤ) → LeavesHold a v content → LeavesHold b v content) → IsOfMesh a m → IsOfMesh b m
cells_keep_mesh a b v m only keeps of =
    mesh_kept a b m only.told contents (faces_same a b m.faces only.told (λ x node leaf. only.others (Face x) node (λ is. absurd cc)))
    (edges_same a b m.edges only.told (λ x node leaf. only.others (Edge x) node (λ is. absurd cc))) of
  where
    other : (u : ℕ) → (u ≡ v → ⊥) → LeavesHold a u (m.cells u) → LeavesHold b u (m.cells u)
    other u apart holds node leaf =
        subst (λ (t : Told). HoldsViews t.grid (m.cells u) (block_at t.grid node) (cells_of t.grid (cell_array b u node))) (sym only.told)
        (subst (λ xs. HoldsViews a.told.grid (m.cells u) (block_at a.told.grid node) (cells_of a.told.grid xs)) (sym (only.others (Cell u) node (λ is. apart (same_cell u v is))))
        (holds node (subst (λ (t : Told). IsLeafNode t.grid node) only.told leaf)))
      where
        same_cell : (u v : ℕ) → Cell u ≡ Cell v → u ≡ v
        same_cell u v is = cc

    contents : (u : ℕ) → u < a.told.counts.cells → LeavesHold a u (m.cells u) → LeavesHold b u (m.cells u)
    contents u h holds = elim (cases_order u v) [
      | inl same ↦ subst (λ k. LeavesHold b k (m.cells u)) (sym same) (keeps (m.cells u) (subst (λ k. LeavesHold a k (m.cells u)) same holds))
      | inr (inl less) ↦ other u (λ is. omega arith) holds
      | inr (inr more) ↦ other u (λ is. omega arith) holds
    ]
