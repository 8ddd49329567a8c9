-- Commands keep a mesh valid.
use Rattle.std.proofs.Common.{◌≡◌, ℕ, ◌*◌, ◌≤◌, ◌^◌, ◌==◌, ℤ, arith, inl, inr, List, [], ◌∷◌, length, length-append, zero, suc, Bool, true, false, ◌&&◌, if◌then◌else◌, refl, Option, Some, None, IsSome, ne_eqb, ◌<◌, pos}
use Rattle.std.proofs.lemmas.Nat.{mul-le}
use Rattle.std.proofs.lemmas.Bool.{cases_Bool}
use Rattle.amr_num.specs.declared.BlockAt.{BlockAt}
use Rattle.amr_num.specs.declared.FaceAt.{FaceAt}
use Rattle.mesh_model.specs.Geometry.Blocks.{is_first_child, parent_block}
use Rattle.mesh_model.specs.Geometry.Limits.{most_nodes}
use Rattle.mesh_model.specs.Fields.Plain.{marked, Mesh, on_faces}
use Rattle.mesh_model.specs.Tree.Kinds.{is_leaf, is_leaf_face, is_leaf_edge}
use Rattle.mesh_model.specs.Geometry.Canonical.{is_canonical, is_canonical_edge}
use Rattle.mesh_model.specs.Tree.Order.{begun_at, nodes}
use Rattle.mesh_model.specs.Fields.Valid.{valid_marked, ValidMesh, InRange, OfDeclared}
use Rattle.mesh_model.specs.Tree.ValidGrid.{FewNodes}
use Rattle.mesh_model.specs.Fields.Regrid.{regrid}
use Rattle.mesh_model.specs.Tree.Regrown.{new_grid}
use Rattle.mesh_model.specs.Fields.Advect.{Speeds, advect}
use Rattle.mesh_model.specs.Fields.Induct.{with_faces}
use Rattle.mesh_model.specs.Fields.Laws.{leaf_cells}
use Rattle.mesh_model.proofs.GeometryLemmas.ShapeLimits.{cells_most}
use Rattle.mesh_model.proofs.FieldLemmas.FieldsKept.{regrid_on_leaves, advect_on_leaves, faces_on_leaves}
use Rattle.mesh_model.proofs.TreeLemmas.Ruled.{new_grid_valid}
use Rattle.mesh_model.proofs.FieldLemmas.ZeroViews.{no_cell_views, no_face_views, no_edge_views}
use Rattle.mesh_model.proofs.TreeLemmas.Sorting.{new_grid_sorted}

pub off_or : (on : Bool) {z : ℤ} → z ≡ pos 0 → (if on then z else pos 0) ≡ pos 0
off_or true h = h
off_or false h = refl

not_both : (o : Option (List ℕ)) → IsSome o → o ≡ None → ⊥
not_both None t h = cc
not_both (Some x) t h = cc

-- numbers stay with what is declared
pub regrid_declared : (m : Mesh) → ValidMesh m → OfDeclared (regrid m)
regrid_declared m valid = record {
  few = valid.declared.few;
  cells = λ v h c. off_or (is_leaf (new_grid (marked m)) c) (no_cell_views m.grid (m.cells v) (valid.declared.cells v h) c);
  outs = valid.declared.outs;
  faces = λ h f. off_or (is_canonical m.grid.shape f && is_leaf_face (new_grid (marked m)) f) (no_face_views m.grid m.faces (valid.declared.faces h) f);
  edges = λ h e. off_or (is_canonical_edge m.grid.shape e && is_leaf_edge (new_grid (marked m)) e) (no_edge_views m.grid m.edges (valid.declared.edges h) e);
}

pub advect_declared : (m : Mesh) (var : ℕ) (n : Speeds) → ValidMesh m → var < length m.names.cells → OfDeclared (advect m var n)
advect_declared m var n valid there = record {
  few = valid.declared.few;
  cells = λ v h c. rw (ne_eqb v var (λ e. absurd (omega arith))) (valid.declared.cells v h c);
  outs = λ v h. rw (ne_eqb v var (λ e. absurd (omega arith))) (valid.declared.outs v h);
  faces = valid.declared.faces;
  edges = valid.declared.edges;
}

pub faces_declared : (m : Mesh) (k : FaceAt → ℤ) → ValidMesh m → IsSome m.names.face → OfDeclared (with_faces m (on_faces m.grid k))
faces_declared m k valid there = record {
  few = valid.declared.few;
  cells = valid.declared.cells;
  outs = valid.declared.outs;
  faces = λ h f. absurd (not_both m.names.face there h);
  edges = valid.declared.edges;
}

-- regrid, where nodes and numbers keep the limits
pub regrid_valid : (m : Mesh) → ValidMesh m → FewNodes (new_grid (marked m)) → InRange (regrid m) → ValidMesh (regrid m)
regrid_valid m valid few range = record {
  grid = new_grid_valid (marked m) (valid_marked m valid);
  order = new_grid_sorted (marked m) (valid_marked m valid);
  nodes = few;
  numbers = regrid_on_leaves m;
  declared = regrid_declared m valid;
  range = range;
  marks = record { refine = λ b h. cc; derefine = λ b h. cc };
}

pub advect_valid : (m : Mesh) (var : ℕ) (n : Speeds) → ValidMesh m → var < length m.names.cells → InRange (advect m var n) → ValidMesh (advect m var n)
advect_valid m var n valid there range = record {
  grid = valid.grid;
  order = valid.order;
  nodes = valid.nodes;
  numbers = advect_on_leaves m var n valid.numbers;
  declared = advect_declared m var n valid there;
  range = range;
  marks = record { refine = valid.marks.refine; derefine = valid.marks.derefine };
}

pub faces_valid : (m : Mesh) (k : FaceAt → ℤ) → ValidMesh m → IsSome m.names.face → InRange (with_faces m (on_faces m.grid k)) → ValidMesh (with_faces m (on_faces m.grid k))
faces_valid m k valid there range = record {
  grid = valid.grid;
  order = valid.order;
  nodes = valid.nodes;
  numbers = faces_on_leaves m k valid.numbers;
  declared = faces_declared m k valid there;
  range = range;
  marks = record { refine = valid.marks.refine; derefine = valid.marks.derefine };
}

-- ---- there are at least as many nodes as leaves

begun_some : (l : ℕ) (b : BlockAt) → 1 ≤ length (begun_at l b)
unfolding begun_at
begun_some zero b = omega arith
begun_some (suc l) b = elim (cases_Bool (is_first_child b)) [
  | inl t ↦ rw (t, begun_at) (let sum = length-append (begun_at l (parent_block b)) (b ∷ []) in omega arith)
  | inr f ↦ rw (f, begun_at) (omega arith)
]

pub leaves_few : (bs : List BlockAt) → length bs ≤ length (nodes bs)
unfolding nodes
leaves_few [] = omega arith
leaves_few (b ∷ bs) =
    let rest = leaves_few bs in
    let own = begun_some b.level b in
    let sum = length-append (begun_at b.level b) (nodes bs) in
    omega arith

few_cells : (l n : ℕ) → l ≤ 8192 → n ≤ 8 → l * (n * n * n) ≤ 4194304
few_cells l n h k = mul-le l (n * n * n) 8192 512 h (mul-le (n * n) n 64 8 (mul-le n n 8 8 k k) k)

pub leaf_cells_few : (m : Mesh) → ValidMesh m → 2 ^ 40 * leaf_cells m.grid ≤ 2 ^ 62
leaf_cells_few m valid =
    let leaves = leaves_few m.grid.leaves in
    let few = valid.nodes in
    let most = node_limit m in
    mul-le (2 ^ 40) (leaf_cells m.grid) (2 ^ 40) (2 ^ 22) (omega arith) (few_cells (length m.grid.leaves) m.grid.shape.n (omega arith) (cells_most valid.grid.shape))
  where
    node_limit : (m : Mesh) → most_nodes m.grid.shape ≤ 8192
    node_limit m = elim (cases_Bool (m.grid.shape.g == 4)) [
      | inl t ↦ rw t (omega arith)
      | inr f ↦ rw f (omega arith)
    ]
