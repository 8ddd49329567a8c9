-- Commands leave numbers on leaves alone.
use Rattle.std.proofs.Common.{◌≡◌, ℕ, true, false, ◌&&◌, ◌==◌, ℤ, pos, ◌-ℤ◌, ◌≤ℤ◌, refl, sym, arith, inl, inr, subst}
use Rattle.std.proofs.lemmas.Bool.{cases_Bool}
use Rattle.std.proofs.lemmas.Int.{ints}
use Rattle.amr_num.specs.declared.CellAt.{CellAt}
use Rattle.amr_num.specs.declared.FaceAt.{FaceAt}
use Rattle.amr_num.specs.declared.EdgeAt.{EdgeAt}
use Rattle.mesh_model.specs.Tree.Kinds.{Grid, is_leaf, is_leaf_face, is_leaf_edge}
use Rattle.mesh_model.specs.Fields.Plain.{marked, Mesh, on_faces, on_edges}
use Rattle.mesh_model.specs.Geometry.Canonical.{is_canonical, is_canonical_edge}
use Rattle.mesh_model.specs.Fields.Valid.{OnLeaves, ValidMesh}
use Rattle.mesh_model.specs.Fields.Circulation.{net_flux}
use Rattle.mesh_model.specs.Fields.Views.{cell_view, face_view, edge_view}
use Rattle.mesh_model.specs.Fields.Advect.{Speeds, keeps_courant, flux, advect}
use Rattle.mesh_model.specs.Fields.Regrid.{regrid}
use Rattle.mesh_model.specs.Tree.Regrown.{new_grid}
use Rattle.mesh_model.specs.Fields.Induct.{with_faces}
use Rattle.mesh_model.proofs.FieldLemmas.LeafSums.{off_leaf}
use Rattle.mesh_model.proofs.FieldLemmas.Positive.{advect_stays_low}

face_off : (g : Grid) (k : FaceAt → ℤ) (f : FaceAt) → (is_canonical g.shape f && is_leaf_face g f) ≡ false → on_faces g k f ≡ pos 0
face_off g k f h = rw h refl

edge_off : (g : Grid) (k : EdgeAt → ℤ) (e : EdgeAt) → (is_canonical_edge g.shape e && is_leaf_edge g e) ≡ false → on_edges g k e ≡ pos 0
edge_off g k e h = rw h refl

pub regrid_on_leaves : (m : Mesh) → OnLeaves (regrid m)
regrid_on_leaves m = record {
  cells = λ v. off_leaf (new_grid (marked m)) (cell_view m.grid (m.cells v));
  faces = face_off (new_grid (marked m)) (face_view m.grid m.faces);
  edges = edge_off (new_grid (marked m)) (edge_view m.grid m.edges);
}

pub advect_on_leaves : (m : Mesh) (var : ℕ) (n : Speeds) → OnLeaves m → OnLeaves (advect m var n)
advect_on_leaves m var n h = record {
  cells = λ v c off. elim (cases_Bool (v == var)) [
    | inl t ↦ rw t (off_leaf m.grid (λ d. m.cells v d -ℤ net_flux m.grid (flux m.grid (m.cells v) n) d) c off)
    | inr f ↦ rw f (h.cells v c off)
  ];
  faces = h.faces;
  edges = h.edges;
}

pub faces_on_leaves : (m : Mesh) (k : FaceAt → ℤ) → OnLeaves m → OnLeaves (with_faces m (on_faces m.grid k))
faces_on_leaves m k h = record { cells = h.cells; faces = face_off m.grid k; edges = h.edges }

-- where no content of a leaf cell is below 0, none is after an advect
pub leaf_contents_stay_low : (m : Mesh) (var : ℕ) (n : Speeds) (v : ℕ) → ValidMesh m → OnLeaves m → keeps_courant m.grid.shape n ≡ true → ((c : CellAt) → is_leaf m.grid c ≡ true → pos 0 ≤ℤ m.cells v c) → (c : CellAt) → pos 0 ≤ℤ (advect m var n).cells v c
leaf_contents_stay_low m var n v valid on courant low = advect_stays_low m var n valid courant v (λ c. elim (cases_Bool (is_leaf m.grid c)) [
  | inl t ↦ low c t
  | inr f ↦ subst (λ z. pos 0 ≤ℤ z) (sym (on.cells v c f)) (omega (arith, ints))
])
