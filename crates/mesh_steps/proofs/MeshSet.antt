-- Worlds of which work arrays alone change are of the mesh that they were of, and one whose faces were set is of the mesh with these.
use Rattle.std.proofs.Common.{◌≡◌, ℕ, ◌<◌, false, List, ℤ, sym, ap, subst, ◌∙◌}
use Rattle.std.specs.Prelude.{◌↔◌, None}
use Rattle.amr_num.specs.declared.Axis.{Axis}
use Rattle.amr_num.specs.declared.FaceAt.{FaceAt}
use Rattle.mesh_model.specs.declared.fields.values.Var.{Var}
use Rattle.mesh_model.specs.declared.fields.values.Var.TheVariants.{Cell, Edge, EdgeWork, Face, FaceWork}
use Rattle.mesh_model.specs.Fields.Induct.{with_faces}
use Rattle.mesh_model.specs.Fields.Plain.{Mesh}
use Rattle.mesh_model.specs.Fields.Ranks.{Told, WorldState}
use Rattle.rank_world.specs.Holding.{IsLeafNode, IsOfMesh, LeavesHoldFaces, OnlyAxes, OnlyLeafAxes}
use Rattle.rank_world.proofs.Meshes.{edges_same, faces_same, holds_same, mesh_kept}
use Rattle.mesh_steps.specs.Circulations.{OnlyFacesAndWork}

-- ---- work arrays

-- arrays that are none of a variable
pub record AreWork (var : Axis → Var) : Type 0 where
  pub no_cells : (v : ℕ) (a : Axis) → Cell v ≡ var a → ⊥
  pub no_faces : (x a : Axis) → Face x ≡ var a → ⊥
  pub no_edges : (x a : Axis) → Edge x ≡ var a → ⊥

pub work_faces : AreWork FaceWork
work_faces = record { no_cells = λ v a is. cc; no_faces = λ x a is. cc; no_edges = λ x a is. cc }

pub work_edges : AreWork EdgeWork
work_edges = record { no_cells = λ v a is. cc; no_faces = λ x a is. cc; no_edges = λ x a is. cc }

pub axes_stay : (var : Axis → Var) → AreWork var → (old new : WorldState) (m : Mesh) → OnlyAxes var old new → IsOfMesh old m → IsOfMesh new m
axes_stay var work old new m only =
    mesh_kept old new m only.told
    (λ v below holds node leaf. holds_same old new v node (m.cells v) only.told (only.others (Cell v) node (λ a is. work.no_cells v a is)) (holds node (subst (λ (t : Told). IsLeafNode t.grid node) only.told leaf)))
    (faces_same old new m.faces only.told (λ x node leaf. only.others (Face x) node (λ a is. work.no_faces x a is)))
    (edges_same old new m.edges only.told (λ x node leaf. only.others (Edge x) node (λ a is. work.no_edges x a is)))

pub on_all : (var : Axis → Var) (old new : WorldState) → OnlyLeafAxes var old new → OnlyAxes var old new
on_all var old new only = record { told = only.told; others = λ u at apart. only.others u at (λ a is leaf. apart a is) }

-- ---- faces

pub faces_set : (old new : WorldState) (m : Mesh) (k : FaceAt → ℤ) → IsOfMesh old m → OnlyFacesAndWork old new → LeavesHoldFaces new k → IsOfMesh new (with_faces m k)
faces_set old new m k of only holds = record {
  grid = ap (λ (t : Told). t.grid) only.told ∙ of.grid;
  cells = ap (λ (t : Told). t.counts.cells) only.told ∙ of.cells;
  faces = subst (λ (t : Told). (t.counts.faces ≡ 0) ↔ (m.names.face ≡ None)) (sym only.told) of.faces;
  edges = subst (λ (t : Told). (t.counts.edges ≡ 0) ↔ (m.names.edge ≡ None)) (sym only.told) of.edges;
  contents = λ v below node leaf.
      holds_same old new v node (m.cells v) only.told (only.others (Cell v) node (λ a is. absurd cc) (λ a is. absurd cc))
      (of.contents v (subst (λ (t : Told). v < t.counts.cells) only.told below) node (subst (λ (t : Told). IsLeafNode t.grid node) only.told leaf));
  on_faces = λ some. holds;
  on_edges = λ some.
      edges_same old new m.edges only.told (λ x node leaf. only.others (Edge x) node (λ a is. absurd cc) (λ a is. absurd cc)) (of.on_edges (subst (λ (t : Told). 0 < t.counts.edges) only.told some));
}
