-- Worlds that change only where no leaf's cells stand.
use Rattle.std.proofs.Common.{◌≡◌, ℕ, ◌<◌, false, ◌==◌, ℤ, sym, ap, subst, ◌∙◌, inl, inr, eqb-true, eq-eqb}
use Rattle.std.proofs.lemmas.Bool.{cases_Bool}
use Rattle.amr_num.specs.declared.Axis.{Axis}
use Rattle.amr_num.specs.declared.CellAt.{CellAt}
use Rattle.block_tree.specs.Numbered.{block_at}
use Rattle.flux_conserve.specs.Work.{OnlyWorkFaces}
use Rattle.guard_fill.specs.Filling.{OnlyGuards}
use Rattle.guard_fill.specs.Restricting.{OnlyParents}
use Rattle.mesh_model.specs.declared.fields.values.Var.TheVariants.{Cell, Edge, Face}
use Rattle.mesh_model.specs.Fields.ArrayPlaces.{HoldsViews}
use Rattle.mesh_model.specs.Fields.Octants.{cells_of}
use Rattle.mesh_model.specs.Fields.Ranks.{Told, WorldState}
use Rattle.rank_world.specs.Holding.{IsLeafNode, NodeHolds, OnlyCells, cell_array, edge_array, face_array}
use Rattle.rank_world.proofs.Meshes.{edges_same, faces_same, holds_same}
use Rattle.mesh_steps.specs.Settling.{OnlyCellsAndWork, OnlyWorkCells}
use Rattle.mesh_steps.specs.Stepping.{KeepsMeshes}

-- what leaves hold they hold still
abbrev pub KeepsLeaves : WorldState → WorldState → Type 0
KeepsLeaves old new = (v node : ℕ) (content : CellAt → ℤ) → IsLeafNode old.told.grid node → NodeHolds old v content node → NodeHolds new v content node

-- and all numbers on faces and edges are what they were
pub record KeepsFields (old new : WorldState) : Type 0 where
  pub on_faces : (x : Axis) (node : ℕ) → face_array new x node ≡ face_array old x node
  pub on_edges : (x : Axis) (node : ℕ) → edge_array false new x node ≡ edge_array false old x node

pub meshes_kept : (old new : WorldState) → new.told ≡ old.told → KeepsLeaves old new → KeepsFields old new → KeepsMeshes old new
meshes_kept old new told keeps same m of = record {
  grid = ap (λ (t : Told). t.grid) told ∙ of.grid;
  cells = ap (λ (t : Told). t.counts.cells) told ∙ of.cells;
  faces = (λ zero. of.faces.0 (sym (ap (λ (t : Told). t.counts.faces) told) ∙ zero), λ none. ap (λ (t : Told). t.counts.faces) told ∙ of.faces.1 none);
  edges = (λ zero. of.edges.0 (sym (ap (λ (t : Told). t.counts.edges) told) ∙ zero), λ none. ap (λ (t : Told). t.counts.edges) told ∙ of.edges.1 none);
  contents = λ v below node leaf.
      let there : IsLeafNode old.told.grid node = subst (λ (t : Told). IsLeafNode t.grid node) told leaf in
      keeps v node (m.cells v) there (of.contents v (subst (λ (t : Told). v < t.counts.cells) told below) node there);
  on_faces = λ some. faces_same old new m.faces told (λ x node leaf. same.on_faces x node) (of.on_faces (subst (λ (t : Told). 0 < t.counts.faces) told some));
  on_edges = λ some. edges_same old new m.edges told (λ x node leaf. same.on_edges x node) (of.on_edges (subst (λ (t : Told). 0 < t.counts.edges) told some));
}

same_variable : (v u : ℕ) → Cell u ≡ Cell v → u ≡ v
same_variable v u e = cc

-- another variable's arrays are as they were
pub others_kept : (old new : WorldState) (v u node : ℕ) (content : CellAt → ℤ) → OnlyCells old new v → (u == v) ≡ false → NodeHolds old u content node → NodeHolds new u content node
others_kept old new v u node content only other holds =
    holds_same old new u node content only.told (only.others (Cell u) node (λ e. absurd (let t = eq-eqb u v (same_variable v u e) in cc))) holds

pub others_taken : (old new : WorldState) (v u node : ℕ) (content : CellAt → ℤ) → OnlyCellsAndWork old new v → (u == v) ≡ false → NodeHolds old u content node → NodeHolds new u content node
others_taken old new v u node content only other holds =
    holds_same old new u node content only.told (only.others (Cell u) node (λ e. absurd (let t = eq-eqb u v (same_variable v u e) in cc)) (λ e. absurd cc)) holds

pub parents_kept : (old new : WorldState) (v : ℕ) → OnlyParents old new v → KeepsLeaves old new
parents_kept old new v only u node content leaf holds = elim (cases_Bool (u == v)) [
  | inr other ↦ others_kept old new v u node content only.only other holds
  | inl same ↦ (
      let e = eqb-true u v same in
      holds_same old new u node content only.only.told (subst (λ x. cell_array new x node ≡ cell_array old x node) (sym e) (only.leaves node leaf)) holds)
]

-- a leaf's cells are as they were
cells_kept : (old new : WorldState) (v node : ℕ) (content : CellAt → ℤ) → OnlyGuards old new v → IsLeafNode old.told.grid node → NodeHolds old v content node → NodeHolds new v content node
cells_kept old new v node content only leaf holds =
    let g = old.told.grid in
    let here : HoldsViews g content (block_at g node) (cells_of g (cell_array new v node)) = record { at = λ i j k hi hj hk. only.cells node i j k leaf hi hj hk ∙ holds.at i j k hi hj hk } in
    subst (λ (t : Told). HoldsViews t.grid content (block_at t.grid node) (cells_of t.grid (cell_array new v node))) (sym only.only.told) here

pub guards_kept : (old new : WorldState) (v : ℕ) → OnlyGuards old new v → KeepsLeaves old new
guards_kept old new v only u node content leaf holds = elim (cases_Bool (u == v)) [
  | inr other ↦ others_kept old new v u node content only.only other holds
  | inl same ↦ (
      let e = eqb-true u v same in
      subst (λ x. NodeHolds new x content node) (sym e) (cells_kept old new v node content only leaf (subst (λ x. NodeHolds old x content node) e holds)))
]

pub faces_kept : (old new : WorldState) → OnlyWorkFaces old new → KeepsLeaves old new
faces_kept old new only u node content leaf holds = holds_same old new u node content only.told (only.others (Cell u) node (λ a e there. absurd (cc))) holds

pub work_kept : (old new : WorldState) → OnlyWorkCells old new → KeepsLeaves old new
work_kept old new only u node content leaf holds = holds_same old new u node content only.told (only.others (Cell u) node (λ e. absurd (cc))) holds

-- where the numbers of cells alone change, or those of work arrays, all numbers on faces and edges are what they were
pub cells_keep_fields : (old new : WorldState) (v : ℕ) → OnlyCells old new v → KeepsFields old new
cells_keep_fields old new v only = record {
  on_faces = λ x node. only.others (Face x) node (λ is. absurd cc);
  on_edges = λ x node. only.others (Edge x) node (λ is. absurd cc);
}

pub taken_keeps_fields : (old new : WorldState) (v : ℕ) → OnlyCellsAndWork old new v → KeepsFields old new
taken_keeps_fields old new v only = record {
  on_faces = λ x node. only.others (Face x) node (λ is. absurd cc) (λ is. absurd cc);
  on_edges = λ x node. only.others (Edge x) node (λ is. absurd cc) (λ is. absurd cc);
}

pub work_keeps_fields : (old new : WorldState) → OnlyWorkCells old new → KeepsFields old new
work_keeps_fields old new only = record {
  on_faces = λ x node. only.others (Face x) node (λ is. absurd cc);
  on_edges = λ x node. only.others (Edge x) node (λ is. absurd cc);
}

pub work_faces_keep_fields : (old new : WorldState) → OnlyWorkFaces old new → KeepsFields old new
work_faces_keep_fields old new only = record {
  on_faces = λ x node. only.others (Face x) node (λ a is leaf. absurd cc);
  on_edges = λ x node. only.others (Edge x) node (λ a is leaf. absurd cc);
}
