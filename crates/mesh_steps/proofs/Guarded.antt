-- Worlds whose nodes above the leaves are summed, and whose leaves have their guards, are of the mesh that they were of.
use Rattle.std.proofs.Common.{◌≡◌, false, sym, subst, ◌∙◌}
use Rattle.mesh_model.specs.declared.fields.values.Group.{Group}
use Rattle.mesh_model.specs.declared.fields.values.Group.TheVariants as groups
use Rattle.mesh_model.specs.declared.fields.values.Var.TheVariants.{Cell, Edge, Face}
use Rattle.mesh_model.specs.Fields.ArrayPlaces.{HoldsEdges, HoldsFaces}
use Rattle.mesh_model.specs.Fields.FinePlaces.{edges_in, faces_in}
use Rattle.mesh_model.specs.Fields.Plain.{Mesh}
use Rattle.mesh_model.specs.Fields.Ranks.{Told, WorldState}
use Rattle.block_tree.specs.Numbered.{block_at}
use Rattle.guard_fill.specs.Guarding.{HasMesh, OnlyGuardAxes, OnlyGuardsOf}
use Rattle.guard_fill.specs.Restricting.{OnlyParentsOf}
use Rattle.rank_world.specs.Holding.{IsLeafNode, IsOfMesh, IsOfValidMesh, LeavesHoldEdges, LeavesHoldFaces, edge_array, face_array}
use Rattle.rank_world.proofs.Meshes.{edges_same, faces_same, holds_same, mesh_kept}
use Rattle.mesh_steps.proofs.Kept.{cells_keep_fields, guards_kept, meshes_kept, parents_kept}

-- ---- sums

pub parents_told : (group : Group) (old new : WorldState) → OnlyParentsOf group old new → new.told ≡ old.told
parents_told (groups.Cell v) old new only = only.only.told
parents_told groups.Face old new only = only.only.told
parents_told groups.Edge old new only = only.only.told

pub parents_stay : (group : Group) (old new : WorldState) (m : Mesh) → OnlyParentsOf group old new → IsOfMesh old m → IsOfMesh new m
parents_stay (groups.Cell v) old new m only = meshes_kept old new only.only.told (parents_kept old new v only) (cells_keep_fields old new v only.only) m
parents_stay groups.Face old new m only =
    mesh_kept old new m only.only.told
    (λ v below holds node leaf. holds_same old new v node (m.cells v) only.only.told (only.only.others (Cell v) node (λ a is. absurd cc)) (holds node (subst (λ (t : Told). IsLeafNode t.grid node) only.only.told leaf)))
    (faces_same old new m.faces only.only.told (λ x node leaf. only.leaves x node leaf))
    (edges_same old new m.edges only.only.told (λ x node leaf. only.only.others (Edge x) node (λ a is. absurd cc)))
parents_stay groups.Edge old new m only =
    mesh_kept old new m only.only.told
    (λ v below holds node leaf. holds_same old new v node (m.cells v) only.only.told (only.only.others (Cell v) node (λ a is. absurd cc)) (holds node (subst (λ (t : Told). IsLeafNode t.grid node) only.only.told leaf)))
    (faces_same old new m.faces only.only.told (λ x node leaf. only.only.others (Face x) node (λ a is. absurd cc)))
    (edges_same old new m.edges only.only.told (λ x node leaf. only.leaves x node leaf))

-- ---- guards

pub guards_told : (group : Group) (old new : WorldState) → OnlyGuardsOf group old new → new.told ≡ old.told
guards_told (groups.Cell v) old new only = only.only.told
guards_told groups.Face old new only = only.told
guards_told groups.Edge old new only = only.told

module _ (old new : WorldState) (m : Mesh) where
  faces_stay : OnlyGuardAxes Face old new → LeavesHoldFaces old m.faces → LeavesHoldFaces new m.faces
  faces_stay only holds node leaf x =
      let was : IsLeafNode old.told.grid node = subst (λ (t : Told). IsLeafNode t.grid node) only.told leaf in
      let here : HoldsFaces old.told.grid m.faces x (block_at old.told.grid node) (faces_in old.told.grid x (face_array new x node)) = record {
        at = λ i j k hi hj hk. only.own x node i j k was hi hj hk ∙ (holds node was x).at i j k hi hj hk;
      } in
      subst (λ (t : Told). HoldsFaces t.grid m.faces x (block_at t.grid node) (faces_in t.grid x (face_array new x node))) (sym only.told) here

  edges_stay : OnlyGuardAxes Edge old new → LeavesHoldEdges false old m.edges → LeavesHoldEdges false new m.edges
  edges_stay only holds node leaf x =
      let was : IsLeafNode old.told.grid node = subst (λ (t : Told). IsLeafNode t.grid node) only.told leaf in
      let here : HoldsEdges old.told.grid m.edges x (block_at old.told.grid node) (edges_in old.told.grid x (edge_array false new x node)) = record {
        at = λ i j k hi hj hk. only.own x node i j k was hi hj hk ∙ (holds node was x).at i j k hi hj hk;
      } in
      subst (λ (t : Told). HoldsEdges t.grid m.edges x (block_at t.grid node) (edges_in t.grid x (edge_array false new x node))) (sym only.told) here

pub guards_stay : (group : Group) (old new : WorldState) (m : Mesh) → OnlyGuardsOf group old new → IsOfMesh old m → IsOfMesh new m
guards_stay (groups.Cell v) old new m only = meshes_kept old new only.only.told (guards_kept old new v only) (cells_keep_fields old new v only.only) m
guards_stay groups.Face old new m only =
    mesh_kept old new m only.told
    (λ v below holds node leaf. holds_same old new v node (m.cells v) only.told (only.others (Cell v) node (λ a is own. absurd cc)) (holds node (subst (λ (t : Told). IsLeafNode t.grid node) only.told leaf)))
    (faces_stay old new m only)
    (edges_same old new m.edges only.told (λ x node leaf. only.others (Edge x) node (λ a is own. absurd cc)))
guards_stay groups.Edge old new m only =
    mesh_kept old new m only.told
    (λ v below holds node leaf. holds_same old new v node (m.cells v) only.told (only.others (Cell v) node (λ a is own. absurd cc)) (holds node (subst (λ (t : Told). IsLeafNode t.grid node) only.told leaf)))
    (faces_same old new m.faces only.told (λ x node leaf. only.others (Face x) node (λ a is own. absurd cc)))
    (edges_stay old new m only)

-- a child of a leaf may be made in each world of a valid mesh
pub mesh_there : (group : Group) (w : WorldState) → IsOfValidMesh w → HasMesh group w
mesh_there (groups.Cell v) w of = tt
mesh_there groups.Face w of = of
mesh_there groups.Edge w of = of
