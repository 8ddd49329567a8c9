-- A world whose guard faces are filled, and whose work edges have the electromotive forces.
use Rattle.std.proofs.Common.{◌≡◌, ℕ, ◌+◌, ◌<◌, ◌≤◌, ◌^◌, true, sym, subst, arith}
use Rattle.amr_num.specs.Numbers.{Within}
use Rattle.amr_num.specs.declared.Axis.{Axis}
use Rattle.amr_num.specs.declared.Axis.TheVariants.{X, Y, Z}
use Rattle.mesh_model.specs.declared.fields.values.Group.TheVariants as groups
use Rattle.mesh_model.specs.declared.fields.values.Var.TheVariants.{EdgeWork, Face}
use Rattle.mesh_model.specs.Fields.Advect.{Speeds}
use Rattle.mesh_model.specs.Fields.ArrayPlaces.{face_extents, number_at}
use Rattle.mesh_model.specs.Fields.Plain.{Mesh}
use Rattle.mesh_model.specs.Fields.Ranks.{IsFit, Told, WorldState}
use Rattle.mesh_model.specs.Geometry.Places.{longer_on}
use Rattle.mesh_model.specs.Tree.ValidGrid.{Valid}
use Rattle.mesh_model.proofs.FieldLemmas.Worlds.{has_array}
use Rattle.rank_world.specs.Holding.{IsLeafNode, IsOfValidMesh, OnlyAxes, face_array}
use Rattle.edge_average.specs.EdgeArrays.{EdgesWithin}
use Rattle.guard_fill.specs.Guarding.{OnlyGuardsOf}
use Rattle.guard_fill.specs.Restricting.{OnlyParentsOf}
use Rattle.step_induct.specs.Circling.{IsFaceArray}
use Rattle.step_induct.specs.Forces.{AreFacesNear}
use Rattle.mesh_steps.specs.Circulations.{IsSmall}
use Rattle.mesh_steps.specs.Forcing.{MayForce, face_arrays}
use Rattle.mesh_steps.specs.Stepping.{KeepsMeshes}
use Rattle.mesh_steps.specs.declared.circulations.Step.TheVariants as steps
use Rattle.mesh_steps.proofs.Forced.{faces_still, leaf_near}
use Rattle.mesh_steps.proofs.Guarded.{guards_stay, parents_stay}
use Rattle.mesh_steps.proofs.MeshSet.{axes_stay, work_edges}
use Rattle.mesh_steps.proofs.SmallArrays.{edges_added}

-- the mesh of a world is that of the next still
pub mesh_still : (old new : WorldState) → KeepsMeshes old new → IsOfValidMesh old → IsOfValidMesh new
mesh_still old new keeps of = record { mesh = of.mesh; valid = of.valid; world = keeps of.mesh of.world }

pub summed_keeps : (old new : WorldState) → OnlyParentsOf groups.Face old new → KeepsMeshes old new
summed_keeps old new only m of = parents_stay groups.Face old new m only of

pub filled_keeps : (old new : WorldState) → OnlyGuardsOf groups.Face old new → KeepsMeshes old new
filled_keeps old new only m of = guards_stay groups.Face old new m only of

pub edges_keep : (old new : WorldState) → OnlyAxes EdgeWork old new → KeepsMeshes old new
edges_keep old new only m of = axes_stay EdgeWork work_edges old new m only of

-- ---- what the step reads is small

near_of : (a d : Axis) (n g i : ℕ) → i < longer_on a d n → (g ≤ g + i + 1) × (g + i ≤ g + n)
near_of X X n g i h = (omega arith, omega (arith, h))
near_of X Y n g i h = (omega arith, omega (arith, h))
near_of X Z n g i h = (omega arith, omega (arith, h))
near_of Y X n g i h = (omega arith, omega (arith, h))
near_of Y Y n g i h = (omega arith, omega (arith, h))
near_of Y Z n g i h = (omega arith, omega (arith, h))
near_of Z X n g i h = (omega arith, omega (arith, h))
near_of Z Y n g i h = (omega arith, omega (arith, h))
near_of Z Z n g i h = (omega arith, omega (arith, h))

module _ (n e : ℕ) (filled new : WorldState) (speeds : Speeds) (valid : Valid filled.told.grid) (may : MayForce n e filled speeds) (only : OnlyAxes EdgeWork filled new) (fit : IsFit n e new)
    (within : EdgesWithin true new (2 ^ 58))
  where
    module _ (node : ℕ) (leaf : IsLeafNode new.told.grid node) where
      was : IsLeafNode filled.told.grid node
      was = subst (λ (t : Told). IsLeafNode t.grid node) only.told leaf

      near : AreFacesNear (2 ^ 50) n e (face_arrays filled node)
      near = leaf_near n e filled node speeds valid was may

      small_on : (a : Axis) (i j k : ℕ) → i < longer_on a X n → j < longer_on a Y n → k < longer_on a Z n → Within (2 ^ 50) (number_at (face_extents n e a) (face_array filled a node) (e + i) (e + j) (e + k))
      small_on X i j k hi hj hk = near.at X (e + i) (e + j) (e + k) (near_of X X n e i hi) (near_of X Y n e j hj) (near_of X Z n e k hk)
      small_on Y i j k hi hj hk = near.at Y (e + i) (e + j) (e + k) (near_of Y X n e i hi) (near_of Y Y n e j hj) (near_of Y Z n e k hk)
      small_on Z i j k hi hj hk = near.at Z (e + i) (e + j) (e + k) (near_of Z X n e i hi) (near_of Z Y n e j hj) (near_of Z Z n e k hk)

      faces_small : (a : Axis) → IsFaceArray n e a (face_array new a node)
      faces_small a = subst (IsFaceArray n e a) (sym (faces_still filled new node only a)) (record {
        whole = may.fit.whole.each (Face a) node (has_array n e filled (Face a) node may.fit was.there may.declared);
        small = λ i j k hi hj hk. let small = small_on a i j k hi hj hk in omega (arith, small);
      })

      pub reads_small : IsSmall steps.Induct n e new node
      reads_small = record { edges = edges_added steps.Induct n e new node fit leaf (λ a. tt) (λ a. within node a leaf); faces = λ is a. faces_small a }
