-- The mesh whose image pieces are.
use Rattle.std.specs.Prelude.{ℕ}
use Rattle.mesh_model.specs.Fields.Plain.{Mesh}
use Rattle.amr_engine.specs.EngineMesh.{mesh_of}
use Rattle.amr_engine.specs.declared.saving.MeshPieces.{MeshPieces}

module _ {N G : ℕ} where
  abbrev pub pieced : MeshPieces N G → Mesh
  pieced p = mesh_of p.names.now p.world.now p.outs.now p.marks.now
