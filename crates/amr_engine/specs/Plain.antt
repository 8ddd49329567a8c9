-- The plain mesh that an engine stands for.
use Rattle.std.specs.Prelude.{ℕ}
use Rattle.mesh_model.specs.Fields.Plain.{Mesh}
use Rattle.mesh_model.specs.declared.language.script.Declared.{Declared}
use Rattle.amr_engine.specs.EngineMesh.{mesh_of}
use Rattle.amr_engine.specs.declared.engine.Engine.{Engine}

module _ {N G : ℕ} where
  abbrev pub plain : Engine N G → Mesh
  plain e = mesh_of e.names e.world e.outs.items e.marks

  -- what the script declared
  abbrev pub declared_of : Engine N G → Declared
  declared_of e = record { shape = e.world.told.grid.shape; names = e.names }
