-- The meshes with which runs begin.
use Rattle.std.specs.Prelude.{Option, Some, None}
use Rattle.check_format.specs.ReadImages.{IsRead, stored_in}
use Rattle.check_format.specs.declared.reading.images.Image.{Image}
use Rattle.mesh_model.specs.Fields.Plain.{Mesh}
use Rattle.mesh_model.specs.Fields.Start.{start_mesh}
use Rattle.mesh_model.specs.Geometry.Limits.{IsShape}
use Rattle.mesh_model.specs.Images.Image.{mesh_of}
use Rattle.mesh_model.specs.Images.Reading.{NamesFit}
use Rattle.mesh_model.specs.Language.Commands.{PlainScript}
use Rattle.mesh_model.specs.Run.Runs.{first_mesh}
use Rattle.mesh_model.specs.declared.language.script.Declared.{Declared}
use Rattle.amr_program.specs.declared.origin.Origin.{Origin}
use Rattle.amr_program.specs.declared.origin.Origin.TheVariants as origins

-- the mesh of an image
abbrev pub mesh_in : Image → Mesh
mesh_in im = mesh_of (stored_in im)

abbrev pub mesh_from : Origin → Mesh
mesh_from (origins.Declared d) = start_mesh d.shape d.names
mesh_from (origins.Image im) = mesh_in im

-- what was declared is within the limits; an image is one that was read
pub record CanDeclare (d : Declared) : Type 0 where
  pub shape : IsShape d.shape
  pub names : NamesFit d.names

abbrev pub CanBegin : Origin → Type 0
CanBegin (origins.Declared d) = CanDeclare d
CanBegin (origins.Image im) = IsRead im

-- the mesh of a run from an image, or without one from the declarations of a script; and what an image has declared
abbrev pub begin_by : Option Image → PlainScript → Mesh
begin_by None s = first_mesh s
begin_by (Some im) s = mesh_in im

abbrev pub given_by : Option Image → Option Declared
given_by None = None
given_by (Some im) = Some im.declared
