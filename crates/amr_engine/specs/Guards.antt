-- The field of a variable of a mesh.
use Rattle.mesh_model.specs.declared.fields.values.Group.{Group}
use Rattle.mesh_model.specs.declared.fields.values.Group.TheVariants.{Cell, Edge, Face}
use Rattle.mesh_model.specs.Fields.Plain.{Mesh}
use Rattle.guard_fill.specs.Restricting.{FieldOf}

-- its numbers by coordinates, on cells, faces or edges
abbrev pub field_of : Mesh → (group : Group) → FieldOf group
field_of m (Cell v) = m.cells v
field_of m Face = m.faces
field_of m Edge = m.edges
