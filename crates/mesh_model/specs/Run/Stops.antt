-- Why a command is refused on a mesh. It leaves the mesh then.
use Rattle.std.specs.Prelude.{Bool, ◌&&◌, nat_lt, nat_le, if◌then◌else◌, ℤ, List, length, Option, Some, None}
use Rattle.std.specs.Option.{option_or, option_map}
use Rattle.amr_num.specs.declared.BlockAt.{BlockAt}
use Rattle.mesh_model.specs.declared.language.script.Command.{Command}
use Rattle.mesh_model.specs.declared.language.script.Command.TheVariants.{FillAll, FillBox, FaceSet, EdgeSet, Uniform, MarkRefine, MarkDerefine, RefineWhere, DerefineWhere, Regrid, Advect, Curl, Induct, Checkpoint, PrintSize, PrintMesh, PrintTree, PrintRanks, PrintTrace, PrintVar, PrintGuards, Total, NetFlux}
use Rattle.mesh_model.specs.declared.run.stops.Refusal.{Refusal}
use Rattle.mesh_model.specs.declared.run.stops.Refusal.TheVariants.{Range, Courant, Level, Place, PlaceBlock, Blocks}
use Rattle.mesh_model.specs.declared.fields.spot.Spot.TheVariants.{Face, Edge}
use Rattle.mesh_model.specs.Fields.Advect.{keeps_courant, advect, three}
use Rattle.mesh_model.specs.Fields.Induct.{curl, induct, uniform}
use Rattle.mesh_model.specs.Geometry.Limits.{most_nodes}
use Rattle.mesh_model.specs.Tree.Order.{nodes}
use Rattle.mesh_model.specs.Fields.Plain.{Mesh, marked}
use Rattle.mesh_model.specs.Geometry.Canonical.{is_canonical, is_canonical_edge}
use Rattle.mesh_model.specs.Tree.Kinds.{is_leaf_block, is_leaf_edge, is_leaf_face}
use Rattle.mesh_model.specs.Fields.RangeWalk.{first_excess}
use Rattle.mesh_model.specs.Tree.Regrown.{new_grid}
use Rattle.mesh_model.specs.Fields.Regrid.{regrid}

-- it holds, or this is the reason
abbrev pub or_else : Bool → Refusal → Option Refusal
or_else holds refusal = if holds then None else Some refusal

-- all numbers of the mesh that would be made are in range, or the first that is not
abbrev pub range_of : Mesh → Option Refusal
range_of after = option_map Range (first_excess after)

abbrev pub courant_of : Mesh → List ℤ → Option Refusal
courant_of m speeds = or_else (keeps_courant m.grid.shape (three speeds)) (Courant speeds)

-- the block is a leaf
abbrev pub leaf_of : Mesh → BlockAt → Option Refusal
leaf_of m at = or_else (is_leaf_block m.grid at) (PlaceBlock at)

-- the new tree has at most the limit of nodes
abbrev pub nodes_of : Mesh → Option Refusal
nodes_of m = or_else (nat_le (length (nodes (new_grid (marked m)).leaves)) (most_nodes m.grid.shape)) (Blocks (length (nodes (new_grid (marked m)).leaves)))

-- why the command is refused, where it is: the first reason in the order in which they are written here
unfoldable pub refusal : Mesh → Command → Option Refusal
refusal m (FillAll var value) = None
refusal m (FillBox var level low high value) = None
refusal m (FaceSet at value) = or_else (is_canonical m.grid.shape at && is_leaf_face m.grid at) (Place (Face at))
refusal m (EdgeSet at value) = or_else (is_canonical_edge m.grid.shape at && is_leaf_edge m.grid at) (Place (Edge at))
refusal m (Uniform b) = range_of (uniform m (three b))
refusal m (MarkRefine at) = option_or (leaf_of m at) (or_else (nat_lt at.level m.grid.shape.max) (Level (record { level = at.level; limit = m.grid.shape.max })))
refusal m (MarkDerefine at) = option_or (leaf_of m at) (or_else (nat_lt m.grid.shape.min at.level) (Level (record { level = at.level; limit = m.grid.shape.min })))
refusal m (RefineWhere var above) = None
refusal m (DerefineWhere var below) = None
refusal m Regrid = option_or (nodes_of m) (range_of (regrid m))
refusal m (Advect var speeds) = option_or (courant_of m speeds) (range_of (advect m var (three speeds)))
refusal m Curl = range_of (curl m)
refusal m (Induct speeds) = option_or (courant_of m speeds) (range_of (induct m (three speeds)))
refusal m Checkpoint = None
refusal m PrintSize = None
refusal m PrintMesh = None
refusal m PrintTree = None
refusal m PrintRanks = None
refusal m PrintTrace = None
refusal m (PrintVar group) = None
refusal m (PrintGuards group at) = leaf_of m at
refusal m (Total var) = None
refusal m NetFlux = None
