-- The numbers of a group of which leaves have copies: those of the face variable, and those of the edge variable or of the work edges.
use Rattle.std.specs.Prelude.{ℕ, ◌<◌, Bool, true, false, ℤ}
use Rattle.amr_num.specs.declared.FaceAt.{FaceAt}
use Rattle.amr_num.specs.declared.EdgeAt.{EdgeAt}
use Rattle.mesh_model.specs.declared.fields.values.Group.{Group}
use Rattle.mesh_model.specs.declared.fields.values.Group.TheVariants.{Cell, Face, Edge}
use Rattle.mesh_model.specs.Fields.Arrays.{Counts}
use Rattle.mesh_model.specs.Fields.Ranks.{WorldState}
use Rattle.flux_conserve.specs.FaceArrays.{FacesWithin, OnlyFaces}
use Rattle.rank_world.specs.Holding.{LeafEdgesHold, LeafFacesHold, LeavesHoldEdges, LeavesHoldFaces, OnlyLeafAxes, edge_var}
use Rattle.edge_average.specs.EdgeArrays.{EdgesWithin}

-- there are arrays of them; the work edges are always there
abbrev pub AreThere : Group → Bool → Counts → Type 0
AreThere (Cell v) work n = Unit {0}
AreThere Face work n = 0 < n.faces
AreThere Edge true n = Unit {0}
AreThere Edge false n = 0 < n.edges

-- those of leaves are at most so great in absolute value
abbrev pub CopiesWithin : Group → Bool → WorldState → ℕ → Type 0
CopiesWithin (Cell v) work w most = Unit {0}
CopiesWithin Face work w most = FacesWithin false w most
CopiesWithin Edge work w most = EdgesWithin work w most

-- those of leaves may be others, and all else is as it was
abbrev pub OnlyCopies : Group → Bool → WorldState → WorldState → Type 0
OnlyCopies (Cell v) work old new = Unit {0}
OnlyCopies Face work old new = OnlyFaces false old new
OnlyCopies Edge work old new = OnlyLeafAxes (edge_var work) old new

-- where each copy of a leaf face's or a leaf edge's number was that of a field, each leaf holds the field's views
abbrev pub CopiesAgree : Group → Bool → WorldState → WorldState → Type 0
CopiesAgree (Cell v) work old new = Unit {0}
CopiesAgree Face work old new = (field : FaceAt → ℤ) → LeafFacesHold old field → LeavesHoldFaces new field
CopiesAgree Edge work old new = (field : EdgeAt → ℤ) → LeafEdgesHold work old field → LeavesHoldEdges work new field
