-- The walk over all stored numbers, in which the first one out of range is reported.
use Rattle.std.specs.Prelude.{ℕ, Bool, ◌&&◌, nat_lt, if◌then◌else◌, ℤ, unsigned_abs, List, [], ◌∷◌, map, flat_map, length, Option, Some, None, find}
use Rattle.std.specs.Option.{option_or, option_map}
use Rattle.std.specs.List.{range_with_len}
use Rattle.amr_num.specs.Numbers.{number_range, outflow_range}
use Rattle.amr_num.specs.declared.Axis.TheVariants.{X, Y, Z}
use Rattle.amr_num.specs.declared.CellAt.{CellAt}
use Rattle.amr_num.specs.declared.FaceAt.{FaceAt}
use Rattle.amr_num.specs.declared.EdgeAt.{EdgeAt}
use Rattle.mesh_model.specs.declared.fields.values.Group.TheVariants.{Cell, Face, Edge}
use Rattle.mesh_model.specs.declared.fields.spot.RangeStop.{RangeStop}
use Rattle.mesh_model.specs.Tree.Kinds.{Grid, is_leaf_face, is_leaf_edge}
use Rattle.mesh_model.specs.Fields.Plain.{Mesh}
use Rattle.mesh_model.specs.Geometry.Places.{block_cells, block_edges, block_faces}
use Rattle.mesh_model.specs.Geometry.Canonical.{canonical_edge, canonical_face}
use Rattle.mesh_model.specs.declared.fields.spot.Spot.TheVariants as spots

-- the walk: leaf blocks in Morton order, in each the axes in turn, and then x fastest
abbrev pub cells_walked : Grid → List CellAt
cells_walked g = flat_map (block_cells g.shape.n) g.leaves

abbrev pub faces_walked : Grid → List FaceAt
faces_walked g = flat_map (λ b. flat_map (λ a. map (canonical_face g.shape) (block_faces g.shape.n b a)) (X ∷ Y ∷ Z ∷ [])) g.leaves

abbrev pub edges_walked : Grid → List EdgeAt
edges_walked g = flat_map (λ b. flat_map (λ a. map (canonical_edge g.shape) (block_edges g.shape.n b a)) (X ∷ Y ∷ Z ∷ [])) g.leaves

abbrev pub is_above : ℕ → ℤ → Bool
is_above most z = nat_lt most (unsigned_abs z)

-- a number out of range, with its variable and its place
abbrev pub cell_above : Mesh → ℕ → CellAt → RangeStop
cell_above m v c = record { var = Cell v; spot = spots.Cell c; value = m.cells v c }

abbrev pub out_above : Mesh → ℕ → RangeStop
out_above m v = record { var = Cell v; spot = spots.Out; value = m.outs v }

abbrev pub face_above : Mesh → FaceAt → RangeStop
face_above m f = record { var = Face; spot = spots.Face f; value = m.faces f }

abbrev pub edge_above : Mesh → EdgeAt → RangeStop
edge_above m e = record { var = Edge; spot = spots.Edge e; value = m.edges e }

-- the first among some variables for which there is one
abbrev pub first_of_all : (ℕ → Option RangeStop) → List ℕ → Option RangeStop
first_of_all at [] = None
first_of_all at (v ∷ vs) = option_or (at v) (first_of_all at vs)

abbrev pub variables : Mesh → List ℕ
variables m = range_with_len 0 (length m.names.cells)

-- the first content of a variable that is out of range
abbrev pub first_cell_above : Mesh → ℕ → Option RangeStop
first_cell_above m v = option_map (cell_above m v) (find (λ c. is_above number_range (m.cells v c)) (cells_walked m.grid))

-- what has flowed out of a variable, where that is out of range
abbrev pub out_excess : Mesh → ℕ → Option RangeStop
out_excess m v = if is_above outflow_range (m.outs v) then Some (out_above m v) else None

-- the first number out of range: of the cell variables in declared order, then of what flowed out of them, then of the face and the edge
-- variable; of faces and edges only leaf ones count
unfoldable pub first_excess : Mesh → Option RangeStop
first_excess m =
    option_or (first_of_all (first_cell_above m) (variables m))
    (option_or (option_map (out_above m) (find (λ v. is_above outflow_range (m.outs v)) (variables m)))
    (option_or (option_map (face_above m) (find (λ f. is_leaf_face m.grid f && is_above number_range (m.faces f)) (faces_walked m.grid)))
    (option_map (edge_above m) (find (λ e. is_leaf_edge m.grid e && is_above number_range (m.edges e)) (edges_walked m.grid)))))
