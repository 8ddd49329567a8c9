-- The contents of a cell variable and the numbers of the face and of the edge variable by coordinate, as the leaves of a world have them.
use Rattle.std.specs.Prelude.{ℕ, ◌+◌, ◌%◌, ℤ, Bool, true, false, Option, Some, None, pos, if◌then◌else◌, nat_lt}
use Rattle.std.specs.List.{position_or_len}
use Rattle.amr_num.specs.declared.Axis.{Axis}
use Rattle.amr_num.specs.declared.Axis.TheVariants.{X, Y, Z}
use Rattle.amr_num.specs.declared.BlockAt.{BlockAt}
use Rattle.amr_num.specs.declared.CellAt.{CellAt}
use Rattle.amr_num.specs.declared.FaceAt.{FaceAt}
use Rattle.amr_num.specs.declared.EdgeAt.{EdgeAt}
use Rattle.mesh_model.specs.declared.geometry.Shape.{Shape}
use Rattle.mesh_model.specs.Geometry.Blocks.{is_same_block}
use Rattle.mesh_model.specs.Tree.Order.{nodes}
use Rattle.mesh_model.specs.Geometry.Coordinates.{above, below, edge_numbers, extent, high_cell, is_periodic, low_cell, moved_twice, next, on, step}
use Rattle.mesh_model.specs.Tree.Kinds.{Grid, block_of, holds, is_leaf}
use Rattle.mesh_model.specs.Fields.FinePlaces.{edges_in, faces_in}
use Rattle.mesh_model.specs.Fields.Plain.{on_cells, on_edges, on_faces}
use Rattle.mesh_model.specs.Fields.Ranks.{WorldState}
use Rattle.rank_world.specs.Holding.{edge_array, face_array, numbers_of}

-- the number of a block's node: its place among all nodes
unfoldable pub node_of : Grid → BlockAt → ℕ
node_of g b = position_or_len (is_same_block b) (nodes g.leaves)

-- what stands at a cell's place in the array of the block in which it lies
unfoldable pub content_in : WorldState → ℕ → CellAt → ℤ
content_in w v c =
    let s = w.told.grid.shape in
    numbers_of w v (node_of w.told.grid (block_of s.n c)) (s.g + c.x % s.n) (s.g + c.y % s.n) (s.g + c.z % s.n)

-- the contents of the leaf cells
abbrev pub contents_of : WorldState → ℕ → CellAt → ℤ
contents_of w v = on_cells w.told.grid (content_in w v)

-- what stands on the low side of a cell on an axis, for h = 0, or on its high side, for h = 1, in the array of the block in which it lies
unfoldable pub beside_cell : WorldState → Axis → ℕ → CellAt → ℤ
beside_cell w a h c =
    let s = w.told.grid.shape in
    faces_in w.told.grid a (face_array w a (node_of w.told.grid (block_of s.n c))) (s.g + (c.x % s.n + (step a h).x)) (s.g + (c.y % s.n + (step a h).y)) (s.g + (c.z % s.n + (step a h).z))

-- a field at a cell, where it is there
abbrev pub at_cell : (CellAt → ℤ) → Option CellAt → ℤ
at_cell field None = pos 0
at_cell field (Some c) = field c

-- what stands on a face in the leaf above it, or where none is there in the leaf below it
unfoldable pub face_in : WorldState → FaceAt → ℤ
face_in w f =
    let g = w.told.grid in
    if holds (is_leaf g) (high_cell g.shape f) then at_cell (beside_cell w f.axis 0) (high_cell g.shape f) else at_cell (beside_cell w f.axis 1) (low_cell g.shape f)

-- the numbers of the leaf faces, where there is a face variable
abbrev pub faces_of : WorldState → FaceAt → ℤ
faces_of w f = if nat_lt 0 w.told.counts.faces then on_faces w.told.grid (face_in w) f else pos 0

-- ---- edges

-- one or no step on the two axes after a
abbrev pub rim : Axis → ℕ → ℕ → CellAt
rim X o r = record { level = 0; x = 0; y = o; z = r }
rim Y o r = record { level = 0; x = r; y = 0; z = o }
rim Z o r = record { level = 0; x = o; y = r; z = 0 }

-- what stands on an edge of a cell along an axis, so many steps on the two axes after it, in the array of the block in which the cell lies
unfoldable pub on_rim : WorldState → Axis → ℕ → ℕ → CellAt → ℤ
on_rim w a o r c =
    let s = w.told.grid.shape in
    edges_in w.told.grid a (edge_array false w a (node_of w.told.grid (block_of s.n c))) (s.g + (c.x % s.n + (rim a o r).x)) (s.g + (c.y % s.n + (rim a o r).y)) (s.g + (c.z % s.n + (rim a o r).z))

-- the cell below or above a position on an axis, and that of the four cells round an edge which is below or above it on the two axes after its own
abbrev pub place_round : Shape → Axis → Bool → CellAt → Option ℕ
place_round s a low c = if low then below (is_periodic s a) (extent s a c.level) (on a c) else above (is_periodic s a) (extent s a c.level) (on a c)

abbrev pub cell_round : Shape → EdgeAt → Bool → Bool → Option CellAt
cell_round s e low low' =
    let b = next e.axis in
    moved_twice b (place_round s b low (edge_numbers e)) (next b) (place_round s (next b) low' (edge_numbers e)) (edge_numbers e)

-- a field at a cell where that is a leaf cell, and another number where it is none
abbrev pub at_leaf_or : Grid → (CellAt → ℤ) → Option CellAt → ℤ → ℤ
at_leaf_or g field o other = if holds (is_leaf g) o then at_cell field o else other

-- what stands on an edge in the first of the leaves round it
unfoldable pub edge_in : WorldState → EdgeAt → ℤ
edge_in w e =
    let g = w.told.grid in
    at_leaf_or g (on_rim w e.axis 1 1) (cell_round g.shape e true true)
    (at_leaf_or g (on_rim w e.axis 0 1) (cell_round g.shape e false true)
    (at_leaf_or g (on_rim w e.axis 1 0) (cell_round g.shape e true false)
    (at_leaf_or g (on_rim w e.axis 0 0) (cell_round g.shape e false false) (pos 0))))

-- the numbers of the leaf edges, where there is an edge variable
abbrev pub edges_of : WorldState → EdgeAt → ℤ
edges_of w e = if nat_lt 0 w.told.counts.edges then on_edges w.told.grid (edge_in w) e else pos 0
