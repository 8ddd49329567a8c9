-- Views: what the mesh has at any coordinate, finer or coarser than its leaves.
use Rattle.std.specs.Prelude.{ℕ, zero, suc, ◌+◌, ◌-◌, ◌*◌, ◌%◌, Bool, true, false, ◌&&◌, ◌||◌, ◌==◌, if◌then◌else◌, ℤ, pos, ◌+ℤ◌, List, [], ◌∷◌, map, flat_map, length}
use Rattle.amr_num.specs.declared.Axis.{Axis}
use Rattle.amr_num.specs.declared.Axis.TheVariants.{X, Y, Z}
use Rattle.amr_num.specs.declared.CellAt.{CellAt}
use Rattle.amr_num.specs.declared.FaceAt.{FaceAt}
use Rattle.amr_num.specs.declared.EdgeAt.{EdgeAt}
use Rattle.amr_num.specs.Numbers.{part, sum_below, floor_div, finest_level}
use Rattle.mesh_model.specs.Geometry.Coordinates.{sub_cell, parent_cell, octant_of, sub_face, parent_face, half_edge, parent_edge, on, with, next, after, face_of, edge_of, face_numbers, edge_numbers}
use Rattle.mesh_model.specs.Tree.Kinds.{Grid, is_leaf, is_split, is_leaf_face, is_split_face, is_leaf_edge, is_split_edge}
use Rattle.mesh_model.specs.Fields.InnerRule.{Outer, middle_x, middle_y, middle_z}

-- ---- cells

-- the content of a cell that is split or a leaf: of a split one the sum of its sub-cells', their levels counted by d
unfoldable pub sum_down : Grid → (CellAt → ℤ) → ℕ → CellAt → ℤ
sum_down g content zero c = content c
sum_down g content (suc d) c = elim (is_split g c) [
  | true ↦ sum_below 8 (λ q. sum_down g content d (sub_cell c q))
  | false ↦ content c
]

-- what the octant q of a cell gets of the cell's view, as the views of the cell's level give it: its part
abbrev pub octant_share : (CellAt → ℤ) → CellAt → ℕ → ℤ
octant_share views c q = part q (views c) 8

-- the view of a cell of level l: of a split cell the sum of its sub-cells', of a leaf cell its content, and otherwise its share of the
-- cell that it lies in
unfoldable pub view_at : Grid → (CellAt → ℤ) → ℕ → CellAt → ℤ
view_at g content zero c = elim (is_split g c) [
  | true ↦ sum_down g content (finest_level - c.level) c
  | false ↦ content c
]
view_at g content (suc l) c = elim (is_split g c) [
  | true ↦ sum_down g content (finest_level - c.level) c
  | false ↦ elim (is_leaf g c) [
    | true ↦ content c
    | false ↦ octant_share (view_at g content l) (parent_cell c) (octant_of c)
  ]
]

abbrev pub cell_view : Grid → (CellAt → ℤ) → CellAt → ℤ
cell_view g content c = view_at g content c.level c

-- ---- faces

-- a position lies on the grid of the level above
abbrev pub is_even : ℕ → Bool
is_even p = p % 2 == 0

-- the quarter at the halves i, j and k: those on the cross axes count
abbrev pub cross : Axis → ℕ → ℕ → ℕ → ℕ
cross X i j k = j + 2 * k
cross Y i j k = i + 2 * k
cross Z i j k = i + 2 * j

-- which quarter of its parent a face is
abbrev pub quarter_of : FaceAt → ℕ
quarter_of f = cross f.axis (f.x % 2) (f.y % 2) (f.z % 2)

-- the 24 subfaces on the sides of a cell, with what a face field has there
abbrev pub sides_of : Grid → (FaceAt → ℤ) → CellAt → Outer
sides_of g at c = record {
  x_low = λ q. at (sub_face (face_of X c) q);
  x_high = λ q. at (sub_face (face_of X (after g.shape X c)) q);
  y_low = λ q. at (sub_face (face_of Y c) q);
  y_high = λ q. at (sub_face (face_of Y (after g.shape Y c)) q);
  z_low = λ q. at (sub_face (face_of Z c) q);
  z_high = λ q. at (sub_face (face_of Z (after g.shape Z c)) q);
}

-- the face at the halves i, j and k between the octants of the cell whose sides are o
abbrev pub inner_face : Outer → Axis → ℕ → ℕ → ℕ → ℤ
inner_face o X i j k = middle_x o (j + 2 * k)
inner_face o Y i j k = middle_y o i k
inner_face o Z i j k = middle_z o i j

-- the number of a face that is split or a leaf face: of a split one the sum of its subfaces', their levels counted by d
unfoldable pub face_down : Grid → (FaceAt → ℤ) → ℕ → FaceAt → ℤ
face_down g number zero f = number f
face_down g number (suc d) f = elim (is_split_face g f) [
  | true ↦ sum_below 4 (λ q. face_down g number d (sub_face f q))
  | false ↦ number f
]

-- the view of a face by its first three cases, with the views of the level above: a split face, a leaf face, a face at an even position
unfoldable pub outer_face_view : Grid → (FaceAt → ℤ) → (FaceAt → ℤ) → FaceAt → ℤ
outer_face_view g number above f = elim (is_split_face g f) [
  | true ↦ face_down g number (finest_level - f.level) f
  | false ↦ elim (is_leaf_face g f) [
    | true ↦ number f
    | false ↦ part (quarter_of f) (above (parent_face f)) 4
  ]
]

-- the view of a face of level l: of a split face, a leaf face and one at an even position as above, and otherwise what the inner rule
-- gives of the views on the sides of the cell round it
unfoldable pub face_view_at : Grid → (FaceAt → ℤ) → ℕ → FaceAt → ℤ
face_view_at g number zero f = elim (is_split_face g f) [
  | true ↦ face_down g number (finest_level - f.level) f
  | false ↦ number f
]
face_view_at g number (suc l) f = elim (is_split_face g f || is_leaf_face g f || is_even (on f.axis (face_numbers f))) [
  | true ↦ outer_face_view g number (face_view_at g number l) f
  | false ↦ inner_face (sides_of g (outer_face_view g number (face_view_at g number l)) (face_numbers (parent_face f))) f.axis (f.x % 2) (f.y % 2) (f.z % 2)
]

abbrev pub face_view : Grid → (FaceAt → ℤ) → FaceAt → ℤ
face_view g number f = face_view_at g number f.level f

-- ---- edges

-- which half of its parent an edge is
abbrev pub half_of : EdgeAt → ℕ
half_of e = on e.axis (edge_numbers e) % 2

-- c at the even positions beside its own on an axis, which is one where it is even itself and otherwise two
abbrev pub evens : Grid → Axis → CellAt → List CellAt
evens g a c = if is_even (on a c) then c ∷ [] else with a (on a c - 1) c ∷ after g.shape a c ∷ []

-- the one, two or four edges at the even positions beside or round an edge
abbrev pub even_round : Grid → EdgeAt → List CellAt
even_round g e = flat_map (evens g (next (next e.axis))) (evens g (next e.axis) (edge_numbers e))

-- the sum of a list
abbrev pub sum_of : List ℤ → ℤ
sum_of [] = pos 0
sum_of (n ∷ ns) = n +ℤ sum_of ns

-- the number of an edge that is split or a leaf edge: of a split one the sum of its halves', their levels counted by d
unfoldable pub edge_down : Grid → (EdgeAt → ℤ) → ℕ → EdgeAt → ℤ
edge_down g number zero e = number e
edge_down g number (suc d) e = elim (is_split_edge g e) [
  | true ↦ sum_below 2 (λ h. edge_down g number d (half_edge e h))
  | false ↦ number e
]

-- the view of an edge by its first three cases, with the views of the level above: a split edge, a leaf edge, an edge at even positions
unfoldable pub outer_edge_view : Grid → (EdgeAt → ℤ) → (EdgeAt → ℤ) → EdgeAt → ℤ
outer_edge_view g number above e = elim (is_split_edge g e) [
  | true ↦ edge_down g number (finest_level - e.level) e
  | false ↦ elim (is_leaf_edge g e) [
    | true ↦ number e
    | false ↦ part (half_of e) (above (parent_edge e)) 2
  ]
]

-- both positions of the edge are even
abbrev pub is_even_edge : EdgeAt → Bool
is_even_edge e = is_even (on (next e.axis) (edge_numbers e)) && is_even (on (next (next e.axis)) (edge_numbers e))

-- the view of an edge of level l: of a split edge, a leaf edge and one at even positions as above, and otherwise the floored mean of the
-- views of the edges at the even positions beside or round it
unfoldable pub edge_view_at : Grid → (EdgeAt → ℤ) → ℕ → EdgeAt → ℤ
edge_view_at g number zero e = elim (is_split_edge g e) [
  | true ↦ edge_down g number (finest_level - e.level) e
  | false ↦ number e
]
edge_view_at g number (suc l) e = elim (is_split_edge g e || is_leaf_edge g e || is_even_edge e) [
  | true ↦ outer_edge_view g number (edge_view_at g number l) e
  | false ↦ floor_div (sum_of (map (λ c. outer_edge_view g number (edge_view_at g number l) (edge_of e.axis c)) (even_round g e))) (length (even_round g e))
]

abbrev pub edge_view : Grid → (EdgeAt → ℤ) → EdgeAt → ℤ
edge_view g number e = edge_view_at g number e.level e
