-- Cells, faces and edges by their coordinates.
--
-- A cell is a level and three coordinates. A face is the axis that it is normal to, its position on that axis and cell coordinates on the
-- other two. An edge is the axis that it lies along, its cell coordinate on that axis and positions on the other two. A position runs
-- from 0 to the extent; on a periodic axis the extent is position 0 again.
use Rattle.std.specs.Prelude.{slice_index_or, ◌<◌, ℕ, zero, suc, ◌+◌, ◌-◌, ◌*◌, ◌/◌, ◌%◌, ◌^◌, Bool, true, false, ◌&&◌, ◌==◌, nat_lt, if◌then◌else◌, List, [], ◌∷◌, Option, Some, None, ◌≤◌}
use Rattle.amr_num.specs.declared.Axis.{Axis}
use Rattle.amr_num.specs.declared.Axis.TheVariants.{X, Y, Z}
use Rattle.amr_num.specs.declared.SideKind.{SideKind}
use Rattle.amr_num.specs.declared.SideKind.TheVariants.{Periodic, Outflow, Closed}
use Rattle.amr_num.specs.declared.CellAt.{CellAt}
use Rattle.amr_num.specs.declared.FaceAt.{FaceAt}
use Rattle.amr_num.specs.declared.EdgeAt.{EdgeAt}
use Rattle.mesh_model.specs.declared.geometry.Shape.{Shape}

-- ---- halves

-- a cell's sub-cell q, with q = i + 2 j + 4 k
abbrev pub sub_cell : CellAt → ℕ → CellAt
sub_cell c q = record { level = suc c.level; x = 2 * c.x + q % 2; y = 2 * c.y + q / 2 % 2; z = 2 * c.z + q / 4 % 2 }

-- the cell one level coarser that it lies in
abbrev pub parent_cell : CellAt → CellAt
parent_cell c = record { level = c.level - 1; x = c.x / 2; y = c.y / 2; z = c.z / 2 }

-- which sub-cell of its parent it is
abbrev pub octant_of : CellAt → ℕ
octant_of c = c.x % 2 + 2 * (c.y % 2) + 4 * (c.z % 2)

-- h on an axis, and 0 on the others
abbrev pub step : Axis → ℕ → CellAt
step X h = record { level = 0; x = h; y = 0; z = 0 }
step Y h = record { level = 0; x = 0; y = h; z = 0 }
step Z h = record { level = 0; x = 0; y = 0; z = h }

-- the half h of an edge: positions double, and along the axis the coordinate doubles with h on top
abbrev pub half_edge : EdgeAt → ℕ → EdgeAt
half_edge e h = record { axis = e.axis; level = suc e.level; x = 2 * e.x + (step e.axis h).x; y = 2 * e.y + (step e.axis h).y; z = 2 * e.z + (step e.axis h).z }

-- the quarter q of a face, with q = j + 2 k, i + 2 k or i + 2 j, as steps on the cross axes
abbrev pub quarter : Axis → ℕ → CellAt
quarter X q = record { level = 0; x = 0; y = q % 2; z = q / 2 % 2 }
quarter Y q = record { level = 0; x = q % 2; y = 0; z = q / 2 % 2 }
quarter Z q = record { level = 0; x = q % 2; y = q / 2 % 2; z = 0 }

-- the subface q of a face: its position doubles, and the quarter is added on the cross axes
abbrev pub sub_face : FaceAt → ℕ → FaceAt
sub_face f q = record { axis = f.axis; level = suc f.level; x = 2 * f.x + (quarter f.axis q).x; y = 2 * f.y + (quarter f.axis q).y; z = 2 * f.z + (quarter f.axis q).z }

-- the face of which one at an even position is a quarter, and the edge of which one at even positions is a half
abbrev pub parent_face : FaceAt → FaceAt
parent_face f = record { axis = f.axis; level = f.level - 1; x = f.x / 2; y = f.y / 2; z = f.z / 2 }

abbrev pub parent_edge : EdgeAt → EdgeAt
parent_edge e = record { axis = e.axis; level = e.level - 1; x = e.x / 2; y = e.y / 2; z = e.z / 2 }

-- ---- axes

-- the coordinate on an axis
abbrev pub on : Axis → CellAt → ℕ
on X c = c.x
on Y c = c.y
on Z c = c.z

-- c with the coordinate p on an axis
abbrev pub with : Axis → ℕ → CellAt → CellAt
with X p c = record { level = c.level; x = p; y = c.y; z = c.z }
with Y p c = record { level = c.level; x = c.x; y = p; z = c.z }
with Z p c = record { level = c.level; x = c.x; y = c.y; z = p }

-- the next axes in the cycle x, y, z
abbrev pub next : Axis → Axis
next X = Y
next Y = Z
next Z = X

-- how many roots stand side by side on an axis
abbrev pub roots : Shape → Axis → ℕ
roots s X = s.rx
roots s Y = s.ry
roots s Z = s.rz

-- how many cells of level l stand side by side on an axis
abbrev pub extent : Shape → Axis → ℕ → ℕ
extent s a l = roots s a * s.n * 2 ^ l

-- ---- sides

abbrev pub is_periodic_kind : SideKind → Bool
is_periodic_kind Periodic = true
is_periodic_kind Outflow = false
is_periodic_kind Closed = false

-- the place of an axis's low side among the six sides; its high side is next
abbrev pub side_index : Axis → ℕ
side_index X = 0
side_index Y = 2
side_index Z = 4

-- the kind of the k-th side
abbrev pub side_kind : List SideKind → ℕ → SideKind
side_kind sides k = slice_index_or sides k Periodic

-- an axis is periodic where its low side is, and then its high side is too
abbrev pub is_periodic : Shape → Axis → Bool
is_periodic s a = is_periodic_kind (side_kind s.sides (side_index a))

-- ---- cells beside faces and round edges

-- the cells below and above a position on an axis of e cells, where they are there: outside a side that is not periodic they are not
abbrev pub below : Bool → ℕ → ℕ → Option ℕ
below periodic e zero = if periodic then Some (e - 1) else None
below periodic e (suc p) = Some p

abbrev pub above : Bool → ℕ → ℕ → Option ℕ
above periodic e p = if nat_lt p e then Some p else (if periodic then Some 0 else None)

-- position e of a periodic axis is position 0
unfoldable pub wrapped : Bool → ℕ → ℕ → ℕ
wrapped periodic e p = if periodic && (p == e) then 0 else p

-- c with a coordinate on an axis, where that is there
abbrev pub moved : Axis → Option ℕ → CellAt → Option CellAt
moved a None c = None
moved a (Some p) c = Some (with a p c)

-- c with coordinates on two axes, where both are there
abbrev pub moved_twice : Axis → Option ℕ → Axis → Option ℕ → CellAt → Option CellAt
moved_twice a None b r c = None
moved_twice a (Some p) b r c = moved b r (with a p c)

-- the three numbers of a face and of an edge, and the face normal to an axis and the edge along an axis with these numbers
abbrev pub face_numbers : FaceAt → CellAt
face_numbers f = record { level = f.level; x = f.x; y = f.y; z = f.z }

abbrev pub edge_numbers : EdgeAt → CellAt
edge_numbers e = record { level = e.level; x = e.x; y = e.y; z = e.z }

abbrev pub face_of : Axis → CellAt → FaceAt
face_of a c = record { axis = a; level = c.level; x = c.x; y = c.y; z = c.z }

abbrev pub edge_of : Axis → CellAt → EdgeAt
edge_of a c = record { axis = a; level = c.level; x = c.x; y = c.y; z = c.z }

-- the cells below and above a face
abbrev pub low_cell : Shape → FaceAt → Option CellAt
low_cell s f = moved f.axis (below (is_periodic s f.axis) (extent s f.axis f.level) (on f.axis (face_numbers f))) (face_numbers f)

abbrev pub high_cell : Shape → FaceAt → Option CellAt
high_cell s f = moved f.axis (above (is_periodic s f.axis) (extent s f.axis f.level) (on f.axis (face_numbers f))) (face_numbers f)

-- the up to four cells round an edge, with b and d the next axes after its own: low on both, high on b, high on d, high on both
abbrev pub round_edge : Shape → EdgeAt → List (Option CellAt)
round_edge s e =
    let c : CellAt = edge_numbers e in
    let b = next e.axis in
    let d = next b in
    let b_low = below (is_periodic s b) (extent s b e.level) (on b c) in
    let b_high = above (is_periodic s b) (extent s b e.level) (on b c) in
    let d_low = below (is_periodic s d) (extent s d e.level) (on d c) in
    let d_high = above (is_periodic s d) (extent s d e.level) (on d c) in
    moved_twice b b_low d d_low c ∷ moved_twice b b_high d d_low c ∷ moved_twice b b_low d d_high c ∷ moved_twice b b_high d d_high c ∷ []

-- c one position further on an axis, as a canonical position
abbrev pub after : Shape → Axis → CellAt → CellAt
after s a c = with a (wrapped (is_periodic s a) (extent s a c.level) (suc (on a c))) c

-- a cell of the domain
abbrev pub Inside : Shape → CellAt → Type 0
Inside s c = (a : Axis) → on a c < extent s a c.level

abbrev pub is_same_cell : CellAt → CellAt → Bool
is_same_cell c d = (c.level == d.level) && (c.x == d.x) && (c.y == d.y) && (c.z == d.z)

-- the coordinate on an axis
abbrev pub axis_index : Axis → ℕ
axis_index X = 0
axis_index Y = 1
axis_index Z = 2

abbrev pub is_same_face : FaceAt → FaceAt → Bool
is_same_face f h = (axis_index f.axis == axis_index h.axis) && is_same_cell (face_numbers f) (face_numbers h)

abbrev pub is_same_edge : EdgeAt → EdgeAt → Bool
is_same_edge e h = (axis_index e.axis == axis_index h.axis) && is_same_cell (edge_numbers e) (edge_numbers h)

-- an edge of the domain
pub record EdgeInside (s : Shape) (e : EdgeAt) : Type 0 where
  pub along : on e.axis (edge_numbers e) < extent s e.axis e.level
  pub first : on (next e.axis) (edge_numbers e) ≤ extent s (next e.axis) e.level
  pub second : on (next (next e.axis)) (edge_numbers e) ≤ extent s (next (next e.axis)) e.level
