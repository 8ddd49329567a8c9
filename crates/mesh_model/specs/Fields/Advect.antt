-- What advect makes of a cell variable, and what flows out.
--
-- Speeds count in 2^-20 of the coarsest cell a step. The flux through a leaf face is what its speed carries of the donor's view.
-- A leaf cell loses high minus low of its fluxes, where a face with a split side has the sum of its subfaces' fluxes.
use Rattle.std.specs.Prelude.{unwrap_or, nat_le, ℕ, zero, suc, ◌+◌, ◌-◌, ◌*◌, ◌^◌, Bool, true, false, not, ◌&&◌, ◌||◌, ◌==◌, nat_lt, if◌then◌else◌, ℤ, pos, negsuc, ◌+ℤ◌, ◌-ℤ◌, unsigned_abs, List, slice_index_or}
use Rattle.amr_num.specs.declared.Axis.{Axis}
use Rattle.amr_num.specs.declared.SideKind.{SideKind}
use Rattle.amr_num.specs.declared.CellAt.{CellAt}
use Rattle.amr_num.specs.declared.FaceAt.{FaceAt}
use Rattle.amr_num.specs.declared.Axis.TheVariants.{X, Y, Z}
use Rattle.amr_num.specs.declared.SideKind.TheVariants.{Periodic, Outflow, Closed}
use Rattle.amr_num.specs.Numbers.{carry, finest_level}
use Rattle.mesh_model.specs.declared.geometry.Shape.{Shape}
use Rattle.mesh_model.specs.Geometry.Coordinates.{above, below, is_periodic, extent, on, with, face_numbers, side_kind, side_index}
use Rattle.mesh_model.specs.Tree.Kinds.{Grid}
use Rattle.mesh_model.specs.Fields.Plain.{Mesh, on_cells}
use Rattle.mesh_model.specs.Fields.Views.{cell_view, face_down}
use Rattle.mesh_model.specs.Fields.Circulation.{net_flux}
use Rattle.mesh_model.specs.Fields.Totals.{leaf_sum}

-- ---- fluxes

abbrev pub is_closed_kind : SideKind → Bool
is_closed_kind Periodic = false
is_closed_kind Outflow = false
is_closed_kind Closed = true

-- position p of an axis at level l is a closed side
abbrev pub is_closed_at : Shape → Axis → ℕ → ℕ → Bool
is_closed_at s a l p =
    ((p == 0) && is_closed_kind (side_kind s.sides (side_index a)))
    || ((p == extent s a l) && is_closed_kind (side_kind s.sides (suc (side_index a))))

-- the face lies on a closed side
abbrev pub on_closed_side : Shape → FaceAt → Bool
on_closed_side s f = is_closed_at s f.axis f.level (on f.axis (face_numbers f))

-- the cell coordinate below a position on an axis of e cells, and the one above it, wrapped, or clamped where there is none
abbrev pub below_or : Bool → ℕ → ℕ → ℕ
below_or periodic e p = unwrap_or (below periodic e p) 0

abbrev pub above_or : Bool → ℕ → ℕ → ℕ
above_or periodic e p = unwrap_or (above periodic e p) (e - 1)

-- with a position on the axis a in c: the cell beside it on the low side for a positive speed, on the high side for a negative one
abbrev pub blown_from : Shape → Axis → ℤ → CellAt → CellAt
blown_from s a (pos n) c = with a (below_or (is_periodic s a) (extent s a c.level) (on a c)) c
blown_from s a (negsuc n) c = with a (above_or (is_periodic s a) (extent s a c.level) (on a c)) c

-- the donor: the cell from which the flux through a face comes
abbrev pub donor : Shape → ℤ → FaceAt → CellAt
donor s n f = blown_from s f.axis n (face_numbers f)

-- a speed for each axis
pub record Speeds : Type 0 where
  pub x : ℤ
  pub y : ℤ
  pub z : ℤ

abbrev pub speed : Speeds → Axis → ℤ
speed n X = n.x
speed n Y = n.y
speed n Z = n.z

-- the Courant limit: the speeds together move at most one finest cell a step
unfoldable pub keeps_courant : Shape → Speeds → Bool
keeps_courant s n = nat_le ((unsigned_abs n.x + unsigned_abs n.y + unsigned_abs n.z) * 2 ^ s.max) (2 ^ 20)

-- the flux through a leaf face: what is carried of the donor's view, and 0 on a closed side
abbrev pub leaf_flux : Grid → (CellAt → ℤ) → Speeds → FaceAt → ℤ
leaf_flux g content n f =
    if on_closed_side g.shape f then pos 0
    else carry (speed n f.axis) f.level (cell_view g content (donor g.shape (speed n f.axis) f))

-- the flux through a face of a leaf cell: where it has a split side, the sum of its subfaces'
abbrev pub flux : Grid → (CellAt → ℤ) → Speeds → FaceAt → ℤ
flux g content n f = face_down g (leaf_flux g content n) (finest_level - f.level) f

-- the contents after: each leaf cell loses its net outflow
abbrev pub advected : Grid → (CellAt → ℤ) → Speeds → CellAt → ℤ
advected g content n c = on_cells g (λ d. content d -ℤ net_flux g (flux g content n) d) c

-- ---- what flows out

-- the face lies on an outer side, which is a side of an axis that is not periodic
unfoldable pub on_outer_side : Shape → FaceAt → Bool
on_outer_side s f = not (is_periodic s f.axis) && ((on f.axis (face_numbers f) == 0) || (on f.axis (face_numbers f) == extent s f.axis f.level))

-- a face field on the outer sides, and 0 elsewhere
abbrev pub on_outer : Shape → (FaceAt → ℤ) → FaceAt → ℤ
on_outer s at f = if on_outer_side s f then at f else pos 0

-- what leaf cells lose through the outer sides
abbrev pub outflow : Grid → (CellAt → ℤ) → Speeds → ℤ
outflow g content n = leaf_sum g (net_flux g (on_outer g.shape (flux g content n)))

-- a mesh after the advect of a variable
abbrev pub advect : Mesh → ℕ → Speeds → Mesh
advect m var n = record {
  grid = m.grid;
  names = m.names;
  cells = λ v. if v == var then advected m.grid (m.cells v) n else m.cells v;
  outs = λ v. if v == var then m.outs v +ℤ outflow m.grid (m.cells v) n else m.outs v;
  faces = m.faces;
  edges = m.edges;
  refine = m.refine;
  derefine = m.derefine;
}

-- three numbers of a command, by axis
abbrev pub three : List ℤ → Speeds
three numbers = record { x = slice_index_or numbers 0 (pos 0); y = slice_index_or numbers 1 (pos 0); z = slice_index_or numbers 2 (pos 0) }
