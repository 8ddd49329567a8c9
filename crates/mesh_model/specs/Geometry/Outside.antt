-- Coordinates outside the domain: they wrap on a periodic axis and are clamped on another.
use Rattle.std.specs.Prelude.{ℕ, ◌-◌, min, Bool, if◌then◌else◌, ℤ, pos, negsuc}
use Rattle.amr_num.specs.Numbers.{floor_mod}
use Rattle.amr_num.specs.declared.Axis.{Axis}
use Rattle.amr_num.specs.declared.Axis.TheVariants.{X, Y, Z}
use Rattle.amr_num.specs.declared.CellAt.{CellAt}
use Rattle.amr_num.specs.declared.FaceAt.{FaceAt}
use Rattle.amr_num.specs.declared.EdgeAt.{EdgeAt}
use Rattle.mesh_model.specs.declared.geometry.Shape.{Shape}
use Rattle.mesh_model.specs.Geometry.Coordinates.{extent, is_periodic}

-- the nearest number from 0 to top
abbrev pub clamped : ℕ → ℤ → ℕ
clamped top (pos n) = min n top
clamped top (negsuc n) = 0

-- on an axis of e cells: wrapped to 0 .. e - 1, or clamped to 0 .. top
abbrev pub brought_in : Bool → ℕ → ℕ → ℤ → ℕ
brought_in periodic e top p = if periodic then floor_mod p e else clamped top p

-- cell coordinates are clamped to 0 .. E - 1, and positions to 0 .. E
abbrev pub cell_in : Shape → Axis → ℕ → ℤ → ℕ
cell_in s a l p = brought_in (is_periodic s a) (extent s a l) (extent s a l - 1) p

abbrev pub position_in : Shape → Axis → ℕ → ℤ → ℕ
position_in s a l p = brought_in (is_periodic s a) (extent s a l) (extent s a l) p

-- the cell, the face normal to an axis and the edge along an axis that stand for a coordinate
abbrev pub inside_cell : Shape → ℕ → ℤ → ℤ → ℤ → CellAt
inside_cell s l x y z = record { level = l; x = cell_in s X l x; y = cell_in s Y l y; z = cell_in s Z l z }

abbrev pub inside_face : Shape → Axis → ℕ → ℤ → ℤ → ℤ → FaceAt
inside_face s X l x y z = record { axis = X; level = l; x = position_in s X l x; y = cell_in s Y l y; z = cell_in s Z l z }
inside_face s Y l x y z = record { axis = Y; level = l; x = cell_in s X l x; y = position_in s Y l y; z = cell_in s Z l z }
inside_face s Z l x y z = record { axis = Z; level = l; x = cell_in s X l x; y = cell_in s Y l y; z = position_in s Z l z }

abbrev pub inside_edge : Shape → Axis → ℕ → ℤ → ℤ → ℤ → EdgeAt
inside_edge s X l x y z = record { axis = X; level = l; x = cell_in s X l x; y = position_in s Y l y; z = position_in s Z l z }
inside_edge s Y l x y z = record { axis = Y; level = l; x = position_in s X l x; y = cell_in s Y l y; z = position_in s Z l z }
inside_edge s Z l x y z = record { axis = Z; level = l; x = position_in s X l x; y = position_in s Y l y; z = cell_in s Z l z }
