-- What a fill makes of a mesh.
use Rattle.std.specs.Prelude.{ℕ, Bool, ◌&&◌, ◌==◌, nat_le, if◌then◌else◌, List, slice_index, ℤ}
use Rattle.amr_num.specs.declared.Axis.{Axis}
use Rattle.amr_num.specs.declared.Axis.TheVariants.{X, Y, Z}
use Rattle.amr_num.specs.declared.CellAt.{CellAt}
use Rattle.mesh_model.specs.Geometry.Coordinates.{on, axis_index}
use Rattle.mesh_model.specs.Fields.Plain.{Mesh, on_cells}
use Rattle.mesh_model.specs.Geometry.Touch.{low_end, high_end}

-- the mesh with other contents of one cell variable
abbrev pub with_cells : Mesh → ℕ → (CellAt → ℤ) → Mesh
with_cells m var content = record {
  grid = m.grid;
  names = m.names;
  cells = λ v. if v == var then content else m.cells v;
  outs = m.outs;
  faces = m.faces;
  edges = m.edges;
  refine = m.refine;
  derefine = m.derefine;
}

-- on the axis a the whole cell lies between the cells `low` and `high` of level l, ends in units of the finest level
abbrev pub is_between : ℕ → List ℕ → List ℕ → CellAt → Axis → Bool
is_between l low high c a =
    nat_le (low_end l (slice_index low (axis_index a))) (low_end c.level (on a c))
    && nat_le (high_end c.level (on a c)) (low_end l (slice_index high (axis_index a)))

-- the cell's whole region lies in the box of the cells of level l from `low` up to below `high`
unfoldable pub is_in_box : ℕ → List ℕ → List ℕ → CellAt → Bool
is_in_box l low high c = is_between l low high c X && is_between l low high c Y && is_between l low high c Z

-- every leaf cell of the variable takes the value
abbrev pub fill_all : Mesh → ℕ → ℤ → Mesh
fill_all m var value = with_cells m var (on_cells m.grid (λ c. value))

-- every leaf cell whose whole region lies in the box takes the value
abbrev pub fill_box : Mesh → ℕ → ℕ → List ℕ → List ℕ → ℤ → Mesh
fill_box m var l low high value = with_cells m var (on_cells m.grid (λ c. if is_in_box l low high c then value else m.cells var c))
