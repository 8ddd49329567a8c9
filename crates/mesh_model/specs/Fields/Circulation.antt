-- The circulation of an edge field round a face, and the net flux of a face field out of a cell.
use Rattle.std.specs.Prelude.{ℤ, ◌+ℤ◌, ◌-ℤ◌}
use Rattle.amr_num.specs.declared.Axis.TheVariants.{X, Y, Z}
use Rattle.amr_num.specs.declared.CellAt.{CellAt}
use Rattle.amr_num.specs.declared.FaceAt.{FaceAt}
use Rattle.amr_num.specs.declared.EdgeAt.{EdgeAt}
use Rattle.mesh_model.specs.Geometry.Coordinates.{next, after, edge_of, face_of, face_numbers}
use Rattle.mesh_model.specs.Tree.Kinds.{Grid}

-- round a face normal to a, with b and c the next axes: along b at the low c position, along c at the high b position, and back
abbrev pub circulation : Grid → (EdgeAt → ℤ) → FaceAt → ℤ
circulation g at f =
    let n = face_numbers f in
    let b = next f.axis in
    let c = next b in
    at (edge_of b n) +ℤ at (edge_of c (after g.shape b n)) -ℤ at (edge_of b (after g.shape c n)) -ℤ at (edge_of c n)

-- high minus low of what a face field has round a cell
abbrev pub net_flux : Grid → (FaceAt → ℤ) → CellAt → ℤ
net_flux g at c =
    (at (face_of X (after g.shape X c)) -ℤ at (face_of X c)) +ℤ (at (face_of Y (after g.shape Y c)) -ℤ at (face_of Y c)) +ℤ (at (face_of Z (after g.shape Z c)) -ℤ at (face_of Z c))
