-- The canonical names of faces and edges: on a periodic axis the position at the far end is position 0.
use Rattle.std.specs.Prelude.{ℕ, Bool, not, ◌&&◌, ◌||◌, nat_lt}
use Rattle.amr_num.specs.declared.Axis.{Axis}
use Rattle.amr_num.specs.declared.CellAt.{CellAt}
use Rattle.amr_num.specs.declared.FaceAt.{FaceAt}
use Rattle.amr_num.specs.declared.EdgeAt.{EdgeAt}
use Rattle.mesh_model.specs.declared.geometry.Shape.{Shape}
use Rattle.mesh_model.specs.Geometry.Coordinates.{extent, is_periodic, on, next, face_numbers, edge_numbers, edge_of, face_of, wrapped, with}

-- positions by which a face and an edge are named: on a periodic axis 0 to E(l) - 1
unfoldable pub is_canonical_at : Shape → Axis → ℕ → ℕ → Bool
is_canonical_at s a l p = not (is_periodic s a) || nat_lt p (extent s a l)

-- the canonical name of a face and of an edge
abbrev pub is_canonical : Shape → FaceAt → Bool
is_canonical s f = is_canonical_at s f.axis f.level (on f.axis (face_numbers f))

abbrev pub is_canonical_edge : Shape → EdgeAt → Bool
is_canonical_edge s e =
    is_canonical_at s (next e.axis) e.level (on (next e.axis) (edge_numbers e))
    && is_canonical_at s (next (next e.axis)) e.level (on (next (next e.axis)) (edge_numbers e))

-- the canonical name of a position, a face and an edge: on a periodic axis position E is 0
abbrev pub canonical_on : Shape → Axis → CellAt → CellAt
canonical_on s a c = with a (wrapped (is_periodic s a) (extent s a c.level) (on a c)) c

abbrev pub canonical_face : Shape → FaceAt → FaceAt
canonical_face s f = face_of f.axis (canonical_on s f.axis (face_numbers f))

abbrev pub canonical_edge : Shape → EdgeAt → EdgeAt
canonical_edge s e = edge_of e.axis (canonical_on s (next e.axis) (canonical_on s (next (next e.axis)) (edge_numbers e)))
