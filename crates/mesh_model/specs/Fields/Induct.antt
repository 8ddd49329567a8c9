-- What induct, curl and uniform make of the face variable.
--
-- Induct takes circulations of edge numbers from the leaf faces, so each leaf cell keeps its net flux. Curl sets them to circulations, and
-- uniform to one flux by area, so no leaf cell has a net flux then.
use Rattle.std.specs.Prelude.{◌-◌, ◌^◌, Bool, ◌||◌, if◌then◌else◌, ℤ, pos, ◌-ℤ◌, ◌*ℤ◌}
use Rattle.amr_num.specs.declared.FaceAt.{FaceAt}
use Rattle.amr_num.specs.declared.EdgeAt.{EdgeAt}
use Rattle.amr_num.specs.Numbers.{carry}
use Rattle.mesh_model.specs.declared.geometry.Shape.{Shape}
use Rattle.mesh_model.specs.Geometry.Coordinates.{on, next, face_of, edge_numbers}
use Rattle.mesh_model.specs.Tree.Kinds.{Grid}
use Rattle.mesh_model.specs.Fields.Plain.{Mesh, on_faces}
use Rattle.mesh_model.specs.Fields.Views.{face_view, edge_view}
use Rattle.mesh_model.specs.Fields.Circulation.{circulation}
use Rattle.mesh_model.specs.Fields.Advect.{Speeds, speed, is_closed_at, blown_from}

-- the edge lies on a closed side
abbrev pub edge_on_closed_side : Shape → EdgeAt → Bool
edge_on_closed_side s e = is_closed_at s (next e.axis) e.level (on (next e.axis) (edge_numbers e)) || is_closed_at s (next (next e.axis)) e.level (on (next (next e.axis)) (edge_numbers e))

-- the number of a leaf edge along a, with b and c the next axes: what the speed on c carries of the face normal to b upstream on c, less
-- what the speed on b carries of the face normal to c upstream on b; 0 on a closed side
unfoldable pub leaf_electromotive_force : Grid → (FaceAt → ℤ) → Speeds → EdgeAt → ℤ
leaf_electromotive_force g faces n e =
    let b = next e.axis in
    let c = next b in
    let face_b = face_view g faces (face_of b (blown_from g.shape c (speed n c) (edge_numbers e))) in
    let face_c = face_view g faces (face_of c (blown_from g.shape b (speed n b) (edge_numbers e))) in
    if edge_on_closed_side g.shape e then pos 0
    else carry (speed n c) e.level face_b -ℤ carry (speed n b) e.level face_c

-- the views of these edge numbers
abbrev pub electromotive_force : Grid → (FaceAt → ℤ) → Speeds → EdgeAt → ℤ
electromotive_force g faces n = edge_view g (leaf_electromotive_force g faces n)

-- each leaf face loses the circulation of the edge views round it
abbrev pub less_circulation : Grid → (FaceAt → ℤ) → (EdgeAt → ℤ) → FaceAt → ℤ
less_circulation g faces views = on_faces g (λ f. faces f -ℤ circulation g views f)

-- the face variable after induct
abbrev pub inducted : Grid → (FaceAt → ℤ) → Speeds → FaceAt → ℤ
inducted g faces n = less_circulation g faces (electromotive_force g faces n)

-- the face variable after curl: on each leaf face the circulation of the edge variable's views
abbrev pub curled : Grid → (EdgeAt → ℤ) → FaceAt → ℤ
curled g edges = on_faces g (circulation g (edge_view g edges))

-- the face variable after uniform, with a number for each axis: on each leaf face that of its normal, times its area in finest faces
abbrev pub uniform_faces : Grid → Speeds → FaceAt → ℤ
uniform_faces g b = on_faces g (λ f. speed b f.axis *ℤ pos (4 ^ (g.shape.max - f.level)))

-- a mesh with other numbers on its faces
abbrev pub with_faces : Mesh → (FaceAt → ℤ) → Mesh
with_faces m faces = record {
  grid = m.grid;
  names = m.names;
  cells = m.cells;
  outs = m.outs;
  faces = faces;
  edges = m.edges;
  refine = m.refine;
  derefine = m.derefine;
}

abbrev pub induct : Mesh → Speeds → Mesh
induct m n = with_faces m (inducted m.grid m.faces n)

abbrev pub curl : Mesh → Mesh
curl m = with_faces m (curled m.grid m.edges)

abbrev pub uniform : Mesh → Speeds → Mesh
uniform m b = with_faces m (uniform_faces m.grid b)
