-- What reading and images have to do with each other.
use Rattle.std.specs.Prelude.{◌≡◌, ◌≤◌, ℕ, List, Result, Ok}
use Rattle.mesh_model.specs.Fields.Plain.{Mesh}
use Rattle.mesh_model.specs.Fields.Valid.{ValidMesh}
use Rattle.mesh_model.specs.Images.Codec.{IsBytes}
use Rattle.mesh_model.specs.Images.Image.{Stored, stored, mesh_of, image}
use Rattle.mesh_model.specs.Images.Reading.{NamesFit, read}

-- bytes are the image of a valid mesh and a turn
pub record IsImage (bytes : List ℕ) (m : Mesh) (turn : ℕ) : Type 0 where
  pub valid : ValidMesh m
  pub names : NamesFit m.names
  pub small : turn ≤ 2
  pub spelled : bytes ≡ image m turn

-- what stands in an image is read from it
abbrev pub ImagesAreRead : Type 0
ImagesAreRead = (m : Mesh) (turn : ℕ) → ValidMesh m → NamesFit m.names → turn ≤ 2 → read (image m turn) ≡ Ok (stored m turn)

-- bytes from which something is read are the image of its mesh and turn
abbrev pub ReadIsImage : Type 0
ReadIsImage = (bytes : List ℕ) (s : Stored) → IsBytes bytes → read bytes ≡ Ok s → IsImage bytes (mesh_of s) s.head.turn

-- what is stored of a mesh is of that mesh alone
abbrev pub OneSpelling : Type 0
OneSpelling = (m : Mesh) (turn : ℕ) → ValidMesh m → mesh_of (stored m turn) ≡ m
