-- What two areas of bytes hold, each of them a gate byte and an image.
use Rattle.std.specs.Prelude.{◌≡◌, ◌⊎◌, ℕ, ◌+◌, ◌%◌, Bool, true, false, ◌&&◌, ◌==◌, nat_le, cond, List, drop, length, get_or, Result, Ok, Err}
use Rattle.mesh_model.specs.declared.images.BadImage.{BadImage}
use Rattle.mesh_model.specs.declared.images.Part.{Part}
use Rattle.mesh_model.specs.Fields.Plain.{Mesh}
use Rattle.mesh_model.specs.Images.Image.{Stored, mesh_of}
use Rattle.mesh_model.specs.Images.Reading.{digest_found, digest_kept, read}

-- an area is open where its length is at least 2 and its gate is 1
abbrev pub is_open : List ℕ → Bool
is_open area = nat_le 2 (length area) && (get_or area 0 0 == 1)

-- the turn byte of an open area, and 0 where the area is shorter
abbrev pub turn_in : List ℕ → ℕ
turn_in area = get_or area 9 0

-- of two open areas, B is the newer
abbrev pub b_is_newer : List ℕ → List ℕ → Bool
b_is_newer a b = turn_in b == (turn_in a + 1) % 3

-- what is held of meshes M, where bytes that are no image of one are told by F
pub data Held (M F : Type 0) : Type 0 where
  -- no area is open
  Nothing : Held M F
  -- area A is open and holds no image
  DamagedA : F → Held M F
  -- area B is open and holds no image, and A is no such area
  DamagedB : F → Held M F
  Found : M → Held M F

-- by which areas are open, what is read in each, and whether B is the newer
abbrev pub held_by : {M F : Type 0} → Bool → Result M F → Bool → Result M F → Bool → Held M F
held_by false a false b newer = Nothing
held_by true (Err fault) open_b b newer = DamagedA fault
held_by true (Ok m) false b newer = Found m
held_by true (Ok m) true (Err fault) newer = DamagedB fault
held_by true (Ok m) true (Ok k) newer = cond newer (Found k) (Found m)
held_by false a true (Err fault) newer = DamagedB fault
held_by false a true (Ok k) newer = Found k

-- what two areas hold by a way of reading: nothing where both are closed, the fault where an open one holds no image (A before B),
-- and otherwise the mesh of the newer area's image
abbrev pub held_with : {M F : Type 0} → (List ℕ → Result M F) → List ℕ → List ℕ → Held M F
held_with reads a b = held_by (is_open a) (reads (drop 1 a)) (is_open b) (reads (drop 1 b)) (b_is_newer a b)

-- nothing is damaged
abbrev pub IsWhole : {M F : Type 0} → Held M F → Type 0
IsWhole Nothing = Unit {0}
IsWhole (DamagedA fault) = ⊥
IsWhole (DamagedB fault) = ⊥
IsWhole (Found m) = Unit {0}

-- the mesh of which bytes are an image, or why they are none
abbrev pub mesh_read : List ℕ → Result Stored Part → Result Mesh BadImage
mesh_read bytes (Ok s) = Ok (mesh_of s)
mesh_read bytes (Err part) = Err (record { part = part; kept = digest_kept bytes; found = digest_found bytes })

unfoldable pub read_mesh : List ℕ → Result Mesh BadImage
read_mesh bytes = mesh_read bytes (read bytes)

-- what two areas hold
abbrev pub held : List ℕ → List ℕ → Held Mesh BadImage
held = held_with read_mesh
