-- What a disk's two areas hold, and which is written next.
use Rattle.std.specs.Prelude.{◌≡◌, ◌⊎◌, ℕ, ◌+◌, ◌%◌, Bool, true, false, cond, List, drop, Result, Ok}
use Rattle.outside_io.specs.declared.disk.Area.TheVariants.{A, B}
use Rattle.outside_io.specs.Areas.{Areas}
use Rattle.mesh_model.specs.Images.Held.{Held, b_is_newer, held_with, is_open, turn_in}
use Rattle.check_disk.specs.declared.target.Target.{Target}
use Rattle.check_disk.specs.Format.{Format}

-- the mesh whose image stands behind the gate
abbrev pub mesh_in : (format : Format) → List ℕ → Result format.Mesh format.Fault
mesh_in format bytes = format.read (drop 1 bytes)

-- what the areas hold
abbrev pub held : (format : Format) → Areas → Held format.Mesh format.Fault
held format areas = held_with format.read areas.a areas.b

-- an area that is closed, or open with an image
abbrev pub IsGood : (format : Format) → List ℕ → Type 0
IsGood format bytes = (is_open bytes ≡ false) ⊎ ((m : format.Mesh) × (mesh_in format bytes ≡ Ok m))

-- the area to be written next, and the turn of its image: by which areas are open, whether B is the newer, and their turns
abbrev pub next_by : Bool → Bool → Bool → ℕ → ℕ → Target
next_by false false newer turn_a turn_b = record { area = A; turn = 0 }
next_by true false newer turn_a turn_b = record { area = B; turn = (turn_a + 1) % 3 }
next_by false true newer turn_a turn_b = record { area = A; turn = (turn_b + 1) % 3 }
next_by true true newer turn_a turn_b = cond newer (record { area = A; turn = (turn_b + 1) % 3 }) (record { area = B; turn = (turn_a + 1) % 3 })

-- the area that is not the newer, or A; and the newer's turn plus one modulo 3, or 0
abbrev pub next_of : Areas → Target
next_of areas = next_by (is_open areas.a) (is_open areas.b) (b_is_newer areas.a areas.b) (turn_in areas.a) (turn_in areas.b)
