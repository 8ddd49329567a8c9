-- What stands in the areas at each step of a checkpoint, and what a crash leaves there meanwhile.
use Rattle.std.specs.Prelude.{◌≡◌, ◌≢◌, ℕ, ◌≤◌, false, List, ◌∷◌, length, take, get_or}
use Rattle.outside_io.specs.declared.disk.Area.{Area}
use Rattle.outside_io.specs.Areas.{Areas, bytes_of, other_area}
use Rattle.check_disk.specs.declared.target.Target.{Target}
use Rattle.mesh_model.specs.Images.Held.{is_open}
use Rattle.check_disk.specs.Held.{next_of}

-- a gate that is not 1
pub record IsShut (bytes : List ℕ) : Type 0 where
  pub long : 1 ≤ length bytes
  pub shut : get_or bytes 0 0 ≢ 1

-- the area is ready for the body of an image
pub record IsReady (areas : Areas) (next : Target) : Type 0 where
  pub follows : next_of areas ≡ next
  pub shut : IsShut (bytes_of areas next.area)

-- the area has these bytes behind its closed gate
pub record IsWritten (areas : Areas) (next : Target) (bytes : List ℕ) : Type 0 where
  pub follows : next_of areas ≡ next
  pub gate : ℕ
  pub shut : gate ≢ 1
  pub bytes_are : bytes_of areas next.area ≡ gate ∷ bytes

-- the other area is the same, and this one is closed
pub record IsBehind (area : Area) (base c : Areas) : Type 0 where
  pub there : bytes_of c (other_area area) ≡ bytes_of base (other_area area)
  pub closed : is_open (bytes_of c area) ≡ false

-- the other area is the same, and this one is open with these bytes
pub record IsOpened (area : Area) (bytes : List ℕ) (base c : Areas) : Type 0 where
  pub there : bytes_of c (other_area area) ≡ bytes_of base (other_area area)
  pub here : bytes_of c area ≡ 1 ∷ bytes

-- the other area is the same, and in this one the gate byte
pub record KeepsGate (area : Area) (base c : Areas) : Type 0 where
  pub there : bytes_of c (other_area area) ≡ bytes_of base (other_area area)
  pub long : 1 ≤ length (bytes_of c area)
  pub gate : take 1 (bytes_of c area) ≡ take 1 (bytes_of base area)
