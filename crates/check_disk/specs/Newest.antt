-- What a restart is told of what the areas hold.
use Rattle.std.specs.Prelude.{◌≡◌, ℕ, Option, Some, None, Result, Ok, Err}
use Rattle.outside_io.specs.declared.disk.Area.{Area}
use Rattle.outside_io.specs.declared.disk.Area.TheVariants.{A, B}
use Rattle.outside_io.specs.declared.source.ReadStop.{ReadStop}
use Rattle.outside_io.specs.declared.source.ReadStop.TheVariants as reading
use Rattle.outside_io.specs.Moved.{Rose}
use Rattle.mesh_model.specs.declared.images.BadImage.{BadImage}
use Rattle.mesh_model.specs.Fields.Plain.{Mesh}
use Rattle.mesh_model.specs.Images.Held.{Held, Nothing, DamagedA, DamagedB, Found}
use Rattle.mesh_model.specs.Images.Image.{mesh_of}
use Rattle.check_format.specs.ReadImages.{stored_in}
use Rattle.check_format.specs.declared.reading.images.Image.{Image}
use Rattle.check_disk.specs.declared.newest.NewestStop.{NewestStop}
use Rattle.check_disk.specs.declared.newest.NewestStop.TheVariants as newest

-- the mesh of an image that was read, or why there is none
abbrev pub as_mesh : Result Image BadImage → Result Mesh BadImage
as_mesh (Ok im) = Ok (mesh_of (stored_in im))
as_mesh (Err bad) = Err bad

-- an open area that holds no image
abbrev pub damaged : Area → BadImage → Held Mesh BadImage
damaged A bad = DamagedA bad
damaged B bad = DamagedB bad

-- the answer says what is held; where the disk failed or memory was refused, it says nothing
abbrev pub Tells : Held Mesh BadImage → Result (Option Image) NewestStop → Type 0
Tells held (Ok None) = held ≡ Nothing
Tells held (Ok (Some im)) = held ≡ Found (mesh_of (stored_in im))
Tells held (Err newest.Failed) = Unit {0}
Tells held (Err (newest.Damaged area bad)) = held ≡ damaged area bad
Tells held (Err newest.OutOfMemory) = Unit {0}

-- what is answered of the area that counts
abbrev pub answer : Area → Result Image BadImage → Result (Option Image) NewestStop
answer area (Ok im) = Ok (Some im)
answer area (Err bad) = Err (newest.Damaged area bad)

abbrev pub stop_of : ReadStop → NewestStop
stop_of reading.Failed = newest.Failed
stop_of reading.OutOfMemory = newest.OutOfMemory

-- the count of faults before and after: it rose where the disk failed, and stays the same otherwise
abbrev pub IsCounted : ℕ → ℕ → NewestStop → Type 0
IsCounted before after newest.Failed = Rose before after
IsCounted before after (newest.Damaged area bad) = after ≡ before
IsCounted before after newest.OutOfMemory = after ≡ before
