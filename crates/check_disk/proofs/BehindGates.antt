-- What is read of the bytes behind a gate.
use Rattle.std.proofs.Common.{◌≡◌, ℕ, List, Ok, Err, sym, ap, ◌∙◌}
use Rattle.mesh_model.specs.declared.images.BadImage.{BadImage}
use Rattle.mesh_model.specs.Images.Held.{mesh_read, read_mesh}
use Rattle.mesh_model.specs.Images.Image.{mesh_of}
use Rattle.mesh_model.specs.Images.Reading.{read}
use Rattle.check_format.specs.ReadImages.{IsBad, stored_in}
use Rattle.check_format.specs.declared.reading.images.Image.{Image}

pub found_there : (bytes : List ℕ) (im : Image) → read bytes ≡ Ok (stored_in im) → read_mesh bytes ≡ Ok (mesh_of (stored_in im))
unfolding read_mesh
found_there bytes im is = ap (mesh_read bytes) is

pub damaged_there : (bytes : List ℕ) (bad : BadImage) → IsBad bytes bad → read_mesh bytes ≡ Err bad
unfolding read_mesh
damaged_there bytes bad is = ap (mesh_read bytes) is.part ∙ (λ i. Err (record { part = bad.part; kept = sym is.kept i; found = sym is.found i }))
