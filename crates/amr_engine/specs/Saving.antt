-- What commands do to the disk.
use Rattle.std.specs.Prelude.{◌≡◌, ◌≢◌, ℕ, ◌-◌, ◌≤◌, List, length, drop, Option, Some, None}
use Rattle.outside_io.specs.Areas.{Areas}
use Rattle.outside_io.specs.Crash.{LeavesOnly, Rests}
use Rattle.outside_io.specs.Moved.{Rose}
use Rattle.check_disk.specs.Images.{images}
use Rattle.check_disk.specs.Stages.{IsStage, stage}
use Rattle.std.specs.Option.{ForSome}
use Rattle.block_tree.specs.Numbered.{block_at}
use Rattle.check_format.specs.Own.{IsOwn}
use Rattle.check_format.specs.Writing.{IsWriter, left}
use Rattle.check_format.specs.declared.writer.ImageWriter.{ImageWriter}
use Rattle.mesh_model.specs.Fields.Plain.{Mesh}
use Rattle.mesh_model.specs.Images.Held.{IsWhole, held}
use Rattle.mesh_model.specs.Images.Image.{image}
use Rattle.amr_engine.specs.declared.cause.StoppedBy.{StoppedBy}
use Rattle.amr_engine.specs.declared.cause.StoppedBy.TheVariants as by

-- ---- the writing of an image

-- how many bytes of the mesh's image were given
abbrev pub given_of : Mesh → Option ImageWriter → ℕ
given_of m None = 0
given_of m (Some w) = length (image m w.turn) - length (left m w)

-- the turn of the image of which some were given
abbrev pub turn_of : Option ImageWriter → ℕ
turn_of None = 0
turn_of (Some w) = w.turn

-- a writer has given some bytes of the mesh's image, and has the others left
pub record HasGiven (m : Mesh) (w : ImageWriter) : Type 0 where
  pub writer : ∥ IsWriter m w ∥₁
  pub last : ForSome w.last (λ t. IsOwn m.grid (block_at m.grid t.node) t.own)
  pub shape : w.shape ≡ m.grid.shape
  pub few : w.turn ≤ 2
  pub some : 1 ≤ given_of m (Some w)
  pub rest : left m w ≡ drop (given_of m (Some w)) (image m w.turn)

-- so has the one that there is, if there is one
abbrev pub IsUnderWay : Mesh → Option ImageWriter → Type 0
IsUnderWay m writer = ForSome writer (HasGiven m)

-- a writer goes on where another came to, or begins
pub record Resumes (m : Mesh) (before : Option ImageWriter) (turn : ℕ) (w : ImageWriter) : Type 0 where
  pub writer : ∥ IsWriter m w ∥₁
  pub last : ForSome w.last (λ t. IsOwn m.grid (block_at m.grid t.node) t.own)
  pub shape : w.shape ≡ m.grid.shape
  pub turn_is : w.turn ≡ turn
  pub rest : left m w ≡ drop (given_of m before) (image m turn)

-- ---- what lasts

module _ {D : Type 0} (holds : D → Option Areas) (may_leave : D → Areas → Type 0) where
  -- where nothing was pending and nothing is damaged, nothing is pending afterwards, and what is held is the last of the meshes that were
  -- saved, or where there was none what was held
  abbrev pub HasSaved : List Mesh → D → D → Type 0
  HasSaved meshes old new = (areas : Areas) → Rests holds may_leave old areas → IsWhole (held areas.a areas.b) →
      (after : Areas) × Rests holds may_leave new after × (held after.a after.b ≡ stage (held areas.a areas.b) meshes (length meshes))

  -- stopped at any moment, the disk holds what was held or one of the meshes that were saved, whole
  abbrev pub StaysWhole : (D → ℕ) → (D → ℕ → Areas → Type 0) → List Mesh → D → D → Type 0
  StaysWhole moment left_since meshes old new = (areas : Areas) → Rests holds may_leave old areas → IsWhole (held areas.a areas.b) →
      LeavesOnly moment left_since old new (IsStage images (held areas.a areas.b) meshes (length meshes))

-- what a stop says of the disk's count of faults: it rose where the disk stopped the command, and stood otherwise
abbrev pub CountsFault : StoppedBy → ℕ → ℕ → Type 0
CountsFault (by.Mesh why) before after = after ≡ before
CountsFault by.Sink before after = after ≡ before
CountsFault by.Disk before after = Rose before after
CountsFault by.Memory before after = after ≡ before
