-- What is held after some of the checkpoints of a run.
use Rattle.std.specs.Prelude.{◌≡◌, ℕ, zero, suc, ◌≤◌, List, [], ◌∷◌}
use Rattle.outside_io.specs.Areas.{Areas}
use Rattle.check_disk.specs.Format.{Format}
use Rattle.mesh_model.specs.Images.Held.{Held, Found}
use Rattle.check_disk.specs.Held.{held}

-- what is held at first, and after each checkpoint of the meshes in turn
abbrev pub stage : {M F : Type 0} → Held M F → List M → ℕ → Held M F
stage first meshes zero = first
stage first [] (suc n) = first
stage first (mesh ∷ meshes) (suc n) = stage (Found mesh) meshes n

-- the areas hold one of the stages from 0 to n
abbrev pub IsStage : (format : Format) → Held format.Mesh format.Fault → List format.Mesh → ℕ → Areas → Type 0
IsStage format first meshes n c = (k : ℕ) × (k ≤ n) × (held format c ≡ stage first meshes k)
