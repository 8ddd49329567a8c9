-- Images: how meshes are spelled as bytes.
use Rattle.std.specs.Prelude.{◌≡◌, ℕ, ◌≤◌, ◌<◌, ◌^◌, List, length, get_or, Result, Ok}
use Rattle.std.specs.List.{All}

-- Meshes with an image for each turn, and why other bytes are none. Byte 8 of an image is its turn, and reading is the
-- inverse of writing both ways.
pub record Format : Type 1 where
  pub Mesh : Type 0
  pub Fault : Type 0
  -- the meshes that have images
  pub Fits : Mesh → Type 0
  pub image : Mesh → ℕ → List ℕ
  pub read : List ℕ → Result Mesh Fault
  pub turned : (mesh : Mesh) (turn : ℕ) → Fits mesh → turn ≤ 2 → get_or (image mesh turn) 8 0 ≡ turn
  pub some : (mesh : Mesh) (turn : ℕ) → Fits mesh → turn ≤ 2 → 1 ≤ length (image mesh turn)
  pub limit : (mesh : Mesh) (turn : ℕ) → Fits mesh → turn ≤ 2 → length (image mesh turn) ≤ 2 ^ 29
  pub back : (mesh : Mesh) (turn : ℕ) → Fits mesh → turn ≤ 2 → read (image mesh turn) ≡ Ok mesh
  pub exact : (bytes : List ℕ) (mesh : Mesh) → All (λ byte. byte < 256) bytes → read bytes ≡ Ok mesh → (turn : ℕ) × (turn ≤ 2) × Fits mesh × (bytes ≡ image mesh turn)
