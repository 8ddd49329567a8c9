-- Leaf cells with a net flux.
use Rattle.std.specs.Prelude.{◌≡◌, ℕ, ◌+◌, ◌==◌, if◌then◌else◌, List, ℤ, pos, ◌+ℤ◌, ◌-ℤ◌, unsigned_abs}
use Rattle.amr_num.specs.declared.Axis.{Axis}
use Rattle.amr_num.specs.declared.Axis.TheVariants.{X, Y, Z}
use Rattle.amr_num.specs.declared.CellAt.{CellAt}
use Rattle.amr_num.specs.declared.FaceAt.{FaceAt}
use Rattle.mesh_model.specs.Fields.ArrayPlaces.{face_extents, number_at}
use Rattle.mesh_model.specs.Fields.Circulation.{net_flux}
use Rattle.mesh_model.specs.Fields.Ranks.{WorldState}
use Rattle.mesh_model.specs.Fields.Totals.{leaf_sum}
use Rattle.mesh_model.specs.Fields.Views.{face_view}
use Rattle.mesh_model.specs.Tree.Kinds.{Grid}
use Rattle.rank_world.specs.Holding.{LeavesHoldFaces}
use Rattle.rank_world.specs.NodeSums.{node_sum}

-- 1 for a net flux other than 0
abbrev pub counted : ℤ → ℤ
counted net = if unsigned_abs net == 0 then pos 0 else pos 1

-- for a cell, by the views of a field on faces
abbrev pub counted_cell : Grid → (FaceAt → ℤ) → CellAt → ℤ
counted_cell g field c = counted (net_flux g (face_view g field) c)

-- the numbers of a block's arrays of faces normal to x, y and z, by the places of its faces
abbrev pub faces_of : ℕ → ℕ → List ℤ → List ℤ → List ℤ → Axis → ℕ → ℕ → ℕ → ℤ
faces_of n g xs ys zs X i j k = number_at (face_extents n g X) xs (g + i) (g + j) (g + k)
faces_of n g xs ys zs Y i j k = number_at (face_extents n g Y) ys (g + i) (g + j) (g + k)
faces_of n g xs ys zs Z i j k = number_at (face_extents n g Z) zs (g + i) (g + j) (g + k)

-- high minus low on the axes, for the cell at a place
abbrev pub net_at : (Axis → ℕ → ℕ → ℕ → ℤ) → ℕ → ℕ → ℕ → ℤ
net_at faces i j k = (faces X (i + 1) j k -ℤ faces X i j k) +ℤ (faces Y i (j + 1) k -ℤ faces Y i j k) +ℤ (faces Z i j (k + 1) -ℤ faces Z i j k)

-- the count is that of a node's cells, where it is a leaf, for the field that the leaves hold; and that of all leaf cells
abbrev pub IsNodeNet : WorldState → ℕ → ℕ → Type 0
IsNodeNet w node count = (field : FaceAt → ℤ) → LeavesHoldFaces w field → pos count ≡ node_sum w.told.grid (counted_cell w.told.grid field) node

abbrev pub IsNetCount : WorldState → ℕ → Type 0
IsNetCount w count = (field : FaceAt → ℤ) → LeavesHoldFaces w field → pos count ≡ leaf_sum w.told.grid (counted_cell w.told.grid field)
