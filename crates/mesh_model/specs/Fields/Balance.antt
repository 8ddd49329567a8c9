-- When a face field balances.
use Rattle.std.specs.Prelude.{◌≡◌, true, ℤ, pos}
use Rattle.amr_num.specs.declared.CellAt.{CellAt}
use Rattle.amr_num.specs.declared.FaceAt.{FaceAt}
use Rattle.mesh_model.specs.Tree.Kinds.{Grid, is_leaf}
use Rattle.mesh_model.specs.Fields.Circulation.{net_flux}
use Rattle.mesh_model.specs.Fields.Views.{face_view}

-- each leaf cell has net flux 0
pub record Balanced (g : Grid) (faces : FaceAt → ℤ) : Type 0 where
  pub at_leaf : (c : CellAt) → is_leaf g c ≡ true → net_flux g (face_view g faces) c ≡ pos 0
