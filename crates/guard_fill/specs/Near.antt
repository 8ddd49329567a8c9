-- The nearest layer of guard cells, and the faces in it.
use Rattle.std.specs.Prelude.{ℕ, ◌+◌, ◌^◌, ◌≤◌, ℤ}
use Rattle.amr_num.specs.declared.Axis.{Axis}
use Rattle.amr_num.specs.declared.BlockAt.{BlockAt}
use Rattle.amr_num.specs.declared.CellAt.{CellAt}
use Rattle.amr_num.specs.declared.FaceAt.{FaceAt}
use Rattle.amr_num.specs.Numbers.{Within, number_range}
use Rattle.mesh_model.specs.declared.geometry.Shape.{Shape}
use Rattle.mesh_model.specs.Fields.ArrayPlaces.{cell_there, face_there}
use Rattle.mesh_model.specs.Fields.Views.{cell_view, face_view}
use Rattle.mesh_model.specs.Tree.Kinds.{Grid}
use Rattle.mesh_model.specs.Tree.Order.{IsIn}
use Rattle.mesh_model.specs.Tree.ValidGrid.{Valid}

-- the place on an axis is one of the block's own cells or of the guard cells next to them
pub record IsNear (s : Shape) (i : ℕ) : Type 0 where
  pub low : s.g ≤ i + 1
  pub high : i ≤ s.g + s.n

-- where contents are at most 2^40 in absolute value, the views there are at most 2^56
abbrev pub NearViewsAreSmall : Type 0
NearViewsAreSmall = (g : Grid) (content : CellAt → ℤ) (b : BlockAt) (i j k : ℕ) → Valid g → ((c : CellAt) → Within number_range (content c)) → IsIn b g.leaves →
    IsNear g.shape i → IsNear g.shape j → IsNear g.shape k → Within (2 ^ 56) (cell_view g content (cell_there g.shape b i j k))

-- where numbers of faces are at most 2^40 in absolute value, so are the views of the faces normal to an axis at most 2^56 there
abbrev pub NearFaceViewsAreSmall : Type 0
NearFaceViewsAreSmall = (g : Grid) (field : FaceAt → ℤ) (a : Axis) (b : BlockAt) (i j k : ℕ) → Valid g → ((f : FaceAt) → Within number_range (field f)) → IsIn b g.leaves →
    IsNear g.shape i → IsNear g.shape j → IsNear g.shape k → Within (2 ^ 56) (face_view g field (face_there g.shape a b i j k))
