-- Views of arrays.
use Rattle.std.specs.Prelude.{◌≡◌, ℕ, List, ℤ, length}
use Rattle.amr_num.specs.declared.Axis.{Axis}
use Rattle.mesh_model.specs.declared.fields.values.Var.{Var}
use Rattle.mesh_model.specs.Fields.ArrayPlaces.{IsSize, cell_extents, extents_of, size_of}

-- the numbers of a block's cells, guards included
pub record IsArrayOfCells (n g : ℕ) (xs : List ℤ) : Type 0 where
  pub size : IsSize n g
  pub whole : length xs ≡ size_of (cell_extents n g)

-- the numbers of an array on the faces normal to an axis, or on the edges along one
pub record OnAxis : Type 0 where
  pub axis : Axis
  pub numbers : List ℤ

-- those of a block's array of a variable, guards included
pub record IsArrayOn (n g : ℕ) (var : Var) (xs : List ℤ) : Type 0 where
  pub size : IsSize n g
  pub whole : length xs ≡ size_of (extents_of n g var)
