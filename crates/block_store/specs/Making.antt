-- Arrays of zeros.
use Rattle.std.specs.Prelude.{◌≡◌, ℕ, ◌+◌, ◌<◌, List, length, pos, replicate, ℤ, slice_index_or, []}
use Rattle.mesh_model.specs.declared.fields.values.Var.{Var}
use Rattle.mesh_model.specs.Fields.Arrays.{Counts, HasVar, array_count, array_number, block_in, var_length}

-- the array with this number, where a block has it, is so long
pub record IsArrayLength (n g : ℕ) (counts : Counts) (number long : ℕ) : Type 0 where
  pub each : (var : Var) → array_number var ≡ number → HasVar counts var → long ≡ var_length n g var

-- the arrays of a block are all of zeros
pub record IsZeroBlock (n g : ℕ) (counts : Counts) (block : List (List ℤ)) : Type 0 where
  pub size : length block ≡ array_count counts
  pub each : (var : Var) → HasVar counts var → slice_index_or block (array_number var) [] ≡ replicate (var_length n g var) (pos 0)

-- so are those of so many blocks
pub record AreZeroBlocks (n g : ℕ) (counts : Counts) (count : ℕ) (blocks : List (List (List ℤ))) : Type 0 where
  pub size : length blocks ≡ count
  pub each : (at : ℕ) → at < count → IsZeroBlock n g counts (block_in blocks at)
