-- Arrays by nodes, which stand in slots of a pool.
use Rattle.std.specs.Prelude.{◌≡◌, ℕ, ◌+◌, ◌<◌, true, List, length, map, replicate, slice_index}
use Rattle.block_store.specs.Pools.{IsZero, spare_of}
use Rattle.mesh_model.specs.Fields.Arrays.{Arrays, IsHeld, block_in}

-- the arrays of nodes, each in its slot
unfoldable pub by_node : Arrays → List ℕ → Arrays
by_node pool slots = record { counts = pool.counts; held = replicate (length slots) true; blocks = map (block_in pool.blocks) slots }

-- each node has a slot that is taken, and no two have the same
pub record AreSlots (pool : Arrays) (slots : List ℕ) : Type 0 where
  pub held : (node : ℕ) → node < length slots → IsHeld pool (slice_index slots node)
  pub apart : (a b : ℕ) → a < length slots → b < length slots → slice_index slots a ≡ slice_index slots b → a ≡ b

-- slots were taken for so many nodes; their arrays are zeros
pub record AreTaken (n g : ℕ) (old new : Arrays) (count : ℕ) (chosen : List ℕ) : Type 0 where
  pub size : length chosen ≡ count
  pub counts : new.counts ≡ old.counts
  pub spare : spare_of new + count ≡ spare_of old
  pub slots : AreSlots new chosen
  pub zero : (node : ℕ) → node < length chosen → IsZero n g new (slice_index chosen node)
