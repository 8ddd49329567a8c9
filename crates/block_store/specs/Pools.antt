-- What a pool's calls make of its arrays, by slots.
use Rattle.std.specs.Prelude.{◌≡◌, ℕ, ◌+◌, ◌<◌, ◌^◌, ◌↔◌, false, not, length, replicate, pos, slice_index_or, count_by, []}
use Rattle.mesh_model.specs.declared.fields.values.Var.{Var}
use Rattle.mesh_model.specs.Fields.Arrays.{Arrays, Counts, HasVar, IsHeld, array_count, array_in, block_in, var_length}
use Rattle.mesh_model.specs.Fields.ArrayPlaces.{IsSize}

-- how many slots are free
abbrev pub spare_of : Arrays → ℕ
spare_of a = count_by not a.held

-- a pool without slots
abbrev pub no_arrays : Counts → Arrays
no_arrays counts = record { counts = counts; held = []; blocks = [] }

-- all arrays of a slot are zeros
abbrev pub IsZero : ℕ → ℕ → Arrays → ℕ → Type 0
IsZero n g a slot = (var : Var) → HasVar a.counts var → array_in a var slot ≡ replicate (var_length n g var) (pos 0)

-- the same slots are taken, and their arrays have the same numbers
pub record KeepsArrays (old new : Arrays) : Type 0 where
  pub counts : new.counts ≡ old.counts
  pub held : (slot : ℕ) → IsHeld new slot ↔ IsHeld old slot
  pub arrays : (var : Var) (slot : ℕ) → IsHeld old slot → array_in new var slot ≡ array_in old var slot

-- all but one slot are as they were
pub record KeepsOthers (old new : Arrays) (slot : ℕ) : Type 0 where
  pub counts : new.counts ≡ old.counts
  pub held : (at : ℕ) → (at ≡ slot → ⊥) → IsHeld new at ↔ IsHeld old at
  pub arrays : (var : Var) (at : ℕ) → (at ≡ slot → ⊥) → IsHeld old at → array_in new var at ≡ array_in old var at

-- a free slot was taken; its arrays are zeros
pub record IsTaken (n g : ℕ) (old new : Arrays) (slot : ℕ) : Type 0 where
  pub free : IsHeld old slot → ⊥
  pub held : IsHeld new slot
  pub zero : IsZero n g new slot
  pub others : KeepsOthers old new slot
  pub spare : spare_of old ≡ spare_of new + 1

-- a slot was given back
pub record IsGivenBack (old new : Arrays) (slot : ℕ) : Type 0 where
  pub free : IsHeld new slot → ⊥
  pub others : KeepsOthers old new slot
  pub spare : spare_of new ≡ spare_of old + 1

-- the arrays of two variables of a slot changed places, and all else is as it was
pub record IsExchanged (old new : Arrays) (slot : ℕ) (a b : Var) : Type 0 where
  pub counts : new.counts ≡ old.counts
  pub held : new.held ≡ old.held
  pub first : array_in new a slot ≡ array_in old b slot
  pub second : array_in new b slot ≡ array_in old a slot
  pub others : (u : Var) (at : ℕ) → (u ≡ a → at ≡ slot → ⊥) → (u ≡ b → at ≡ slot → ⊥) → array_in new u at ≡ array_in old u at

-- what holds of a pool: all its slots have whole arrays, those of free slots are zeros, so many slots are free, and none of them before some slot
pub record IsPool (n g : ℕ) (a : Arrays) (free from : ℕ) : Type 0 where
  pub size : IsSize n g
  pub slots : length a.blocks ≡ length a.held
  pub few : length a.held < 2 ^ 32
  pub rooms : (slot : ℕ) → slot < length a.held → length (block_in a.blocks slot) ≡ array_count a.counts
  pub whole : (var : Var) (slot : ℕ) → HasVar a.counts var → slot < length a.held → length (array_in a var slot) ≡ var_length n g var
  pub zero : (slot : ℕ) → slot < length a.held → slice_index_or a.held slot false ≡ false → IsZero n g a slot
  pub spare : free ≡ spare_of a
  pub first : (slot : ℕ) → slot < from → IsHeld a slot
