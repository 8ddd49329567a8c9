-- Arrays by slots and numbers.
use Rattle.std.specs.Prelude.{◌≡◌, ℕ, ◌<◌, ◌≤◌, ℤ, List, [], length, map, pos, replicate, set, slice_index_or}
use Rattle.std.specs.Global.{Vec}
use Rattle.mesh_model.specs.Fields.Arrays.{block_in}

-- the numbers of arrays, and of the arrays of slots
abbrev pub numbers : List (Vec ℤ) → List (List ℤ)
numbers arrays = map (λ v. v.items) arrays

abbrev pub all_numbers : List (Vec (Vec ℤ)) → List (List (List ℤ))
all_numbers blocks = map (λ b. numbers b.items) blocks

-- the array at a place, and what it is to put one there
abbrev pub pick : List (List (List ℤ)) → ℕ → ℕ → List ℤ
pick blocks slot number = slice_index_or (block_in blocks slot) number []

abbrev pub put : List (List (List ℤ)) → ℕ → ℕ → List ℤ → List (List (List ℤ))
put blocks slot number xs = set blocks slot (set (block_in blocks slot) number xs)

-- the first arrays of a slot are zeros, and all else is as it was
pub record IsClearedBelow (count : ℕ) (old new : List (List (List ℤ))) (slot : ℕ) : Type 0 where
  pub slots : length new ≡ length old
  pub arrays : (at : ℕ) → length (block_in new at) ≡ length (block_in old at)
  pub others : (at m : ℕ) → (at ≡ slot → ⊥) → pick new at m ≡ pick old at m
  pub zero : (m : ℕ) → m < count → pick new slot m ≡ replicate (length (pick old slot m)) (pos 0)
  pub rest : (m : ℕ) → count ≤ m → pick new slot m ≡ pick old slot m

-- two arrays of a slot changed places, and all else is as it was
pub record AreExchanged (old new : List (List (List ℤ))) (slot a b : ℕ) : Type 0 where
  pub slots : length new ≡ length old
  pub arrays : (at : ℕ) → length (block_in new at) ≡ length (block_in old at)
  pub first : pick new slot a ≡ pick old slot b
  pub second : pick new slot b ≡ pick old slot a
  pub others : (at m : ℕ) → (at ≡ slot → m ≡ a → ⊥) → (at ≡ slot → m ≡ b → ⊥) → pick new at m ≡ pick old at m
