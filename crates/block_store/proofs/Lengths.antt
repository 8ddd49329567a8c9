-- How long the arrays of a block are, by their numbers.
use Rattle.std.proofs.Common.{◌≡◌, ℕ, ◌+◌, ◌*◌, ◌<◌, ◌≤◌, ◌⊎◌, List, [], ◌∷◌, ◌++◌, length, get_or, replicate, ℤ, pos, refl, sym, ap, subst, ◌∙◌, arith, below_more}
use Rattle.std.proofs.Math.Nat.{mul_left_comm, mul_comm}
use Rattle.std.proofs.lemmas.List.{get_or_append_left, get_or_push, length_push}
use Rattle.amr_num.specs.declared.Axis.{Axis}
use Rattle.amr_num.specs.declared.Axis.TheVariants.{X, Y, Z}
use Rattle.mesh_model.specs.declared.fields.values.Var.{Var}
use Rattle.mesh_model.specs.declared.fields.values.Var.TheVariants.{Cell, Face, Edge, CellWork, FaceWork, EdgeWork}
use Rattle.mesh_model.specs.Fields.Arrays.{Counts, HasVar, array_count, array_number, block_in, var_length}
use Rattle.mesh_model.specs.Geometry.Coordinates.{axis_index}
use Rattle.mesh_model.specs.Fields.ArrayPlaces.{edge_extents, face_extents, side, size_of}
use Rattle.block_store.specs.Making.{AreZeroBlocks, IsArrayLength, IsZeroBlock}

axis_below : (a : Axis) → axis_index a < 3
axis_below X = omega arith
axis_below Y = omega arith
axis_below Z = omega arith

-- each variable has its array among those of a block
pub number_below : (counts : Counts) (var : Var) → HasVar counts var → array_number var < array_count counts
number_below counts (Cell v) has = omega arith
number_below counts (Face a) has = let l = axis_below a in omega arith
number_below counts (Edge a) has = let l = axis_below a in omega arith
number_below counts CellWork has = omega arith
number_below counts (FaceWork a) has = let l = axis_below a in omega arith
number_below counts (EdgeWork a) has = let l = axis_below a in omega arith

module _ (n g : ℕ) where
  faces_are : (a : Axis) → (side n g + 1) * (side n g * side n g) ≡ size_of (face_extents n g a)
  faces_are X = refl
  faces_are Y = mul_left_comm (side n g + 1) (side n g) (side n g)
  faces_are Z = mul_left_comm (side n g + 1) (side n g) (side n g) ∙ ap (λ r. side n g * r) (mul_comm (side n g + 1) (side n g))

  edges_are : (a : Axis) → side n g * ((side n g + 1) * (side n g + 1)) ≡ size_of (edge_extents n g a)
  edges_are X = refl
  edges_are Y = mul_left_comm (side n g) (side n g + 1) (side n g + 1)
  edges_are Z = mul_left_comm (side n g) (side n g + 1) (side n g + 1) ∙ ap (λ r. (side n g + 1) * r) (mul_comm (side n g) (side n g + 1))

  pub cells_long : (counts : Counts) (number : ℕ) → (number ≡ 0) ⊎ (13 ≤ number) → IsArrayLength n g counts number (side n g * (side n g * side n g))
  cells_long counts number which = record { each = each }
    where
      each : (var : Var) → array_number var ≡ number → HasVar counts var → side n g * (side n g * side n g) ≡ var_length n g var
      each (Cell v) e has = refl
      each (Face a) e has = absurd (let l = axis_below a in omega arith)
      each (Edge a) e has = absurd (let l = axis_below a in omega arith)
      each CellWork e has = refl
      each (FaceWork a) e has = absurd (let l = axis_below a in omega arith)
      each (EdgeWork a) e has = absurd (let l = axis_below a in omega arith)

  pub faces_long : (counts : Counts) (number long : ℕ) → ((0 < number) × (number < 4)) ⊎ ((7 ≤ number) × (number < 10)) →
      (number < 4 → long ≡ (side n g + 1) * (side n g * side n g)) → (0 < counts.faces → long ≡ (side n g + 1) * (side n g * side n g)) → IsArrayLength n g counts number long
  faces_long counts number long which work some = record { each = each }
    where
      each : (var : Var) → array_number var ≡ number → HasVar counts var → long ≡ var_length n g var
      each (Cell v) e has = absurd (omega arith)
      each (Face a) e has = some has ∙ faces_are a
      each (Edge a) e has = absurd (let l = axis_below a in omega arith)
      each CellWork e has = absurd (omega arith)
      each (FaceWork a) e has = work (let l = axis_below a in omega arith) ∙ faces_are a
      each (EdgeWork a) e has = absurd (let l = axis_below a in omega arith)

  pub edges_long : (counts : Counts) (number long : ℕ) → ((4 ≤ number) × (number < 7)) ⊎ ((10 ≤ number) × (number < 13)) →
      (number < 7 → long ≡ side n g * ((side n g + 1) * (side n g + 1))) → (0 < counts.edges → long ≡ side n g * ((side n g + 1) * (side n g + 1))) → IsArrayLength n g counts number long
  edges_long counts number long which work some = record { each = each }
    where
      each : (var : Var) → array_number var ≡ number → HasVar counts var → long ≡ var_length n g var
      each (Cell v) e has = absurd (omega arith)
      each (Face a) e has = absurd (let l = axis_below a in omega arith)
      each (Edge a) e has = some has ∙ edges_are a
      each CellWork e has = absurd (omega arith)
      each (FaceWork a) e has = absurd (let l = axis_below a in omega arith)
      each (EdgeWork a) e has = work (let l = axis_below a in omega arith) ∙ edges_are a

-- the first arrays of a block are zeros
pub record AreZeroBelow (n g : ℕ) (counts : Counts) (count : ℕ) (block : List (List ℤ)) : Type 0 where
  pub size : length block ≡ count
  pub each : (var : Var) → HasVar counts var → array_number var < count → get_or block (array_number var) [] ≡ replicate (var_length n g var) (pos 0)

pub one_more_array : (n g : ℕ) (counts : Counts) (count long : ℕ) (block : List (List ℤ)) (xs : List ℤ) → AreZeroBelow n g counts count block → IsArrayLength n g counts count long →
    xs ≡ replicate long (pos 0) → AreZeroBelow n g counts (count + 1) (block ++ xs ∷ [])
one_more_array n g counts count long block xs so_far is zeros = record {
  size = length_push block xs ∙ ap (λ m. m + 1) so_far.size;
  each = λ var has h. below_more (λ m. array_number var ≡ m → get_or (block ++ xs ∷ []) m [] ≡ replicate (var_length n g var) (pos 0)) count
      (λ m l e. get_or_append_left block (xs ∷ []) [] m (omega (arith, so_far.size)) ∙ ap (λ k. get_or block k []) (sym e) ∙ so_far.each var has (omega arith))
      (λ e. get_or_push block xs [] count so_far.size ∙ zeros ∙ ap (λ m. replicate m (pos 0)) (is.each var e has))
      (array_number var) h refl;
}

pub whole_block : (n g : ℕ) (counts : Counts) (count : ℕ) (block : List (List ℤ)) → AreZeroBelow n g counts count block → count ≡ array_count counts → IsZeroBlock n g counts block
whole_block n g counts count block done e = record {
  size = done.size ∙ e;
  each = λ var has. done.each var has (let l = number_below counts var has in omega arith);
}

pub one_more_block : (n g : ℕ) (counts : Counts) (count : ℕ) (blocks : List (List (List ℤ))) (b : List (List ℤ)) → AreZeroBlocks n g counts count blocks → IsZeroBlock n g counts b →
    AreZeroBlocks n g counts (count + 1) (blocks ++ b ∷ [])
one_more_block n g counts count blocks b so_far here = record {
  size = length_push blocks b ∙ ap (λ m. m + 1) so_far.size;
  each = below_more (λ m. IsZeroBlock n g counts (block_in (blocks ++ b ∷ []) m)) count
      (λ m l. subst (IsZeroBlock n g counts) (sym (get_or_append_left blocks (b ∷ []) [] m (omega (arith, so_far.size)))) (so_far.each m l))
      (subst (IsZeroBlock n g counts) (sym (get_or_push blocks b [] count so_far.size)) here);
}
