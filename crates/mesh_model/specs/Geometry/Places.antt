-- The places of a block: its cells, its faces and its edges, x fastest, then y, then z.
use Rattle.std.specs.Prelude.{ℕ, suc, ◌+◌, ◌*◌, Bool, ◌&&◌, ◌||◌, ◌==◌, ℤ, List, map, flat_map, pos, ◌-ℤ◌}
use Rattle.std.specs.List.{range_with_len}
use Rattle.amr_num.specs.declared.Axis.{Axis}
use Rattle.amr_num.specs.declared.Axis.TheVariants.{X, Y, Z}
use Rattle.amr_num.specs.declared.BlockAt.{BlockAt}
use Rattle.amr_num.specs.declared.CellAt.{CellAt}
use Rattle.amr_num.specs.declared.FaceAt.{FaceAt}
use Rattle.amr_num.specs.declared.EdgeAt.{EdgeAt}
use Rattle.mesh_model.specs.Geometry.Coordinates.{face_of, edge_of}

-- what stands at the places below a, b and c of a box, i fastest
abbrev pub box_list : {A : Type 0} → ℕ → ℕ → ℕ → (ℕ → ℕ → ℕ → A) → List A
box_list a b c at = flat_map (λ k. flat_map (λ j. map (λ i. at i j k) (range_with_len 0 a)) (range_with_len 0 b)) (range_with_len 0 c)

-- a block of n cells along each axis at its places i, j, k
abbrev pub in_block : ℕ → BlockAt → ℕ → ℕ → ℕ → CellAt
in_block n b i j k = record { level = b.level; x = n * b.x + i; y = n * b.y + j; z = n * b.z + k }

-- the cells of a block; its faces normal to an axis and its edges along an axis, those on its sides among them
abbrev pub block_cells : ℕ → BlockAt → List CellAt
block_cells n b = box_list n n n (in_block n b)

abbrev pub block_faces : ℕ → BlockAt → Axis → List FaceAt
block_faces n b X = box_list (suc n) n n (λ i j k. face_of X (in_block n b i j k))
block_faces n b Y = box_list n (suc n) n (λ i j k. face_of Y (in_block n b i j k))
block_faces n b Z = box_list n n (suc n) (λ i j k. face_of Z (in_block n b i j k))

abbrev pub block_edges : ℕ → BlockAt → Axis → List EdgeAt
block_edges n b X = box_list n (suc n) (suc n) (λ i j k. edge_of X (in_block n b i j k))
block_edges n b Y = box_list (suc n) n (suc n) (λ i j k. edge_of Y (in_block n b i j k))
block_edges n b Z = box_list (suc n) (suc n) n (λ i j k. edge_of Z (in_block n b i j k))

-- 0, 1, and so on to n - 1
abbrev pub places : ℕ → List ℕ
places n = range_with_len 0 n

-- one more place on the axis a, and the same number on the others
abbrev pub longer_on : Axis → Axis → ℕ → ℕ
longer_on X X n = n + 1
longer_on X Y n = n
longer_on X Z n = n
longer_on Y X n = n
longer_on Y Y n = n + 1
longer_on Y Z n = n
longer_on Z X n = n
longer_on Z Y n = n
longer_on Z Z n = n + 1

-- one more place on the axes other than a
abbrev pub longer_across : Axis → Axis → ℕ → ℕ
longer_across X X n = n
longer_across X Y n = n + 1
longer_across X Z n = n + 1
longer_across Y X n = n + 1
longer_across Y Y n = n
longer_across Y Z n = n + 1
longer_across Z X n = n + 1
longer_across Z Y n = n + 1
longer_across Z Z n = n

-- the coordinate on an axis of the i-th place, from 0, of a block with its g guards, where the block is the b-th and has n cells
abbrev pub guard_index : ℕ → ℕ → ℕ → ℕ → ℤ
guard_index n g b i = pos (n * b + i) -ℤ pos g

-- position p of n, counted from 0 on the low side, lies on that side, where it is chosen, or on the high one, where that is
abbrev pub is_on_side : ℕ → Bool → Bool → ℕ → Bool
is_on_side n low high p = ((p == 0) && low) || ((p == n) && high)
