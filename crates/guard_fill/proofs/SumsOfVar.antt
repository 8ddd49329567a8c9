-- What sums an array of a variable: sums of cells, of faces or of edges.
use Rattle.std.proofs.Common.{ℕ, ◌+◌, ◌*◌, ◌≤◌, List, ℤ, arith}
use Rattle.std.proofs.lemmas.Nat.{mul-le}
use Rattle.amr_num.specs.declared.Axis.{Axis}
use Rattle.amr_num.specs.declared.Axis.TheVariants.{X, Y, Z}
use Rattle.mesh_model.specs.declared.fields.values.Var.{Var}
use Rattle.mesh_model.specs.declared.fields.values.Var.TheVariants.{Cell, CellWork, Edge, EdgeWork, Face, FaceWork}
use Rattle.mesh_model.specs.Fields.ArrayPlaces.{IsSize, cell_extents, edge_extents, extents_of, face_extents, number_at, side, size_of}
use Rattle.mesh_model.specs.Fields.FinePlaces.{FineSumsAreSmall, IsSummed, fine_sum}
use Rattle.mesh_model.specs.Fields.Octants.{IsRestricted, SumsAreSmall, eight}
use Rattle.guard_fill.proofs.AxisStrips.{cells_least, guards_least}

module _ (n e q : ℕ) (child old new : List ℤ) where
  abbrev pub Few : Var → Type 0
  Few var = FineSumsAreSmall n e var (number_at (extents_of n e var) child)

  pub few_cells : (v : ℕ) → Few (Cell v) → SumsAreSmall n e (number_at (extents_of n e (Cell v)) child)
  unfolding eight fine_sum
  few_cells v few i j k hi hj hk = few i j k hi hj hk

  pub few_work : Few CellWork → SumsAreSmall n e (number_at (extents_of n e CellWork) child)
  unfolding eight fine_sum
  few_work few i j k hi hj hk = few i j k hi hj hk

  pub few_work_faces : (a : Axis) → Few (FaceWork a) → Few (Face a)
  unfolding fine_sum
  few_work_faces a few i j k hi hj hk = few i j k hi hj hk

  pub few_work_edges : (a : Axis) → Few (EdgeWork a) → Few (Edge a)
  unfolding fine_sum
  few_work_edges a few i j k hi hj hk = few i j k hi hj hk

  pub cells_summed : (v : ℕ) → IsRestricted n e q child old new → IsSummed n e (Cell v) q child old new
  unfolding eight fine_sum
  cells_summed v is = record { size = is.size; written = λ i j k. is.written i j k; stays = λ i j k hi hj hk off. is.stays i j k hi hj hk off }

  pub work_summed : IsRestricted n e q child old new → IsSummed n e CellWork q child old new
  unfolding eight fine_sum
  work_summed is = record { size = is.size; written = λ i j k. is.written i j k; stays = λ i j k hi hj hk off. is.stays i j k hi hj hk off }

  pub work_faces_summed : (a : Axis) → IsSummed n e (Face a) q child old new → IsSummed n e (FaceWork a) q child old new
  unfolding fine_sum
  work_faces_summed a is = record { size = is.size; written = λ i j k. is.written i j k; stays = λ i j k hi hj hk off. is.stays i j k hi hj hk off }

  pub work_edges_summed : (a : Axis) → IsSummed n e (Edge a) q child old new → IsSummed n e (EdgeWork a) q child old new
  unfolding fine_sum
  work_edges_summed a is = record { size = is.size; written = λ i j k. is.written i j k; stays = λ i j k hi hj hk off. is.stays i j k hi hj hk off }

-- an array has at most 17 * 17 * 16 places
bound : (x y z a b c : ℕ) → x ≤ a → y ≤ b → z ≤ c → x * (y * z) ≤ a * (b * c)
bound x y z a b c hx hy hz = mul-le x (y * z) a (b * c) hx (mul-le y z b c hy hz)

most_cells : (n e : ℕ) → IsSize n e → size_of (cell_extents n e) ≤ 4624
most_cells n e size = let f = guards_least size in let l = cells_least size in let m = bound (side n e) (side n e) (side n e) 16 16 16 (omega arith) (omega arith) (omega arith) in omega (arith, m)

most_faces : (n e : ℕ) → IsSize n e → (a : Axis) → size_of (face_extents n e a) ≤ 4624
most_faces n e size X = let f = guards_least size in let l = cells_least size in let m = bound (side n e + 1) (side n e) (side n e) 17 16 16 (omega arith) (omega arith) (omega arith) in omega (arith, m)
most_faces n e size Y = let f = guards_least size in let l = cells_least size in let m = bound (side n e) (side n e + 1) (side n e) 16 17 16 (omega arith) (omega arith) (omega arith) in omega (arith, m)
most_faces n e size Z = let f = guards_least size in let l = cells_least size in let m = bound (side n e) (side n e) (side n e + 1) 16 16 17 (omega arith) (omega arith) (omega arith) in omega (arith, m)

most_edges : (n e : ℕ) → IsSize n e → (a : Axis) → size_of (edge_extents n e a) ≤ 4624
most_edges n e size X = let f = guards_least size in let l = cells_least size in let m = bound (side n e) (side n e + 1) (side n e + 1) 16 17 17 (omega arith) (omega arith) (omega arith) in omega (arith, m)
most_edges n e size Y = let f = guards_least size in let l = cells_least size in let m = bound (side n e + 1) (side n e) (side n e + 1) 17 16 17 (omega arith) (omega arith) (omega arith) in omega (arith, m)
most_edges n e size Z = let f = guards_least size in let l = cells_least size in let m = bound (side n e + 1) (side n e + 1) (side n e) 17 17 16 (omega arith) (omega arith) (omega arith) in omega (arith, m)

pub most_numbers : (n e : ℕ) → IsSize n e → (var : Var) → size_of (extents_of n e var) ≤ 4624
most_numbers n e size (Cell v) = most_cells n e size
most_numbers n e size CellWork = most_cells n e size
most_numbers n e size (Face a) = most_faces n e size a
most_numbers n e size (FaceWork a) = most_faces n e size a
most_numbers n e size (Edge a) = most_edges n e size a
most_numbers n e size (EdgeWork a) = most_edges n e size a
