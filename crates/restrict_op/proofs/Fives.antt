-- Blocks all of whose numbers are 5, whose sums are small.
use Rattle.std.proofs.Common.{ℕ, ℤ, ◌+◌, ◌*◌, ◌≤◌, ◌^◌, pos, refl, sym, subst, arith, inl, inr}
use Rattle.std.specs.Prelude.{replicate}
use Rattle.std.proofs.lemmas.Bool.{cases_lt}
use Rattle.std.proofs.lemmas.List.{get_or-replicate, get_or_past, length-replicate}
use Rattle.amr_num.specs.Numbers.{Within, at}
use Rattle.amr_num.proofs.Sizes.{sum_within}
use Rattle.mesh_model.specs.declared.fields.values.Var.{Var}
use Rattle.mesh_model.specs.declared.fields.values.Var.TheVariants.{Cell, Face, Edge, CellWork, FaceWork, EdgeWork}
use Rattle.mesh_model.specs.Fields.FinePlaces.{FineSumsAreSmall, fine_count, fine_step, fine_sum}
use Rattle.mesh_model.specs.Fields.Octants.{SumsAreSmall}
use Rattle.mesh_model.specs.Fields.ArrayPlaces.{cell_extents, extents_of, number_at, place_in}
use Rattle.mesh_model.proofs.FieldLemmas.BlockOctants.{small_sums}

small_five : (m i : ℕ) → Within (2 ^ 40) (at (replicate m (pos 5)) i)
small_five m i = elim (cases_lt i m) [
  | inl less ↦ subst (λ v. Within (2 ^ 40) v) (sym (get_or-replicate m i (pos 5) (pos 0) less)) (omega arith)
  | inr past ↦ subst (λ v. Within (2 ^ 40) v) (sym (get_or_past (replicate m (pos 5)) i (pos 0) (subst (λ n. n ≤ i) (sym (length-replicate m (pos 5))) past))) (omega arith)
]

count_few : (var : Var) → fine_count var ≤ 8
count_few (Cell v) = omega arith
count_few (Face a) = omega arith
count_few (Edge a) = omega arith
count_few CellWork = omega arith
count_few (FaceWork a) = omega arith
count_few (EdgeWork a) = omega arith

pub few_fives : (m : ℕ) → SumsAreSmall 4 1 (number_at (cell_extents 4 1) (replicate m (pos 5)))
few_fives m = small_sums 4 1 (number_at (cell_extents 4 1) (replicate m (pos 5))) (inl refl) (λ i j k hi hj hk. small_five m (place_in (cell_extents 4 1) (1 + i) (1 + j) (1 + k)))

-- so are those of its faces and edges, however many there are
pub few_fine : (m : ℕ) (var : Var) → FineSumsAreSmall 4 1 var (number_at (extents_of 4 1 var) (replicate m (pos 5)))
unfolding fine_sum
few_fine m var i j k hi hj hk =
    let numbers = number_at (extents_of 4 1 var) (replicate m (pos 5)) in
    let terms : ℕ → ℤ = λ q. numbers (1 + 2 * i + (fine_step var q).x) (1 + 2 * j + (fine_step var q).y) (1 + 2 * k + (fine_step var q).z) in
    let all = sum_within (fine_count var) (2 ^ 40) terms (λ q h. small_five m (place_in (extents_of 4 1 var) (1 + 2 * i + (fine_step var q).x) (1 + 2 * j + (fine_step var q).y) (1 + 2 * k + (fine_step var q).z))) in
    let few = count_few var in
    omega (arith, all, few)
