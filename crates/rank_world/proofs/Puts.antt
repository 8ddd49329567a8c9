-- Worlds in one of whose arrays small numbers are put.
use Rattle.std.proofs.Common.{◌≡◌, ℕ, ◌≤◌, ◌⊎◌, List, length, ℤ, pos, sym, ap, subst, ◌∙◌, arith, inl, inr}
use Rattle.std.specs.Prelude.{replicate}
use Rattle.std.proofs.lemmas.Bool.{cases_lt, cases_order}
use Rattle.std.proofs.lemmas.List.{get_or-replicate, get_or_past, length-replicate}
use Rattle.amr_num.specs.Numbers.{Within, at}
use Rattle.mesh_model.specs.declared.fields.values.Var.{Var}
use Rattle.mesh_model.specs.Fields.ArrayPlaces.{IsSize}
use Rattle.mesh_model.specs.Fields.Arrays.{HasVar, array_in, array_number, var_length}
use Rattle.mesh_model.specs.Fields.Ranks.{AreZero, IsFit, WorldState, rank_at, world_with}
use Rattle.mesh_model.proofs.FieldLemmas.BlockArrays.{number_once}
use Rattle.mesh_model.proofs.FieldLemmas.Worlds.{has_array, only_of, written_in}
use Rattle.block_tree.specs.Numbered.{IsNode}
use Rattle.rank_world.specs.Puts.{IsPut}

-- an array is a certain one, or another
pub which_array : (node k : ℕ) (var u : Var) → ((k ≡ node) × (u ≡ var)) ⊎ (u ≡ var → k ≡ node → ⊥)
which_array node k var u = elim (cases_order k node) [
  | inr apart ↦ inr (λ e is. absurd (elim apart [ inl h ↦ omega arith | inr h ↦ omega arith ]))
  | inl here ↦ elim (cases_order (array_number u) (array_number var)) [
    | inl same ↦ inl (here, number_once u var same)
    | inr apart ↦ inr (λ e is. absurd (let same = ap array_number e in elim apart [ inl h ↦ omega arith | inr h ↦ omega arith ]))
  ]
]

zero_at : (n k : ℕ) → at (replicate n (pos 0)) k ≡ pos 0
zero_at n k = elim (cases_lt k n) [
  | inl less ↦ get_or-replicate n k (pos 0) (pos 0) less
  | inr past ↦ get_or_past (replicate n (pos 0)) k (pos 0) (subst (λ m. m ≤ k) (sym (length-replicate n (pos 0))) past)
]

-- the numbers of a new world are small
pub zero_small : (n g most : ℕ) (w : WorldState) (var : Var) (node p : ℕ) → IsFit n g w → AreZero n g (rank_at w 0).own.values → HasVar w.told.counts var → IsNode w.told.grid node →
    Within most (at (array_in (rank_at w 0).own.values var node) p)
zero_small n g most w var node p fit zero declared there =
    let is : at (array_in (rank_at w 0).own.values var node) p ≡ pos 0 =
    ap (λ xs. at xs p) (zero.each var node (has_array n g w var node fit there declared)) ∙ zero_at (var_length n g var) p in
    subst (Within most) (sym is) (omega arith)

-- and those that were small stay small where small ones are put
pub put_small : (n g most : ℕ) (w : WorldState) (var : Var) (node : ℕ) (ys : List ℤ) → IsSize n g → IsFit n g w → HasVar w.told.counts var → IsNode w.told.grid node → length ys ≡ var_length n g var →
    IsPut most (array_in (rank_at w 0).own.values var node) ys → (u : Var) (k p : ℕ) → Within most (at (array_in (rank_at w 0).own.values u k) p) →
    Within most (at (array_in (rank_at (world_with w 0 var node ys) 0).own.values u k) p)
put_small n g most w var node ys size fit declared there long put u k p was =
    let new = world_with w 0 var node ys in
    elim (which_array node k var u) [
      | inr other ↦ subst (λ xs. Within most (at xs p)) (sym ((only_of w var node ys fit.one).here.others u k other)) was
      | inl (is_node, is_var) ↦ (
          let is : array_in (rank_at new 0).own.values var node ≡ ys = written_in w var node ys fit.one n g size fit (has_array n g w var node fit there declared) long in
          let old : Within most (at (array_in (rank_at w 0).own.values var node) p) =
          subst (λ m. Within most (at (array_in (rank_at w 0).own.values var m) p)) is_node (subst (λ v. Within most (at (array_in (rank_at w 0).own.values v k) p)) is_var was) in
          let now : Within most (at ys p) = elim (put.each p) [
            | inl small ↦ small
            | inr same ↦ subst (Within most) (sym same) old
          ] in
          subst (λ m. Within most (at (array_in (rank_at new 0).own.values u m) p)) (sym is_node)
          (subst (λ v. Within most (at (array_in (rank_at new 0).own.values v node) p)) (sym is_var) (subst (λ xs. Within most (at xs p)) (sym is) now)))
    ]
