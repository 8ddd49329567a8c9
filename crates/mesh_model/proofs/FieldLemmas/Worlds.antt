-- Worlds of which one array is written.
use Rattle.std.proofs.Common.{◌≡◌, ◌≢◌, ℕ, ◌<◌, List, length, set, ℤ, refl, sym, ap, subst, ◌∙◌, arith}
use Rattle.std.proofs.lemmas.List.{get_or-set_other, get_or-set_same, length-set}
use Rattle.mesh_model.specs.declared.fields.values.Var.{Var}
use Rattle.mesh_model.specs.Fields.Arrays.{AreWhole, Arrays, HasArray, HasVar, IsHeld, OnlyArray, array_in, var_length, with_array}
use Rattle.mesh_model.specs.Tree.Order.{nodes}
use Rattle.mesh_model.specs.Fields.ArrayPlaces.{IsSize}
use Rattle.mesh_model.specs.Fields.Ranks.{IsFit, OnlyOf, RankState, WorldState, nobody, rank_at, rank_with, world_with}
use Rattle.mesh_model.proofs.FieldLemmas.BlockArrays.{array_is, only_again, only_none, only_written, whole_after}

module _ (w : WorldState) (var : Var) (node : ℕ) (xs : List ℤ) (one : length w.ranks ≡ 1) where
  after_rank : rank_at (world_with w 0 var node xs) 0 ≡ rank_with (rank_at w 0) var node xs
  after_rank = get_or-set_same w.ranks 0 (rank_with (rank_at w 0) var node xs) nobody (omega arith)

  values_are : (rank_at (world_with w 0 var node xs) 0).own.values ≡ with_array (rank_at w 0).own.values var node xs
  values_are = ap (λ (r : RankState). r.own.values) after_rank

  -- what changes, and what was written
  pub only_of : OnlyOf w (world_with w 0 var node xs) 0 var node
  only_of = record {
    told = refl;
    count = length-set w.ranks 0 (rank_with (rank_at w 0) var node xs);
    others = λ s ne. get_or-set_other w.ranks 0 s (rank_with (rank_at w 0) var node xs) nobody ne;
    here = subst (λ a. OnlyArray (rank_at w 0).own.values a var node) (sym values_are) (only_written (rank_at w 0).own.values var node xs);
  }

  pub written_in : (n g : ℕ) → IsSize n g → IsFit n g w → HasArray (rank_at w 0).own.values var node → length xs ≡ var_length n g var →
      array_in (rank_at (world_with w 0 var node xs) 0).own.values var node ≡ xs
  written_in n g size fit has long = ap (λ a. array_in a var node) values_are ∙ array_is n g (rank_at w 0).own.values var node xs size fit.whole has long

  pub fit_after : (n g : ℕ) → IsSize n g → IsFit n g w → HasArray (rank_at w 0).own.values var node → IsFit n g (world_with w 0 var node xs)
  unfolding with_array
  fit_after n g size fit has = record {
    one = length-set w.ranks 0 (rank_with (rank_at w 0) var node xs) ∙ one;
    sizes = fit.sizes;
    counts = ap (λ (a : Arrays). a.counts) values_are ∙ fit.counts;
    holds = λ k. let same = ap (λ (a : Arrays). a.held) values_are in (
      λ h. (fit.holds k).0 (subst (λ (a : Arrays). IsHeld a k) values_are h),
      λ h. subst (λ (a : Arrays). IsHeld a k) (sym values_are) ((fit.holds k).1 h),
    );
    whole = subst (AreWhole n g) (sym values_are) (whole_after n g (rank_at w 0).own.values var node xs size has fit.whole);
  }

-- one change of an array after another
pub only_of_again : (a b c : WorldState) (r : ℕ) (var : Var) (node : ℕ) → OnlyOf a b r var node → OnlyOf b c r var node → OnlyOf a c r var node
only_of_again a b c r var node ab bc = record {
  told = bc.told ∙ ab.told;
  count = bc.count ∙ ab.count;
  others = λ s ne. bc.others s ne ∙ ab.others s ne;
  here = only_again (rank_at a r).own.values (rank_at b r).own.values (rank_at c r).own.values var node ab.here bc.here;
}

pub only_of_none : (a : WorldState) (r : ℕ) (var : Var) (node : ℕ) → OnlyOf a a r var node
only_of_none a r var node = record { told = refl; count = refl; others = λ s ne. refl; here = only_none (rank_at a r).own.values var node }

-- a node of the grid has the arrays that are declared
pub has_array : (n g : ℕ) (w : WorldState) (var : Var) (node : ℕ) → IsFit n g w → node < length (nodes w.told.grid.leaves) → HasVar w.told.counts var → HasArray (rank_at w 0).own.values var node
has_array n g w var node fit there declared = record {
  declared = subst (λ m. HasVar m var) (sym fit.counts) declared;
  held = (fit.holds node).1 there;
}
