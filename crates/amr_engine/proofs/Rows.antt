-- Rows of a block's cells that are filled.
use Rattle.std.proofs.Common.{◌≡◌, ℕ, ◌+◌, ◌<◌, true, false, List, length, set, take, drop, ℤ, pos, refl, sym, ap, ◌∙◌, arith, inl, inr}
use Rattle.std.specs.Prelude.{if◌then◌else◌}
use Rattle.std.proofs.lemmas.Bool.{cases_lt}
use Rattle.std.proofs.lemmas.List.{get_or-drop, get_or-set_other, get_or-set_same, get_or-take, length-set}
use Rattle.amr_num.specs.Numbers.{at}
use Rattle.amr_num.specs.declared.BlockAt.{BlockAt}
use Rattle.mesh_model.specs.Geometry.Places.{in_block}
use Rattle.amr_engine.specs.Filling.{IsFilledBelow}
use Rattle.amr_engine.specs.Regions.{covers}
use Rattle.amr_engine.specs.declared.region.Fill.{Fill}

module _ (m : ℕ) (old now : List ℤ) (b : BlockAt) (j k : ℕ) (fill : Fill) (is : IsFilledBelow m old now b j k fill) (within : m < length old) where
  -- the next cell takes the value
  pub takes : covers fill.region (in_block (length old) b m j k) ≡ true → IsFilledBelow (m + 1) old (set now m fill.value) b j k fill
  takes covered = record {
    size = length-set now m fill.value ∙ is.size;
    done = λ i h. elim (cases_lt i m) [
      | inl less ↦ get_or-set_other now m i fill.value (pos 0) (λ e. omega arith) ∙ is.done i less
      | inr more ↦ (
          let last : i ≡ m = omega arith in
          ap (λ u. at (set now m fill.value) u) last ∙ get_or-set_same now m fill.value (pos 0) (omega (arith, is.size))
          ∙ sym (ap (λ t. if t then fill.value else at old i) (ap (λ u. covers fill.region (in_block (length old) b u j k)) last ∙ covered)))
    ];
    waits = λ i h. get_or-set_other now m i fill.value (pos 0) (λ e. omega arith) ∙ is.waits i (omega arith);
  }

  -- or keeps what it had
  pub keeps : covers fill.region (in_block (length old) b m j k) ≡ false → IsFilledBelow (m + 1) old now b j k fill
  keeps not_covered = record {
    size = is.size;
    done = λ i h. elim (cases_lt i m) [
      | inl less ↦ is.done i less
      | inr more ↦ (
          let last : i ≡ m = omega arith in
          is.waits i (omega arith) ∙ sym (ap (λ t. if t then fill.value else at old i) (ap (λ u. covers fill.region (in_block (length old) b u j k)) last ∙ not_covered)))
    ];
    waits = λ i h. is.waits i (omega arith);
  }

pub none_filled : (old : List ℤ) (b : BlockAt) (j k : ℕ) (fill : Fill) → IsFilledBelow 0 old old b j k fill
none_filled old b j k fill = record { size = refl; done = λ i h. absurd (omega arith); waits = λ i h. refl }

-- a part of a list has the list's numbers
pub part_at : (xs : List ℤ) (start many t : ℕ) → t < many → at (take many (drop start xs)) t ≡ at xs (start + t)
part_at xs start many t h = get_or-take many (drop start xs) t (pos 0) h ∙ get_or-drop start xs t (pos 0)
