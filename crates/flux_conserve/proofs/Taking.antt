-- The sums of a side's four quarters, and a world of which a leaf has taken them.
use Rattle.std.proofs.Common.{◌≡◌, ℕ, ◌+◌, ◌*◌, ◌/◌, ◌%◌, ◌^◌, ◌<◌, ◌⊎◌, Bool, not, List, length, ℤ, sym, ap, subst, ◌∙◌, arith}
use Rattle.amr_num.specs.Numbers.{Within, at}
use Rattle.amr_num.proofs.Parts.{sum_below_same}
use Rattle.amr_num.specs.declared.Axis.{Axis}
use Rattle.mesh_model.specs.Fields.ArrayPlaces.{IsSize}
use Rattle.mesh_model.specs.Fields.Arrays.{HasVar, var_length}
use Rattle.mesh_model.specs.Fields.Ranks.{IsFit, IsSized, WorldState, world_with}
use Rattle.mesh_model.specs.declared.geometry.Shape.{Shape}
use Rattle.mesh_model.specs.Geometry.Limits.{IsShape}
use Rattle.mesh_model.proofs.FieldLemmas.BlockPlaces.{above_digit, below_all, digit}
use Rattle.mesh_model.proofs.FieldLemmas.Worlds.{fit_after, has_array, only_of, written_in}
use Rattle.mesh_model.proofs.GeometryLemmas.Halves.{half_below, pair_inside, rest_below}
use Rattle.block_tree.specs.Numbered.{IsNode, IsNumberOf, block_at}
use Rattle.rank_world.specs.Holding.{face_var}
use Rattle.flux_conserve.specs.Jumps.{BlockFaces, child_beside, four_finer, quarter_at, quarter_sum, side_position}
use Rattle.flux_conserve.specs.Sums.{IsSideSet, four_at, quarter_size, sum_place}
use Rattle.flux_conserve.specs.FaceArrays.{NearHas, SideTaken, face_at, stored, stored_at}

-- the sizes of a world's blocks
pub sizes : (n e : ℕ) (s : Shape) → IsSized n e s → IsShape s → IsSize n e
sizes n e s sized shape = record {
  cells = subst (λ m. (m ≡ 4) ⊎ (m ≡ 8)) sized.cells shape.cells;
  guards = subst (λ m. (m ≡ 1) ⊎ ((m ≡ 2) ⊎ (m ≡ 4))) sized.guards shape.guards;
}

-- the sum of a child's four faces is that of the numbers that they have
four_there : (work : Bool) (w : WorldState) (a : Axis) (high : Bool) (beside q child s t : ℕ) (faces : BlockFaces) → NearHas work w faces a high beside → q < 4 →
    IsNumberOf w.told.grid (child_beside a high q (block_at w.told.grid beside)) child → let n = w.told.grid.shape.n in
    (n ≡ 4) ⊎ (n ≡ 8) → s < n / 2 → t < n / 2 →
    four_at n w.told.grid.shape.g a (stored work w a child) (side_position n (not high)) s t ≡ quarter_sum n faces a high (block_at w.told.grid beside) q s t
unfolding four_at quarter_sum
four_there work w a high beside q child s t faces near hq is size hs ht =
    let n = w.told.grid.shape.n in
    let p = side_position n (not high) in
    sum_below_same 4 (λ r. stored_at work w a child p (2 * s + r % 2) (2 * t + r / 2 % 2)) (λ r. faces a (child_beside a high q (block_at w.told.grid beside)) p (2 * s + r % 2) (2 * t + r / 2 % 2))
    (λ r h. near.at q (2 * s + r % 2) (2 * t + r / 2 % 2) child hq is (pair_inside n s (r % 2) size hs (omega arith)) (pair_inside n t (r / 2 % 2) size ht (omega arith)))

pub four_near : (work : Bool) (n e : ℕ) (w : WorldState) (a : Axis) (high : Bool) (beside q child s t : ℕ) (faces : BlockFaces) → IsSized n e w.told.grid.shape → NearHas work w faces a high beside → q < 4 →
    IsNumberOf w.told.grid (child_beside a high q (block_at w.told.grid beside)) child → (n ≡ 4) ⊎ (n ≡ 8) → s < n / 2 → t < n / 2 →
    four_at n e a (stored work w a child) (side_position n (not high)) s t ≡ quarter_sum n faces a high (block_at w.told.grid beside) q s t
four_near work n e w a high beside q child s t faces sized near hq is =
    let Given : ℕ → ℕ → Type 0 = λ m k. (m ≡ 4) ⊎ (m ≡ 8) → s < m / 2 → t < m / 2 →
    four_at m k a (stored work w a child) (side_position m (not high)) s t ≡ quarter_sum m faces a high (block_at w.told.grid beside) q s t in
    subst (λ m. Given m e) sized.cells (subst (λ k. Given w.told.grid.shape.n k) sized.guards (four_there work w a high beside q child s t faces near hq is))

-- where the sum for a place stands
module _ (n s t : ℕ) (size : (n ≡ 4) ⊎ (n ≡ 8)) (hs : s < n) (ht : t < n) where
  pub quarter_less : quarter_at n s t < 4
  quarter_less = let first = half_below n s size hs in let second = half_below n t size ht in omega arith

  pub rest_less : s % (n / 2) + n / 2 * (t % (n / 2)) < quarter_size n
  rest_less = below_all (s % (n / 2)) (n / 2) (t % (n / 2)) (n / 2) (rest_below n s size) (rest_below n t size)

  pub rest_first : (s % (n / 2) + n / 2 * (t % (n / 2))) % (n / 2) ≡ s % (n / 2)
  rest_first = digit (s % (n / 2)) (n / 2) (t % (n / 2)) (rest_below n s size)

  pub rest_second : (s % (n / 2) + n / 2 * (t % (n / 2))) / (n / 2) ≡ t % (n / 2)
  rest_second = above_digit (s % (n / 2)) (n / 2) (t % (n / 2)) (rest_below n s size)

-- a leaf has taken the sums
module _ (work : Bool) (w : WorldState) (node : ℕ) (a : Axis) (high : Bool) (beside : ℕ) (sums ys : List ℤ) (there : IsNode w.told.grid node) (declared : HasVar w.told.counts (face_var work a)) where
  abbrev after : WorldState
  after = world_with w 0 (face_var work a) node ys

  abbrev Given : ℕ → ℕ → Type 0
  Given n e = IsSize n e → IsFit n e w → length ys ≡ var_length n e (face_var work a) →
      IsSideSet n e a (side_position n high) (λ s t. at sums (sum_place n s t)) (stored work w a node) ys →
      ((s t : ℕ) → s < n → t < n → Within (2 ^ 58) (at sums (sum_place n s t))) →
      ((faces : BlockFaces) → NearHas work w faces a high beside → (s t : ℕ) → s < n → t < n → at sums (sum_place n s t) ≡ four_finer n faces a high (block_at w.told.grid beside) s t) →
      SideTaken work n e w after node a high beside

  taken_there : Given w.told.grid.shape.n w.told.grid.shape.g
  taken_there size fit long set small are =
      let n = w.told.grid.shape.n in
      let e = w.told.grid.shape.g in
      let has = has_array n e w (face_var work a) node fit there declared in
      let is : stored work after a node ≡ ys = written_in w (face_var work a) node ys fit.one n e size fit has long in
      let number : (p s t : ℕ) → stored_at work after a node p s t ≡ face_at n e a ys p s t = λ p s t. ap (λ xs. face_at n e a xs p s t) is in
      let here : (s t : ℕ) → s < n → t < n → stored_at work after a node (side_position n high) s t ≡ at sums (sum_place n s t) =
      λ s t hs ht. number (side_position n high) s t ∙ set.here s t hs ht (below_all s n t n hs ht) in
      record {
        only = only_of w (face_var work a) node ys fit.one;
        fit = fit_after w (face_var work a) node ys fit.one n e size fit has;
        others = λ p s t place apart. number p s t ∙ set.others p s t place apart;
        within = λ s t hs ht. subst (Within (2 ^ 58)) (sym (here s t hs ht)) (small s t hs ht);
        sums = λ faces near s t hs ht. here s t hs ht ∙ are faces near s t hs ht;
      }

  pub side_taken : (n e : ℕ) → IsSized n e w.told.grid.shape → Given n e
  side_taken n e sized = subst (λ m. Given m e) sized.cells (subst (λ k. Given w.told.grid.shape.n k) sized.guards taken_there)
