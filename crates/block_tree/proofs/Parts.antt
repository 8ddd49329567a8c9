-- Nodes round the edges on the parts of a block's boundary, and the bits of these parts.
use Rattle.std.proofs.Common.{◌≡◌, ℕ, zero, suc, ◌+◌, ◌-◌, ◌*◌, ◌/◌, ◌%◌, ◌^◌, ◌<◌, Bool, true, false, ◌&&◌, ◌||◌, ◌==◌, MatchOption, Option, Some, None, is_some, refl, sym, ap, ap₂, ◌∙◌, arith, inl, inr}
use Rattle.std.specs.Prelude.{if◌then◌else◌}
use Rattle.std.proofs.Math.Nat.{add-mul-div_left, div-eq_of_lt}
use Rattle.std.proofs.Math.Pow.{pow-add}
use Rattle.std.proofs.lemmas.Bool.{cases_lt}
use Rattle.amr_num.specs.declared.BlockAt.{BlockAt}
use Rattle.mesh_model.specs.Tree.Kinds.{Grid}
use Rattle.mesh_model.specs.Tree.Order.{IsIn, nodes}
use Rattle.mesh_model.specs.Tree.ValidGrid.{Valid}
use Rattle.mesh_model.specs.Fields.FaceSplits.{is_kept}
use Rattle.mesh_model.proofs.TreeLemmas.Tests.{or_left, or_right, refuted}
use Rattle.mesh_model.proofs.TreeLemmas.Tiling.{leaf_says}
use Rattle.block_tree.specs.Directions.{AreParts, IsRound, IsToward, block_toward, direction_of, has_edges, is_kind, lies_round, lies_toward, passes}
use Rattle.block_tree.specs.declared.directions.Direction.{Direction}
use Rattle.block_tree.specs.declared.directions.Round.{Round}
use Rattle.block_tree.proofs.BlocksBeside.{no_split}
use Rattle.block_tree.proofs.Leaves.{leaf_node}

-- ---- kinds

-- a block that is no node is of neither kind
pub off_nodes : (g : Grid) → Valid g → (kind : Bool) (b : BlockAt) → (IsIn b (nodes g.leaves) → ⊥) → is_kind g kind b ≡ false
off_nodes g valid true b none = refuted _ (λ t. none (leaf_node g valid b (leaf_says g b t)))
off_nodes g valid false b none = no_split g valid b none

-- ---- nodes in directions

module _ (g : Grid) (kind : Bool) (b : BlockAt) where
  pub off_toward : (d : Direction) (c : BlockAt) → block_toward g.shape d b ≡ Some c → is_kind g kind c ≡ false → lies_toward g kind b d ≡ false
  unfolding lies_toward
  off_toward d c is none = ap (passes (is_kind g kind)) is ∙ none

  toward_is : (d : Direction) (node : ℕ) → IsToward g kind b d node → lies_toward g kind b d ≡ true
  unfolding lies_toward
  toward_is d node t = ap (passes (is_kind g kind)) t.toward ∙ t.kind

  module _ (d : Direction) (edges : has_edges d ≡ true) (node : ℕ) where
    pub round_there : IsToward g kind b d node → IsRound g kind b d (record { node = node; toward = d })
    unfolding lies_round
    round_there t = record {
      node = t;
      on_x = inl refl;
      on_y = inl refl;
      on_z = inl refl;
      round = ap₂ (λ u v. u && (v || lies_toward g kind b (record d { x = 1 }) || lies_toward g kind b (record d { y = 1 }) || lies_toward g kind b (record d { z = 1 }))) edges (toward_is d node t);
    }

    pub round_less_x : IsToward g kind b (record d { x = 1 }) node → IsRound g kind b d (record { node = node; toward = record d { x = 1 } })
    unfolding lies_round
    round_less_x t = record {
      node = t;
      on_x = inr refl;
      on_y = inl refl;
      on_z = inl refl;
      round = ap₂ (λ u v. u && v) edges (or_left _ _ (or_left _ _ (or_right _ _ (toward_is (record d { x = 1 }) node t))));
    }

    pub round_less_y : IsToward g kind b (record d { y = 1 }) node → IsRound g kind b d (record { node = node; toward = record d { y = 1 } })
    unfolding lies_round
    round_less_y t = record {
      node = t;
      on_x = inl refl;
      on_y = inr refl;
      on_z = inl refl;
      round = ap₂ (λ u v. u && v) edges (or_left _ _ (or_right _ _ (toward_is (record d { y = 1 }) node t)));
    }

    pub round_less_z : IsToward g kind b (record d { z = 1 }) node → IsRound g kind b d (record { node = node; toward = record d { z = 1 } })
    unfolding lies_round
    round_less_z t = record {
      node = t;
      on_x = inl refl;
      on_y = inl refl;
      on_z = inr refl;
      round = ap₂ (λ u v. u && v) edges (or_right _ _ (toward_is (record d { z = 1 }) node t));
    }

-- ---- bits

power_some : (d : ℕ) → 0 < 2 ^ d
power_some zero = omega arith
power_some (suc d) = let one = power_some d in omega arith

-- a bit that is added above all that stand
pub bit_below : (parts d e : ℕ) → e < d → is_kept (parts + 2 ^ d) e ≡ is_kept parts e
bit_below parts d e less =
    let r = d - e - 1 in
    let sum : d ≡ e + (r + 1) = omega arith in
    let twice : 2 ^ (r + 1) ≡ 2 * 2 ^ r = pow-add 2 r 1 ∙ omega arith in
    let apart : 2 ^ d ≡ 2 ^ e * (2 * 2 ^ r) = ap (λ m. 2 ^ m) sum ∙ pow-add 2 e (r + 1) ∙ ap (λ m. 2 ^ e * m) twice in
    let shifted : (parts + 2 ^ d) / 2 ^ e ≡ parts / 2 ^ e + 2 * 2 ^ r = ap (λ m. (parts + m) / 2 ^ e) apart ∙ add-mul-div_left parts (2 * 2 ^ r) (power_some e) in
    let even : (parts / 2 ^ e + 2 * 2 ^ r) % 2 ≡ parts / 2 ^ e % 2 = omega arith in
    ap (λ m. m == 1) (ap (λ m. m % 2) shifted ∙ even)

pub bit_there : (parts d : ℕ) → parts < 2 ^ d → is_kept (parts + 2 ^ d) d ≡ true
bit_there parts d few =
    let one : parts + 2 ^ d ≡ parts + 2 ^ d * 1 = omega arith in
    let shifted : (parts + 2 ^ d) / 2 ^ d ≡ 1 = ap (λ m. m / 2 ^ d) one ∙ add-mul-div_left parts 1 (power_some d) ∙ ap (λ m. m + 1) (div-eq_of_lt few) in
    ap (λ m. m % 2 == 1) shifted

bit_none : (parts d : ℕ) → parts < 2 ^ d → is_kept parts d ≡ false
bit_none parts d few = ap (λ m. m % 2 == 1) (div-eq_of_lt few)

no_bit : (parts : ℕ) → parts + 0 ≡ parts
no_bit parts = omega arith

-- the bit of the next part, as it stands or not
pub next_bit : (parts d : ℕ) (t : Bool) → parts < 2 ^ d → (is_kept (parts + (if t then 2 ^ d else 0)) d ≡ t) × ((e : ℕ) → e < d → is_kept (parts + (if t then 2 ^ d else 0)) e ≡ is_kept parts e)
next_bit parts d true few = (bit_there parts d few, λ e h. bit_below parts d e h)
next_bit parts d false few = (ap (λ m. is_kept m d) (no_bit parts) ∙ bit_none parts d few, λ e h. ap (λ m. is_kept m e) (no_bit parts))

pub next_few : (parts d bit : ℕ) (t : Bool) → parts < 2 ^ d → bit ≡ (if t then 2 ^ d else 0) → parts + bit < 2 ^ (d + 1)
next_few parts d bit true few is = let twice : 2 ^ (d + 1) ≡ 2 * 2 ^ d = pow-add 2 d 1 ∙ omega arith in omega (arith, twice, is)
next_few parts d bit false few is = let twice : 2 ^ (d + 1) ≡ 2 * 2 ^ d = pow-add 2 d 1 ∙ omega arith in omega (arith, twice, is)

pub one_more : (g : Grid) (kind : Bool) (b : BlockAt) (parts d bit : ℕ) (t : Bool) → AreParts g kind b d parts → parts < 2 ^ d → bit ≡ (if t then 2 ^ d else 0) → t ≡ lies_round g kind b (direction_of d) →
    AreParts g kind b (d + 1) (parts + bit)
one_more g kind b parts d bit t before few is stands =
    let next = next_bit parts d t few in
    record {
      each = λ e h. ap (λ m. is_kept (parts + m) e) is ∙ elim (cases_lt e d) [
        | inl less ↦ next.1 e less ∙ before.each e less
        | inr more ↦
            let last : e ≡ d = omega (arith, more, h) in
            ap (λ m. is_kept (parts + (if t then 2 ^ d else 0)) m) last ∙ next.0 ∙ stands ∙ ap (λ m. lies_round g kind b (direction_of m)) (sym last)
      ];
    }

-- a part stands where a node is found round it
pub stands_is : (g : Grid) (kind : Bool) (b : BlockAt) (d : Direction) (r : Option Round) → MatchOption r (lies_round g kind b d ≡ false) (IsRound g kind b d) → is_some r ≡ lies_round g kind b d
stands_is g kind b d None none = sym none
stands_is g kind b d (Some found) is = sym is.round
