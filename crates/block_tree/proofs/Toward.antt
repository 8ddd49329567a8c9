-- The blocks in directions from a block are those of its level that touch it.
use Rattle.std.proofs.Common.{◌≡◌, ℕ, zero, suc, ◌+◌, ◌-◌, ◌*◌, ◌/◌, ◌%◌, ◌^◌, ◌<◌, ◌≤◌, Bool, true, false, Option, Some, None, refl, sym, ap, ap₂, subst, ◌∙◌, arith, inl, inr}
use Rattle.std.proofs.lemmas.Bool.{cases_lt}
use Rattle.amr_num.specs.declared.Axis.{Axis}
use Rattle.amr_num.specs.declared.Axis.TheVariants.{X, Y, Z}
use Rattle.amr_num.specs.declared.BlockAt.{BlockAt}
use Rattle.mesh_model.specs.declared.geometry.Shape.{Shape}
use Rattle.mesh_model.specs.Geometry.Blocks.{InDomain}
use Rattle.mesh_model.specs.Geometry.Coordinates.{above, below, is_periodic, roots}
use Rattle.mesh_model.specs.Geometry.Touch.{block_on, high_end, low_end}
use Rattle.mesh_model.proofs.FieldLemmas.Beside.{Follows, above_in, three}
use Rattle.mesh_model.proofs.TreeLemmas.Touching.{Meet, Touch}
use Rattle.block_tree.specs.Directions.{along, block_of_three, block_toward, direction_of, toward_on}
use Rattle.block_tree.specs.declared.directions.Direction.{Direction}
use Rattle.block_tree.proofs.SideAxes.{at_far_end, ends_apart, ends_meet, neighbours, side_by_side}

-- ---- coordinates of the block in a direction

pub three_of : (l : ℕ) (x y z : Option ℕ) (e : BlockAt) → block_of_three l x y z ≡ Some e → (e.level ≡ l) × (x ≡ Some e.x) × (y ≡ Some e.y) × (z ≡ Some e.z)
three_of l None y z e is = cc
three_of l (Some x) None z e is = cc
three_of l (Some x) (Some y) None e is = cc
three_of l (Some x) (Some y) (Some z) e is =
    let c : BlockAt = record { level = l; x = x; y = y; z = z } in
    let same : c ≡ e = cc in
    (ap (λ (b : BlockAt). b.level) (sym same), ap (λ (b : BlockAt). Some b.x) same, ap (λ (b : BlockAt). Some b.y) same, ap (λ (b : BlockAt). Some b.z) same)

-- e is of the level of b, and on each axis so many steps from it
pub record IsThere (s : Shape) (steps : Axis → ℕ) (b e : BlockAt) : Type 0 where
  pub level : e.level ≡ b.level
  pub on : (c : Axis) → along s c (steps c) b ≡ Some (block_on c e)

-- the steps of a direction
abbrev pub steps_of : Direction → Axis → ℕ
steps_of d X = d.x
steps_of d Y = d.y
steps_of d Z = d.z

pub there_says : (s : Shape) (d : Direction) (b e : BlockAt) → block_toward s d b ≡ Some e → IsThere s (steps_of d) b e
unfolding block_toward
there_says s d b e is = let all = three_of b.level _ _ _ e is in record { level = all.0; on = three _ all.1 all.2 all.3 }

there_shows : (s : Shape) (d : Direction) (b e : BlockAt) → IsThere s (steps_of d) b e → block_toward s d b ≡ Some e
unfolding block_toward
there_shows s d b e there =
    (λ i. block_of_three b.level (there.on X i) (there.on Y i) (there.on Z i))
    ∙ ap (λ l. Some (record { level = l; x = e.x; y = e.y; z = e.z })) (sym there.level)

pub inside_on : (s : Shape) (b : BlockAt) → InDomain s b → (c : Axis) → block_on c b < roots s c * 2 ^ b.level
inside_on s b inside X = inside.x
inside_on s b inside Y = inside.y
inside_on s b inside Z = inside.z

-- ---- one step on an axis

-- the coordinate one step from u is on the axis, and meets u
low_below : (p : Bool) (e u w : ℕ) → u < e → Follows p e w u → w < e
low_below p e u w h (inl is) = omega arith
low_below p e u w h (inr (t, first, end)) = omega arith

own_meets : (p : Bool) (e u w : ℕ) → u ≡ w → Meet p e u (suc u) w (suc w)
own_meets p e u w is = inl (omega arith, omega arith)

step_meets : (p : Bool) (step e u w : ℕ) → u < e → toward_on p step e u ≡ Some w → (w < e) × Meet p e u (suc u) w (suc w)
step_meets p zero e u w h is = let next = neighbours p false e u w h is in (low_below p e u w h next, side_by_side p false e u w next)
step_meets p (suc zero) e u w h is = let same : u ≡ w = cc in (omega arith, own_meets p e u w same)
step_meets p (suc (suc k)) e u w h is = let next = neighbours p true e u w h is in (next.1, side_by_side p true e u w next)

-- what meets u is one step from it
meets_step : (p : Bool) (e u w : ℕ) → u < e → w < e → Meet p e u (suc u) w (suc w) → (step : ℕ) × (step < 3) × (toward_on p step e u ≡ Some w)
meets_step p e u w hu hw (inl (l, r)) = elim (cases_lt w u) [
  | inl low ↦ let next : u ≡ suc w = omega arith in (0, omega arith, ap (below p e) next)
  | inr more ↦ elim (cases_lt u w) [
    | inl high ↦ let next : suc u ≡ w = omega arith in (2, omega arith, ap (above p e) next ∙ above_in p e w hw)
    | inr less ↦ let same : u ≡ w = omega arith in (1, omega arith, ap Some same)
  ]
]
meets_step p e u w hu hw (inr (t, inl far)) =
    let first : u ≡ 0 = omega arith in
    let last : e - 1 ≡ w = omega arith in
    (0, omega arith, ap₂ (λ b v. below b e v) t first ∙ ap Some last)
meets_step p e u w hu hw (inr (t, inr far)) =
    let first : 0 ≡ w = omega arith in
    let last : suc u ≡ e = omega arith in
    (2, omega arith, ap (λ b. above b e (suc u)) t ∙ at_far_end e (suc u) (omega arith) last ∙ ap Some first)

-- ---- blocks

module _ (s : Shape) (b : BlockAt) (inside : InDomain s b) (deep : b.level ≤ 10) where
  module _ (steps : Axis → ℕ) (e : BlockAt) (there : IsThere s steps b e) where
    one_step : (c : Axis) → (block_on c e < roots s c * 2 ^ b.level) × Meet (is_periodic s c) (roots s c * 2 ^ b.level) (block_on c b) (suc (block_on c b)) (block_on c e) (suc (block_on c e))
    one_step c = step_meets (is_periodic s c) (steps c) (roots s c * 2 ^ b.level) (block_on c b) (block_on c e) (inside_on s b inside c) (there.on c)

    -- it lies in the domain
    pub there_inside : InDomain s e
    there_inside =
        let l = there.level in
        let room = inside.level in
        record {
          level = omega arith;
          x = subst (λ k. e.x < s.rx * 2 ^ k) (sym l) (one_step X).0;
          y = subst (λ k. e.y < s.ry * 2 ^ k) (sym l) (one_step Y).0;
          z = subst (λ k. e.z < s.rz * 2 ^ k) (sym l) (one_step Z).0;
        }

    -- and touches the block
    pub there_touches : Touch s b e
    there_touches = record {
      on = λ c.
          subst (λ l. Meet (is_periodic s c) (roots s c * 2 ^ 10) (low_end b.level (block_on c b)) (high_end b.level (block_on c b)) (low_end l (block_on c e)) (high_end l (block_on c e))) (sym there.level)
          (ends_meet (is_periodic s c) (roots s c) b.level (block_on c b) (block_on c e) deep (one_step c).1);
    }

  -- a block of the level that touches it lies in one of the directions
  pub touches_there : (e : BlockAt) → InDomain s e → e.level ≡ b.level → Touch s b e → (d : ℕ) × (d < 27) × (block_toward s (direction_of d) b ≡ Some e)
  touches_there e within level touch =
      let step : (c : Axis) → (step : ℕ) × (step < 3) × (along s c step b ≡ Some (block_on c e)) = λ c.
      meets_step (is_periodic s c) (roots s c * 2 ^ b.level) (block_on c b) (block_on c e) (inside_on s b inside c)
      (subst (λ l. block_on c e < roots s c * 2 ^ l) level (inside_on s e within c))
      (ends_apart (is_periodic s c) (roots s c) b.level (block_on c b) (block_on c e) deep
      (subst (λ l. Meet (is_periodic s c) (roots s c * 2 ^ 10) (low_end b.level (block_on c b)) (high_end b.level (block_on c b)) (low_end l (block_on c e)) (high_end l (block_on c e))) level (touch.on c))) in
      let d = (step X).0 + 3 * (step Y).0 + 9 * (step Z).0 in
      let few_x = (step X).1 in
      let few_y = (step Y).1 in
      let few_z = (step Z).1 in
      let x : (step X).0 ≡ d % 3 = omega arith in
      let y : (step Y).0 ≡ d / 3 % 3 = omega arith in
      let z : (step Z).0 ≡ d / 9 % 3 = omega arith in (
        d,
        omega arith,
        there_shows s (direction_of d) b e (record {
          level = level;
          on = three _ (subst (λ k. along s X k b ≡ Some e.x) x (step X).2) (subst (λ k. along s Y k b ≡ Some e.y) y (step Y).2) (subst (λ k. along s Z k b ≡ Some e.z) z (step Z).2);
        }),
      )
