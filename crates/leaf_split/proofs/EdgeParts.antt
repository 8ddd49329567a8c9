-- Edges on a part of a block's boundary are edges of the blocks round it, and the copies of their numbers.
use Rattle.std.proofs.Common.{◌≡◌, ℕ, zero, suc, ◌+◌, ◌-◌, ◌*◌, ◌^◌, ◌<◌, ◌≤◌, ◌⊎◌, Bool, true, false, List, ℤ, Option, Some, None, refl, sym, ap, ap₂, subst, ◌∙◌, arith, inl, inr, eq-eqb, ne_eqb}
use Rattle.std.specs.Prelude.{if◌then◌else◌}
use Rattle.std.proofs.lemmas.Bool.{cases_lt}
use Rattle.amr_num.specs.declared.Axis.{Axis}
use Rattle.amr_num.specs.declared.Axis.TheVariants.{X, Y, Z}
use Rattle.amr_num.specs.declared.BlockAt.{BlockAt}
use Rattle.amr_num.specs.declared.EdgeAt.{EdgeAt}
use Rattle.mesh_model.specs.Geometry.Blocks.{InDomain}
use Rattle.mesh_model.specs.Geometry.Coordinates.{extent, is_periodic, wrapped}
use Rattle.mesh_model.specs.Geometry.Places.{longer_across}
use Rattle.mesh_model.specs.Tree.Kinds.{Grid}
use Rattle.mesh_model.specs.Fields.ArrayPlaces.{Box, Fits, HoldsEdges, IsInBox, IsSize, edge_extents}
use Rattle.mesh_model.specs.Fields.EdgeSplits.{end_step}
use Rattle.mesh_model.specs.Fields.FinePlaces.{edges_in}
use Rattle.mesh_model.specs.Fields.Views.{edge_view}
use Rattle.mesh_model.proofs.FieldLemmas.Beside.{three}
use Rattle.block_tree.specs.Directions.{IsRound, along, block_of_three, block_toward, direction_of, edge_name, lies_round, toward_on}
use Rattle.block_tree.specs.Numbered.{block_at}
use Rattle.block_tree.specs.declared.directions.Direction.{Direction}
use Rattle.block_tree.specs.declared.directions.Round.{Round}
use Rattle.mesh_model.specs.Fields.Ranks.{IsSized, WorldState}
use Rattle.rank_world.specs.Holding.{LeavesHoldEdges, edge_array}
use Rattle.block_tree.proofs.SideAxes.{neighbours}
use Rattle.prolong_op.proofs.Lines.{block_place, edge_lines, edges_of}
use Rattle.leaf_split.specs.EdgeKeeps.{AreSteps, IsKeptPart, IsPartCopied, IsToPart, KeptPartsHold, OtherEdgesStay, OtherPartsStay, PartHolds, count_on, first_on, part_box, part_of, part_there, step_on, there_on}
use Rattle.leaf_split.proofs.SideLeaves.{extent_is, seam_position}

-- ---- on one axis

-- a position is that of the low side, that of the high side, or between
pub end_kind : (n p : ℕ) → p ≤ n → ((p ≡ 0) × (end_step n p ≡ 0)) ⊎ (((p ≡ n) × (end_step n p ≡ 2)) ⊎ ((0 < p) × (p < n) × (end_step n p ≡ 1)))
end_kind n p h = elim (cases_lt 0 p) [
  | inr none ↦
      let first : p ≡ 0 = omega (arith, none) in
      inl (first, (let test = eq-eqb p 0 first in rw test refl))
  | inl more ↦
      let test = ne_eqb p 0 (λ is. absurd (omega (arith, more, is))) in
      elim (cases_lt p n) [
        | inl less ↦ (let last = ne_eqb p n (λ is. absurd (omega (arith, less, is))) in inr (inr (more, less, rw (test, last) refl)))
        | inr end ↦ (
            let is : p ≡ n = omega (arith, end, h) in
            let last = eq-eqb p n is in
            inr (inl (is, rw (test, last) refl)))
      ]
]

-- the place of a position among those of the part on which it lies, and the position in the block one step away
pub record Meets (n g : ℕ) (runs : Bool) (step toward : ℕ) (b d i : ℕ) (name : ℕ → ℕ) : Type 0 where
  pub v : ℕ
  pub q : ℕ
  pub few : v < count_on n runs step
  pub here : g + first_on n runs step + v ≡ g + i
  pub there : g + there_on n toward (first_on n runs step) + v ≡ g + q
  pub most : q < (if runs then n else n + 1)
  pub same : name (n * d + q) ≡ name (n * b + i)

some_is : (b d : ℕ) → Some b ≡ Some d → b ≡ d
some_is b d h = cc

module _ (p : Bool) (e n g b d : ℕ) (some : 0 < n) (inside : b < e) where
  -- on the axis along which edges lie
  runs_on : (t i : ℕ) → i < n → t ≡ 1 → toward_on p t e b ≡ Some d → Meets n g true 1 t b d i (λ x. x)
  runs_on t i h one is =
      let own = some_is b d (sym (ap (λ s. toward_on p s e b) one) ∙ is) in
      record {
        v = i;
        q = i;
        few = h;
        here = omega arith;
        there = ap (λ s. g + there_on n s 0 + i) one ∙ omega arith;
        most = h;
        same = ap (λ m. n * m + i) (sym own);
      }

  -- in the block itself
  stays_on : (s f t i : ℕ) → first_on n false s ≡ f → f ≤ i → i ≤ n → i - f < count_on n false s → t ≡ 1 → toward_on p t e b ≡ Some d → Meets n g false s t b d i (wrapped p (e * n))
  stays_on s f t i first least most few one is =
      let own = some_is b d (sym (ap (λ s. toward_on p s e b) one) ∙ is) in
      record {
        v = i - f;
        q = i;
        few = few;
        here = ap (λ m. g + m + (i - f)) first ∙ omega arith;
        there = ap₂ (λ s m. g + there_on n s m + (i - f)) one first ∙ omega arith;
        most = omega arith;
        same = ap (λ m. wrapped p (e * n) (n * m + i)) (sym own);
      }

  -- across it
  across_on : (t i : ℕ) → i ≤ n → (t ≡ end_step n i) ⊎ (t ≡ 1) → toward_on p t e b ≡ Some d → Meets n g false (end_step n i) t b d i (wrapped p (e * n))
  across_on t i h to is = elim (end_kind n i h) [
    | inl low ↦ elim to [
      | inl step ↦ (
          let down : t ≡ 0 = step ∙ low.1 in
          record {
            v = 0;
            q = n;
            few = subst (λ s. 0 < count_on n false s) (sym low.1) (omega arith);
            here = ap (λ s. g + first_on n false s + 0) low.1 ∙ (let at = low.0 in omega arith);
            there = ap₂ (λ s m. g + there_on n s (first_on n false m) + 0) down low.1 ∙ omega arith;
            most = omega arith;
            same = seam_position p false e n b d some inside (neighbours p false e b d inside (sym (ap (λ s. toward_on p s e b) down) ∙ is)) ∙ ap (λ m. wrapped p (e * n) (n * b + m)) (sym low.0);
          })
      | inr one ↦ stays_on (end_step n i) 0 t i (ap (first_on n false) low.1) (omega arith) h (subst (λ s. i - 0 < count_on n false s) (sym low.1) (let at = low.0 in omega arith)) one is
    ]
    | inr (inl high) ↦ elim to [
      | inl step ↦ (
          let up : t ≡ 2 = step ∙ high.1 in
          record {
            v = 0;
            q = 0;
            few = subst (λ s. 0 < count_on n false s) (sym high.1) (omega arith);
            here = ap (λ s. g + first_on n false s + 0) high.1 ∙ (let at = high.0 in omega arith);
            there = ap₂ (λ s m. g + there_on n s (first_on n false m) + 0) up high.1 ∙ omega arith;
            most = omega arith;
            same = seam_position p true e n b d some inside (neighbours p true e b d inside (sym (ap (λ s. toward_on p s e b) up) ∙ is)) ∙ ap (λ m. wrapped p (e * n) (n * b + m)) (sym high.0);
          })
      | inr one ↦ stays_on (end_step n i) n t i (ap (first_on n false) high.1) (let at = high.0 in omega arith) h (subst (λ s. i - n < count_on n false s) (sym high.1) (let at = high.0 in omega arith)) one is
    ]
    | inr (inr between) ↦
        let more = between.0 in
        let less = between.1 in
        let one : t ≡ 1 = elim to [ inl step ↦ step ∙ between.2 | inr one ↦ one ] in
        stays_on (end_step n i) 1 t i (ap (first_on n false) between.2) more h (subst (λ s. i - 1 < count_on n false s) (sym between.2) (omega arith)) one is
  ]

-- the places of a part, and as many in the block in a direction, stand within the arrays
fits_on : (n g : ℕ) (runs : Bool) (step : ℕ) → 1 ≤ n → 1 ≤ g → g + first_on n runs step + count_on n runs step ≤ (if runs then n + 2 * g else n + 2 * g + 1)
fits_on n g true zero cells guards = omega arith
fits_on n g false zero cells guards = omega arith
fits_on n g true (suc zero) cells guards = omega arith
fits_on n g false (suc zero) cells guards = omega arith
fits_on n g true (suc (suc s)) cells guards = omega arith
fits_on n g false (suc (suc s)) cells guards = omega arith

there_fits_on : (n g : ℕ) (runs : Bool) (step t : ℕ) → 1 ≤ n → 1 ≤ g → (t ≡ step) ⊎ (t ≡ 1) → g + there_on n t (first_on n runs step) + count_on n runs step ≤ (if runs then n + 2 * g else n + 2 * g + 1)
there_fits_on n g runs step t cells guards (inr one) =
    subst (λ u. g + there_on n u (first_on n runs step) + count_on n runs step ≤ (if runs then n + 2 * g else n + 2 * g + 1)) (sym one) (fits_on n g runs step cells guards)
there_fits_on n g runs step t cells guards (inl same) =
    subst (λ u. g + there_on n u (first_on n runs step) + count_on n runs step ≤ (if runs then n + 2 * g else n + 2 * g + 1)) (sym same) (own runs step)
  where
    own : (runs : Bool) (step : ℕ) → g + there_on n step (first_on n runs step) + count_on n runs step ≤ (if runs then n + 2 * g else n + 2 * g + 1)
    own true zero = omega arith
    own false zero = omega arith
    own true (suc zero) = omega arith
    own false (suc zero) = omega arith
    own true (suc (suc s)) = omega arith
    own false (suc (suc s)) = omega arith

module _ (n g : ℕ) (size : IsSize n g) where
  sizes_some : (1 ≤ n) × (1 ≤ g)
  sizes_some = (
    elim size.cells [ inl four ↦ omega (arith, four) | inr eight ↦ omega (arith, eight) ],
    elim size.guards [ inl one ↦ omega (arith, one) | inr (inl two) ↦ omega (arith, two) | inr (inr all) ↦ omega (arith, all) ],
  )

  pub part_fits : (a : Axis) (part : Direction) → Fits (edge_extents n g a) (part_box n g a part)
  part_fits a part =
      let s = sizes_some in
      three (λ a. Fits (edge_extents n g a) (part_box n g a part))
      (record { x = fits_on n g true part.x s.0 s.1; y = fits_on n g false part.y s.0 s.1; z = fits_on n g false part.z s.0 s.1 })
      (record { x = fits_on n g false part.x s.0 s.1; y = fits_on n g true part.y s.0 s.1; z = fits_on n g false part.z s.0 s.1 })
      (record { x = fits_on n g false part.x s.0 s.1; y = fits_on n g false part.y s.0 s.1; z = fits_on n g true part.z s.0 s.1 }) a

  abbrev box_there : Axis → Direction → Direction → Box
  box_there a part t = record (part_box n g a part) { x = (part_there n g a part t).x; y = (part_there n g a part t).y; z = (part_there n g a part t).z }

  pub there_fits : (a : Axis) (part t : Direction) → IsToPart part t → Fits (edge_extents n g a) (box_there a part t)
  there_fits a part t to =
      let s = sizes_some in
      three (λ a. Fits (edge_extents n g a) (box_there a part t))
      (record { x = there_fits_on n g true part.x t.x s.0 s.1 to.x; y = there_fits_on n g false part.y t.y s.0 s.1 to.y; z = there_fits_on n g false part.z t.z s.0 s.1 to.z })
      (record { x = there_fits_on n g false part.x t.x s.0 s.1 to.x; y = there_fits_on n g true part.y t.y s.0 s.1 to.y; z = there_fits_on n g false part.z t.z s.0 s.1 to.z })
      (record { x = there_fits_on n g false part.x t.x s.0 s.1 to.x; y = there_fits_on n g false part.y t.y s.0 s.1 to.y; z = there_fits_on n g true part.z t.z s.0 s.1 to.z }) a

-- where a position lies is on the part with the step there
in_step : (n j s : ℕ) → 0 < n → s < 3 → first_on n false s ≤ j → j < first_on n false s + count_on n false s → end_step n j ≡ s
in_step n j zero some few least less = let first : j ≡ 0 = omega arith in let test = eq-eqb j 0 first in rw test refl
in_step n j (suc zero) some few least less =
    let test = ne_eqb j 0 (λ is. absurd (omega (arith, least, is))) in
    let last = ne_eqb j n (λ is. absurd (omega (arith, less, is))) in
    rw (test, last) refl
in_step n j (suc (suc zero)) some few least less =
    let is : j ≡ n = omega arith in
    let test = ne_eqb j 0 (λ none. absurd (omega (arith, is, none, some))) in
    let last = eq-eqb j n is in
    rw (test, last) refl
in_step n j (suc (suc (suc s))) some few least less = absurd (omega arith)

-- ---- on all axes

at_places : (numbers : ℕ → ℕ → ℕ → ℤ) (x y z u v w : ℕ) → x ≡ u → y ≡ v → z ≡ w → numbers x y z ≡ numbers u v w
at_places numbers x y z u v w ex ey ez = ap (λ m. numbers m y z) ex ∙ ap₂ (numbers u) ey ez

-- the coordinates of a block in a direction
pub three_there : (l : ℕ) (x y z : Option ℕ) (d : BlockAt) → block_of_three l x y z ≡ Some d → (d.level ≡ l) × (x ≡ Some d.x) × (y ≡ Some d.y) × (z ≡ Some d.z)
three_there l None y z d is = cc
three_there l (Some x) None z d is = cc
three_there l (Some x) (Some y) None d is = cc
three_there l (Some x) (Some y) (Some z) d is =
    let same : (record { level = l; x = x; y = y; z = z }) ≡ d = cc in
    (sym (ap (λ (c : BlockAt). c.level) same), ap (λ (c : BlockAt). Some c.x) same, ap (λ (c : BlockAt). Some c.y) same, ap (λ (c : BlockAt). Some c.z) same)

step_to : (t d : ℕ) → (t ≡ d) ⊎ (t ≡ 1) → d ≡ 1 → t ≡ 1
step_to t d (inl is) one = is ∙ one
step_to t d (inr is) one = is

module _ (g : Grid) (b : BlockAt) (some : 0 < g.shape.n) (inside : InDomain g.shape b) (t : Direction) (dx dy dz : ℕ)
    (on_x : along g.shape X t.x b ≡ Some dx) (on_y : along g.shape Y t.y b ≡ Some dy) (on_z : along g.shape Z t.z b ≡ Some dz) (from old new : List ℤ) (field : EdgeAt → ℤ) where
  abbrev d : BlockAt
  d = record { level = b.level; x = dx; y = dy; z = dz }

  cross_x : (i : ℕ) → i < g.shape.n + 1 → (t.x ≡ end_step g.shape.n i) ⊎ (t.x ≡ 1) → Meets g.shape.n g.shape.g false (end_step g.shape.n i) t.x b.x dx i (wrapped (is_periodic g.shape X) (extent g.shape X b.level))
  cross_x i h to =
      subst (λ m. Meets g.shape.n g.shape.g false (end_step g.shape.n i) t.x b.x dx i (wrapped (is_periodic g.shape X) m)) (extent_is g.shape.rx g.shape.n b.level)
      (across_on (is_periodic g.shape X) (g.shape.rx * 2 ^ b.level) g.shape.n g.shape.g b.x dx some inside.x t.x i (omega (arith, h)) to on_x)

  cross_y : (i : ℕ) → i < g.shape.n + 1 → (t.y ≡ end_step g.shape.n i) ⊎ (t.y ≡ 1) → Meets g.shape.n g.shape.g false (end_step g.shape.n i) t.y b.y dy i (wrapped (is_periodic g.shape Y) (extent g.shape Y b.level))
  cross_y i h to =
      subst (λ m. Meets g.shape.n g.shape.g false (end_step g.shape.n i) t.y b.y dy i (wrapped (is_periodic g.shape Y) m)) (extent_is g.shape.ry g.shape.n b.level)
      (across_on (is_periodic g.shape Y) (g.shape.ry * 2 ^ b.level) g.shape.n g.shape.g b.y dy some inside.y t.y i (omega (arith, h)) to on_y)

  cross_z : (i : ℕ) → i < g.shape.n + 1 → (t.z ≡ end_step g.shape.n i) ⊎ (t.z ≡ 1) → Meets g.shape.n g.shape.g false (end_step g.shape.n i) t.z b.z dz i (wrapped (is_periodic g.shape Z) (extent g.shape Z b.level))
  cross_z i h to =
      subst (λ m. Meets g.shape.n g.shape.g false (end_step g.shape.n i) t.z b.z dz i (wrapped (is_periodic g.shape Z) m)) (extent_is g.shape.rz g.shape.n b.level)
      (across_on (is_periodic g.shape Z) (g.shape.rz * 2 ^ b.level) g.shape.n g.shape.g b.z dz some inside.z t.z i (omega (arith, h)) to on_z)

  -- the copy of an edge on the part holds its view
  pub copied_at : (a : Axis) (i j k : ℕ) → i < longer_across a X g.shape.n → j < longer_across a Y g.shape.n → k < longer_across a Z g.shape.n → IsToPart (part_of g.shape.n a i j k) t →
      IsPartCopied g.shape.n g.shape.g a (part_of g.shape.n a i j k) t from old new → HoldsEdges g field a (record { level = b.level; x = dx; y = dy; z = dz }) (edges_in g a from) →
      edges_in g a new (g.shape.g + i) (g.shape.g + j) (g.shape.g + k) ≡ edge_view g field (edge_name g.shape a b i j k)
  copied_at X i j k hi hj hk to is holds =
      let n = g.shape.n in
      let e = g.shape.g in
      let x = runs_on (is_periodic g.shape X) (g.shape.rx * 2 ^ b.level) n e b.x dx some inside.x t.x i hi (step_to t.x 1 to.x refl) on_x in
      let y = cross_y j hj to.y in
      let z = cross_z k hk to.z in
      at_places (edges_in g X new) (e + i) (e + j) (e + k) _ _ _ (sym x.here) (sym y.here) (sym z.here)
      ∙ is.written x.v y.v z.v x.few y.few z.few
      ∙ at_places (edges_in g X from) _ _ _ (e + x.q) (e + y.q) (e + z.q) x.there y.there z.there
      ∙ holds.at x.q y.q z.q x.most y.most z.most
      ∙ ap (edge_view g field) (λ u. record { axis = X; level = b.level; x = x.same u; y = y.same u; z = z.same u })
  copied_at Y i j k hi hj hk to is holds =
      let n = g.shape.n in
      let e = g.shape.g in
      let x = cross_x i hi to.x in
      let y = runs_on (is_periodic g.shape Y) (g.shape.ry * 2 ^ b.level) n e b.y dy some inside.y t.y j hj (step_to t.y 1 to.y refl) on_y in
      let z = cross_z k hk to.z in
      at_places (edges_in g Y new) (e + i) (e + j) (e + k) _ _ _ (sym x.here) (sym y.here) (sym z.here)
      ∙ is.written x.v y.v z.v x.few y.few z.few
      ∙ at_places (edges_in g Y from) _ _ _ (e + x.q) (e + y.q) (e + z.q) x.there y.there z.there
      ∙ holds.at x.q y.q z.q x.most y.most z.most
      ∙ ap (edge_view g field) (λ u. record { axis = Y; level = b.level; x = x.same u; y = y.same u; z = z.same u })
  copied_at Z i j k hi hj hk to is holds =
      let n = g.shape.n in
      let e = g.shape.g in
      let x = cross_x i hi to.x in
      let y = cross_y j hj to.y in
      let z = runs_on (is_periodic g.shape Z) (g.shape.rz * 2 ^ b.level) n e b.z dz some inside.z t.z k hk (step_to t.z 1 to.z refl) on_z in
      at_places (edges_in g Z new) (e + i) (e + j) (e + k) _ _ _ (sym x.here) (sym y.here) (sym z.here)
      ∙ is.written x.v y.v z.v x.few y.few z.few
      ∙ at_places (edges_in g Z from) _ _ _ (e + x.q) (e + y.q) (e + z.q) x.there y.there z.there
      ∙ holds.at x.q y.q z.q x.most y.most z.most
      ∙ ap (edge_view g field) (λ u. record { axis = Z; level = b.level; x = x.same u; y = y.same u; z = z.same u })

-- a part that is copied from the block in a direction holds the views there, where that does
pub copied_part : (g : Grid) (b d : BlockAt) → 0 < g.shape.n → InDomain g.shape b → (t part : Direction) → IsToPart part t → block_toward g.shape t b ≡ Some d → (a : Axis) (from old new : List ℤ) →
    IsPartCopied g.shape.n g.shape.g a part t from old new → (field : EdgeAt → ℤ) → HoldsEdges g field a d (edges_in g a from) → PartHolds g field a b part (edges_in g a new)
unfolding block_toward
copied_part g b d some inside t part to toward a from old new is field holds = record {
  at = λ i j k hi hj hk on.
      let there = three_there b.level (along g.shape X t.x b) (along g.shape Y t.y b) (along g.shape Z t.z b) d toward in
      let same : d ≡ (record { level = b.level; x = d.x; y = d.y; z = d.z }) = λ u. record { level = there.0 u; x = d.x; y = d.y; z = d.z } in
      copied_at g b some inside t d.x d.y d.z there.1 there.2 there.3 from old new field a i j k hi hj hk (subst (λ m. IsToPart m t) (sym on) to)
      (subst (λ m. IsPartCopied g.shape.n g.shape.g a m t from old new) (sym on) is)
      (subst (λ c. HoldsEdges g field a c (edges_in g a from)) same holds);
}

-- ---- edges off the part

own_step : (n : ℕ) (a : Axis) (i j k : ℕ) → step_on a (part_of n a i j k) ≡ 1
own_step n X i j k = refl
own_step n Y i j k = refl
own_step n Z i j k = refl

-- no edge along an axis lies on a part in a direction with a step there
pub none_along : (g : Grid) (field : EdgeAt → ℤ) (a : Axis) (b : BlockAt) (part : Direction) (numbers : ℕ → ℕ → ℕ → ℤ) → (step_on a part ≡ 1 → ⊥) → PartHolds g field a b part numbers
none_along g field a b part numbers off = record { at = λ i j k hi hj hk on. absurd (off (sym (ap (step_on a) on) ∙ own_step g.shape.n a i j k)) }

in_box : (n g : ℕ) (some : 0 < n) (part : Direction) → AreSteps part → (a : Axis) → step_on a part ≡ 1 → (i j k : ℕ) → IsInBox (part_box n g a part) (g + i) (g + j) (g + k) → part_of n a i j k ≡ part
in_box n g some part steps X one i j k in_ =
    let y = in_step n j part.y some steps.y (let h = in_.y.0 in omega arith) (let h = in_.y.1 in omega arith) in
    let z = in_step n k part.z some steps.z (let h = in_.z.0 in omega arith) (let h = in_.z.1 in omega arith) in
    λ u. record { x = sym one u; y = y u; z = z u }
in_box n g some part steps Y one i j k in_ =
    let x = in_step n i part.x some steps.x (let h = in_.x.0 in omega arith) (let h = in_.x.1 in omega arith) in
    let z = in_step n k part.z some steps.z (let h = in_.z.0 in omega arith) (let h = in_.z.1 in omega arith) in
    λ u. record { x = x u; y = sym one u; z = z u }
in_box n g some part steps Z one i j k in_ =
    let x = in_step n i part.x some steps.x (let h = in_.x.0 in omega arith) (let h = in_.x.1 in omega arith) in
    let y = in_step n j part.y some steps.y (let h = in_.y.0 in omega arith) (let h = in_.y.1 in omega arith) in
    λ u. record { x = x u; y = y u; z = sym one u }

pub off_part : (g : Grid) → IsSize g.shape.n g.shape.g → 0 < g.shape.n → (a : Axis) (part t : Direction) → AreSteps part → step_on a part ≡ 1 → (from old new : List ℤ) →
    IsPartCopied g.shape.n g.shape.g a part t from old new → OtherEdgesStay g a part old new
off_part g size some a part t steps one from old new is = record {
  at = λ i j k hi hj hk off.
      let n = g.shape.n in
      let e = g.shape.g in
      let l = block_place n e size (edge_extents n e a) (edges_of n a) (edge_lines n e a) i j k hi hj hk in
      is.stays (e + i) (e + j) (e + k) l.0 l.1 l.2 (λ in_. off (in_box n e some part steps a one i j k in_));
}

-- ---- in the sizes of a world's blocks

module _ (n e : ℕ) (w : WorldState) (size : IsSize n e) (sized : IsSized n e w.told.grid.shape) (a : Axis) (part t : Direction) (from old new : List ℤ) (is : IsPartCopied n e a part t from old new) where
  size_here : IsSize w.told.grid.shape.n w.told.grid.shape.g
  size_here = subst (λ m. IsSize m w.told.grid.shape.g) (sym sized.cells) (subst (λ m. IsSize n m) (sym sized.guards) size)

  some : 0 < w.told.grid.shape.n
  some = subst (λ m. 0 < m) (sym sized.cells) (let s = sizes_some n e size in omega (arith, s.0))

  here : IsPartCopied w.told.grid.shape.n w.told.grid.shape.g a part t from old new
  here = subst (λ m. IsPartCopied m w.told.grid.shape.g a part t from old new) (sym sized.cells) (subst (λ m. IsPartCopied n m a part t from old new) (sym sized.guards) is)

  -- what is copied from a leaf round the edges of a part holds the views that the leaf holds
  pub kept_views : (b : BlockAt) (r : Round) → InDomain w.told.grid.shape b → IsRound w.told.grid true b part r → r.toward ≡ t → from ≡ edge_array false w a r.node →
      (field : EdgeAt → ℤ) → LeavesHoldEdges false w field → PartHolds w.told.grid field a b part (edges_in w.told.grid a new)
  kept_views b r inside round toward same field holds =
      let g = w.told.grid in
      let to : IsToPart part r.toward = record { x = round.on_x; y = round.on_y; z = round.on_z } in
      copied_part g b (block_at g r.node) some inside t part (subst (IsToPart part) toward to) (subst (λ d. block_toward g.shape d b ≡ Some (block_at g r.node)) toward round.node.toward) a from old new here field
      (subst (λ ys. HoldsEdges g field a (block_at g r.node) (edges_in g a ys)) (sym same) (holds r.node (record { there = round.node.there; leaf = round.node.kind }) a))

  pub kept_others : AreSteps part → step_on a part ≡ 1 → OtherEdgesStay w.told.grid a part old new
  kept_others steps one = off_part w.told.grid size_here some a part t steps one from old new here

-- ---- one part after the other

-- directions are told by their numbers
same_number : (d e : ℕ) → d < 27 → e < 27 → direction_of d ≡ direction_of e → d ≡ e
same_number d e hd he is =
    let x = ap (λ (m : Direction). m.x) is in
    let y = ap (λ (m : Direction). m.y) is in
    let z = ap (λ (m : Direction). m.z) is in
    omega (arith, hd, he, x, y, z)

-- the parts before one are held while that is written
pub one_more_held : (w : WorldState) (b : BlockAt) (number : ℕ) (stands : Bool) (old new : Axis → List ℤ) → number < 27 → KeptPartsHold w b number old → IsKeptPart w b (direction_of number) stands new →
    OtherPartsStay w.told.grid (direction_of number) old new → KeptPartsHold w b (number + 1) new
one_more_held w b number stands old new few before part others = record {
  at = λ d h lies field holds a. elim (cases_lt d number) [
    | inl less ↦ record {
      at = λ i j k hi hj hk on.
          (others a).at i j k hi hj hk (λ same. let number_is = same_number d number (omega (arith, less, few)) few (sym on ∙ same) in omega (arith, less, number_is))
          ∙ (before.at d less lies field holds a).at i j k hi hj hk on;
    }
    | inr more ↦
        let last : d ≡ number = omega (arith, more, h) in
        subst (λ e. PartHolds w.told.grid field a b (direction_of e) (edges_in w.told.grid a (new a))) (sym last)
        (part.views (part.stands ∙ ap (λ e. lies_round w.told.grid true b (direction_of e)) (sym last) ∙ lies) field holds a)
  ];
}

pub all_held : (w : WorldState) (b : BlockAt) (number : ℕ) (xs : Axis → List ℤ) → number ≡ 27 → KeptPartsHold w b number xs → KeptPartsHold w b 27 xs
all_held w b number xs is held = subst (λ m. KeptPartsHold w b m xs) is held
