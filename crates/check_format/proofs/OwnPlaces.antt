-- Each face and edge with a number stands under the first leaf that has it.
use Rattle.std.proofs.Common.{◌≡◌, ℕ, zero, suc, ◌+◌, ◌*◌, ◌^◌, ◌<◌, ◌≤◌, ◌⊎◌, Bool, true, false, ◌||◌, ◌==◌, refl, sym, ap, subst, ◌∙◌, arith, inl, inr, List, [], ◌∷◌, map, filter, Some, eqb-true, eq-eqb}
use Rattle.std.specs.Prelude.{flat_map, if◌then◌else◌}
use Rattle.std.specs.List.{range_with_len}
use Rattle.std.proofs.lemmas.Bool.{cases_Bool, cases_lt}
use Rattle.amr_num.specs.declared.Axis.{Axis}
use Rattle.amr_num.specs.declared.Axis.TheVariants.{X, Y, Z}
use Rattle.amr_num.specs.declared.BlockAt.{BlockAt}
use Rattle.amr_num.specs.declared.CellAt.{CellAt}
use Rattle.block_tree.specs.Directions as blocks
use Rattle.block_tree.specs.Directions.{along, block_toward, lies_toward, toward_on}
use Rattle.block_tree.specs.declared.directions.Direction.{Direction}
use Rattle.mesh_model.specs.Geometry.Blocks.{InDomain}
use Rattle.mesh_model.specs.Geometry.Coordinates.{axis_index, is_periodic}
use Rattle.mesh_model.specs.Geometry.Places.{box_list}
use Rattle.mesh_model.specs.Images.Keyed.{fresh}
use Rattle.mesh_model.specs.Tree.Kinds.{Grid, is_leaf_block, is_split_block}
use Rattle.mesh_model.specs.Tree.Order.{IsIn, Sorted, key}
use Rattle.mesh_model.specs.Tree.ValidGrid.{Valid}
use Rattle.mesh_model.proofs.FieldLemmas.Walking.{Member, axis_member, in_leaves, member_box, member_flat, member_map}
use Rattle.mesh_model.proofs.GeometryLemmas.ShapeLimits.{cells_most, cells_some}
use Rattle.mesh_model.proofs.TreeLemmas.Tests.{either_true, or_left, or_right}
use Rattle.mesh_model.proofs.TreeLemmas.Tiling.{leaf_says, leaf_shows}
use Rattle.check_format.specs.Own.{Place, axes, goes_up, is_own, part_at, place, places_along, places_of, step_at}
use Rattle.check_format.proofs.Cells.{member_in}
use Rattle.check_format.proofs.InOrder.{InOrder, firsts_are, map_flat, map_twice, order_box, order_flat, order_map, passed, passed_flat, passed_map}
use Rattle.check_format.proofs.Keys.{from_box, from_flat_map, from_map}
use Rattle.check_format.proofs.Sharing.{Choice, Chosen, Common, IsPlace, common, has, moved_place, named, place_toward, steps_are, toward_is, toward_parts}
use Rattle.check_format.proofs.Taking.{other_says, own_calm, own_says}

-- ---- the places of all leaves, in the order of the walk

-- a place of a leaf on an axis
pub record Spot : Type 0 where
  pub block : BlockAt
  pub axis : Axis
  pub place : Place

abbrev pub spot : BlockAt → Axis → Place → Spot
spot b a p = record { block = b; axis = a; place = p }

-- where it stands among those of its leaf
abbrev pub rank_in : Place → ℕ
rank_in p = p.x + (16 * p.y + 256 * p.z)

abbrev pub rank : Spot → ℕ
rank k = rank_in k.place + 4096 * axis_index k.axis

abbrev pub Before : Spot → Spot → Type 0
Before c k = (key c.block < key k.block) ⊎ ((c.block ≡ k.block) × (rank c < rank k))

one_way : (c k : Spot) → Before c k → Before k c → ⊥
one_way c k (inl h) (inl l) = omega arith
one_way c k (inl h) (inr l) = let same = ap key l.0 in omega arith
one_way c k (inr h) (inl l) = let same = ap key h.0 in omega arith
one_way c k (inr h) (inr l) = let one = h.1 in let two = l.1 in omega arith

abbrev Lower : Place → Place → Type 0
Lower p q = rank_in p < rank_in q

abbrev AxisLess : Axis → Axis → Type 0
AxisLess a c = axis_index a < axis_index c

abbrev Earlier : BlockAt → BlockAt → Type 0
Earlier b c = key b < key c

axes_in_order : InOrder AxisLess axes
axes_in_order = (
  (λ c i. elim i [ inl e ↦ (let is = ap axis_index e in omega arith) | inr j ↦ elim j [ inl e ↦ (let is = ap axis_index e in omega arith) | inr none ↦ absurd none ] ]),
  (
    (λ c i. elim i [ inl e ↦ (let is = ap axis_index e in omega arith) | inr none ↦ absurd none ]),
    ((λ c i. absurd i), tt),
  ),
)

leaves_in_order : (bs : List BlockAt) → Sorted bs → InOrder Earlier bs
leaves_in_order [] s = tt
leaves_in_order (b ∷ bs) s = (λ c i. s.0 c (member_in c bs i), leaves_in_order bs s.1)

few_along : (n : ℕ) (stands : Bool) → n ≤ 8 → places_along n stands ≤ 9
few_along n true h = omega arith
few_along n false h = omega arith

module _ (n : ℕ) (few : n ≤ 8) (stands : Axis → Bool) where
  is_place : (p : Place) → Member p (places_of n stands) → IsPlace n stands p
  is_place p i =
      let at = from_box (places_along n (stands X)) (places_along n (stands Y)) (places_along n (stands Z)) place p i in
      subst (λ u. IsPlace n stands u) at.6 (record { x = at.3; y = at.4; z = at.5 })

  place_member : (p : Place) → IsPlace n stands p → Member p (places_of n stands)
  place_member p h = member_box (places_along n (stands X)) (places_along n (stands Y)) (places_along n (stands Z)) p.x p.y p.z place h.x h.y h.z

  places_in_order : InOrder Lower (places_of n stands)
  places_in_order =
      let fx = few_along n (stands X) few in
      let fy = few_along n (stands Y) few in
      order_box Place Lower (places_along n (stands X)) (places_along n (stands Y)) (places_along n (stands Z)) place
      (λ i j k i' j' k' hi hj hi' hj' less. omega arith)
      (λ i j k i' j' hi hi' less. omega arith)
      (λ i j k i' less. omega arith)

  small : (p : Place) → IsPlace n stands p → rank_in p < 4096
  small p h =
      let fx = few_along n (stands X) few in
      let fy = few_along n (stands Y) few in
      let fz = few_along n (stands Z) few in
      let x = h.x in
      let y = h.y in
      let z = h.z in
      omega arith

-- ---- a leaf that lies beside itself, on axes of one root

-- the steps up alone
abbrev up_step : ℕ → ℕ
up_step s = if s == 2 then 2 else 1

-- with them alone the leaf lies beside itself too, and its places there are lower
record Up (periodic stands : Bool) (e n s u x i : ℕ) : Type 0 where
  choice : Choice u (step_at n stands i)
  toward : toward_on periodic u e x ≡ Some x
  most : place_toward n u i ≤ i
  less : s ≡ 2 → place_toward n u i < i

up_on : (periodic stands : Bool) (e n s x i : ℕ) → 0 < n → Choice s (step_at n stands i) → toward_on periodic s e x ≡ Some x → Up periodic stands e n s (up_step s) x i
up_on periodic stands e n s x i some c is = elim (cases_Bool (s == 2)) [
  | inl t ↦
      let two : s ≡ 2 = eqb-true s 2 t in
      subst (λ u. Up periodic stands e n s u x i) (sym (ap (λ v. if v then 2 else 1) t)) (record {
        choice = subst (λ u. Choice u (step_at n stands i)) two c;
        toward = subst (λ u. toward_on periodic u e x ≡ Some x) two is;
        most = omega arith;
        less = λ _. elim (steps_are n i s stands c) [
          | inl one ↦ absurd (omega arith)
          | inr (st, inl low) ↦ (let none = low.0 in absurd (omega arith))
          | inr (st, inr high) ↦ (let last = high.1 in omega arith)
        ];
      })
  | inr f ↦ subst (λ u. Up periodic stands e n s u x i) (sym (ap (λ v. if v then 2 else 1) f)) (record {
    choice = inl refl;
    toward = refl;
    most = omega arith;
    less = λ two. let t = eq-eqb s 2 two in absurd cc;
  })
]

-- ---- one law for faces and edges

-- items are made of an axis and three numbers, the names of places that are positions on some axes by the item's axis; and those that pass are
-- known by the blocks beside each leaf
module _ (A : Type 0) (same : A → A → Bool) (says : (a b : A) → same a b ≡ true → a ≡ b) (shows : (a : A) → same a a ≡ true) (make : Axis → CellAt → A)
    (parted : (a b : Axis) (c d : CellAt) → make a c ≡ make b d → (a ≡ b) × (c ≡ d)) (stands : Axis → Axis → Bool) (passes : A → Bool) (g : Grid) (valid : Valid g) (order : Sorted g.leaves) where
  abbrev n : ℕ
  n = g.shape.n

  name : Spot → A
  name k = make k.axis (named g.shape (stands k.axis) k.block k.place)

  part_of : Spot → Direction
  part_of k = part_at n (stands k.axis) k.place

  own : Spot → Bool
  own k = is_own g k.block (part_of k)

  -- a place of a leaf
  record IsSpot (k : Spot) : Type 0 where
    leaf : IsIn k.block g.leaves
    place : IsPlace n (stands k.axis) k.place

  -- those that pass are those at which no choice of directions has a split block
  pub record KnownByBlocks : Type 0 where
    pub calm : (b : BlockAt) (a : Axis) (p : Place) → IsIn b g.leaves → IsPlace g.shape.n (stands a) p → passes (make a (named g.shape (stands a) b p)) ≡ true → (d : Direction) → Chosen d (part_at g.shape.n (stands a) p) → lies_toward g false b d ≡ false
    pub pass : (b : BlockAt) (a : Axis) (p : Place) → IsIn b g.leaves → IsPlace g.shape.n (stands a) p → ((d : Direction) → Chosen d (part_at g.shape.n (stands a) p) → lies_toward g false b d ≡ false) → passes (make a (named g.shape (stands a) b p)) ≡ true

  on_axis : BlockAt → Axis → List Spot
  on_axis b a = map (spot b a) (places_of n (stands a))

  under : BlockAt → List Spot
  under b = flat_map (on_axis b) axes

  spots : List Spot
  spots = flat_map under g.leaves

  few : n ≤ 8
  few = cells_most valid.shape

  spot_is : (k : Spot) → Member k spots → IsSpot k
  unfolding spots under on_axis
  spot_is k i =
      let one = from_flat_map under k g.leaves i in
      let two = from_flat_map (on_axis one.0) k axes one.2 in
      let three = from_map (spot one.0 two.0) k (places_of n (stands two.0)) two.2 in
      subst (λ u. IsSpot u) three.2 (record { leaf = member_in one.0 g.leaves one.1; place = is_place n few (stands two.0) three.0 three.1 })

  spot_member : (k : Spot) → IsSpot k → Member k spots
  unfolding spots under on_axis
  spot_member k h =
      member_flat under k.block k g.leaves (in_leaves k.block g.leaves h.leaf)
      (member_flat (on_axis k.block) k.axis k axes (axis_member k.axis)
      (member_map (spot k.block k.axis) k.place (places_of n (stands k.axis)) (place_member n few (stands k.axis) k.place h.place)))

  on_axis_order : (b : BlockAt) (a : Axis) → InOrder Before (on_axis b a)
  unfolding on_axis
  on_axis_order b a = order_map Place Spot Lower Before (spot b a) (places_of n (stands a)) (places_in_order n few (stands a)) (λ p q i j less. inr (refl, omega arith))

  under_order : (b : BlockAt) → InOrder Before (under b)
  unfolding under on_axis
  under_order b = order_flat Axis Spot AxisLess Before (on_axis b) axes axes_in_order (λ a i. on_axis_order b a)
      (λ a c i j less x y ix iy.
      let p = from_map (spot b a) x (places_of n (stands a)) ix in
      let q = from_map (spot b c) y (places_of n (stands c)) iy in
      let low = small n few (stands a) p.0 (is_place n few (stands a) p.0 p.1) in
      subst (λ u. Before u y) p.2 (subst (λ u. Before (spot b a p.0) u) q.2 (inr (refl, omega arith))))

  spots_in_order : InOrder Before spots
  unfolding spots under on_axis
  spots_in_order = order_flat BlockAt Spot Earlier Before under g.leaves (leaves_in_order g.leaves order) (λ b i. under_order b)
      (λ b c i j less x y ix iy. inl (subst (λ u. key u < key y.block) (block_of_spot b x ix) (subst (λ u. key b < key u) (block_of_spot c y iy) less)))
    where
      block_of_spot : (b : BlockAt) (k : Spot) → Member k (under b) → b ≡ k.block
      block_of_spot b k i =
          let two = from_flat_map (on_axis b) k axes i in
          let three = from_map (spot b two.0) k (places_of n (stands two.0)) two.2 in
          ap (λ (u : Spot). u.block) three.2

  module _ (known : KnownByBlocks) where
    inside : (b : BlockAt) → IsIn b g.leaves → InDomain g.shape b
    inside b i = valid.tiles.inside b i

    passing : (k : Spot) → Member k spots → own k ≡ true → passes (name k) ≡ true
    unfolding name own part_of
    passing k i t =
        let is = spot_is k i in
        known.pass k.block k.axis k.place is.leaf is.place (λ d chosen. own_calm g valid k.block is.leaf (part_of k) t d chosen)

    -- an own place is the first with its name
    first_one : (k c : Spot) → Member k spots → Member c spots → own k ≡ true → Before c k → name c ≡ name k → ⊥
    unfolding name own part_of
    first_one k c i j t before is =
        let here = spot_is k i in
        let there = spot_is c j in
        let parts = parted c.axis k.axis _ _ is in
        let place = subst (λ a. IsPlace n (stands a) c.place) parts.0 there.place in
        let numbers = sym parts.1 ∙ ap (λ a. named g.shape (stands a) c.block c.place) parts.0 in
        let shared = common g.shape valid.shape.cells (stands k.axis) k.block c.block (inside k.block here.leaf) k.place c.place (inside c.block there.leaf) here.place place numbers in
        own_says g valid k.block here.leaf (part_of k) t shared.d c.block shared.chosen shared.toward (elim before [
          | inl earlier ↦ inr (inr (leaf_shows g c.block there.leaf, earlier))
          | inr lower ↦ inl (lower.0, up_somewhere shared (cases_lower k.place c.place (same_axis k c lower.1 (ap axis_index parts.0))))
        ])
      where
        same_axis : (k c : Spot) → rank c < rank k → axis_index c.axis ≡ axis_index k.axis → rank_in c.place < rank_in k.place
        same_axis k c less is = omega arith

        cases_lower : (p q : Place) → rank_in q < rank_in p → (q.x < p.x) ⊎ ((q.y < p.y) ⊎ (q.z < p.z))
        cases_lower p q less = elim (cases_lt q.x p.x) [
          | inl x ↦ inl x
          | inr x ↦ elim (cases_lt q.y p.y) [
            | inl y ↦ inr (inl y)
            | inr y ↦ inr (inr (omega arith))
          ]
        ]

        up_somewhere : {st : Axis → Bool} {b c : BlockAt} {p q : Place} (shared : Common g.shape st b p c q) → (q.x < p.x) ⊎ ((q.y < p.y) ⊎ (q.z < p.z)) → goes_up shared.d ≡ true
        up_somewhere shared (inl x) = or_left (shared.d.x == 2) _ (eq-eqb _ 2 (shared.lower_x x))
        up_somewhere shared (inr (inl y)) = or_right (shared.d.x == 2) _ (or_left (shared.d.y == 2) _ (eq-eqb _ 2 (shared.lower_y y)))
        up_somewhere shared (inr (inr z)) = or_right (shared.d.x == 2) _ (or_right (shared.d.y == 2) _ (eq-eqb _ 2 (shared.lower_z z)))

    -- before a place that is not own, but passes, comes another one with its name
    abbrev Earlier_one : Spot → Type 0
    Earlier_one k = (c : Spot) × Member c spots × Before c k × (name c ≡ name k)

    -- in another leaf
    in_leaf : (k : Spot) → IsSpot k → (d : Direction) (c : BlockAt) → Chosen d (part_of k) → block_toward g.shape d k.block ≡ Some c → is_leaf_block g c ≡ true → key c < key k.block → Earlier_one k
    unfolding name part_of
    in_leaf k is d c chosen toward leaf early =
        let p = moved_place n d k.place in
        let h = has g.shape valid.shape.cells (stands k.axis) k.block c (inside k.block is.leaf) k.place d is.place chosen toward in
        (spot c k.axis p, spot_member (spot c k.axis p) (record { leaf = leaf_says g c leaf; place = h.place }), inl early, ap (make k.axis) h.name)

    -- in the leaf itself
    in_self : (k : Spot) → IsSpot k → (d : Direction) → Chosen d (part_of k) → block_toward g.shape d k.block ≡ Some k.block → goes_up d ≡ true → Earlier_one k
    unfolding name part_of
    in_self k is d chosen toward up =
        let s = g.shape in
        let b = k.block in
        let p = k.place in
        let some = cells_some valid.shape in
        let parts = toward_parts s d b b toward in
        let x = up_on (is_periodic s X) (stands k.axis X) (s.rx * 2 ^ b.level) n d.x b.x p.x some chosen.x parts.1 in
        let y = up_on (is_periodic s Y) (stands k.axis Y) (s.ry * 2 ^ b.level) n d.y b.y p.y some chosen.y parts.2 in
        let z = up_on (is_periodic s Z) (stands k.axis Z) (s.rz * 2 ^ b.level) n d.z b.z p.z some chosen.z parts.3 in
        let ups : Direction = record { x = up_step d.x; y = up_step d.y; z = up_step d.z } in
        let q = moved_place n ups p in
        let h = has s valid.shape.cells (stands k.axis) b b (inside b is.leaf) p ups is.place (record { x = x.choice; y = y.choice; z = z.choice }) (toward_is s ups b b refl x.toward y.toward z.toward) in (
          spot b k.axis q,
          spot_member (spot b k.axis q) (record { leaf = is.leaf; place = h.place }),
          inr (
            refl,
            lower p q x.most y.most z.most (elim (either_true (d.x == 2) ((d.y == 2) || (d.z == 2)) up) [
              | inl on_x ↦ inl (x.less (eqb-true d.x 2 on_x))
              | inr rest ↦ inr (elim (either_true (d.y == 2) (d.z == 2) rest) [
                | inl on_y ↦ inl (y.less (eqb-true d.y 2 on_y))
                | inr on_z ↦ inr (z.less (eqb-true d.z 2 on_z))
              ])
            ]),
          ),
          ap (make k.axis) h.name,
        )
      where
        lower : (p q : Place) → q.x ≤ p.x → q.y ≤ p.y → q.z ≤ p.z → (q.x < p.x) ⊎ ((q.y < p.y) ⊎ (q.z < p.z)) → rank (spot k.block k.axis q) < rank (spot k.block k.axis p)
        lower p q x y z (inl less) = omega arith
        lower p q x y z (inr (inl less)) = omega arith
        lower p q x y z (inr (inr less)) = omega arith

    no_split : (d : Direction) (c b : BlockAt) → block_toward g.shape d b ≡ Some c → is_split_block g c ≡ true → lies_toward g false b d ≡ false → ⊥
    unfolding lies_toward
    no_split d c b toward split calm = let t = ap (blocks.passes (is_split_block g)) toward ∙ split in cc

    earlier : (k : Spot) → Member k spots → own k ≡ false → passes (name k) ≡ true → Earlier_one k
    unfolding name own part_of
    earlier k i f t =
        let is = spot_is k i in
        let from = other_says g valid k.block is.leaf (part_of k) f in
        elim from.4 [
          | inl self ↦ in_self k is from.0 from.2 (from.3 ∙ ap Some self.0) self.1
          | inr (inl split) ↦ (
              let calm = known.calm k.block k.axis k.place is.leaf is.place t from.0 from.2 in
              absurd (no_split from.0 from.1 k.block from.3 split calm))
          | inr (inr early) ↦ in_leaf k is from.0 from.1 from.2 from.3 early.0 early.1
        ]

    firsts : fresh same [] (filter passes (map name spots)) ≡ passed own name spots
    firsts = firsts_are A Spot same says shows passes name own Before one_way [] spots spots_in_order (record {
      leaves = passing;
      fresh = λ k i t. refl;
      first = first_one;
      others = λ k i f t. inr (earlier k i f t);
    })

    -- the law
    pub by_leaves : fresh same [] (filter passes (flat_map (λ b. flat_map (λ a. map (λ p. make a (named g.shape (stands a) b p)) (places_of g.shape.n (stands a))) axes) g.leaves))
        ≡ flat_map (λ b. flat_map (λ a. passed (λ p. is_own g b (part_at g.shape.n (stands a) p)) (λ p. make a (named g.shape (stands a) b p)) (places_of g.shape.n (stands a))) axes) g.leaves
    unfolding name own part_of spots under on_axis
    by_leaves =
        ap (λ ks. fresh same [] (filter passes ks)) (sym walked) ∙ firsts ∙ own_walked
      where
        walked : map name spots ≡ flat_map (λ b. flat_map (λ a. map (λ p. make a (named g.shape (stands a) b p)) (places_of n (stands a))) axes) g.leaves
        walked =
            map_flat name under g.leaves
            ∙ ap (λ f. flat_map f g.leaves) (λ t b. (map_flat name (on_axis b) axes ∙ ap (λ f. flat_map f axes) (λ u a. map_twice name (spot b a) (places_of n (stands a)) u)) t)

        own_walked : passed own name spots ≡ flat_map (λ b. flat_map (λ a. passed (λ p. is_own g b (part_at n (stands a) p)) (λ p. make a (named g.shape (stands a) b p)) (places_of n (stands a))) axes) g.leaves
        own_walked =
            passed_flat own name under g.leaves
            ∙ ap (λ f. flat_map f g.leaves) (λ t b. (passed_flat own name (on_axis b) axes ∙ ap (λ f. flat_map f axes) (λ u a. passed_map own name (spot b a) (places_of n (stands a)) u)) t)
