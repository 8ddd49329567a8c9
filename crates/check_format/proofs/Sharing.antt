-- Two blocks of a level have a face or an edge in common exactly where one lies in a direction from the other in which the place lies.
use Rattle.std.proofs.Common.{◌≡◌, ℕ, zero, suc, ◌+◌, ◌-◌, ◌*◌, ◌^◌, ◌<◌, ◌≤◌, ◌⊎◌, Bool, true, false, ◌==◌, Option, Some, None, refl, sym, ap, ap₂, subst, ◌∙◌, arith, inl, inr, eqb-true, eq-eqb, ne_eqb}
use Rattle.std.specs.Prelude.{if◌then◌else◌}
use Rattle.std.specs.Option.{unwrap_or}
use Rattle.std.proofs.lemmas.Bool.{cases_Bool, cases_lt, le-ltb}
use Rattle.amr_num.specs.declared.Axis.{Axis}
use Rattle.amr_num.specs.declared.Axis.TheVariants.{X, Y, Z}
use Rattle.amr_num.specs.declared.BlockAt.{BlockAt}
use Rattle.amr_num.specs.declared.CellAt.{CellAt}
use Rattle.block_tree.specs.Directions.{along, block_of_three, block_toward, toward_on}
use Rattle.block_tree.specs.declared.directions.Direction.{Direction}
use Rattle.block_tree.proofs.SideAxes.{inside_stays, neighbours}
use Rattle.mesh_model.specs.declared.geometry.Shape.{Shape}
use Rattle.mesh_model.specs.Geometry.Blocks.{InDomain}
use Rattle.mesh_model.specs.Geometry.Coordinates.{above, below, is_periodic, wrapped}
use Rattle.mesh_model.proofs.FieldLemmas.Beside.{Follows, above_in}
use Rattle.mesh_model.proofs.GeometryLemmas.Halves.{by_size}
use Rattle.check_format.specs.Own.{Place, part_at, places_along, step_at}

-- ---- on one axis of e blocks of n cells

-- the canonical number of a place
abbrev pub name_on : Bool → Bool → ℕ → ℕ → ℕ
name_on true periodic e q = wrapped periodic e q
name_on false periodic e q = q

-- the same place as it is counted in the block one step further
abbrev pub place_toward : ℕ → ℕ → ℕ → ℕ
place_toward n zero i = n
place_toward n (suc zero) i = i
place_toward n (suc (suc s)) i = 0

-- the steps at a place: none, or at one end of the block out of it
abbrev pub Choice : ℕ → ℕ → Type 0
Choice s t = (s ≡ 1) ⊎ (s ≡ t)

at_far_end : (e q : ℕ) → 0 < e → q ≡ e → above true e q ≡ Some 0
at_far_end e q some is = let far : e ≤ q = omega arith in ap (λ u. if u then Some q else Some 0) (le-ltb q e far)

at_end : (e q : ℕ) → q ≡ e → wrapped true e q ≡ 0
unfolding wrapped
at_end e q h = ap (λ u. if u then 0 else q) (eq-eqb q e h)

open_end : (e q : ℕ) → wrapped false e q ≡ q
unfolding wrapped
open_end e q = refl

-- equal names of positions: the positions are the same, or the two ends of a periodic axis
same_or_ends : (p : Bool) (e q r : ℕ) → q ≤ e → r ≤ e → wrapped p e q ≡ wrapped p e r → (q ≡ r) ⊎ ((p ≡ true) × (((q ≡ 0) × (r ≡ e)) ⊎ ((q ≡ e) × (r ≡ 0))))
same_or_ends false e q r hq hr h = inl (sym (open_end e q) ∙ h ∙ open_end e r)
same_or_ends true e q r hq hr h = elim (cases_lt q e) [
  | inl lq ↦ elim (cases_lt r e) [
    | inl lr ↦ inl (sym (inside_stays true e q lq) ∙ h ∙ inside_stays true e r lr)
    | inr mr ↦ (let last : r ≡ e = omega arith in inr (refl, inl (sym (inside_stays true e q lq) ∙ h ∙ at_end e r last, last)))
  ]
  | inr mq ↦
      let last : q ≡ e = omega arith in
      elim (cases_lt r e) [
        | inl lr ↦ inr (refl, inr (last, sym (inside_stays true e r lr) ∙ sym h ∙ at_end e q last))
        | inr mr ↦ inl (omega arith)
      ]
]

-- a place at the low end, at the high end, or with no step
pub steps_are : (n i s : ℕ) (stands : Bool) → Choice s (step_at n stands i) → (s ≡ 1) ⊎ ((stands ≡ true) × (((s ≡ 0) × (i ≡ 0)) ⊎ ((s ≡ 2) × (i ≡ n))))
steps_are n i s stands (inl one) = inl one
steps_are n i s false (inr is) = inl is
steps_are n i s true (inr is) = elim (cases_Bool (i == 0)) [
  | inl low ↦ inr (refl, inl (is ∙ ap (λ u. if u then 0 else (if i == n then 2 else 1)) low, eqb-true i 0 low))
  | inr some ↦ elim (cases_Bool (i == n)) [
    | inl high ↦ inr (refl, inr (is ∙ ap₂ (λ u v. if u then 0 else (if v then 2 else 1)) some high, eqb-true i n high))
    | inr between ↦ inl (is ∙ ap₂ (λ u v. if u then 0 else (if v then 2 else 1)) some between)
  ]
]

low_step : (n i : ℕ) → i ≡ 0 → step_at n true i ≡ 0
low_step n i is = ap (λ u. if u then 0 else (if i == n then 2 else 1)) (eq-eqb i 0 is)

high_step : (n i : ℕ) → 0 < n → i ≡ n → step_at n true i ≡ 2
high_step n i some is = ap₂ (λ u v. if u then 0 else (if v then 2 else 1)) (ne_eqb i 0 (λ none. absurd (omega arith))) (eq-eqb i n is)

-- a block at y shares the place i of the block at x as its place j: it lies a step at the place further
pub record Shared (periodic stands : Bool) (e n x i y j : ℕ) : Type 0 where
  pub step : ℕ
  pub choice : Choice step (step_at n stands i)
  pub toward : toward_on periodic step e x ≡ Some y
  pub lower : j < i → step ≡ 2

module _ (periodic : Bool) (e n x i y j : ℕ) (size : (n ≡ 4) ⊎ (n ≡ 8)) (hx : x < e) (hy : y < e) where
  some : 0 < n
  some = by_size (λ m. 0 < m) n size (omega arith) (omega arith)

  same_place : (stands : Bool) → x ≡ y → i ≡ j → Shared periodic stands e n x i y j
  same_place stands is it = record { step = 1; choice = inl refl; toward = ap Some is; lower = λ less. absurd (omega arith) }

  up : i ≡ n → j ≡ 0 → above periodic e (suc x) ≡ Some y → Shared periodic true e n x i y j
  up last first is = record { step = 2; choice = inr (sym (high_step n i some last)); toward = is; lower = λ less. refl }

  down : i ≡ 0 → j ≡ n → below periodic e x ≡ Some y → Shared periodic true e n x i y j
  down first last is = record { step = 0; choice = inr (sym (low_step n i first)); toward = is; lower = λ less. absurd (omega arith) }

  -- where the two places lie
  apart : i ≤ n → j ≤ n → n * x + i ≡ n * y + j → ((x ≡ y) × (i ≡ j)) ⊎ (((suc x ≡ y) × ((i ≡ n) × (j ≡ 0))) ⊎ ((suc y ≡ x) × ((i ≡ 0) × (j ≡ n))))
  apart = by_size (λ m. i ≤ m → j ≤ m → m * x + i ≡ m * y + j → ((x ≡ y) × (i ≡ j)) ⊎ (((suc x ≡ y) × ((i ≡ m) × (j ≡ 0))) ⊎ ((suc y ≡ x) × ((i ≡ 0) × (j ≡ m))))) n size
      (λ hi hj is. elim (cases_lt x y) [
        | inl less ↦ inr (inl (omega arith, (omega arith, omega arith)))
        | inr more ↦ elim (cases_lt y x) [
          | inl less ↦ inr (inr (omega arith, (omega arith, omega arith)))
          | inr less ↦ inl (omega arith, omega arith)
        ]
      ])
      (λ hi hj is. elim (cases_lt x y) [
        | inl less ↦ inr (inl (omega arith, (omega arith, omega arith)))
        | inr more ↦ elim (cases_lt y x) [
          | inl less ↦ inr (inr (omega arith, (omega arith, omega arith)))
          | inr less ↦ inl (omega arith, omega arith)
        ]
      ])

  at_start : (u k : ℕ) → n * u + k ≡ 0 → (u ≡ 0) × (k ≡ 0)
  at_start u k = by_size (λ m. m * u + k ≡ 0 → (u ≡ 0) × (k ≡ 0)) n size (λ h. (omega arith, omega arith)) (λ h. (omega arith, omega arith))

  at_last : (u k : ℕ) → u < e → k ≤ n → n * u + k ≡ e * n → (suc u ≡ e) × (k ≡ n)
  at_last u k = by_size (λ m. u < e → k ≤ m → m * u + k ≡ e * m → (suc u ≡ e) × (k ≡ m)) n size (λ hu hk h. (omega arith, omega arith)) (λ hu hk h. (omega arith, omega arith))

  in_row : (u k : ℕ) → u < e → k ≤ n → n * u + k ≤ e * n
  in_row u k = by_size (λ m. u < e → k ≤ m → m * u + k ≤ e * m) n size (λ hu hk. omega arith) (λ hu hk. omega arith)

  turn_up : periodic ≡ true → suc x ≡ e → y ≡ 0 → above periodic e (suc x) ≡ Some y
  turn_up per last first = ap (λ (u : Bool). above u e (suc x)) per ∙ at_far_end e (suc x) (omega arith) last ∙ ap Some (sym first)

  turn_down : periodic ≡ true → x ≡ 0 → suc y ≡ e → below periodic e x ≡ Some y
  turn_down per first last =
      let one : e - 1 ≡ y = omega arith in
      ap₂ (λ (u : Bool) v. below u e v) per first ∙ ap Some one

  positions_shared : i ≤ n → j ≤ n → wrapped periodic (e * n) (n * x + i) ≡ wrapped periodic (e * n) (n * y + j) → Shared periodic true e n x i y j
  positions_shared hi hj is = elim (same_or_ends periodic (e * n) (n * x + i) (n * y + j) (in_row x i hx hi) (in_row y j hy hj) is) [
    | inl same ↦ elim (apart hi hj same) [
      | inl it ↦ same_place true it.0 it.1
      | inr (inl next) ↦ up next.1.0 next.1.1 (ap (above periodic e) next.0 ∙ above_in periodic e y hy)
      | inr (inr next) ↦ down next.1.0 next.1.1 (ap (below periodic e) (sym next.0))
    ]
    | inr (per, inl ends) ↦ (
        let one = at_start x i ends.0 in
        let two = at_last y j hy hj ends.1 in
        down one.1 two.1 (turn_down per one.0 two.0))
    | inr (per, inr ends) ↦ (
        let one = at_last x i hx hi ends.0 in
        let two = at_start y j ends.1 in
        up one.1 two.1 (turn_up per one.0 two.0))
  ]

  cells_shared : i < n → j < n → n * x + i ≡ n * y + j → Shared periodic false e n x i y j
  cells_shared hi hj is =
      let lowest : i ≤ n = omega arith in
      let lower : j ≤ n = omega arith in
      elim (apart lowest lower is) [
        | inl it ↦ same_place false it.0 it.1
        | inr (inl next) ↦ (let last = next.1.0 in absurd (omega arith))
        | inr (inr next) ↦ (let last = next.1.1 in absurd (omega arith))
      ]

  -- places with equal names are shared
  pub shared_on : (stands : Bool) → i < places_along n stands → j < places_along n stands → name_on stands periodic (e * n) (n * x + i) ≡ name_on stands periodic (e * n) (n * y + j) → Shared periodic stands e n x i y j
  shared_on true hi hj is = positions_shared (omega arith) (omega arith) is
  shared_on false hi hj is = cells_shared hi hj is

-- and the block a step further has the place as one of its own
pub record Further (periodic stands : Bool) (e n s x i y : ℕ) : Type 0 where
  pub there : y < e
  pub few : place_toward n s i < places_along n stands
  pub name : name_on stands periodic (e * n) (n * y + place_toward n s i) ≡ name_on stands periodic (e * n) (n * x + i)

module _ (periodic : Bool) (e n x y : ℕ) (size : (n ≡ 4) ⊎ (n ≡ 8)) (hx : x < e) where
  far_end : (u : ℕ) → suc u ≡ e → n * u + n ≡ e * n
  far_end u = by_size (λ m. suc u ≡ e → m * u + m ≡ e * m) n size (λ h. omega arith) (λ h. omega arith)

  wide : 0 < e * n
  wide = by_size (λ m. 0 < e * m) n size (omega arith) (omega arith)

  one_row : (u v : ℕ) → suc u ≡ v → n * u + n ≡ n * v + 0
  one_row u v = by_size (λ m. suc u ≡ v → m * u + m ≡ m * v + 0) n size (λ h. omega arith) (λ h. omega arith)

  no_row : (u : ℕ) → u ≡ 0 → n * u + 0 ≡ 0
  no_row u = by_size (λ m. u ≡ 0 → m * u + 0 ≡ 0) n size (λ h. omega arith) (λ h. omega arith)

  -- the two ends of a periodic axis have one name
  ends_meet : (u v : ℕ) → suc u ≡ e → v ≡ 0 → periodic ≡ true → wrapped periodic (e * n) (n * u + n) ≡ wrapped periodic (e * n) (n * v + 0)
  ends_meet u v last first per =
      ap (λ (w : Bool). wrapped w (e * n) (n * u + n)) per ∙ at_end (e * n) (n * u + n) (far_end u last)
      ∙ sym (ap (wrapped periodic (e * n)) (no_row v first) ∙ inside_stays periodic (e * n) 0 wide)

  rows_meet : (u v : ℕ) → Follows periodic e u v → wrapped periodic (e * n) (n * u + n) ≡ wrapped periodic (e * n) (n * v + 0)
  rows_meet u v (inl next) = ap (wrapped periodic (e * n)) (one_row u v next)
  rows_meet u v (inr (per, first, last)) = ends_meet u v last first per

  follower_inside : (u v : ℕ) → Follows periodic e u v → v < e → u < e
  follower_inside u v (inl next) h = omega arith
  follower_inside u v (inr (per, first, last)) h = omega arith

  go_down : below periodic e x ≡ Some y → Further periodic true e n 0 x 0 y
  go_down is = let next = neighbours periodic false e x y hx is in record { there = follower_inside y x next hx; few = omega arith; name = rows_meet y x next }

  go_up : above periodic e (suc x) ≡ Some y → Further periodic true e n 2 x n y
  go_up is = let next = neighbours periodic true e x y hx is in record { there = next.1; few = omega arith; name = sym (rows_meet x y next.0) }

  stay : (stands : Bool) (i : ℕ) → i < places_along n stands → Some x ≡ Some y → Further periodic stands e n 1 x i y
  stay stands i few is =
      let same : x ≡ y = ap (λ o. unwrap_or o x) is in
      subst (λ u. Further periodic stands e n 1 x i u) same (record { there = hx; few = few; name = refl })

  pub further_on : (stands : Bool) (s i : ℕ) → i < places_along n stands → Choice s (step_at n stands i) → toward_on periodic s e x ≡ Some y → Further periodic stands e n s x i y
  further_on stands s i few c is = elim (steps_are n i s stands c) [
    | inl one ↦ subst (λ u. Further periodic stands e n u x i y) (sym one) (stay stands i few (subst (λ u. toward_on periodic u e x ≡ Some y) one is))
    | inr (t, inl low) ↦
        subst (λ (v : Bool). Further periodic v e n s x i y) (sym t)
        (subst (λ u. Further periodic true e n u x i y) (sym low.0)
        (subst (λ u. Further periodic true e n 0 x u y) (sym low.1) (go_down (subst (λ u. toward_on periodic u e x ≡ Some y) low.0 is))))
    | inr (t, inr high) ↦
        subst (λ (v : Bool). Further periodic v e n s x i y) (sym t)
        (subst (λ u. Further periodic true e n u x i y) (sym high.0)
        (subst (λ u. Further periodic true e n 2 x u y) (sym high.1) (go_up (subst (λ u. toward_on periodic u e x ≡ Some y) high.0 is))))
  ]

-- ---- on all axes

-- the three numbers by which the item at a place of a block is named that stands at positions on some axes
abbrev pub named : Shape → (Axis → Bool) → BlockAt → Place → CellAt
named s stands b p = record {
  level = b.level;
  x = name_on (stands X) (is_periodic s X) (s.rx * 2 ^ b.level * s.n) (s.n * b.x + p.x);
  y = name_on (stands Y) (is_periodic s Y) (s.ry * 2 ^ b.level * s.n) (s.n * b.y + p.y);
  z = name_on (stands Z) (is_periodic s Z) (s.rz * 2 ^ b.level * s.n) (s.n * b.z + p.z);
}

-- a place of a block
pub record IsPlace (n : ℕ) (stands : Axis → Bool) (p : Place) : Type 0 where
  pub x : p.x < places_along n (stands X)
  pub y : p.y < places_along n (stands Y)
  pub z : p.z < places_along n (stands Z)

-- the direction has steps of another one, and none
pub record Chosen (d t : Direction) : Type 0 where
  pub x : Choice d.x t.x
  pub y : Choice d.y t.y
  pub z : Choice d.z t.z

-- the block c has the place q of its own in common with the place p of b
pub record Common (s : Shape) (stands : Axis → Bool) (b : BlockAt) (p : Place) (c : BlockAt) (q : Place) : Type 0 where
  pub d : Direction
  pub chosen : Chosen d (part_at s.n stands p)
  pub toward : block_toward s d b ≡ Some c
  pub lower_x : q.x < p.x → d.x ≡ 2
  pub lower_y : q.y < p.y → d.y ≡ 2
  pub lower_z : q.z < p.z → d.z ≡ 2

three_there : (l : ℕ) (x y z : Option ℕ) (c : BlockAt) → block_of_three l x y z ≡ Some c → (c.level ≡ l) × (x ≡ Some c.x) × (y ≡ Some c.y) × (z ≡ Some c.z)
three_there l None y z c is = cc
three_there l (Some x) None z c is = cc
three_there l (Some x) (Some y) None c is = cc
three_there l (Some x) (Some y) (Some z) c is =
    let same = ap (λ o. unwrap_or o c) is in
    (sym (ap (λ (u : BlockAt). u.level) same), ap (λ (u : BlockAt). Some u.x) same, ap (λ (u : BlockAt). Some u.y) same, ap (λ (u : BlockAt). Some u.z) same)

pub toward_parts : (s : Shape) (d : Direction) (b c : BlockAt) → block_toward s d b ≡ Some c → (c.level ≡ b.level) × (along s X d.x b ≡ Some c.x) × (along s Y d.y b ≡ Some c.y) × (along s Z d.z b ≡ Some c.z)
unfolding block_toward
toward_parts s d b c is = three_there b.level _ _ _ c is

pub toward_is : (s : Shape) (d : Direction) (b c : BlockAt) → c.level ≡ b.level → along s X d.x b ≡ Some c.x → along s Y d.y b ≡ Some c.y → along s Z d.z b ≡ Some c.z → block_toward s d b ≡ Some c
unfolding block_toward
toward_is s d b c level x y z =
    (λ i. block_of_three b.level (x i) (y i) (z i)) ∙ (λ i. Some (record { level = sym level i; x = c.x; y = c.y; z = c.z }))

module _ (s : Shape) (size : (s.n ≡ 4) ⊎ (s.n ≡ 8)) (stands : Axis → Bool) (b c : BlockAt) (in_b : InDomain s b) (p q : Place) where
  -- of places with one name the blocks lie in a direction from each other in which these lie
  pub common : InDomain s c → IsPlace s.n stands p → IsPlace s.n stands q → named s stands b p ≡ named s stands c q → Common s stands b p c q
  common in_c hp hq is =
      let level : c.level ≡ b.level = sym (ap (λ (u : CellAt). u.level) is) in
      let x = shared_on (is_periodic s X) (s.rx * 2 ^ b.level) s.n b.x p.x c.x q.x size in_b.x (subst (λ l. c.x < s.rx * 2 ^ l) level in_c.x) (stands X) hp.x hq.x
      (ap (λ (u : CellAt). u.x) is ∙ ap (λ l. name_on (stands X) (is_periodic s X) (s.rx * 2 ^ l * s.n) (s.n * c.x + q.x)) level) in
      let y = shared_on (is_periodic s Y) (s.ry * 2 ^ b.level) s.n b.y p.y c.y q.y size in_b.y (subst (λ l. c.y < s.ry * 2 ^ l) level in_c.y) (stands Y) hp.y hq.y
      (ap (λ (u : CellAt). u.y) is ∙ ap (λ l. name_on (stands Y) (is_periodic s Y) (s.ry * 2 ^ l * s.n) (s.n * c.y + q.y)) level) in
      let z = shared_on (is_periodic s Z) (s.rz * 2 ^ b.level) s.n b.z p.z c.z q.z size in_b.z (subst (λ l. c.z < s.rz * 2 ^ l) level in_c.z) (stands Z) hp.z hq.z
      (ap (λ (u : CellAt). u.z) is ∙ ap (λ l. name_on (stands Z) (is_periodic s Z) (s.rz * 2 ^ l * s.n) (s.n * c.z + q.z)) level) in
      let d : Direction = record { x = x.step; y = y.step; z = z.step } in
      record {
        d = d;
        chosen = record { x = x.choice; y = y.choice; z = z.choice };
        toward = toward_is s d b c level x.toward y.toward z.toward;
        lower_x = x.lower;
        lower_y = y.lower;
        lower_z = z.lower;
      }

-- the place as it is counted in the block in a direction
abbrev pub moved_place : ℕ → Direction → Place → Place
moved_place n d p = record { x = place_toward n d.x p.x; y = place_toward n d.y p.y; z = place_toward n d.z p.z }

-- the block in a direction in which a place lies has it too
pub record Has (s : Shape) (stands : Axis → Bool) (b : BlockAt) (p : Place) (c : BlockAt) (q : Place) : Type 0 where
  pub inside : InDomain s c
  pub place : IsPlace s.n stands q
  pub name : named s stands c q ≡ named s stands b p

module _ (s : Shape) (size : (s.n ≡ 4) ⊎ (s.n ≡ 8)) (stands : Axis → Bool) (b c : BlockAt) (in_b : InDomain s b) (p : Place) (d : Direction) where
  pub has : IsPlace s.n stands p → Chosen d (part_at s.n stands p) → block_toward s d b ≡ Some c → Has s stands b p c (moved_place s.n d p)
  has hp chosen is =
      let parts = toward_parts s d b c is in
      let level : c.level ≡ b.level = parts.0 in
      let x = further_on (is_periodic s X) (s.rx * 2 ^ b.level) s.n b.x c.x size in_b.x (stands X) d.x p.x hp.x chosen.x parts.1 in
      let y = further_on (is_periodic s Y) (s.ry * 2 ^ b.level) s.n b.y c.y size in_b.y (stands Y) d.y p.y hp.y chosen.y parts.2 in
      let z = further_on (is_periodic s Z) (s.rz * 2 ^ b.level) s.n b.z c.z size in_b.z (stands Z) d.z p.z hp.z chosen.z parts.3 in
      let q = moved_place s.n d p in
      record {
        inside = record {
          level = subst (λ l. l ≤ s.max) (sym level) in_b.level;
          x = subst (λ l. c.x < s.rx * 2 ^ l) (sym level) x.there;
          y = subst (λ l. c.y < s.ry * 2 ^ l) (sym level) y.there;
          z = subst (λ l. c.z < s.rz * 2 ^ l) (sym level) z.there;
        };
        place = record { x = x.few; y = y.few; z = z.few };
        name = (λ i. record {
          level = level i;
          x = name_on (stands X) (is_periodic s X) (s.rx * 2 ^ level i * s.n) (s.n * c.x + q.x);
          y = name_on (stands Y) (is_periodic s Y) (s.ry * 2 ^ level i * s.n) (s.n * c.y + q.y);
          z = name_on (stands Z) (is_periodic s Z) (s.rz * 2 ^ level i * s.n) (s.n * c.z + q.z);
        }) ∙ (λ i. record { level = b.level; x = x.name i; y = y.name i; z = z.name i });
      }
