-- Places of leaves' arrays, and places that leaves have in common.
use Rattle.std.proofs.Common.{◌≡◌, ℕ, zero, suc, ◌+◌, ◌-◌, ◌*◌, ◌<◌, ◌≤◌, ◌⊎◌, Bool, true, false, not, ◌&&◌, ◌||◌, ◌==◌, refl, sym, ap, ap₂, subst, ◌∙◌, arith, inl, inr, eqb-true, eq-eqb}
use Rattle.std.proofs.lemmas.Bool.{cases_Bool, cases_lt}
use Rattle.amr_num.specs.declared.Axis.{Axis}
use Rattle.amr_num.specs.declared.Axis.TheVariants.{X, Y, Z}
use Rattle.block_tree.specs.declared.directions.Direction.{Direction}
use Rattle.block_tree.specs.Interior as interior
use Rattle.block_tree.specs.Interior.{array_on}
use Rattle.check_format.specs.Own.{Place, place, places_along, step_at}
use Rattle.check_format.specs.Written.{many}
use Rattle.check_format.proofs.Sharing.{steps_are}
use Rattle.mesh_model.specs.declared.fields.values.Group.{Group}
use Rattle.mesh_model.specs.declared.fields.values.Group.TheVariants.{Cell, Edge, Face}
use Rattle.mesh_model.specs.declared.fields.values.Var.{Var}
use Rattle.mesh_model.specs.declared.fields.values.Var.TheVariants as vars
use Rattle.mesh_model.specs.Fields.ArrayPlaces.{Extents, IsSize, extents_of}
use Rattle.mesh_model.specs.declared.geometry.Shape.{Shape}
use Rattle.mesh_model.specs.Fields.Ranks.{IsSized}
use Rattle.mesh_model.specs.Geometry.Limits.{IsShape}
use Rattle.mesh_model.specs.Geometry.Places.{longer_across, longer_on}
use Rattle.mesh_model.specs.Tree.Kinds.{Grid}
use Rattle.mesh_model.proofs.TreeLemmas.Tests.{and_left, and_right, both_false, either_true, not_true}
use Rattle.mesh_restore.specs.Filling.{IsPlaceOf, order_of, part_of, stands}
use Rattle.mesh_restore.specs.Sources.{IsChoice, goes_only_up, seen_at, seen_place}

-- ---- how many places there are

on_axis : (a c : Axis) (n : ℕ) → longer_on a c n ≡ places_along n (stands Face a c)
on_axis X X n = omega arith
on_axis X Y n = refl
on_axis X Z n = refl
on_axis Y X n = refl
on_axis Y Y n = omega arith
on_axis Y Z n = refl
on_axis Z X n = refl
on_axis Z Y n = refl
on_axis Z Z n = omega arith

across_axis : (a c : Axis) (n : ℕ) → longer_across a c n ≡ places_along n (stands Edge a c)
across_axis X X n = refl
across_axis X Y n = omega arith
across_axis X Z n = omega arith
across_axis Y X n = omega arith
across_axis Y Y n = refl
across_axis Y Z n = omega arith
across_axis Z X n = omega arith
across_axis Z Y n = omega arith
across_axis Z Z n = refl

-- one more where it stands at positions
pub many_is : (g : Grid) (group : Group) (a c : Axis) → many g group a c ≡ places_along g.shape.n (stands group a c)
many_is g (Cell v) a c = refl
many_is g Face a c = on_axis a c g.shape.n
many_is g Edge a c = across_axis a c g.shape.n

few_along : (n : ℕ) (s : Bool) → n ≤ 8 → places_along n s ≤ 9
few_along n true h = omega arith
few_along n false h = omega arith

pub cells_few : (g : Grid) → IsShape g.shape → (0 < g.shape.n) × (g.shape.n ≤ 8)
cells_few g shape = elim shape.cells [ inl four ↦ (omega (arith, four), omega (arith, four)) | inr eight ↦ (omega (arith, eight), omega (arith, eight)) ]

pub many_few : (g : Grid) → IsShape g.shape → (group : Group) (a c : Axis) → many g group a c ≤ 9
many_few g shape group a c = subst (λ m. m ≤ 9) (sym (many_is g group a c)) (few_along g.shape.n (stands group a c) (cells_few g shape).1)

-- ---- the order of places

module _ (g : Grid) (shape : IsShape g.shape) (group : Group) (a : Axis) where
  -- each coordinate is small
  pub small : (p : Place) → IsPlaceOf g group a p → (p.x < 9) × (p.y < 9) × (p.z < 9)
  small p h =
      let x = many_few g shape group a X in
      let y = many_few g shape group a Y in
      let z = many_few g shape group a Z in
      let hx = h.x in
      let hy = h.y in
      let hz = h.z in
      (omega (arith, x, hx), omega (arith, y, hy), omega (arith, z, hz))

  pub same_place : (p q : Place) → IsPlaceOf g group a p → IsPlaceOf g group a q → order_of p ≡ order_of q → p ≡ q
  same_place p q hp hq is =
      let sp = small p hp in
      let sq = small q hq in
      let px = sp.0 in
      let py = sp.1 in
      let qx = sq.0 in
      let qy = sq.1 in
      let z : p.z ≡ q.z = omega (arith, is, px, py, qx, qy) in
      let y : p.y ≡ q.y = omega (arith, is, px, qx, z) in
      let x : p.x ≡ q.x = omega (arith, is, y, z) in
      λ i. record { x = x i; y = y i; z = z i }

-- ---- a place as it is counted in another block

module _ (n i s : ℕ) (st : Bool) (some : 0 < n) (c : (s ≡ 1) ⊎ (s ≡ step_at n st i)) where
  seen_few : i < places_along n st → seen_at n s i < places_along n st
  seen_few h = elim (steps_are n i s st c) [
    | inl one ↦ subst (λ u. seen_at n u i < places_along n st) (sym one) h
    | inr (t, inl low) ↦ subst (λ u. seen_at n u i < places_along n st) (sym low.0) (subst (λ v. n < places_along n v) (sym t) (omega arith))
    | inr (t, inr high) ↦ subst (λ u. seen_at n u i < places_along n st) (sym high.0) (subst (λ v. 0 < places_along n v) (sym t) (omega arith))
  ]

  seen_low : (s == 0) ≡ false → (seen_at n s i ≤ i) × ((s == 2) ≡ true → seen_at n s i < i)
  seen_low up = elim (steps_are n i s st c) [
    | inl one ↦ (subst (λ u. seen_at n u i ≤ i) (sym one) (omega arith), λ two. let is = eqb-true s 2 two in absurd (omega (arith, is, one)))
    | inr (t, inl low) ↦ absurd (let zero_is = eq-eqb s 0 low.0 in cc)
    | inr (t, inr high) ↦ (
      subst (λ u. seen_at n u i ≤ i) (sym high.0) (omega arith),
      λ two. subst (λ u. seen_at n u i < i) (sym high.0) (let last = high.1 in omega (arith, last, some)),
    )
  ]

module _ (g : Grid) (shape : IsShape g.shape) (group : Group) (a : Axis) (p : Place) (d : Direction) (inside : IsPlaceOf g group a p) (c : IsChoice d (part_of g.shape.n group a p)) where
  abbrev n : ℕ
  n = g.shape.n

  some : 0 < g.shape.n
  some = (cells_few g shape).0

  -- it is a place of the array
  pub seen_there : IsPlaceOf g group a (seen_place g.shape.n d p)
  seen_there = record {
    x = subst (λ m. seen_at n d.x p.x < m) (sym (many_is g group a X)) (seen_few n p.x d.x (stands group a X) some c.x (subst (λ m. p.x < m) (many_is g group a X) inside.x));
    y = subst (λ m. seen_at n d.y p.y < m) (sym (many_is g group a Y)) (seen_few n p.y d.y (stands group a Y) some c.y (subst (λ m. p.y < m) (many_is g group a Y) inside.y));
    z = subst (λ m. seen_at n d.z p.z < m) (sym (many_is g group a Z)) (seen_few n p.z d.z (stands group a Z) some c.z (subst (λ m. p.z < m) (many_is g group a Z) inside.z));
  }

  -- and a lower one where steps are up alone
  pub seen_lower : goes_only_up d ≡ true → order_of (seen_place g.shape.n d p) < order_of p
  seen_lower up =
      let none = both_false (d.x == 0) ((d.y == 0) || (d.z == 0)) (not_true _ (and_right _ _ up)) in
      let others = both_false (d.y == 0) (d.z == 0) none.1 in
      let x = seen_low n p.x d.x (stands group a X) some c.x none.0 in
      let y = seen_low n p.y d.y (stands group a Y) some c.y others.0 in
      let z = seen_low n p.z d.z (stands group a Z) some c.z others.1 in
      let lx = x.0 in
      let ly = y.0 in
      let lz = z.0 in
      elim (either_true (d.x == 2) ((d.y == 2) || (d.z == 2)) (and_left _ _ up)) [
        | inl on_x ↦ (let less = x.1 on_x in omega (arith, less, ly, lz))
        | inr rest ↦ elim (either_true (d.y == 2) (d.z == 2) rest) [
          | inl on_y ↦ (let less = y.1 on_y in omega (arith, less, lx, lz))
          | inr on_z ↦ (let less = z.1 on_z in omega (arith, less, lx, ly))
        ]
      ]

-- ---- places in the array of a variable

side_small : (n g : ℕ) → IsSize n g → n + 2 * g ≤ 16
side_small n g size = elim size.cells [
  | inl four ↦ elim size.guards [ inl one ↦ omega (arith, four, one) | inr more ↦ elim more [ inl two ↦ omega (arith, four, two) | inr most ↦ omega (arith, four, most) ] ]
  | inr eight ↦ elim size.guards [ inl one ↦ omega (arith, eight, one) | inr more ↦ elim more [ inl two ↦ omega (arith, eight, two) | inr most ↦ omega (arith, eight, most) ] ]
]

abbrev pub AreSmall : Extents → Type 0
AreSmall e = (e.x ≤ 17) × (e.y ≤ 17) × (e.z ≤ 17)

on_small : (a c : Axis) (m : ℕ) → m ≤ 16 → longer_on a c m ≤ 17
on_small X X m h = omega arith
on_small X Y m h = omega arith
on_small X Z m h = omega arith
on_small Y X m h = omega arith
on_small Y Y m h = omega arith
on_small Y Z m h = omega arith
on_small Z X m h = omega arith
on_small Z Y m h = omega arith
on_small Z Z m h = omega arith

across_small : (a c : Axis) (m : ℕ) → m ≤ 16 → longer_across a c m ≤ 17
across_small X X m h = omega arith
across_small X Y m h = omega arith
across_small X Z m h = omega arith
across_small Y X m h = omega arith
across_small Y Y m h = omega arith
across_small Y Z m h = omega arith
across_small Z X m h = omega arith
across_small Z Y m h = omega arith
across_small Z Z m h = omega arith

pub extents_small : (n g : ℕ) (var : Var) → IsSize n g → AreSmall (extents_of n g var)
extents_small n g (vars.Cell v) size = let h = side_small n g size in (omega arith, omega arith, omega arith)
extents_small n g (vars.Face a) size = let h = side_small n g size in (on_small a X (n + 2 * g) h, on_small a Y (n + 2 * g) h, on_small a Z (n + 2 * g) h)
extents_small n g (vars.Edge a) size = let h = side_small n g size in (across_small a X (n + 2 * g) h, across_small a Y (n + 2 * g) h, across_small a Z (n + 2 * g) h)
extents_small n g vars.CellWork size = let h = side_small n g size in (omega arith, omega arith, omega arith)
extents_small n g (vars.FaceWork a) size = let h = side_small n g size in (on_small a X (n + 2 * g) h, on_small a Y (n + 2 * g) h, on_small a Z (n + 2 * g) h)
extents_small n g (vars.EdgeWork a) size = let h = side_small n g size in (across_small a X (n + 2 * g) h, across_small a Y (n + 2 * g) h, across_small a Z (n + 2 * g) h)

on_room : (a c : Axis) (n g i : ℕ) → i < longer_on a c n → g + i < longer_on a c (n + 2 * g)
on_room X X n g i h = omega arith
on_room X Y n g i h = omega arith
on_room X Z n g i h = omega arith
on_room Y X n g i h = omega arith
on_room Y Y n g i h = omega arith
on_room Y Z n g i h = omega arith
on_room Z X n g i h = omega arith
on_room Z Y n g i h = omega arith
on_room Z Z n g i h = omega arith

across_room : (a c : Axis) (n g i : ℕ) → i < longer_across a c n → g + i < longer_across a c (n + 2 * g)
across_room X X n g i h = omega arith
across_room X Y n g i h = omega arith
across_room X Z n g i h = omega arith
across_room Y X n g i h = omega arith
across_room Y Y n g i h = omega arith
across_room Y Z n g i h = omega arith
across_room Z X n g i h = omega arith
across_room Z Y n g i h = omega arith
across_room Z Z n g i h = omega arith

-- an interior place stands within the array
pub place_within : (n g : ℕ) (var : Var) (i j k : ℕ) → i < interior.places_along n var X → j < interior.places_along n var Y → k < interior.places_along n var Z →
    let e = extents_of n g var in (g + i < e.x) × (g + j < e.y) × (g + k < e.z)
place_within n g (vars.Cell v) i j k x y z = (omega arith, omega arith, omega arith)
place_within n g (vars.Face a) i j k x y z = (on_room a X n g i x, on_room a Y n g j y, on_room a Z n g k z)
place_within n g (vars.Edge a) i j k x y z = (across_room a X n g i x, across_room a Y n g j y, across_room a Z n g k z)
place_within n g vars.CellWork i j k x y z = (omega arith, omega arith, omega arith)
place_within n g (vars.FaceWork a) i j k x y z = (on_room a X n g i x, on_room a Y n g j y, on_room a Z n g k z)
place_within n g (vars.EdgeWork a) i j k x y z = (across_room a X n g i x, across_room a Y n g j y, across_room a Z n g k z)

pub size_by : (n g : ℕ) (s : Shape) → IsShape s → IsSized n g s → IsSize n g
size_by n g s shape sized = record {
  cells = subst (λ m. (m ≡ 4) ⊎ (m ≡ 8)) sized.cells shape.cells;
  guards = subst (λ m. (m ≡ 1) ⊎ ((m ≡ 2) ⊎ (m ≡ 4))) sized.guards shape.guards;
}
