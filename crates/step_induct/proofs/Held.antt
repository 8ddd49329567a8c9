-- The circulations of a field round a block's faces, and those of them that are out of range.
use Rattle.std.proofs.Common.{◌≡◌, ℕ, suc, ◌+◌, ◌*◌, ◌^◌, ◌<◌, ◌≤◌, List, ℤ, ◌+ℤ◌, ◌-ℤ◌, Option, ap, ap₂, sym, ◌∙◌, arith, true, false, Bool}
use Rattle.std.specs.Prelude.{if◌then◌else◌, option_map, Some, None}
use Rattle.std.proofs.Math.Nat.{mul-le-mul_left}
use Rattle.amr_num.specs.declared.Axis.{Axis}
use Rattle.amr_num.specs.declared.Axis.TheVariants.{X, Y, Z}
use Rattle.amr_num.specs.declared.BlockAt.{BlockAt}
use Rattle.amr_num.specs.declared.EdgeAt.{EdgeAt}
use Rattle.mesh_model.specs.Fields.ArrayPlaces.{HoldsEdgeField, face_extents, number_at}
use Rattle.mesh_model.specs.Fields.Circulation.{circulation}
use Rattle.mesh_model.specs.Fields.FinePlaces.{edges_in}
use Rattle.mesh_model.specs.Geometry.Blocks.{InDomain}
use Rattle.mesh_model.specs.Geometry.Canonical.{canonical_on}
use Rattle.mesh_model.specs.Geometry.Coordinates.{extent, face_of, is_periodic, wrapped}
use Rattle.mesh_model.specs.Geometry.Places.{in_block, longer_on}
use Rattle.mesh_model.specs.Tree.Kinds.{Grid}
use Rattle.mesh_model.proofs.FieldLemmas.FirstFound.{places_same}
use Rattle.mesh_model.proofs.FieldLemmas.Sums.{wrapped_inside}
use Rattle.step_induct.specs.Circling.{CirculationsAreHeld, IsCirculated, circled, counted, edges_of, faces_of, first_above, told_above}
use Rattle.block_store.specs.Above.{counted_face_at, first_in_faces, is_counted_face}
use Rattle.block_store.specs.declared.above.Above.{Above}
use Rattle.block_store.specs.declared.above.CountedFaces.{CountedFaces}
use Rattle.mesh_model.specs.Fields.RangeWalk.{is_above}

-- ---- names

own_wrapped : (periodic : Bool) (e p : ℕ) → p < e → wrapped periodic e p ≡ p
unfolding wrapped
own_wrapped true e p h = wrapped_inside e p h
own_wrapped false e p h = λ t. p

extent_is : (r l n : ℕ) → r * n * 2 ^ l ≡ n * (r * 2 ^ l)
extent_is r l n = grind arith

-- a cell of a block on an axis is named by its coordinate
own_on : (periodic : Bool) (r n l b i : ℕ) → b < r * 2 ^ l → i < n → wrapped periodic (r * n * 2 ^ l) (n * b + i) ≡ n * b + i
own_on periodic r n l b i hb hi =
    let row : n * suc b ≤ n * (r * 2 ^ l) = mul-le-mul_left n hb in
    let next : n * suc b ≡ n * b + n = grind arith in
    let all = extent_is r l n in
    own_wrapped periodic (r * n * 2 ^ l) (n * b + i) (omega arith)

module _ (g : Grid) (field : EdgeAt → ℤ) (b : BlockAt) (inside : InDomain g.shape b) (arrays : Axis → List ℤ) (holds : (c : Axis) → HoldsEdgeField g field c b (edges_in g c (arrays c))) (i j k : ℕ) where
  abbrev e : Axis → ℕ → ℕ → ℕ → ℤ
  e = edges_of g.shape.n g.shape.g arrays

  -- the edge at three coordinates, and a position by its canonical name
  abbrev named : Axis → ℕ → ℕ → ℕ → EdgeAt
  named c x y z = record { axis = c; level = b.level; x = x; y = y; z = z }

  abbrev on_x : ℕ → ℕ
  on_x u = wrapped (is_periodic g.shape X) (extent g.shape X b.level) u

  abbrev on_y : ℕ → ℕ
  on_y u = wrapped (is_periodic g.shape Y) (extent g.shape Y b.level) u

  abbrev on_z : ℕ → ℕ
  on_z u = wrapped (is_periodic g.shape Z) (extent g.shape Z b.level) u

  abbrev at_x : ℕ
  at_x = g.shape.n * b.x + i

  abbrev at_y : ℕ
  at_y = g.shape.n * b.y + j

  abbrev at_z : ℕ
  at_z = g.shape.n * b.z + k

  own_x : i < g.shape.n → on_x at_x ≡ at_x
  own_x h = own_on (is_periodic g.shape X) g.shape.rx g.shape.n b.level b.x i inside.x h

  own_y : j < g.shape.n → on_y at_y ≡ at_y
  own_y h = own_on (is_periodic g.shape Y) g.shape.ry g.shape.n b.level b.y j inside.y h

  own_z : k < g.shape.n → on_z at_z ≡ at_z
  own_z h = own_on (is_periodic g.shape Z) g.shape.rz g.shape.n b.level b.z k inside.z h

  next_at : (m p : ℕ) → m + (p + 1) ≡ suc (m + p)
  next_at m p = omega arith

  abbrev n : ℕ
  n = g.shape.n

  -- the circulation round each face, with the edges by name
  on_faces_x : i < n + 1 → j < n → k < n → circled e X i j k ≡ circulation g field (face_of X (canonical_on g.shape X (in_block n b i j k)))
  unfolding circled
  on_faces_x hi hj hk =
      ap₂ (λ u v. u -ℤ v) (ap₂ (λ u v. u -ℤ v) (ap₂ (λ u v. u +ℤ v)
      ((holds Y).at i j k hi hj (omega arith) ∙ ap (λ z. field (named Y (on_x at_x) at_y z)) (own_z hk))
      (plain_z ∙ (holds Z).at i (j + 1) k hi (omega arith) hk ∙ ap (λ y. field (named Z (on_x at_x) (on_y y) at_z)) (next_at (n * b.y) j)))
      (plain_y ∙ (holds Y).at i j (k + 1) hi hj (omega arith) ∙ ap (λ z. field (named Y (on_x at_x) at_y (on_z z))) (next_at (n * b.z) k)))
      ((holds Z).at i j k hi (omega arith) hk ∙ ap (λ y. field (named Z (on_x at_x) y at_z)) (own_y hj))
    where
      plain_z : e Z (i + 0) (j + 1) (k + 0) ≡ e Z i (j + 1) k
      plain_z = let one : i + 0 ≡ i = omega arith in let two : k + 0 ≡ k = omega arith in ap₂ (λ u v. e Z u (j + 1) v) one two

      plain_y : e Y (i + 0) (j + 0) (k + 1) ≡ e Y i j (k + 1)
      plain_y = let one : i + 0 ≡ i = omega arith in let two : j + 0 ≡ j = omega arith in ap₂ (λ u v. e Y u v (k + 1)) one two

  on_faces_y : i < n → j < n + 1 → k < n → circled e Y i j k ≡ circulation g field (face_of Y (canonical_on g.shape Y (in_block n b i j k)))
  unfolding circled
  on_faces_y hi hj hk =
      ap₂ (λ u v. u -ℤ v) (ap₂ (λ u v. u -ℤ v) (ap₂ (λ u v. u +ℤ v)
      ((holds Z).at i j k (omega arith) hj hk ∙ ap (λ x. field (named Z x (on_y at_y) at_z)) (own_x hi))
      (plain_x ∙ (holds X).at i j (k + 1) hi hj (omega arith) ∙ ap (λ z. field (named X at_x (on_y at_y) (on_z z))) (next_at (n * b.z) k)))
      (plain_z ∙ (holds Z).at (i + 1) j k (omega arith) hj hk ∙ ap (λ x. field (named Z (on_x x) (on_y at_y) at_z)) (next_at (n * b.x) i)))
      ((holds X).at i j k hi hj (omega arith) ∙ ap (λ z. field (named X at_x (on_y at_y) z)) (own_z hk))
    where
      plain_x : e X (i + 0) (j + 0) (k + 1) ≡ e X i j (k + 1)
      plain_x = let one : i + 0 ≡ i = omega arith in let two : j + 0 ≡ j = omega arith in ap₂ (λ u v. e X u v (k + 1)) one two

      plain_z : e Z (i + 1) (j + 0) (k + 0) ≡ e Z (i + 1) j k
      plain_z = let one : j + 0 ≡ j = omega arith in let two : k + 0 ≡ k = omega arith in ap₂ (λ u v. e Z (i + 1) u v) one two

  on_faces_z : i < n → j < n → k < n + 1 → circled e Z i j k ≡ circulation g field (face_of Z (canonical_on g.shape Z (in_block n b i j k)))
  unfolding circled
  on_faces_z hi hj hk =
      ap₂ (λ u v. u -ℤ v) (ap₂ (λ u v. u -ℤ v) (ap₂ (λ u v. u +ℤ v)
      ((holds X).at i j k hi (omega arith) hk ∙ ap (λ y. field (named X at_x y (on_z at_z))) (own_y hj))
      (plain_y ∙ (holds Y).at (i + 1) j k (omega arith) hj hk ∙ ap (λ x. field (named Y (on_x x) at_y (on_z at_z))) (next_at (n * b.x) i)))
      (plain_x ∙ (holds X).at i (j + 1) k hi (omega arith) hk ∙ ap (λ y. field (named X at_x (on_y y) (on_z at_z))) (next_at (n * b.y) j)))
      ((holds Y).at i j k (omega arith) hj hk ∙ ap (λ x. field (named Y x at_y (on_z at_z))) (own_x hi))
    where
      plain_x : e X (i + 0) (j + 1) (k + 0) ≡ e X i (j + 1) k
      plain_x = let one : i + 0 ≡ i = omega arith in let two : k + 0 ≡ k = omega arith in ap₂ (λ u v. e X u (j + 1) v) one two

      plain_y : e Y (i + 1) (j + 0) (k + 0) ≡ e Y (i + 1) j k
      plain_y = let one : j + 0 ≡ j = omega arith in let two : k + 0 ≡ k = omega arith in ap₂ (λ u v. e Y (i + 1) u v) one two

  pub on_faces : (a : Axis) → i < longer_on a X n → j < longer_on a Y n → k < longer_on a Z n → circled e a i j k ≡ circulation g field (face_of a (canonical_on g.shape a (in_block n b i j k)))
  on_faces X = on_faces_x
  on_faces Y = on_faces_y
  on_faces Z = on_faces_z

pub circulations_held : CirculationsAreHeld
circulations_held g field a b arrays old new valid inside made holds = record {
  at = λ i j k hi hj hk. made.written i j k hi hj hk ∙ on_faces g field b inside arrays holds i j k a hi hj hk;
}

-- ---- out of range

-- what is told of numbers of faces is told of those that they are
pub found_same : (n : ℕ) (a : Axis) (sides : List Bool) (numbers wanted : ℕ → ℕ → ℕ → ℤ) → ((i j k : ℕ) → i < longer_on a X n → j < longer_on a Y n → k < longer_on a Z n → numbers i j k ≡ wanted i j k) →
    first_above n a sides numbers ≡ first_above n a sides wanted
found_same n a sides numbers wanted same =
    let f = counted a sides in
    let here : ℕ → ℕ → ℕ → ℤ → Option Above = λ i j k v. if is_counted_face n f i j k then (if is_above (2 ^ 40) v then Some (record { i = i; j = j; k = k; value = v }) else None) else None in
    ap (option_map (told_above a))
    (places_same (longer_on a X n) (longer_on a Y n) (longer_on a Z n) (counted_face_at n f numbers) (counted_face_at n f wanted)
    (λ i j k hi hj hk. ap (here i j k) (same i j k hi hj hk)))

-- what is found among the faces that count is told
pub found_told : (n g : ℕ) (a : Axis) (sides : List Bool) (faces : List ℤ) (found : Option Above) (of : CountedFaces) → of ≡ counted a sides →
    found ≡ first_in_faces (λ x y z. number_at (face_extents n g of.axis) faces (g + x) (g + y) (g + z)) n of →
    first_above n a sides (faces_of n g a faces) ≡ option_map (told_above a) found
found_told n g a sides faces found of is_of is =
    ap (option_map (told_above a))
    (sym (is ∙ ap (λ (c : CountedFaces). first_in_faces (λ x y z. number_at (face_extents n g c.axis) faces (g + x) (g + y) (g + z)) n c) is_of))

-- and of circulations by what the faces have that were set to them
pub found_circled : (n g : ℕ) (a : Axis) (sides : List Bool) (arrays : Axis → List ℤ) (old out : List ℤ) (found : Option Above) (of : CountedFaces) → of ≡ counted a sides → IsCirculated n g a arrays old out →
    found ≡ first_in_faces (λ x y z. number_at (face_extents n g of.axis) out (g + x) (g + y) (g + z)) n of →
    first_above n a sides (circled (edges_of n g arrays) a) ≡ option_map (told_above a) found
found_circled n g a sides arrays old out found of is_of made is =
    sym (found_same n a sides (faces_of n g a out) (circled (edges_of n g arrays) a) made.written) ∙ found_told n g a sides out found of is_of is
