-- What a write of one array leaves of all others.
use Rattle.std.proofs.Common.{◌≡◌, ◌≢◌, ℕ, ◌+◌, ◌*◌, ◌<◌, List, [], ◌++◌, length, drop, get_or, set, ℤ, refl, sym, ap, subst, ◌∙◌, arith, inl, inr, mul-pos}
use Rattle.std.proofs.lemmas.Bool.{cases_lt, cases_order}
use Rattle.std.proofs.lemmas.List.{get_or-set_other, get_or-set_same, get_or_past, length-append, length-drop, length-take, set_past, take_at}
use Rattle.amr_num.specs.declared.Axis.{Axis}
use Rattle.amr_num.specs.declared.Axis.TheVariants.{X, Y, Z}
use Rattle.mesh_model.specs.declared.fields.values.Var.{Var}
use Rattle.mesh_model.specs.declared.fields.values.Var.TheVariants.{Cell, Face, Edge, CellWork, FaceWork, EdgeWork}
use Rattle.mesh_model.specs.Geometry.Coordinates.{axis_index}
use Rattle.mesh_model.specs.Fields.Arrays.{AreWhole, Arrays, HasArray, OnlyArray, array_in, array_number, block_in, refilled, var_length, with_array}
use Rattle.mesh_model.specs.Fields.ArrayPlaces.{IsSize, edge_extents, face_extents, side, size_of}

-- ---- numbers of variables

axis_once : (a d : Axis) → axis_index a ≡ axis_index d → a ≡ d
axis_once X X e = refl
axis_once X Y e = absurd (omega arith)
axis_once X Z e = absurd (omega arith)
axis_once Y X e = absurd (omega arith)
axis_once Y Y e = refl
axis_once Y Z e = absurd (omega arith)
axis_once Z X e = absurd (omega arith)
axis_once Z Y e = absurd (omega arith)
axis_once Z Z e = refl

axis_below : (a : Axis) → axis_index a < 3
axis_below X = omega arith
axis_below Y = omega arith
axis_below Z = omega arith

-- no two variables have one number
pub number_once : (u v : Var) → array_number u ≡ array_number v → u ≡ v
number_once (Cell u) (Cell v) e = ap Cell (omega arith)
number_once (Cell u) (Face b) e = absurd (let l = axis_below b in omega arith)
number_once (Cell u) (Edge b) e = absurd (let l = axis_below b in omega arith)
number_once (Cell u) CellWork e = absurd (omega arith)
number_once (Cell u) (FaceWork b) e = absurd (let l = axis_below b in omega arith)
number_once (Cell u) (EdgeWork b) e = absurd (let l = axis_below b in omega arith)
number_once (Face a) (Cell v) e = absurd (let l = axis_below a in omega arith)
number_once (Face a) (Face b) e = ap Face (axis_once a b (omega arith))
number_once (Face a) (Edge b) e = absurd (let l = axis_below a in omega arith)
number_once (Face a) CellWork e = absurd (omega arith)
number_once (Face a) (FaceWork b) e = absurd (let l = axis_below b in omega arith)
number_once (Face a) (EdgeWork b) e = absurd (let l = axis_below b in omega arith)
number_once (Edge a) (Cell v) e = absurd (let l = axis_below a in omega arith)
number_once (Edge a) (Face b) e = absurd (let l = axis_below b in omega arith)
number_once (Edge a) (Edge b) e = ap Edge (axis_once a b (omega arith))
number_once (Edge a) CellWork e = absurd (omega arith)
number_once (Edge a) (FaceWork b) e = absurd (let l = axis_below b in omega arith)
number_once (Edge a) (EdgeWork b) e = absurd (let l = axis_below b in omega arith)
number_once CellWork (Cell v) e = absurd (omega arith)
number_once CellWork (Face b) e = absurd (omega arith)
number_once CellWork (Edge b) e = absurd (omega arith)
number_once CellWork CellWork e = refl
number_once CellWork (FaceWork b) e = absurd (omega arith)
number_once CellWork (EdgeWork b) e = absurd (omega arith)
number_once (FaceWork a) (Cell v) e = absurd (let l = axis_below a in omega arith)
number_once (FaceWork a) (Face b) e = absurd (let l = axis_below a in omega arith)
number_once (FaceWork a) (Edge b) e = absurd (let l = axis_below a in omega arith)
number_once (FaceWork a) CellWork e = absurd (omega arith)
number_once (FaceWork a) (FaceWork b) e = ap FaceWork (axis_once a b (omega arith))
number_once (FaceWork a) (EdgeWork b) e = absurd (let l = axis_below a in omega arith)
number_once (EdgeWork a) (Cell v) e = absurd (let l = axis_below a in omega arith)
number_once (EdgeWork a) (Face b) e = absurd (let l = axis_below a in omega arith)
number_once (EdgeWork a) (Edge b) e = absurd (let l = axis_below a in omega arith)
number_once (EdgeWork a) CellWork e = absurd (omega arith)
number_once (EdgeWork a) (FaceWork b) e = absurd (let l = axis_below b in omega arith)
number_once (EdgeWork a) (EdgeWork b) e = ap EdgeWork (axis_once a b (omega arith))

-- ---- lengths

-- what is refilled keeps its length, and with as many numbers it is these
pub length_refilled : (old w : List ℤ) → length (refilled old w) ≡ length old
length_refilled old w = omega (arith, length-take (length old) (w ++ drop (length w) old), length-append w (drop (length w) old), length-drop (length w) old)

pub refilled_whole : (old w : List ℤ) → length w ≡ length old → refilled old w ≡ w
refilled_whole old w e = take_at w (drop (length w) old) (length old) e

-- an array has some numbers
product : (a b c : ℕ) → 0 < a → 0 < b → 0 < c → 0 < a * (b * c)
product a b c ha hb hc = mul-pos ha (mul-pos hb hc)

pub some_places : (n g : ℕ) (var : Var) → IsSize n g → 0 < var_length n g var
some_places n g var size = each var
  where
    some : 0 < n
    some = elim size.cells [ inl four ↦ omega arith | inr eight ↦ omega arith ]

    cells : 0 < side n g * (side n g * side n g)
    cells = product (side n g) (side n g) (side n g) (omega arith) (omega arith) (omega arith)

    faces : (a : Axis) → 0 < size_of (face_extents n g a)
    faces X = product (side n g + 1) (side n g) (side n g) (omega arith) (omega arith) (omega arith)
    faces Y = product (side n g) (side n g + 1) (side n g) (omega arith) (omega arith) (omega arith)
    faces Z = product (side n g) (side n g) (side n g + 1) (omega arith) (omega arith) (omega arith)

    edges : (a : Axis) → 0 < size_of (edge_extents n g a)
    edges X = product (side n g) (side n g + 1) (side n g + 1) (omega arith) (omega arith) (omega arith)
    edges Y = product (side n g + 1) (side n g) (side n g + 1) (omega arith) (omega arith) (omega arith)
    edges Z = product (side n g + 1) (side n g + 1) (side n g) (omega arith) (omega arith) (omega arith)

    each : (var : Var) → 0 < var_length n g var
    each (Cell v) = cells
    each (Face a) = faces a
    each (Edge a) = edges a
    each CellWork = cells
    each (FaceWork a) = faces a
    each (EdgeWork a) = edges a

-- an array with numbers in it stands at its place
pub there : (a : Arrays) (var : Var) (key : ℕ) → 0 < length (array_in a var key) → (key < length a.blocks) × (array_number var < length (block_in a.blocks key))
unfolding array_in
there a var key some = (
  elim (cases_lt key (length a.blocks)) [
    | inl within ↦ within
    | inr past ↦ absurd (
        let none = ap (λ b. length (get_or b (array_number var) [])) (get_or_past a.blocks key [] past) in
        omega arith)
  ],
  elim (cases_lt (array_number var) (length (block_in a.blocks key))) [
    | inl within ↦ within
    | inr past ↦ absurd (let none = ap length (get_or_past (block_in a.blocks key) (array_number var) [] past) in omega arith)
  ],
)

pub array_there : (n g : ℕ) (a : Arrays) (var : Var) (key : ℕ) → IsSize n g → AreWhole n g a → HasArray a var key → (key < length a.blocks) × (array_number var < length (block_in a.blocks key))
array_there n g a var key size whole has = there a var key (subst (λ m. 0 < m) (sym (whole.each var key has)) (some_places n g var size))

-- ---- one array is written

module _ (a : Arrays) (var : Var) (key : ℕ) (w : List ℤ) where
  -- what was written is there
  pub array_written : key < length a.blocks → array_number var < length (block_in a.blocks key) → array_in (with_array a var key w) var key ≡ refilled (array_in a var key) w
  unfolding array_in with_array
  array_written within number =
      let block = block_in a.blocks key in
      let new = refilled (get_or block (array_number var) []) w in
      ap (λ b. get_or b (array_number var) []) (get_or-set_same a.blocks key (set block (array_number var) new) [] within)
      ∙ get_or-set_same block (array_number var) new [] number

  -- other variables and other keys are as they were
  pub array_elsewhere : (u : Var) (at : ℕ) → (u ≡ var → at ≡ key → ⊥) → array_in (with_array a var key w) u at ≡ array_in a u at
  unfolding array_in with_array
  array_elsewhere u at ne =
      let block = block_in a.blocks key in
      let new = refilled (get_or block (array_number var) []) w in
      let after = set block (array_number var) new in
      let other : at ≢ key → get_or (get_or (set a.blocks key after) at []) (array_number u) [] ≡ get_or (get_or a.blocks at []) (array_number u) [] =
      (λ apart. ap (λ b. get_or b (array_number u) []) (get_or-set_other a.blocks key at after [] apart)) in
      elim (cases_order at key) [
        | inr (inl less) ↦ other (λ e. absurd (omega arith))
        | inr (inr more) ↦ other (λ e. absurd (omega arith))
        | inl same ↦ elim (cases_lt key (length a.blocks)) [
          | inr past ↦ ap (λ bs. get_or (get_or bs at []) (array_number u) []) (set_past a.blocks key after past)
          | inl within ↦
              let apart : array_number u ≢ array_number var = λ e. ne (number_once u var e) same in
              ap (λ i. get_or (get_or (set a.blocks key after) i []) (array_number u) []) same
              ∙ ap (λ b. get_or b (array_number u) []) (get_or-set_same a.blocks key after [] within)
              ∙ get_or-set_other block (array_number var) (array_number u) new [] apart
              ∙ ap (λ i. get_or (get_or a.blocks i []) (array_number u) []) (sym same)
        ]
      ]

  pub only_written : OnlyArray a (with_array a var key w) var key
  unfolding with_array
  only_written = record { counts = refl; held = refl; others = array_elsewhere }

  -- all arrays keep their lengths
  pub lengths_stay : key < length a.blocks → array_number var < length (block_in a.blocks key) → (u : Var) (at : ℕ) → length (array_in (with_array a var key w) u at) ≡ length (array_in a u at)
  lengths_stay within number u at = elim (cases_order at key) [
    | inr (inl less) ↦ ap length (array_elsewhere u at (λ e s. absurd (omega arith)))
    | inr (inr more) ↦ ap length (array_elsewhere u at (λ e s. absurd (omega arith)))
    | inl same ↦ elim (cases_order (array_number u) (array_number var)) [
      | inr (inl less) ↦ ap length (array_elsewhere u at (λ e s. absurd (let n = ap array_number e in omega arith)))
      | inr (inr more) ↦ ap length (array_elsewhere u at (λ e s. absurd (let n = ap array_number e in omega arith)))
      | inl number_is ↦
          let is : u ≡ var = number_once u var number_is in
          ap (λ v. length (array_in (with_array a var key w) v at)) is ∙ ap (λ i. length (array_in (with_array a var key w) var i)) same
          ∙ ap length (array_written within number) ∙ length_refilled (array_in a var key) w
          ∙ ap (λ i. length (array_in a var i)) (sym same) ∙ ap (λ v. length (array_in a v at)) (sym is)
    ]
  ]

-- what was written has as many numbers as the array
pub array_is : (n g : ℕ) (a : Arrays) (var : Var) (key : ℕ) (w : List ℤ) → IsSize n g → AreWhole n g a → HasArray a var key → length w ≡ var_length n g var → array_in (with_array a var key w) var key ≡ w
array_is n g a var key w size whole has e =
    let at = array_there n g a var key size whole has in
    array_written a var key w at.0 at.1 ∙ refilled_whole (array_in a var key) w (e ∙ sym (whole.each var key has))

pub whole_after : (n g : ℕ) (a : Arrays) (var : Var) (key : ℕ) (w : List ℤ) → IsSize n g → HasArray a var key → AreWhole n g a → AreWhole n g (with_array a var key w)
unfolding with_array
whole_after n g a var key w size has whole = record {
  each = λ u at is.
      let place = array_there n g a var key size whole has in
      lengths_stay a var key w place.0 place.1 u at ∙ whole.each u at (record { declared = is.declared; held = is.held });
}

-- one change of an array after another
pub only_again : (a b c : Arrays) (var : Var) (key : ℕ) → OnlyArray a b var key → OnlyArray b c var key → OnlyArray a c var key
only_again a b c var key ab bc = record {
  counts = bc.counts ∙ ab.counts;
  held = bc.held ∙ ab.held;
  others = λ u at ne. bc.others u at ne ∙ ab.others u at ne;
}

pub only_none : (a : Arrays) (var : Var) (key : ℕ) → OnlyArray a a var key
only_none a var key = record { counts = refl; held = refl; others = λ u at ne. refl }
