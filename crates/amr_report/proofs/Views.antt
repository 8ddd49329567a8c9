-- The texts of arrays by block values are the texts of the mesh that has these values.
use Rattle.std.proofs.Common.{◌≡◌, ℕ, zero, suc, ◌+◌, ◌*◌, ◌<◌, true, false, inl, inr, List, [], ◌∷◌, ◌++◌, length, map, ℤ, pos, ◌-ℤ◌, refl, sym, ap, ap₂, ◌∙◌, arith, append-nil}
use Rattle.std.proofs.lemmas.Bool.{cases_Bool}
use Rattle.std.proofs.lemmas.Int.{ints}
use Rattle.std.proofs.lemmas.List.FromFn.{map-range_with_len_more}
use Rattle.std.specs.List.{range_with_len}
use Rattle.std.specs.Prelude.{flat_map}
use Rattle.amr_num.specs.declared.Axis.{Axis}
use Rattle.amr_num.specs.declared.Axis.TheVariants.{X, Y, Z}
use Rattle.amr_num.specs.declared.BlockAt.{BlockAt}
use Rattle.block_tree.specs.Numbered.{IsNode, block_at}
use Rattle.mesh_model.specs.declared.fields.values.Group.{Group}
use Rattle.mesh_model.specs.declared.fields.values.Group.TheVariants.{Cell, Face, Edge}
use Rattle.mesh_model.specs.declared.fields.values.Var.{Var}
use Rattle.mesh_model.specs.Tree.Order.{nodes}
use Rattle.mesh_model.specs.Tree.Kinds.{Grid, is_leaf_block}
use Rattle.mesh_model.specs.Fields.Plain.{Mesh}
use Rattle.mesh_model.specs.Run.Texts.{array_text, cell_block_text, edge_block_text, face_block_text, group_name, guards_text, number_line, variable_text}
use Rattle.mesh_model.specs.Geometry.Places.{places}
use Rattle.mesh_model.specs.Tree.ValidGrid.{Valid}
use Rattle.amr_report.specs.Arrays.{array_on, at_place, group_text, head_line, interior_of, leaf_text_of, named_array, places_along, plane_text, planes_text, row_text, size_along, whole_of}
use Rattle.amr_report.specs.Nodes.{of_leaf}
use Rattle.amr_report.specs.Values.{HasGuardValues, HasViews, IsPlace, guard_value, interior_value}
use Rattle.amr_report.specs.declared.arrays.Shown.{Shown}
use Rattle.block_tree.proofs.ByNumber.{flat_next, leaves_by_number}

-- ---- texts by places that agree

map_same : (f g : ℕ → ℤ) (n : ℕ) → ((i : ℕ) → i < n → f i ≡ g i) → map f (range_with_len 0 n) ≡ map g (range_with_len 0 n)
map_same f g zero h = refl
map_same f g (suc n) h =
    let next : suc n ≡ n + 1 = omega arith in
    let more_f = map-range_with_len_more f 0 n n (omega arith) in
    let more_g = map-range_with_len_more g 0 n n (omega arith) in
    ap (λ m. map f (range_with_len 0 m)) next ∙ more_f ∙ ap₂ (λ (a : List ℤ) (b : ℤ). a ++ (b ∷ [])) (map_same f g n (λ i l. h i (omega arith))) (h n (omega arith)) ∙ sym more_g ∙ ap (λ m. map g (range_with_len 0 m)) (sym next)

flat_same : (f g : ℕ → List ℕ) (n : ℕ) → ((i : ℕ) → i < n → f i ≡ g i) → flat_map f (range_with_len 0 n) ≡ flat_map g (range_with_len 0 n)
flat_same f g zero h = refl
flat_same f g (suc n) h =
    let next : suc n ≡ n + 1 = omega arith in
    ap (λ m. flat_map f (range_with_len 0 m)) next ∙ flat_next f n ∙ ap₂ (λ (a b : List ℕ). a ++ b) (flat_same f g n (λ i l. h i (omega arith))) (h n (omega arith)) ∙ sym (flat_next g n) ∙ ap (λ m. flat_map g (range_with_len 0 m)) (sym next)

array_same : (nx ny nz : ℕ) (f g : ℕ → ℕ → ℕ → ℤ) → ((i j k : ℕ) → i < nx → j < ny → k < nz → f i j k ≡ g i j k) → array_text nx ny nz f ≡ array_text nx ny nz g
array_same nx ny nz f g h = flat_same _ _ nz (λ k hk. flat_same _ _ ny (λ j hj. ap number_line (map_same _ _ nx (λ i hi. h i j k hi hj hk))))

-- ---- one array

-- the numbers of an array of which so many places are printed
planes_are : (number : Var → ℕ → ℤ → ℤ → ℤ → ℤ) (s : Shown) (var : Var) (nx ny nz : ℕ) (f : ℕ → ℕ → ℕ → ℤ) → size_along s var X ≡ nx → size_along s var Y ≡ ny → size_along s var Z ≡ nz → ((i j k : ℕ) → i < nx → j < ny → k < nz → at_place number s var i j k ≡ f i j k) → planes_text number s var ≡ array_text nx ny nz f
unfolding planes_text plane_text row_text
planes_are number s var nx ny nz f hx hy hz same =
    ap (λ n. array_text n (size_along s var Y) (size_along s var Z) (at_place number s var)) hx
    ∙ (ap (λ n. array_text nx n (size_along s var Z) (at_place number s var)) hy
    ∙ (ap (λ n. array_text nx ny n (at_place number s var)) hz
    ∙ array_same nx ny nz (at_place number s var) f same))

no_margin : (i : ℕ) → pos i -ℤ pos 0 ≡ pos i
no_margin i = omega (arith, ints)

module _ (number : Var → ℕ → ℤ → ℤ → ℤ → ℤ) (m : Mesh) (group : Group) (node : ℕ) where
  -- the interior of an array of a leaf
  interior_array : HasViews number m group → IsNode m.grid node → is_leaf_block m.grid (block_at m.grid node) ≡ true → (a : Axis) → planes_text number (interior_of m.grid node) (array_on group a) ≡ array_text (places_along m.grid.shape.n (array_on group a) X) (places_along m.grid.shape.n (array_on group a) Y) (places_along m.grid.shape.n (array_on group a) Z) (interior_value m group a (block_at m.grid node))
  interior_array views there leaf a =
      let var = array_on group a in
      let n = m.grid.shape.n in
      planes_are number (interior_of m.grid node) var (places_along n var X) (places_along n var Y) (places_along n var Z) (interior_value m group a (block_at m.grid node)) (omega arith) (omega arith) (omega arith)
      (λ i j k hi hj hk.
      let place : IsPlace n 0 var i j k = record { x = omega (arith, hi); y = omega (arith, hj); z = omega (arith, hk) } in
      ap (λ x. number var node x (pos j -ℤ pos 0) (pos k -ℤ pos 0)) (no_margin i) ∙ (ap₂ (number var node (pos i)) (no_margin j) (no_margin k) ∙ views.each node there leaf a i j k place))

  -- an array with its guards
  whole_array : HasGuardValues number m group node → (a : Axis) → planes_text number (whole_of m.grid node) (array_on group a) ≡ array_text (places_along m.grid.shape.n (array_on group a) X + 2 * m.grid.shape.g) (places_along m.grid.shape.n (array_on group a) Y + 2 * m.grid.shape.g) (places_along m.grid.shape.n (array_on group a) Z + 2 * m.grid.shape.g) (guard_value m group a (block_at m.grid node))
  whole_array values a = planes_are number (whole_of m.grid node) (array_on group a) _ _ _ (guard_value m group a (block_at m.grid node)) refl refl refl (λ i j k hi hj hk. values.each a i j k (record { x = hi; y = hj; z = hk }))

-- ---- the arrays of a group

-- the text of a leaf's block
abbrev block_text : Mesh → Group → BlockAt → List ℕ
block_text m (Cell v) b = cell_block_text m v b
block_text m Face b = flat_map (face_block_text m b) (X ∷ Y ∷ Z ∷ [])
block_text m Edge b = flat_map (edge_block_text m b) (X ∷ Y ∷ Z ∷ [])

-- three arrays
three : (f g : Axis → List ℕ) → ((a : Axis) → f a ≡ g a) → flat_map f (X ∷ Y ∷ Z ∷ []) ≡ flat_map g (X ∷ Y ∷ Z ∷ [])
three f g h = ap₂ (λ (s t : List ℕ). s ++ t) (h X) (ap₂ (λ (s t : List ℕ). s ++ t) (h Y) (ap (λ s. s ++ []) (h Z)))

interior_is : (number : Var → ℕ → ℤ → ℤ → ℤ → ℤ) (m : Mesh) (group : Group) (node : ℕ) → HasViews number m group → IsNode m.grid node → is_leaf_block m.grid (block_at m.grid node) ≡ true → group_text number (group_name m.names group) (interior_of m.grid node) group ≡ block_text m group (block_at m.grid node)
unfolding group_text named_array head_line
interior_is number m (Cell v) node views there leaf = append-nil _ ∙ ap (λ t. head_line (group_name m.names (Cell v)) (interior_of m.grid node) (array_on (Cell v) X) ++ t) (interior_array number m (Cell v) node views there leaf X)
interior_is number m Face node views there leaf = three _ _ (λ a. ap (λ t. head_line (group_name m.names Face) (interior_of m.grid node) (array_on Face a) ++ t) (interior_array number m Face node views there leaf a))
interior_is number m Edge node views there leaf = three _ _ (λ a. ap (λ t. head_line (group_name m.names Edge) (interior_of m.grid node) (array_on Edge a) ++ t) (interior_array number m Edge node views there leaf a))

pub whole_is : (number : Var → ℕ → ℤ → ℤ → ℤ → ℤ) (m : Mesh) (group : Group) (node : ℕ) → HasGuardValues number m group node → group_text number (group_name m.names group) (whole_of m.grid node) group ≡ guards_text m group (block_at m.grid node)
unfolding group_text named_array head_line guards_text
whole_is number m (Cell v) node values = append-nil _ ∙ ap (λ t. head_line (group_name m.names (Cell v)) (whole_of m.grid node) (array_on (Cell v) X) ++ t) (whole_array number m (Cell v) node values X)
whole_is number m Face node values = three _ _ (λ a. ap (λ t. head_line (group_name m.names Face) (whole_of m.grid node) (array_on Face a) ++ t) (whole_array number m Face node values a))
whole_is number m Edge node values = three _ _ (λ a. ap (λ t. head_line (group_name m.names Edge) (whole_of m.grid node) (array_on Edge a) ++ t) (whole_array number m Edge node values a))

-- ---- all leaves

module _ (number : Var → ℕ → ℤ → ℤ → ℤ → ℤ) (name : List ℕ) (g : Grid) (group : Group) (node : ℕ) where
  pub leaf_shown : is_leaf_block g (block_at g node) ≡ true → leaf_text_of number name g group node ≡ group_text number name (interior_of g node) group
  unfolding leaf_text_of
  leaf_shown leaf = rw leaf refl

  pub other_shown : is_leaf_block g (block_at g node) ≡ false → leaf_text_of number name g group node ≡ []
  unfolding leaf_text_of
  other_shown other = rw other refl

blocks_are : (m : Mesh) (group : Group) → flat_map (block_text m group) m.grid.leaves ≡ variable_text m group
blocks_are m (Cell v) = refl
blocks_are m Face = refl
blocks_are m Edge = refl

pub leaves_are_shown : (number : Var → ℕ → ℤ → ℤ → ℤ → ℤ) (m : Mesh) (group : Group) → Valid m.grid → HasViews number m group → flat_map (leaf_text_of number (group_name m.names group) m.grid group) (places (length (nodes m.grid.leaves))) ≡ variable_text m group
unfolding leaf_text_of
leaves_are_shown number m group valid views =
    flat_same _ (of_leaf m.grid (block_text m group)) (length (nodes m.grid.leaves)) (λ node there. elim (cases_Bool (is_leaf_block m.grid (block_at m.grid node))) [
      | inl leaf ↦ rw leaf (interior_is number m group node views there leaf)
      | inr other ↦ rw other refl
    ])
    ∙ (leaves_by_number m.grid valid (block_text m group) ∙ blocks_are m group)
