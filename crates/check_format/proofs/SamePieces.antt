-- What stands for a mesh has its pieces.
use Rattle.std.proofs.Common.{◌≡◌, ℕ, ◌+◌, ◌-◌, ◌*◌, ◌<◌, ◌≤◌, Bool, true, false, ◌&&◌, if◌then◌else◌, nat_lt, inl, inr, List, [], length, map, Option, is_some, slice_index_or, ℤ, pos, refl, sym, ap, subst, ◌∙◌, arith, ltb-true, mul-pos}
use Rattle.std.specs.List.{range_with_len}
use Rattle.std.proofs.lemmas.Bool.{and_parts, cases_Bool}
use Rattle.amr_num.specs.declared.Axis.{Axis}
use Rattle.amr_num.specs.declared.Axis.TheVariants.{X, Y, Z}
use Rattle.block_tree.specs.Interior.{HasViews, array_on, interior_value}
use Rattle.block_tree.specs.Numbered.{block_at}
use Rattle.mesh_model.specs.declared.fields.values.Group.{Group}
use Rattle.mesh_model.specs.declared.fields.values.Group.TheVariants as group
use Rattle.mesh_model.specs.Images.Image.{content_bytes, out_bytes}
use Rattle.mesh_model.specs.Fields.Plain.{Mesh}
use Rattle.mesh_model.specs.Tree.Kinds.{Grid, is_leaf_block}
use Rattle.mesh_model.specs.Tree.Order.{nodes}
use Rattle.check_format.specs.Numbered.{Pieces, no_piece, one_piece, ◌then◌}
use Rattle.check_format.specs.Own.{place}
use Rattle.check_format.specs.Written.{Handed, Numbers, axis_count, cell_pieces, group_pieces, head_pieces, if_declared, image_pieces, is_own_place, leaf_pieces, many, node_count, node_piece, number_of, number_pieces, of_mesh, part_length, place_bytes, row_part, row_piece, variable_count, variable_pieces}
use Rattle.check_format.specs.Writing.{SamePieces, StandsFor}
use Rattle.check_format.proofs.Pieces.{Agree, agree_each, agree_self, agree_then, range_same}

-- the places of a part are places of its row
part_within : (places part i : ℕ) → 5 * part ≤ i → i < 5 * part + part_length places part → i < places
part_within places part i low high = elim (cases_Bool (nat_lt (5 * part + 5) places)) [
  | inl long ↦
      let most = ltb-true (5 * part + 5) places long in
      let length_is : part_length places part ≡ 5 = ap (λ t. if t then 5 else places - 5 * part) long in
      omega arith
  | inr short ↦
      let length_is : part_length places part ≡ places - 5 * part = ap (λ t. if t then 5 else places - 5 * part) short in
      omega arith
]

axes_some : (group : Group) → 0 < axis_count group
axes_some (group.Cell v) = omega arith
axes_some group.Face = omega arith
axes_some group.Edge = omega arith

node_some : (g : Grid) (group : Group) → 0 < node_count g group
node_some g group = mul-pos (axes_some group) (mul-pos (omega arith) (mul-pos (omega arith) (omega arith)))

where_true : {A : Type 0} (t : Bool) (a b none : A) → (t ≡ true → a ≡ b) → (if t then a else none) ≡ (if t then b else none)
where_true true a b none same = same refl
where_true false a b none same = refl

-- numbers that are what a mesh has in a group
module _ (m : Mesh) (number : Numbers) where
  abbrev g : Grid
  g = m.grid

  -- the numbers of a mesh are what it has at interior places
  own_number : (group : Group) (a : Axis) (node i j k : ℕ) → number_of m (array_on group a) node (pos i) (pos j) (pos k) ≡ interior_value m group a (block_at g node) i j k
  own_number (group.Cell v) a node i j k = refl
  own_number group.Face a node i j k = refl
  own_number group.Edge a node i j k = refl

  module _ (group : Group) (views : HasViews number m group) where
    module _ (node : ℕ) (there : node < length (nodes g.leaves)) (leaf : is_leaf_block g (block_at g node) ≡ true) where
      place_same : (a : Axis) (i j k : ℕ) → i < many g group a X → j < many g group a Y → k < many g group a Z → place_bytes g number group node a k j i ≡ place_bytes g (number_of m) group node a k j i
      place_same a i j k x y z =
          let is : number (array_on group a) node (pos i) (pos j) (pos k) ≡ number_of m (array_on group a) node (pos i) (pos j) (pos k) = views.each node there leaf a i j k (record { x = omega arith; y = omega arith; z = omega arith }) ∙ sym (own_number group a node i j k) in
          ap (λ z. if is_own_place group g (block_at g node) a (place i j k) then content_bytes z else []) is

      row_same : (a : Axis) (k j part : ℕ) → row_piece g number group node a k j part ≡ row_piece g (number_of m) group node a k j part
      row_same a k j part = where_true (nat_lt j (many g group a Y) && nat_lt k (many g group a Z)) (row_part g number group node a k j part) (row_part g (number_of m) group node a k j part) [] (λ inside.
          let both = and_parts (nat_lt j (many g group a Y)) (nat_lt k (many g group a Z)) inside in
          range_same (place_bytes g number group node a k j) (place_bytes g (number_of m) group node a k j) (5 * part) (part_length (many g group a X) part)
          (λ i low high. place_same a i j k (part_within (many g group a X) part i low high) (ltb-true j (many g group a Y) both.0) (ltb-true k (many g group a Z) both.1)))

      leaf_same : (q : ℕ) → (leaf_pieces g number group node).piece q ≡ (leaf_pieces g (number_of m) group node).piece q
      leaf_same q = row_same _ _ _ _

    node_same : (node q : ℕ) → node < length (nodes g.leaves) → node_piece g number group node q ≡ node_piece g (number_of m) group node q
    node_same node q there = where_true (is_leaf_block g (block_at g node)) ((leaf_pieces g number group node).piece q) ((leaf_pieces g (number_of m) group node).piece q) [] (λ leaf. leaf_same node there leaf q)

    group_same : Agree (group_pieces g number group) (group_pieces g (number_of m) group)
    group_same = agree_each (length (nodes g.leaves)) (node_count g group) (node_piece g number group) (node_piece g (number_of m) group) (node_some g group) (λ node q there h. node_same node q there)

  if_same : (name : Option (List ℕ)) (group : Group) → (is_some name ≡ true → HasViews number m group) → Agree (if_declared name (group_pieces g number group)) (if_declared name (group_pieces g (number_of m) group))
  if_same name group views = cases (is_some name) views
    where
      cases : (t : Bool) → (t ≡ true → HasViews number m group) → Agree (if t then group_pieces g number group else no_piece) (if t then group_pieces g (number_of m) group else no_piece)
      cases true views = group_same group (views refl)
      cases false views = agree_self no_piece

  module _ (outs : List ℤ) (cells : (v : ℕ) → v < length m.names.cells → HasViews number m (group.Cell v)) where
    abbrev out_piece : ℕ → Pieces
    out_piece v = one_piece (out_bytes (slice_index_or outs v (pos 0)))

    variable_same : (v : ℕ) → v < length m.names.cells → Agree (variable_pieces g outs number v) (variable_pieces g outs (number_of m) v)
    variable_same v few = agree_then (out_piece v) (out_piece v) (group_pieces g number (group.Cell v)) (group_pieces g (number_of m) (group.Cell v)) (agree_self (out_piece v)) (group_same (group.Cell v) (cells v few))

    cells_same : Agree (cell_pieces g m.names outs number) (cell_pieces g m.names outs (number_of m))
    cells_same = agree_each (length m.names.cells) (variable_count g) (λ v. (variable_pieces g outs number v).piece) (λ v. (variable_pieces g outs (number_of m) v).piece) (omega arith) (λ v q few h. (variable_same v few).piece q (omega arith))

-- what is handed for a mesh, with the mesh's own grid, names and marks
abbrev with_numbers : Mesh → ℕ → Numbers → Handed
with_numbers m turn number = record (of_mesh m turn) { number = number }

handed_is : (m : Mesh) (h : Handed) → StandsFor m h → h ≡ with_numbers m h.turn h.number
handed_is m h s = λ i. record { turn = h.turn; grid = s.grid i; names = s.names i; outs = s.outs i; refine = λ b. s.refine b i; derefine = λ b. s.derefine b i; number = h.number }

numbers_agree : (m : Mesh) (h : Handed) → StandsFor m h → Agree (image_pieces (with_numbers m h.turn h.number)) (image_pieces (of_mesh m h.turn))
numbers_agree m h s =
    let outs = map m.outs (range_with_len 0 (length m.names.cells)) in
    let head = head_pieces h.turn m.grid m.names m.refine m.derefine in
    let face = λ (number : Numbers). if_declared m.names.face (group_pieces m.grid number group.Face) in
    let edge = λ (number : Numbers). if_declared m.names.edge (group_pieces m.grid number group.Edge) in
    agree_then head head (number_pieces m.grid m.names outs h.number) (number_pieces m.grid m.names outs (number_of m)) (agree_self head)
    (agree_then (cell_pieces m.grid m.names outs h.number) (cell_pieces m.grid m.names outs (number_of m)) (face h.number then edge h.number) (face (number_of m) then edge (number_of m)) (cells_same m h.number outs s.cells)
    (agree_then (face h.number) (face (number_of m)) (edge h.number) (edge (number_of m)) (if_same m h.number m.names.face group.Face s.face) (if_same m h.number m.names.edge group.Edge s.edge)))

-- there are as many, and each has the same bytes
pub pieces_agree : (m : Mesh) (h : Handed) → StandsFor m h → Agree (image_pieces h) (image_pieces (of_mesh m h.turn))
pieces_agree m h s = subst (λ u. Agree (image_pieces u) (image_pieces (of_mesh m h.turn))) (sym (handed_is m h s)) (numbers_agree m h s)

pub same_pieces : SamePieces
same_pieces m h k valid s low = (pieces_agree m h s).piece k low
