-- The pieces of leaves' arrays: the numbers at their own places.
use Rattle.std.proofs.Common.{◌≡◌, ℕ, suc, ◌+◌, ◌-◌, ◌*◌, ◌≤◌, ◌&&◌, if◌then◌else◌, nat_lt, inl, inr, List, [], ◌++◌, length, flat_map, sym, ap, ap₂, ◌∙◌, arith, append-nil, lt-ltb, le-ltb}
use Rattle.std.specs.List.{range_with_len}
use Rattle.std.proofs.lemmas.Bool.{cases_lt}
use Rattle.std.proofs.lemmas.Grind.{flat_map-append}
use Rattle.amr_num.specs.declared.Axis.{Axis}
use Rattle.amr_num.specs.declared.Axis.TheVariants.{X, Y, Z}
use Rattle.amr_num.specs.declared.BlockAt.{BlockAt}
use Rattle.block_tree.specs.Interior.{axes_of}
use Rattle.block_tree.specs.Numbered.{block_at}
use Rattle.block_tree.proofs.ByNumber.{flat_by_place, leaves_by_number, range_apart}
use Rattle.mesh_model.specs.declared.fields.values.Group.{Group}
use Rattle.mesh_model.specs.declared.fields.values.Group.TheVariants.{Cell, Edge, Face}
use Rattle.mesh_model.specs.Geometry.Places.{box_list, longer_across, longer_on}
use Rattle.mesh_model.specs.Tree.Kinds.{Grid, is_leaf_block}
use Rattle.mesh_model.specs.Tree.Order.{nodes}
use Rattle.mesh_model.specs.Tree.ValidGrid.{Valid}
use Rattle.mesh_model.proofs.GeometryLemmas.ShapeLimits.{cells_most}
use Rattle.check_format.specs.Numbered.{for_each}
use Rattle.check_format.specs.Own.{Place, place}
use Rattle.check_format.specs.Written.{Numbers, array_count, array_pieces, axis_at, axis_count, group_pieces, leaf_pieces, many, node_count, node_piece, part_length, place_bytes, row_part, row_piece}
use Rattle.check_format.proofs.Pieces.{all, all_each, flat_box, flat_tested, range_below, range_below_tested}

-- ---- a row by its parts

flat_of_parts : {A : Type 0} (f : ℕ → List A) (m n : ℕ) → flat_map f (range_with_len 0 m) ++ flat_map f (range_with_len (0 + m) n) ≡ flat_map f (range_with_len 0 (m + n))
flat_of_parts f m n = sym (ap (flat_map f) (range_apart 0 m n) ∙ flat_map-append f (range_with_len 0 m) (range_with_len (0 + m) n))

-- the two parts of a row of at most ten places
pub two_parts : {A : Type 0} (f : ℕ → List A) (places : ℕ) → places ≤ 10 → flat_map (λ part. flat_map f (range_with_len (5 * part) (part_length places part))) (range_with_len 0 2) ≡ flat_map f (range_with_len 0 places)
two_parts f places few = elim (cases_lt 5 places) [
  | inl long ↦
      let all_of : 5 + (places - 5) ≡ places = omega arith in
      lengths 5 (places - 5) (ap (λ t. if t then 5 else places - 0) (lt-ltb 5 places long)) (ap (λ t. if t then 5 else places - 5) (le-ltb 10 places few))
      ∙ flat_of_parts f 5 (places - 5) ∙ ap (λ n. flat_map f (range_with_len 0 n)) all_of
  | inr short ↦
      let first : places - 0 ≡ places = omega arith in
      let second : places - 5 ≡ 0 = omega arith in
      lengths places 0 (ap (λ t. if t then 5 else places - 0) (le-ltb 5 places short) ∙ first) (ap (λ t. if t then 5 else places - 5) (le-ltb 10 places few) ∙ second)
      ∙ append-nil (flat_map f (range_with_len 0 places))
]
  where
    lengths : (u w : ℕ) → part_length places 0 ≡ u → part_length places 1 ≡ w → flat_map (λ part. flat_map f (range_with_len (5 * part) (part_length places part))) (range_with_len 0 2) ≡ flat_map f (range_with_len 0 u) ++ flat_map f (range_with_len 5 w)
    lengths u w one two = ap₂ (λ m n. flat_map f (range_with_len 0 m) ++ (flat_map f (range_with_len 5 n) ++ [])) one two ∙ ap (λ t. flat_map f (range_with_len 0 u) ++ t) (append-nil (flat_map f (range_with_len 5 w)))

-- ---- how many places an array has along an axis

on_few : (a c : Axis) (n : ℕ) → longer_on a c n ≤ suc n
on_few X X n = omega arith
on_few X Y n = omega arith
on_few X Z n = omega arith
on_few Y X n = omega arith
on_few Y Y n = omega arith
on_few Y Z n = omega arith
on_few Z X n = omega arith
on_few Z Y n = omega arith
on_few Z Z n = omega arith

across_few : (a c : Axis) (n : ℕ) → longer_across a c n ≤ suc n
across_few X X n = omega arith
across_few X Y n = omega arith
across_few X Z n = omega arith
across_few Y X n = omega arith
across_few Y Y n = omega arith
across_few Y Z n = omega arith
across_few Z X n = omega arith
across_few Z Y n = omega arith
across_few Z Z n = omega arith

many_few : (g : Grid) (group : Group) (a c : Axis) → many g group a c ≤ suc g.shape.n
many_few g (Cell v) a c = omega arith
many_few g Face a c = on_few a c g.shape.n
many_few g Edge a c = across_few a c g.shape.n

-- ---- arrays, leaves and groups

-- the places of a group's array
abbrev pub array_places : Grid → Group → Axis → List Place
array_places g group a = box_list (many g group a X) (many g group a Y) (many g group a Z) place

module _ (g : Grid) (valid : Valid g) (number : Numbers) (group : Group) where
  module _ (node : ℕ) where
    module _ (a : Axis) where
      -- the bytes of a row
      abbrev row : ℕ → ℕ → List ℕ
      row k j = flat_map (place_bytes g number group node a k j) (range_with_len 0 (many g group a X))

      row_is : (k j : ℕ) → flat_map (row_piece g number group node a k j) (range_with_len 0 2) ≡ (if nat_lt j (many g group a Y) && nat_lt k (many g group a Z) then row k j else [])
      row_is k j =
          let few = many_few g group a X in
          let most = cells_most valid.shape in
          flat_tested (nat_lt j (many g group a Y) && nat_lt k (many g group a Z)) (row_part g number group node a k j) (range_with_len 0 2)
          ∙ ap (λ t. if nat_lt j (many g group a Y) && nat_lt k (many g group a Z) then t else []) (two_parts (place_bytes g number group node a k j) (many g group a X) (omega arith))

      layer_is : (k : ℕ) → all (for_each (suc g.shape.n) 2 (row_piece g number group node a k)) ≡ (if nat_lt k (many g group a Z) then flat_map (row k) (range_with_len 0 (many g group a Y)) else [])
      layer_is k =
          all_each (suc g.shape.n) 2 (row_piece g number group node a k)
          ∙ ap (λ f. flat_map f (range_with_len 0 (suc g.shape.n))) (λ t j. row_is k j t)
          ∙ range_below_tested (row k) (many g group a Y) (suc g.shape.n) (nat_lt k (many g group a Z)) (many_few g group a Y)

      array_is : all (array_pieces g number group node a) ≡ flat_map (λ p. place_bytes g number group node a p.z p.y p.x) (array_places g group a)
      array_is =
          all_each (suc g.shape.n) (suc g.shape.n * 2) (λ k. (for_each (suc g.shape.n) 2 (row_piece g number group node a k)).piece)
          ∙ ap (λ f. flat_map f (range_with_len 0 (suc g.shape.n))) (λ t k. layer_is k t)
          ∙ range_below (λ k. flat_map (row k) (range_with_len 0 (many g group a Y))) (many g group a Z) (suc g.shape.n) (many_few g group a Z)
          ∙ sym (flat_box (λ (p : Place). place_bytes g number group node a p.z p.y p.x) (many g group a X) (many g group a Y) (many g group a Z) place)

    leaf_is : all (leaf_pieces g number group node) ≡ flat_map (λ a. all (array_pieces g number group node a)) (axes_of group)
    leaf_is =
        all_each (axis_count group) (array_count g) (λ a. (array_pieces g number group node (axis_at group a)).piece)
        ∙ flat_by_place (λ a. all (array_pieces g number group node a)) X (axes_of group)

  -- where the bytes at a place are told by the block
  module _ (value : BlockAt → Axis → Place → List ℕ) (told : (node : ℕ) (a : Axis) (p : Place) → place_bytes g number group node a p.z p.y p.x ≡ value (block_at g node) a p) where
    abbrev of_block : BlockAt → List ℕ
    of_block b = flat_map (λ a. flat_map (value b a) (array_places g group a)) (axes_of group)

    by_block : (node : ℕ) → all (leaf_pieces g number group node) ≡ of_block (block_at g node)
    by_block node =
        leaf_is node
        ∙ ap (λ f. flat_map f (axes_of group)) (λ t a. (array_is node a ∙ ap (λ f. flat_map f (array_places g group a)) (λ u p. told node a p u)) t)

    node_is : (node : ℕ) → flat_map (node_piece g number group node) (range_with_len 0 (node_count g group)) ≡ (if is_leaf_block g (block_at g node) then of_block (block_at g node) else [])
    node_is node =
        flat_tested (is_leaf_block g (block_at g node)) (leaf_pieces g number group node).piece (range_with_len 0 (node_count g group))
        ∙ ap (λ t. if is_leaf_block g (block_at g node) then t else []) (by_block node)

    -- a group's numbers are those of its leaves, one array after the other
    pub group_is : all (group_pieces g number group) ≡ flat_map (λ b. flat_map (λ a. flat_map (value b a) (array_places g group a)) (axes_of group)) g.leaves
    group_is =
        all_each (length (nodes g.leaves)) (node_count g group) (node_piece g number group)
        ∙ ap (λ f. flat_map f (range_with_len 0 (length (nodes g.leaves)))) (λ t node. node_is node t)
        ∙ leaves_by_number g valid of_block
