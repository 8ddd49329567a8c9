-- What is written of a mesh, in pieces.
use Rattle.std.specs.Prelude.{ℕ, suc, ◌+◌, ◌*◌, ◌-◌, Bool, true, ◌&&◌, nat_lt, if◌then◌else◌, List, [], ◌∷◌, ◌++◌, length, flat_map, map, codes, Option, is_some, ℤ, pos, unsigned_abs, slice_index_or}
use Rattle.std.specs.List.{range_with_len}
use Rattle.std.specs.Option.{option_to_list}
use Rattle.amr_num.specs.declared.Axis.{Axis}
use Rattle.amr_num.specs.declared.Axis.TheVariants.{X, Y, Z}
use Rattle.amr_num.specs.declared.BlockAt.{BlockAt}
use Rattle.block_tree.specs.Interior.{array_on, axes_of, interior_value, places_along}
use Rattle.block_tree.specs.Numbered.{block_at}
use Rattle.byteorder.specs.Endian.{little_bytes}
use Rattle.mesh_model.specs.declared.geometry.Shape.{Shape}
use Rattle.mesh_model.specs.declared.fields.values.Var.{Var}
use Rattle.mesh_model.specs.declared.fields.values.Var.TheVariants.{Cell, Face, Edge, CellWork, FaceWork, EdgeWork}
use Rattle.mesh_model.specs.declared.fields.values.Group.{Group}
use Rattle.mesh_model.specs.declared.fields.values.Group.TheVariants as group
use Rattle.mesh_model.specs.Fields.Plain.{Mesh}
use Rattle.mesh_model.specs.Fields.VariableNames.{VariableNames}
use Rattle.mesh_model.specs.Images.Image.{code_of, content_bytes, name_bytes, out_bytes, side_code}
use Rattle.mesh_model.specs.Tree.Kinds.{Grid, is_leaf_block, is_split_block}
use Rattle.mesh_model.specs.Tree.Order.{nodes}
use Rattle.check_format.specs.Numbered.{Pieces, no_piece, one_piece, ◌then◌, for_each}
use Rattle.check_format.specs.Own.{Place, place, is_own_face, is_own_edge}

-- ---- the arrays of a group

abbrev pub axis_count : Group → ℕ
axis_count group = length (axes_of group)

abbrev pub axis_at : Group → ℕ → Axis
axis_at group a = slice_index_or (axes_of group) a X

-- what stands at a place is written under this leaf
abbrev pub is_own_place : Group → Grid → BlockAt → Axis → Place → Bool
is_own_place (group.Cell v) g b a p = true
is_own_place group.Face g b a p = is_own_face g b a p
is_own_place group.Edge g b a p = is_own_edge g b a p

-- how many places an array has along an axis
abbrev pub many : Grid → Group → Axis → Axis → ℕ
many g group a c = places_along g.shape.n (array_on group a) c

-- the numbers at block indices, by arrays and nodes
abbrev pub Numbers : Type 0
Numbers = Var → ℕ → ℤ → ℤ → ℤ → ℤ

-- the bytes of the number at a place of a node's array, where it is written there
abbrev pub place_bytes : Grid → Numbers → Group → ℕ → Axis → ℕ → ℕ → ℕ → List ℕ
place_bytes g number group node a k j i =
    if is_own_place group g (block_at g node) a (place i j k) then content_bytes (number (array_on group a) node (pos i) (pos j) (pos k)) else []

-- a part of a row over x, of five places: a row has at most two
abbrev pub part_length : ℕ → ℕ → ℕ
part_length many part = if nat_lt (5 * part + 5) many then 5 else many - 5 * part

abbrev pub row_part : Grid → Numbers → Group → ℕ → Axis → ℕ → ℕ → ℕ → List ℕ
row_part g number group node a k j part = flat_map (place_bytes g number group node a k j) (range_with_len (5 * part) (part_length (many g group a X) part))

-- nothing where there is no such row
abbrev pub row_piece : Grid → Numbers → Group → ℕ → Axis → ℕ → ℕ → ℕ → List ℕ
row_piece g number group node a k j part =
    if nat_lt j (many g group a Y) && nat_lt k (many g group a Z) then row_part g number group node a k j part else []

-- the pieces of an array
abbrev pub array_count : Grid → ℕ
array_count g = suc g.shape.n * (suc g.shape.n * 2)

abbrev pub array_pieces : Grid → Numbers → Group → ℕ → Axis → Pieces
array_pieces g number group node a = for_each (suc g.shape.n) (suc g.shape.n * 2) (λ k. (for_each (suc g.shape.n) 2 (row_piece g number group node a k)).piece)

-- those of a node: one that is no leaf has nothing in its pieces
abbrev pub node_count : Grid → Group → ℕ
node_count g group = axis_count group * array_count g

abbrev pub leaf_pieces : Grid → Numbers → Group → ℕ → Pieces
leaf_pieces g number group node = for_each (axis_count group) (array_count g) (λ a. (array_pieces g number group node (axis_at group a)).piece)

abbrev pub node_piece : Grid → Numbers → Group → ℕ → ℕ → List ℕ
node_piece g number group node q = if is_leaf_block g (block_at g node) then (leaf_pieces g number group node).piece q else []

-- those of a group
abbrev pub group_pieces : Grid → Numbers → Group → Pieces
group_pieces g number group = for_each (length (nodes g.leaves)) (node_count g group) (node_piece g number group)

-- ---- the others

abbrev pub all_names : VariableNames → List (List ℕ)
all_names v = v.cells ++ option_to_list v.face ++ option_to_list v.edge

abbrev pub name_piece : VariableNames → ℕ → List ℕ
name_piece v k = slice_index_or (map name_bytes (all_names v)) k []

-- what stands before the names: the magic, the turn and the shape, and how many variables there are
abbrev pub shape_bytes : ℕ → Shape → List ℕ
shape_bytes turn s = codes "AMRCHK01" ++ (turn ∷ s.n ∷ s.g ∷ s.rx ∷ s.ry ∷ s.rz ∷ s.min ∷ s.max ∷ [])

abbrev pub count_bytes : VariableNames → List ℕ
count_bytes v = length v.cells ∷ length (option_to_list v.face) ∷ length (option_to_list v.edge) ∷ []

abbrev pub field_bytes : ℕ → Shape → VariableNames → List ℕ
field_bytes turn s v = shape_bytes turn s ++ (map side_code s.sides ++ count_bytes v)

-- the number of nodes, and the byte of each
abbrev pub count_piece : Grid → List ℕ
count_piece g = little_bytes 4 (length (nodes g.leaves))

abbrev pub node_byte : Grid → (BlockAt → Bool) → (BlockAt → Bool) → ℕ → List ℕ
node_byte g refine derefine node = let b = block_at g node in code_of (is_split_block g b) (refine b) (derefine b) ∷ []

abbrev pub name_pieces : VariableNames → Pieces
name_pieces v = record { count = length (all_names v); piece = name_piece v }

abbrev pub node_pieces : Grid → (BlockAt → Bool) → (BlockAt → Bool) → Pieces
node_pieces g refine derefine = record { count = length (nodes g.leaves); piece = node_byte g refine derefine }

abbrev pub head_pieces : ℕ → Grid → VariableNames → (BlockAt → Bool) → (BlockAt → Bool) → Pieces
head_pieces turn g v refine derefine = one_piece (field_bytes turn g.shape v) then (name_pieces v then (one_piece (count_piece g) then node_pieces g refine derefine))

-- what has flowed out of a variable, and then its contents
abbrev pub variable_pieces : Grid → List ℤ → Numbers → ℕ → Pieces
variable_pieces g outs number v = one_piece (out_bytes (slice_index_or outs v (pos 0))) then group_pieces g number (group.Cell v)

abbrev pub variable_count : Grid → ℕ
variable_count g = suc (length (nodes g.leaves) * node_count g (group.Cell 0))

abbrev pub cell_pieces : Grid → VariableNames → List ℤ → Numbers → Pieces
cell_pieces g v outs number = for_each (length v.cells) (variable_count g) (λ k. (variable_pieces g outs number k).piece)

-- the pieces of a variable that may be declared
abbrev pub if_declared : Option (List ℕ) → Pieces → Pieces
if_declared name p = if is_some name then p else no_piece

abbrev pub number_pieces : Grid → VariableNames → List ℤ → Numbers → Pieces
number_pieces g v outs number =
    cell_pieces g v outs number then (if_declared v.face (group_pieces g number group.Face) then if_declared v.edge (group_pieces g number group.Edge))

-- what a writer is handed: the turn, the grid, names, marks and what has flowed out of a mesh, and the numbers of the leaves' arrays
pub record Handed : Type 0 where
  pub turn : ℕ
  pub grid : Grid
  pub names : VariableNames
  pub outs : List ℤ
  pub refine : BlockAt → Bool
  pub derefine : BlockAt → Bool
  pub number : Numbers

-- all pieces before the digest
abbrev pub image_pieces : Handed → Pieces
image_pieces h = head_pieces h.turn h.grid h.names h.refine h.derefine then number_pieces h.grid h.names h.outs h.number

-- ---- of a mesh

-- what a mesh has at the places of leaves' arrays
abbrev pub number_of : Mesh → Numbers
number_of m (Cell v) node i j k = interior_value m (group.Cell v) X (block_at m.grid node) (unsigned_abs i) (unsigned_abs j) (unsigned_abs k)
number_of m (Face a) node i j k = interior_value m group.Face a (block_at m.grid node) (unsigned_abs i) (unsigned_abs j) (unsigned_abs k)
number_of m (Edge a) node i j k = interior_value m group.Edge a (block_at m.grid node) (unsigned_abs i) (unsigned_abs j) (unsigned_abs k)
number_of m CellWork node i j k = pos 0
number_of m (FaceWork a) node i j k = pos 0
number_of m (EdgeWork a) node i j k = pos 0

abbrev pub of_mesh : Mesh → ℕ → Handed
of_mesh m turn = record { turn = turn; grid = m.grid; names = m.names; outs = map m.outs (range_with_len 0 (length m.names.cells)); refine = m.refine; derefine = m.derefine; number = number_of m }
