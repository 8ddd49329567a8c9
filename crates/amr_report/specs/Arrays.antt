-- The arrays of a node as they are printed.
use Rattle.std.specs.Prelude.{ℕ, ◌+◌, ◌*◌, ◌<◌, ◌≤◌, if◌then◌else◌, List, [], ◌∷◌, ◌++◌, None, Some, flat_map, map, ℤ, pos, ◌-ℤ◌, codes, unwrap_or}
use Rattle.amr_num.specs.declared.Axis.{Axis}
use Rattle.amr_num.specs.declared.Axis.TheVariants.{X, Y, Z}
use Rattle.mesh_model.specs.declared.fields.values.Group.{Group}
use Rattle.mesh_model.specs.declared.fields.values.Group.TheVariants as group
use Rattle.mesh_model.specs.declared.fields.values.Var.{Var}
use Rattle.mesh_model.specs.declared.fields.values.Var.TheVariants.{Cell, Face, Edge, CellWork, FaceWork, EdgeWork}
use Rattle.mesh_model.specs.Run.Texts.{axis_name, block_words, number_line, text_line}
use Rattle.mesh_model.specs.Geometry.Places.{places}
pub use Rattle.block_tree.specs.Interior.{axes_of, array_on, places_along}
use Rattle.block_tree.specs.Numbered.{block_at}
use Rattle.mesh_model.specs.Tree.Kinds.{Grid, is_leaf_block}
use Rattle.amr_report.specs.declared.arrays.Shown.{Shown}

-- how an array is named in its head line, before and after the name of its variable
abbrev pub array_word : Var → List ℕ
array_word (Cell v) = codes "cell"
array_word (Face a) = codes "face"
array_word (Edge a) = codes "edge"
array_word CellWork = codes "cell"
array_word (FaceWork a) = codes "face"
array_word (EdgeWork a) = codes "edge"

abbrev pub axis_words : Var → List (List ℕ)
axis_words (Cell v) = []
axis_words (Face a) = axis_name a ∷ []
axis_words (Edge a) = axis_name a ∷ []
axis_words CellWork = []
axis_words (FaceWork a) = axis_name a ∷ []
axis_words (EdgeWork a) = axis_name a ∷ []

-- how many guard places are printed at each end of each axis
abbrev pub margin : Shown → ℕ
margin s = unwrap_or s.guards 0

-- how many places are printed along an axis
abbrev pub size_along : Shown → Var → Axis → ℕ
size_along s var a = places_along s.cells var a + 2 * margin s

-- the block index of a place, counted from the first that is printed
abbrev pub index_of : Shown → ℕ → ℤ
index_of s i = pos i -ℤ pos (margin s)

-- the number at a place
abbrev pub at_place : (Var → ℕ → ℤ → ℤ → ℤ → ℤ) → Shown → Var → ℕ → ℕ → ℕ → ℤ
at_place number s var i j k = number var s.node (index_of s i) (index_of s j) (index_of s k)

-- blocks have 1 to 8 cells along each axis, and at most 4 guard places are printed at each end of it
pub record IsSmall (s : Shown) : Type 0 where
  pub some : 0 < s.cells
  pub few : s.cells ≤ 8
  pub narrow : margin s ≤ 4

-- at each place of an array that is printed there is a number
pub record AreThere (is_there : Var → ℕ → ℤ → ℤ → ℤ → Type 0) (s : Shown) (var : Var) : Type 0 where
  pub each : (i j k : ℕ) → i < size_along s var X → j < size_along s var Y → k < size_along s var Z → is_there var s.node (index_of s i) (index_of s j) (index_of s k)

-- the texts of a row over x, of a plane over x and y, and of an array
unfoldable pub row_text : (Var → ℕ → ℤ → ℤ → ℤ → ℤ) → Shown → Var → ℕ → ℕ → List ℕ
row_text number s var k j = number_line (map (λ i. at_place number s var i j k) (places (size_along s var X)))

unfoldable pub plane_text : (Var → ℕ → ℤ → ℤ → ℤ → ℤ) → Shown → Var → ℕ → List ℕ
plane_text number s var k = flat_map (row_text number s var k) (places (size_along s var Y))

unfoldable pub planes_text : (Var → ℕ → ℤ → ℤ → ℤ → ℤ) → Shown → Var → List ℕ
planes_text number s var = flat_map (plane_text number s var) (places (size_along s var Z))

-- the first word of a head line
abbrev pub head_word : Shown → Var → List ℕ
head_word s var = elim s.guards [ Some g ↦ codes "guards" | None ↦ array_word var ]

unfoldable pub head_line : List ℕ → Shown → Var → List ℕ
head_line name s var = text_line (head_word s var ∷ name ∷ axis_words var ++ block_words s.block)

-- an array with its head line, and the arrays of a group
unfoldable pub named_array : (Var → ℕ → ℤ → ℤ → ℤ → ℤ) → List ℕ → Shown → Group → Axis → List ℕ
named_array number name s group a = head_line name s (array_on group a) ++ planes_text number s (array_on group a)

unfoldable pub group_text : (Var → ℕ → ℤ → ℤ → ℤ → ℤ) → List ℕ → Shown → Group → List ℕ
group_text number name s group = flat_map (named_array number name s group) (axes_of group)

-- what is printed of a leaf alone, and of a leaf with its guards
abbrev pub interior_of : Grid → ℕ → Shown
interior_of g node = record { node = node; block = block_at g node; cells = g.shape.n; guards = None }

abbrev pub whole_of : Grid → ℕ → Shown
whole_of g node = record { node = node; block = block_at g node; cells = g.shape.n; guards = Some g.shape.g }

-- the arrays of a node that is a leaf, and nothing for any other node
unfoldable pub leaf_text_of : (Var → ℕ → ℤ → ℤ → ℤ → ℤ) → List ℕ → Grid → Group → ℕ → List ℕ
leaf_text_of number name g group node = if is_leaf_block g (block_at g node) then group_text number name (interior_of g node) group else []
