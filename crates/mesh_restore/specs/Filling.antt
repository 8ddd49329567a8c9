-- Arrays of leaves that are filled, leaf after leaf in Morton order, place after place: x fastest, then y, then z.
use Rattle.std.specs.Prelude.{◌≡◌, ℕ, ◌+◌, ◌*◌, ◌<◌, Bool, true, false, suc, Option, Some, List, [], ◌++◌, if◌then◌else◌, filter, flat_map, length, map, take, ℤ, pos, slice_index_or}
use Rattle.std.specs.List.{range_with_len}
use Rattle.amr_num.specs.Numbers.{Within}
use Rattle.amr_num.specs.declared.Axis.{Axis}
use Rattle.amr_num.specs.declared.Axis.TheVariants.{X, Y, Z}
use Rattle.amr_num.specs.declared.BlockAt.{BlockAt}
use Rattle.block_tree.specs.declared.directions.Direction.{Direction}
use Rattle.block_tree.specs.Directions.{block_toward}
use Rattle.block_tree.specs.Interior.{array_on, axes_of}
use Rattle.block_tree.specs.Numbered.{IsNode, block_at}
use Rattle.check_format.specs.declared.own.Own.{Own}
use Rattle.check_format.specs.Own.{IsOwn, Place, edge_stands, face_stands, part_at, place}
use Rattle.check_format.specs.Written.{is_own_place, many}
use Rattle.mesh_model.specs.declared.fields.values.Group.{Group}
use Rattle.mesh_model.specs.declared.fields.values.Group.TheVariants as group
use Rattle.mesh_model.specs.declared.fields.values.Var.{Var}
use Rattle.mesh_model.specs.Fields.ArrayPlaces.{extents_of, number_at}
use Rattle.mesh_model.specs.Fields.Arrays.{array_in}
use Rattle.mesh_model.specs.Fields.Ranks.{OnlyOf, WorldState, rank_at}
use Rattle.mesh_model.specs.Geometry.Limits.{IsShape}
use Rattle.mesh_model.specs.Geometry.Places.{box_list}
use Rattle.mesh_model.specs.Tree.Kinds.{Grid, is_leaf_block}
use Rattle.mesh_model.specs.Tree.Order.{nodes}
use Rattle.rank_world.specs.Holding.{IsLeafNode, OnlyAxes, OnlyAxesOf}
use Rattle.mesh_restore.specs.declared.sources.Source.{Source}
use Rattle.mesh_restore.specs.Sources.{AreSources, IsChoice, IsLeafToward, comes_before, seen_place}

-- ---- places of arrays

-- on which axes what an array of a group has stands at positions
abbrev pub stands : Group → Axis → Axis → Bool
stands (group.Cell v) a c = false
stands group.Face a c = face_stands a c
stands group.Edge a c = edge_stands a c

-- the part of the boundary on which a place lies
abbrev pub part_of : ℕ → Group → Axis → Place → Direction
part_of n group a p = part_at n (stands group a) p

-- a place of an array
pub record IsPlaceOf (g : Grid) (group : Group) (a : Axis) (p : Place) : Type 0 where
  pub x : p.x < many g group a X
  pub y : p.y < many g group a Y
  pub z : p.z < many g group a Z

-- the first so many places of a row over x
abbrev pub first_places : ℕ → ℕ → ℕ → List Place
first_places k j i = map (λ x. place x j k) (range_with_len 0 i)

-- the places of a row over x, of a plane and of an array, x fastest, then y, then z
abbrev pub row_places : Grid → Group → Axis → ℕ → ℕ → List Place
row_places g group a k j = first_places k j (many g group a X)

abbrev pub plane_places : Grid → Group → Axis → ℕ → List Place
plane_places g group a k = flat_map (row_places g group a k) (range_with_len 0 (many g group a Y))

abbrev pub all_places : Grid → Group → Axis → List Place
all_places g group a = flat_map (plane_places g group a) (range_with_len 0 (many g group a Z))

-- a number that is lower for the places that come before
abbrev pub order_of : Place → ℕ
order_of p = p.x + (16 * p.y + 256 * p.z)

-- the number at a place of a node's array
abbrev pub number_in : Grid → WorldState → Group → Axis → ℕ → Place → ℤ
number_in g w group a node p =
    number_at (extents_of g.shape.n g.shape.g (array_on group a)) (array_in (rank_at w 0).own.values (array_on group a) node) (g.shape.g + p.x) (g.shape.g + p.y) (g.shape.g + p.z)

-- ---- what is wanted

-- the number that is wanted at each place of the leaves' arrays where it counts
pub record Wanted : Type 0 where
  pub value : BlockAt → Axis → Place → ℤ
  pub counts : BlockAt → Axis → Place → Bool

-- what leaves have in common they want alike; and where a number counts that stands in an image under another leaf, a leaf that is filled
-- before has it too
pub record IsShared (g : Grid) (group : Group) (v : Wanted) : Type 0 where
  pub value : (b c : BlockAt) (a : Axis) (p : Place) (d : Direction) → is_leaf_block g b ≡ true → IsPlaceOf g group a p → IsChoice d (part_of g.shape.n group a p) → block_toward g.shape d b ≡ Some c →
      v.value c a (seen_place g.shape.n d p) ≡ v.value b a p
  pub counts : (b c : BlockAt) (a : Axis) (p : Place) (d : Direction) → is_leaf_block g b ≡ true → IsPlaceOf g group a p → IsChoice d (part_of g.shape.n group a p) → block_toward g.shape d b ≡ Some c →
      v.counts c a (seen_place g.shape.n d p) ≡ v.counts b a p
  pub found : (node : ℕ) (a : Axis) (p : Place) → IsLeafNode g node → IsPlaceOf g group a p → is_own_place group g (block_at g node) a p ≡ false → v.counts (block_at g node) a p ≡ true →
      (d : Direction) × (other : ℕ) × IsChoice d (part_of g.shape.n group a p) × IsLeafToward g node d other × (comes_before node d other ≡ true)

-- a leaf has what is wanted in its array for an axis, at the places below one
pub record HasBelow (g : Grid) (group : Group) (v : Wanted) (w : WorldState) (node : ℕ) (a : Axis) (q : ℕ) : Type 0 where
  pub at : (p : Place) → IsPlaceOf g group a p → order_of p < q → v.counts (block_at g node) a p ≡ true → number_in g w group a node p ≡ v.value (block_at g node) a p

-- so do all leaves before a node, at all places
pub record HaveBefore (g : Grid) (group : Group) (v : Wanted) (w : WorldState) (node : ℕ) (a : Axis) : Type 0 where
  pub at : (other : ℕ) → other < node → IsLeafNode g other → (p : Place) → IsPlaceOf g group a p → v.counts (block_at g other) a p ≡ true → number_in g w group a other p ≡ v.value (block_at g other) a p

-- the numbers of a list, and of a group's arrays of all leaves, are at most so great in absolute value
abbrev pub AreWithin : ℕ → List ℤ → Type 0
AreWithin most xs = (k : ℕ) → Within most (slice_index_or xs k (pos 0))

pub record ArraysWithin (g : Grid) (group : Group) (most : ℕ) (w : WorldState) : Type 0 where
  pub at : (node : ℕ) (a : Axis) (p : Place) → IsLeafNode g node → IsPlaceOf g group a p → Within most (number_in g w group a node p)

-- ---- what is filled

-- what is known of a leaf that is filled: which of its faces and edges stand under it, and from which leaves it takes others
pub record IsFilledLeaf (g : Grid) (node : ℕ) (known : Own) (table : List (Option Source)) : Type 0 where
  pub shape : IsShape g.shape
  pub leaf : IsLeafNode g node
  pub own : IsOwn g (block_at g node) known
  pub sources : AreSources g node table

-- a number was put at a place of a node's array, and all else is as it was
pub record IsPutAt (g : Grid) (group : Group) (a : Axis) (node : ℕ) (p : Place) (z : ℤ) (old new : WorldState) : Type 0 where
  pub only : OnlyOf old new 0 (array_on group a) node
  pub here : number_in g new group a node p ≡ z
  pub others : (q : Place) → IsPlaceOf g group a q → (q ≡ p → ⊥) → number_in g new group a node q ≡ number_in g old group a node q

-- the number that a place gets which does not stand under the leaf
pub record IsBeside (g : Grid) (w : WorldState) (group : Group) (a : Axis) (node : ℕ) (p : Place) (z : ℤ) : Type 0 where
  pub wanted : (v : Wanted) → IsShared g group v → HaveBefore g group v w node a → HasBelow g group v w node a (order_of p) →
      is_own_place group g (block_at g node) a p ≡ false → v.counts (block_at g node) a p ≡ true → z ≡ v.value (block_at g node) a p
  pub within : (most : ℕ) → ArraysWithin g group most w → Within most z

-- the numbers of places that stand under a leaf
abbrev pub own_numbers : Grid → Group → Wanted → BlockAt → Axis → List Place → List ℤ
own_numbers g group v b a ps = map (v.value b a) (filter (is_own_place group g b a) ps)

-- the places ps of a leaf's array were filled, from those below q to those below r: the own ones took the next numbers of a list
pub record IsFilling (g : Grid) (group : Group) (a : Axis) (node q r : ℕ) (ps : List Place) (old new : WorldState) (rest left : List ℤ) : Type 0 where
  pub only : OnlyOf old new 0 (array_on group a) node
  pub filled : (v : Wanted) (tail : List ℤ) → IsShared g group v → HaveBefore g group v old node a → HasBelow g group v old node a q → rest ≡ own_numbers g group v (block_at g node) a ps ++ tail →
      HasBelow g group v new node a r × (left ≡ tail)
  pub within : (most : ℕ) → AreWithin most rest → ArraysWithin g group most old → AreWithin most left × ArraysWithin g group most new

-- ---- leaves, and all of them

-- the axes for which a group has an array
abbrev pub IsAxisOf : Group → Axis → Type 0
IsAxisOf (group.Cell v) a = a ≡ X
IsAxisOf group.Face a = Unit {0}
IsAxisOf group.Edge a = Unit {0}

-- all leaves before a node have what is wanted in all arrays of a group
abbrev pub HaveAll : Grid → Group → Wanted → WorldState → ℕ → Type 0
HaveAll g group v w node = (a : Axis) → IsAxisOf group a → HaveBefore g group v w node a

-- the numbers that stand under a leaf, one array after the other, and those under the first nodes
abbrev pub leaf_numbers : Grid → Group → Wanted → BlockAt → List ℤ
leaf_numbers g group v b = flat_map (λ a. own_numbers g group v b a (all_places g group a)) (axes_of group)

abbrev pub first_numbers : Grid → Group → Wanted → ℕ → List ℤ
first_numbers g group v many = flat_map (leaf_numbers g group v) (filter (is_leaf_block g) (take many (nodes g.leaves)))

-- the arrays of a leaf were filled
pub record IsLeafFilled (g : Grid) (group : Group) (node : ℕ) (old new : WorldState) (rest left : List ℤ) : Type 0 where
  pub only : OnlyAxesOf (array_on group) old new node
  pub filled : (v : Wanted) (tail : List ℤ) → IsShared g group v → HaveAll g group v old node → rest ≡ leaf_numbers g group v (block_at g node) ++ tail → HaveAll g group v new (suc node) × (left ≡ tail)
  pub within : (most : ℕ) → AreWithin most rest → ArraysWithin g group most old → AreWithin most left × ArraysWithin g group most new

-- those of a node, where it is a leaf
abbrev pub node_numbers : Grid → Group → Wanted → ℕ → List ℤ
node_numbers g group v node = if is_leaf_block g (block_at g node) then leaf_numbers g group v (block_at g node) else []

pub record IsNodeFilled (g : Grid) (group : Group) (node : ℕ) (old new : WorldState) (rest left : List ℤ) : Type 0 where
  pub only : OnlyAxesOf (array_on group) old new node
  pub filled : (v : Wanted) (tail : List ℤ) → IsShared g group v → HaveAll g group v old node → rest ≡ node_numbers g group v node ++ tail → HaveAll g group v new (suc node) × (left ≡ tail)
  pub within : (most : ℕ) → AreWithin most rest → ArraysWithin g group most old → AreWithin most left × ArraysWithin g group most new

-- those of the leaves among the first nodes were, with the first numbers of a list
pub record AreFilled (g : Grid) (group : Group) (many : ℕ) (old new : WorldState) (numbers left : List ℤ) : Type 0 where
  pub only : OnlyAxes (array_on group) old new
  pub filled : (v : Wanted) (tail : List ℤ) → IsShared g group v → numbers ≡ first_numbers g group v many ++ tail → HaveAll g group v new many × (left ≡ tail)
  pub within : (most : ℕ) → AreWithin most numbers → ArraysWithin g group most old → AreWithin most left × ArraysWithin g group most new

-- all were, with the numbers of a list
pub record IsFilled (g : Grid) (group : Group) (old new : WorldState) (numbers : List ℤ) : Type 0 where
  pub only : OnlyAxes (array_on group) old new
  pub filled : (v : Wanted) → IsShared g group v → numbers ≡ flat_map (leaf_numbers g group v) g.leaves → HaveAll g group v new (length (nodes g.leaves))
  pub within : (most : ℕ) → AreWithin most numbers → ArraysWithin g group most old → ArraysWithin g group most new
