-- How many numbers an image has.
use Rattle.std.specs.Prelude.{ℕ, List, [], length, map, flat_map, filter, if◌then◌else◌}
use Rattle.std.specs.List.{range_with_len}
use Rattle.amr_num.specs.declared.Axis.{Axis}
use Rattle.amr_num.specs.declared.Axis.TheVariants.{X, Y, Z}
use Rattle.amr_num.specs.declared.BlockAt.{BlockAt}
use Rattle.block_tree.specs.Interior.{axes_of}
use Rattle.block_tree.specs.Numbered.{block_at}
use Rattle.mesh_model.specs.declared.fields.values.Group.{Group}
use Rattle.mesh_model.specs.Geometry.Places.{box_list}
use Rattle.mesh_model.specs.Tree.Kinds.{Grid, is_leaf_block}
use Rattle.check_format.specs.Own.{Place, place}
use Rattle.check_format.specs.Written.{is_own_place, many}

-- the places of a row over x of an array, and of a plane, that are written under the leaf b
abbrev pub own_row : Group → Grid → BlockAt → Axis → ℕ → ℕ → List Place
own_row group g b a k j = filter (is_own_place group g b a) (map (λ i. place i j k) (range_with_len 0 (many g group a X)))

abbrev pub own_plane : Group → Grid → BlockAt → Axis → ℕ → List Place
own_plane group g b a k = flat_map (own_row group g b a k) (range_with_len 0 (many g group a Y))

-- those of an array
abbrev pub own_array : Group → Grid → BlockAt → Axis → List Place
own_array group g b a = flat_map (own_plane group g b a) (range_with_len 0 (many g group a Z))

-- those of all arrays of a group at a leaf
abbrev pub own_leaf : Group → Grid → BlockAt → List Place
own_leaf group g b = flat_map (own_array group g b) (axes_of group)

-- and at any node
abbrev pub own_node : Group → Grid → ℕ → List Place
own_node group g node = if is_leaf_block g (block_at g node) then own_leaf group g (block_at g node) else []

-- how many numbers a variable of the group has
unfoldable pub number_count : Group → Grid → ℕ
number_count group g = length (flat_map (own_leaf group g) g.leaves)
