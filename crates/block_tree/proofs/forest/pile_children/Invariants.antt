use Rattle.std.proofs.Common.{◌≡◌, ◌++◌, ◌-◌, map, reverse}
use Rattle.std.specs.List.{range_with_len}
use Rattle.mesh_model.specs.Geometry.Blocks.{child_block}
use Rattle.block_tree.proofs.forest.pile_children.Given as goal

abbrev pub invariant-loop-octant : goal.invariant-loop-octant
invariant-loop-octant l = reverse l.pending.items ≡ map (child_block l.b) (range_with_len (8 - l.octant) l.octant) ++ reverse l.fn.pending.items
