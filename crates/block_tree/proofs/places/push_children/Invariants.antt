use Rattle.std.proofs.Common.{◌≡◌, ◌++◌, map}
use Rattle.std.specs.List.{range_with_len}
use Rattle.mesh_model.specs.Geometry.Blocks.{child_block}
use Rattle.block_tree.proofs.places.push_children.Given as goal

abbrev pub invariant-loop-octant : goal.invariant-loop-octant
invariant-loop-octant l = l.nodes.items ≡ l.fn.nodes.items ++ map (child_block l.b) (range_with_len 0 l.octant)
