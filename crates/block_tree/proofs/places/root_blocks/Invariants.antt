use Rattle.std.proofs.Common.{◌≡◌}
use Rattle.std.specs.Prelude.{flat_map}
use Rattle.std.specs.List.{range_with_len}
use Rattle.mesh_model.specs.Tree.Start.{root_at, root_there}
use Rattle.block_tree.proofs.places.root_blocks.Given as goal

abbrev pub invariant-loop-place : goal.invariant-loop-place
invariant-loop-place l = l.roots.items ≡ flat_map (λ m. root_there l.shape (root_at m)) (range_with_len 0 l.place)
