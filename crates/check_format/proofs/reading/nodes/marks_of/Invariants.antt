use Rattle.std.proofs.Common.{◌≡◌, ℕ, ◌<◌, get_or}
use Rattle.block_tree.specs.GridOf.{grid_of}
use Rattle.block_tree.specs.Marked.{IsMarksOf, derefine_of, refine_of, room}
use Rattle.block_tree.specs.Numbered.{block_at}
use Rattle.mesh_model.specs.Geometry.Limits.{most_nodes}
use Rattle.mesh_model.specs.Images.Image.{has_derefine, has_refine}
use Rattle.check_format.proofs.reading.nodes.marks_of.Given as goal

-- the nodes passed have their marks
abbrev pub invariant-loop-node : goal.invariant-loop-node
invariant-loop-node l =
    let g = grid_of l.tree in
    record {
      marks : IsMarksOf g l.marks;
      room : room l.marks ≡ most_nodes g.shape;
      refine : (k : ℕ) → k < l.node → refine_of g l.marks (block_at g k) ≡ has_refine (get_or l.codes k 0);
      derefine : (k : ℕ) → k < l.node → derefine_of g l.marks (block_at g k) ≡ has_derefine (get_or l.codes k 0);
    }
