use Rattle.std.proofs.Common.{◌≡◌, drop}
use Rattle.block_tree.specs.GridOf.{grid_of}
use Rattle.mesh_model.specs.Images.Fits.{marks_stand}
use Rattle.mesh_model.specs.Tree.Order.{nodes}
use Rattle.check_format.proofs.reading.nodes.marks_stand.Given as goal

-- the marks of the nodes passed stand
abbrev pub invariant-loop-node : goal.invariant-loop-node
invariant-loop-node l =
    let all = nodes (grid_of l.tree).leaves in
    marks_stand (grid_of l.tree).shape (drop l.node all) (drop l.node l.codes) ≡ marks_stand (grid_of l.tree).shape all l.codes
