use Rattle.std.proofs.Common.{arith, sym}
use Rattle.mesh_model.specs.Geometry.Canonical as canonical
use Rattle.mesh_model.specs.Tree.Kinds as kinds
use Rattle.mesh_model.proofs.TreeLemmas.Tests.{refuted}
use Rattle.block_tree.specs.GridOf.{grid_of}
use Rattle.block_tree.proofs.Facts.{known}
use Rattle.staggered.proofs.EdgeSet.{leaf_edge_level}
use Rattle.staggered.proofs.FaceSet.{and_false}
use Rattle.staggered.proofs.edge_setting.can_be_set.Goals as goal

pub returns-then-e-gt10-clause-value : goal.returns-then-e-gt10-clause-value
returns-then-e-gt10-clause-value c =
    let h = grid_of c.args.tree.now in
    let none = refuted (kinds.is_leaf_edge h c.args.e) (λ t. let low = leaf_edge_level h (known c.args.tree.now).valid c.args.e t in let deep = c.if-e-gt10.true in omega (arith, low, deep)) in
    sym (and_false (canonical.is_canonical_edge h.shape c.args.e) (kinds.is_leaf_edge h c.args.e) none)
