use Rattle.std.proofs.Common.{arith, sym}
use Rattle.mesh_model.specs.Geometry.Canonical as canonical
use Rattle.mesh_model.specs.Tree.Kinds as kinds
use Rattle.mesh_model.proofs.TreeLemmas.Tests.{refuted}
use Rattle.block_tree.specs.GridOf.{grid_of}
use Rattle.block_tree.proofs.Facts.{known}
use Rattle.staggered.proofs.FaceSet.{and_false, leaf_face_level}
use Rattle.staggered.proofs.setting.can_be_set.Goals as goal

pub returns-then-f-gt10-clause-value : goal.returns-then-f-gt10-clause-value
returns-then-f-gt10-clause-value c =
    let h = grid_of c.args.tree.now in
    let none = refuted (kinds.is_leaf_face h c.args.f) (λ t. let low = leaf_face_level h (known c.args.tree.now).valid c.args.f t in let deep = c.if-f-gt10.true in omega (arith, low, deep)) in
    sym (and_false (canonical.is_canonical h.shape c.args.f) (kinds.is_leaf_face h c.args.f) none)
