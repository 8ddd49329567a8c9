use Rattle.std.proofs.Common.{◌≡◌, ◌+◌, ◌<◌, ℕ, ℤ, true, false, length, sym, ap, subst, ◌∙◌, arith}
use Rattle.amr_num.specs.declared.BlockAt.{BlockAt}
use Rattle.amr_num.specs.declared.CellAt.{CellAt}
use Rattle.rank_world.specs.Holding.{LeavesHold}
use Rattle.block_tree.proofs.Facts.{known}
use Rattle.block_tree.specs.Marked.{IsMarksOf, derefine_of, refine_of, room}
use Rattle.block_tree.specs.Numbered.{IsNode, block_at}
use Rattle.mesh_model.specs.Geometry.Blocks.{is_same_block}
use Rattle.mesh_model.specs.Tree.Kinds.{Grid, is_leaf_block}
use Rattle.mesh_model.specs.Tree.Order.{Sorted, nodes}
use Rattle.mesh_model.specs.Tree.ValidGrid.{Valid}
use Rattle.rank_world.specs.Contents.{contents_of}
use Rattle.rank_world.proofs.Contents.{leaves_hold}
use Rattle.amr_engine.specs.MarkedWhere.{MayMark, derefine_with, is_found, refine_with}
use Rattle.amr_engine.proofs.Found.{found_leaf_is, found_may}
use Rattle.amr_engine.proofs.Marked.{AreMarkedBelow, derefine_leaves, refine_leaves, set_all, set_passed, set_put}
use Rattle.amr_engine.proofs.marking.mark_where.Goals as goal
use Rattle.amr_engine.proofs.marking.mark_where.Goals.{then-is_wanted, else-is_wanted}

pub put-requires-clause-may : goal.put-requires-clause-may
put-requires-clause-may g c =
    let world = c.args.world.now in
    let tree = c.tree-then-is_wanted.result.now in
    let grid = world.told.grid in
    let is = c.tree-then-is_wanted.ensures in
    let valid : Valid grid = subst Valid is (known tree).valid in
    let order : Sorted grid.leaves = subst (λ (h : Grid). Sorted h.leaves) is (known tree).order in
    let found = c.is_wanted.ensures (contents_of world c.args.v) (leaves_hold world c.args.v valid order) in
    subst (λ h. MayMark h c.args.rule (block_at h c.loop-node.node)) (sym is)
    (found_may grid (contents_of world c.args.v) c.args.rule (block_at grid c.loop-node.node) (sym found ∙ c.if-is_wanted.true))

pub loop-node-preserved : goal.loop-node-preserved
loop-node-preserved g c =
    let world = c.args.world.now in
    let grid = world.told.grid in
    let v = c.args.v in
    let rule = c.args.rule in
    let old = c.args.marks.now in
    let now = c.loop-node.marks in
    let node = c.loop-node.node in
    let before = c.loop-node.invariant in
    let tree_is = c.tree.ensures in
    let valid : Valid grid = subst Valid tree_is (known c.tree.result.now).valid in
    let order : Sorted grid.leaves = subst (λ (h : Grid). Sorted h.leaves) tree_is (known c.tree.result.now).order in
    let there : IsNode grid node = subst (λ (h : Grid). node < length (nodes h.leaves)) tree_is (subst (λ m. node < m) c.len-node-end.ensures.value c.loop-node-test.true) in
    elim c.if-is_wanted.branch [
      | then-is_wanted w ↦
          let new = w.put.new.marks in
          let is = w.tree-then-is_wanted.ensures in
          let found : (content : CellAt → ℤ) → LeavesHold world v content → true ≡ is_found grid content rule (block_at grid node) = λ content holds. sym w.if-is_wanted.true ∙ c.is_wanted.ensures content holds in
          let leaf : is_leaf_block grid (block_at grid node) ≡ true = found_leaf_is grid (contents_of world v) rule (block_at grid node) (sym (found (contents_of world v) (leaves_hold world v valid order))) in
          let refine : (b : BlockAt) → refine_of grid new b ≡ refine_with rule (is_same_block (block_at grid node) b) (refine_of grid now b) =
          subst (λ h. (b : BlockAt) → refine_of h new b ≡ refine_with rule (is_same_block (block_at h node) b) (refine_of h now b)) is w.put.ensures.refine in
          let derefine : (b : BlockAt) → derefine_of grid new b ≡ derefine_with rule (is_same_block (block_at grid node) b) (derefine_of grid now b) =
          subst (λ h. (b : BlockAt) → derefine_of h new b ≡ derefine_with rule (is_same_block (block_at h node) b) (derefine_of h now b)) is w.put.ensures.derefine in
          let all : AreMarkedBelow (node + 1) world v rule old new = record {
            refine = set_put refine_with refine_leaves world v rule valid order node (refine_of grid old) (refine_of grid now) (refine_of grid new) before.marked.refine there found leaf refine;
            derefine = set_put derefine_with derefine_leaves world v rule valid order node (derefine_of grid old) (derefine_of grid now) (derefine_of grid new) before.marked.derefine there found leaf derefine;
          } in
          record {
            room = ap room w.marks-is ∙ w.put.ensures.room ∙ before.room;
            marks = subst (IsMarksOf grid) (sym w.marks-is) (subst (λ h. IsMarksOf h new) is w.put.ensures.marks);
            marked = subst (AreMarkedBelow (node + 1) world v rule old) (sym w.marks-is) all;
          }
      | else-is_wanted w ↦
          let none : (content : CellAt → ℤ) → LeavesHold world v content → false ≡ is_found grid content rule (block_at grid node) = λ content holds. sym w.if-is_wanted.false ∙ c.is_wanted.ensures content holds in
          let all : AreMarkedBelow (node + 1) world v rule old now = record {
            refine = set_passed refine_with refine_leaves world v rule valid order node (refine_of grid old) (refine_of grid now) (refine_of grid now) before.marked.refine there none;
            derefine = set_passed derefine_with derefine_leaves world v rule valid order node (derefine_of grid old) (derefine_of grid now) (derefine_of grid now) before.marked.derefine there none;
          } in
          record {
            room = ap room w.marks-is ∙ before.room;
            marks = subst (IsMarksOf grid) (sym w.marks-is) before.marks;
            marked = subst (AreMarkedBelow (node + 1) world v rule old) (sym w.marks-is) all;
          }
    ]

pub returns-clause-marked : goal.returns-clause-marked
returns-clause-marked g c =
    let world = c.args.world.now in
    let grid = world.told.grid in
    let v = c.args.v in
    let rule = c.args.rule in
    let old = c.args.marks.now in
    let new = c.loop-node.marks in
    let tree_is = c.tree.ensures in
    let valid : Valid grid = subst Valid tree_is (known c.tree.result.now).valid in
    let order : Sorted grid.leaves = subst (λ (h : Grid). Sorted h.leaves) tree_is (known c.tree.result.now).order in
    let all : (k : ℕ) → IsNode grid k → k < c.loop-node.node = λ k there.
    let inside = subst (λ (h : Grid). k < length (nodes h.leaves)) (sym tree_is) there in
    omega (arith, c.len-node-end.ensures.value, inside, c.loop-node-test.false) in
    record {
      refine = set_all refine_with refine_leaves world v rule valid order (refine_of grid old) (refine_of grid new) c.loop-node.node c.loop-node.invariant.marked.refine all;
      derefine = set_all derefine_with derefine_leaves world v rule valid order (derefine_of grid old) (derefine_of grid new) c.loop-node.node c.loop-node.invariant.marked.derefine all;
    }
