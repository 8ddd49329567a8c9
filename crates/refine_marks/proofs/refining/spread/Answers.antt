use Rattle.std.proofs.Common.{◌+◌, ℕ, suc, true, subst, sym, ◌∙◌, arith, inl, inr, Bool}
use Rattle.std.proofs.lemmas.Bool.{cases_lt}
use Rattle.block_tree.specs.GridOf.{grid_of}
use Rattle.block_tree.specs.Numbered.{block_at}
use Rattle.refine_marks.specs.Closing.{spread_to}
use Rattle.refine_marks.specs.Flags.{AreFlagsAt}
use Rattle.refine_marks.proofs.Flagged.{AreSetBelow, one_set, one_kept, all_set}
use Rattle.refine_marks.proofs.RefinedLevels.{spread_off, spread_true, spread_false}
use Rattle.refine_marks.proofs.refining.spread.Goals as goal
use Rattle.refine_marks.proofs.refining.spread.Goals.{then-is_beside_finer, else-is_beside_finer}

pub loop-node-preserved : goal.loop-node-preserved
loop-node-preserved c set are =
    let g = grid_of c.args.tree.now in
    let l = c.args.level in
    let new : ℕ → Bool = λ k. spread_to g l set (block_at g k) in
    let node = c.loop-node.node in
    let so_far = c.loop-node.invariant set are in
    let finer : AreFlagsAt g (suc l) set c.loop-node.flags = record {
      each = λ k i level. elim (cases_lt k node) [
        | inl lt ↦ so_far.done k lt ∙ spread_off g set l (block_at g k) (λ e. absurd (omega arith))
        | inr le ↦ so_far.rest k le ∙ are.each k i
      ];
    } in
    let test = c.is_beside_finer.ensures set finer in
    let here = are.each node (omega arith) in
    elim c.if-is_beside_finer.branch [
      | then-is_beside_finer w ↦ subst (AreSetBelow (node + 1) new c.args.flags.now) (sym w.flags-is) (one_set node new c.args.flags.now c.loop-node.flags so_far true (omega arith) (sym (spread_true g set l (block_at g node) (sym test ∙ w.if-is_beside_finer.true))))
      | else-is_beside_finer w ↦ subst (AreSetBelow (node + 1) new c.args.flags.now) (sym w.flags-is) (one_kept node new c.args.flags.now c.loop-node.flags so_far (here ∙ sym (spread_false g set l (block_at g node) (sym test ∙ w.if-is_beside_finer.false))))
    ]

pub returns : goal.returns
returns c set are =
    let g = grid_of c.args.tree.now in
    all_set g (spread_to g c.args.level set) c.args.flags.now c.loop-node.flags c.loop-node.node (c.loop-node.invariant set are) c.requires.flags (omega arith)
