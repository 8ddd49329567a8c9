use Rattle.std.proofs.Common.{◌∙◌, sym, arith}
use Rattle.block_tree.specs.Marked.{refine_at}
use Rattle.block_tree.proofs.Flags.{set_at}
use Rattle.refine_marks.proofs.refining.flag_marked.Goals as goal

pub returns : goal.returns
returns c =
    let done = c.loop-node.invariant in
    record { size = done.size ∙ c.requires.flags; each = λ k i. done.done k (omega arith) ∙ sym (set_at c.args.tree.now (refine_at c.args.marks.now) k i) }
