use Rattle.std.proofs.Common.{◌∙◌, sym}
use Rattle.block_tree.specs.GridOf.{grid_of}
use Rattle.block_tree.specs.Marked.{refine_at}
use Rattle.block_tree.specs.Numbered.{block_at}
use Rattle.block_tree.proofs.Flags.{set_at}
use Rattle.refine_marks.proofs.Sets.{same_kept}
use Rattle.refine_marks.proofs.setters.MarksSetMarks.set_derefine.Goals as goal

pub put-requires-clause-refine : goal.put-requires-clause-refine
put-requires-clause-refine c t =
    let g = grid_of c.args.tree.now in
    let in_set = set_at c.args.tree.now (refine_at c.args.self.now) c.args.node c.requires.node ∙ sym c.refine-refine.ensures ∙ t in
    (c.requires.leaf, (c.requires.marks.fit.refine (block_at g c.args.node) in_set).1)

pub returns-clause-refine : goal.returns-clause-refine
returns-clause-refine c b =
    let g = grid_of c.args.tree.now in
    c.put.ensures.refine b ∙ same_kept c.args.tree.now (refine_at c.args.self.now) c.args.node c.refine-refine.result c.requires.node c.refine-refine.ensures b
