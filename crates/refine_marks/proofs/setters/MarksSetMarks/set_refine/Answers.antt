use Rattle.std.proofs.Common.{◌∙◌, sym}
use Rattle.block_tree.specs.GridOf.{grid_of}
use Rattle.block_tree.specs.Marked.{derefine_at}
use Rattle.block_tree.specs.Numbered.{block_at}
use Rattle.block_tree.proofs.Flags.{set_at}
use Rattle.refine_marks.proofs.Sets.{same_kept}
use Rattle.refine_marks.proofs.setters.MarksSetMarks.set_refine.Goals as goal

pub put-requires-clause-derefine : goal.put-requires-clause-derefine
put-requires-clause-derefine c t =
    let g = grid_of c.args.tree.now in
    let in_set = set_at c.args.tree.now (derefine_at c.args.self.now) c.args.node c.requires.node ∙ sym c.derefine-derefine.ensures ∙ t in
    (c.requires.leaf, (c.requires.marks.fit.derefine (block_at g c.args.node) in_set).1)

pub returns-clause-derefine : goal.returns-clause-derefine
returns-clause-derefine c b =
    let g = grid_of c.args.tree.now in
    c.put.ensures.derefine b ∙ same_kept c.args.tree.now (derefine_at c.args.self.now) c.args.node c.derefine-derefine.result c.requires.node c.derefine-derefine.ensures b
