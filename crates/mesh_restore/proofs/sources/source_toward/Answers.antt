use Rattle.std.proofs.Common.{◌≡◌, Some, ap, sym, ◌∙◌}
use Rattle.block_tree.specs.Directions.{block_toward}
use Rattle.block_tree.specs.GridOf.{grid_of}
use Rattle.block_tree.specs.Numbered.{block_at}
use Rattle.block_tree.proofs.Facts.{known}
use Rattle.mesh_restore.proofs.SourceLemmas.{not_before}
use Rattle.mesh_restore.proofs.sources.source_toward.Goals as goal

pub returns-else-comes_before : goal.returns-else-comes_before
returns-else-comes_before c =
    let g = grid_of c.args.tree.now in
    let all = known c.args.tree.now in
    let toward : block_toward g.shape c.args.toward (block_at g c.args.node) ≡ Some c.in-Some.block =
    ap (block_toward g.shape c.args.toward) (sym c.at.ensures.value) ∙ ap (λ s. block_toward s c.args.toward c.at.result) (sym c.shape.ensures.value) ∙ sym c.in-Some.ensures in
    not_before g c.args.node c.args.toward c.in-Some.block toward all.valid all.order c.in-Some-leaf_at.other c.in-Some-leaf_at.ensures.1 (sym c.comes_before.ensures ∙ c.if-comes_before.false)
