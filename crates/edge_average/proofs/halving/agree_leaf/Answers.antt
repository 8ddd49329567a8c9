use Rattle.std.proofs.Common.{◌≤◌, subst, sym, false}
use Rattle.mesh_model.specs.Tree.Kinds.{Grid}
use Rattle.mesh_model.specs.Tree.ValidGrid.{Valid}
use Rattle.block_tree.specs.Directions.{AreParts}
use Rattle.block_tree.specs.GridOf.{grid_of}
use Rattle.block_tree.specs.Numbered.{block_at}
use Rattle.block_tree.proofs.Facts.{known}
use Rattle.edge_average.proofs.Readings.{calm_holds}
use Rattle.edge_average.proofs.Rounds.{none_stand}
use Rattle.edge_average.proofs.halving.agree_leaf.Goals as goal

pub returns-else-parts-ne0-clause-lines : goal.returns-else-parts-ne0-clause-lines
returns-else-parts-ne0-clause-lines g c field a s t hs ht holds =
    let n = g.row.N in
    let w = c.args.world.now in
    let grid = w.told.grid in
    let node = c.args.node in
    let sized = c.requires.fit.sizes in
    let parts = c.finer_parts-parts.result in
    let valid : Valid grid = subst Valid c.tree-tree.ensures (known c.tree-tree.result.now).valid in
    let at = subst (λ b. AreParts (grid_of c.tree-tree.result.now) false b 27 parts) c.at.ensures.value c.finer_parts-parts.ensures in
    let are : AreParts grid false (block_at grid node) 27 parts = subst (λ (h : Grid). AreParts h false (block_at h node) 27 parts) c.tree-tree.ensures at in
    let calm = none_stand grid valid n g.row.G sized (block_at grid node) parts are c.if-parts-ne0.false a s t hs ht in
    calm_holds c.args.work w valid node c.requires.leaf a s t calm field holds (subst (λ m. s ≤ m) (sym sized.cells) hs) (subst (λ m. t ≤ m) (sym sized.cells) ht)
