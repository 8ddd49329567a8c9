use Rattle.std.proofs.Common.{sym, subst}
use Rattle.mesh_model.specs.Geometry.Blocks.{InDomain}
use Rattle.block_tree.proofs.Numbers.{node_block, block_inside}
use Rattle.block_tree.proofs.tree.Tree.at.Goals as goal

pub returns-clause-value : goal.returns-clause-value
returns-clause-value c = node_block c.args.self.now c.args.node c.index.result.now c.requires c.index.ensures

pub returns-clause-inside : goal.returns-clause-inside
returns-clause-inside c =
    let t = c.args.self.now in
    subst (λ u. InDomain t.shape u) (sym (node_block t c.args.node c.index.result.now c.requires c.index.ensures)) (block_inside t c.args.node c.requires)
