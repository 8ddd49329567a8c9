use Rattle.block_tree.proofs.Made.{start_made, start_tree}
use Rattle.block_tree.proofs.tree.Tree.roots.Goals as goal

pub invariant_of-result : goal.invariant_of-result
invariant_of-result c = record { valid = ∣ start_tree c.args.shape c.requires c.in_ok-nodes.nodes.items c.in_ok-nodes.ensures ∣₁ }

pub returns : goal.returns
returns c = start_made c.args.shape c.requires c.in_ok-nodes.nodes.items c.in_ok-nodes.ensures
