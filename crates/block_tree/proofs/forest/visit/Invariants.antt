use Rattle.std.proofs.Common.{◌≡◌, ◌++◌, drop, reverse}
use Rattle.std.specs.Option.{option_map}
use Rattle.amr_num.specs.declared.BlockAt.{BlockAt}
use Rattle.mesh_model.specs.Tree.Order.{IsIn}
use Rattle.morton_key.specs.Keyed.{HasKey}
use Rattle.mesh_model.specs.Tree.Forest.{visited}
use Rattle.block_tree.proofs.forest.visit.Given as goal

-- the blocks visited and those still to be visited are all
abbrev pub invariant-loop-flag : goal.invariant-loop-flag
invariant-loop-flag l = record {
  told : option_map (λ rest. l.nodes.items ++ rest) (visited l.max (drop l.flag-index l.above) (reverse l.pending.items)) ≡ visited l.max l.above l.blocks;
  keyed : (b : BlockAt) → IsIn b (reverse l.pending.items) → HasKey b;
}
