use Rattle.block_tree.specs.GridOf.{grid_of}
use Rattle.mesh_restore.specs.Sources.{AreSourcesBelow}
use Rattle.mesh_restore.proofs.sources.sources_of.Given as goal

abbrev pub invariant-loop-number : goal.invariant-loop-number
invariant-loop-number l = AreSourcesBelow (grid_of l.tree) l.node l.number l.sources
