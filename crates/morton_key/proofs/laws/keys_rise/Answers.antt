use Rattle.morton_key.proofs.Placing.{outer_first, parent_first, keep_blocks}
use Rattle.mesh_model.proofs.TreeLemmas.Sorting.{later_child}
use Rattle.morton_key.proofs.laws.keys_rise.Goals as goal

pub returns-clause-outer : goal.returns-clause-outer
returns-clause-outer c = outer_first

pub returns-clause-parent : goal.returns-clause-parent
returns-clause-parent c = parent_first

pub returns-clause-children : goal.returns-clause-children
returns-clause-children c = later_child

pub returns-clause-inside : goal.returns-clause-inside
returns-clause-inside c = keep_blocks
