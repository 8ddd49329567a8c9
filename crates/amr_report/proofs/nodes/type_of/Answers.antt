use Rattle.std.proofs.Common.{sym, ap, ◌∙◌}
use Rattle.mesh_model.specs.Tree.Reported.{type_number}
use Rattle.amr_report.proofs.nodes.type_of.Goals as goal

pub returns-in-Leaf : goal.returns-in-Leaf
returns-in-Leaf c = ap type_number (sym c.in-Leaf.is ∙ c.kind.ensures)

pub returns-in-AboveLeaf : goal.returns-in-AboveLeaf
returns-in-AboveLeaf c = ap type_number (sym c.in-AboveLeaf.is ∙ c.kind.ensures)

pub returns-in-Inner : goal.returns-in-Inner
returns-in-Inner c = ap type_number (sym c.in-Inner.is ∙ c.kind.ensures)
