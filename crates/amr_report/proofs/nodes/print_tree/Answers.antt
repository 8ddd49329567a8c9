use Rattle.mesh_model.specs.Run.TreeText.{tree_text}
use Rattle.amr_report.proofs.nodes.print_tree.Goals as goal

pub returns : goal.returns
unfolding tree_text
returns g c = c.print_nodes.ensures
