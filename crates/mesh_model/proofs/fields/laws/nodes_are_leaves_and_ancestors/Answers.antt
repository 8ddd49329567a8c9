use Rattle.mesh_model.proofs.TreeLemmas.Nodes.{node_in, in_node, nodes_sorted}
use Rattle.mesh_model.proofs.fields.laws.nodes_are_leaves_and_ancestors.Goals as goal

pub returns : goal.returns
returns c = record { members = λ g b valid. (λ i. node_in g valid b i, λ f. in_node g valid b f.0 f.1 f.2); order = nodes_sorted }
