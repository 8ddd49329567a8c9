use Rattle.std.proofs.Common.{◌∙◌, sym, subst}
use Rattle.mesh_model.specs.Tree.Order.{IsIn}
use Rattle.mesh_model.proofs.TreeLemmas.Roots.{start_root}
use Rattle.block_tree.proofs.Next.{has_key}
use Rattle.block_tree.proofs.forest.nodes_of.Goals as goal

pub visit-requires-clause-keyed : goal.visit-requires-clause-keyed
visit-requires-clause-keyed c b i =
    let s = c.args.shape.now in
    has_key s b c.requires (start_root s b (subst (λ u. IsIn b u) (c.deref.ensures.value ∙ c.in_ok-roots.ensures) i)).0
