use Rattle.std.proofs.Common.{true, false, [], ◌∷◌, refl, ap, arith}
use Rattle.mesh_model.specs.Fields.Arrays.{Counts}
use Rattle.block_tree.proofs.Flat.{roots_may}
use Rattle.flux_conserve.proofs.Puts.{has_one, zeros_small}
use Rattle.edge_average.proofs.EdgePuts as edges
use Rattle.edge_average.proofs.tests.refined_world.Goals as goal

pub regrown-requires-clause-may : goal.regrown-requires-clause-may
regrown-requires-clause-may c = roots_may c.in-Ok.roots _ c.in-Ok.ensures (omega arith) (true ∷ false ∷ []) (false ∷ false ∷ []) 2 refl

pub returns-in-Ok-on_tree-clause-small : goal.returns-in-Ok-on_tree-clause-small
returns-in-Ok-on_tree-clause-small c =
    let new = c.in-Ok-on_tree.ensures in
    let one = ap (λ (n : Counts). n.faces) new.counts_are in
    zeros_small false 4 1 c.in-Ok-on_tree.world (λ a. has_one false a c.in-Ok-on_tree.world.told.counts one) new.fit new.zero

pub returns-in-Ok-on_tree-clause-small_edges : goal.returns-in-Ok-on_tree-clause-small_edges
returns-in-Ok-on_tree-clause-small_edges c work =
    let new = c.in-Ok-on_tree.ensures in
    let one = ap (λ (n : Counts). n.edges) new.counts_are in
    edges.zeros_small work 4 1 c.in-Ok-on_tree.world (λ a. edges.has_one work a c.in-Ok-on_tree.world.told.counts one) new.fit new.zero
