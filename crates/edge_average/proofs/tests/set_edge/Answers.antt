use Rattle.std.proofs.Common.{◌≡◌, ◌^◌, ◌<◌, List, ℤ, length, refl, ap, subst, sym, ◌∙◌, inl}
use Rattle.mesh_model.specs.Fields.ArrayPlaces.{IsSize}
use Rattle.mesh_model.specs.Fields.Arrays.{array_in, var_length}
use Rattle.mesh_model.specs.Fields.Ranks.{IsFit, rank_at, world_with}
use Rattle.mesh_model.specs.Tree.Kinds.{Grid}
use Rattle.mesh_model.specs.Tree.Order.{nodes}
use Rattle.mesh_model.proofs.FieldLemmas.Worlds.{fit_after, has_array}
use Rattle.block_tree.specs.Numbered.{IsNode}
use Rattle.rank_world.specs.Holding.{edge_array, edge_var}
use Rattle.rank_world.specs.Puts.{IsPut}
use Rattle.edge_average.specs.EdgeArrays.{EdgesWithin}
use Rattle.edge_average.proofs.EdgePuts.{has_one, put_small}
use Rattle.edge_average.proofs.tests.set_edge.Goals as goal

size : IsSize 4 1
size = record { cells = inl refl; guards = inl refl }

pub returns-then-node-len-clause-fit : goal.returns-then-node-len-clause-fit
returns-then-node-len-clause-fit c =
    let w = c.args.world.now in
    let var = edge_var c.args.work c.args.axis in
    let there : IsNode w.told.grid c.args.node = subst (λ m. c.args.node < m) (c.len.ensures.value ∙ ap (λ (h : Grid). length (nodes h.leaves)) c.tree.ensures) c.if-node-len.true in
    subst (λ v. IsFit 4 1 (world_with w 0 v c.args.node c.put.new.values)) (sym c.edge_var.ensures)
    (fit_after w var c.args.node c.put.new.values c.requires.fit.one 4 1 size c.requires.fit (has_array 4 1 w var c.args.node c.requires.fit there (has_one c.args.work c.args.axis w.told.counts c.requires.declared)))

pub returns-then-node-len-clause-small : goal.returns-then-node-len-clause-small
returns-then-node-len-clause-small c other =
    let w = c.args.world.now in
    let work = c.args.work in
    let a = c.args.axis in
    let node = c.args.node in
    let ys = c.put.new.values in
    let there : IsNode w.told.grid node = subst (λ m. node < m) (c.len.ensures.value ∙ ap (λ (h : Grid). length (nodes h.leaves)) c.tree.ensures) c.if-node-len.true in
    let long : length ys ≡ var_length 4 1 (edge_var work a) = c.put.ensures.size ∙ c.values_mut.ensures.whole ∙ ap (var_length 4 1) c.edge_var.ensures in
    let put : IsPut (2 ^ 56) (edge_array work w a node) ys =
    subst (λ (xs : List ℤ). IsPut (2 ^ 56) xs ys) (c.values_mut.ensures.value ∙ ap (λ v. array_in (rank_at w 0).own.values v node) c.edge_var.ensures) c.put.ensures in
    subst (λ v. EdgesWithin other (world_with w 0 v node ys) (2 ^ 56)) (sym c.edge_var.ensures)
    (put_small other work 4 1 w a node ys size c.requires.fit (has_one work a w.told.counts c.requires.declared) there long put (c.requires.small other))
