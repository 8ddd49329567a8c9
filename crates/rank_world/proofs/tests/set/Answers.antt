use Rattle.std.proofs.Common.{◌<◌, length, refl, ap, subst, ◌∙◌, inl}
use Rattle.mesh_model.specs.Fields.ArrayPlaces.{IsSize}
use Rattle.mesh_model.specs.Tree.Kinds.{Grid}
use Rattle.mesh_model.specs.Tree.Order.{nodes}
use Rattle.mesh_model.proofs.FieldLemmas.Worlds.{fit_after, has_array}
use Rattle.block_tree.specs.Numbered.{IsNode}
use Rattle.rank_world.proofs.tests.set.Goals as goal

size : IsSize 4 1
size = record { cells = inl refl; guards = inl refl }

pub returns-then-place-values-clause-fit : goal.returns-then-place-values-clause-fit
returns-then-place-values-clause-fit c =
    let w = c.args.world.now in
    let there : IsNode w.told.grid c.args.node = subst (λ m. c.args.node < m) (c.len.ensures.value ∙ ap (λ (h : Grid). length (nodes h.leaves)) c.tree.ensures) c.if-node-len.true in
    fit_after w c.args.var c.args.node _ c.requires.fit.one 4 1 size c.requires.fit (has_array 4 1 w c.args.var c.args.node c.requires.fit there c.requires.declared)

pub returns-else-place-values-clause-fit : goal.returns-else-place-values-clause-fit
returns-else-place-values-clause-fit c =
    let w = c.args.world.now in
    let there : IsNode w.told.grid c.args.node = subst (λ m. c.args.node < m) (c.len.ensures.value ∙ ap (λ (h : Grid). length (nodes h.leaves)) c.tree.ensures) c.if-node-len.true in
    fit_after w c.args.var c.args.node _ c.requires.fit.one 4 1 size c.requires.fit (has_array 4 1 w c.args.var c.args.node c.requires.fit there c.requires.declared)
