use Rattle.std.proofs.Common.{◌≡◌, ◌∙◌, length, subst, sym}
use Rattle.mesh_model.specs.Fields.Arrays.{var_length}
use Rattle.mesh_model.proofs.FieldLemmas.Worlds.{fit_after, has_array, only_of, written_in}
use Rattle.guard_fill.specs.Guarding.{IsReachedTo}
use Rattle.guard_fill.proofs.guarding.reach_leaf.Goals as goal

pub returns-clause-only : goal.returns-clause-only
returns-clause-only g c = only_of c.args.world.now c.args.var c.args.node c.copy_from_slice.new.self c.requires.ready.fit.one

pub returns-clause-fit : goal.returns-clause-fit
returns-clause-fit g c =
    let w = c.args.world.now in
    let has = has_array g.row.N g.row.G w c.args.var c.args.node c.requires.ready.fit c.requires.leaf.there c.requires.ready.variable in
    fit_after w c.args.var c.args.node c.copy_from_slice.new.self c.requires.ready.fit.one g.row.N g.row.G c.requires.ready.size c.requires.ready.fit has

pub returns-clause-reached : goal.returns-clause-reached
returns-clause-reached g c =
    let n = g.row.N in
    let e = g.row.G in
    let w = c.args.world.now in
    let xs = c.copy_from_slice.new.self in
    let has = has_array n e w c.args.var c.args.node c.requires.ready.fit c.requires.leaf.there c.requires.ready.variable in
    let long : length xs ≡ var_length n e c.args.var = c.copy_from_slice.ensures.len ∙ c.values_mut.ensures.whole in
    let is = written_in w c.args.var c.args.node xs c.requires.ready.fit.one n e c.requires.ready.size c.requires.ready.fit has long in
    subst (IsReachedTo n e w c.args.var c.args.node 27) (sym (is ∙ c.copy_from_slice.ensures.after)) c.reach.ensures.reached
