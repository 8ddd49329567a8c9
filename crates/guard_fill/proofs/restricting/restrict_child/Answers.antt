use Rattle.std.proofs.Common.{◌≡◌, ◌∙◌, length, sym, subst, List, ℤ}
use Rattle.mesh_model.specs.Fields.Arrays.{array_in, var_length}
use Rattle.mesh_model.specs.Fields.FinePlaces.{IsSummed}
use Rattle.mesh_model.specs.Fields.Ranks.{rank_at}
use Rattle.mesh_model.proofs.FieldLemmas.Worlds.{fit_after, has_array, only_of, written_in}
use Rattle.guard_fill.proofs.restricting.restrict_child.Goals as goal

pub returns-clause-only : goal.returns-clause-only
returns-clause-only g c = only_of c.args.world.now c.args.var c.args.node c.sum_child.new.parent c.requires.ready.fit.one

pub returns-clause-fit : goal.returns-clause-fit
returns-clause-fit g c =
    let w = c.args.world.now in
    let has = has_array g.row.N g.row.G w c.args.var c.args.node c.requires.ready.fit c.requires.node c.requires.ready.variable in
    fit_after w c.args.var c.args.node c.sum_child.new.parent c.requires.ready.fit.one g.row.N g.row.G c.values.ensures.size c.requires.ready.fit has

pub returns-clause-sums : goal.returns-clause-sums
returns-clause-sums g c =
    let w = c.args.world.now in
    let n = g.row.N in
    let e = g.row.G in
    let q = c.args.octant in
    let xs = c.sum_child.new.parent in
    let has = has_array n e w c.args.var c.args.node c.requires.ready.fit c.requires.node c.requires.ready.variable in
    let long : length xs ≡ var_length n e c.args.var = c.sum_child.ensures.size ∙ c.values_mut.ensures.whole in
    let is = written_in w c.args.var c.args.node xs c.requires.ready.fit.one n e c.values.ensures.size c.requires.ready.fit has long in
    subst (λ (ys : List ℤ). IsSummed n e c.args.var q (array_in (rank_at w 0).own.values c.args.var c.args.child) (array_in (rank_at w 0).own.values c.args.var c.args.node) ys) (sym is)
    (subst (λ (ys : List ℤ). IsSummed n e c.args.var q (array_in (rank_at w 0).own.values c.args.var c.args.child) ys xs) c.values_mut.ensures.value
    (subst (λ (ys : List ℤ). IsSummed n e c.args.var q ys c.values_mut.result.now xs) (c.copy_from_slice.ensures.after ∙ c.values.ensures.value) c.sum_child.ensures))
