use Rattle.std.proofs.Common.{refl, sym, ◌∙◌}
use Rattle.leaf_split.proofs.EdgeParts.{kept_others, kept_views}
use Rattle.leaf_split.proofs.edges.keep_axis.Goals as goal

pub returns-clause-views : goal.returns-clause-views
returns-clause-views g c =
    kept_views g.row.N g.row.G c.args.world.now c.values-values.ensures.size c.requires.fit.sizes c.args.axis c.args.part c.args.round.toward c.values-values.result.now c.args.to.now c.copy_part.new.to c.copy_part.ensures
    c.args.block c.args.round c.requires.block c.requires.round refl c.values-values.ensures.value

pub returns-clause-others : goal.returns-clause-others
returns-clause-others g c =
    kept_others g.row.N g.row.G c.args.world.now c.values-values.ensures.size c.requires.fit.sizes c.args.axis c.args.part c.args.round.toward c.values-values.result.now c.args.to.now c.copy_part.new.to c.copy_part.ensures
    c.requires.steps (sym c.step_on.ensures ∙ c.if-step_on-ne1.false)
