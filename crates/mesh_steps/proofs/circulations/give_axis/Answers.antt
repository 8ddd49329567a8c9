use Rattle.std.proofs.Common.{◌≡◌, IfErr, Some, subst, sym}
use Rattle.step_induct.specs.Circling.{first_above}
use Rattle.mesh_steps.specs.Circulations.{IsGiven, numbers_given}
use Rattle.mesh_steps.proofs.circulations.give_axis.Goals as goal

pub returns-in-Curl-clause-given : goal.returns-in-Curl-clause-given
returns-in-Curl-clause-given g c = subst (λ s. IsGiven s g.row.N g.row.G c.args.world.now c.circle_axis.new.world c.args.node c.args.axis) (sym c.in-Curl.is) c.circle_axis.ensures.given

pub returns-in-Curl-clause-refused : goal.returns-in-Curl-clause-refused
returns-in-Curl-clause-refused g c =
    subst (λ s. IfErr c.circle_axis.result (λ at. first_above g.row.N c.args.axis c.args.sides (numbers_given s g.row.N g.row.G c.args.world.now c.args.node c.args.axis) ≡ Some at)) (sym c.in-Curl.is) c.circle_axis.ensures.refused

pub returns-in-Induct-clause-given : goal.returns-in-Induct-clause-given
returns-in-Induct-clause-given g c = subst (λ s. IsGiven s g.row.N g.row.G c.args.world.now c.lessen_axis.new.world c.args.node c.args.axis) (sym c.in-Induct.is) c.lessen_axis.ensures.given

pub returns-in-Induct-clause-refused : goal.returns-in-Induct-clause-refused
returns-in-Induct-clause-refused g c =
    subst (λ s. IfErr c.lessen_axis.result (λ at. first_above g.row.N c.args.axis c.args.sides (numbers_given s g.row.N g.row.G c.args.world.now c.args.node c.args.axis) ≡ Some at)) (sym c.in-Induct.is) c.lessen_axis.ensures.refused
