use Rattle.std.proofs.Common.{rules, ◌≡◌, pos, sym, subst}
use Rattle.std.specs.Prelude.{replicate}
use Rattle.mesh_model.specs.Fields.FinePlaces.{FineSumsAreSmall}
use Rattle.mesh_model.specs.Fields.Octants.{SumsAreSmall}
use Rattle.mesh_model.specs.Fields.ArrayPlaces.{cell_extents, extents_of, number_at}
use Rattle.restrict_op.proofs.Fives.{few_fine, few_fives}
use Rattle.restrict_op.proofs.tests.fives.Goals as goal

pub returns-in-Ok-clause-few : goal.returns-in-Ok-clause-few
returns-in-Ok-clause-few c =
    let is : c.in-Ok.list.items ≡ replicate c.args.count (pos 5) = search rules in
    subst (λ xs. SumsAreSmall 4 1 (number_at (cell_extents 4 1) xs)) (sym is) (few_fives c.args.count)

pub returns-in-Ok-clause-fine : goal.returns-in-Ok-clause-fine
returns-in-Ok-clause-fine c var =
    let is : c.in-Ok.list.items ≡ replicate c.args.count (pos 5) = search rules in
    subst (λ xs. FineSumsAreSmall 4 1 var (number_at (extents_of 4 1 var) xs)) (sym is) (few_fine c.args.count var)
