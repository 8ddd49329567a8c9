use Rattle.std.proofs.Common.{◌≤◌, ap, subst, sym, ◌∙◌}
use Rattle.mesh_model.specs.Fields.ArrayPlaces.{size_of}
use Rattle.guard_fill.proofs.SumsOfVar.{most_numbers}
use Rattle.guard_fill.proofs.restricting.place_count.Goals as goal

pub returns-clause-few : goal.returns-clause-few
returns-clause-few c = subst (λ m. m ≤ 4624) (sym (c.count.ensures ∙ ap size_of c.of.ensures)) (most_numbers c.args.n c.args.g c.requires.size c.args.var)
