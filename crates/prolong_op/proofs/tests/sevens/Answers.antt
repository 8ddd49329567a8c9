use Rattle.std.proofs.Common.{rules, ◌≡◌, ◌^◌, pos, sym, subst}
use Rattle.std.specs.Prelude.{replicate}
use Rattle.amr_num.specs.Numbers.{Within, at}
use Rattle.prolong_op.proofs.Sevens.{few_sevens}
use Rattle.prolong_op.proofs.tests.sevens.Goals as goal

pub returns-in-Ok-clause-few : goal.returns-in-Ok-clause-few
returns-in-Ok-clause-few c p =
    let is : c.in-Ok.list.items ≡ replicate c.args.count (pos 7) = search rules in
    subst (λ xs. Within (2 ^ 40) (at xs p)) (sym is) (few_sevens c.args.count p)
