use Rattle.std.proofs.Common.{rules, ◌≡◌, ◌+ℤ◌}
use Rattle.flux_conserve.specs.Sums.{four_at}
use Rattle.flux_conserve.proofs.FacePlaces.{four_are}
use Rattle.flux_conserve.proofs.faces.sum_of_four.Goals as goal

pub returns-clause-value : goal.returns-clause-value
returns-clause-value c =
    let is : ((c.face-a.result +ℤ c.face-b.result) +ℤ c.face-c.result) +ℤ c.face-d.result ≡ four_at c.args.faces.n c.args.faces.g c.args.faces.axis c.args.values.now c.args.p c.args.s c.args.t =
    four_are c.args.faces.n c.args.faces.g c.args.faces.axis c.args.values.now c.args.p c.args.s c.args.t _ _ _ _ c.face-a.ensures c.face-b.ensures c.face-c.ensures c.face-d.ensures in
    search rules
