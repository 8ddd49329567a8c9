use Rattle.std.proofs.Common.{◌≡◌, ◌+◌, ◌*◌, ◌^◌}
use Rattle.std.specs.Prelude.{slice_index}
use Rattle.amr_num.specs.Numbers.{Within, at, sum_below}
use Rattle.restrict_op.proofs.fine.sum_at.Given as goal

abbrev pub invariant-loop-q : goal.invariant-loop-q
invariant-loop-q l = (l.sum ≡ sum_below l.q (λ q. at l.values (l.from + slice_index l.steps q))) × Within (l.q * 2 ^ 64) l.sum
