use Rattle.std.proofs.Common.{◌≡◌, false, take}
use Rattle.outside_io.specs.Pending.{is_in}
use Rattle.std.specs.List.{list_any}
use Rattle.outside_io.proofs.pending.is_among.Given as goal

abbrev pub invariant-loop-span : goal.invariant-loop-span
invariant-loop-span l = list_any (is_in l.k) (take l.span-index l.spans) ≡ false
