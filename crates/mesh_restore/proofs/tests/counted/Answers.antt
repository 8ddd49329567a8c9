use Rattle.std.proofs.Common.{◌≡◌, ◌<◌, ◌^◌, ◌∙◌, ℕ, ℤ, pos, w64, to_z, of_z, sym, subst, arith}
use Rattle.amr_num.specs.Numbers.{Within}
use Rattle.amr_num.proofs.Machine.{kept}
use Rattle.mesh_restore.specs.Filling.{AreWithin}
use Rattle.mesh_restore.proofs.Pushed.{within_push}
use Rattle.mesh_restore.proofs.tests.counted.Goals as goal

small : (n : ℕ) (z : ℤ) → z ≡ pos n → n < 2 ^ 16 → Within (2 ^ 40) (to_z w64 (of_z w64 z))
small n z is below =
    let same = kept z (2 ^ 16) (subst (Within (2 ^ 16)) (sym is) (omega arith)) (omega arith) ∙ is in
    subst (Within (2 ^ 40)) (sym same) (omega arith)

pub loop-number-preserved : goal.loop-number-preserved
loop-number-preserved c = record { within = subst (AreWithin (2 ^ 40)) (sym c.in_ok-push.ensures.items) (within_push (2 ^ 40) c.loop-number.list.items _ c.loop-number.invariant.within (small c.loop-number.number c.from.result c.from.ensures (omega arith))) }
