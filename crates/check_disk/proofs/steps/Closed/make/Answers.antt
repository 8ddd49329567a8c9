use Rattle.std.proofs.Common.{◌≡◌, ◌∷◌, drop, slice_get, Option, Some, IfSome, is_some, sym, subst, ap, ◌∙◌}
use Rattle.outside_io.specs.Areas.{Areas, bytes_of, with_bytes}
use Rattle.outside_io.proofs.Places.{told}
use Rattle.check_disk.proofs.Gates.{closed_reads}
use Rattle.check_disk.proofs.Running.{closing}
use Rattle.check_disk.proofs.steps.Closed.make.Goals as goal

pub returns-in_err-put_gate-clause-moments : goal.returns-in_err-put_gate-clause-moments
returns-in_err-put_gate-clause-moments g c = λ areas rests.
    let byte = told (g.D.Disk.holds c.args.disk.now) (λ x. c.in_ok-gate.gate ≡ slice_get (bytes_of x c.args.target.area) 0) areas rests.told c.in_ok-gate.ensures.byte in
    closing g.D.Disk.holds g.D.Disk.may_leave g.D.Disk.moment g.D.Disk.left_since c.args.disk.now c.byte_at.new.disk c.put_gate.new.disk c.args.target.area areas c.in_ok-gate.gate
    c.byte_at.ensures.reads rests byte (sym c.unwrap_or.ensures ∙ c.if-unwrap_or-ne1.false) c.put_gate.ensures.moments

pub returns-clause-closed : goal.returns-clause-closed
returns-clause-closed g c =
    let kept = c.byte_at.ensures.reads.kept in
    let put = subst (λ (o : Option Areas). IfSome o (λ areas. g.D.Disk.holds c.put_gate.new.disk ≡ Some (with_bytes areas c.args.target.area (0 ∷ drop 1 (bytes_of areas c.args.target.area))))) kept c.in_ok-put_gate.ensures.put in
    closed_reads (g.D.Disk.holds c.args.disk.now) (g.D.Disk.holds c.put_gate.new.disk) c.args.target c.requires.surveyed put (c.put_gate.ensures.tells ∙ ap is_some kept)

pub returns-clause-moments : goal.returns-clause-moments
returns-clause-moments g c = λ areas rests.
    let byte = told (g.D.Disk.holds c.args.disk.now) (λ x. c.in_ok-gate.gate ≡ slice_get (bytes_of x c.args.target.area) 0) areas rests.told c.in_ok-gate.ensures.byte in
    closing g.D.Disk.holds g.D.Disk.may_leave g.D.Disk.moment g.D.Disk.left_since c.args.disk.now c.byte_at.new.disk c.put_gate.new.disk c.args.target.area areas c.in_ok-gate.gate
    c.byte_at.ensures.reads rests byte (sym c.unwrap_or.ensures ∙ c.if-unwrap_or-ne1.false) c.put_gate.ensures.moments
