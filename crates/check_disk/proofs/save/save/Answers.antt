use Rattle.std.proofs.Common.{◌≡◌, ◌⊎◌, subst, sym}
use Rattle.outside_io.specs.Crash.{LeavesOnly}
use Rattle.outside_io.proofs.Moments.{still_rests}
use Rattle.outside_io.proofs.Places.{told}
use Rattle.check_disk.specs.declared.target.Target.{Target}
use Rattle.check_disk.specs.Held.{next_of}
use Rattle.check_disk.specs.Steps.{IsWritten, IsBehind, IsOpened}
use Rattle.check_disk.proofs.Saved.{to_make, to_body, to_open, done}
use Rattle.check_disk.proofs.save.save.Goals as goal

pub returns-in_err-closed-clause-moments : goal.returns-in_err-closed-clause-moments
returns-in_err-closed-clause-moments g c = λ areas rests whole.
    let f = g.P.Pieces.format in
    let mesh = g.P.Pieces.mesh c.args.pieces.now in
    let t = c.in_ok-target.target in
    let next = told (g.D.Disk.holds c.args.disk.now) (λ x. next_of x ≡ t) areas rests.told c.in_ok-target.ensures.next in
    let few = c.in_ok-target.ensures.few in
    let made = to_make f t areas mesh next whole few c.requires.fits g.D.Disk.holds g.D.Disk.may_leave g.D.Disk.moment g.D.Disk.left_since c.args.disk.now c.survey.new.disk c.make.new.disk c.survey.ensures.reads rests c.make.ensures.moments in
    made

pub returns-in_err-body-clause-moments : goal.returns-in_err-body-clause-moments
returns-in_err-body-clause-moments g c = λ areas rests whole.
    let f = g.P.Pieces.format in
    let mesh = g.P.Pieces.mesh c.args.pieces.now in
    let t = c.in_ok-target.target in
    let next = told (g.D.Disk.holds c.args.disk.now) (λ x. next_of x ≡ t) areas rests.told c.in_ok-target.ensures.next in
    let few = c.in_ok-target.ensures.few in
    let made = to_make f t areas mesh next whole few c.requires.fits g.D.Disk.holds g.D.Disk.may_leave g.D.Disk.moment g.D.Disk.left_since c.args.disk.now c.survey.new.disk c.make.new.disk c.survey.ensures.reads rests c.make.ensures.moments in
    let closed = c.in_ok-closed.closed.target in
    let same : closed ≡ t = c.in_ok-closed.ensures.target in
    let still = still_rests g.D.Disk.holds g.D.Disk.may_leave g.D.Disk.moment g.D.Disk.left_since c.args.disk.now c.survey.new.disk areas c.survey.ensures.reads rests in
    let ready = c.in_ok-closed.ensures.ready areas still in
    let wrote = to_body f t areas mesh next whole few c.requires.fits g.D.Disk.holds g.D.Disk.may_leave g.D.Disk.moment g.D.Disk.left_since c.args.disk.now c.make.new.disk c.body.new.disk closed ready.0 same made ready.3 (c.body.ensures.moments ready.0 ready.1) in
    wrote

pub returns-in_err-open-clause-moments : goal.returns-in_err-open-clause-moments
returns-in_err-open-clause-moments g c = λ areas rests whole.
    let f = g.P.Pieces.format in
    let mesh = g.P.Pieces.mesh c.args.pieces.now in
    let t = c.in_ok-target.target in
    let next = told (g.D.Disk.holds c.args.disk.now) (λ x. next_of x ≡ t) areas rests.told c.in_ok-target.ensures.next in
    let few = c.in_ok-target.ensures.few in
    let made = to_make f t areas mesh next whole few c.requires.fits g.D.Disk.holds g.D.Disk.may_leave g.D.Disk.moment g.D.Disk.left_since c.args.disk.now c.survey.new.disk c.make.new.disk c.survey.ensures.reads rests c.make.ensures.moments in
    let closed = c.in_ok-closed.closed.target in
    let same : closed ≡ t = c.in_ok-closed.ensures.target in
    let still = still_rests g.D.Disk.holds g.D.Disk.may_leave g.D.Disk.moment g.D.Disk.left_since c.args.disk.now c.survey.new.disk areas c.survey.ensures.reads rests in
    let ready = c.in_ok-closed.ensures.ready areas still in
    let wrote = to_body f t areas mesh next whole few c.requires.fits g.D.Disk.holds g.D.Disk.may_leave g.D.Disk.moment g.D.Disk.left_since c.args.disk.now c.make.new.disk c.body.new.disk closed ready.0 same made ready.3 (c.body.ensures.moments ready.0 ready.1) in
    let written = c.in_ok-body.ensures.written ready.0 ready.1 in
    let is_written = subst (λ (x : Target). IsWritten written.0 x (f.image mesh closed.turn)) (sym c.in_ok-body.ensures.target) written.2 in
    to_open f t areas mesh next whole few c.requires.fits g.D.Disk.holds g.D.Disk.may_leave g.D.Disk.moment g.D.Disk.left_since c.args.disk.now c.body.new.disk c.open.new.disk closed ready.0 written.0 same wrote ready.3 written.3
    (subst (λ (x : Target). LeavesOnly g.D.Disk.moment g.D.Disk.left_since c.body.new.disk c.open.new.disk (λ e. IsBehind x.area written.0 e ⊎ IsOpened x.area (f.image mesh closed.turn) written.0 e)) c.in_ok-body.ensures.target (c.open.ensures.moments written.0 (f.image mesh closed.turn) written.1 is_written))

pub returns-clause-moments : goal.returns-clause-moments
returns-clause-moments g c = λ areas rests whole.
    let f = g.P.Pieces.format in
    let mesh = g.P.Pieces.mesh c.args.pieces.now in
    let t = c.in_ok-target.target in
    let next = told (g.D.Disk.holds c.args.disk.now) (λ x. next_of x ≡ t) areas rests.told c.in_ok-target.ensures.next in
    let few = c.in_ok-target.ensures.few in
    let made = to_make f t areas mesh next whole few c.requires.fits g.D.Disk.holds g.D.Disk.may_leave g.D.Disk.moment g.D.Disk.left_since c.args.disk.now c.survey.new.disk c.make.new.disk c.survey.ensures.reads rests c.make.ensures.moments in
    let closed = c.in_ok-closed.closed.target in
    let same : closed ≡ t = c.in_ok-closed.ensures.target in
    let still = still_rests g.D.Disk.holds g.D.Disk.may_leave g.D.Disk.moment g.D.Disk.left_since c.args.disk.now c.survey.new.disk areas c.survey.ensures.reads rests in
    let ready = c.in_ok-closed.ensures.ready areas still in
    let wrote = to_body f t areas mesh next whole few c.requires.fits g.D.Disk.holds g.D.Disk.may_leave g.D.Disk.moment g.D.Disk.left_since c.args.disk.now c.make.new.disk c.body.new.disk closed ready.0 same made ready.3 (c.body.ensures.moments ready.0 ready.1) in
    let written = c.in_ok-body.ensures.written ready.0 ready.1 in
    let is_written = subst (λ (x : Target). IsWritten written.0 x (f.image mesh closed.turn)) (sym c.in_ok-body.ensures.target) written.2 in
    to_open f t areas mesh next whole few c.requires.fits g.D.Disk.holds g.D.Disk.may_leave g.D.Disk.moment g.D.Disk.left_since c.args.disk.now c.body.new.disk c.open.new.disk closed ready.0 written.0 same wrote ready.3 written.3
    (subst (λ (x : Target). LeavesOnly g.D.Disk.moment g.D.Disk.left_since c.body.new.disk c.open.new.disk (λ e. IsBehind x.area written.0 e ⊎ IsOpened x.area (f.image mesh closed.turn) written.0 e)) c.in_ok-body.ensures.target (c.open.ensures.moments written.0 (f.image mesh closed.turn) written.1 is_written))

pub returns-clause-saved : goal.returns-clause-saved
returns-clause-saved g c = λ areas rests whole.
    let f = g.P.Pieces.format in
    let mesh = g.P.Pieces.mesh c.args.pieces.now in
    let t = c.in_ok-target.target in
    let next = told (g.D.Disk.holds c.args.disk.now) (λ x. next_of x ≡ t) areas rests.told c.in_ok-target.ensures.next in
    let few = c.in_ok-target.ensures.few in
    let closed = c.in_ok-closed.closed.target in
    let same : closed ≡ t = c.in_ok-closed.ensures.target in
    let still = still_rests g.D.Disk.holds g.D.Disk.may_leave g.D.Disk.moment g.D.Disk.left_since c.args.disk.now c.survey.new.disk areas c.survey.ensures.reads rests in
    let ready = c.in_ok-closed.ensures.ready areas still in
    let written = c.in_ok-body.ensures.written ready.0 ready.1 in
    let is_written = subst (λ (x : Target). IsWritten written.0 x (f.image mesh closed.turn)) (sym c.in_ok-body.ensures.target) written.2 in
    let after = c.in_ok-open.ensures.opened written.0 (f.image mesh closed.turn) written.1 is_written in
    let is_open = subst (λ (x : Target). IsOpened x.area (f.image mesh closed.turn) written.0 after.0) c.in_ok-body.ensures.target after.2 in
    (after.0, after.1, done f t areas mesh next whole few c.requires.fits closed ready.0 written.0 after.0 same ready.3 written.3 is_open)
