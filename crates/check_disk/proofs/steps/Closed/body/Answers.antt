use Rattle.std.proofs.Common.{◌≡◌, ◌++◌, Some, is_some, take, ap, ◌∙◌}
use Rattle.outside_io.specs.Areas.{bytes_of, with_bytes}
use Rattle.outside_io.proofs.Places.{told, here, twice}
use Rattle.check_disk.specs.Steps.{IsReady}
use Rattle.check_disk.proofs.Gates.{after_cut, writes, written_reads, synced}
use Rattle.check_disk.proofs.Running.{writing, syncing}
use Rattle.check_disk.proofs.steps.Closed.body.Goals as goal

pub returns-in_err-put_image-clause-moments : goal.returns-in_err-put_image-clause-moments
returns-in_err-put_image-clause-moments g c = λ areas rests.
    let t = c.args.self.target in
    let ready = told (g.D.Disk.holds c.args.disk.now) (λ x. IsReady x t) areas rests.told c.requires.ready in
    writing g.D.Disk.holds g.D.Disk.may_leave g.D.Disk.moment g.D.Disk.left_since c.args.disk.now c.cut.new.self c.put_image.new.disk t.area areas rests ready.shut
    (g.met.D.Disk.only_now c.args.disk.now) c.cut.ensures.crash c.cut.ensures.time c.put_image.ensures.moments

pub returns-in_err-sync-clause-moments : goal.returns-in_err-sync-clause-moments
returns-in_err-sync-clause-moments g c = λ areas rests.
    let t = c.args.self.target in
    let ready = told (g.D.Disk.holds c.args.disk.now) (λ x. IsReady x t) areas rests.told c.requires.ready in
    let wrote = writing g.D.Disk.holds g.D.Disk.may_leave g.D.Disk.moment g.D.Disk.left_since c.args.disk.now c.cut.new.self c.put_image.new.disk t.area areas rests ready.shut
    (g.met.D.Disk.only_now c.args.disk.now) c.cut.ensures.crash c.cut.ensures.time c.put_image.ensures.moments in
    syncing g.D.Disk.holds g.D.Disk.may_leave g.D.Disk.moment g.D.Disk.left_since c.args.disk.now c.cut.new.self c.put_image.new.disk c.sync.new.self t.area areas ready.shut wrote
    (after_cut t.area areas (g.D.Disk.may_leave c.args.disk.now) (g.D.Disk.may_leave c.cut.new.self) ready.shut rests.only c.cut.ensures.crash) c.put_image.ensures.crash c.sync.ensures.crash c.sync.ensures.time

pub returns-clause-moments : goal.returns-clause-moments
returns-clause-moments g c = λ areas rests.
    let t = c.args.self.target in
    let ready = told (g.D.Disk.holds c.args.disk.now) (λ x. IsReady x t) areas rests.told c.requires.ready in
    let wrote = writing g.D.Disk.holds g.D.Disk.may_leave g.D.Disk.moment g.D.Disk.left_since c.args.disk.now c.cut.new.self c.put_image.new.disk t.area areas rests ready.shut
    (g.met.D.Disk.only_now c.args.disk.now) c.cut.ensures.crash c.cut.ensures.time c.put_image.ensures.moments in
    syncing g.D.Disk.holds g.D.Disk.may_leave g.D.Disk.moment g.D.Disk.left_since c.args.disk.now c.cut.new.self c.put_image.new.disk c.sync.new.self t.area areas ready.shut wrote
    (after_cut t.area areas (g.D.Disk.may_leave c.args.disk.now) (g.D.Disk.may_leave c.cut.new.self) ready.shut rests.only c.cut.ensures.crash) c.put_image.ensures.crash c.sync.ensures.crash c.sync.ensures.time

pub returns-clause-written : goal.returns-clause-written
returns-clause-written g c = λ areas rests.
    let t = c.args.self.target in
    let ready = told (g.D.Disk.holds c.args.disk.now) (λ x. IsReady x t) areas rests.told c.requires.ready in
    let keeps = after_cut t.area areas (g.D.Disk.may_leave c.args.disk.now) (g.D.Disk.may_leave c.cut.new.self) ready.shut rests.only c.cut.ensures.crash in
    let gate = take 1 (bytes_of areas t.area) in
    let image = g.P.Pieces.format.image (g.P.Pieces.mesh c.args.pieces.now) t.turn in
    let is_cut = told (g.D.Disk.holds c.args.disk.now) (λ x. g.D.Disk.holds c.cut.new.self ≡ Some (with_bytes x t.area (take 1 (bytes_of x t.area)))) areas rests.told c.in_ok-cut.ensures.bytes in
    let wrote = told (g.D.Disk.holds c.cut.new.self) (λ x. g.D.Disk.holds c.put_image.new.disk ≡ Some (with_bytes x t.area (bytes_of x t.area ++ image))) (with_bytes areas t.area gate) is_cut c.in_ok-put_image.ensures.done in
    let holds = wrote ∙ ap Some (twice areas t.area gate (bytes_of (with_bytes areas t.area gate) t.area ++ image) ∙ ap (λ l. with_bytes areas t.area (l ++ image)) (here areas t.area gate)) in
    let whole = writes t areas image ready in (
      with_bytes areas t.area (gate ++ image),
      synced g.D.Disk.holds g.D.Disk.may_leave c.put_image.new.disk c.sync.new.self t.area areas (gate ++ image) holds c.sync.ensures.kept c.sync.ensures.crash c.in_ok-sync.ensures.durable
          (λ e left. (c.put_image.ensures.crash areas keeps e left).there),
      whole.0,
      whole.1,
    )

pub returns-clause-put : goal.returns-clause-put
returns-clause-put g c =
    written_reads (g.D.Disk.holds c.args.disk.now) (g.D.Disk.holds c.cut.new.self) (g.D.Disk.holds c.put_image.new.disk) (g.D.Disk.holds c.sync.new.self) c.args.self.target (g.P.Pieces.format.image (g.P.Pieces.mesh c.args.pieces.now) c.args.self.target.turn)
    c.requires.ready c.in_ok-cut.ensures.bytes c.in_ok-put_image.ensures.done c.sync.ensures.kept (ap is_some c.sync.ensures.kept ∙ c.put_image.ensures.tells ∙ c.cut.ensures.tells)
