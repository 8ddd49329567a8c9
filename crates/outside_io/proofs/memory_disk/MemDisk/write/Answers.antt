use Rattle.std.proofs.Common.{◌<◌, length, ap, arith}
use Rattle.outside_io.specs.Log.{Wrote, HistoryState}
use Rattle.outside_io.specs.Memory.{AreasState, DiskState}
use Rattle.outside_io.proofs.Sound.{held_more, more_entries, spans_fit}
use Rattle.outside_io.proofs.memory_disk.MemDisk.write.Goals as goal

pub invariant_of-self-2 : goal.invariant_of-self-2
invariant_of-self-2 c =
    let inside = c.self.inside in
    let is = c.self.invariant in
    let kept = c.in-Ok.ensures.kept in
    let few : length inside.history.log < inside.calls.made = (let l = ap (λ (d : DiskState). length d.log) c.self.view_is in let m = ap (λ (d : DiskState). d.calls.made) c.self.view_is in let k = c.in_ok-begin.ensures.counted in omega arith) in
    let rooms = ap (λ (h : HistoryState). h.room) kept in
    let writes = ap (λ (h : HistoryState). h.written) kept in
    let held_room = ap (λ (h : AreasState). h.room) c.write-2.ensures in
    let room = is.0 in
    let most = is.2 in (
      omega arith,
      more_entries c.args.area (Wrote c.args.place c.args.piece.now) (length c.args.piece.now) inside.history c.write.new.self inside.calls.made kept few,
      omega arith,
      held_more c.args.area (Wrote c.args.place c.args.piece.now) (length c.args.piece.now) inside.history c.write.new.self inside.held.both c.write-2.new.self inside.held.room kept c.write-2.ensures is.3,
    )

pub write-requires-2-clause-few_a : goal.write-requires-2-clause-few_a
write-requires-2-clause-few_a c =
    let inside = c.self.inside in
    let few : length inside.history.log < inside.held.room = (let l = ap (λ (d : DiskState). length d.log) c.self.view_is in let m = ap (λ (d : DiskState). d.room) c.self.view_is in let k = c.in_ok-begin.ensures.room in omega arith) in
    (spans_fit inside.history.first inside.history.log inside.held.both inside.held.room c.self.invariant.3 few).0

pub write-requires-2-clause-few_b : goal.write-requires-2-clause-few_b
write-requires-2-clause-few_b c =
    let inside = c.self.inside in
    let few : length inside.history.log < inside.held.room = (let l = ap (λ (d : DiskState). length d.log) c.self.view_is in let m = ap (λ (d : DiskState). d.room) c.self.view_is in let k = c.in_ok-begin.ensures.room in omega arith) in
    (spans_fit inside.history.first inside.history.log inside.held.both inside.held.room c.self.invariant.3 few).1
