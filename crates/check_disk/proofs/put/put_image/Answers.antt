use Rattle.std.proofs.Common.{◌≡◌, inr, ◌≤◌, Some, ◌++◌, length, take, drop, IfSome, arith, ◌∙◌, ap, sym, subst}
use Rattle.outside_io.specs.Areas.{Areas, bytes_of, with_bytes}
use Rattle.outside_io.proofs.Moments.{goes_on}
use Rattle.check_disk.specs.Steps.{KeepsGate}
use Rattle.check_disk.proofs.Gates.{keeps_torn}
use Rattle.check_disk.proofs.Body.{place_fits, piece_written}
use Rattle.check_disk.proofs.put.put_image.Goals as goal

pub write_at-requires : goal.write_at-requires
write_at-requires g c =
    let i = c.loop-piece.invariant in
    place_fits (g.D.Disk.holds c.args.disk.now) (g.D.Disk.holds c.loop-piece.disk) c.args.target.area c.loop-piece.place (g.P.Pieces.given c.loop-piece.pieces) (g.P.Pieces.format.image (g.P.Pieces.mesh c.args.pieces.now) c.args.target.turn) c.requires.gate i.tells i.holds i.size i.place

pub returns-in_err-write_at-clause-crash : goal.returns-in_err-write_at-clause-crash
returns-in_err-write_at-clause-crash g c =
    λ base was e left.
    let from = c.write_at.ensures.crash e left in
    let i = c.loop-piece.invariant in
    keeps_torn c.args.target.area base from.0 e c.loop-piece.place _ (omega arith) (i.crash base was from.0 from.1) from.2

pub returns-in_err-write_at-clause-moments : goal.returns-in_err-write_at-clause-moments
returns-in_err-write_at-clause-moments g c =
    λ base was.
    goes_on g.D.Disk.moment g.D.Disk.left_since c.args.disk.now c.loop-piece.disk c.write_at.new.self (KeepsGate c.args.target.area base) _
    (c.loop-piece.invariant.moments base was) c.write_at.ensures.time (returns-in_err-write_at-clause-crash g c base was)

pub loop-piece-preserved : goal.loop-piece-preserved
loop-piece-preserved g c =
    let w = c.in_ok-write_at.ensures in
    let n = c.next-n.ensures in
    let i = c.loop-piece.invariant in
    let kept = λ (base : Areas) (was : (d : Areas) → g.D.Disk.may_leave c.args.disk.now d → KeepsGate c.args.target.area base d) (e : Areas) (left : g.D.Disk.may_leave c.write_at.new.self e).
    (let from = w.crash e left in keeps_torn c.args.target.area base from.0 e c.loop-piece.place _ (omega arith) (i.crash base was from.0 from.1) from.2) in
    record {
      place = omega arith;
      size = subst (λ m. g.P.Pieces.given c.next-n.new.self ≤ length (g.P.Pieces.format.image m c.args.target.turn)) i.mesh n.size;
      mesh = n.mesh ∙ i.mesh;
      turn = inr n.turn;
      holds = subst (λ k. IfSome (g.D.Disk.holds c.args.disk.now) (λ areas. g.D.Disk.holds c.write_at.new.self ≡ Some (with_bytes areas c.args.target.area (bytes_of areas c.args.target.area ++ take k (g.P.Pieces.format.image (g.P.Pieces.mesh c.args.pieces.now) c.args.target.turn))))) (sym n.given)
          (piece_written (g.D.Disk.holds c.args.disk.now) (g.D.Disk.holds c.loop-piece.disk) (g.D.Disk.holds c.write_at.new.self) c.args.target.area c.loop-piece.place (g.P.Pieces.given c.loop-piece.pieces) c.next-n.result (g.P.Pieces.format.image (g.P.Pieces.mesh c.args.pieces.now) c.args.target.turn) (take c.next-n.result c.next-n.new.buf)
          c.requires.gate i.holds w.bytes (n.bytes ∙ ap (λ m. take c.next-n.result (drop (g.P.Pieces.given c.loop-piece.pieces) (g.P.Pieces.format.image m c.args.target.turn))) i.mesh) i.size i.place);
      tells = w.tells ∙ i.tells;
      crash = kept;
      moments = λ base was. goes_on g.D.Disk.moment g.D.Disk.left_since c.args.disk.now c.loop-piece.disk c.write_at.new.self (KeepsGate c.args.target.area base) _ (i.moments base was) w.time (kept base was);
      calm = w.calm ∙ i.calm;
    }

pub overflow_add-place : goal.overflow_add-place
overflow_add-place g c =
    let i = c.loop-piece.invariant in
    let n = c.next-n.ensures in
    let size = subst (λ m. g.P.Pieces.given c.next-n.new.self ≤ length (g.P.Pieces.format.image m c.args.target.turn)) i.mesh n.size in
    let limit = g.P.Pieces.format.limit (g.P.Pieces.mesh c.args.pieces.now) c.args.target.turn c.requires.fits c.requires.few in
    omega arith
