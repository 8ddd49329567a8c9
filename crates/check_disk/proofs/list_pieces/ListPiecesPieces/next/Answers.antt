use Rattle.std.proofs.Common.{arith}
use Rattle.check_disk.specs.ListedLaws.{length-listed}
use Rattle.check_disk.proofs.list_pieces.ListPiecesPieces.next.Goals as goal

pub returns-clause-size : goal.returns-clause-size
returns-clause-size c = let long = length-listed c.args.self.now.bytes.now c.args.turn in omega arith

pub returns-clause-end : goal.returns-clause-end
returns-clause-end c =
    let long = length-listed c.args.self.now.bytes.now c.args.turn in
    let room = c.requires.room in
    (λ z. let e = c.fill-n.ensures.end z (omega arith) in omega arith, λ e. let s = c.fill-n.ensures.size in omega arith)
