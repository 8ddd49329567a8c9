use Rattle.std.proofs.Common.{arith}
use Rattle.std.proofs.lemmas.List.{length-set}
use Rattle.check_disk.specs.Listed.{listed_image}
use Rattle.check_disk.specs.ListedLaws.{length-listed}
use Rattle.check_disk.proofs.ListedBytes.{one_byte}
use Rattle.check_disk.proofs.list_pieces.fill.Goals as goal

pub loop-n-preserved : goal.loop-n-preserved
loop-n-preserved c =
    let i = c.loop-n.invariant in
    let n = c.loop-n.n in
    let long = length-listed c.args.bytes.now c.args.turn in
    let same = length-set c.loop-n.buf n c.byte_of.result in
    record {
      room = omega arith;
      size = omega arith;
      bytes = one_byte (listed_image c.args.bytes.now c.args.turn) c.loop-n.buf c.args.given n c.byte_of.result (omega arith) (omega arith) c.byte_of.ensures i.bytes;
    }
