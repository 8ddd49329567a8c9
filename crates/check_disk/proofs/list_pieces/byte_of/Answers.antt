use Rattle.std.proofs.Common.{arith}
use Rattle.check_disk.proofs.ListedBytes.{low_byte, turn_byte, high_byte}
use Rattle.check_disk.proofs.list_pieces.byte_of.Goals as goal

pub returns-then-k-lt8 : goal.returns-then-k-lt8
returns-then-k-lt8 c = low_byte c.args.bytes.now c.args.turn c.args.k c.if-k-lt8.true

pub returns-then-k-eq8 : goal.returns-then-k-eq8
returns-then-k-eq8 c = turn_byte c.args.bytes.now c.args.turn c.args.k c.if-k-eq8.true

pub returns : goal.returns
returns c = high_byte c.args.bytes.now c.args.turn c.args.k (omega arith)
