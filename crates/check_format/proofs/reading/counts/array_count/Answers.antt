use Rattle.std.proofs.Common.{arith}
use Rattle.block_tree.specs.GridOf.{grid_of}
use Rattle.block_tree.specs.Numbered.{block_at}
use Rattle.check_format.specs.Counts.{own_plane}
use Rattle.check_format.proofs.Counting.{count_more}
use Rattle.check_format.proofs.reading.counts.array_count.Goals as goal

pub loop-k-preserved : goal.loop-k-preserved
loop-k-preserved c =
    let g = grid_of c.args.tree.now in
    let row = c.args.row in
    let few = c.plane_count-count.ensures.few in
    let before = c.loop-k.invariant.few in
    record {
      value = count_more (own_plane row.group g (block_at g row.node) row.axis) c.loop-k.k c.loop-k.count c.plane_count-count.result c.loop-k.invariant.value c.plane_count-count.ensures.value;
      few = omega arith;
    }
