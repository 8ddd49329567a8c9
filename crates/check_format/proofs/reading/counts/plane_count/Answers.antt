use Rattle.std.proofs.Common.{arith}
use Rattle.block_tree.specs.GridOf.{grid_of}
use Rattle.block_tree.specs.Numbered.{block_at}
use Rattle.check_format.specs.Counts.{own_row}
use Rattle.check_format.proofs.Counting.{count_more}
use Rattle.check_format.proofs.reading.counts.plane_count.Goals as goal

pub loop-j-preserved : goal.loop-j-preserved
loop-j-preserved c =
    let g = grid_of c.args.tree.now in
    let row = c.args.row in
    let few = c.row_count-count.ensures.few in
    let before = c.loop-j.invariant.few in
    record {
      value = count_more (own_row row.group g (block_at g row.node) row.axis row.k) c.loop-j.j c.loop-j.count c.row_count-count.result c.loop-j.invariant.value c.row_count-count.ensures.value;
      few = omega arith;
    }
