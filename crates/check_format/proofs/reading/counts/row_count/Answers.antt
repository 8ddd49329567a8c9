use Rattle.std.proofs.Common.{◌≡◌, ◌+◌, ap, sym, ◌∙◌, arith}
use Rattle.block_tree.specs.GridOf.{grid_of}
use Rattle.block_tree.specs.Numbered.{block_at}
use Rattle.check_format.specs.Own.{place}
use Rattle.check_format.specs.Written.{is_own_place}
use Rattle.check_format.proofs.Counting.{one, one_few, one_is, pass_more}
use Rattle.check_format.proofs.reading.counts.row_count.Goals as goal

pub loop-i-preserved : goal.loop-i-preserved
loop-i-preserved c =
    let g = grid_of c.args.tree.now in
    let row = c.args.row in
    let before = c.loop-i.invariant.few in
    let here = c.from-count.ensures ∙ one_is c.is_own.result in
    let few = one_few c.is_own.result in
    record {
      value = ap (λ n. c.loop-i.count + n) (here ∙ ap one c.is_own.ensures)
          ∙ pass_more (is_own_place row.group g (block_at g row.node) row.axis) (λ i. place i row.j row.k) c.loop-i.i c.loop-i.count c.loop-i.invariant.value;
      few = omega arith;
    }
