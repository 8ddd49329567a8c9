use Rattle.std.proofs.Common.{◌<◌, ◌∙◌, arith, true}
use Rattle.block_tree.proofs.Parts.{next_few, one_more}
use Rattle.mesh_model.specs.Fields.FaceSplits.{by_axis}
use Rattle.leaf_split.proofs.EdgeParts.{all_held, one_more_held}
use Rattle.leaf_split.proofs.edges.keep_parts.Goals as goal

pub loop-number-preserved : goal.loop-number-preserved
loop-number-preserved g c =
    let w = c.args.world.now in
    let b = c.args.block in
    let l = c.loop-number in
    let number = l.number in
    let bit = c.direction_bit-kept.result in
    let part = c.keep_part-stands in
    let few : number < 27 = let t = c.loop-number-test.true in omega arith in
    record {
      few = next_few l.kept number bit part.result l.invariant.few c.direction_bit-kept.ensures.value;
      parts = one_more w.told.grid true b l.kept number bit part.result l.invariant.parts l.invariant.few c.direction_bit-kept.ensures.value part.ensures.part.stands;
      cx = part.ensures.cx ∙ l.invariant.cx;
      cy = part.ensures.cy ∙ l.invariant.cy;
      cz = part.ensures.cz ∙ l.invariant.cz;
      views = one_more_held w b number part.result (by_axis l.cx l.cy l.cz) (by_axis part.new.cx part.new.cy part.new.cz) few l.invariant.views part.ensures.part part.ensures.others;
    }

pub returns-clause-views : goal.returns-clause-views
returns-clause-views g c =
    let l = c.loop-number in
    all_held c.args.world.now c.args.block l.number (by_axis l.cx l.cy l.cz) (let t = c.loop-number-test.false in let e = l.auto.number-end in omega arith) l.invariant.views
