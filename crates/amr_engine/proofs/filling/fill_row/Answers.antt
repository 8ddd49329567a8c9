use Rattle.std.proofs.Common.{◌≡◌, ◌+◌, sym, ap, subst, ◌∙◌, arith, length, set, ◌^◌}
use Rattle.amr_num.proofs.Machine.{kept}
use Rattle.mesh_model.specs.Geometry.Places.{in_block}
use Rattle.amr_engine.specs.Filling.{IsFilledBelow}
use Rattle.amr_engine.specs.Regions.{covers}
use Rattle.amr_engine.proofs.Rows.{keeps, takes}
use Rattle.amr_engine.proofs.filling.fill_row.Goals as goal
use Rattle.amr_engine.proofs.filling.fill_row.Goals.{then-covers, else-covers}

pub loop-i-preserved : goal.loop-i-preserved
loop-i-preserved c =
    let old = c.args.row.now in
    let i = c.loop-i.i in
    let here : c.covers.result ≡ covers c.args.fill.region (in_block (length old) c.args.block i c.args.j c.args.k) = c.covers.ensures ∙ ap (covers c.args.fill.region) c.cell_in.ensures.value in
    elim c.if-covers.branch [
      | then-covers w ↦ subst (λ xs. IsFilledBelow (i + 1) old xs c.args.block c.args.j c.args.k c.args.fill) (sym w.row-is)
          (subst (λ v. IsFilledBelow (i + 1) old (set c.loop-i.row i v) c.args.block c.args.j c.args.k c.args.fill) (sym (kept c.args.fill.value (2 ^ 40) c.requires.value (omega arith))) (takes i old c.loop-i.row c.args.block c.args.j c.args.k c.args.fill c.loop-i.invariant (omega arith) (sym here ∙ w.if-covers.true)))
      | else-covers w ↦ subst (λ xs. IsFilledBelow (i + 1) old xs c.args.block c.args.j c.args.k c.args.fill) (sym w.row-is)
          (keeps i old c.loop-i.row c.args.block c.args.j c.args.k c.args.fill c.loop-i.invariant (omega arith) (sym here ∙ w.if-covers.false))
    ]

pub returns : goal.returns
returns c = record {
  size = c.loop-i.invariant.size;
  cells = λ i h. c.loop-i.invariant.done i (omega arith);
}
