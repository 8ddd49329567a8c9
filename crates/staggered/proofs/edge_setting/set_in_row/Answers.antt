use Rattle.std.proofs.Common.{rules, ◌≡◌, ◌<◌, ℕ, ℤ, ap, length, of_z, to_z, w64, ◌∙◌}
use Rattle.amr_num.specs.Numbers.{at}
use Rattle.block_tree.specs.Directions.{edge_name}
use Rattle.staggered.specs.EdgeSetting.{set_or}
use Rattle.staggered.proofs.EdgeSet.{one_more_set, others_wait}
use Rattle.staggered.proofs.edge_setting.set_in_row.Goals as goal

pub loop-t-preserved : goal.loop-t-preserved
loop-t-preserved c =
    let out = c.loop-t.out in
    let t = c.loop-t.t in
    let edge = c.args.target.now.edge in
    let value = c.args.target.now.value in
    let x = to_z w64 (of_z w64 c.number_of.result) in
    let kept : x ≡ c.number_of.result = search rules in
    let want : ℕ → ℤ → ℤ = λ p old. set_or edge value (edge_name c.args.shape.now c.args.row.axis c.args.row.block p c.args.row.j c.args.row.k) old in
    let inside : t < length out = search rules in
    let read : c.number_of.result ≡ set_or edge value c.name_of-name.result (at out t) = search rules in
    let is : x ≡ want t (at out t) = kept ∙ read ∙ ap (λ e. set_or edge value e (at out t)) c.name_of-name.ensures in
    record {
      done = one_more_set out c.args.out.now t x want inside c.loop-t.invariant.waits c.loop-t.invariant.done is;
      waits = others_wait out c.args.out.now t x want inside c.loop-t.invariant.waits;
    }
