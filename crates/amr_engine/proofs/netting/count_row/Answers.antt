use Rattle.std.proofs.Common.{◌≡◌, ◌+◌, ◌^◌, ◌+ℤ◌, ◌-ℤ◌, ap, ap₂, arith, of_z, rules, to_z, w64, ◌∙◌}
use Rattle.amr_num.specs.Numbers.{at}
use Rattle.amr_engine.specs.Netting.{counted}
use Rattle.mesh_steps.proofs.Machine.{wide}
use Rattle.amr_engine.proofs.Netted.{one_more}
use Rattle.amr_engine.proofs.netting.count_row.Goals as goal

pub loop-i-preserved : goal.loop-i-preserved
loop-i-preserved c =
    let i = c.loop-i.i in
    let x = c.args.x.now in
    let y_low = c.args.y_low.now in
    let y_high = c.args.y_high.now in
    let z_low = c.args.z_low.now in
    let z_high = c.args.z_high.now in
    let so_far = c.loop-i.invariant in
    let few = c.count_of-count.ensures.few in
    let before = so_far.few in
    let x_first : to_z w64 (of_z w64 (at x i)) ≡ at x i = search rules in
    let x_next : to_z w64 (of_z w64 (at x (i + 1))) ≡ at x (i + 1) = search rules in
    let y_first : to_z w64 (of_z w64 (at y_low i)) ≡ at y_low i = search rules in
    let y_next : to_z w64 (of_z w64 (at y_high i)) ≡ at y_high i = search rules in
    let z_first : to_z w64 (of_z w64 (at z_low i)) ≡ at z_low i = search rules in
    let z_next : to_z w64 (of_z w64 (at z_high i)) ≡ at z_high i = search rules in
    let on_x = wide c.difference-on_x.result (2 ^ 64) c.difference-on_x.ensures.small (omega arith) ∙ c.difference-on_x.ensures.value ∙ ap₂ (λ p q. p -ℤ q) x_next x_first in
    let on_y = wide c.difference-on_y.result (2 ^ 64) c.difference-on_y.ensures.small (omega arith) ∙ c.difference-on_y.ensures.value ∙ ap₂ (λ p q. p -ℤ q) y_next y_first in
    let on_z = wide c.difference-on_z.result (2 ^ 64) c.difference-on_z.ensures.small (omega arith) ∙ c.difference-on_z.ensures.value ∙ ap₂ (λ p q. p -ℤ q) z_next z_first in
    record {
      so_far = one_more c.loop-i.count c.count_of-count.result i (λ t. counted ((at x (t + 1) -ℤ at x t) +ℤ (at y_high t -ℤ at y_low t) +ℤ (at z_high t -ℤ at z_low t))) so_far.so_far
          (c.count_of-count.ensures.value ∙ ap counted (wide c.net_of.result (2 ^ 66) c.net_of.ensures.small (omega arith) ∙ c.net_of.ensures.value ∙ ap₂ (λ p q. p +ℤ q) (ap₂ (λ p q. p +ℤ q) on_x on_y) on_z));
      few = omega (arith, few, before);
    }
