use Rattle.std.proofs.Common.{◌≡◌, ◌+◌, ◌∙◌, sym, ap, ap₂, suc, arith, true}
use Rattle.std.proofs.lemmas.Bool.{le-leb}
use Rattle.std.specs.Prelude.{◌&&◌, nat_le}
use Rattle.mesh_model.specs.Geometry.Touch.{high_end, low_end}
use Rattle.amr_engine.proofs.region.lies_between.Goals as goal

pub returns-then-begins : goal.returns-then-begins
unfolding high_end low_end
returns-then-begins c =
    let next : c.args.at + 1 ≡ suc c.args.at = omega arith in
    let begins : nat_le (low_end c.args.box_level c.args.low) (low_end c.args.level c.args.at) ≡ true = ap₂ nat_le (sym c.begin_of.ensures) (sym c.begin_of-2.ensures) ∙ le-leb c.begin_of.result c.begin_of-2.result c.if-begins.true in
    let last : nat_le c.begin_of-3.result c.begin_of-4.result ≡ nat_le (high_end c.args.level c.args.at) (low_end c.args.box_level c.args.high) = ap₂ nat_le (c.begin_of-3.ensures ∙ ap (λ a. low_end c.args.level a) next) c.begin_of-4.ensures in
    last ∙ sym (ap (λ b. b && nat_le (high_end c.args.level c.args.at) (low_end c.args.box_level c.args.high)) begins)
