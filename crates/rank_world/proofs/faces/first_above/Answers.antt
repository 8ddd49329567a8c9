use Rattle.std.proofs.Common.{◌∙◌, sym, ap}
use Rattle.std.specs.Option.{option_or}
use Rattle.amr_num.specs.declared.Axis.TheVariants.{X, Y, Z}
use Rattle.block_tree.specs.Numbered.{block_at}
use Rattle.rank_world.specs.FaceRange.{axis_above}
use Rattle.rank_world.proofs.Found.{first_of, rest_of}
use Rattle.rank_world.proofs.faces.first_above.Goals as goal

pub returns-then-is_some : goal.returns-then-is_some
returns-then-is_some g c field has =
    let h = c.args.world.now.told.grid in
    let b = block_at h c.args.node in
    let on_x = c.axis_above-on_x.ensures field (has X) in
    first_of c.axis_above-on_x.result (option_or (axis_above h field b Y) (axis_above h field b Z)) (sym c.is_some.ensures ∙ c.if-is_some.true)
    ∙ ap (λ p. option_or p (option_or (axis_above h field b Y) (axis_above h field b Z))) on_x

pub returns-then-is_some-2 : goal.returns-then-is_some-2
returns-then-is_some-2 g c field has =
    let h = c.args.world.now.told.grid in
    let b = block_at h c.args.node in
    let on_x = c.axis_above-on_x.ensures field (has X) in
    let on_y = c.axis_above-on_y.ensures field (has Y) in
    first_of c.axis_above-on_y.result (axis_above h field b Z) (sym c.is_some-2.ensures ∙ c.if-is_some-2.true)
    ∙ ap (λ p. option_or p (axis_above h field b Z)) on_y
    ∙ rest_of c.axis_above-on_x.result (option_or (axis_above h field b Y) (axis_above h field b Z)) (sym c.is_some.ensures ∙ c.if-is_some.false)
    ∙ ap (λ p. option_or p (option_or (axis_above h field b Y) (axis_above h field b Z))) on_x

pub returns : goal.returns
returns g c field has =
    let h = c.args.world.now.told.grid in
    let b = block_at h c.args.node in
    let on_x = c.axis_above-on_x.ensures field (has X) in
    let on_y = c.axis_above-on_y.ensures field (has Y) in
    c.axis_above.ensures field (has Z)
    ∙ rest_of c.axis_above-on_y.result (axis_above h field b Z) (sym c.is_some-2.ensures ∙ c.if-is_some-2.false)
    ∙ ap (λ p. option_or p (axis_above h field b Z)) on_y
    ∙ rest_of c.axis_above-on_x.result (option_or (axis_above h field b Y) (axis_above h field b Z)) (sym c.is_some.ensures ∙ c.if-is_some.false)
    ∙ ap (λ p. option_or p (option_or (axis_above h field b Y) (axis_above h field b Z))) on_x
