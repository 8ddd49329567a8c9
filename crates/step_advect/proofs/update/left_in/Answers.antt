use Rattle.std.proofs.Common.{◌^◌, rules, subst, sym, w64, pos, slice_index_or}
use Rattle.std.proofs.lemmas.Int.{to_z-of_z}
use mir.Val.{SFits}
use Rattle.amr_num.specs.Numbers.{Within}
use Rattle.step_advect.proofs.update.left_in.Goals as goal

pub less-requires-clause-content : goal.less-requires-clause-content
less-requires-clause-content c =
    let content = slice_index_or c.args.cells.now c.args.t (pos 0) in
    let fits : SFits w64 content = search rules in
    subst (Within (2 ^ 40)) (sym (to_z-of_z w64 content fits)) (c.requires.small.content c.args.t c.requires.inside)
