use Rattle.std.proofs.Common.{◌≡◌, List, ℤ, ap, subst, sym, ◌∙◌}
use Rattle.mesh_model.specs.Fields.Arrays.{array_in}
use Rattle.mesh_model.specs.Fields.Ranks.{Told, rank_at}
use Rattle.block_tree.specs.Numbered.{block_at}
use Rattle.regrid_move.specs.AxisMoves.{HoldsAxis, array_of}
use Rattle.regrid_move.proofs.AxisMoved.{one_moved}
use Rattle.regrid_move.proofs.axes.copy_axis.Goals as goal

pub returns-clause-views : goal.returns-clause-views
returns-clause-views g c field holds =
    let k = c.args.kind in
    let old = c.args.old.now in
    let a = c.args.axis in
    let put = c.put_axis in
    let numbers : c.values-values.result.now ≡ array_of k old a c.args.from = c.values-values.ensures.value ∙ ap (λ v. array_in (rank_at old 0).own.values v c.args.from) c.var_of.ensures in
    one_moved k old put.new.new field c.args.node a (block_at old.told.grid c.args.from) c.values-values.result.now
    (ap (λ (t : Told). block_at t.grid c.args.node) put.ensures.only.told ∙ sym c.requires.same) put.ensures.value
    (subst (λ (xs : List ℤ). HoldsAxis k old.told.grid field a (block_at old.told.grid c.args.from) xs) (sym numbers) (holds c.args.from c.requires.from a))
