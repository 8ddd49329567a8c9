use Rattle.std.proofs.Common.{◌+◌, ◌*◌, ◌^◌, arith, get_or, set, subst, sym, List, ℤ, to_z, of_z, w64}
use Rattle.std.proofs.lemmas.Int.{ints}
use Rattle.amr_num.specs.Numbers.{Within}
use Rattle.mesh_model.specs.declared.fields.values.Var.TheVariants.{Cell}
use Rattle.mesh_model.specs.Fields.Ranks.{world_with}
use Rattle.mesh_model.specs.Tree.Kinds.{Grid}
use Rattle.block_tree.specs.Numbered.{IsNumberOf}
use Rattle.guard_fill.specs.Trials.{IsTrial}
use Rattle.guard_fill.proofs.TrialWorlds.{put_trial}
use Rattle.guard_fill.proofs.tests.put.Goals as goal

pub returns-in-Some : goal.returns-in-Some
returns-in-Some c =
    let w = c.args.world.now in
    let node = c.in-Some.node in
    let p = get_or c.args.place 0 0 + 6 * get_or c.args.place 1 0 + 36 * get_or c.args.place 2 0 in
    let found : IsNumberOf w.told.grid c.args.at node = subst (λ (h : Grid). IsNumberOf h c.args.at node) c.tree.ensures c.in-Some.ensures in
    let x = to_z w64 (of_z w64 c.args.number) in
    let near : Within (2 ^ 40) x = (let low = c.if-number-ltminus100.false in let high = c.if-number-gt100.false in omega (arith, ints)) in
    subst (λ (ys : List ℤ). IsTrial (world_with w 0 (Cell 0) node (set ys p x))) (sym c.values_mut.ensures.value) (put_trial w node p x c.requires found.there near)
