use Rattle.std.proofs.Common.{◌≡◌, Err, IfErr, None, Some, ap, arith, subst, sym, ◌∙◌}
use Rattle.std.proofs.lemmas.Result.{err_from_is_err_and}
use Rattle.amr_num.specs.declared.Axis.TheVariants.{X, Y, Z}
use Rattle.block_tree.specs.Numbered.{block_at}
use Rattle.mesh_model.specs.Fields.Ranks.{Told}
use Rattle.mesh_model.specs.Tree.Kinds.{Grid}
use Rattle.rank_world.specs.FaceRange.{CountLeafFaces, axis_above, first_above}
use Rattle.rank_world.specs.declared.faces.FaceAbove.{FaceAbove}
use Rattle.step_induct.specs.Circling.{counted}
use Rattle.mesh_steps.specs.Circulations.{stepped}
use Rattle.mesh_steps.proofs.StepWalk.{err_mapped, has_all, may_still, ok_any, ok_mapped, on_last, on_second, same_after_one, shows_first, shows_second}
use Rattle.mesh_steps.proofs.circulations.step_leaf.Goals as goal

pub step_axis-requires : goal.step_axis-requires
step_axis-requires g c =
    let w = c.args.world.now in
    let block : c.at.result ≡ block_at w.told.grid c.args.node = c.at.ensures.value ∙ ap (λ h. block_at h c.args.node) c.tree-tree.ensures in
    let counts : CountLeafFaces w.told.grid (block_at w.told.grid c.args.node) (counted X c.leaf_sides-sides.result) =
    subst (λ b. CountLeafFaces w.told.grid b (counted X c.leaf_sides-sides.result)) block (subst (λ (h : Grid). CountLeafFaces h c.at.result (counted X c.leaf_sides-sides.result)) c.tree-tree.ensures (c.leaf_sides-sides.ensures X)) in
    (omega arith, (c.requires.leaf, counts))

pub step_axis-requires-2 : goal.step_axis-requires-2
step_axis-requires-2 g c =
    let w = c.args.world.now in
    let a = c.step_axis.new.world in
    let only = c.step_axis.ensures.only in
    let block : c.at.result ≡ block_at w.told.grid c.args.node = c.at.ensures.value ∙ ap (λ h. block_at h c.args.node) c.tree-tree.ensures in
    let counts : CountLeafFaces w.told.grid (block_at w.told.grid c.args.node) (counted Y c.leaf_sides-sides.result) =
    subst (λ b. CountLeafFaces w.told.grid b (counted Y c.leaf_sides-sides.result)) block (subst (λ (h : Grid). CountLeafFaces h c.at.result (counted Y c.leaf_sides-sides.result)) c.tree-tree.ensures (c.leaf_sides-sides.ensures Y)) in (
      omega arith,
      (
        may_still c.args.step w a (same_after_one c.args.step w a X c.args.node only) g.row.N g.row.G c.args.node c.step_axis.ensures.fit c.requires.leaf,
        subst (λ (t : Told). CountLeafFaces t.grid (block_at t.grid c.args.node) (counted Y c.leaf_sides-sides.result)) (sym only.told) counts,
      ),
    )

pub step_axis-requires-3 : goal.step_axis-requires-3
step_axis-requires-3 g c =
    let w = c.args.world.now in
    let a = c.step_axis.new.world in
    let b = c.step_axis-2.new.world in
    let only = c.step_axis.ensures.only in
    let more = c.step_axis-2.ensures.only in
    let block : c.at.result ≡ block_at w.told.grid c.args.node = c.at.ensures.value ∙ ap (λ h. block_at h c.args.node) c.tree-tree.ensures in
    let counts : CountLeafFaces w.told.grid (block_at w.told.grid c.args.node) (counted Z c.leaf_sides-sides.result) =
    subst (λ d. CountLeafFaces w.told.grid d (counted Z c.leaf_sides-sides.result)) block (subst (λ (h : Grid). CountLeafFaces h c.at.result (counted Z c.leaf_sides-sides.result)) c.tree-tree.ensures (c.leaf_sides-sides.ensures Z)) in
    let first = may_still c.args.step w a (same_after_one c.args.step w a X c.args.node only) g.row.N g.row.G c.args.node c.step_axis.ensures.fit c.requires.leaf in (
      omega arith,
      (
        may_still c.args.step a b (same_after_one c.args.step a b Y c.args.node more) g.row.N g.row.G c.args.node c.step_axis-2.ensures.fit first,
        subst (λ (t : Told). CountLeafFaces t.grid (block_at t.grid c.args.node) (counted Z c.leaf_sides-sides.result)) (sym (more.told ∙ only.told)) counts,
      ),
    )

pub returns-in_err-step_axis-2-clause-refused : goal.returns-in_err-step_axis-2-clause-refused
returns-in_err-step_axis-2-clause-refused g c faces edges shows =
    let w = c.args.world.now in
    let a = c.step_axis.new.world in
    let node = c.args.node in
    let found = c.in_err-step_axis-2.field-0.0 in
    let err = err_from_is_err_and c.from_residual-in_err-step_axis-2.result c.from_residual-in_err-step_axis-2.ensures.1 in
    let still = shows_first c.args.step w a node c.step_axis.ensures.only faces edges shows in
    subst (λ r. IfErr r (λ told. first_above w.told.grid (stepped c.args.step w.told.grid faces edges) (block_at w.told.grid node) ≡ Some told)) (sym (err.1 ∙ ap Err err.2))
    (on_second c.args.step w a node c.step_axis.ensures.only faces edges shows found (c.in_ok-step_axis.ensures.in_range faces edges shows) (c.in_err-step_axis-2.ensures.refused faces edges still))

pub returns-clause-has : goal.returns-clause-has
returns-clause-has g c faces edges shows =
    let w = c.args.world.now in
    let a = c.step_axis.new.world in
    let b = c.step_axis-2.new.world in
    let d = c.step_axis-3.new.world in
    let node = c.args.node in
    let first = shows_first c.args.step w a node c.step_axis.ensures.only faces edges shows in
    let second = shows_second c.args.step w a node c.step_axis.ensures.only faces edges shows b d c.step_axis-2.ensures.only c.step_axis-3.ensures.only in
    ok_any c.step_axis-3.result
    (has_all c.args.step w a node c.step_axis.ensures.only faces edges shows b d c.step_axis-2.ensures.only c.step_axis-3.ensures.only (c.step_axis.ensures.has faces edges shows) (c.step_axis-2.ensures.has faces edges first) (c.step_axis-3.ensures.has faces edges second))

pub returns-clause-in_range : goal.returns-clause-in_range
returns-clause-in_range g c faces edges shows =
    let w = c.args.world.now in
    let a = c.step_axis.new.world in
    let b = c.step_axis-2.new.world in
    let d = c.step_axis-3.new.world in
    let node = c.args.node in
    let first = shows_first c.args.step w a node c.step_axis.ensures.only faces edges shows in
    let second = shows_second c.args.step w a node c.step_axis.ensures.only faces edges shows b d c.step_axis-2.ensures.only c.step_axis-3.ensures.only in
    ok_mapped c.step_axis-3.result
    (on_last c.args.step w a node c.step_axis.ensures.only faces edges shows b d c.step_axis-2.ensures.only c.step_axis-3.ensures.only None (c.in_ok-step_axis.ensures.in_range faces edges shows) (c.in_ok-step_axis-2.ensures.in_range faces edges first))
    (c.step_axis-3.ensures.in_range faces edges second)

pub returns-clause-refused : goal.returns-clause-refused
returns-clause-refused g c faces edges shows =
    let w = c.args.world.now in
    let a = c.step_axis.new.world in
    let b = c.step_axis-2.new.world in
    let d = c.step_axis-3.new.world in
    let node = c.args.node in
    let first = shows_first c.args.step w a node c.step_axis.ensures.only faces edges shows in
    let second = shows_second c.args.step w a node c.step_axis.ensures.only faces edges shows b d c.step_axis-2.ensures.only c.step_axis-3.ensures.only in
    err_mapped (λ told. axis_above b.told.grid (stepped c.args.step b.told.grid faces edges) (block_at b.told.grid node) Z ≡ Some told) (λ told. first_above w.told.grid (stepped c.args.step w.told.grid faces edges) (block_at w.told.grid node) ≡ Some told) c.step_axis-3.result
    (λ (told : FaceAbove). on_last c.args.step w a node c.step_axis.ensures.only faces edges shows b d c.step_axis-2.ensures.only c.step_axis-3.ensures.only (Some told) (c.in_ok-step_axis.ensures.in_range faces edges shows) (c.in_ok-step_axis-2.ensures.in_range faces edges first))
    (c.step_axis-3.ensures.refused faces edges second)
