use Rattle.std.proofs.Common.{◌≡◌, ◌-◌, suc, ap, subst, sym, ◌∙◌, arith}
use Rattle.block_tree.specs.GridOf.{grid_of}
use Rattle.mesh_model.specs.declared.geometry.Shape.{Shape}
use Rattle.mesh_model.specs.Tree.Closure.{is_refined}
use Rattle.refine_marks.specs.Closing.{refined_from, spread_to}
use Rattle.refine_marks.specs.Flags.{AreFlagsOf}
use Rattle.refine_marks.specs.Planned.{marked_by}
use Rattle.refine_marks.proofs.RefinedLevels.{are_same, no_level, one_level, all_levels}
use Rattle.refine_marks.proofs.Valued.{marked_valid}
use Rattle.refine_marks.proofs.refining.flag_refined.Goals as goal

pub loop-level-init : goal.loop-level-init
loop-level-init c =
    let g = grid_of c.args.tree.now in
    let m = marked_by c.args.tree.now c.args.marks.now in
    let valid = marked_valid c.args.tree.now c.args.marks.now c.requires.marks in
    let top = ap (λ (s : Shape). s.max) c.shape-level.ensures.value in
    are_same g m.refine (refined_from m c.shape-level.result.max) c.flag_marked.new.flags (λ b. no_level m valid b ∙ ap (λ l. refined_from m l b) (sym top)) c.flag_marked.ensures

pub loop-level-preserved : goal.loop-level-preserved
loop-level-preserved c =
    let g = grid_of c.args.tree.now in
    let m = marked_by c.args.tree.now c.args.marks.now in
    let l = c.loop-level.level - 1 in
    let valid = marked_valid c.args.tree.now c.args.marks.now c.requires.marks in
    let room = c.shape-level.ensures.limits.max in
    let low = c.loop-level.auto.level in
    let next : suc l ≡ c.loop-level.level = omega arith in
    let before : AreFlagsOf g (refined_from m (suc l)) c.loop-level.flags = subst (λ k. AreFlagsOf g (refined_from m k) c.loop-level.flags) (sym next) c.loop-level.invariant in
    are_same g (spread_to g l (refined_from m (suc l))) (refined_from m l) c.spread.new.flags (one_level m valid l (omega arith)) (c.spread.ensures (refined_from m (suc l)) before)

pub returns : goal.returns
returns c =
    let g = grid_of c.args.tree.now in
    let m = marked_by c.args.tree.now c.args.marks.now in
    let valid = marked_valid c.args.tree.now c.args.marks.now c.requires.marks in
    let none : c.loop-level.level ≡ 0 = omega arith in
    are_same g (refined_from m c.loop-level.level) (is_refined m) c.loop-level.flags (λ b. ap (λ l. refined_from m l b) none ∙ all_levels m valid b) c.loop-level.invariant
