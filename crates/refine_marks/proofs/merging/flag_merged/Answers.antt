use Rattle.std.proofs.Common.{◌≡◌, ◌-◌, suc, false, ap, subst, sym, ◌∙◌, arith}
use Rattle.block_tree.specs.GridOf.{grid_of}
use Rattle.mesh_model.specs.declared.geometry.Shape.{Shape}
use Rattle.mesh_model.specs.Tree.Closure.{is_merged}
use Rattle.refine_marks.specs.Closing.{merged_from, merged_with, stays_beside}
use Rattle.refine_marks.specs.Flags.{AreFlagsOf}
use Rattle.refine_marks.specs.Planned.{marked_by}
use Rattle.refine_marks.proofs.MergedLevels.{no_level, one_level, all_levels}
use Rattle.refine_marks.proofs.RefinedLevels.{are_same}
use Rattle.refine_marks.proofs.Valued.{marked_valid}
use Rattle.refine_marks.proofs.merging.flag_merged.Goals as goal

pub loop-level-init : goal.loop-level-init
loop-level-init c =
    let g = grid_of c.args.tree.now in
    let m = marked_by c.args.tree.now c.args.marks.now in
    let valid = marked_valid c.args.tree.now c.args.marks.now c.requires.marks in
    let top = ap (λ (s : Shape). s.max) c.shape-level.ensures.value in
    are_same g (λ b. false) (merged_from m c.shape-level.result.max) c.args.merge.now (λ b. no_level m valid b ∙ ap (λ l. merged_from m l b) (sym top)) c.requires.merge

pub loop-level-preserved : goal.loop-level-preserved
loop-level-preserved c =
    let g = grid_of c.args.tree.now in
    let m = marked_by c.args.tree.now c.args.marks.now in
    let l = c.loop-level.level - 1 in
    let valid = marked_valid c.args.tree.now c.args.marks.now c.requires.marks in
    let room = c.shape-level.ensures.limits.max in
    let low = c.loop-level.auto.level in
    let next : suc l ≡ c.loop-level.level = omega arith in
    let finer = merged_from m (suc l) in
    let before : AreFlagsOf g finer c.loop-level.merge = subst (λ k. AreFlagsOf g (merged_from m k) c.loop-level.merge) (sym next) c.loop-level.invariant in
    are_same g (merged_with m l (stays_beside finer) finer) (merged_from m l) c.merge_level.new.merge (one_level m valid l (omega arith)) (c.merge_level.ensures (stays_beside finer) finer (c.flag_kept.ensures finer before) before)

pub returns : goal.returns
returns c =
    let g = grid_of c.args.tree.now in
    let m = marked_by c.args.tree.now c.args.marks.now in
    let valid = marked_valid c.args.tree.now c.args.marks.now c.requires.marks in
    let none : c.loop-level.level ≡ 0 = omega arith in
    are_same g (merged_from m c.loop-level.level) (is_merged m) c.loop-level.merge (λ b. ap (λ l. merged_from m l b) none ∙ all_levels m valid b) c.loop-level.invariant
