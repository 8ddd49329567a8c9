use Rattle.block_tree.specs.GridOf.{grid_of}
use Rattle.mesh_model.specs.Tree.Closure.{is_refined, is_merged}
use Rattle.refine_marks.specs.Planned.{marked_by}
use Rattle.refine_marks.proofs.Plans.{refine_least, merge_greatest, may_regrow, grown_grid}
use Rattle.refine_marks.proofs.Sets.{flags_are}
use Rattle.refine_marks.proofs.plan.close.Goals as goal

pub returns-clause-refine_flags : goal.returns-clause-refine_flags
returns-clause-refine_flags c = c.in_ok-refine.ensures.size

pub returns-clause-merge_flags : goal.returns-clause-merge_flags
returns-clause-merge_flags c = c.in_ok-merge.ensures.size

pub returns-clause-refine : goal.returns-clause-refine
returns-clause-refine c =
    flags_are (grid_of c.args.tree.now) (is_refined (marked_by c.args.tree.now c.args.marks.now)) c.in_ok-refine.refine.items c.in_ok-refine.ensures

pub returns-clause-merge : goal.returns-clause-merge
returns-clause-merge c =
    flags_are (grid_of c.args.tree.now) (is_merged (marked_by c.args.tree.now c.args.marks.now)) c.in_ok-merge.merge.items c.in_ok-merge.ensures

pub returns-clause-least : goal.returns-clause-least
returns-clause-least c =
    let t = c.args.tree.now in
    refine_least t c.args.marks.now c.requires c.in_ok-refine.refine.items c.in_ok-refine.ensures

pub returns-clause-greatest : goal.returns-clause-greatest
returns-clause-greatest c =
    let t = c.args.tree.now in
    merge_greatest t c.args.marks.now c.requires c.in_ok-refine.refine.items c.in_ok-refine.ensures c.in_ok-merge.merge.items c.in_ok-merge.ensures

pub returns-clause-new_grid : goal.returns-clause-new_grid
returns-clause-new_grid c =
    grown_grid c.args.tree.now c.args.marks.now c.requires c.in_ok-refine.refine.items c.in_ok-refine.ensures c.in_ok-merge.merge.items c.in_ok-merge.ensures

pub returns-clause-may_regrow : goal.returns-clause-may_regrow
returns-clause-may_regrow c =
    let t = c.args.tree.now in
    may_regrow t c.args.marks.now c.requires c.in_ok-refine.refine.items c.in_ok-refine.ensures c.in_ok-merge.merge.items c.in_ok-merge.ensures
