use Rattle.std.proofs.Common.{sym, subst, ◌∙◌}
use Rattle.block_tree.specs.GridOf.{grid_of}
use Rattle.mesh_model.specs.Tree.Closure.{is_refined}
use Rattle.refine_marks.specs.Flags.{AreFlagsOf}
use Rattle.refine_marks.specs.Planned.{marked_by}
use Rattle.refine_marks.proofs.Flagged.{written}
use Rattle.refine_marks.proofs.refining.refined.Goals as goal

pub returns : goal.returns
returns c =
    let g = grid_of c.args.tree.now in
    let same = written c.in_ok-flags.flags c.flag_refined.new.flags (c.flag_refined.ensures.size ∙ sym c.in_ok-flags.ensures.size) in
    subst (AreFlagsOf g (is_refined (marked_by c.args.tree.now c.args.marks.now))) (sym same) c.flag_refined.ensures
