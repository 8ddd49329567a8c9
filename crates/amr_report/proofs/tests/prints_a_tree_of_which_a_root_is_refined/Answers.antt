use Rattle.std.proofs.Common.{Bool, List, ap, ◌∙◌}
use Rattle.block_tree.specs.Numbered.{flag_in}
use Rattle.block_tree.proofs.Flags.{flag_lowered}
use Rattle.amr_report.proofs.Refining.{may_refine}
use Rattle.amr_report.proofs.tests.prints_a_tree_of_which_a_root_is_refined.Goals as goal

pub regrown-requires-clause-may : goal.regrown-requires-clause-may
regrown-requires-clause-may g c =
    may_refine c.in_ok-roots.roots c.row_of.result c.in_ok-roots.ensures c.row_of.ensures.levels (flag_in c.deref.result.now) (flag_in c.deref-2.result.now)
    (λ i. ap (λ (flags : List Bool). flag_in flags i) (c.deref-2.ensures.value ∙ c.in_ok-none.ensures.items_if_clones_equal (λ y e. e)) ∙ flag_lowered _ i)
