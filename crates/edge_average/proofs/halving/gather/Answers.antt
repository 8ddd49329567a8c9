use Rattle.std.proofs.Common.{◌≡◌, ◌+◌, ◌-◌, ◌*◌, ◌/◌, ◌^◌, ◌<◌, ap, subst, sym, ◌∙◌, arith, inl, inr}
use Rattle.std.proofs.lemmas.Bool.{cases_lt}
use Rattle.amr_num.specs.Numbers.{Within, at}
use Rattle.mesh_model.specs.Geometry.Blocks.{child_block}
use Rattle.mesh_model.specs.Tree.Kinds.{Grid}
use Rattle.mesh_model.specs.Tree.ValidGrid.{Valid}
use Rattle.block_tree.proofs.Facts.{known}
use Rattle.block_tree.specs.Numbered.{IsNumberOf, block_at}
use Rattle.edge_average.specs.Lines.{child_on, edge_there, sum_of_halves}
use Rattle.edge_average.proofs.Readings.{near_pair, next_half}
use Rattle.edge_average.proofs.halving.gather.Goals as goal

pub loop-half-preserved : goal.loop-half-preserved
loop-half-preserved g c =
    let n = g.row.N in
    let w = c.args.world.now in
    let line = c.args.line in
    let k = c.loop-half.half in
    let row = c.sum_child.ensures.row in
    let d = block_at w.told.grid c.args.finer in
    let valid : Valid w.told.grid = subst Valid c.tree-tree.ensures (known c.tree-tree.result.now).valid in
    let found : IsNumberOf w.told.grid (child_block d c.octant_of.result) c.in-Some.child =
    subst (λ (h : Grid). IsNumberOf h (child_block (block_at h c.args.finer) c.octant_of.result) c.in-Some.child) c.tree-tree.ensures c.in-Some.ensures.1 in
    let number : IsNumberOf w.told.grid (child_on n line.axis d k line.first line.second) c.in-Some.child = subst (λ o. IsNumberOf w.told.grid (child_block d o) c.in-Some.child) c.octant_of.ensures.value found in
    let inner = c.line_within-inner.ensures in
    record {
      sums = λ field holds p hp. elim (cases_lt p (n / 2 * k)) [
        | inl less ↦ row.below p less ∙ c.loop-half.invariant.sums field holds p less
        | inr more ↦ (
            let i = p - n / 2 * k in
            let next = next_half (n / 2) k in
            let hi : i < n / 2 = omega arith in
            let last : n / 2 * k + i ≡ p = omega arith in
            ap (at c.sum_child.new.sums) (sym last) ∙ row.here i hi
            ∙ near_pair c.args.work w valid n g.row.G c.requires.fit.sizes line.axis d line.first line.second c.requires.line.0 c.requires.line.1 c.requires.near k c.loop-half-test.true c.in-Some.child number _ _ _
            inner.axis inner.first inner.second field holds i hi
            ∙ ap (λ x. sum_of_halves field (edge_there w.told.grid.shape line.axis d x line.first line.second)) last)
      ];
      within = λ p hp. elim (cases_lt p (n / 2 * k)) [
        | inl less ↦ subst (Within (2 ^ 58)) (sym (row.below p less)) (c.loop-half.invariant.within p less)
        | inr more ↦ (
            let i = p - n / 2 * k in
            let next = next_half (n / 2) k in
            let hi : i < n / 2 = omega arith in
            let last : n / 2 * k + i ≡ p = omega arith in
            subst (λ x. Within (2 ^ 58) (at c.sum_child.new.sums x)) last (c.sum_child.ensures.within i hi))
      ];
    }
