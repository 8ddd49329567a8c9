use Rattle.std.proofs.Common.{◌≡◌, arith, ap, below_more, subst, sym, ◌∙◌}
use Rattle.mesh_model.specs.Geometry.Blocks.{child_block}
use Rattle.mesh_model.specs.Tree.Order.{IsIn}
use Rattle.mesh_model.specs.Tree.Kinds.{Grid}
use Rattle.mesh_model.specs.Fields.Ranks.{Told}
use Rattle.mesh_model.specs.Tree.ValidGrid.{Valid}
use Rattle.block_tree.proofs.Facts.{known}
use Rattle.block_tree.specs.Numbered.{block_at, IsNumberOf}
use Rattle.regrid_move.specs.AxisMoves.{AxisOctantMoved, array_of, var_of}
use Rattle.regrid_move.proofs.Moved.{leaf_node_of}
use Rattle.regrid_move.proofs.AxisMoved.{may_again, none_of, octants_make, only_again}
use Rattle.regrid_move.proofs.axes.sum_axes.Goals as goal

pub loop-octant-init : goal.loop-octant-init
loop-octant-init g c = record { only = none_of (var_of c.args.kind) c.args.new.now c.args.node; fit = c.requires.may.new_fit; sums = λ field a holds q h. absurd (omega (arith, h)) }

pub sum_child_axes-requires : goal.sum_child_axes-requires
sum_child_axes-requires g c =
    let grid = c.args.old.now.told.grid in
    let only = c.loop-octant.invariant.only in
    let found = subst (λ (h : Grid). IsNumberOf h (child_block (block_at h c.args.from) c.loop-octant.octant) c.in-Some.child) c.tree-tree.ensures c.in-Some.ensures.1 in
    let there : block_at grid c.args.from ≡ block_at c.loop-octant.new.told.grid c.args.node = c.requires.from.block ∙ ap (λ (t : Told). block_at t.grid c.args.node) (sym only.told) in
    let listed : IsIn (child_block (block_at grid c.args.from) c.loop-octant.octant) grid.leaves =
    subst (λ b. IsIn (child_block b c.loop-octant.octant) grid.leaves) (sym c.requires.from.block) (c.requires.children c.loop-octant.octant c.loop-octant-test.true) in (
      omega arith,
      (
        may_again g.row.N g.row.G c.args.kind c.args.old.now c.args.new.now c.loop-octant.new c.args.node c.requires.may only.told c.loop-octant.invariant.fit,
        (
          leaf_node_of grid (child_block (block_at grid c.args.from) c.loop-octant.octant) c.in-Some.child found listed,
          (c.loop-octant-test.true, found.block ∙ ap (λ b. child_block b c.loop-octant.octant) there),
        ),
      ),
    )

pub loop-octant-preserved : goal.loop-octant-preserved
loop-octant-preserved g c = record {
  only = only_again (var_of c.args.kind) c.args.new.now c.loop-octant.new c.sum_child_axes.new.new c.args.node c.loop-octant.invariant.only c.sum_child_axes.ensures.only;
  fit = c.sum_child_axes.ensures.fit;
  sums = λ field a holds. below_more (λ q. AxisOctantMoved c.args.kind c.args.old.now c.sum_child_axes.new.new field c.args.node q a) c.loop-octant.octant
      (λ q l. c.sum_child_axes.ensures.stays field q a (omega (arith, c.loop-octant-test.true)) (λ e. absurd (omega arith)) holds (c.loop-octant.invariant.sums field a holds q l))
      (c.sum_child_axes.ensures.sums field a holds);
}

pub returns-clause-views : goal.returns-clause-views
returns-clause-views g c field holds a =
    let now = c.loop-octant.new in
    let old = c.args.old.now.told.grid in
    let valid : Valid old = subst Valid c.tree-tree.ensures (known c.tree-tree.result.now).valid in
    octants_make c.args.kind old field a (block_at now.told.grid c.args.node) (array_of c.args.kind now a c.args.node) valid
    (λ q h. c.loop-octant.invariant.sums field a holds q (omega arith))
