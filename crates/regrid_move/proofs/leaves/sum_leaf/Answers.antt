use Rattle.std.proofs.Common.{◌≡◌, arith, ap, below_more, subst, sym, ◌∙◌}
use Rattle.mesh_model.specs.Geometry.Blocks.{child_block}
use Rattle.mesh_model.specs.Tree.Order.{IsIn}
use Rattle.mesh_model.specs.Tree.Kinds.{Grid}
use Rattle.mesh_model.specs.Fields.Ranks.{Told}
use Rattle.mesh_model.specs.Tree.ValidGrid.{Valid}
use Rattle.mesh_model.specs.declared.fields.values.Var.TheVariants.{Cell}
use Rattle.mesh_model.proofs.FieldLemmas.BlockOctants.{octants_make}
use Rattle.mesh_model.proofs.FieldLemmas.Worlds.{only_of_again}
use Rattle.block_tree.proofs.Facts.{known}
use Rattle.block_tree.specs.Numbered.{block_at, IsNumberOf}
use Rattle.rank_world.specs.Holding.{numbers_of}
use Rattle.regrid_move.specs.Near.{OctantMoved}
use Rattle.regrid_move.proofs.Moved.{leaf_node_of, may_again}
use Rattle.regrid_move.proofs.leaves.sum_leaf.Goals as goal

pub sum_child-requires : goal.sum_child-requires
sum_child-requires g c =
    let grid = c.args.old.now.told.grid in
    let only = c.loop-octant.invariant.only in
    let found = subst (λ (h : Grid). IsNumberOf h (child_block (block_at h c.args.from) c.loop-octant.octant) c.in-Some.child) c.tree-tree.ensures c.in-Some.ensures.1 in
    let there : block_at grid c.args.from ≡ block_at c.loop-octant.new.told.grid c.args.node = c.requires.from.block ∙ ap (λ (t : Told). block_at t.grid c.args.node) (sym only.told) in
    let listed : IsIn (child_block (block_at grid c.args.from) c.loop-octant.octant) grid.leaves =
    subst (λ b. IsIn (child_block b c.loop-octant.octant) grid.leaves) (sym c.requires.from.block) (c.requires.children c.loop-octant.octant c.loop-octant-test.true) in (
      omega arith,
      (
        may_again g.row.N g.row.G c.args.old.now c.args.new.now c.loop-octant.new c.args.v c.args.node (Cell c.args.v) c.requires.may only c.loop-octant.invariant.fit,
        (
          leaf_node_of grid (child_block (block_at grid c.args.from) c.loop-octant.octant) c.in-Some.child found listed,
          (c.loop-octant-test.true, found.block ∙ ap (λ b. child_block b c.loop-octant.octant) there),
        ),
      ),
    )

pub loop-octant-preserved : goal.loop-octant-preserved
loop-octant-preserved g c = record {
  only = only_of_again c.args.new.now c.loop-octant.new c.sum_child.new.new 0 (Cell c.args.v) c.args.node c.loop-octant.invariant.only c.sum_child.ensures.only;
  fit = c.sum_child.ensures.fit;
  sums = λ content holds. below_more (λ q. OctantMoved c.args.old.now c.sum_child.new.new c.args.v content c.args.node q) c.loop-octant.octant
      (λ q l. c.sum_child.ensures.stays content q (omega (arith, c.loop-octant-test.true)) (λ e. absurd (omega arith)) (c.loop-octant.invariant.sums content holds q l))
      (c.sum_child.ensures.sums content holds);
}

pub returns-clause-views : goal.returns-clause-views
returns-clause-views g c content holds =
    let now = c.loop-octant.new in
    let valid : Valid c.args.old.now.told.grid = subst Valid c.tree-tree.ensures (known c.tree-tree.result.now).valid in
    octants_make c.args.old.now.told.grid content (block_at now.told.grid c.args.node) valid.shape.cells (numbers_of now c.args.v c.args.node)
    (λ q h. c.loop-octant.invariant.sums content holds q (omega arith))
