use Rattle.std.proofs.Common.{◌^◌, arith, inl, inr, ap, subst, sym, ◌∙◌}
use Rattle.amr_num.specs.Numbers.{Within}
use Rattle.amr_num.specs.declared.BlockAt.{BlockAt}
use Rattle.block_tree.proofs.Facts.{known}
use Rattle.block_tree.specs.Numbered.{block_at}
use Rattle.mesh_model.specs.Fields.Advect.{advected, three}
use Rattle.mesh_model.specs.Fields.Octants.{cells_of}
use Rattle.mesh_model.specs.Fields.Ranks.{Told}
use Rattle.mesh_model.specs.Geometry.Limits.{IsShape}
use Rattle.mesh_model.specs.Geometry.Places.{in_block}
use Rattle.mesh_model.specs.Geometry.Blocks.{InDomain}
use Rattle.mesh_model.specs.Tree.Kinds.{Grid}
use Rattle.mesh_model.specs.Tree.ValidGrid.{Valid}
use Rattle.rank_world.specs.Holding.{cell_array}
use Rattle.step_advect.specs.Applied.{flows_in, left_at}
use Rattle.step_advect.specs.Lifts.{AreOuterSides}
use Rattle.mesh_steps.specs.Settling.{HoldsContents, IsLost, work_cells}
use Rattle.staggered.proofs.Blocks.{size_by, small_block}
use Rattle.mesh_steps.proofs.Machine.{wide}
use Rattle.mesh_steps.proofs.Stepped.{leaf_lost, leaf_made, leaf_none, leaf_refused, refused_inside}
use Rattle.mesh_steps.proofs.settling.settle_leaf.Goals as goal

pub outer_sides-outer-requires-clause-block : goal.outer_sides-outer-requires-clause-block
outer_sides-outer-requires-clause-block g c =
    small_block c.shape-shape.result c.at-block.result c.shape-shape.ensures.limits (subst (λ s. InDomain s c.at-block.result) (sym c.shape-shape.ensures.value) c.at-block.ensures.inside)

pub above_at-requires-clause-block : goal.above_at-requires-clause-block
above_at-requires-clause-block g c =
    small_block c.shape-shape.result c.at-block.result c.shape-shape.ensures.limits (subst (λ s. InDomain s c.at-block.result) (sym c.shape-shape.ensures.value) c.at-block.ensures.inside)

pub above_at-requires-clause-size : goal.above_at-requires-clause-size
above_at-requires-clause-size g c =
    let size = size_by g.row.N g.row.G c.args.world.now.told.grid.shape (subst IsShape (c.shape-shape.ensures.value ∙ ap (λ (h : Grid). h.shape) c.tree-tree.ensures) c.shape-shape.ensures.limits) c.requires.may.fit.sizes in
    elim size.cells [ inl four ↦ omega arith | inr eight ↦ omega arith ]

pub above_at-requires-clause-place : goal.above_at-requires-clause-place
above_at-requires-clause-place g c =
    let made = c.in-Err.ensures.stepped in
    refused_inside g.row.N (left_at (flows_in g.row.N g.row.G (cell_array c.args.world.now c.args.v c.args.node) made.x made.y made.z)) c.in-Err.at made.refused

pub returns-in-Ok-clause-settled : goal.returns-in-Ok-clause-settled
returns-in-Ok-clause-settled g c content are =
    let w = c.args.world.now in
    let new = c.step_either.new.world in
    let n = three c.args.speeds in
    let v = c.args.v in
    let node = c.args.node in
    let made = c.in-Ok.ensures.stepped in
    let valid : Valid w.told.grid = subst Valid c.tree-tree.ensures (known c.tree-tree.result.now).valid in
    let sized = c.requires.may.fit.sizes in
    let held = made.held content are in
    record {
      made = λ leaf.
          subst (λ (t : Told). HoldsContents t.grid (advected w.told.grid content n) (block_at t.grid node) (cells_of t.grid (work_cells new node))) (sym c.in-Ok.ensures.only.told)
          (leaf_made g.row.N g.row.G w v node content n valid sized made.x made.y made.z held (work_cells w node) (work_cells new node) made.left);
      none = leaf_none g.row.N g.row.G w v node content n valid sized made.x made.y made.z held made.in_range;
    }

pub returns-in-Ok-clause-size : goal.returns-in-Ok-clause-size
returns-in-Ok-clause-size g c =
    let made = c.in-Ok.ensures.stepped in
    let small : Within (2 ^ 70) c.in-Ok.flown = subst (Within (2 ^ 70)) (sym made.flown) made.few in
    subst (Within (2 ^ 70)) (sym (wide c.in-Ok.flown (2 ^ 70) small (omega arith))) small

pub returns-in-Ok-clause-flown : goal.returns-in-Ok-clause-flown
returns-in-Ok-clause-flown g c content are =
    let w = c.args.world.now in
    let n = three c.args.speeds in
    let v = c.args.v in
    let node = c.args.node in
    let sides = c.outer_sides-outer.result in
    let made = c.in-Ok.ensures.stepped in
    let valid : Valid w.told.grid = subst Valid c.tree-tree.ensures (known c.tree-tree.result.now).valid in
    let shape = c.shape-shape.ensures.value ∙ ap (λ (h : Grid). h.shape) c.tree-tree.ensures in
    let block = c.at-block.ensures.value ∙ ap (λ h. block_at h node) c.tree-tree.ensures in
    let outer : AreOuterSides w.told.grid.shape (block_at w.told.grid node) sides =
    subst (λ s. AreOuterSides s (block_at w.told.grid node) sides) shape (subst (λ b. AreOuterSides c.shape-shape.result b sides) block c.outer_sides-outer.ensures) in
    let small : Within (2 ^ 70) c.in-Ok.flown = subst (Within (2 ^ 70)) (sym made.flown) made.few in
    subst (IsLost w content n node) (sym (wide c.in-Ok.flown (2 ^ 70) small (omega arith)))
    (leaf_lost g.row.N g.row.G w v node content n valid c.requires.may.fit.sizes made.x made.y made.z (made.held content are) sides c.in-Ok.flown outer made.flown)

pub returns-in-Err-clause-stop : goal.returns-in-Err-clause-stop
returns-in-Err-clause-stop g c content are =
    let w = c.args.world.now in
    let n = three c.args.speeds in
    let node = c.args.node in
    let at = c.in-Err.at in
    let made = c.in-Err.ensures.stepped in
    let valid : Valid w.told.grid = subst Valid c.tree-tree.ensures (known c.tree-tree.result.now).valid in
    let block = c.at-block.ensures.value ∙ ap (λ h. block_at h node) c.tree-tree.ensures in
    leaf_refused g.row.N g.row.G w c.args.v node content n valid c.requires.may.fit.sizes made.x made.y made.z (made.held content are) at c.above_at.result made.refused
    (c.above_at.ensures ∙ ap (λ (b : BlockAt). record { cell = in_block g.row.N b at.i at.j at.k; value = at.value }) block)
