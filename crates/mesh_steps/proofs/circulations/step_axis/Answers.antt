use Rattle.std.proofs.Common.{◌≡◌, Some, ap, arith, subst, sym, ◌∙◌}
use Rattle.block_tree.proofs.Facts.{known}
use Rattle.block_tree.specs.Numbered.{block_at}
use Rattle.mesh_model.specs.Fields.Ranks.{Told}
use Rattle.mesh_model.specs.Geometry.Blocks.{InDomain}
use Rattle.mesh_model.specs.Tree.Kinds.{Grid}
use Rattle.mesh_model.specs.Tree.ValidGrid.{Valid}
use Rattle.rank_world.specs.Holding.{IsLeafNode}
use Rattle.rank_world.specs.FaceRange.{told_face}
use Rattle.mesh_steps.specs.Circulations.{numbers_given}
use Rattle.mesh_steps.proofs.Given.{has_given, none_above, some_above, told_inside}
use Rattle.mesh_steps.proofs.circulations.step_axis.Goals as goal

pub told-requires : goal.told-requires
told-requires g c =
    let w = c.args.world.now in
    let leaf = subst (λ (t : Told). IsLeafNode t.grid c.args.node) (sym c.give_axis.ensures.only.told) c.requires.leaf.leaf in
    let place = told_inside g.row.N c.args.axis c.args.sides (numbers_given c.args.step g.row.N g.row.G c.args.world.now c.args.node c.args.axis) c.in-Err.found c.in-Err.ensures.refused in
    (omega arith, (c.give_axis.ensures.fit, (leaf, place)))

pub returns-in-Ok-clause-has : goal.returns-in-Ok-clause-has
returns-in-Ok-clause-has g c faces edges shows =
    let w = c.args.world.now in
    let valid : Valid w.told.grid = subst Valid c.tree-tree.ensures (known c.tree-tree.result.now).valid in
    let block : c.at-block.result ≡ block_at w.told.grid c.args.node = c.at-block.ensures.value ∙ ap (λ h. block_at h c.args.node) c.tree-tree.ensures in
    let inside : InDomain w.told.grid.shape (block_at w.told.grid c.args.node) = subst (InDomain w.told.grid.shape) block (subst (λ (h : Grid). InDomain h.shape c.at-block.result) c.tree-tree.ensures c.at-block.ensures.inside) in
    has_given c.args.step g.row.N g.row.G w c.give_axis.new.world c.args.node c.args.axis c.requires.leaf.fit valid c.requires.leaf.leaf inside c.give_axis.ensures.only.told c.give_axis.ensures.given faces edges shows

pub returns-in-Err-clause-has : goal.returns-in-Err-clause-has
returns-in-Err-clause-has g c faces edges shows =
    let w = c.args.world.now in
    let valid : Valid w.told.grid = subst Valid c.tree-tree.ensures (known c.tree-tree.result.now).valid in
    let block : c.at-block.result ≡ block_at w.told.grid c.args.node = c.at-block.ensures.value ∙ ap (λ h. block_at h c.args.node) c.tree-tree.ensures in
    let inside : InDomain w.told.grid.shape (block_at w.told.grid c.args.node) = subst (InDomain w.told.grid.shape) block (subst (λ (h : Grid). InDomain h.shape c.at-block.result) c.tree-tree.ensures c.at-block.ensures.inside) in
    has_given c.args.step g.row.N g.row.G w c.give_axis.new.world c.args.node c.args.axis c.requires.leaf.fit valid c.requires.leaf.leaf inside c.give_axis.ensures.only.told c.give_axis.ensures.given faces edges shows

pub returns-in-Ok-clause-in_range : goal.returns-in-Ok-clause-in_range
returns-in-Ok-clause-in_range g c faces edges shows =
    let w = c.args.world.now in
    let valid : Valid w.told.grid = subst Valid c.tree-tree.ensures (known c.tree-tree.result.now).valid in
    let block : c.at-block.result ≡ block_at w.told.grid c.args.node = c.at-block.ensures.value ∙ ap (λ h. block_at h c.args.node) c.tree-tree.ensures in
    let inside : InDomain w.told.grid.shape (block_at w.told.grid c.args.node) = subst (InDomain w.told.grid.shape) block (subst (λ (h : Grid). InDomain h.shape c.at-block.result) c.tree-tree.ensures c.at-block.ensures.inside) in
    none_above c.args.step g.row.N g.row.G w c.give_axis.new.world c.args.node c.args.axis c.requires.leaf.fit valid c.requires.leaf.leaf inside c.give_axis.ensures.only.told c.give_axis.ensures.given faces edges shows
    c.give_axis.ensures.fit c.args.sides c.requires.sides c.in-Ok.ensures.in_range

pub returns-in-Err-clause-refused : goal.returns-in-Err-clause-refused
returns-in-Err-clause-refused g c faces edges shows =
    let w = c.args.world.now in
    let valid : Valid w.told.grid = subst Valid c.tree-tree.ensures (known c.tree-tree.result.now).valid in
    let block : c.at-block.result ≡ block_at w.told.grid c.args.node = c.at-block.ensures.value ∙ ap (λ h. block_at h c.args.node) c.tree-tree.ensures in
    let inside : InDomain w.told.grid.shape (block_at w.told.grid c.args.node) = subst (InDomain w.told.grid.shape) block (subst (λ (h : Grid). InDomain h.shape c.at-block.result) c.tree-tree.ensures c.at-block.ensures.inside) in
    some_above c.args.step g.row.N g.row.G w c.give_axis.new.world c.args.node c.args.axis c.requires.leaf.fit valid c.requires.leaf.leaf inside c.give_axis.ensures.only.told c.give_axis.ensures.given faces edges shows
    c.give_axis.ensures.fit c.args.sides c.requires.sides c.in-Err.found c.in-Err.ensures.refused
    ∙ ap Some (sym (subst (λ (t : Told). c.told.result ≡ told_face t.grid.shape (block_at t.grid c.args.node) c.in-Err.found.axis (record { i = c.in-Err.found.i; j = c.in-Err.found.j; k = c.in-Err.found.k; value = c.in-Err.found.value })) c.give_axis.ensures.only.told c.told.ensures))
