use Rattle.std.proofs.Common.{◌≡◌, length, arith, ap, subst, sym, ◌∙◌}
use Rattle.block_tree.proofs.Facts.{known}
use Rattle.mesh_model.specs.Fields.Advect.{three}
use Rattle.mesh_model.specs.Fields.Induct.{uniform_faces}
use Rattle.mesh_model.specs.Tree.Kinds.{Grid}
use Rattle.mesh_model.specs.Tree.Order.{nodes}
use Rattle.mesh_model.specs.Tree.ValidGrid.{Valid}
use Rattle.staggered.specs.Facing.{above_below, node_above}
use Rattle.staggered.proofs.FacesFound.{found_now, no_more, walk_found}
use Rattle.staggered.proofs.facing.walk_above.Goals as goal

pub returns-then-is_some : goal.returns-then-is_some
returns-then-is_some g c =
    let h = c.args.world.now.told.grid in
    let field = uniform_faces h (three c.args.fluxes) in
    let valid : Valid h = subst Valid c.tree.ensures (known c.tree.result.now).valid in
    let many : c.len-node-end.result ≡ length (nodes h.leaves) = c.len-node-end.ensures.value ∙ ap (λ (t : Grid). length (nodes t.leaves)) c.tree.ensures in
    let less = c.loop-node-test.true in
    found_now (length (nodes h.leaves)) c.loop-node.node (node_above h field) c.found_above-found.result c.loop-node.invariant c.found_above-found.ensures (sym c.is_some.ensures ∙ c.if-is_some.true) (omega (arith, many, less))
    ∙ sym (walk_found h field valid)

pub loop-node-preserved : goal.loop-node-preserved
loop-node-preserved g c =
    let h = c.args.world.now.told.grid in
    no_more c.loop-node.node (node_above h (uniform_faces h (three c.args.fluxes))) c.found_above-found.result c.loop-node.invariant c.found_above-found.ensures (sym c.is_some.ensures ∙ c.if-is_some.false)

pub returns : goal.returns
returns g c =
    let h = c.args.world.now.told.grid in
    let field = uniform_faces h (three c.args.fluxes) in
    let valid : Valid h = subst Valid c.tree.ensures (known c.tree.result.now).valid in
    let many : c.len-node-end.result ≡ length (nodes h.leaves) = c.len-node-end.ensures.value ∙ ap (λ (t : Grid). length (nodes t.leaves)) c.tree.ensures in
    let all : c.loop-node.node ≡ length (nodes h.leaves) = omega (arith, many) in
    sym (walk_found h field valid ∙ ap (above_below h field) (sym all) ∙ c.loop-node.invariant)
