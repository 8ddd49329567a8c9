use Rattle.std.proofs.Common.{ap, arith, subst, ◌∙◌}
use Rattle.mesh_model.specs.Fields.Advect.{three}
use Rattle.mesh_model.specs.Fields.ArrayPlaces.{IsSize}
use Rattle.mesh_model.specs.Geometry.Limits.{IsShape}
use Rattle.mesh_model.specs.Tree.Kinds.{Grid}
use Rattle.mesh_model.specs.Tree.ValidGrid.{Valid}
use Rattle.block_tree.proofs.Facts.{known}
use Rattle.rank_world.specs.Holding.{cell_array}
use Rattle.staggered.proofs.Blocks.{size_by}
use Rattle.mesh_steps.proofs.Stepped.{calm_flows, out_small, step_faces_of}
use Rattle.mesh_steps.proofs.settling.step_calm.Goals as goal

pub step_faces-requires : goal.step_faces-requires
step_faces-requires g c =
    let w = c.args.world.now in
    let faces = step_faces_of g.row.N g.row.G w c.args.v c.args.node (three c.args.speeds) c.requires.may.fit.sizes c.flux_along.new.out c.flux_along-2.new.out c.flux_along-3.new.out
    (c.flux_along.ensures.size ∙ c.requires.x) (c.flux_along-2.ensures.size ∙ c.requires.y) (c.flux_along-3.ensures.size ∙ c.requires.z)
    c.flux_along.ensures.fluxes c.flux_along-2.ensures.fluxes c.flux_along-3.ensures.fluxes in
    (omega arith, (c.requires.may, (c.requires.leaf, faces)))

pub returns-clause-stepped : goal.returns-clause-stepped
returns-clause-stepped g c =
    let w = c.args.world.now in
    let v = c.args.v in
    let node = c.args.node in
    let speeds = three c.args.speeds in
    let x = c.flux_along.new.out in
    let y = c.flux_along-2.new.out in
    let z = c.flux_along-3.new.out in
    let valid : Valid w.told.grid = subst Valid c.tree.ensures (known c.tree.result.now).valid in
    let size : IsSize g.row.N g.row.G = size_by g.row.N g.row.G w.told.grid.shape (subst IsShape (c.shape-shape.ensures.value ∙ ap (λ (h : Grid). h.shape) c.tree.ensures) c.shape-shape.ensures.limits) c.requires.may.fit.sizes in
    let faces = step_faces_of g.row.N g.row.G w v node speeds c.requires.may.fit.sizes x y z
    (c.flux_along.ensures.size ∙ c.requires.x) (c.flux_along-2.ensures.size ∙ c.requires.y) (c.flux_along-3.ensures.size ∙ c.requires.z)
    c.flux_along.ensures.fluxes c.flux_along-2.ensures.fluxes c.flux_along-3.ensures.fluxes in
    record {
      x = x;
      y = y;
      z = z;
      held = λ content are. calm_flows w v node content speeds valid c.requires.leaf c.requires.calm are x y z c.flux_along.ensures.fluxes c.flux_along-2.ensures.fluxes c.flux_along-3.ensures.fluxes;
      few = out_small g.row.N g.row.G (cell_array w v node) x y z c.args.outer size faces;
      left = c.step_faces.ensures.left;
      in_range = c.step_faces.ensures.in_range;
      flown = c.step_faces.ensures.flown;
      refused = c.step_faces.ensures.refused;
    }
