use Rattle.std.proofs.Common.{◌≡◌, ◌*◌, ◌^◌, ◌≤◌, ◌&&◌, suc, List, ℤ, unsigned_abs, refl, to_z, of_z, ap, sym, subst, ◌∙◌, arith}
use Rattle.std.specs.Int.{w64}
use Rattle.amr_num.proofs.Machine.{kept}
use Rattle.mesh_model.specs.declared.geometry.Shape.{Shape}
use Rattle.mesh_model.specs.Fields.Advect.{is_closed_kind, three}
use Rattle.mesh_model.specs.Fields.ArrayPlaces.{cell_extents, number_at}
use Rattle.mesh_model.specs.Geometry.Blocks.{InDomain}
use Rattle.mesh_model.specs.Geometry.Limits.{IsShape}
use Rattle.mesh_model.specs.Geometry.Coordinates.{side_index, side_kind}
use Rattle.step_advect.specs.Fluxed.{AreSidesWithin, Flow, IsFluxed}
use Rattle.step_advect.specs.Lifts.{IsFlowOf, is_at_high_side, is_at_low_side}
use Rattle.mesh_steps.proofs.Flown.{leaf_fluxes, speed_keeps, speed_small}
use Rattle.mesh_steps.proofs.flowing.flux_cells.Goals as goal

pub face_fluxes-requires : goal.face_fluxes-requires
face_fluxes-requires g c =
    let n = g.row.N in
    let e = g.row.G in
    let s = c.args.shape.now in
    let a = c.args.axis in
    let b = c.args.block in
    let v = c.speed_along-speed.result in
    let inside = c.requires.inside in
    let keeps : unsigned_abs v * 2 ^ b.level ≤ 2 ^ 20 =
    subst (λ u. unsigned_abs u * 2 ^ b.level ≤ 2 ^ 20) (sym c.speed_along-speed.ensures) (speed_keeps s (three c.args.speeds) a b.level c.requires.courant inside.level) in
    let max = c.requires.shape.max in
    let level = inside.level in (
      omega arith,
      (
        omega arith,
        (
          subst (λ u. unsigned_abs u * 2 ^ b.level ≤ 2 ^ 20) (sym (kept v (2 ^ 20) (speed_small b.level v keeps) (omega arith))) keeps,
          (subst (λ (xs : List ℤ). AreSidesWithin (2 ^ 56) n e a (number_at (cell_extents n e) xs)) (sym c.new-cells.ensures) c.requires.small, c.requires.out),
        ),
      ),
    )

pub returns-clause-fluxes : goal.returns-clause-fluxes
returns-clause-fluxes g c grid same sized =
    let n = g.row.N in
    let e = g.row.G in
    let a = c.args.axis in
    let b = c.args.block in
    let v = c.speed_along-speed.result in
    let speeds = three c.args.speeds in
    let ys = c.face_fluxes.new.out in
    let old = c.args.out.now in
    let xs = c.args.cells.now in
    let keeps : unsigned_abs v * 2 ^ b.level ≤ 2 ^ 20 =
    subst (λ u. unsigned_abs u * 2 ^ b.level ≤ 2 ^ 20) (sym c.speed_along-speed.ensures) (speed_keeps c.args.shape.now speeds a b.level c.requires.courant c.requires.inside.level) in
    let flow : Flow = record { level = b.level; speed = to_z w64 (of_z w64 v); closed_low = c.is_closed_low-closed_low.result; closed_high = c.is_closed_high-closed_high.result } in
    let is : IsFlowOf grid.shape speeds a b flow = record {
      level = refl;
      speed_of = kept v (2 ^ 20) (speed_small b.level v keeps) (omega arith) ∙ c.speed_along-speed.ensures;
      closed_low = c.is_closed_low-closed_low.ensures ∙ ap (λ (s : Shape). is_at_low_side a b && is_closed_kind (side_kind s.sides (side_index a))) same;
      closed_high = c.is_closed_high-closed_high.ensures ∙ ap (λ (s : Shape). is_at_high_side s a b && is_closed_kind (side_kind s.sides (suc (side_index a)))) same;
    } in
    let cells : c.new-cells.result ≡ xs = c.new-cells.ensures in
    let fluxed : IsFluxed n e a flow xs old ys = subst (λ (ks : List ℤ). IsFluxed n e a flow ks old ys) cells c.face_fluxes.ensures.fluxes in
    leaf_fluxes grid speeds a b flow xs old ys (subst IsShape same c.requires.shape) (subst (λ (s : Shape). InDomain s b) same c.requires.inside) is n e sized c.requires.small fluxed
    (λ most small. c.face_fluxes.ensures.size most (subst (λ (ks : List ℤ). AreSidesWithin most n e a (number_at (cell_extents n e) ks)) (sym cells) small))

pub returns-clause-size : goal.returns-clause-size
returns-clause-size g c = c.face_fluxes.ensures.fluxes.size
