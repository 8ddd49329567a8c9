use Rattle.std.proofs.Common.{◌≡◌, ◌*◌, ◌<◌, ap₂, arith, subst, ◌∙◌}
use Rattle.amr_num.specs.declared.Axis.TheVariants.{Y, Z}
use Rattle.mesh_model.specs.Fields.ArrayPlaces.{AreRowsWritten, cell_extents, face_extents, number_at}
use Rattle.mesh_model.specs.Geometry.Places.{longer_on}
use Rattle.mesh_model.proofs.FieldLemmas.BlockPlaces.{all_rows, one_more_row}
use Rattle.step_advect.specs.Fluxed.{block_faces, flow_of, flux_at}
use Rattle.step_advect.proofs.Faces.{faces_fit, fluxes_within}
use Rattle.step_advect.proofs.fluxes.flux_faces.Goals as goal

pub loop-m-preserved : goal.loop-m-preserved
loop-m-preserved c =
    let n = c.args.n in
    let g = c.args.g in
    let a = c.args.axis in
    let all : c.longer.result * c.longer-2.result ≡ longer_on a Y n * longer_on a Z n = ap₂ (λ p q. p * q) c.longer.ensures c.longer-2.ensures in
    one_more_row (face_extents n g a) (block_faces n g a) (faces_fit n g a) c.loop-m.m (flux_at n g a (flow_of c.args.flow.now) (number_at (cell_extents n g) c.args.cells.now)) c.args.out.now
    c.loop-m.out c.flux_row.new.out (subst (λ q. c.loop-m.m < q) all c.loop-m-test.true) c.loop-m.invariant c.flux_row.ensures

pub returns-clause-fluxes : goal.returns-clause-fluxes
returns-clause-fluxes c =
    let n = c.args.n in
    let g = c.args.g in
    let a = c.args.axis in
    let wanted = flux_at n g a (flow_of c.args.flow.now) (number_at (cell_extents n g) c.args.cells.now) in
    let all : c.longer.result * c.longer-2.result ≡ longer_on a Y n * longer_on a Z n = ap₂ (λ p q. p * q) c.longer.ensures c.longer-2.ensures in
    let last : c.loop-m.m ≡ c.longer.result * c.longer-2.result = omega arith in
    all_rows (face_extents n g a) (block_faces n g a) (faces_fit n g a) wanted c.args.out.now c.loop-m.out
    (subst (λ m. AreRowsWritten m (face_extents n g a) (block_faces n g a) wanted c.args.out.now c.loop-m.out) (last ∙ all) c.loop-m.invariant)

pub returns-clause-size : goal.returns-clause-size
returns-clause-size c most small =
    let n = c.args.n in
    let g = c.args.g in
    let a = c.args.axis in
    fluxes_within most n g a (flow_of c.args.flow.now) (number_at (cell_extents n g) c.args.cells.now) (number_at (face_extents n g a) c.loop-m.out) c.requires.slow.speed small
    ((returns-clause-fluxes c).written)
