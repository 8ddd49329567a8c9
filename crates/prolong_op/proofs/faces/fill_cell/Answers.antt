use Rattle.std.proofs.Common.{◌+◌, ◌∙◌, subst}
use Rattle.amr_num.specs.declared.Axis.TheVariants.{X, Y, Z}
use Rattle.amr_num.specs.Numbers.{at}
use Rattle.mesh_model.specs.Fields.ArrayPlaces.{IsWritten, face_extents, place_in}
use Rattle.mesh_model.specs.Fields.FaceSplits.{all_faces, by_axis, sides_from}
use Rattle.mesh_model.specs.Fields.InnerRule.{Outer}
use Rattle.mesh_model.specs.Fields.Views.{inner_face}
use Rattle.mesh_model.proofs.FieldLemmas.Beside.{three}
use Rattle.prolong_op.specs.Sides.{sides_of}
use Rattle.prolong_op.specs.Splitting.{four_box, four_extents, middle_box}
use Rattle.prolong_op.proofs.InnerSides.{middle_x_same, middle_y_same, middle_z_same, on_x, on_y, on_z, written_as}
use Rattle.prolong_op.proofs.faces.fill_cell.Goals as goal

pub returns : goal.returns
returns c =
    let n = c.args.n in
    let g = c.args.g in
    let x = c.args.corner.x in
    let y = c.args.corner.y in
    let z = c.args.corner.z in
    let o : Outer = sides_of c.sides.result in
    let p : Outer = sides_from (all_faces n g (by_axis c.args.cx.now c.args.cy.now c.args.cz.now)) x y z in
    let same = c.sides.ensures in
    let inner = c.inner_faces.result in
    let is = c.inner_faces.ensures in
    three (λ a. IsWritten (face_extents n g a) (middle_box a x y z) (λ i j k. inner_face p a i j k) (by_axis c.args.cx.now c.args.cy.now c.args.cz.now a)
    (by_axis c.put_four.new.faces c.put_four-2.new.faces c.put_four-3.new.faces a))
    (written_as (face_extents n g X) (four_box X (x + 1) y z) (λ i j k. at inner.x (place_in (four_extents X) i j k)) (λ i j k. inner_face p X i j k) c.args.cx.now c.put_four.new.faces
    (on_x p inner.x (λ q h. is.x q h ∙ middle_x_same o p same q h))
    (subst (λ e. IsWritten e (four_box X (x + 1) y z) (λ i j k. at inner.x (place_in (four_extents X) i j k)) c.args.cx.now c.put_four.new.faces) c.of_faces.ensures c.put_four.ensures))
    (written_as (face_extents n g Y) (four_box Y x (y + 1) z) (λ i j k. at inner.y (place_in (four_extents Y) i j k)) (λ i j k. inner_face p Y i j k) c.args.cy.now c.put_four-2.new.faces
    (on_y p inner.y (λ i k hi hk. is.y i k hi hk ∙ middle_y_same o p same i hi k hk))
    (subst (λ e. IsWritten e (four_box Y x (y + 1) z) (λ i j k. at inner.y (place_in (four_extents Y) i j k)) c.args.cy.now c.put_four-2.new.faces) c.of_faces-2.ensures c.put_four-2.ensures))
    (written_as (face_extents n g Z) (four_box Z x y (z + 1)) (λ i j k. at inner.z (place_in (four_extents Z) i j k)) (λ i j k. inner_face p Z i j k) c.args.cz.now c.put_four-3.new.faces
    (on_z p inner.z (λ i j hi hj. is.z i j hi hj ∙ middle_z_same o p same i hi j hj))
    (subst (λ e. IsWritten e (four_box Z x y (z + 1)) (λ i j k. at inner.z (place_in (four_extents Z) i j k)) c.args.cz.now c.put_four-3.new.faces) c.of_faces-3.ensures c.put_four-3.ensures))
