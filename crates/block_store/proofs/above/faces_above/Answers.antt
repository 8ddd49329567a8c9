use Rattle.std.proofs.Common.{rules, ◌≡◌, ◌+◌, ℕ, ap, ◌∙◌}
use Rattle.amr_num.specs.declared.Axis.TheVariants.{X, Y, Z}
use Rattle.mesh_model.specs.Fields.ArrayPlaces.{Extents, face_extents, number_at}
use Rattle.mesh_model.specs.Fields.Firsts.{first_in_places}
use Rattle.mesh_model.specs.Geometry.Places.{longer_on}
use Rattle.block_store.specs.Above.{counted_at}
use Rattle.block_store.specs.declared.above.Above.{Above}
use Rattle.block_store.specs.declared.above.Counted.TheVariants.{Faces}
use Rattle.block_store.proofs.above.faces_above.Goals as goal

pub returns : goal.returns
returns c =
    let n = c.args.n in
    let g = c.args.g in
    let xs = c.args.values.now in
    let f = c.args.faces in
    let x : c.along.inside.x ≡ longer_on f.axis X n = search rules in
    let y : c.along.inside.y ≡ longer_on f.axis Y n = search rules in
    let z : c.along.inside.z ≡ longer_on f.axis Z n = search rules in
    let at = λ (e : Extents). counted_at n (Faces f) (λ i j k. number_at e xs (g + i) (g + j) (g + k)) in
    c.region_above.ensures
    ∙ ap (λ e. first_in_places c.along.inside.x c.along.inside.y c.along.inside.z (at e)) c.of_faces-extents.ensures
    ∙ ap (λ m. first_in_places m c.along.inside.y c.along.inside.z (at (face_extents n g f.axis))) x
    ∙ ap (λ m. first_in_places (longer_on f.axis X n) m c.along.inside.z (at (face_extents n g f.axis))) y
    ∙ ap (λ m. first_in_places (longer_on f.axis X n) (longer_on f.axis Y n) m (at (face_extents n g f.axis))) z
