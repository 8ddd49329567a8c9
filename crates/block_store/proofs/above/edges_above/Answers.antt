use Rattle.std.proofs.Common.{rules, ◌≡◌, ◌+◌, ℕ, ap, ◌∙◌}
use Rattle.amr_num.specs.declared.Axis.TheVariants.{X, Y, Z}
use Rattle.mesh_model.specs.Fields.ArrayPlaces.{Extents, edge_extents, number_at}
use Rattle.mesh_model.specs.Fields.Firsts.{first_in_places}
use Rattle.mesh_model.specs.Geometry.Places.{longer_across}
use Rattle.block_store.specs.Above.{counted_at}
use Rattle.block_store.specs.declared.above.Above.{Above}
use Rattle.block_store.specs.declared.above.Counted.TheVariants.{Edges}
use Rattle.block_store.proofs.above.edges_above.Goals as goal

pub returns : goal.returns
returns c =
    let n = c.args.n in
    let g = c.args.g in
    let xs = c.args.values.now in
    let e = c.args.edges in
    let x : c.along.inside.x ≡ longer_across e.axis X n = search rules in
    let y : c.along.inside.y ≡ longer_across e.axis Y n = search rules in
    let z : c.along.inside.z ≡ longer_across e.axis Z n = search rules in
    let at = λ (places : Extents). counted_at n (Edges e) (λ i j k. number_at places xs (g + i) (g + j) (g + k)) in
    c.region_above.ensures
    ∙ ap (λ places. first_in_places c.along.inside.x c.along.inside.y c.along.inside.z (at places)) c.of_edges-extents.ensures
    ∙ ap (λ m. first_in_places m c.along.inside.y c.along.inside.z (at (edge_extents n g e.axis))) x
    ∙ ap (λ m. first_in_places (longer_across e.axis X n) m c.along.inside.z (at (edge_extents n g e.axis))) y
    ∙ ap (λ m. first_in_places (longer_across e.axis X n) (longer_across e.axis Y n) m (at (edge_extents n g e.axis))) z
