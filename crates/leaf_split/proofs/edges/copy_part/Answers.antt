use Rattle.std.proofs.Common.{subst, sym}
use Rattle.mesh_model.specs.Fields.ArrayPlaces.{Fits}
use Rattle.leaf_split.specs.EdgeKeeps.{part_box, part_there}
use Rattle.leaf_split.proofs.EdgeParts.{part_fits, there_fits}
use Rattle.leaf_split.proofs.edges.copy_part.Goals as goal

pub copy_region-requires-clause-fits : goal.copy_region-requires-clause-fits
copy_region-requires-clause-fits c =
    subst (λ b. Fits c.of_edges.result b) (sym c.part_region.ensures)
    (subst (λ e. Fits e (part_box c.args.n c.args.g c.args.axis c.args.part)) (sym c.of_edges.ensures) (part_fits c.args.n c.args.g c.requires.size c.args.axis c.args.part))

pub copy_region-requires-clause-source : goal.copy_region-requires-clause-source
copy_region-requires-clause-source c =
    let box = part_box c.args.n c.args.g c.args.axis c.args.part in
    subst (λ b. Fits c.of_edges.result (record b { x = c.place_there.result.x; y = c.place_there.result.y; z = c.place_there.result.z })) (sym c.part_region.ensures)
    (subst (λ p. Fits c.of_edges.result (record box { x = p.x; y = p.y; z = p.z })) (sym c.place_there.ensures)
    (subst (λ e. Fits e (record box { x = (part_there c.args.n c.args.g c.args.axis c.args.part c.args.toward).x; y = (part_there c.args.n c.args.g c.args.axis c.args.part c.args.toward).y; z = (part_there c.args.n c.args.g c.args.axis c.args.part c.args.toward).z })) (sym c.of_edges.ensures)
    (there_fits c.args.n c.args.g c.requires.size c.args.axis c.args.part c.args.toward c.requires.near)))
