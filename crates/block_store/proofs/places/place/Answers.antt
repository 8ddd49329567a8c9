use Rattle.std.proofs.Common.{ap}
use Rattle.mesh_model.specs.Fields.ArrayPlaces as places
use Rattle.block_store.proofs.places.place.Goals as goal

pub returns-clause-value : goal.returns-clause-value
unfolding places.place_in
returns-clause-value c = ap (λ e. places.place_in e c.args.i c.args.j c.args.k) c.extents.view_is
