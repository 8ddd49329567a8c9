-- Regions of arrays.
use Rattle.mesh_model.specs.Fields.ArrayPlaces.{Box}
use Rattle.block_store.specs.declared.regions.PlaceAt.{PlaceAt}
use Rattle.block_store.specs.declared.regions.Region.{Region}

-- the places of a region, and as many from another place on
abbrev pub box_from : Region → PlaceAt → Box
box_from r p = record { x = p.x; y = p.y; z = p.z; along_x = r.along_x; along_y = r.along_y; along_z = r.along_z }

abbrev pub box_of : Region → Box
box_of r = box_from r r.at
