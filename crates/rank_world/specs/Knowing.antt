-- What every rank knows, as plain data.
use Rattle.mesh_model.specs.Fields.Ranks.{Told}
use Rattle.block_tree.specs.GridOf.{grid_of}
use Rattle.rank_world.specs.declared.known.Known.{Known}

abbrev pub told : Known → Told
told k = record { grid = grid_of k.tree; counts = k.layout }
