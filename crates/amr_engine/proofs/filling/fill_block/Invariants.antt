use Rattle.mesh_model.specs.Fields.ArrayPlaces.{AreRowsWritten, cell_extents, interior}
use Rattle.amr_engine.specs.Filling.{filled_cell}
use Rattle.amr_engine.proofs.filling.fill_block.Given as goal

abbrev pub invariant-loop-m : goal.invariant-loop-m
invariant-loop-m l = AreRowsWritten l.m (cell_extents l.n l.g) (interior l.n l.g) (filled_cell l.n l.g l.initial.values l.block l.fill) l.initial.values l.values
