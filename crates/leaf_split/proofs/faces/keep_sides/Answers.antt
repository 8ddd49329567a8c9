use Rattle.std.proofs.Common.{subst, sym, true, false}
use Rattle.mesh_model.specs.Tree.ValidGrid.{Valid}
use Rattle.mesh_model.proofs.GeometryLemmas.ShapeLimits.{cells_some}
use Rattle.leaf_split.proofs.Keeps.{low_stays}
use Rattle.leaf_split.proofs.faces.keep_sides.Goals as goal

pub returns-clause-sides : goal.returns-clause-sides
returns-clause-sides g c false =
    let w = c.args.world.now in
    let of = c.requires.mesh in
    let valid : Valid w.told.grid = subst Valid (sym of.world.grid) of.valid.grid in
    low_stays w c.args.axis c.args.block c.keep_side-low.result c.keep_side-low.new.to c.keep_side-high.new.to (cells_some valid.shape) c.keep_side-high.ensures.others c.keep_side-low.ensures.side
returns-clause-sides g c true = c.keep_side-high.ensures.side
