-- What a regrid makes of a world, and why it is refused.
use Rattle.std.specs.Prelude.{◌≡◌, ◌<◌, length, Option, None, Some}
use Rattle.std.specs.Option.{option_or}
use Rattle.mesh_model.specs.Geometry.Limits.{most_nodes}
use Rattle.mesh_model.specs.Tree.Order.{nodes}
use Rattle.mesh_model.specs.Fields.Plain.{marked, Mesh}
use Rattle.mesh_model.specs.Fields.RangeWalk.{first_excess}
use Rattle.mesh_model.specs.Fields.Ranks.{WorldState}
use Rattle.mesh_model.specs.Tree.Regrown.{new_grid, regrown}
use Rattle.mesh_model.specs.Fields.Regrid.{regrid}
use Rattle.mesh_model.specs.Tree.ValidGrid.{FewNodes}
use Rattle.mesh_model.specs.Fields.Valid.{ValidMesh}
use Rattle.block_tree.specs.declared.tree.GrowStop.{GrowStop}
use Rattle.block_tree.specs.declared.tree.GrowStop.TheVariants as grow
use Rattle.mesh_model.specs.declared.fields.spot.RangeStop.{RangeStop}
use Rattle.rank_world.specs.Holding.{IsOfMesh}
use Rattle.refine_marks.specs.declared.plan.Plan.{Plan}
use Rattle.refine_marks.specs.Planned.{merged_by, refined_by}
use Rattle.regrid_move.specs.AxisMoves.{edges_stop, faces_stop}
use Rattle.regrid_move.specs.Near.{all_stop}
use Rattle.regrid_move.specs.declared.regridding.RegridStop.{RegridStop}
use Rattle.regrid_move.specs.declared.regridding.RegridStop.TheVariants.{Blocks, Range, OutOfMemory}

-- the plan gives the new grid of the mesh, as the closure of its marks does
abbrev pub IsPlanOf : Mesh → Plan → Type 0
IsPlanOf m plan = new_grid (marked m) ≡ regrown m.grid (refined_by m.grid plan) (merged_by m.grid plan)

-- the first number out of range of those that are moved: by variables, in each by the new leaves in order, in each by its cells, x fastest,
-- then y, then z; then of the face variable, by the new leaves in order, in each by its leaf faces; then of the edge variable by its leaf edges
abbrev pub first_moved_excess : Mesh → Option RangeStop
first_moved_excess m =
    let g = new_grid (marked m) in
    option_or (all_stop m.grid g m.cells (length m.names.cells))
    (option_or (faces_stop m.grid g m.faces (length (nodes g.leaves))) (edges_stop m.grid g m.edges (length (nodes g.leaves))))

-- a world, and a plan, of a valid mesh
pub record AreOfMesh (w : WorldState) (plan : Plan) (m : Mesh) : Type 0 where
  pub valid : ValidMesh m
  pub world : IsOfMesh w m
  pub plan_is : IsPlanOf m plan

-- the new mesh has nodes within the limit and numbers within their range, and the world is that mesh's
pub record IsRegridded (m : Mesh) (w : WorldState) : Type 0 where
  pub few : FewNodes (new_grid (marked m))
  pub in_range : first_excess (regrid m) ≡ None
  pub world : IsOfMesh w (regrid m)

-- the new mesh has too many nodes, so many; or else a number out of range, the first in the walk; or memory was refused
abbrev pub IsRegridStop : Mesh → RegridStop → Type 0
IsRegridStop m (Blocks count) = (count ≡ length (nodes (new_grid (marked m)).leaves)) × (most_nodes (new_grid (marked m)).shape < count)
IsRegridStop m (Range stop) = FewNodes (new_grid (marked m)) × (first_excess (regrid m) ≡ Some stop)
IsRegridStop m OutOfMemory = Unit {0}

-- why there is no new tree
abbrev pub of_growth : GrowStop → RegridStop
of_growth (grow.Blocks count) = Blocks count
of_growth grow.OutOfMemory = OutOfMemory
