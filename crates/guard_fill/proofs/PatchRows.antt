-- Rows of patches.
use Rattle.std.proofs.Common.{ℕ, ◌<◌}
use Rattle.mesh_model.specs.Fields.ArrayPlaces.{Extents, Fits, cell_extents}
use Rattle.guard_fill.specs.declared.strips.Patch.{Patch}
use Rattle.guard_fill.specs.Strips.{AllReach, AreWithin, box_of, cell_at}
pub use Rattle.block_store.proofs.BoxRows.{all_planes, no_more_row, no_plane, one_more_at, one_more_plane, row_written, taken}

-- a patch fits into an array
pub patch_fits : (n g : ℕ) (p : Patch) → AreWithin n g p → Fits (cell_extents n g) (box_of p)
patch_fits n g p within = record { x = within.x.places; y = within.y.places; z = within.z.places }

-- the cells from which the row (j, k) of a patch has its numbers
pub row_cells : (n g : ℕ) (p : Patch) (j k : ℕ) → AreWithin n g p → (j < p.y.many) × (k < p.z.many) → (cell_at p.y j < n) × (cell_at p.z k < n)
row_cells n g p j k within row = (within.y.cells j row.0, within.z.cells k row.1)

pub reach_fits : (e : Extents) (g : ℕ) (p : Patch) → AllReach e g p → Fits e (box_of p)
reach_fits e g p reach = record { x = reach.x.to; y = reach.y.to; z = reach.z.to }
