-- The grid with some leaves refined and some parents merged.
use Rattle.std.specs.Prelude.{Bool, true, false, ◌&&◌, nat_lt, if◌then◌else◌, List, [], ◌∷◌, flat_map}
use Rattle.amr_num.specs.declared.BlockAt.{BlockAt}
use Rattle.mesh_model.specs.Tree.Kinds.{Grid}
use Rattle.mesh_model.specs.Tree.MarkedGrid.{MarkedGrid}
use Rattle.mesh_model.specs.Geometry.Blocks.{parent_block, children, is_first_child}
use Rattle.mesh_model.specs.Tree.Closure.{is_refined, is_merged}

-- the leaves in a leaf's place, in Morton order: its children where it is refined, its parent once where that is merged, or itself
abbrev pub leaves_for : (BlockAt → Bool) → (BlockAt → Bool) → BlockAt → List BlockAt
leaves_for refine merge b = elim (refine b) [
  | true ↦ children b
  | false ↦ elim (nat_lt 0 b.level && merge (parent_block b)) [
    | true ↦ (if is_first_child b then parent_block b ∷ [] else [])
    | false ↦ b ∷ []
  ]
]

-- the grid with the leaves of one set refined and the parents of another merged
abbrev pub regrown : Grid → (BlockAt → Bool) → (BlockAt → Bool) → Grid
regrown g refine merge = record { shape = g.shape; leaves = flat_map (leaves_for refine merge) g.leaves }

-- the grid after regrid, by the closure of the marks
abbrev pub new_grid : MarkedGrid → Grid
new_grid m = regrown m.grid (is_refined m) (is_merged m)
