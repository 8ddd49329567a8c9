-- A tree as the list of its nodes.
use Rattle.std.specs.Prelude.{◌≡◌, Bool, not, ◌&&◌, nat_lt, List, filter}
use Rattle.std.specs.List.{list_any}
use Rattle.amr_num.specs.declared.BlockAt.{BlockAt}
use Rattle.mesh_model.specs.declared.geometry.Shape.{Shape}
use Rattle.mesh_model.specs.Tree.Kinds.{Grid}
use Rattle.mesh_model.specs.Geometry.Blocks.{lies_in}
use Rattle.mesh_model.specs.Tree.Order.{Sorted, nodes}
use Rattle.mesh_model.specs.Tree.ValidGrid.{Valid, FewNodes}

-- some finer node lies in b
unfoldable pub is_above : List BlockAt → BlockAt → Bool
is_above all b = list_any (λ n. nat_lt b.level n.level && lies_in n b) all

-- the leaves of the tree with these nodes: those in which no finer one lies
unfoldable pub lowest : List BlockAt → List BlockAt
lowest all = filter (λ b. not (is_above all b)) all

-- the grid of the tree with these nodes
abbrev pub grid_in : Shape → List BlockAt → Grid
grid_in s all = record { shape = s; leaves = lowest all }

-- these are the nodes of a valid grid, all of them and by rising key, and they are not too many
pub record IsTree (s : Shape) (all : List BlockAt) : Type 0 where
  pub valid : Valid (grid_in s all)
  pub order : Sorted (lowest all)
  pub few : FewNodes (grid_in s all)
  pub whole : nodes (lowest all) ≡ all
