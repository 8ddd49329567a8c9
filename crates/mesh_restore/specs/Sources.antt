-- Leaves from which a leaf takes the numbers that it has in common with them: they are filled before it.
use Rattle.std.specs.Prelude.{◌≡◌, ℕ, zero, suc, ◌/◌, ◌%◌, ◌<◌, if◌then◌else◌, ◌⊎◌, Bool, true, false, not, ◌&&◌, ◌||◌, ◌==◌, nat_lt, List, length, slice_index_or, Option, None, Some, MatchOption}
use Rattle.block_tree.specs.declared.directions.Direction.{Direction}
use Rattle.block_tree.specs.Directions.{block_toward, direction_of}
use Rattle.block_tree.specs.Numbered.{IsNode, block_at}
use Rattle.check_format.specs.Own.{Place, goes_up}
use Rattle.mesh_model.specs.Tree.Kinds.{Grid, is_leaf_block}
use Rattle.mesh_restore.specs.declared.sources.Source.{Source}

-- no step of the direction is down, and some is up
abbrev pub goes_only_up : Direction → Bool
goes_only_up d = goes_up d && not ((d.x == 0) || ((d.y == 0) || (d.z == 0)))

-- what another leaf has in common with a leaf towards a direction is filled before: in an earlier leaf, or at lower places of the leaf itself
abbrev pub comes_before : ℕ → Direction → ℕ → Bool
comes_before node d other = nat_lt other node || ((other == node) && goes_only_up d)

-- a node is a leaf that lies in a direction from a leaf
pub record IsLeafToward (g : Grid) (node : ℕ) (d : Direction) (other : ℕ) : Type 0 where
  pub there : IsNode g other
  pub leaf : is_leaf_block g (block_at g other) ≡ true
  pub toward : block_toward g.shape d (block_at g node) ≡ Some (block_at g other)

-- a leaf that is filled before; in a direction there is none
pub record IsSource (g : Grid) (node : ℕ) (s : Source) : Type 0 where
  pub leaf : IsLeafToward g node s.toward s.node
  pub before : comes_before node s.toward s.node ≡ true

pub record HasNoSource (g : Grid) (node : ℕ) (d : Direction) : Type 0 where
  pub none : (other : ℕ) → IsLeafToward g node d other → comes_before node d other ≡ false

-- the one in a direction
abbrev pub IsSourceToward : Grid → ℕ → Direction → Option Source → Type 0
IsSourceToward g node d found = MatchOption found (HasNoSource g node d) (λ s. IsSource g node s × (s.toward ≡ d))

-- those in the first so many directions, by their numbers, and in all
pub record AreSourcesBelow (g : Grid) (node many : ℕ) (sources : List (Option Source)) : Type 0 where
  pub size : length sources ≡ 27
  pub each : (d : ℕ) → d < many → IsSourceToward g node (direction_of d) (slice_index_or sources d None)

abbrev pub AreSources : Grid → ℕ → List (Option Source) → Type 0
AreSources g node sources = AreSourcesBelow g node 27 sources

-- a direction has steps of another one, and none
pub record IsChoice (d part : Direction) : Type 0 where
  pub x : (d.x ≡ 1) ⊎ (d.x ≡ part.x)
  pub y : (d.y ≡ 1) ⊎ (d.y ≡ part.y)
  pub z : (d.z ≡ 1) ⊎ (d.z ≡ part.z)

-- one of those that lie round a part of the boundary
abbrev pub IsSourceRound : Grid → ℕ → Direction → Option Source → Type 0
IsSourceRound g node part found = MatchOption found ((d : Direction) → IsChoice d part → HasNoSource g node d) (λ s. IsSource g node s × IsChoice s.toward part)

-- a place of n cells on an axis as it is counted in the block a step further
abbrev pub seen_at : ℕ → ℕ → ℕ → ℕ
seen_at n zero i = n
seen_at n (suc zero) i = i
seen_at n (suc (suc s)) i = 0

-- a place as it is counted in the block in a direction
abbrev pub seen_place : ℕ → Direction → Place → Place
seen_place n d p = record { x = seen_at n d.x p.x; y = seen_at n d.y p.y; z = seen_at n d.z p.z }

-- a direction's steps, but none on the axes of which the bits stand
abbrev pub choice_of : Direction → ℕ → Direction
choice_of d bits = record {
  x = if bits % 2 == 0 then d.x else 1;
  y = if bits / 2 % 2 == 0 then d.y else 1;
  z = if bits / 4 % 2 == 0 then d.z else 1;
}
