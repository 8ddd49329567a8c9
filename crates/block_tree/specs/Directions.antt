-- Blocks in all directions from a block, and what lies round the edges on its boundary.
use Rattle.std.specs.Prelude.{◌≡◌, ℕ, zero, suc, ◌*◌, ◌/◌, ◌%◌, ◌^◌, ◌<◌, ◌⊎◌, Bool, true, false, ◌&&◌, ◌||◌, ◌==◌, Option, Some, None}
use Rattle.amr_num.specs.declared.Axis.{Axis}
use Rattle.amr_num.specs.declared.Axis.TheVariants.{X, Y, Z}
use Rattle.amr_num.specs.declared.BlockAt.{BlockAt}
use Rattle.amr_num.specs.declared.EdgeAt.{EdgeAt}
use Rattle.mesh_model.specs.declared.geometry.Shape.{Shape}
use Rattle.mesh_model.specs.Geometry.Canonical.{canonical_on}
use Rattle.mesh_model.specs.Geometry.Coordinates.{above, below, edge_of, is_periodic, next, roots}
use Rattle.mesh_model.specs.Geometry.Places.{in_block}
use Rattle.mesh_model.specs.Geometry.Touch.{block_on}
use Rattle.mesh_model.specs.Tree.Kinds.{Grid, is_leaf_block, is_split_block}
use Rattle.mesh_model.specs.Fields.FaceSplits.{is_kept}
use Rattle.block_tree.specs.Numbered.{IsNode, block_at}
use Rattle.block_tree.specs.declared.directions.Direction.{Direction}
use Rattle.block_tree.specs.declared.directions.Round.{Round}

-- the direction with a number
abbrev pub direction_of : ℕ → Direction
direction_of d = record { x = d % 3; y = d / 3 % 3; z = d / 9 % 3 }

-- the coordinate one step from p on an axis of e blocks: down, none or up
abbrev pub toward_on : Bool → ℕ → ℕ → ℕ → Option ℕ
toward_on periodic zero e p = below periodic e p
toward_on periodic (suc zero) e p = Some p
toward_on periodic (suc (suc s)) e p = above periodic e (suc p)

abbrev pub along : Shape → Axis → ℕ → BlockAt → Option ℕ
along s a step b = toward_on (is_periodic s a) step (roots s a * 2 ^ b.level) (block_on a b)

-- the block with three coordinates, where all are there
abbrev pub block_of_three : ℕ → Option ℕ → Option ℕ → Option ℕ → Option BlockAt
block_of_three l None y z = None
block_of_three l (Some x) None z = None
block_of_three l (Some x) (Some y) None = None
block_of_three l (Some x) (Some y) (Some z) = Some (record { level = l; x = x; y = y; z = z })

-- the block of the same level in a direction from b, wrapped on periodic axes
unfoldable pub block_toward : Shape → Direction → BlockAt → Option BlockAt
block_toward s d b = block_of_three b.level (along s X d.x b) (along s Y d.y b) (along s Z d.z b)

-- ---- round the edges on a block's boundary

-- the block is a leaf, or split
abbrev pub is_kind : Grid → Bool → BlockAt → Bool
is_kind g true b = is_leaf_block g b
is_kind g false b = is_split_block g b

-- a block is there and passes
abbrev pub passes : (BlockAt → Bool) → Option BlockAt → Bool
passes p None = false
passes p (Some b) = p b

-- the block in a direction from b is of the kind
unfoldable pub lies_toward : Grid → Bool → BlockAt → Direction → Bool
lies_toward g leaf b d = passes (is_kind g leaf) (block_toward g.shape d b)

-- edges lie on the parts of the boundary in all directions but those of corners
abbrev pub has_edges : Direction → Bool
has_edges d = (d.x == 1) || (d.y == 1) || (d.z == 1)

-- round the edges on the part of b's boundary in a direction a block of the kind lies: that in this direction, or one of those with one step less
unfoldable pub lies_round : Grid → Bool → BlockAt → Direction → Bool
lies_round g leaf b d =
    has_edges d && (lies_toward g leaf b d || lies_toward g leaf b (record d { x = 1 }) || lies_toward g leaf b (record d { y = 1 }) || lies_toward g leaf b (record d { z = 1 }))

-- the node lies in a direction from b, and is of the kind
pub record IsToward (g : Grid) (leaf : Bool) (b : BlockAt) (d : Direction) (node : ℕ) : Type 0 where
  pub there : IsNode g node
  pub kind : is_kind g leaf (block_at g node) ≡ true
  pub toward : block_toward g.shape d b ≡ Some (block_at g node)

-- the node is one of the kind that lie round the edges on the part of b's boundary in a direction
pub record IsRound (g : Grid) (leaf : Bool) (b : BlockAt) (d : Direction) (r : Round) : Type 0 where
  pub node : IsToward g leaf b r.toward r.node
  pub on_x : (r.toward.x ≡ d.x) ⊎ (r.toward.x ≡ 1)
  pub on_y : (r.toward.y ≡ d.y) ⊎ (r.toward.y ≡ 1)
  pub on_z : (r.toward.z ≡ d.z) ⊎ (r.toward.z ≡ 1)
  pub round : lies_round g leaf b d ≡ true

-- the first so many bits are those of the parts of the boundary round whose edges blocks of the kind lie
pub record AreParts (g : Grid) (leaf : Bool) (b : BlockAt) (many parts : ℕ) : Type 0 where
  pub each : (d : ℕ) → d < many → is_kept parts d ≡ lies_round g leaf b (direction_of d)

-- the direction with steps on the two axes after a
abbrev pub across : Axis → ℕ → ℕ → Direction
across X s t = record { x = 1; y = s; z = t }
across Y s t = record { x = t; y = 1; z = s }
across Z s t = record { x = s; y = t; z = 1 }

-- the canonical name of a block's edge along an axis
abbrev pub edge_name : Shape → Axis → BlockAt → ℕ → ℕ → ℕ → EdgeAt
edge_name s a b i j k = edge_of a (canonical_on s (next a) (canonical_on s (next (next a)) (in_block s.n b i j k)))
