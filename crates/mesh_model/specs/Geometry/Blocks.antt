-- Blocks, their children and parents.
use Rattle.std.specs.Prelude.{◌≡◌, ◌<◌, ◌≤◌, ◌^◌, ℕ, suc, ◌+◌, ◌-◌, ◌*◌, ◌/◌, ◌%◌, Bool, ◌&&◌, ◌==◌, List, [], ◌∷◌, map, nat_le}
use Rattle.amr_num.specs.declared.BlockAt.{BlockAt}
use Rattle.amr_num.specs.declared.CellAt.{CellAt}
use Rattle.mesh_model.specs.declared.geometry.Shape.{Shape}

-- the block one level coarser in which a block lies
abbrev pub parent_block : BlockAt → BlockAt
parent_block b = record { level = b.level - 1; x = b.x / 2; y = b.y / 2; z = b.z / 2 }

-- the child q of a block, with q = i + 2 j + 4 k
abbrev pub child_block : BlockAt → ℕ → BlockAt
child_block b q = record { level = suc b.level; x = 2 * b.x + q % 2; y = 2 * b.y + q / 2 % 2; z = 2 * b.z + q / 4 % 2 }

-- the eight children, in Morton order
abbrev pub children : BlockAt → List BlockAt
children b = map (child_block b) (0 ∷ 1 ∷ 2 ∷ 3 ∷ 4 ∷ 5 ∷ 6 ∷ 7 ∷ [])

-- it is its parent's child 0, which begins where the parent does
abbrev pub is_first_child : BlockAt → Bool
is_first_child b = (b.x % 2 == 0) && (b.y % 2 == 0) && (b.z % 2 == 0)

abbrev pub is_same_block : BlockAt → BlockAt → Bool
is_same_block a b = (a.level == b.level) && (a.x == b.x) && (a.y == b.y) && (a.z == b.z)

-- the block b lies in the block a
pub record LiesIn (b a : BlockAt) : Type 0 where
  pub level : a.level ≤ b.level
  pub x : b.x / 2 ^ (b.level - a.level) ≡ a.x
  pub y : b.y / 2 ^ (b.level - a.level) ≡ a.y
  pub z : b.z / 2 ^ (b.level - a.level) ≡ a.z

-- the same as a test
abbrev pub lies_in : BlockAt → BlockAt → Bool
lies_in b a =
    nat_le a.level b.level && (b.x / 2 ^ (b.level - a.level) == a.x) && (b.y / 2 ^ (b.level - a.level) == a.y)
    && (b.z / 2 ^ (b.level - a.level) == a.z)

-- b is a block of the domain, of a level of the mesh
pub record InDomain (s : Shape) (b : BlockAt) : Type 0 where
  pub level : b.level ≤ s.max
  pub x : b.x < s.rx * 2 ^ b.level
  pub y : b.y < s.ry * 2 ^ b.level
  pub z : b.z < s.rz * 2 ^ b.level

-- a cell as a block of one cell
abbrev pub as_block : CellAt → BlockAt
as_block c = record { level = c.level; x = c.x; y = c.y; z = c.z }
