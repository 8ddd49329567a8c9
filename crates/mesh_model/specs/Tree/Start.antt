-- The grid with which a run begins: all roots are leaves, in Morton order.
use Rattle.std.specs.Prelude.{ℕ, ◌+◌, ◌*◌, ◌/◌, ◌%◌, Bool, ◌&&◌, nat_lt, if◌then◌else◌, List, [], ◌∷◌, flat_map}
use Rattle.std.specs.List.{range_with_len}
use Rattle.amr_num.specs.declared.BlockAt.{BlockAt}
use Rattle.mesh_model.specs.declared.geometry.Shape.{Shape}
use Rattle.mesh_model.specs.Tree.Kinds.{Grid}

-- the number whose bits are every third bit of m
abbrev pub every_third : ℕ → ℕ
every_third m = m % 2 + 2 * (m / 8 % 2) + 4 * (m / 64 % 2)

-- the root at place m of the Morton order of 8 by 8 by 8 roots
abbrev pub root_at : ℕ → BlockAt
root_at m = record { level = 0; x = every_third m; y = every_third (m / 2); z = every_third (m / 4) }

-- the root lies in the domain
abbrev pub is_root : Shape → BlockAt → Bool
is_root s b = nat_lt b.x s.rx && nat_lt b.y s.ry && nat_lt b.z s.rz

-- the root, where it lies in the domain
abbrev pub root_there : Shape → BlockAt → List BlockAt
root_there s b = if is_root s b then b ∷ [] else []

-- the roots of the domain, in Morton order
unfoldable pub start_leaves : Shape → List BlockAt
start_leaves s = flat_map (λ m. root_there s (root_at m)) (range_with_len 0 512)

-- the grid and the mesh with which a run begins
abbrev pub start_grid : Shape → Grid
start_grid s = record { shape = s; leaves = start_leaves s }
