-- The limits of a mesh.
use Rattle.std.specs.Prelude.{◌≡◌, ℕ, suc, ◌<◌, ◌≤◌, ◌⊎◌, ◌==◌, if◌then◌else◌, length}
use Rattle.amr_num.specs.Numbers.{finest_level}
use Rattle.amr_num.specs.declared.Axis.{Axis}
use Rattle.mesh_model.specs.declared.geometry.Shape.{Shape}
use Rattle.mesh_model.specs.Geometry.Coordinates.{is_periodic_kind, side_kind, side_index}

-- a shape has 1 to 8 roots on each axis; blocks of 4 or 8 cells along each axis, with 1, 2 or 4 guard cells on each side;
-- levels up to 10; and six sides, of which both or neither of an axis are periodic
pub record IsShape (s : Shape) : Type 0 where
  pub rx : 0 < s.rx
  pub ry : 0 < s.ry
  pub rz : 0 < s.rz
  pub few_x : s.rx ≤ 8
  pub few_y : s.ry ≤ 8
  pub few_z : s.rz ≤ 8
  pub cells : (s.n ≡ 4) ⊎ (s.n ≡ 8)
  pub guards : (s.g ≡ 1) ⊎ ((s.g ≡ 2) ⊎ (s.g ≡ 4))
  pub min : s.min ≤ s.max
  pub max : s.max ≤ finest_level
  pub six : length s.sides ≡ 6
  pub both : (a : Axis) → is_periodic_kind (side_kind s.sides (side_index a)) ≡ is_periodic_kind (side_kind s.sides (suc (side_index a)))

-- the most nodes that a tree has: 8,192, and 4,096 where blocks have 4 guard cells on each side
abbrev pub most_nodes : Shape → ℕ
most_nodes s = if s.g == 4 then 4096 else 8192
