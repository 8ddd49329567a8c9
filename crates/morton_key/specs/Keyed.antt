-- Which blocks have keys.
use Rattle.std.specs.Prelude.{◌*◌, ◌^◌, ◌<◌, ◌≤◌}
use Rattle.amr_num.specs.Numbers.{finest_level}
use Rattle.amr_num.specs.declared.BlockAt.{BlockAt}

-- a block of a level of at most 10, over at most 8 roots on each axis
pub record HasKey (b : BlockAt) : Type 0 where
  pub level : b.level ≤ finest_level
  pub x : b.x < 8 * 2 ^ b.level
  pub y : b.y < 8 * 2 ^ b.level
  pub z : b.z < 8 * 2 ^ b.level
