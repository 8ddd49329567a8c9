-- Blocks of a domain.
use Rattle.std.specs.Prelude.{◌<◌, ◌≤◌}
use Rattle.amr_num.specs.declared.BlockAt.{BlockAt}

-- its level and its coordinates are those that a block of a domain may have
pub record IsSmallBlock (b : BlockAt) : Type 0 where
  pub level : b.level ≤ 10
  pub x : b.x < 8192
  pub y : b.y < 8192
  pub z : b.z < 8192
