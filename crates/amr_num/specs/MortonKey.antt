-- The Morton key, by which nodes of the tree are ordered.
use Rattle.std.specs.Prelude.{ℕ, zero, suc, ◌+◌, ◌-◌, ◌*◌, ◌/◌, ◌%◌, ◌^◌}
use Rattle.amr_num.specs.Numbers.{finest_level}
use Rattle.amr_num.specs.declared.BlockAt.{BlockAt}

-- the lowest k bits of x, y and z in turn, x lowest
unfoldable pub interleave : ℕ → ℕ → ℕ → ℕ → ℕ
interleave zero x y z = 0
interleave (suc k) x y z = (x % 2 + 2 * (y % 2) + 4 * (z % 2)) + 8 * interleave k (x / 2) (y / 2) (z / 2)

-- where a block begins on an axis, in blocks of the finest level 10
unfoldable pub low_end : ℕ → ℕ → ℕ
low_end l x = x * 2 ^ (finest_level - l)

-- the place of a block's first finest block on the Morton curve
unfoldable pub morton : BlockAt → ℕ
morton b = interleave 13 (low_end b.level b.x) (low_end b.level b.y) (low_end b.level b.z)

-- blocks go by the place where they begin, and of those that begin there the coarser first
unfoldable pub key : BlockAt → ℕ
key b = 16 * morton b + b.level
