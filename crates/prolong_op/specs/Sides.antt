-- The sides of a cell as the inner rule sees them.
use Rattle.std.specs.Prelude.{ℕ, ◌^◌, ◌<◌, List, ℤ}
use Rattle.amr_num.specs.Numbers.{Within, at}
use Rattle.mesh_model.specs.Fields.InnerRule as rule
use Rattle.prolong_op.specs.declared.inner.Outer.{Outer}

-- the numbers of the 24 subfaces by quarter
abbrev pub sides_of : Outer → rule.Outer
sides_of o = record {
  x_low = at o.x_low;
  x_high = at o.x_high;
  y_low = at o.y_low;
  y_high = at o.y_high;
  z_low = at o.z_low;
  z_high = at o.z_high;
}

-- each of four numbers is at most so great
abbrev pub FourWithin : ℕ → List ℤ → Type 0
FourWithin most xs = (q : ℕ) → q < 4 → Within most (at xs q)

-- all numbers on the sides are in range
pub record AreSmall (o : Outer) : Type 0 where
  pub x_low : FourWithin (2 ^ 40) o.x_low
  pub x_high : FourWithin (2 ^ 40) o.x_high
  pub y_low : FourWithin (2 ^ 40) o.y_low
  pub y_high : FourWithin (2 ^ 40) o.y_high
  pub z_low : FourWithin (2 ^ 40) o.z_low
  pub z_high : FourWithin (2 ^ 40) o.z_high
