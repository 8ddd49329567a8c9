-- What the limits of a shape say of its numbers.
use Rattle.std.proofs.Common.{ℕ, ◌*◌, ◌^◌, ◌<◌, ◌≤◌, arith, inl, inr, mul-pos, pow_mono}
use Rattle.std.proofs.lemmas.Nat.{pow_pos, mul-le}
use Rattle.amr_num.specs.declared.Axis.{Axis}
use Rattle.amr_num.specs.declared.Axis.TheVariants.{X, Y, Z}
use Rattle.mesh_model.specs.declared.geometry.Shape.{Shape}
use Rattle.mesh_model.specs.Geometry.Coordinates.{roots, extent}
use Rattle.mesh_model.specs.Geometry.Limits.{IsShape}

pub cells_least : {s : Shape} → IsShape s → 4 ≤ s.n
cells_least h = elim h.cells [ inl four ↦ omega arith | inr eight ↦ omega arith ]

pub cells_most : {s : Shape} → IsShape s → s.n ≤ 8
cells_most h = elim h.cells [ inl four ↦ omega arith | inr eight ↦ omega arith ]

pub cells_some : {s : Shape} → IsShape s → 0 < s.n
cells_some h = let least = cells_least h in omega arith

roots_some : {s : Shape} → IsShape s → (a : Axis) → 0 < roots s a
roots_some h X = h.rx
roots_some h Y = h.ry
roots_some h Z = h.rz

pub roots_few : {s : Shape} → IsShape s → (a : Axis) → roots s a ≤ 8
roots_few h X = h.few_x
roots_few h Y = h.few_y
roots_few h Z = h.few_z

pub extent_some : {s : Shape} → IsShape s → (a : Axis) (l : ℕ) → 0 < extent s a l
extent_some h a l = mul-pos (mul-pos (roots_some h a) (cells_some h)) (pow_pos l)

pub extent_few : {s : Shape} → IsShape s → (a : Axis) (l : ℕ) → l ≤ 10 → extent s a l ≤ 65536
extent_few {s} h a l le = mul-le (roots s a * s.n) (2 ^ l) 64 1024 (mul-le (roots s a) s.n 8 8 (roots_few h a) (cells_most h)) (pow_mono le)
