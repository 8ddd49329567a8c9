-- Coordinates on axes, and blocks that are the same.
use Rattle.std.proofs.lemmas.Bool.{and_parts}
use Rattle.std.proofs.Common.{◌≡◌, ℕ, Bool, true, false, ◌&&◌, ◌==◌, refl, eqb-true}
use Rattle.amr_num.specs.declared.Axis.{Axis}
use Rattle.amr_num.specs.declared.Axis.TheVariants.{X, Y, Z}
use Rattle.amr_num.specs.declared.BlockAt.{BlockAt}
use Rattle.amr_num.specs.declared.CellAt.{CellAt}
use Rattle.mesh_model.specs.Geometry.Blocks.{is_same_block}
use Rattle.mesh_model.specs.Geometry.Coordinates.{on, with}

pub on_with : (a : Axis) (p : ℕ) (c : CellAt) → on a (with a p c) ≡ p
on_with X p c = refl
on_with Y p c = refl
on_with Z p c = refl

pub with_own : (a : Axis) (c : CellAt) → with a (on a c) c ≡ c
with_own X c = refl
with_own Y c = refl
with_own Z c = refl

pub with_same : (a : Axis) (p : ℕ) (c : CellAt) → p ≡ on a c → with a p c ≡ c
with_same X p c h = λ i. record { level = c.level; x = h i; y = c.y; z = c.z }
with_same Y p c h = λ i. record { level = c.level; x = c.x; y = h i; z = c.z }
with_same Z p c h = λ i. record { level = c.level; x = c.x; y = c.y; z = h i }

pub same_block : (a b : BlockAt) → is_same_block a b ≡ true → a ≡ b
same_block a b h =
    let with_z = and_parts ((a.level == b.level) && (a.x == b.x) && (a.y == b.y)) (a.z == b.z) h in
    let with_y = and_parts ((a.level == b.level) && (a.x == b.x)) (a.y == b.y) with_z.0 in
    let with_x = and_parts (a.level == b.level) (a.x == b.x) with_y.0 in
    λ i. record { level = eqb-true a.level b.level with_x.0 i; x = eqb-true a.x b.x with_x.1 i; y = eqb-true a.y b.y with_y.1 i; z = eqb-true a.z b.z with_z.1 i }

pub with_level : (a : Axis) (r : ℕ) (c : CellAt) → (with a r c).level ≡ c.level
with_level X r c = refl
with_level Y r c = refl
with_level Z r c = refl

pub with_with : (a : Axis) (q p : ℕ) (c : CellAt) → with a q (with a p c) ≡ with a q c
with_with X q p c = refl
with_with Y q p c = refl
with_with Z q p c = refl
