-- Regions of a domain.
use Rattle.std.proofs.Common.{ℕ, ◌*◌, ◌^◌, ◌≤◌, arith, inl, inr}
use Rattle.std.proofs.lemmas.Nat.{mul-le}
use Rattle.std.proofs.Math.Pow.{pow_mono}
use Rattle.amr_num.specs.declared.Axis.TheVariants.{X, Y, Z}
use Rattle.mesh_model.specs.declared.geometry.Shape.{Shape}
use Rattle.mesh_model.specs.Geometry.Coordinates.{roots}
use Rattle.mesh_model.specs.Geometry.Limits.{IsShape}
use Rattle.mesh_model.specs.Language.Commands.{IsBox}
use Rattle.amr_engine.specs.Regions.{IsCellBox, IsRegion, IsRegionOf}
use Rattle.amr_engine.specs.declared.region.CellBox.{CellBox}
use Rattle.amr_engine.specs.declared.region.Region.{Region}
use Rattle.amr_engine.specs.declared.region.Region.TheVariants.{Everywhere, Within}

-- coordinates are small
extent_small : (roots n l : ℕ) → roots ≤ 8 → n ≤ 8 → l ≤ 10 → roots * n * 2 ^ l ≤ 2 ^ 20
extent_small roots n l few short deep =
    let cells : roots * n ≤ 8 * 8 = mul-le roots n 8 8 few short in
    let unit : 2 ^ l ≤ 2 ^ 10 = pow_mono {i = l} {j = 10} (omega arith) in
    let all : roots * n * 2 ^ l ≤ 8 * 8 * 2 ^ 10 = mul-le (roots * n) (2 ^ l) (8 * 8) (2 ^ 10) cells unit in
    omega arith

-- and so are the corners of a box of the domain
box_small : (s : Shape) → IsShape s → (b : CellBox) → IsBox s b.level b.low b.high → IsCellBox b
box_small s shape b is =
    let short : s.n ≤ 8 = elim shape.cells [ inl four ↦ omega arith | inr eight ↦ omega arith ] in
    let x = extent_small s.rx s.n b.level shape.few_x short is.level in
    let y = extent_small s.ry s.n b.level shape.few_y short is.level in
    let z = extent_small s.rz s.n b.level shape.few_z short is.level in
    record {
      level = is.level;
      low = record { x = omega (arith, is.begins X, is.ends X, x); y = omega (arith, is.begins Y, is.ends Y, y); z = omega (arith, is.begins Z, is.ends Z, z) };
      high = record { x = omega (arith, is.ends X, x); y = omega (arith, is.ends Y, y); z = omega (arith, is.ends Z, z) };
    }

pub region_small : (s : Shape) → IsShape s → (region : Region) → IsRegionOf s region → IsRegion region
region_small s shape Everywhere is = tt
region_small s shape (Within b) is = box_small s shape b is
