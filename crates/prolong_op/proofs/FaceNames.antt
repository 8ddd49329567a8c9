-- The names of a child's faces: those at even positions are subfaces of its parent's.
use Rattle.std.proofs.Common.{◌≡◌, ℕ, suc, ◌+◌, ◌*◌, ◌/◌, ◌%◌, ◌^◌, ◌<◌, ◌⊎◌, Bool, true, false, refl, sym, ap, ap₂, ◌∙◌, arith, subst}
use Rattle.std.proofs.lemmas.Bool.Decides.{nat_tests}
use Rattle.amr_num.specs.declared.Axis.{Axis}
use Rattle.amr_num.specs.declared.Axis.TheVariants.{X, Y, Z}
use Rattle.amr_num.specs.declared.BlockAt.{BlockAt}
use Rattle.amr_num.specs.declared.CellAt.{CellAt}
use Rattle.mesh_model.specs.declared.geometry.Shape.{Shape}
use Rattle.mesh_model.specs.Geometry.Blocks.{InDomain, child_block}
use Rattle.mesh_model.specs.Geometry.Canonical.{canonical_on}
use Rattle.mesh_model.specs.Geometry.Coordinates.{Inside, extent, face_numbers, face_of, is_periodic, on, quarter, sub_cell, sub_face, wrapped}
use Rattle.mesh_model.specs.Geometry.Places.{in_block}
use Rattle.mesh_model.specs.Fields.FaceSplits.{position}
use Rattle.mesh_model.specs.Fields.Octants.{half_at}
use Rattle.mesh_model.specs.Fields.Views.{cross}
use Rattle.mesh_model.proofs.FieldLemmas.Beside.{three}
use Rattle.mesh_model.proofs.FieldLemmas.Slots.{extent_double}
use Rattle.mesh_model.proofs.FieldLemmas.Sums.{wrapped_inside}
use Rattle.mesh_model.proofs.GeometryLemmas.Halves.{by_size, two_halves}
use Rattle.mesh_model.proofs.GeometryLemmas.OnAxes.{with_same}

-- ---- canonical names

-- a position of twice as many, wrapped
wrapped_twice : (b : Bool) (e p : ℕ) → wrapped b (2 * e) (2 * p) ≡ 2 * wrapped b e p
unfolding wrapped
wrapped_twice false e p = refl
wrapped_twice true e p = grind (arith, nat_tests)

pub turned : (s : Shape) (a : Axis) (l p : ℕ) → wrapped (is_periodic s a) (extent s a (suc l)) (2 * p + 0) ≡ 2 * wrapped (is_periodic s a) (extent s a l) p + 0
turned s a l p =
    let at : 2 * p + 0 ≡ 2 * p = omega arith in
    let more : 2 * wrapped (is_periodic s a) (extent s a l) p ≡ 2 * wrapped (is_periodic s a) (extent s a l) p + 0 = omega arith in
    ap₂ (wrapped (is_periodic s a)) (extent_double s a l) at ∙ wrapped_twice (is_periodic s a) (extent s a l) p ∙ more

-- the canonical name of a subface is a subface of the canonical name
canonical_sub_face : (s : Shape) (a : Axis) (c : CellAt) (r : ℕ) → face_of a (canonical_on s a (face_numbers (sub_face (face_of a c) r))) ≡ sub_face (face_of a (canonical_on s a c)) r
canonical_sub_face s X c r =
    let x = turned s X c.level c.x in
    λ t. record { axis = X; level = suc c.level; x = x t; y = 2 * c.y + r % 2; z = 2 * c.z + r / 2 % 2 }
canonical_sub_face s Y c r =
    let y = turned s Y c.level c.y in
    λ t. record { axis = Y; level = suc c.level; x = 2 * c.x + r % 2; y = y t; z = 2 * c.z + r / 2 % 2 }
canonical_sub_face s Z c r =
    let z = turned s Z c.level c.z in
    λ t. record { axis = Z; level = suc c.level; x = 2 * c.x + r % 2; y = 2 * c.y + r / 2 % 2; z = z t }

pub wrapped_below : (b : Bool) (e p : ℕ) → p < e → wrapped b e p ≡ p
unfolding wrapped
wrapped_below true e p h = wrapped_inside e p h
wrapped_below false e p h = refl

-- a position below the far end is canonical
pub canonical_below : (s : Shape) (a : Axis) (c : CellAt) → on a c < extent s a c.level → canonical_on s a c ≡ c
canonical_below s a c h = with_same a _ c (wrapped_below (is_periodic s a) (extent s a c.level) (on a c) h)

-- ---- coordinates of a child

-- a coordinate of a child's place, by the parent's place in which it lies
coordinate : (n x r i d : ℕ) → (n ≡ 4) ⊎ (n ≡ 8) → n * (2 * x + r % 2) + (2 * i + d) ≡ 2 * (n * x + (half_at n r + i)) + d
coordinate n x r i d size = let two = two_halves n (r % 2) size in omega arith

-- the faces of a child are subfaces of its parent's
pub face_of_child : (s : Shape) (n : ℕ) (a : Axis) (b : BlockAt) (q i j k r : ℕ) → (n ≡ 4) ⊎ (n ≡ 8) →
    face_of a (canonical_on s a (in_block n (child_block b q) (2 * i + (quarter a r).x) (2 * j + (quarter a r).y) (2 * k + (quarter a r).z)))
    ≡ sub_face (face_of a (canonical_on s a (in_block n b (half_at n q + i) (half_at n (q / 2) + j) (half_at n (q / 4) + k)))) r
face_of_child s n a b q i j k r size =
    let d = quarter a r in
    let x = coordinate n b.x q i d.x size in
    let y = coordinate n b.y (q / 2) j d.y size in
    let z = coordinate n b.z (q / 4) k d.z size in
    let c = in_block n b (half_at n q + i) (half_at n (q / 2) + j) (half_at n (q / 4) + k) in
    let numbers : in_block n (child_block b q) (2 * i + d.x) (2 * j + d.y) (2 * k + d.z) ≡ face_numbers (sub_face (face_of a c) r) = λ t. record { level = suc b.level; x = x t; y = y t; z = z t } in
    ap (λ m. face_of a (canonical_on s a m)) numbers ∙ canonical_sub_face s a c r

-- at an even position a face is the subface that its halves tell
halves_of : (a : Axis) (i j k : ℕ) → position a i j k % 2 ≡ 0 → let d = quarter a (cross a (i % 2) (j % 2) (k % 2)) in (2 * (i / 2) + d.x ≡ i) × (2 * (j / 2) + d.y ≡ j) × (2 * (k / 2) + d.z ≡ k)
halves_of X i j k h = (omega arith, omega arith, omega arith)
halves_of Y i j k h = (omega arith, omega arith, omega arith)
halves_of Z i j k h = (omega arith, omega arith, omega arith)

pub even_face : (s : Shape) (n : ℕ) (a : Axis) (b : BlockAt) (q i j k : ℕ) → (n ≡ 4) ⊎ (n ≡ 8) → position a i j k % 2 ≡ 0 →
    face_of a (canonical_on s a (in_block n (child_block b q) i j k))
    ≡ sub_face (face_of a (canonical_on s a (in_block n b (half_at n q + i / 2) (half_at n (q / 2) + j / 2) (half_at n (q / 4) + k / 2)))) (cross a (i % 2) (j % 2) (k % 2))
even_face s n a b q i j k size h =
    let is = halves_of a i j k h in
    let d = quarter a (cross a (i % 2) (j % 2) (k % 2)) in
    ap (λ u. face_of a (canonical_on s a (in_block n (child_block b q) u j k))) (sym is.0)
    ∙ ap₂ (λ v w. face_of a (canonical_on s a (in_block n (child_block b q) (2 * (i / 2) + d.x) v w))) (sym is.1) (sym is.2)
    ∙ face_of_child s n a b q (i / 2) (j / 2) (k / 2) (cross a (i % 2) (j % 2) (k % 2)) size

-- the cells of a child are sub-cells of its parent's
pub sub_cell_of : (n : ℕ) (b : BlockAt) (q i j k : ℕ) → (n ≡ 4) ⊎ (n ≡ 8) →
    in_block n (child_block b q) i j k ≡ sub_cell (in_block n b (half_at n q + i / 2) (half_at n (q / 2) + j / 2) (half_at n (q / 4) + k / 2)) (i % 2 + 2 * (j % 2) + 4 * (k % 2))
sub_cell_of n b q i j k size =
    let tx = two_halves n (q % 2) size in
    let ty = two_halves n (q / 2 % 2) size in
    let tz = two_halves n (q / 4 % 2) size in
    let o = i % 2 + 2 * (j % 2) + 4 * (k % 2) in
    let x : n * (2 * b.x + q % 2) + i ≡ 2 * (n * b.x + (half_at n q + i / 2)) + o % 2 = omega arith in
    let y : n * (2 * b.y + q / 2 % 2) + j ≡ 2 * (n * b.y + (half_at n (q / 2) + j / 2)) + o / 2 % 2 = omega arith in
    let z : n * (2 * b.z + q / 4 % 2) + k ≡ 2 * (n * b.z + (half_at n (q / 4) + k / 2)) + o / 4 % 2 = omega arith in
    λ t. record { level = suc b.level; x = x t; y = y t; z = z t }

-- ---- cells of a block of the domain

pub line_inside : (n r l x i : ℕ) → (n ≡ 4) ⊎ (n ≡ 8) → x < r * 2 ^ l → i < n → n * x + i < r * n * 2 ^ l
line_inside n r l x i size h less =
    let turn : n * (r * 2 ^ l) ≡ r * n * 2 ^ l = grind arith in
    let room = by_size (λ m. x < r * 2 ^ l → i < m → m * x + i < m * (r * 2 ^ l)) n size (λ p u. omega arith) (λ p u. omega arith) h less in
    subst (λ e. n * x + i < e) turn room

pub block_inside : (s : Shape) (b : BlockAt) → (s.n ≡ 4) ⊎ (s.n ≡ 8) → b.x < s.rx * 2 ^ b.level → b.y < s.ry * 2 ^ b.level → b.z < s.rz * 2 ^ b.level →
    (i j k : ℕ) → i < s.n → j < s.n → k < s.n → Inside s (in_block s.n b i j k)
block_inside s b size x y z i j k hi hj hk =
    three (λ a. on a (in_block s.n b i j k) < extent s a b.level) (line_inside s.n s.rx b.level b.x i size x hi) (line_inside s.n s.ry b.level b.y j size y hj) (line_inside s.n s.rz b.level b.z k size z hk)

pub twice_below : (r l x d : ℕ) → x < r * 2 ^ l → d < 2 → 2 * x + d < r * 2 ^ suc l
twice_below r l x d h less = let turn : r * 2 ^ suc l ≡ 2 * (r * 2 ^ l) = grind arith in omega arith

pub child_inside : (s : Shape) (b : BlockAt) (q : ℕ) → (s.n ≡ 4) ⊎ (s.n ≡ 8) → InDomain s b → (i j k : ℕ) → i < s.n → j < s.n → k < s.n → Inside s (in_block s.n (child_block b q) i j k)
child_inside s b q size domain =
    block_inside s (child_block b q) size (twice_below s.rx b.level b.x (q % 2) domain.x (omega arith)) (twice_below s.ry b.level b.y (q / 2 % 2) domain.y (omega arith)) (twice_below s.rz b.level b.z (q / 4 % 2) domain.z (omega arith))
