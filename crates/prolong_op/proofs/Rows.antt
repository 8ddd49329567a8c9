-- A row of a parent's cells, of which a row of a child's is made.
use Rattle.std.proofs.Common.{◌≡◌, ℕ, ◌+◌, ◌-◌, ◌*◌, ◌/◌, ◌%◌, ◌<◌, List, ℤ, pos, take, drop, ap, ap₂, ◌∙◌, arith}
use Rattle.std.proofs.lemmas.List.{get_or-drop, get_or-take}
use Rattle.amr_num.specs.Numbers.{at, part}
use Rattle.mesh_model.specs.Fields.Octants.{half_at, parted}
use Rattle.mesh_model.specs.Fields.ArrayPlaces.{IsSize}
use Rattle.mesh_model.proofs.GeometryLemmas.Halves.{half_of, in_half}

pub row_parts : (n g q : ℕ) (size : IsSize n g) (numbers : ℕ → ℕ → ℕ → ℤ) (j k i : ℕ) (whole : List ℤ) → i < n →
    ((x : ℕ) → x < n → at whole x ≡ numbers (g + x) (g + (half_at n (q / 2) + j / 2)) (g + (half_at n (q / 4) + k / 2))) →
    part (2 * (j % 2) + 4 * (k % 2) + i % 2) (at (take (half_at n q + n / 2 - half_at n q) (drop (half_at n q) whole)) (i / 2)) 8 ≡ parted n g q numbers i j k
unfolding parted
row_parts n g q size numbers j k i whole within is =
    let half = half_of n i size.cells within in
    let inside = in_half n (q % 2) (i / 2) size.cells (omega arith) half in
    let there : at (take (half_at n q + n / 2 - half_at n q) (drop (half_at n q) whole)) (i / 2) ≡ at whole (half_at n q + i / 2) =
    get_or-take (half_at n q + n / 2 - half_at n q) (drop (half_at n q) whole) (i / 2) (pos 0) (omega arith) ∙ get_or-drop (half_at n q) whole (i / 2) (pos 0) in
    ap₂ (λ o x. part o x 8) (omega arith)
    (there ∙ is (half_at n q + i / 2) inside
    ∙ ap (λ x. numbers x (g + (half_at n (q / 2) + j / 2)) (g + (half_at n (q / 4) + k / 2))) (omega arith)
    ∙ ap₂ (λ y z. numbers (g + half_at n q + i / 2) y z) (omega arith) (omega arith))
