-- Rows of four faces side by side.
use Rattle.std.proofs.Common.{◌≡◌, ℕ, ◌+◌, ◌-◌, ◌*◌, ◌/◌, ◌%◌, ◌<◌, ◌≤◌, List, ℤ, pos, sym, ap, ◌∙◌, arith, length, take, drop}
use Rattle.std.proofs.lemmas.List.{get_or-drop, get_or-take, length-drop, length-take-le}
use Rattle.amr_num.specs.declared.Axis.{Axis}
use Rattle.amr_num.specs.declared.Axis.TheVariants.{X, Y, Z}
use Rattle.amr_num.specs.Numbers.{at}
use Rattle.mesh_model.specs.Fields.ArrayPlaces.{Extents, place_in}
use Rattle.prolong_op.specs.Splitting.{four_extents}

-- a row of them, as it is taken of the four
pub four_row : (f : Extents) (w : ℕ) (values : List ℤ) (m t : ℕ) → w ≡ f.x → t < w → at (take (w * m + w - w * m) (drop (w * m) values)) t ≡ at values (place_in f t (m % f.y) (m / f.y))
unfolding place_in
four_row f w values m t is h =
    let whole : m % f.y + f.y * (m / f.y) ≡ m = omega arith in
    get_or-take (w * m + w - w * m) (drop (w * m) values) t (pos 0) (omega arith) ∙ get_or-drop (w * m) values t (pos 0)
    ∙ ap (at values) (ap (λ v. v * m + t) is ∙ ap (λ u. f.x * u + t) (sym whole) ∙ omega arith)

pub four_length : (w m : ℕ) (values : List ℤ) → w * m + w ≤ length values → length (take (w * m + w - w * m) (drop (w * m) values)) ≡ w
four_length w m values fits = length-take-le (w * m + w - w * m) (drop (w * m) values) (omega (arith, length-drop (w * m) values)) ∙ omega arith

pub four_fits : (a : Axis) (m : ℕ) → let f = four_extents a in m < f.y * f.z → f.x * m + f.x ≤ 4
four_fits X m h = omega arith
four_fits Y m h = omega arith
four_fits Z m h = omega arith
