use Rattle.std.proofs.Common.{◌≡◌, ◌+◌, ◌<◌, ◌+ℤ◌, ◌-ℤ◌, ℕ, ap, ap₂, arith, ◌∙◌}
use Rattle.amr_num.specs.Numbers.{at, sum_below}
use Rattle.amr_num.proofs.Parts.{sum_below_same}
use Rattle.mesh_model.specs.Fields.ArrayPlaces.{number_at}
use Rattle.amr_engine.specs.Netting.{counted, faces_of, net_at}
use Rattle.amr_engine.proofs.netting.count_row_of.Goals as goal

pub returns-clause-value : goal.returns-clause-value
returns-clause-value c =
    let n = c.args.n in
    let g = c.args.g in
    let j = c.args.j in
    let k = c.args.k in
    let x = c.row.result.now in
    let y_low = c.row-2.result.now in
    let y_high = c.row-3.result.now in
    let z_low = c.row-4.result.now in
    let z_high = c.row-5.result.now in
    let faces = faces_of n g c.args.x.now c.args.y.now c.args.z.now in
    let cell = λ (i : ℕ). counted ((at x (i + 1) -ℤ at x i) +ℤ (at y_high i -ℤ at y_low i) +ℤ (at z_high i -ℤ at z_low i)) in
    let along_x = λ (i : ℕ) (h : i < n + 1). c.row.ensures.numbers i h ∙ ap (λ e. number_at e c.args.x.now (g + i) (g + j) (g + k)) c.of_faces.ensures in
    let y_next : g + j + 1 ≡ g + (j + 1) = omega arith in
    let z_next : g + k + 1 ≡ g + (k + 1) = omega arith in
    c.count_row.ensures.value ∙ ap (λ m. sum_below m cell) c.row-2.ensures.size
    ∙ sum_below_same n cell (λ i. counted (net_at faces i j k)) (λ i h.
    ap counted (ap₂ (λ p q. p +ℤ q) (ap₂ (λ p q. p +ℤ q)
    (ap₂ (λ p q. p -ℤ q) (along_x (i + 1) (omega (arith, h))) (along_x i (omega (arith, h))))
    (ap₂ (λ p q. p -ℤ q) (c.row-3.ensures.numbers i h ∙ ap₂ (λ e t. number_at e c.args.y.now (g + i) t (g + k)) c.of_faces-of_y.ensures y_next) (c.row-2.ensures.numbers i h ∙ ap (λ e. number_at e c.args.y.now (g + i) (g + j) (g + k)) c.of_faces-of_y.ensures)))
    (ap₂ (λ p q. p -ℤ q) (c.row-5.ensures.numbers i h ∙ ap₂ (λ e t. number_at e c.args.z.now (g + i) (g + j) t) c.of_faces-of_z.ensures z_next) (c.row-4.ensures.numbers i h ∙ ap (λ e. number_at e c.args.z.now (g + i) (g + j) (g + k)) c.of_faces-of_z.ensures))))
