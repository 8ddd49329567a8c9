use Rattle.std.proofs.Common.{arith, ℕ, ℤ, List, [], ◌∷◌, to_z, of_z, w64, ◌<◌, ◌≡◌, ◌+◌, ◌*◌, ◌^◌, ◌∙◌, ap, ◌-ℤ◌}
use Rattle.amr_num.specs.Numbers.{at}
use Rattle.amr_num.proofs.Machine.{kept}
use Rattle.mesh_model.specs.Fields.InnerRule.{middle_y, middle_z, x_at}
use Rattle.prolong_op.specs.Sides.{sides_of}
use Rattle.prolong_op.proofs.Fours.{middle_y_of, middle_z_of, pair_cases}
use Rattle.prolong_op.proofs.inner.inner_faces.Goals as goal

-- what flows out of the x halves
low_out : (c : goal.After-middle_z_faces-z) (q : ℕ) → q < 4 → at c.outflow-low.result q ≡ x_at (sides_of c.args.outer.now) 1 q -ℤ x_at (sides_of c.args.outer.now) 0 q
low_out c q h = c.outflow-low.ensures.value q h ∙ ap (λ m. m -ℤ at c.args.outer.now.x_low q) (c.middle_x_faces-x.ensures.value q h)

high_out : (c : goal.After-middle_z_faces-z) (q : ℕ) → q < 4 → at c.outflow-high.result q ≡ x_at (sides_of c.args.outer.now) 2 q -ℤ x_at (sides_of c.args.outer.now) 1 q
high_out c q h = c.outflow-high.ensures.value q h ∙ ap (λ m. at c.args.outer.now.x_high q -ℤ m) (c.middle_x_faces-x.ensures.value q h)

-- the middle y faces of the x halves
low_y : (c : goal.After-middle_z_faces-z) (k : ℕ) → k < 2 → to_z w64 (of_z w64 (at c.middle_y_faces.result k)) ≡ middle_y (sides_of c.args.outer.now) 0 k
low_y c k h =
    kept (at c.middle_y_faces.result k) (43 * 2 ^ 40) (c.middle_y_faces.ensures.small k h) (omega arith) ∙ c.middle_y_faces.ensures.value k h
    ∙ middle_y_of (sides_of c.args.outer.now) 0 (at c.outflow-low.result) (low_out c) k h

high_y : (c : goal.After-middle_z_faces-z) (k : ℕ) → k < 2 → to_z w64 (of_z w64 (at c.middle_y_faces-2.result k)) ≡ middle_y (sides_of c.args.outer.now) 1 k
high_y c k h =
    kept (at c.middle_y_faces-2.result k) (43 * 2 ^ 40) (c.middle_y_faces-2.ensures.small k h) (omega arith) ∙ c.middle_y_faces-2.ensures.value k h
    ∙ middle_y_of (sides_of c.args.outer.now) 1 (at c.outflow-high.result) (high_out c) k h

pub returns-clause-y : goal.returns-clause-y
returns-clause-y c =
    let y : List ℤ =
    to_z w64 (of_z w64 (at c.middle_y_faces.result 0)) ∷ to_z w64 (of_z w64 (at c.middle_y_faces-2.result 0)) ∷ to_z w64 (of_z w64 (at c.middle_y_faces.result 1))
    ∷ to_z w64 (of_z w64 (at c.middle_y_faces-2.result 1)) ∷ [] in
    pair_cases (λ i k. at y (i + 2 * k) ≡ middle_y (sides_of c.args.outer.now) i k) (low_y c 0 (omega arith)) (low_y c 1 (omega arith)) (high_y c 0 (omega arith)) (high_y c 1 (omega arith))

pub returns-clause-z : goal.returns-clause-z
returns-clause-z c =
    let o = sides_of c.args.outer.now in
    let is = c.middle_z_faces-z.ensures in
    pair_cases (λ i j. at c.middle_z_faces-z.result (i + 2 * j) ≡ middle_z o i j)
    (middle_z_of o 0 0 _ _ _ is.first (low_out c 0 (omega arith)) (ap (λ m. m -ℤ o.y_low 0) (low_y c 0 (omega arith))))
    (middle_z_of o 0 1 _ _ _ is.third (low_out c 1 (omega arith)) (ap (λ m. o.y_high 0 -ℤ m) (low_y c 0 (omega arith))))
    (middle_z_of o 1 0 _ _ _ is.second (high_out c 0 (omega arith)) (ap (λ m. m -ℤ o.y_low 1) (high_y c 0 (omega arith))))
    (middle_z_of o 1 1 _ _ _ is.fourth (high_out c 1 (omega arith)) (ap (λ m. o.y_high 1 -ℤ m) (high_y c 0 (omega arith))))
