use Rattle.std.proofs.Common.{◌≡◌, ◌+◌, ◌*◌, ◌/◌, ◌%◌, ◌^◌, ℕ, ℤ, subst, sym, inl}
use Rattle.amr_num.specs.declared.Axis.{Axis}
use Rattle.amr_num.specs.Numbers.{Within}
use Rattle.mesh_model.specs.Fields.ArrayPlaces.{IsWritten, face_extents}
use Rattle.mesh_model.specs.Fields.FaceSplits.{all_faces, by_axis, sides_from}
use Rattle.mesh_model.specs.Fields.Views.{inner_face}
use Rattle.prolong_op.specs.Splitting.{middle_box}
use Rattle.prolong_op.proofs.Between.{cell_at, one_more_cell, sides_same, sides_small}
use Rattle.prolong_op.proofs.faces.fill_cells.Goals as goal

pub fill_cell-requires-clause-small : goal.fill_cell-requires-clause-small
fill_cell-requires-clause-small c =
    let n = c.args.n in
    let g = c.args.g in
    let now : Axis → ℕ → ℕ → ℕ → ℤ = all_faces n g (by_axis c.loop-c.cx c.loop-c.cy c.loop-c.cz) in
    let cell = cell_at n g c.requires.size c.loop-c.c c.loop-c-test.true in
    sides_small n g c.requires.size (c.loop-c.c % (n / 2)) (c.loop-c.c / (n / 2) % (n / 2)) (c.loop-c.c / (n / 2) / (n / 2)) cell.x cell.y cell.z now
    (record { at = λ a i j k hi hj hk even. subst (Within (2 ^ 40)) (sym ((c.loop-c.invariant a).waits i j k hi hj hk (inl even))) (c.requires.small.at a i j k hi hj hk even) })

pub loop-c-preserved : goal.loop-c-preserved
loop-c-preserved c a =
    let n = c.args.n in
    let g = c.args.g in
    let number = c.loop-c.c in
    let x = number % (n / 2) in
    let y = number / (n / 2) % (n / 2) in
    let z = number / (n / 2) / (n / 2) in
    let first : Axis → ℕ → ℕ → ℕ → ℤ = all_faces n g (by_axis c.args.cx.now c.args.cy.now c.args.cz.now) in
    let now : Axis → ℕ → ℕ → ℕ → ℤ = all_faces n g (by_axis c.loop-c.cx c.loop-c.cy c.loop-c.cz) in
    let cell = cell_at n g c.requires.size number c.loop-c-test.true in
    let same : sides_from now (g + 2 * x) (g + 2 * y) (g + 2 * z) ≡ sides_from first (g + 2 * x) (g + 2 * y) (g + 2 * z) =
    sides_same n g c.requires.size x y z cell.x cell.y cell.z now first (λ a i j k hi hj hk even. (c.loop-c.invariant a).waits i j k hi hj hk (inl even)) in
    one_more_cell n g c.requires.size a first (by_axis c.args.cx.now c.args.cy.now c.args.cz.now a) (by_axis c.loop-c.cx c.loop-c.cy c.loop-c.cz a)
    (by_axis c.fill_cell.new.cx c.fill_cell.new.cy c.fill_cell.new.cz a) number c.loop-c-test.true (c.loop-c.invariant a)
    (subst (λ o. IsWritten (face_extents n g a) (middle_box a (g + 2 * x) (g + 2 * y) (g + 2 * z)) (λ i j k. inner_face o a i j k) (by_axis c.loop-c.cx c.loop-c.cy c.loop-c.cz a)
    (by_axis c.fill_cell.new.cx c.fill_cell.new.cy c.fill_cell.new.cz a)) same (c.fill_cell.ensures a))
