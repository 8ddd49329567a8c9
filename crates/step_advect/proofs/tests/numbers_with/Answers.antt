use Rattle.std.proofs.Common.{◌≡◌, ◌^◌, ℕ, List, ℤ, arith, pos, rules, set, subst, sym, to_z, of_z, w64}
use Rattle.std.specs.List.{All}
use Rattle.std.specs.Prelude.{replicate}
use Rattle.std.proofs.lemmas.Int.{to_z-of_z}
use Rattle.std.proofs.lemmas.List.Elements.{All-replicate, All-set}
use Rattle.amr_num.specs.Numbers.{Within}
use Rattle.mesh_model.specs.Fields.ArrayPlaces.{cell_extents, face_extents}
use Rattle.step_advect.proofs.Small.{small_cells, small_faces, small_sides}
use Rattle.step_advect.proofs.tests.numbers_with.Goals as goal

one_small : (many place : ℕ) (value : ℤ) (zeros : List ℤ) → zeros ≡ replicate many (pos 0) → Within (2 ^ 40) value → All (Within (2 ^ 40)) (set zeros place value)
one_small many place value zeros are small =
    All-set (Within (2 ^ 40)) zeros place value small (subst (All (Within (2 ^ 40))) (sym are) (All-replicate (Within (2 ^ 40)) many (pos 0) (omega arith)))

pub returns-clause-sides : goal.returns-clause-sides
returns-clause-sides c a =
    let are : c.in-Ok.numbers.items ≡ replicate c.args.many (pos 0) = search rules in
    let value = to_z w64 (of_z w64 c.args.value) in
    let small : Within (2 ^ 40) value = subst (Within (2 ^ 40)) (sym (to_z-of_z w64 c.args.value c.ranges.value)) c.requires.value in
    small_sides (cell_extents 4 1) (set c.in-Ok.numbers.items c.args.place value) (one_small c.args.many c.args.place value c.in-Ok.numbers.items are small) (2 ^ 56) 4 1 a (omega arith)

pub returns-clause-in_range : goal.returns-clause-in_range
returns-clause-in_range c =
    let are : c.in-Ok.numbers.items ≡ replicate c.args.many (pos 0) = search rules in
    let value = to_z w64 (of_z w64 c.args.value) in
    let small : Within (2 ^ 40) value = subst (Within (2 ^ 40)) (sym (to_z-of_z w64 c.args.value c.ranges.value)) c.requires.value in
    small_cells (cell_extents 4 1) (set c.in-Ok.numbers.items c.args.place value) (one_small c.args.many c.args.place value c.in-Ok.numbers.items are small) 4 1

pub returns-clause-faces : goal.returns-clause-faces
returns-clause-faces c a =
    let are : c.in-Ok.numbers.items ≡ replicate c.args.many (pos 0) = search rules in
    let value = to_z w64 (of_z w64 c.args.value) in
    let small : Within (2 ^ 40) value = subst (Within (2 ^ 40)) (sym (to_z-of_z w64 c.args.value c.ranges.value)) c.requires.value in
    small_faces (face_extents 4 1 a) (set c.in-Ok.numbers.items c.args.place value) (one_small c.args.many c.args.place value c.in-Ok.numbers.items are small) (2 ^ 58) 4 1 a (omega arith)
