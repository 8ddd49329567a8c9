use Rattle.std.proofs.Common.{◌≡◌, ◌+◌, arith, sym, ◌∙◌, ℕ, ℤ, subst, None}
use Rattle.mesh_model.specs.Fields.Firsts.{first_below}
use Rattle.mesh_model.specs.Fields.ArrayPlaces.{number_at}
use Rattle.block_store.specs.Above.{counted_at, first_in_plane}
use Rattle.block_store.proofs.Aboves.{found_here, none_here, row_is}
use Rattle.block_store.proofs.above.plane_above.Goals as goal

pub returns-then-is_some : goal.returns-then-is_some
returns-then-is_some c =
    let r = c.args.region in
    let numbers : ℕ → ℕ → ℕ → ℤ = λ x y z. number_at c.args.extents c.args.values.now (r.at.x + x) (r.at.y + y) (r.at.z + z) in
    let row = c.row_above-found.ensures ∙ row_is c.args.n c.args.counted r.along_x c.loop-j.j c.args.k c.plane_row-numbers.result.now numbers c.plane_row-numbers.ensures.size c.plane_row-numbers.ensures.numbers in
    found_here r.along_y c.loop-j.j (λ j. first_below r.along_x (λ i. counted_at c.args.n c.args.counted numbers i j c.args.k)) c.row_above-found.result c.loop-j.invariant row (sym c.is_some.ensures ∙ c.if-is_some.true) c.loop-j-test.true

pub loop-j-preserved : goal.loop-j-preserved
loop-j-preserved c =
    let r = c.args.region in
    let numbers : ℕ → ℕ → ℕ → ℤ = λ x y z. number_at c.args.extents c.args.values.now (r.at.x + x) (r.at.y + y) (r.at.z + z) in
    let row = c.row_above-found.ensures ∙ row_is c.args.n c.args.counted r.along_x c.loop-j.j c.args.k c.plane_row-numbers.result.now numbers c.plane_row-numbers.ensures.size c.plane_row-numbers.ensures.numbers in
    none_here c.loop-j.j (λ j. first_below r.along_x (λ i. counted_at c.args.n c.args.counted numbers i j c.args.k)) c.row_above-found.result c.loop-j.invariant row (sym c.is_some.ensures ∙ c.if-is_some.false)

pub returns : goal.returns
returns c =
    let r = c.args.region in
    let numbers : ℕ → ℕ → ℕ → ℤ = λ x y z. number_at c.args.extents c.args.values.now (r.at.x + x) (r.at.y + y) (r.at.z + z) in
    let last : c.loop-j.j ≡ r.along_y = omega arith in
    sym (subst (λ m. first_in_plane c.args.n c.args.counted numbers r.along_x c.args.k m ≡ None) last c.loop-j.invariant)
