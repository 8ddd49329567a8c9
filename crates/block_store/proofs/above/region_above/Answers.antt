use Rattle.std.proofs.Common.{◌≡◌, ◌+◌, arith, sym, ◌∙◌, ℕ, ℤ, subst, None}
use Rattle.mesh_model.specs.Fields.Firsts.{first_below}
use Rattle.mesh_model.specs.Fields.ArrayPlaces.{number_at}
use Rattle.block_store.specs.Above.{first_in_plane}
use Rattle.block_store.proofs.Aboves.{found_here, none_here}
use Rattle.block_store.proofs.above.region_above.Goals as goal

pub returns-then-is_some : goal.returns-then-is_some
returns-then-is_some c =
    let r = c.args.region in
    let numbers : ℕ → ℕ → ℕ → ℤ = λ x y z. number_at c.args.extents c.args.values.now (r.at.x + x) (r.at.y + y) (r.at.z + z) in
    found_here r.along_z c.loop-k.k (λ k. first_in_plane c.args.n c.args.counted numbers r.along_x k r.along_y) c.plane_above-found.result c.loop-k.invariant c.plane_above-found.ensures (sym c.is_some.ensures ∙ c.if-is_some.true) c.loop-k-test.true

pub loop-k-preserved : goal.loop-k-preserved
loop-k-preserved c =
    let r = c.args.region in
    let numbers : ℕ → ℕ → ℕ → ℤ = λ x y z. number_at c.args.extents c.args.values.now (r.at.x + x) (r.at.y + y) (r.at.z + z) in
    none_here c.loop-k.k (λ k. first_in_plane c.args.n c.args.counted numbers r.along_x k r.along_y) c.plane_above-found.result c.loop-k.invariant c.plane_above-found.ensures (sym c.is_some.ensures ∙ c.if-is_some.false)

pub returns : goal.returns
returns c =
    let r = c.args.region in
    let numbers : ℕ → ℕ → ℕ → ℤ = λ x y z. number_at c.args.extents c.args.values.now (r.at.x + x) (r.at.y + y) (r.at.z + z) in
    let last : c.loop-k.k ≡ r.along_z = omega arith in
    sym (subst (λ m. first_below m (λ k. first_in_plane c.args.n c.args.counted numbers r.along_x k r.along_y) ≡ None) last c.loop-k.invariant)
