use Rattle.std.proofs.Common.{◌≡◌, ◌<◌, ◌^◌, ℕ, None, arith, length, rules, subst, sym, ◌∙◌}
use Rattle.std.specs.Prelude.{IsTrue}
use Rattle.amr_num.specs.Numbers.{Within, at}
use Rattle.block_store.specs.Above.{counted_at, first_in_row}
use Rattle.block_store.proofs.Aboves.{found_here, in_range_none, none_found, none_here}
use Rattle.block_store.proofs.above.row_above.Goals as goal

pub returns-then-is_some : goal.returns-then-is_some
returns-then-is_some c =
    let row = c.args.row.now in
    found_here (length row) c.loop-i.i (λ i. counted_at c.args.n c.args.counted (λ x y z. at row x) i c.args.j c.args.k) c.checked-found.result c.loop-i.invariant c.checked-found.ensures
    (sym c.is_some.ensures ∙ c.if-is_some.true) c.loop-i-test.true

pub loop-i-preserved : goal.loop-i-preserved
loop-i-preserved c =
    let row = c.args.row.now in
    none_here c.loop-i.i (λ i. counted_at c.args.n c.args.counted (λ x y z. at row x) i c.args.j c.args.k) c.checked-found.result c.loop-i.invariant c.checked-found.ensures
    (sym c.is_some.ensures ∙ c.if-is_some.false)

pub returns : goal.returns
returns c =
    let row = c.args.row.now in
    let last : c.loop-i.i ≡ length row = omega arith in
    sym (subst (λ m. first_in_row c.args.n c.args.counted row c.args.j c.args.k m ≡ None) last c.loop-i.invariant)

pub returns-then-row_fits : goal.returns-then-row_fits
returns-then-row_fits c =
    let row = c.args.row.now in
    let fits : IsTrue c.row_fits.result = search rules in
    let within : (i : ℕ) → i < length row → Within (2 ^ 40) (at row i) = c.row_fits.ensures fits in
    sym (none_found (length row) (λ i. counted_at c.args.n c.args.counted (λ x y z. at row x) i c.args.j c.args.k)
    (λ i h. in_range_none c.args.n c.args.counted (λ x y z. at row x) i c.args.j c.args.k (within i h)))
