use Rattle.std.proofs.Common.{◌<◌, arith, inl, inr, refl, subst, sym}
use Rattle.block_store.proofs.Lengths.{cells_long, edges_long, faces_long}
use Rattle.block_store.proofs.making.array_length.Goals as goal

pub returns-then-number-eq0 : goal.returns-then-number-eq0
returns-then-number-eq0 c = cells_long c.args.n c.args.g c.args.layout c.args.number (inl (omega arith))

pub returns-then-number-lt4 : goal.returns-then-number-lt4
returns-then-number-lt4 c = faces_long c.args.n c.args.g c.args.layout c.args.number _ (inl (omega arith, omega arith)) (λ h. refl) (λ h. refl)

pub returns-then-number-lt7 : goal.returns-then-number-lt7
returns-then-number-lt7 c = edges_long c.args.n c.args.g c.args.layout c.args.number _ (inl (omega arith, omega arith)) (λ h. refl) (λ h. refl)

pub returns-then-number-lt10 : goal.returns-then-number-lt10
returns-then-number-lt10 c =
    faces_long c.args.n c.args.g c.args.layout c.args.number _ (inr (omega arith, omega arith)) (λ h. absurd (omega arith))
    (λ some. c.if_any.ensures (subst (λ l. 0 < l.faces) (sym c.layout.view_is) some))

pub returns-then-number-lt13 : goal.returns-then-number-lt13
returns-then-number-lt13 c =
    edges_long c.args.n c.args.g c.args.layout c.args.number _ (inr (omega arith, omega arith)) (λ h. absurd (omega arith))
    (λ some. c.if_any-then-number-lt13.ensures (subst (λ l. 0 < l.edges) (sym c.layout.view_is) some))

pub returns : goal.returns
returns c = cells_long c.args.n c.args.g c.args.layout c.args.number (inr (omega arith))
