use Rattle.std.proofs.Common.{◌≡◌, ◌+◌, ◌-◌, ◌++◌, ◌<◌, ◌^◌, arith, ap, subst, sym, ◌∙◌, false, replicate, List, Bool, length}
use Rattle.block_store.specs.Held.{all_numbers}
use Rattle.block_store.specs.Pools.{IsPool, KeepsArrays}
use Rattle.block_store.proofs.Pooled.{keeps, pool_grown}
use Rattle.block_store.proofs.pool.Pool.reserve.Goals as goal

pub invariant_of-self-2 : goal.invariant_of-self-2
invariant_of-self-2 g c =
    let p = c.self.inside in
    let fresh = all_numbers c.in_ok-fresh.fresh.items in
    let more = c.args.more - p.spare in
    let held : c.push_free.new.taken.items ≡ p.taken.items ++ replicate more false =
    c.push_free.ensures ∙ ap (λ (xs : List Bool). xs ++ replicate more false) c.reserve.ensures.items in
    let blocks : c.append.new.self ≡ p.store ++ fresh = c.in_ok-append.ensures.added in
    let all : p.spare + more ≡ c.args.more = omega arith in
    let few : length p.taken.items + more < 2 ^ 32 = omega arith in
    subst (λ m. IsPool g.row.N g.row.G (record { counts = p.layout; held = c.push_free.new.taken.items; blocks = c.append.new.self }) m p.first) all
    (subst (λ xs. IsPool g.row.N g.row.G (record { counts = p.layout; held = xs; blocks = c.append.new.self }) (p.spare + more) p.first) (sym held)
    (subst (λ bs. IsPool g.row.N g.row.G (record { counts = p.layout; held = p.taken.items ++ replicate more false; blocks = bs }) (p.spare + more) p.first) (sym blocks)
    (pool_grown g.row.N g.row.G p.layout p.taken.items p.store fresh p.spare p.first more c.self.invariant c.in_ok-fresh.ensures few)))

pub returns-clause-keeps : goal.returns-clause-keeps
returns-clause-keeps g c =
    let p = c.self.inside in
    let fresh = all_numbers c.in_ok-fresh.fresh.items in
    let more = c.args.more - p.spare in
    let held : c.push_free.new.taken.items ≡ p.taken.items ++ replicate more false =
    c.push_free.ensures ∙ ap (λ (xs : List Bool). xs ++ replicate more false) c.reserve.ensures.items in
    let blocks : c.append.new.self ≡ p.store ++ fresh = c.in_ok-append.ensures.added in
    subst (λ a. KeepsArrays a (record { counts = p.layout; held = c.push_free.new.taken.items; blocks = c.append.new.self })) c.self.view_is
    (subst (λ xs. KeepsArrays (record { counts = p.layout; held = p.taken.items; blocks = p.store }) (record { counts = p.layout; held = xs; blocks = c.append.new.self })) (sym held)
    (subst (λ bs. KeepsArrays (record { counts = p.layout; held = p.taken.items; blocks = p.store }) (record { counts = p.layout; held = p.taken.items ++ replicate more false; blocks = bs })) (sym blocks)
    (keeps g.row.N g.row.G p.layout p.taken.items p.store fresh p.spare p.first more c.self.invariant c.in_ok-fresh.ensures)))
