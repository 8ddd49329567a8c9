use Rattle.std.proofs.Common.{◌<◌, ◌≡◌, ◌-◌, arith, subst, set, true, sym, ap, ◌∙◌, get_or, false, length}
use Rattle.block_store.specs.Pools.{IsTaken, spare_of}
use Rattle.block_store.proofs.Pooled.{pool_taken, slot_taken}
use Rattle.block_store.proofs.pool.Pool.take.Goals as goal

pub invariant_of-self : goal.invariant_of-self
invariant_of-self g c =
    let p = c.self.inside in
    let slot = c.first_free-slot.result in
    let read = c.as_slice.ensures.value in
    let some : 0 < p.spare = subst (λ m. 0 < m) (sym (c.self.invariant.spare ∙ ap spare_of c.self.view_is)) c.requires in
    pool_taken g.row.N g.row.G p.layout p.taken.items p.store p.spare p.first slot c.self.invariant
    (subst (λ xs. slot < length xs) read c.first_free-slot.ensures.inside) (subst (λ xs. get_or xs slot false ≡ false) read c.first_free-slot.ensures.free) (p.spare - 1)
    (omega arith) (λ s h. subst (λ xs. get_or xs s false ≡ true) read (c.first_free-slot.ensures.first s h))

pub returns : goal.returns
returns g c =
    let p = c.self.inside in
    let slot = c.first_free-slot.result in
    let read = c.as_slice.ensures.value in
    subst (λ a. IsTaken g.row.N g.row.G a (record { counts = p.layout; held = set p.taken.items slot true; blocks = p.store }) slot) c.self.view_is
    (slot_taken g.row.N g.row.G p.layout p.taken.items p.store p.spare p.first slot c.self.invariant
    (subst (λ xs. slot < length xs) read c.first_free-slot.ensures.inside) (subst (λ xs. get_or xs slot false ≡ false) read c.first_free-slot.ensures.free))
