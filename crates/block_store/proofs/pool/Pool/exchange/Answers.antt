use Rattle.std.proofs.Common.{◌<◌, length, subst, sym}
use Rattle.mesh_model.specs.Fields.Arrays.{Arrays, array_number, block_in}
use Rattle.block_store.specs.Held.{AreExchanged}
use Rattle.block_store.specs.Pools.{IsExchanged}
use Rattle.block_store.proofs.Exchanged.{arrays_exchanged, pool_exchanged}
use Rattle.block_store.proofs.Pooled.{has_there, pool_there}
use Rattle.block_store.proofs.pool.Pool.exchange.Goals as goal

pub exchange-requires-clause-a : goal.exchange-requires-clause-a
exchange-requires-clause-a g c =
    let p = c.self.inside in
    let a : Arrays = record { counts = p.layout; held = p.taken.items; blocks = p.store } in
    subst (λ m. m < length (block_in p.store c.args.slot)) (sym c.array_number.ensures)
    (pool_there g.row.N g.row.G a p.spare p.first c.self.invariant c.args.a c.args.slot (has_there a _ _ c.args.slot c.self.view_is c.requires.a)).1

pub exchange-requires-clause-b : goal.exchange-requires-clause-b
exchange-requires-clause-b g c =
    let p = c.self.inside in
    let a : Arrays = record { counts = p.layout; held = p.taken.items; blocks = p.store } in
    subst (λ m. m < length (block_in p.store c.args.slot)) (sym c.array_number-2.ensures)
    (pool_there g.row.N g.row.G a p.spare p.first c.self.invariant c.args.b c.args.slot (has_there a _ _ c.args.slot c.self.view_is c.requires.b)).1

pub invariant_of-self : goal.invariant_of-self
invariant_of-self g c =
    let p = c.self.inside in
    let a : Arrays = record { counts = p.layout; held = p.taken.items; blocks = p.store } in
    let s = c.args.slot in
    let done = subst (λ m. AreExchanged p.store c.exchange.new.self s m (array_number c.args.b)) c.array_number.ensures
    (subst (λ m. AreExchanged p.store c.exchange.new.self s c.array_number.result m) c.array_number-2.ensures c.exchange.ensures) in
    pool_exchanged p.layout p.taken.items p.store c.exchange.new.self s c.args.a c.args.b done g.row.N g.row.G p.spare p.first c.self.invariant
    (has_there a _ _ s c.self.view_is c.requires.a) (has_there a _ _ s c.self.view_is c.requires.b) c.requires.lengths

pub returns : goal.returns
returns g c =
    let p = c.self.inside in
    let s = c.args.slot in
    let done = subst (λ m. AreExchanged p.store c.exchange.new.self s m (array_number c.args.b)) c.array_number.ensures
    (subst (λ m. AreExchanged p.store c.exchange.new.self s c.array_number.result m) c.array_number-2.ensures c.exchange.ensures) in
    let new : Arrays = record { counts = p.layout; held = p.taken.items; blocks = c.exchange.new.self } in
    subst (λ a. IsExchanged a new s c.args.a c.args.b) c.self.view_is
    (arrays_exchanged p.layout p.taken.items p.store c.exchange.new.self s c.args.a c.args.b done)
