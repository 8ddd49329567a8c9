use Rattle.std.proofs.Common.{◌≡◌, ◌<◌, ◌+◌, ◌^◌, arith, subst, sym, get_or, set, true, false}
use Rattle.mesh_model.specs.Fields.Arrays.{IsHeld}
use Rattle.block_store.specs.Held.{IsClearedBelow}
use Rattle.block_store.specs.Pools.{IsGivenBack}
use Rattle.block_store.proofs.Pooled.{one_more_fits, pool_given, slot_given}
use Rattle.block_store.proofs.pool.Pool.give_back.Goals as goal

pub overflow_add-self : goal.overflow_add-self
overflow_add-self g c =
    let p = c.self.inside in
    let on : get_or p.taken.items c.args.slot false ≡ true = subst (λ a. IsHeld a c.args.slot) (sym c.self.view_is) c.requires in
    let done = subst (λ m. IsClearedBelow m p.store c.clear.new.self c.args.slot) c.arrays.ensures c.clear.ensures in
    let fits : p.spare + 1 < 2 ^ 32 = one_more_fits g.row.N g.row.G p.layout p.taken.items p.store p.spare p.first c.args.slot c.self.invariant on c.clear.new.self done in
    omega arith

pub invariant_of-self : goal.invariant_of-self
invariant_of-self g c =
    let p = c.self.inside in
    let on : get_or p.taken.items c.args.slot false ≡ true = subst (λ a. IsHeld a c.args.slot) (sym c.self.view_is) c.requires in
    let done = subst (λ m. IsClearedBelow m p.store c.clear.new.self c.args.slot) c.arrays.ensures c.clear.ensures in
    pool_given g.row.N g.row.G p.layout p.taken.items p.store p.spare p.first c.args.slot c.self.invariant on c.clear.new.self done c.min-self-inside.result (omega arith)
    (omega arith)

pub returns : goal.returns
returns g c =
    let p = c.self.inside in
    let on : get_or p.taken.items c.args.slot false ≡ true = subst (λ a. IsHeld a c.args.slot) (sym c.self.view_is) c.requires in
    let done = subst (λ m. IsClearedBelow m p.store c.clear.new.self c.args.slot) c.arrays.ensures c.clear.ensures in
    subst (λ a. IsGivenBack a (record { counts = p.layout; held = set p.taken.items c.args.slot false; blocks = c.clear.new.self }) c.args.slot) c.self.view_is
    (slot_given g.row.N g.row.G p.layout p.taken.items p.store p.spare p.first c.args.slot c.self.invariant on c.clear.new.self done)
