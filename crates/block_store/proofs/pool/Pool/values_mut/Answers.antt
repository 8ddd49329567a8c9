use Rattle.std.proofs.Common.{ap, sym, subst, ◌∙◌, length, refl, ℕ}
use Rattle.mesh_model.specs.Fields.Arrays.{Arrays, array_in, with_array, with_block}
use Rattle.block_store.specs.Held.{pick}
use Rattle.block_store.specs.Pools.{IsPool}
use Rattle.block_store.proofs.Pooled.{has_there, pool_length, pool_lent}
use Rattle.block_store.proofs.pool.Pool.values_mut.Goals as goal

pub invariant_of-self-lent : goal.invariant_of-self-lent
unfolding with_array
invariant_of-self-lent g c w =
    let p = c.self.inside in
    let a : Arrays = record { counts = p.layout; held = p.taken.items; blocks = p.store } in
    subst (λ m. IsPool g.row.N g.row.G (record { counts = p.layout; held = p.taken.items; blocks = with_block p.store c.args.slot m w }) p.spare p.first)
    (sym c.array_number.ensures)
    (pool_lent g.row.N g.row.G a p.spare p.first c.self.invariant c.args.var c.args.slot w (has_there a _ c.args.var c.args.slot c.self.view_is c.requires))

pub returns : goal.returns
unfolding array_in with_array
returns g c =
    let p = c.self.inside in
    let a : Arrays = record { counts = p.layout; held = p.taken.items; blocks = p.store } in
    let value = c.lend.ensures.value ∙ ap (pick p.store c.args.slot) c.array_number.ensures in (
      (
        refl,
        λ w.
            ap (λ (m : ℕ). record a { blocks = with_block p.store c.args.slot m w }) c.array_number.ensures
            ∙ ap (λ b. with_array b c.args.var c.args.slot w) c.self.view_is,
      ),
      record {
        lends = tt;
        value = value ∙ ap (λ b. array_in b c.args.var c.args.slot) c.self.view_is;
        whole = ap length value
            ∙ pool_length g.row.N g.row.G a p.spare p.first c.self.invariant c.args.var c.args.slot (has_there a _ c.args.var c.args.slot c.self.view_is c.requires);
      },
    )
