use Rattle.std.proofs.Common.{ap, ◌∙◌, length}
use Rattle.mesh_model.specs.Fields.Arrays.{Arrays, array_in}
use Rattle.block_store.specs.Held.{pick}
use Rattle.block_store.proofs.Pooled.{has_there, pool_length}
use Rattle.block_store.proofs.pool.Pool.values.Goals as goal

pub returns-clause-value : goal.returns-clause-value
unfolding array_in
returns-clause-value g c =
    c.get.ensures ∙ ap (pick c.self.inside.store c.args.slot) c.array_number.ensures ∙ ap (λ a. array_in a c.args.var c.args.slot) c.self.view_is

pub returns-clause-whole : goal.returns-clause-whole
unfolding array_in
returns-clause-whole g c =
    let p = c.self.inside in
    let a : Arrays = record { counts = p.layout; held = p.taken.items; blocks = p.store } in
    ap length (c.get.ensures ∙ ap (pick p.store c.args.slot) c.array_number.ensures)
    ∙ pool_length g.row.N g.row.G a p.spare p.first c.self.invariant c.args.var c.args.slot (has_there a _ c.args.var c.args.slot c.self.view_is c.requires)
