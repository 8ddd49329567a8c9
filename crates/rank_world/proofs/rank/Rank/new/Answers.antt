use Rattle.std.proofs.Common.{ap, ◌∙◌}
use Rattle.mesh_model.specs.Fields.Arrays.{Arrays}
use Rattle.rank_world.proofs.Slotted.{new_rank}
use Rattle.rank_world.proofs.rank.Rank.new.Goals as goal

pub returns : goal.returns
returns g c =
    new_rank g.row.N g.row.G c.args.id c.args.layout c.args.nodes c.reserve.new.self c.take_slots.new.pool c.in_ok-slots.slots.items
    (c.reserve.ensures.keeps.counts ∙ ap (λ (a : Arrays). a.counts) c.in_ok-pool.ensures) c.in_ok-slots.ensures
