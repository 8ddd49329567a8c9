use Rattle.std.proofs.Common.{ap, refl, subst, sym, ◌∙◌, arith}
use Rattle.std.proofs.lemmas.List.{get_or_read}
use Rattle.mesh_model.specs.Fields.Arrays.{Arrays, with_array}
use Rattle.mesh_model.specs.Fields.Ranks.{RankState, rank_with}
use Rattle.block_store.specs.PoolLends.{CanBeside, IsBeside}
use Rattle.rank_world.specs.Slots.{by_node}
use Rattle.rank_world.proofs.Slotted.{beside_by_node, by_node_with, may_beside, node_inside, slots_lent}
use Rattle.rank_world.proofs.rank.Rank.beside.Goals as goal

pub index-slot-requires : goal.index-slot-requires
index-slot-requires g c =
    let may = subst (λ r. CanBeside r.own.values c.args.node c.args.reads c.args.write) (sym c.self.view_is) c.requires in
    let within = node_inside c.self.inside.pool c.self.inside.slots.items c.args.node may.writable.held in
    omega (arith, c.self.inside.slots.ok.0)

pub beside-requires : goal.beside-requires
beside-requires g c =
    let p = c.self.inside in
    let may = subst (λ r. CanBeside r.own.values c.args.node c.args.reads c.args.write) (sym c.self.view_is) c.requires in
    let within = node_inside p.pool p.slots.items c.args.node may.writable.held in
    let slot = get_or_read p.slots.items c.args.node c.index-slot.result.now within c.index-slot.ensures 0 in
    (omega arith, may_beside p.pool p.slots.items c.args.node c.index-slot.result.now c.args.reads c.args.write c.self.invariant slot within may)

pub invariant_of-self-lent : goal.invariant_of-self-lent
invariant_of-self-lent g c w = slots_lent c.self.inside.pool c.self.inside.slots.items c.args.write c.index-slot.result.now w c.self.invariant

pub returns : goal.returns
returns g c =
    let p = c.self.inside in
    let may = subst (λ r. CanBeside r.own.values c.args.node c.args.reads c.args.write) (sym c.self.view_is) c.requires in
    let within = node_inside p.pool p.slots.items c.args.node may.writable.held in
    let slot = get_or_read p.slots.items c.args.node c.index-slot.result.now within c.index-slot.ensures 0 in (
      (
        refl,
        λ w.
            ap (λ (a : Arrays). let r : RankState = record { id = p.id; own = record { values = a } } in r)
            (ap (λ s. by_node (with_array p.pool c.args.write s w) p.slots.items) slot ∙ by_node_with p.pool p.slots.items c.args.write c.args.node w c.self.invariant within)
            ∙ ap (λ r. rank_with r c.args.write c.args.node w) c.self.view_is,
      ),
      record {
        lends = tt;
        reads = subst (λ r. IsBeside g.row.N g.row.G r.own.values c.args.node c.args.reads c.args.write c.beside.result) c.self.view_is
            (beside_by_node p.pool p.slots.items c.args.node c.index-slot.result.now c.args.reads c.args.write c.self.invariant slot within g.row.N g.row.G c.beside.result c.beside.ensures.reads);
      },
    )
