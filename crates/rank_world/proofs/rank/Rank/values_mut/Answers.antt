use Rattle.std.proofs.Common.{ap, refl, subst, sym, ◌∙◌, arith}
use Rattle.std.proofs.lemmas.List.{get_or_read}
use Rattle.mesh_model.specs.Fields.Arrays.{Arrays, HasArray, array_in, with_array}
use Rattle.mesh_model.specs.Fields.Ranks.{RankState, rank_with}
use Rattle.rank_world.specs.Slots.{by_node}
use Rattle.rank_world.proofs.Slotted.{array_by_node, by_node_with, has_slot, node_inside, slots_lent}
use Rattle.rank_world.proofs.rank.Rank.values_mut.Goals as goal

pub index-slot-requires : goal.index-slot-requires
index-slot-requires g c =
    let has = subst (λ r. HasArray r.own.values c.args.var c.args.node) (sym c.self.view_is) c.requires in
    let within = node_inside c.self.inside.pool c.self.inside.slots.items c.args.node has.held in
    omega (arith, c.self.inside.slots.ok.0)

pub values_mut-requires : goal.values_mut-requires
values_mut-requires g c =
    let p = c.self.inside in
    let has = subst (λ r. HasArray r.own.values c.args.var c.args.node) (sym c.self.view_is) c.requires in
    let within = node_inside p.pool p.slots.items c.args.node has.held in
    let slot = get_or_read p.slots.items c.args.node c.index-slot.result.now within c.index-slot.ensures 0 in
    (omega arith, subst (HasArray p.pool c.args.var) (sym slot) (has_slot p.pool p.slots.items c.args.var c.args.node c.self.invariant has))

pub invariant_of-self-lent : goal.invariant_of-self-lent
invariant_of-self-lent g c w = slots_lent c.self.inside.pool c.self.inside.slots.items c.args.var c.index-slot.result.now w c.self.invariant

pub returns : goal.returns
returns g c =
    let p = c.self.inside in
    let has = subst (λ r. HasArray r.own.values c.args.var c.args.node) (sym c.self.view_is) c.requires in
    let within = node_inside p.pool p.slots.items c.args.node has.held in
    let slot = get_or_read p.slots.items c.args.node c.index-slot.result.now within c.index-slot.ensures 0 in
    let value = c.values_mut.ensures.value ∙ ap (array_in p.pool c.args.var) slot ∙ sym (array_by_node p.pool p.slots.items c.args.var c.args.node within) in (
      (
        refl,
        λ w.
            ap (λ (a : Arrays). let r : RankState = record { id = p.id; own = record { values = a } } in r)
            (ap (λ s. by_node (with_array p.pool c.args.var s w) p.slots.items) slot ∙ by_node_with p.pool p.slots.items c.args.var c.args.node w c.self.invariant within)
            ∙ ap (λ r. rank_with r c.args.var c.args.node w) c.self.view_is,
      ),
      record {
        lends = tt;
        value = value ∙ ap (λ r. array_in r.own.values c.args.var c.args.node) c.self.view_is;
        whole = c.values_mut.ensures.whole;
      },
    )
