use Rattle.std.proofs.Common.{arith, refl, subst, sym}
use Rattle.std.proofs.lemmas.List.{get_or_read}
use Rattle.mesh_model.specs.Fields.Arrays.{HasArray}
use Rattle.mesh_model.specs.Fields.Ranks.{RankState}
use Rattle.rank_world.specs.Exchanging.{IsRankExchanged}
use Rattle.rank_world.specs.Slots.{by_node}
use Rattle.rank_world.proofs.Exchanged.{exchanged_by_node}
use Rattle.rank_world.proofs.Slotted.{has_slot, node_inside}
use Rattle.rank_world.proofs.rank.Rank.exchange.Goals as goal

pub index-slot-requires : goal.index-slot-requires
index-slot-requires g c =
    let has = subst (λ r. HasArray r.own.values c.args.a c.args.node) (sym c.self.view_is) c.requires.a in
    let within = node_inside c.self.inside.pool c.self.inside.slots.items c.args.node has.held in
    omega (arith, c.self.inside.slots.ok.0)

pub exchange-requires : goal.exchange-requires
exchange-requires g c =
    let p = c.self.inside in
    let has_a = subst (λ r. HasArray r.own.values c.args.a c.args.node) (sym c.self.view_is) c.requires.a in
    let has_b = subst (λ r. HasArray r.own.values c.args.b c.args.node) (sym c.self.view_is) c.requires.b in
    let within = node_inside p.pool p.slots.items c.args.node has_a.held in
    let slot = get_or_read p.slots.items c.args.node c.index-slot.result.now within c.index-slot.ensures 0 in (
      omega arith,
      (
        subst (HasArray p.pool c.args.a) (sym slot) (has_slot p.pool p.slots.items c.args.a c.args.node c.self.invariant has_a),
        (
          subst (HasArray p.pool c.args.b) (sym slot) (has_slot p.pool p.slots.items c.args.b c.args.node c.self.invariant has_b),
          (c.requires.lengths, c.requires.apart),
        ),
      ),
    )

pub returns : goal.returns
returns g c =
    let p = c.self.inside in
    let has = subst (λ r. HasArray r.own.values c.args.a c.args.node) (sym c.self.view_is) c.requires.a in
    let within = node_inside p.pool p.slots.items c.args.node has.held in
    let slot = get_or_read p.slots.items c.args.node c.index-slot.result.now within c.index-slot.ensures 0 in
    let new : RankState = record { id = p.id; own = record { values = by_node c.exchange.new.self p.slots.items } } in
    subst (λ r. IsRankExchanged r new c.args.node c.args.a c.args.b) c.self.view_is (record {
      id = refl;
      arrays = exchanged_by_node p.pool c.exchange.new.self p.slots.items c.args.node c.index-slot.result.now c.args.a c.args.b c.self.invariant slot within c.exchange.ensures;
    })
