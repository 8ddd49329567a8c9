use Rattle.std.proofs.Common.{ap, subst, sym, ◌∙◌, arith}
use Rattle.std.proofs.lemmas.List.{get_or_read}
use Rattle.mesh_model.specs.Fields.Arrays.{HasArray, array_in}
use Rattle.rank_world.proofs.Slotted.{array_by_node, has_slot, node_inside}
use Rattle.rank_world.proofs.rank.Rank.values.Goals as goal

pub index-requires : goal.index-requires
index-requires g c =
    let has = subst (λ r. HasArray r.own.values c.args.var c.args.node) (sym c.self.view_is) c.requires in
    let within = node_inside c.self.inside.pool c.self.inside.slots.items c.args.node has.held in
    omega (arith, c.self.inside.slots.ok.0)

pub values-requires : goal.values-requires
values-requires g c =
    let p = c.self.inside in
    let has = subst (λ r. HasArray r.own.values c.args.var c.args.node) (sym c.self.view_is) c.requires in
    let within = node_inside p.pool p.slots.items c.args.node has.held in
    let slot = get_or_read p.slots.items c.args.node c.index.result.now within c.index.ensures 0 in
    (omega arith, subst (HasArray p.pool c.args.var) (sym slot) (has_slot p.pool p.slots.items c.args.var c.args.node c.self.invariant has))

pub returns-clause-value : goal.returns-clause-value
returns-clause-value g c =
    let p = c.self.inside in
    let has = subst (λ r. HasArray r.own.values c.args.var c.args.node) (sym c.self.view_is) c.requires in
    let within = node_inside p.pool p.slots.items c.args.node has.held in
    let slot = get_or_read p.slots.items c.args.node c.index.result.now within c.index.ensures 0 in
    c.values.ensures.value ∙ ap (array_in p.pool c.args.var) slot ∙ sym (array_by_node p.pool p.slots.items c.args.var c.args.node within)
    ∙ ap (λ r. array_in r.own.values c.args.var c.args.node) c.self.view_is
