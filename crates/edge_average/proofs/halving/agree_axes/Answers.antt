use Rattle.std.proofs.Common.{subst, sym}
use Rattle.amr_num.specs.declared.Axis.{Axis}
use Rattle.mesh_model.specs.Fields.Ranks.{Told}
use Rattle.mesh_model.proofs.FieldLemmas.Beside.{three}
use Rattle.rank_world.specs.Holding.{IsLeafNode}
use Rattle.edge_average.specs.EdgeArrays.{LineHolds}
use Rattle.edge_average.proofs.Worlds.{kept_line, then_halved}
use Rattle.edge_average.proofs.halving.agree_axes.Goals as goal

pub returns-clause-halved : goal.returns-clause-halved
returns-clause-halved g c =
    let first = c.agree_axis.new.world in
    let second = c.agree_axis-2.new.world in
    let third = c.agree_axis-3.new.world in
    then_halved c.args.work g.row.N g.row.G c.args.world.now first third c.agree_axis.ensures.halved (then_halved c.args.work g.row.N g.row.G first second third c.agree_axis-2.ensures.halved c.agree_axis-3.ensures.halved)

pub returns-clause-lines : goal.returns-clause-lines
returns-clause-lines g c field a s t hs ht holds =
    let n = g.row.N in
    let e = g.row.G in
    let work = c.args.work in
    let node = c.args.node in
    let first = c.agree_axis.new.world in
    let second = c.agree_axis-2.new.world in
    let third = c.agree_axis-3.new.world in
    let on_x = c.agree_axis.ensures in
    let on_y = c.agree_axis-2.ensures in
    let on_z = c.agree_axis-3.ensures in
    let leaf_first : IsLeafNode first.told.grid node = subst (λ (t : Told). IsLeafNode t.grid node) (sym on_x.halved.only.told) c.requires.leaf in
    let leaf_second : IsLeafNode second.told.grid node = subst (λ (t : Told). IsLeafNode t.grid node) (sym on_y.halved.only.told) leaf_first in
    let holds_first = on_x.halved.leaf_edges field holds in
    let holds_second = on_y.halved.leaf_edges field holds_first in
    let last = λ (x : Axis). kept_line work n e second third on_y.halved.fit.sizes on_z.halved node leaf_second x s t hs ht field holds_second in
    three (λ x. LineHolds work third field node x s t)
    (last _ (kept_line work n e first second on_x.halved.fit.sizes on_y.halved node leaf_first _ s t hs ht field holds_first (on_x.lines field s t hs ht holds))) (last _ (on_y.lines field s t hs ht holds_first))
    (on_z.lines field s t hs ht holds_second) a
