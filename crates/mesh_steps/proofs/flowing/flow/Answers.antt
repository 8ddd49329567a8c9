use Rattle.std.proofs.Common.{◌≡◌, ℕ, length, ap, subst, sym, ◌∙◌, arith, inl, inr}
use Rattle.std.proofs.lemmas.Bool.{cases_lt}
use Rattle.amr_num.specs.declared.Axis.{Axis}
use Rattle.flux_conserve.specs.Work.{IsJumpNode}
use Rattle.mesh_model.specs.Fields.Advect.{three}
use Rattle.mesh_model.specs.Fields.Ranks.{Told}
use Rattle.mesh_model.specs.Tree.Kinds.{Grid}
use Rattle.mesh_model.specs.Tree.Order.{nodes}
use Rattle.mesh_steps.specs.Flowing.{HasFluxes}
use Rattle.mesh_steps.proofs.Flown.{holds_after, none_flowed, then_flowed, within_after}
use Rattle.mesh_steps.proofs.flowing.flow.Goals as goal

pub loop-node-init : goal.loop-node-init
loop-node-init g c = record {
  flowed = none_flowed g.row.N g.row.G c.args.world.now c.args.v (three c.args.speeds)
      (record { fit = c.requires.fit; variable = c.requires.variable; guarded = c.requires.guarded; courant = c.requires.courant });
  done = λ k a less leaf. absurd (omega arith);
}

pub loop-node-preserved : goal.loop-node-preserved
loop-node-preserved g c =
    let old = c.args.world.now in
    let now = c.loop-node.world in
    let new = c.flow_node.new.world in
    let speeds = three c.args.speeds in
    let before = c.loop-node.invariant.flowed in
    let step = c.flow_node.ensures.flowed in
    record {
      flowed = then_flowed g.row.N g.row.G old now new c.args.v speeds before step;
      done = λ k a less leaf. elim (cases_lt k c.loop-node.node) [
        | inl earlier ↦ step.keeps k a (c.loop-node.invariant.done k a earlier leaf)
        | inr later ↦ (
            let last : k ≡ c.loop-node.node = omega arith in
            let here : IsJumpNode now.told.grid k = subst (λ (t : Told). IsJumpNode t.grid k) (sym before.only.told) leaf in
            subst (λ u. HasFluxes new c.args.v speeds u a) (sym last) (c.flow_node.ensures.here a (subst (IsJumpNode now.told.grid) last here)))
      ];
    }

pub returns : goal.returns
returns g c =
    let old = c.args.world.now in
    let now = c.loop-node.world in
    let speeds = three c.args.speeds in
    let only = c.loop-node.invariant.flowed.only in
    let many : c.len-node-end.result ≡ length (nodes old.told.grid.leaves) = c.len-node-end.ensures.value ∙ ap (λ (h : Grid). length (nodes h.leaves)) c.tree.ensures in
    let all : (k : ℕ) (a : Axis) → IsJumpNode old.told.grid k → HasFluxes now c.args.v speeds k a =
    λ k a leaf. let there = leaf.own.there in c.loop-node.invariant.done k a (omega arith) leaf in
    record {
      only = only;
      fit = c.loop-node.invariant.flowed.ready.fit;
      holds = holds_after old now c.args.v speeds only all;
      small = within_after old now c.args.v speeds only all;
    }
