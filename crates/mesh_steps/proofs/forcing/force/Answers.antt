use Rattle.std.proofs.Common.{◌≡◌, ℕ, ◌+◌, ◌<◌, true, length, ap, subst, sym, ◌∙◌, arith, inl, inr}
use Rattle.std.proofs.lemmas.Bool.{cases_lt}
use Rattle.amr_num.specs.declared.Axis.{Axis}
use Rattle.block_tree.specs.Numbered.{block_at}
use Rattle.mesh_model.specs.Fields.Advect.{three}
use Rattle.mesh_model.specs.Fields.Ranks.{Told}
use Rattle.mesh_model.specs.Tree.Kinds.{Grid, is_leaf_block}
use Rattle.mesh_model.specs.Tree.Order.{nodes}
use Rattle.rank_world.specs.Holding.{IsLeafNode}
use Rattle.mesh_steps.specs.Forcing.{AreForced, HasForces}
use Rattle.mesh_steps.proofs.Forced.{forces_hold, forces_within, none_forced, then_forced}
use Rattle.mesh_steps.proofs.forcing.force.Goals as goal
use Rattle.mesh_steps.proofs.forcing.force.Goals.{then-is_leaf, else-is_leaf}

pub loop-node-init : goal.loop-node-init
loop-node-init g c = record {
  forced = none_forced g.row.N g.row.G c.args.world.now (three c.args.speeds) (record { fit = c.requires.fit; declared = c.requires.declared; guarded = c.requires.guarded; courant = c.requires.courant });
  done = λ k a less leaf. absurd (omega (arith, less));
}

pub loop-node-preserved : goal.loop-node-preserved
loop-node-preserved g c =
    let n = g.row.N in
    let e = g.row.G in
    let old = c.args.world.now in
    let now = c.loop-node.world in
    let node = c.loop-node.node in
    let speeds = three c.args.speeds in
    let before = c.loop-node.invariant.forced in
    let kind = sym (ap (λ (h : Grid). is_leaf_block h (block_at h node)) c.tree-in-loop-node.ensures) in
    elim c.if-is_leaf.branch [
      | then-is_leaf w ↦
          let new = w.force_leaf.new.world in
          let step = w.force_leaf.ensures.forced in
          record {
            forced = subst (λ x. AreForced n e old x speeds) (sym w.world-is) (then_forced n e old now new speeds before step);
            done = λ k a less leaf. subst (λ x. HasForces x speeds k a) (sym w.world-is) (elim (cases_lt k node) [
              | inl earlier ↦ step.keeps k a (c.loop-node.invariant.done k a earlier leaf)
              | inr later ↦ (let last : k ≡ node = omega (arith, less, later) in subst (λ u. HasForces new speeds u a) (sym last) (w.force_leaf.ensures.here a))
            ]);
          }
      | else-is_leaf w ↦
          let inner = kind ∙ sym c.is_leaf.ensures ∙ w.if-is_leaf.false in
          record {
            forced = subst (λ x. AreForced n e old x speeds) (sym w.world-is) before;
            done = λ k a less leaf. subst (λ x. HasForces x speeds k a) (sym w.world-is) (elim (cases_lt k node) [
              | inl earlier ↦ c.loop-node.invariant.done k a earlier leaf
              | inr later ↦ absurd (
                  let last : k ≡ node = omega (arith, less, later) in
                  let here : IsLeafNode now.told.grid k = subst (λ (t : Told). IsLeafNode t.grid k) (sym before.only.told) leaf in
                  let is : is_leaf_block now.told.grid (block_at now.told.grid node) ≡ true = subst (λ u. is_leaf_block now.told.grid (block_at now.told.grid u) ≡ true) last here.leaf in
                  cc)
            ]);
          }
    ]

pub returns : goal.returns
returns g c =
    let old = c.args.world.now in
    let now = c.loop-node.world in
    let speeds = three c.args.speeds in
    let only = c.loop-node.invariant.forced.only in
    let many : c.len-node-end.result ≡ length (nodes old.told.grid.leaves) = c.len-node-end.ensures.value ∙ ap (λ (h : Grid). length (nodes h.leaves)) c.tree.ensures in
    let all : (k : ℕ) (a : Axis) → IsLeafNode old.told.grid k → HasForces now speeds k a = λ k a leaf. let there = leaf.there in c.loop-node.invariant.done k a (omega (arith, many, there)) leaf in
    record {
      only = only;
      fit = c.loop-node.invariant.forced.ready.fit;
      holds = forces_hold old now speeds only all;
      small = forces_within old now speeds only all;
    }
