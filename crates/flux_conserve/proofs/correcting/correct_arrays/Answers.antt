use Rattle.std.proofs.Common.{◌≡◌, ℕ, Bool, length, ap, subst, sym, ◌∙◌, arith, inl, inr}
use Rattle.std.proofs.lemmas.Bool.{cases_lt}
use Rattle.mesh_model.specs.Fields.Ranks.{Told}
use Rattle.mesh_model.specs.Tree.Kinds.{Grid}
use Rattle.mesh_model.specs.Tree.Order.{nodes}
use Rattle.mesh_model.specs.Tree.ValidGrid.{Valid}
use Rattle.block_tree.proofs.Facts.{known}
use Rattle.rank_world.specs.Holding.{IsLeafNode}
use Rattle.flux_conserve.specs.FaceArrays.{CalmHas, SideHas}
use Rattle.amr_num.specs.declared.Axis.{Axis}
use Rattle.flux_conserve.specs.Jumps.{BlockFaces}
use Rattle.flux_conserve.proofs.Worlds.{none_summed, numbers_after, then_summed}
use Rattle.flux_conserve.proofs.correcting.correct_arrays.Goals as goal

pub loop-node-init : goal.loop-node-init
loop-node-init g c = record {
  summed = none_summed c.args.work g.row.N g.row.G c.args.world.now c.requires.fit c.requires.tame;
  sides = λ faces k a high less. absurd (omega arith);
}

pub loop-node-preserved : goal.loop-node-preserved
loop-node-preserved g c =
    let old = c.args.world.now in
    let now = c.loop-node.world in
    let before = c.loop-node.invariant.summed in
    let step = c.correct_node.ensures.summed in
    record {
      summed = then_summed c.args.work g.row.N g.row.G old now c.correct_node.new.world before step;
      sides = λ faces k a high less leaf calm.
          let here : IsLeafNode now.told.grid k = subst (λ (t : Told). IsLeafNode t.grid k) (sym before.only.told) leaf in
          elim (cases_lt k c.loop-node.node) [
            | inl earlier ↦ step.keeps faces k a high here (before.calm faces calm) (c.loop-node.invariant.sides faces k a high earlier leaf calm)
            | inr later ↦ (
                let last : k ≡ c.loop-node.node = omega arith in
                subst (λ u. SideHas c.args.work c.correct_node.new.world faces u a high) (sym last)
                (c.correct_node.ensures.sides faces a high (subst (IsLeafNode now.told.grid) last here) (before.calm faces calm)))
          ];
    }

pub returns : goal.returns
returns g c =
    let old = c.args.world.now in
    let now = c.loop-node.world in
    let steps = c.loop-node.invariant.summed in
    let valid : Valid old.told.grid = subst Valid c.tree.ensures (known c.tree.result.now).valid in
    let many : c.len-node-end.result ≡ length (nodes old.told.grid.leaves) = c.len-node-end.ensures.value ∙ ap (λ (h : Grid). length (nodes h.leaves)) c.tree.ensures in
    let sides : (faces : BlockFaces) (k : ℕ) (a : Axis) (high : Bool) → IsLeafNode old.told.grid k → CalmHas c.args.work old faces → SideHas c.args.work now faces k a high =
    λ faces k a high leaf calm. let there = leaf.there in c.loop-node.invariant.sides faces k a high (omega arith) leaf calm in
    record {
      only = steps.only;
      fit = steps.fit;
      tame = steps.tame;
      valid = valid;
      places = numbers_after c.args.work g.row.N g.row.G old now valid steps sides;
    }
