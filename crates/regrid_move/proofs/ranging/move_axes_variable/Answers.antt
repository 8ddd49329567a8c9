use Rattle.std.proofs.Common.{◌≡◌, ◌<◌, None, length, sym, ap, refl, subst, ◌∙◌, arith, inl, inr}
use Rattle.std.proofs.lemmas.Bool.{cases_lt}
use Rattle.mesh_model.specs.Tree.Order.{nodes}
use Rattle.mesh_model.specs.Tree.Kinds.{Grid}
use Rattle.mesh_model.specs.Fields.Ranks.{Told}
use Rattle.rank_world.specs.Holding.{IsLeafNode}
use Rattle.regrid_move.specs.AxisMoves.{AxesMoved, axes_stop, node_axes_stop, var_of}
use Rattle.block_store.proofs.Aboves.{found_here, none_here}
use Rattle.regrid_move.proofs.AxisMoved.{axes_again, axes_stay, no_axes}
use Rattle.regrid_move.proofs.ranging.move_axes_variable.Goals as goal

pub loop-node-init : goal.loop-node-init
loop-node-init g c = record { only = no_axes (var_of c.args.kind) c.args.new.now; fit = c.requires.may.new_fit; views = λ field holds k h. absurd (omega (arith, h)); none = λ field holds. refl }

pub returns-then-is_some-clause-stop : goal.returns-then-is_some-clause-stop
returns-then-is_some-clause-stop g c field holds =
    let old = c.args.old.now.told.grid in
    let told = c.move_node_axes-stop.ensures.only.told in
    let new = c.move_node_axes-stop.new.new.told.grid in
    let node = c.loop-node.node in
    let same = ap (λ (t : Told). t.grid) (told ∙ c.loop-node.invariant.only.told) in
    let inside = subst (λ (h : Grid). node < length (nodes h.leaves)) (c.tree.ensures ∙ sym same) (subst (λ m. node < m) c.len-node-end.ensures.value c.loop-node-test.true) in
    found_here (length (nodes new.leaves)) node (node_axes_stop c.args.kind old new field) c.move_node_axes-stop.result
    (subst (λ (t : Told). axes_stop c.args.kind old t.grid field node ≡ None) (sym told) (c.loop-node.invariant.none field holds))
    (c.move_node_axes-stop.ensures.stop field holds) (sym c.is_some.ensures ∙ c.if-is_some.true) inside

pub loop-node-preserved : goal.loop-node-preserved
loop-node-preserved g c =
    let old = c.args.old.now in
    let was = c.loop-node.new in
    let new = c.move_node_axes-stop.new.new in
    let only = c.move_node_axes-stop.ensures.only in
    let node = c.loop-node.node in
    record {
      only = axes_again (var_of c.args.kind) c.args.new.now was new node c.loop-node.invariant.only only;
      fit = c.move_node_axes-stop.ensures.fit;
      views = λ field holds k h leaf. elim (cases_lt k node) [
        | inl less ↦ axes_stay c.args.kind old was new field node k only (λ is. omega (arith, less, is)) (c.loop-node.invariant.views field holds k less (subst (λ (t : Told). IsLeafNode t.grid k) only.told leaf))
        | inr more ↦ (
            let last : k ≡ node = omega (arith, more, h) in
            subst (λ m. AxesMoved c.args.kind old new field m) (sym last) (c.move_node_axes-stop.ensures.views field holds (subst (λ m. IsLeafNode new.told.grid m) last leaf)))
      ];
      none = λ field holds.
          none_here node (node_axes_stop c.args.kind old.told.grid new.told.grid field) c.move_node_axes-stop.result
          (subst (λ (t : Told). axes_stop c.args.kind old.told.grid t.grid field node ≡ None) (sym only.told) (c.loop-node.invariant.none field holds))
          (c.move_node_axes-stop.ensures.stop field holds) (sym c.is_some.ensures ∙ c.if-is_some.false);
    }
