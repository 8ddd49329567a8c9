use Rattle.std.proofs.Common.{◌≡◌, ◌<◌, None, length, sym, ap, subst, ◌∙◌, arith, inl, inr}
use Rattle.std.proofs.lemmas.Bool.{cases_lt}
use Rattle.mesh_model.specs.Tree.Order.{nodes}
use Rattle.mesh_model.specs.Tree.Kinds.{Grid}
use Rattle.mesh_model.specs.Fields.Ranks.{Told}
use Rattle.rank_world.specs.Holding.{IsLeafNode}
use Rattle.regrid_move.specs.Near.{NodeMoved, node_stop, stop_below}
use Rattle.block_store.proofs.Aboves.{found_here, none_here}
use Rattle.regrid_move.proofs.Steps.{cells_again, node_stays}
use Rattle.regrid_move.proofs.moving.move_variable.Goals as goal

pub returns-then-is_some-clause-stop : goal.returns-then-is_some-clause-stop
returns-then-is_some-clause-stop g c content holds =
    let old = c.args.old.now.told.grid in
    let told = c.move_node-stop.ensures.only.told in
    let new = c.move_node-stop.new.new.told.grid in
    let node = c.loop-node.node in
    let same = ap (λ (t : Told). t.grid) (told ∙ c.loop-node.invariant.only.told) in
    let inside = subst (λ (h : Grid). node < length (nodes h.leaves)) (c.tree.ensures ∙ sym same) (subst (λ m. node < m) c.len-node-end.ensures.value c.loop-node-test.true) in
    found_here (length (nodes new.leaves)) node (node_stop old new content c.args.v) c.move_node-stop.result
    (subst (λ (t : Told). stop_below old t.grid content c.args.v node ≡ None) (sym told) (c.loop-node.invariant.none content holds))
    (c.move_node-stop.ensures.stop content holds) (sym c.is_some.ensures ∙ c.if-is_some.true) inside

pub loop-node-preserved : goal.loop-node-preserved
loop-node-preserved g c =
    let old = c.args.old.now in
    let v = c.args.v in
    let was = c.loop-node.new in
    let new = c.move_node-stop.new.new in
    let only = c.move_node-stop.ensures.only in
    let node = c.loop-node.node in
    record {
      only = cells_again c.args.new.now was new v node c.loop-node.invariant.only only;
      fit = c.move_node-stop.ensures.fit;
      views = λ content holds k h leaf. elim (cases_lt k node) [
        | inl less ↦ node_stays old was new v node k content only (λ is. omega arith) (c.loop-node.invariant.views content holds k less (subst (λ (t : Told). IsLeafNode t.grid k) only.told leaf))
        | inr more ↦ (
            let last : k ≡ node = omega arith in
            subst (λ m. NodeMoved old new v content m) (sym last) (c.move_node-stop.ensures.views content holds (subst (λ m. IsLeafNode new.told.grid m) last leaf)))
      ];
      none = λ content holds.
          none_here node (node_stop old.told.grid new.told.grid content v) c.move_node-stop.result
          (subst (λ (t : Told). stop_below old.told.grid t.grid content v node ≡ None) (sym only.told) (c.loop-node.invariant.none content holds))
          (c.move_node-stop.ensures.stop content holds) (sym c.is_some.ensures ∙ c.if-is_some.false);
    }
