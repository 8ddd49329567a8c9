use Rattle.std.proofs.Common.{◌≡◌, ◌+◌, ◌<◌, true, Err, IfErr, Some, length, ap, arith, subst, sym, ◌∙◌}
use Rattle.std.proofs.lemmas.Result.{err_from_is_err_and}
use Rattle.block_tree.proofs.Facts.{known}
use Rattle.block_tree.specs.Numbered.{block_at}
use Rattle.mesh_model.specs.declared.fields.values.Var.TheVariants.{FaceWork}
use Rattle.mesh_model.specs.Fields.Ranks.{IsFit, Told}
use Rattle.mesh_model.specs.Tree.Kinds.{Grid, is_leaf_block}
use Rattle.mesh_model.specs.Tree.Order.{nodes}
use Rattle.mesh_model.specs.Tree.ValidGrid.{Valid}
use Rattle.mesh_model.proofs.FieldLemmas.FirstFound.{found_first}
use Rattle.rank_world.specs.Holding.{IsLeafNode, OnlyAxes}
use Rattle.staggered.specs.Facing.{above_below, node_above, walked_above}
use Rattle.mesh_steps.specs.Circulations.{stepped}
use Rattle.mesh_steps.proofs.StepWalk.{AreSteppedBelow, all_stepped, leaf_stepped, node_passed, same_after_all, shows_still}
use Rattle.staggered.proofs.FacesFound.{walk_found}
use Rattle.staggered.proofs.UniformSet.{node_more}
use Rattle.mesh_steps.proofs.circulations.step_leaves.Goals as goal
use Rattle.mesh_steps.proofs.circulations.step_leaves.Goals.{then-is_leaf+in_ok-step_leaf, else-is_leaf}

pub returns-in_err-step_leaf-clause-refused : goal.returns-in_err-step_leaf-clause-refused
returns-in_err-step_leaf-clause-refused g c faces edges shows =
    let old = c.args.world.now in
    let grid = old.told.grid in
    let now = c.loop-node.world in
    let node = c.loop-node.node in
    let before = c.loop-node.invariant in
    let found = c.in_err-step_leaf.field-0.0 in
    let field = stepped c.args.step grid faces edges in
    let valid : Valid grid = subst Valid c.tree.ensures (known c.tree.result.now).valid in
    let inside : node < length (nodes grid.leaves) = subst (λ (h : Grid). node < length (nodes h.leaves)) c.tree.ensures (subst (λ m. node < m) c.len-node-end.ensures.value c.loop-node-test.true) in
    let kind = sym (ap (λ (h : Grid). is_leaf_block h (block_at h node)) c.tree-in-loop-node.ensures) in
    let leaf : is_leaf_block now.told.grid (block_at now.told.grid node) ≡ true = kind ∙ sym c.is_leaf.ensures ∙ c.if-is_leaf.true in
    let there : IsLeafNode now.told.grid node = record { there = subst (λ (t : Told). node < length (nodes t.grid.leaves)) (sym before.only.told) inside; leaf = leaf } in
    let was : IsLeafNode grid node = subst (λ (t : Told). IsLeafNode t.grid node) before.only.told there in
    let still = shows_still c.args.step old now (same_after_all c.args.step old now before.only) faces edges node (shows node was) in
    let here : node_above now.told.grid (stepped c.args.step now.told.grid faces edges) node ≡ Some found = rw leaf (c.in_err-step_leaf.ensures.refused faces edges still) in
    let first : node_above grid field node ≡ Some found = subst (λ (t : Told). node_above t.grid (stepped c.args.step t.grid faces edges) node ≡ Some found) before.only.told here in
    let err = err_from_is_err_and c.from_residual.result c.from_residual.ensures.1 in
    subst (λ r. IfErr r (λ told. walked_above grid field ≡ Some told)) (sym (err.1 ∙ ap Err err.2))
    (walk_found grid field valid ∙ found_first (length (nodes grid.leaves)) node (node_above grid field) found (before.stepped.none faces edges shows) first inside)

pub loop-node-preserved : goal.loop-node-preserved
loop-node-preserved g c =
    let old = c.args.world.now in
    let now = c.loop-node.world in
    let node = c.loop-node.node in
    let before = c.loop-node.invariant in
    let inside : node < length (nodes old.told.grid.leaves) = subst (λ (h : Grid). node < length (nodes h.leaves)) c.tree.ensures (subst (λ m. node < m) c.len-node-end.ensures.value c.loop-node-test.true) in
    let kind = sym (ap (λ (h : Grid). is_leaf_block h (block_at h node)) c.tree-in-loop-node.ensures) in
    elim c.if-is_leaf.branch [
      | then-is_leaf+in_ok-step_leaf w ↦
          let new = w.step_leaf.new.world in
          let done = w.step_leaf.ensures in
          let leaf : is_leaf_block now.told.grid (block_at now.told.grid node) ≡ true = kind ∙ sym c.is_leaf.ensures ∙ w.if-is_leaf.true in
          let there : IsLeafNode now.told.grid node = record { there = subst (λ (t : Told). node < length (nodes t.grid.leaves)) (sym before.only.told) inside; leaf = leaf } in
          record {
            only = subst (OnlyAxes FaceWork old) (sym w.world-is) (node_more old now new node before.only done.only);
            fit = subst (IsFit g.row.N g.row.G) (sym w.world-is) done.fit;
            stepped = subst (λ x. AreSteppedBelow c.args.step (node + 1) old x) (sym w.world-is) (leaf_stepped c.args.step node old now new before.stepped before.only leaf there done.only w.in_ok-step_leaf.ensures.has w.in_ok-step_leaf.ensures.in_range);
          }
      | else-is_leaf w ↦
          let inner = kind ∙ sym c.is_leaf.ensures ∙ w.if-is_leaf.false in
          record {
            only = subst (OnlyAxes FaceWork old) (sym w.world-is) before.only;
            fit = subst (IsFit g.row.N g.row.G) (sym w.world-is) before.fit;
            stepped = subst (λ x. AreSteppedBelow c.args.step (node + 1) old x) (sym w.world-is) (node_passed c.args.step node old now now before.stepped before.only inner);
          }
    ]

pub returns-clause-has : goal.returns-clause-has
returns-clause-has g c faces edges shows =
    let old = c.args.world.now in
    let done = c.loop-node.invariant in
    let many = c.len-node-end.ensures.value ∙ ap (λ (t : Grid). length (nodes t.leaves)) c.tree.ensures in
    all_stepped c.args.step c.loop-node.node old c.loop-node.world done.only done.stepped (λ k leaf. let there = leaf.there in omega (arith, many, there)) faces edges shows

pub returns-clause-in_range : goal.returns-clause-in_range
returns-clause-in_range g c faces edges shows =
    let grid = c.args.world.now.told.grid in
    let field = stepped c.args.step grid faces edges in
    let valid : Valid grid = subst Valid c.tree.ensures (known c.tree.result.now).valid in
    let many : c.len-node-end.result ≡ length (nodes grid.leaves) = c.len-node-end.ensures.value ∙ ap (λ (t : Grid). length (nodes t.leaves)) c.tree.ensures in
    let all : length (nodes grid.leaves) ≡ c.loop-node.node = omega (arith, many) in
    walk_found grid field valid ∙ ap (above_below grid field) all ∙ c.loop-node.invariant.stepped.none faces edges shows
