use Rattle.std.proofs.Common.{◌≡◌, ◌+◌, ◌*◌, ◌^◌, ◌<◌, ℤ, Err, IfErr, length, sym, ap, subst, ◌∙◌, arith, to_z, find}
use Rattle.std.specs.Int.{w128}
use Rattle.std.proofs.lemmas.Result.{err_from_is_err_and}
use Rattle.amr_num.specs.Numbers.{number_range, sum_below}
use Rattle.amr_num.specs.declared.CellAt.{CellAt}
use Rattle.block_tree.proofs.Facts.{known}
use Rattle.block_tree.proofs.Numbers.{most_few}
use Rattle.block_tree.specs.Numbered.{IsNode}
use Rattle.mesh_model.specs.Fields.Advect.{advected, three}
use Rattle.mesh_model.specs.Fields.RangeWalk.{cells_walked, is_above}
use Rattle.mesh_model.specs.Fields.Ranks.{Told}
use Rattle.mesh_model.specs.Tree.Kinds.{Grid}
use Rattle.mesh_model.specs.Tree.Order.{Sorted, nodes}
use Rattle.mesh_model.specs.Tree.ValidGrid.{Valid}
use Rattle.mesh_steps.specs.Settling.{AreFluxed, IsLost, IsRefused, above_below, lost, node_above}
use Rattle.flux_conserve.specs.Work.{HasNoJump}
use Rattle.mesh_steps.proofs.Machine.{more_of, more_small}
use Rattle.mesh_steps.proofs.Settled.{fluxed_still, lost_outflow, may_still, node_settled, ready_still, walk_refused, walked_above, work_again}
use Rattle.mesh_steps.proofs.settling.walk.Goals as goal
use Rattle.rank_world.specs.NodeSums.{node_sum}

pub settle_node-requires : goal.settle_node-requires
settle_node-requires g c =
    let old = c.args.world.now in
    let now = c.loop-node.world in
    let before = c.loop-node.invariant in
    let same : old.told.grid ≡ now.told.grid = sym (ap (λ (t : Told). t.grid) before.only.told) in
    let there : IsNode now.told.grid c.loop-node.node = subst (λ (h : Grid). c.loop-node.node < length (nodes h.leaves)) (c.tree.ensures ∙ same) (subst (λ m. c.loop-node.node < m) c.len-node-end.ensures.value c.loop-node-test.true) in (
      omega arith,
      (
        may_still old now c.args.v before.only g.row.N g.row.G before.fit c.requires.may,
        (
          ready_still old now c.args.v before.only g.row.N g.row.G (three c.args.speeds) before.fit c.requires.ready,
          (
            c.requires.speeds,
            (λ none. subst HasNoJump same (c.requires.calm none), (before.x ∙ c.requires.x, (before.y ∙ c.requires.y, (before.z ∙ c.requires.z, there)))),
          ),
        ),
      ),
    )

pub returns-in_err-flown-clause-stop : goal.returns-in_err-flown-clause-stop
returns-in_err-flown-clause-stop g c =
    let n = three c.args.speeds in
    let old = c.args.world.now in
    let grid = old.told.grid in
    let now = c.loop-node.world in
    let v = c.args.v in
    let node = c.loop-node.node in
    let before = c.loop-node.invariant in
    let above = c.in_err-flown.field-0.0 in
    let valid : Valid grid = subst Valid c.tree.ensures (known c.tree.result.now).valid in
    let there : IsNode grid node = subst (λ (h : Grid). node < length (nodes h.leaves)) c.tree.ensures (subst (λ m. node < m) c.len-node-end.ensures.value c.loop-node-test.true) in
    let err = err_from_is_err_and c.from_residual.result c.from_residual.ensures.1 in
    subst (λ r. IfErr r (λ above. (content : CellAt → ℤ) → AreFluxed old v content n →
    IsRefused grid content n (find (λ d. is_above number_range (advected grid content n d)) (cells_walked grid)) above)) (sym (err.1 ∙ ap Err err.2))
    (λ content are.
    let refused : IsRefused grid content n (node_above grid content n node) above =
    subst (λ (t : Told). IsRefused t.grid content n (node_above t.grid content n node) above) before.only.told
    (c.in_err-flown.ensures.stop content (fluxed_still old now v before.only content n are)) in
    walk_refused grid content n valid node above there (before.settled.none content are) refused)

pub loop-node-preserved : goal.loop-node-preserved
loop-node-preserved g c =
    let n = three c.args.speeds in
    let old = c.args.world.now in
    let grid = old.told.grid in
    let now = c.loop-node.world in
    let new = c.settle_node.new.world in
    let v = c.args.v in
    let node = c.loop-node.node in
    let before = c.loop-node.invariant in
    let done = c.in_ok-flown.ensures in
    let out = c.in_ok-flown.field-0 in
    let sum = to_z w128 c.loop-node.flown-bits in
    let most = most_few c.tree.result.now.shape in
    let few : node * 2 ^ 70 + 2 ^ 70 < 2 ^ 127 = omega (arith, c.loop-node-test.true, c.len-node-end.ensures.few, most) in
    let small = more_small sum out (node * 2 ^ 70) (2 ^ 70) before.small done.size few in
    record {
      only = work_again old now new node before.only done.only;
      fit = done.fit;
      settled = node_settled node old now new v (three c.args.speeds) before.settled before.only done.only done.settled;
      so_far = λ content are.
          let here : IsLost old content n node out =
          subst (λ (t : Told). out ≡ node_sum t.grid (lost t.grid content n) node) before.only.told (done.flown content (fluxed_still old now v before.only content n are)) in
          more_of sum out (node * 2 ^ 70) (2 ^ 70) before.small done.size few (node_sum grid (lost grid content n)) node (before.so_far content are) here;
      x = done.x ∙ before.x;
      y = done.y ∙ before.y;
      z = done.z ∙ before.z;
      small = omega (arith, small);
    }

pub returns-clause-flown : goal.returns-clause-flown
returns-clause-flown g c content are =
    let n = three c.args.speeds in
    let grid = c.args.world.now.told.grid in
    let valid : Valid grid = subst Valid c.tree.ensures (known c.tree.result.now).valid in
    let order : Sorted grid.leaves = subst (λ (h : Grid). Sorted h.leaves) c.tree.ensures (known c.tree.result.now).order in
    let many : length (nodes grid.leaves) ≡ c.len-node-end.result = ap (λ (h : Grid). length (nodes h.leaves)) (sym c.tree.ensures) ∙ sym c.len-node-end.ensures.value in
    let all : c.loop-node.node ≡ length (nodes grid.leaves) = omega (arith, many) in
    c.loop-node.invariant.so_far content are ∙ ap (λ m. sum_below m (node_sum grid (lost grid content n))) all ∙ lost_outflow grid content n valid order

pub returns-clause-none : goal.returns-clause-none
returns-clause-none g c content are =
    let n = three c.args.speeds in
    let grid = c.args.world.now.told.grid in
    let valid : Valid grid = subst Valid c.tree.ensures (known c.tree.result.now).valid in
    let many : length (nodes grid.leaves) ≡ c.len-node-end.result = ap (λ (h : Grid). length (nodes h.leaves)) (sym c.tree.ensures) ∙ sym c.len-node-end.ensures.value in
    let all : length (nodes grid.leaves) ≡ c.loop-node.node = omega (arith, many) in
    walked_above grid content n valid ∙ ap (above_below grid content n) all ∙ c.loop-node.invariant.settled.none content are
