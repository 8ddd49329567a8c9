use Rattle.std.proofs.Common.{◌≡◌, ℕ, ◌+◌, ◌-◌, ◌<◌, ◌≤◌, ◌++◌, [], ◌∷◌, map, reverse, sym, ap, ap₂, ◌∙◌, arith}
use Rattle.std.specs.List.{range_with_len}
use Rattle.std.proofs.lemmas.List.{reverse-append}
use Rattle.mesh_model.specs.Geometry.Blocks.{child_block}
use Rattle.block_tree.proofs.Visits.{range_down}
use Rattle.block_tree.proofs.forest.pile_children.Goals as goal

pub loop-octant-preserved : goal.loop-octant-preserved
loop-octant-preserved c =
    let b = c.args.b in
    let o = c.loop-octant.octant in
    let old = c.loop-octant.pending.items in
    let lt = c.loop-octant-test.true in
    let pushed = c.in_ok-push.ensures in
    ap reverse pushed ∙ reverse-append old (c.child_block.result ∷ [])
    ∙ ap₂ (λ u w. u ∷ w) c.child_block.ensures c.loop-octant.invariant
    ∙ ap (λ u. map (child_block b) u ++ reverse c.args.pending.now.items) (range_down o lt)
