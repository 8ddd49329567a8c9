use Rattle.std.proofs.Common.{◌++◌, [], ◌∷◌, map, sym, ap, ◌∙◌, append_assoc, arith}
use Rattle.std.specs.List.{range_with_len}
use Rattle.std.proofs.lemmas.List.FromFn.{map-range_with_len_more}
use Rattle.mesh_model.specs.Geometry.Blocks.{child_block}
use Rattle.block_tree.proofs.places.push_children.Goals as goal

pub loop-octant-preserved : goal.loop-octant-preserved
loop-octant-preserved c =
    let before = c.args.nodes.now.items in
    let octant = c.loop-octant.octant in
    let b = c.args.b in
    let listed = map (child_block b) (range_with_len 0 octant) in
    c.in_ok-push.ensures
    ∙ ap (λ u. c.loop-octant.nodes.items ++ u ∷ []) c.child_block.ensures
    ∙ ap (λ u. u ++ child_block b octant ∷ []) c.loop-octant.invariant
    ∙ append_assoc before listed (child_block b octant ∷ [])
    ∙ ap (λ u. before ++ u) (sym (map-range_with_len_more (child_block b) 0 octant octant (omega arith)))
