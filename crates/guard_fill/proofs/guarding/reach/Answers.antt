use Rattle.std.proofs.Common.{◌≡◌, ◌+◌, ◌∙◌, ap, arith, subst, sym, length, true}
use Rattle.amr_num.specs.declared.BlockAt.{BlockAt}
use Rattle.mesh_model.specs.Geometry.Blocks.{InDomain}
use Rattle.mesh_model.specs.Fields.ArrayPlaces.{extents_of, size_of}
use Rattle.mesh_model.specs.Tree.Kinds.{Grid, is_leaf_block}
use Rattle.block_tree.specs.Numbered.{block_at}
use Rattle.guard_fill.specs.Guarding.{IsReachedTo, IsSpreadTo}
use Rattle.guard_fill.proofs.Spreading.{guards_reached, none_reached, own_reached}
use Rattle.guard_fill.proofs.guarding.reach.Goals as goal
use Rattle.guard_fill.proofs.guarding.reach.Goals.{else-direction-ne-OWN_PLACES, then-direction-ne-OWN_PLACES}

pub loop-direction-init : goal.loop-direction-init
loop-direction-init g c =
    none_reached g.row.N g.row.G c.args.world.now c.args.var c.args.node c.requires.ready.fit.sizes c.copy_from_slice.new.self (c.copy_from_slice.ensures.after ∙ c.values.ensures.value)

pub spread_direction-requires : goal.spread_direction-requires
spread_direction-requires g c =
    let grid = c.args.world.now.told.grid in
    let block : c.at-block.result ≡ block_at grid c.args.node = c.at-block.ensures.value ∙ ap (λ (h : Grid). block_at h c.args.node) c.tree.ensures in
    let leaf : is_leaf_block grid c.at-block.result ≡ true = ap (is_leaf_block grid) block ∙ c.requires.leaf.leaf in
    let long : length c.loop-direction.room ≡ size_of (extents_of g.row.N g.row.G c.args.var) = c.loop-direction.auto.room ∙ c.copy_from_slice.ensures.len ∙ c.requires.room in
    (omega arith, (c.requires.ready, (c.requires.field, (c.requires.mesh, (leaf, (omega arith, (c.loop-direction.auto.child ∙ c.requires.child, long)))))))

pub loop-direction-preserved : goal.loop-direction-preserved
loop-direction-preserved g c =
    let n = g.row.N in
    let e = g.row.G in
    let w = c.args.world.now in
    let grid = w.told.grid in
    let var = c.args.var in
    let node = c.args.node in
    let d = c.loop-direction.direction in
    let old = c.loop-direction.room in
    let block : c.at-block.result ≡ block_at grid node = c.at-block.ensures.value ∙ ap (λ (h : Grid). block_at h node) c.tree.ensures in
    elim c.if-direction-ne-OWN_PLACES.branch [
      | then-direction-ne-OWN_PLACES p ↦
          let new = p.spread_direction.new.room in
          let fill = subst (λ (b : BlockAt). IsSpreadTo n e w var b d old new) block p.spread_direction.ensures.spread in
          subst (IsReachedTo n e w var node (d + 1)) (sym p.room-is)
          (guards_reached n e w var node c.requires.ready.fit.sizes d old new p.if-direction-ne-OWN_PLACES.true c.loop-direction.invariant fill)
      | else-direction-ne-OWN_PLACES p ↦
          let last : d ≡ 13 = p.if-direction-ne-OWN_PLACES.false in
          let inside : InDomain grid.shape (block_at grid node) =
          subst (InDomain grid.shape) block (subst (λ (h : Grid). InDomain h.shape c.at-block.result) c.tree.ensures c.at-block.ensures.inside) in
          subst (IsReachedTo n e w var node (d + 1)) (sym p.room-is)
          (subst (λ m. IsReachedTo n e w var node (m + 1) old) (sym last)
          (own_reached n e w var node c.requires.ready.fit.sizes old inside c.requires.leaf.there (subst (λ m. IsReachedTo n e w var node m old) last c.loop-direction.invariant)))
    ]

pub returns-clause-reached : goal.returns-clause-reached
returns-clause-reached g c =
    let last : c.loop-direction.direction ≡ 27 = (let most = c.loop-direction.auto.direction-end in omega arith) in
    subst (λ d. IsReachedTo g.row.N g.row.G c.args.world.now c.args.var c.args.node d c.loop-direction.room) last c.loop-direction.invariant
