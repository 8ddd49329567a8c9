use Rattle.std.proofs.Common.{◌≡◌, ◌+◌, ◌∙◌, ap, arith, subst, sym, length, true}
use Rattle.amr_num.specs.declared.BlockAt.{BlockAt}
use Rattle.mesh_model.specs.Geometry.Blocks.{InDomain}
use Rattle.mesh_model.specs.Fields.ArrayPlaces.{cell_extents, size_of}
use Rattle.mesh_model.specs.Tree.Kinds.{Grid, is_leaf_block}
use Rattle.block_tree.specs.Numbered.{block_at}
use Rattle.guard_fill.specs.Filling.{IsFilledAsked, IsGatheredTo}
use Rattle.guard_fill.proofs.Gathering.{asked_gathered, none_gathered, own_gathered}
use Rattle.guard_fill.proofs.filling.gather.Goals as goal
use Rattle.guard_fill.proofs.filling.gather.Goals.{else-direction-ne-OWN_CELLS, then-direction-ne-OWN_CELLS}

pub loop-direction-init : goal.loop-direction-init
loop-direction-init g c =
    none_gathered g.row.N g.row.G c.args.guards c.args.world.now c.args.v c.args.node c.requires.ready.fit.sizes c.copy_from_slice.new.self (c.copy_from_slice.ensures.after ∙ c.values.ensures.value)

pub fill_asked-requires : goal.fill_asked-requires
fill_asked-requires g c =
    let grid = c.args.world.now.told.grid in
    let block : c.at-block.result ≡ block_at grid c.args.node = c.at-block.ensures.value ∙ ap (λ (h : Grid). block_at h c.args.node) c.tree.ensures in
    let leaf : is_leaf_block grid c.at-block.result ≡ true = ap (is_leaf_block grid) block ∙ c.requires.leaf.leaf in
    let long : length c.loop-direction.room ≡ size_of (cell_extents g.row.N g.row.G) = c.loop-direction.auto.room ∙ c.copy_from_slice.ensures.len ∙ c.requires.room in
    (omega arith, (c.requires.ready, (leaf, (omega arith, long))))

pub loop-direction-preserved : goal.loop-direction-preserved
loop-direction-preserved g c =
    let n = g.row.N in
    let e = g.row.G in
    let w = c.args.world.now in
    let grid = w.told.grid in
    let v = c.args.v in
    let node = c.args.node in
    let d = c.loop-direction.direction in
    let old = c.loop-direction.room in
    let block : c.at-block.result ≡ block_at grid node = c.at-block.ensures.value ∙ ap (λ (h : Grid). block_at h node) c.tree.ensures in
    elim c.if-direction-ne-OWN_CELLS.branch [
      | then-direction-ne-OWN_CELLS p ↦
          let new = p.fill_asked.new.room in
          let fill = subst (λ (b : BlockAt). IsFilledAsked n e c.args.guards w v b d old new) block p.fill_asked.ensures.filled in
          subst (IsGatheredTo n e c.args.guards w v node (d + 1)) (sym p.room-is)
          (asked_gathered n e c.args.guards w v node c.requires.ready.fit.sizes d old new p.if-direction-ne-OWN_CELLS.true c.loop-direction.invariant fill)
      | else-direction-ne-OWN_CELLS p ↦
          let last : d ≡ 13 = p.if-direction-ne-OWN_CELLS.false in
          let inside : InDomain grid.shape (block_at grid node) =
          subst (InDomain grid.shape) block (subst (λ (h : Grid). InDomain h.shape c.at-block.result) c.tree.ensures c.at-block.ensures.inside) in
          subst (IsGatheredTo n e c.args.guards w v node (d + 1)) (sym p.room-is)
          (subst (λ m. IsGatheredTo n e c.args.guards w v node (m + 1) old) (sym last)
          (own_gathered n e c.args.guards w v node c.requires.ready.fit.sizes old inside c.requires.leaf.there (subst (λ m. IsGatheredTo n e c.args.guards w v node m old) last c.loop-direction.invariant)))
    ]

pub returns : goal.returns
returns g c =
    let last : c.loop-direction.direction ≡ 27 = (let most = c.loop-direction.auto.direction-end in omega arith) in
    subst (λ d. IsGatheredTo g.row.N g.row.G c.args.guards c.args.world.now c.args.v c.args.node d c.loop-direction.room) last c.loop-direction.invariant
