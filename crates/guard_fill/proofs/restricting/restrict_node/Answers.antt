use Rattle.std.proofs.Common.{◌≡◌, ◌<◌, ◌⊎◌, ◌∙◌, ap, arith, List, ℤ, subst, sym}
use Rattle.mesh_model.specs.Geometry.Blocks.{child_block}
use Rattle.mesh_model.specs.Tree.Kinds.{Grid}
use Rattle.mesh_model.specs.Fields.Arrays.{array_in}
use Rattle.mesh_model.specs.Fields.ArrayPlaces.{extents_of, number_at}
use Rattle.mesh_model.specs.Fields.FinePlaces.{FineSumsAreSmall}
use Rattle.mesh_model.specs.Fields.Ranks.{Told, rank_at}
use Rattle.mesh_model.proofs.FieldLemmas.Worlds.{only_of_again}
use Rattle.block_tree.specs.GridOf.{grid_of}
use Rattle.block_tree.specs.Numbered.{IsNode, block_at}
use Rattle.guard_fill.specs.Restricting.{HasViews}
use Rattle.guard_fill.proofs.Restricted.{child_found, child_same, octant_step, octants_make, ready_after}
use Rattle.guard_fill.proofs.restricting.restrict_node.Goals as goal

pub child-requires-clause-node : goal.child-requires-clause-node
child-requires-clause-node g c =
    subst (λ (h : Grid). IsNode h c.args.node) (ap (λ (t : Told). t.grid) (sym c.loop-octant.invariant.only.told) ∙ sym c.tree.ensures) c.requires.node

pub restrict_child-requires : goal.restrict_child-requires
restrict_child-requires g c =
    let n = g.row.N in
    let e = g.row.G in
    let now = c.args.world.now in
    let mid = c.loop-octant.world in
    let var = c.args.var in
    let q = c.loop-octant.octant in
    let hq : q < 8 = (let test = c.loop-octant-test.true in omega arith) in
    let child = c.in-Some.child in
    let only = c.loop-octant.invariant.only in
    let found = child_found now mid var c.args.node q child (grid_of c.tree.result.now) c.tree.ensures only c.in-Some.ensures.1 in
    let same = child_same now mid var c.args.node q child (grid_of c.tree.result.now) c.tree.ensures only c.in-Some.ensures.1 in (
      omega arith,
      (
        ready_after n e now mid var c.requires.ready c.loop-octant.invariant.fit only.told,
        (
          subst (λ (t : Told). IsNode t.grid c.args.node) (sym only.told) c.requires.node,
          (
            subst (λ (t : Told). IsNode t.grid child) (sym only.told) found.there,
            (
              hq,
              (
                c.loop-octant.auto.room ∙ c.requires.room,
                subst (λ (xs : List ℤ). FineSumsAreSmall n e var (number_at (extents_of n e var) xs)) (sym same) (c.requires.small q child hq found),
              ),
            ),
          ),
        ),
      ),
    )

pub loop-octant-preserved : goal.loop-octant-preserved
loop-octant-preserved g c =
    let now = c.args.world.now in
    let mid = c.loop-octant.world in
    let var = c.args.var in
    let q = c.loop-octant.octant in
    let child = c.in-Some.child in
    let only = c.loop-octant.invariant.only in
    let s = now.told.grid.shape in
    let size = subst (λ m. (m ≡ 4) ⊎ (m ≡ 8)) (sym c.requires.ready.fit.sizes.cells) c.requires.ready.size.cells in
    let hq : q < 8 = (let test = c.loop-octant-test.true in omega arith) in
    let b = block_at now.told.grid c.args.node in
    let found = child_found now mid var c.args.node q child (grid_of c.tree.result.now) c.tree.ensures only c.in-Some.ensures.1 in
    let same = child_same now mid var c.args.node q child (grid_of c.tree.result.now) c.tree.ensures only c.in-Some.ensures.1 in
    let old = (rank_at mid 0).own.values in
    record {
      only = only_of_again now mid c.restrict_child.new.world 0 var c.args.node only c.restrict_child.ensures.only;
      fit = c.restrict_child.ensures.fit;
      done = λ view sums held.
          octant_step s size g.row.N g.row.G c.requires.ready.fit.sizes var view sums b q (array_in old var child) (array_in old var c.args.node) (array_in (rank_at c.restrict_child.new.world 0).own.values var c.args.node)
          c.restrict_child.ensures.sums
          (subst (λ (xs : List ℤ). HasViews s var view (child_block b q) (number_at (extents_of s.n s.g var) xs)) (sym same)
          (subst (λ d. HasViews s var view d (number_at (extents_of s.n s.g var) (array_in (rank_at now 0).own.values var child))) found.block (held q child hq found)))
          (c.loop-octant.invariant.done view sums held);
    }

pub returns-clause-views : goal.returns-clause-views
returns-clause-views g c view sums held =
    let now = c.args.world.now in
    let mid = c.loop-octant.world in
    let var = c.args.var in
    let only = c.loop-octant.invariant.only in
    let s = now.told.grid.shape in
    let size = subst (λ m. (m ≡ 4) ⊎ (m ≡ 8)) (sym c.requires.ready.fit.sizes.cells) c.requires.ready.size.cells in
    let array = array_in (rank_at mid 0).own.values var c.args.node in
    subst (λ (t : Told). HasViews t.grid.shape var view (block_at t.grid c.args.node) (number_at (extents_of t.grid.shape.n t.grid.shape.g var) array)) (sym only.told)
    (octants_make s size g.row.N g.row.G c.requires.ready.fit.sizes var view sums (block_at now.told.grid c.args.node) (number_at (extents_of s.n s.g var) array)
    (λ q h. c.loop-octant.invariant.done view sums held q (omega arith)))
