-- Leaves of the new grid: they are near old ones, and hold the regridded mesh.
use Rattle.std.proofs.Common.{◌≡◌, ℕ, ◌<◌, Bool, true, false, List, ℤ, pos, refl, sym, ap, ap₂, subst, ◌∙◌, arith, inl, inr}
use Rattle.std.specs.Prelude.{if◌then◌else◌, ◌&&◌}
use Rattle.amr_num.specs.declared.Axis.{Axis}
use Rattle.amr_num.specs.declared.BlockAt.{BlockAt}
use Rattle.amr_num.specs.declared.EdgeAt.{EdgeAt}
use Rattle.amr_num.specs.declared.FaceAt.{FaceAt}
use Rattle.mesh_model.specs.Geometry.Blocks.{parent_block}
use Rattle.mesh_model.specs.Tree.Order.{IsIn}
use Rattle.mesh_model.specs.Fields.ArrayPlaces.{HoldsEdges, HoldsFaces, HoldsViews}
use Rattle.mesh_model.specs.Fields.FinePlaces.{edges_in, faces_in}
use Rattle.mesh_model.specs.Geometry.Canonical.{canonical_on}
use Rattle.mesh_model.specs.Geometry.Coordinates.{face_of}
use Rattle.mesh_model.specs.Tree.Kinds.{Grid, is_leaf, is_leaf_block, is_split}
use Rattle.mesh_model.specs.Fields.Plain.{marked, Mesh, on_cells}
use Rattle.mesh_model.specs.Geometry.Places.{in_block}
use Rattle.mesh_model.specs.Tree.Regrown.{new_grid, regrown}
use Rattle.mesh_model.specs.Fields.Regrid.{regrid}
use Rattle.mesh_model.specs.Tree.ValidGrid.{Valid}
use Rattle.mesh_model.specs.Fields.Views.{cell_view, edge_view, face_view}
use Rattle.mesh_model.specs.Fields.Ranks.{WorldState}
use Rattle.mesh_model.proofs.FieldLemmas.BlockOctants.{block_of_cell}
use Rattle.mesh_model.proofs.FieldLemmas.CellKinds.{kinds_of_tiles, wide_of}
use Rattle.mesh_model.proofs.FieldLemmas.CellSums.{view_leaf}
use Rattle.mesh_model.proofs.FieldLemmas.EdgeSums.{edge_view_sum}
use Rattle.mesh_model.proofs.FieldLemmas.LeafFaces.{face_adds, view_is}
use Rattle.mesh_model.proofs.TreeLemmas.Closure.{parent_of_child}
use Rattle.mesh_model.proofs.TreeLemmas.Regrown.{new_source}
use Rattle.mesh_model.proofs.TreeLemmas.Tiling.{leaf_says}
use Rattle.mesh_model.proofs.FieldLemmas.ValidGrid.{deep_edge, leaf_whole, tree}
use Rattle.block_tree.specs.Growing.{MayRegrow}
use Rattle.block_tree.specs.Directions.{edge_name}
use Rattle.block_tree.specs.Numbered.{block_at}
use Rattle.rank_world.specs.Holding.{LeavesHold, numbers_of}
use Rattle.rank_world.proofs.FaceBlocks.{leaf_face_seen}
use Rattle.regrid_move.specs.AxisMoves.{FieldOf, HoldsAxis, LeafAxesMoved, LeavesHoldAxes, array_of}
use Rattle.regrid_move.specs.declared.kinds.Staggered.{Staggered}
use Rattle.regrid_move.specs.declared.kinds.Staggered.TheVariants.{Edges, Faces}
use Rattle.leaf_split.proofs.EdgeViews as edges
use Rattle.regrid_move.specs.Near.{AreNear, IsNear, LeavesMoved}

-- each leaf of the new grid is near
near_leaf : (g : Grid) (refine merge : BlockAt → Bool) → MayRegrow g refine merge → (b : BlockAt) → IsIn b (regrown g refine merge).leaves → IsNear g b
near_leaf g refine merge may b i =
    let source = new_source refine merge g b i in
    let from = source.0 in
    record {
      which = elim source.2 [
        | inl r ↦ inr (inl (subst (λ n. (0 < n.level) × IsIn (parent_block n) g.leaves) r.child (omega arith, subst (λ n. IsIn n g.leaves) (sym (parent_of_child from r.octant)) source.1)))
        | inr (inl p) ↦ inr (inr (λ q h. may.children b q (subst (λ n. merge n ≡ true) p.parent p.merged) h))
        | inr (inr k) ↦ inl (subst (λ n. IsIn n g.leaves) k.same source.1)
      ];
    }

pub near_after : (g : Grid) (refine merge : BlockAt → Bool) → MayRegrow g refine merge → AreNear g (regrown g refine merge)
near_after g refine merge may = record {
  shape = refl;
  each = λ node leaf. near_leaf g refine merge may (block_at (regrown g refine merge) node) (leaf_says (regrown g refine merge) (block_at (regrown g refine merge) node) leaf.leaf);
}

-- a leaf of the new grid that holds the old views holds the new mesh's
pub moved_holds : (m : Mesh) (v : ℕ) (b : BlockAt) (numbers : ℕ → ℕ → ℕ → ℤ) → Valid (new_grid (marked m)) → is_leaf_block (new_grid (marked m)) b ≡ true →
    HoldsViews m.grid (m.cells v) b numbers → HoldsViews (new_grid (marked m)) ((regrid m).cells v) b numbers
moved_holds m v b numbers valid leaf moved = record {
  at = λ i j k hi hj hk.
      let n = m.grid.shape.n in
      let c = in_block n b i j k in
      let here : is_leaf (new_grid (marked m)) c ≡ true = ap (is_leaf_block (new_grid (marked m))) (block_of_cell n b i j k hi hj hk) ∙ leaf in
      let whole : is_split (new_grid (marked m)) c ≡ false = leaf_whole (new_grid (marked m)) valid c here in
      let content : on_cells (new_grid (marked m)) (cell_view m.grid (m.cells v)) c ≡ cell_view m.grid (m.cells v) c = ap (λ t. if t then cell_view m.grid (m.cells v) c else pos 0) here in
      moved.at i j k hi hj hk ∙ sym (view_leaf (new_grid (marked m)) ((regrid m).cells v) c whole here ∙ content);
}

-- the new leaves hold the new mesh
pub new_leaves : (now new : WorldState) (m : Mesh) (v : ℕ) → now.told.grid ≡ m.grid → new.told.grid ≡ new_grid (marked m) → Valid (new_grid (marked m)) → LeavesMoved now new v (m.cells v) → LeavesHold new v ((regrid m).cells v)
new_leaves now new m v old_is new_is valid moved node leaf =
    let b = block_at new.told.grid node in
    let xs = numbers_of new v node in
    let here = subst (λ h. HoldsViews h (m.cells v) b xs) old_is (moved node leaf) in
    subst (λ h. HoldsViews h ((regrid m).cells v) b xs) (sym new_is) (moved_holds m v b xs valid (subst (λ h. is_leaf_block h b ≡ true) new_is leaf.leaf) here)

-- ---- faces and edges

-- a leaf of the new grid whose faces hold the old views has the new mesh's on them
moved_holds_faces : (m : Mesh) (a : Axis) (b : BlockAt) (numbers : ℕ → ℕ → ℕ → ℤ) → Valid m.grid → Valid (new_grid (marked m)) → is_leaf_block (new_grid (marked m)) b ≡ true →
    HoldsFaces m.grid m.faces a b numbers → HoldsFaces (new_grid (marked m)) (regrid m).faces a b numbers
moved_holds_faces m a b numbers before valid leaf moved = record {
  at = λ i j k hi hj hk.
      let g = new_grid (marked m) in
      let s = m.grid.shape in
      let old = λ (f : FaceAt). face_view m.grid m.faces f in
      let seen = leaf_face_seen g valid a b leaf i j k hi hj hk in
      moved.at i j k hi hj hk
      ∙ sym (view_is g (kinds_of_tiles g valid.tiles valid.shape) valid.shape (wide_of s valid.shape) (regrid m).faces old
      (λ f canonical is. ap (λ t. if t then face_view m.grid m.faces f else pos 0) (ap₂ (λ p q. p && q) canonical is))
      (λ f split. face_adds m.grid (kinds_of_tiles m.grid before.tiles before.shape) before.shape (wide_of s before.shape) m.faces f)
      (face_of a (canonical_on s a (in_block s.n b i j k))) seen);
}

-- and one whose edges do
moved_holds_edges : (m : Mesh) (a : Axis) (b : BlockAt) (numbers : ℕ → ℕ → ℕ → ℤ) → Valid m.grid → Valid (new_grid (marked m)) → is_leaf_block (new_grid (marked m)) b ≡ true →
    HoldsEdges m.grid m.edges a b numbers → HoldsEdges (new_grid (marked m)) (regrid m).edges a b numbers
moved_holds_edges m a b numbers before valid leaf moved = record {
  at = λ i j k hi hj hk.
      let g = new_grid (marked m) in
      let s = m.grid.shape in
      let old = λ (e : EdgeAt). edge_view m.grid m.edges e in
      let inside = valid.tiles.inside b (leaf_says g b leaf) in
      moved.at i j k hi hj hk
      ∙ sym (edges.view_is g valid (regrid m).edges old
      (λ e canonical is. ap (λ t. if t then edge_view m.grid m.edges e else pos 0) (ap₂ (λ p q. p && q) canonical is))
      (λ e split. edge_view_sum m.grid (tree m.grid before) (wide_of s before.shape) m.edges e (deep_edge m.grid before e))
      (edge_name s a b i j k) (edges.edge_canonical s b valid.shape.cells inside a i j k hi hj hk) (edges.either_of_leaf g valid a b leaf i j k hi hj hk));
}

-- the mesh's numbers on faces, or on edges
abbrev pub numbers_on : (k : Staggered) → Mesh → FieldOf k
numbers_on Faces m = m.faces
numbers_on Edges m = m.edges

moved_holds_axis : (k : Staggered) (m : Mesh) (a : Axis) (b : BlockAt) (xs : List ℤ) → Valid m.grid → Valid (new_grid (marked m)) → is_leaf_block (new_grid (marked m)) b ≡ true →
    HoldsAxis k m.grid (numbers_on k m) a b xs → HoldsAxis k (new_grid (marked m)) (numbers_on k (regrid m)) a b xs
moved_holds_axis Faces m a b xs before valid leaf moved = moved_holds_faces m a b (faces_in m.grid a xs) before valid leaf moved
moved_holds_axis Edges m a b xs before valid leaf moved = moved_holds_edges m a b (edges_in m.grid a xs) before valid leaf moved

pub new_axes : (k : Staggered) (now new : WorldState) (m : Mesh) → now.told.grid ≡ m.grid → new.told.grid ≡ new_grid (marked m) → Valid m.grid → Valid (new_grid (marked m)) →
    LeafAxesMoved k now new (numbers_on k m) → LeavesHoldAxes k new (numbers_on k (regrid m))
new_axes k now new m old_is new_is before valid moved node leaf a =
    let b = block_at new.told.grid node in
    let xs = array_of k new a node in
    let here = subst (λ h. HoldsAxis k h (numbers_on k m) a b xs) old_is (moved node leaf a) in
    subst (λ h. HoldsAxis k h (numbers_on k (regrid m)) a b xs) (sym new_is)
    (moved_holds_axis k m a b xs before valid (subst (λ h. is_leaf_block h b ≡ true) new_is leaf.leaf) here)
