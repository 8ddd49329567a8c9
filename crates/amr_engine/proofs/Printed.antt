-- What is printed of a world is what its mesh has.
use Rattle.std.proofs.Common.{◌≡◌, ℕ, ◌+◌, ◌*◌, ◌<◌, false, true, List, ℤ, ◌-ℤ◌, pos, sym, ap, ap₂, subst, ◌∙◌, arith}
use Rattle.std.proofs.lemmas.Int.{ints}
use Rattle.block_tree.specs.Numbered.{IsNode, block_at}
use Rattle.amr_num.specs.declared.Axis.{Axis}
use Rattle.amr_num.specs.declared.Axis.TheVariants.{X, Y, Z}
use Rattle.mesh_model.specs.declared.fields.values.Group.{Group}
use Rattle.mesh_model.specs.declared.fields.values.Group.TheVariants.{Cell, Edge, Face}
use Rattle.mesh_model.specs.declared.fields.values.Var.{Var}
use Rattle.mesh_model.specs.declared.fields.values.Var.TheVariants as vars
use Rattle.mesh_model.specs.Fields.FinePlaces.{edges_in, faces_in}
use Rattle.mesh_model.specs.Fields.ArrayPlaces.{AreIndices, HoldsEdgeGuards, HoldsEdges, HoldsFaceGuards, HoldsFaces, HoldsGuards, HoldsViews, IsIndex, extents_of, number_at, number_of, place_of}
use Rattle.mesh_model.specs.Fields.Arrays.{HasArray, HasVar, array_in}
use Rattle.mesh_model.specs.Fields.Octants.{cells_of}
use Rattle.mesh_model.specs.Fields.Plain.{Mesh}
use Rattle.mesh_model.specs.Fields.Ranks.{IsFit, WorldState, rank_at}
use Rattle.mesh_model.specs.Fields.Valid.{ValidMesh}
use Rattle.mesh_model.specs.Geometry.Places.{in_block, longer_across, longer_on}
use Rattle.mesh_model.specs.Tree.Kinds.{Grid, is_leaf, is_leaf_block}
use Rattle.mesh_model.proofs.FieldLemmas.BlockOctants.{block_of_cell}
use Rattle.mesh_model.proofs.FieldLemmas.CellSums.{view_leaf}
use Rattle.mesh_model.proofs.FieldLemmas.ValidGrid.{leaf_whole}
use Rattle.mesh_model.proofs.FieldLemmas.Worlds.{has_array}
use Rattle.amr_engine.specs.Guards.{field_of}
use Rattle.amr_report.specs.Arrays.{array_on, places_along}
use Rattle.amr_report.specs.Values.{HasGuardValues, HasInterior, HasViews, HasWhole, IsPlace, from_guard}
use Rattle.guard_fill.specs.Guarding.{LeavesGuardedOf}
use Rattle.guard_fill.specs.Restricting.{IsGroupOf}
use Rattle.rank_world.specs.Holding.{IsLeafNode, IsOfMesh, cell_array, edge_array, face_array}

-- a block index that is no guard's stands behind the guards
place_is : (g i : ℕ) → place_of g (pos i) ≡ g + i
place_is g i = omega (arith, ints)

-- a place of a block's faces, and of its edges
face_place : (a : Axis) (n i j k : ℕ) → IsPlace n 0 (vars.Face a) i j k → (i < longer_on a X n) × (j < longer_on a Y n) × (k < longer_on a Z n)
face_place X n i j k place = (omega (arith, place.x), omega (arith, place.y), omega (arith, place.z))
face_place Y n i j k place = (omega (arith, place.x), omega (arith, place.y), omega (arith, place.z))
face_place Z n i j k place = (omega (arith, place.x), omega (arith, place.y), omega (arith, place.z))

edge_place : (a : Axis) (n i j k : ℕ) → IsPlace n 0 (vars.Edge a) i j k → (i < longer_across a X n) × (j < longer_across a Y n) × (k < longer_across a Z n)
edge_place X n i j k place = (omega (arith, place.x), omega (arith, place.y), omega (arith, place.z))
edge_place Y n i j k place = (omega (arith, place.x), omega (arith, place.y), omega (arith, place.z))
edge_place Z n i j k place = (omega (arith, place.x), omega (arith, place.y), omega (arith, place.z))

-- the places of an array along the axes, guards included
extents_are : (n g : ℕ) (v : Var) → ((extents_of n g v).x ≡ places_along n v X + 2 * g) × ((extents_of n g v).y ≡ places_along n v Y + 2 * g) × ((extents_of n g v).z ≡ places_along n v Z + 2 * g)
extents_are n g (vars.Cell v) = (omega arith, omega arith, omega arith)
extents_are n g (vars.Face X) = (omega arith, omega arith, omega arith)
extents_are n g (vars.Face Y) = (omega arith, omega arith, omega arith)
extents_are n g (vars.Face Z) = (omega arith, omega arith, omega arith)
extents_are n g (vars.Edge X) = (omega arith, omega arith, omega arith)
extents_are n g (vars.Edge Y) = (omega arith, omega arith, omega arith)
extents_are n g (vars.Edge Z) = (omega arith, omega arith, omega arith)
extents_are n g vars.CellWork = (omega arith, omega arith, omega arith)
extents_are n g (vars.FaceWork X) = (omega arith, omega arith, omega arith)
extents_are n g (vars.FaceWork Y) = (omega arith, omega arith, omega arith)
extents_are n g (vars.FaceWork Z) = (omega arith, omega arith, omega arith)
extents_are n g (vars.EdgeWork X) = (omega arith, omega arith, omega arith)
extents_are n g (vars.EdgeWork Y) = (omega arith, omega arith, omega arith)
extents_are n g (vars.EdgeWork Z) = (omega arith, omega arith, omega arith)

-- block indices of interior places, and of places counted from the first guard on
interior_index : (g many i : ℕ) → g + i < many → IsIndex g many (pos i)
interior_index g many i h = record { from_first = omega (arith, ints); inside = omega (arith, ints, h) }

whole_index : (g h many i : ℕ) → g ≡ h → i < many → IsIndex g many (from_guard h i)
whole_index g h many i same less = record { from_first = omega (arith, ints, same); inside = omega (arith, ints, same, less) }

module _ (n g : ℕ) (w : WorldState) (fit : IsFit n g w) (m : Mesh) (grid : w.told.grid ≡ m.grid) where
  cells_are : n ≡ m.grid.shape.n
  cells_are = sym fit.sizes.cells ∙ ap (λ (h : Grid). h.shape.n) grid

  guards_are : g ≡ m.grid.shape.g
  guards_are = sym fit.sizes.guards ∙ ap (λ (h : Grid). h.shape.g) grid

  sizes_are : (v : Var) → extents_of n g v ≡ extents_of m.grid.shape.n m.grid.shape.g v
  sizes_are v = ap₂ (λ p q. extents_of p q v) cells_are guards_are

  -- the number at block indices is the one at the place behind the guards
  number_is : (v : Var) (xs : List ℤ) (i j k : ℕ) →
      number_of g (extents_of n g v) xs (pos i) (pos j) (pos k) ≡ number_at (extents_of m.grid.shape.n m.grid.shape.g v) xs (m.grid.shape.g + i) (m.grid.shape.g + j) (m.grid.shape.g + k)
  number_is v xs i j k =
      let at : ℕ → ℕ → ℕ → ℤ = number_at (extents_of m.grid.shape.n m.grid.shape.g v) xs in
      ap (λ e. number_of g e xs (pos i) (pos j) (pos k)) (sizes_are v)
      ∙ ap (λ p. at p (place_of g (pos j)) (place_of g (pos k))) (place_is g i ∙ ap (λ d. d + i) guards_are)
      ∙ ap₂ (λ p q. at (m.grid.shape.g + i) p q) (place_is g j ∙ ap (λ d. d + j) guards_are) (place_is g k ∙ ap (λ d. d + k) guards_are)

  -- a place counted from the first guard on stands where it says
  guard_is : (i : ℕ) → place_of g (pos i -ℤ pos m.grid.shape.g) ≡ i
  guard_is i = let same = guards_are in omega (arith, ints, same)

  pub guard_number_is : (v : Var) (xs : List ℤ) (i j k : ℕ) → let h = m.grid.shape.g in
      number_of g (extents_of n g v) xs (pos i -ℤ pos h) (pos j -ℤ pos h) (pos k -ℤ pos h) ≡ number_at (extents_of m.grid.shape.n h v) xs i j k
  guard_number_is v xs i j k =
      let h = m.grid.shape.g in
      let at : ℕ → ℕ → ℕ → ℤ = number_at (extents_of m.grid.shape.n h v) xs in
      ap (λ e. number_of g e xs (pos i -ℤ pos h) (pos j -ℤ pos h) (pos k -ℤ pos h)) (sizes_are v)
      ∙ ap (λ p. at p (place_of g (pos j -ℤ pos h)) (place_of g (pos k -ℤ pos h))) (guard_is i) ∙ ap₂ (λ p q. at i p q) (guard_is j) (guard_is k)

  leaf_there : (node : ℕ) → IsNode m.grid node → is_leaf_block m.grid (block_at m.grid node) ≡ true → IsLeafNode w.told.grid node
  leaf_there node is leaf = record { there = subst (λ h. IsNode h node) (sym grid) is; leaf = subst (λ h. is_leaf_block h (block_at h node) ≡ true) (sym grid) leaf }

module _ (n g : ℕ) (w : WorldState) (fit : IsFit n g w) where
  abbrev pub number_there : Var → ℕ → ℤ → ℤ → ℤ → ℤ
  number_there v node i j k = number_of g (extents_of n g v) (array_in (rank_at w 0).own.values v node) i j k

  -- what stands at the interior places of leaves is what the mesh has there
  pub views_there : (m : Mesh) → IsOfMesh w m → ValidMesh m → (group : Group) → IsGroupOf w.told.counts group → HasViews number_there m group
  views_there m of valid (Cell var) there = record {
    each = λ node is leaf a i j k place.
        let b = block_at m.grid node in
        let c = in_block m.grid.shape.n b i j k in
        let x : i < m.grid.shape.n = omega (arith, place.x) in
        let y : j < m.grid.shape.n = omega (arith, place.y) in
        let z : k < m.grid.shape.n = omega (arith, place.z) in
        let here : is_leaf m.grid c ≡ true = ap (is_leaf_block m.grid) (block_of_cell m.grid.shape.n b i j k x y z) ∙ leaf in
        let held = subst (λ h. HoldsViews h (m.cells var) (block_at h node) (cells_of h (cell_array w var node))) of.grid (of.contents var there node (leaf_there n g w fit m of.grid node is leaf)) in
        number_is n g w fit m of.grid (vars.Cell var) (cell_array w var node) i j k ∙ held.at i j k x y z ∙ view_leaf m.grid (m.cells var) c (leaf_whole m.grid valid.grid c here) here;
  }
  views_there m of valid Face there = record {
    each = λ node is leaf a i j k place.
        let held = subst (λ h. HoldsFaces h m.faces a (block_at h node) (faces_in h a (face_array w a node))) of.grid (of.on_faces there node (leaf_there n g w fit m of.grid node is leaf) a) in
        let inside = face_place a m.grid.shape.n i j k place in
        number_is n g w fit m of.grid (vars.Face a) (face_array w a node) i j k ∙ held.at i j k inside.0 inside.1 inside.2;
  }
  views_there m of valid Edge there = record {
    each = λ node is leaf a i j k place.
        let held = subst (λ h. HoldsEdges h m.edges a (block_at h node) (edges_in h a (edge_array false w a node))) of.grid (of.on_edges there node (leaf_there n g w fit m of.grid node is leaf) a) in
        let inside = edge_place a m.grid.shape.n i j k place in
        number_is n g w fit m of.grid (vars.Edge a) (edge_array false w a node) i j k ∙ held.at i j k inside.0 inside.1 inside.2;
  }

  -- and on all places of a leaf that has its guards, the guard values
  pub guards_there : (m : Mesh) → w.told.grid ≡ m.grid → (group : Group) → LeavesGuardedOf w group (field_of m group) → (node : ℕ) → IsNode m.grid node → is_leaf_block m.grid (block_at m.grid node) ≡ true →
      HasGuardValues number_there m group node
  guards_there m grid (Cell var) guarded node is leaf = record {
    each = λ a i j k place.
        let held = subst (λ r. HoldsGuards r (m.cells var) (block_at r node) (cells_of r (cell_array w var node))) grid (guarded node (leaf_there n g w fit m grid node is leaf)) in
        guard_number_is n g w fit m grid (vars.Cell var) (cell_array w var node) i j k ∙ held.at i j k (omega (arith, place.x)) (omega (arith, place.y)) (omega (arith, place.z));
  }
  guards_there m grid Face guarded node is leaf = record {
    each = λ a i j k place.
        let held = subst (λ r. HoldsFaceGuards r m.faces a (block_at r node) (faces_in r a (face_array w a node))) grid (guarded node a (leaf_there n g w fit m grid node is leaf)) in
        let many = extents_are m.grid.shape.n m.grid.shape.g (vars.Face a) in
        guard_number_is n g w fit m grid (vars.Face a) (face_array w a node) i j k
        ∙ held.at i j k (let l = place.x in let x = many.0 in omega (arith, l, x)) (let l = place.y in let y = many.1 in omega (arith, l, y)) (let l = place.z in let z = many.2 in omega (arith, l, z));
  }
  guards_there m grid Edge guarded node is leaf = record {
    each = λ a i j k place.
        let held = subst (λ r. HoldsEdgeGuards r m.edges a (block_at r node) (edges_in r a (edge_array false w a node))) grid (guarded node a (leaf_there n g w fit m grid node is leaf)) in
        let many = extents_are m.grid.shape.n m.grid.shape.g (vars.Edge a) in
        guard_number_is n g w fit m grid (vars.Edge a) (edge_array false w a node) i j k
        ∙ held.at i j k (let l = place.x in let x = many.0 in omega (arith, l, x)) (let l = place.y in let y = many.1 in omega (arith, l, y)) (let l = place.z in let z = many.2 in omega (arith, l, z));
  }

  -- ---- and it is there

  abbrev pub is_there : Var → ℕ → ℤ → ℤ → ℤ → Type 0
  is_there v node i j k = HasArray (rank_at w 0).own.values v node × AreIndices g (extents_of n g v) i j k

  declared_there : (group : Group) (a : Axis) → IsGroupOf w.told.counts group → HasVar w.told.counts (array_on group a)
  declared_there (Cell v) a there = there
  declared_there Face a there = there
  declared_there Edge a there = there

  pub interior_there : (h : Grid) → h ≡ w.told.grid → (group : Group) → IsGroupOf w.told.counts group → HasInterior is_there h group
  interior_there h same group there = record {
    each = λ node is leaf a i j k place.
        let v = array_on group a in
        let many = extents_are n g v in
        let cells : h.shape.n ≡ n = ap (λ (r : Grid). r.shape.n) same ∙ fit.sizes.cells in
        let inside : IsPlace n 0 v i j k = subst (λ m. IsPlace m 0 v i j k) cells place in (
          has_array n g w v node fit (subst (λ r. IsNode r node) same is) (declared_there group a there),
          record {
            x = interior_index g (extents_of n g v).x i (let l = inside.x in let m = many.0 in omega (arith, l, m));
            y = interior_index g (extents_of n g v).y j (let l = inside.y in let m = many.1 in omega (arith, l, m));
            z = interior_index g (extents_of n g v).z k (let l = inside.z in let m = many.2 in omega (arith, l, m));
          },
        );
  }

  pub whole_there : (h : Grid) → h ≡ w.told.grid → (group : Group) → IsGroupOf w.told.counts group → (node : ℕ) → IsNode h node → HasWhole is_there h group node
  whole_there h same group there node is = record {
    each = λ a i j k place.
        let v = array_on group a in
        let many = extents_are n g v in
        let cells : h.shape.n ≡ n = ap (λ (r : Grid). r.shape.n) same ∙ fit.sizes.cells in
        let guards : h.shape.g ≡ g = ap (λ (r : Grid). r.shape.g) same ∙ fit.sizes.guards in
        let inside : IsPlace n g v i j k = subst (λ m. IsPlace m g v i j k) cells (subst (λ m. IsPlace h.shape.n m v i j k) guards place) in (
          has_array n g w v node fit (subst (λ r. IsNode r node) same is) (declared_there group a there),
          record {
            x = whole_index g h.shape.g (extents_of n g v).x i (sym guards) (let l = inside.x in let m = many.0 in omega (arith, l, m));
            y = whole_index g h.shape.g (extents_of n g v).y j (sym guards) (let l = inside.y in let m = many.1 in omega (arith, l, m));
            z = whole_index g h.shape.g (extents_of n g v).z k (sym guards) (let l = inside.z in let m = many.2 in omega (arith, l, m));
          },
        );
  }
