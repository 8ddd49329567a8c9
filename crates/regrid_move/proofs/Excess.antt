-- The first number of the regridded mesh that is out of range is the first that is moved.
use Rattle.std.proofs.Common.{◌≡◌, ℕ, zero, suc, ◌+◌, ◌<◌, ◌^◌, Bool, true, false, List, [], ◌∷◌, map, length, ℤ, pos, Option, Some, None, refl, sym, ap, ap₂, ◌∙◌, arith}
use Rattle.std.specs.Prelude.{if◌then◌else◌, ◌&&◌, find, flat_map, unsigned_abs}
use Rattle.std.specs.List.{range_with_len}
use Rattle.std.specs.Option.{option_or, option_map}
use Rattle.std.proofs.lemmas.Bool.{ltb-true}
use Rattle.amr_num.specs.Numbers.{Within}
use Rattle.amr_num.specs.declared.Axis.{Axis}
use Rattle.amr_num.specs.declared.Axis.TheVariants.{X, Y, Z}
use Rattle.amr_num.specs.declared.BlockAt.{BlockAt}
use Rattle.amr_num.specs.declared.CellAt.{CellAt}
use Rattle.amr_num.specs.declared.EdgeAt.{EdgeAt}
use Rattle.amr_num.specs.declared.FaceAt.{FaceAt}
use Rattle.mesh_model.specs.Fields.ArrayPlaces.{Extents}
use Rattle.mesh_model.specs.Fields.Firsts.{first_below, first_in_places}
use Rattle.mesh_model.specs.Tree.Order.{nodes}
use Rattle.mesh_model.specs.Tree.Kinds.{Grid, is_leaf, is_leaf_block, is_leaf_edge, is_leaf_face}
use Rattle.mesh_model.specs.Fields.Plain.{marked, Mesh}
use Rattle.mesh_model.specs.Geometry.Canonical.{canonical_edge, canonical_face, canonical_on, is_canonical, is_canonical_edge}
use Rattle.mesh_model.specs.Geometry.Coordinates.{edge_of, face_of}
use Rattle.mesh_model.specs.Geometry.Places.{block_cells, block_edges, block_faces, in_block, longer_across, longer_on}
use Rattle.mesh_model.specs.Fields.RangeWalk.{cell_above, edge_above, edges_walked, face_above, faces_walked, first_cell_above, first_excess, first_of_all, is_above, out_above, variables}
use Rattle.mesh_model.specs.Tree.Regrown.{new_grid}
use Rattle.mesh_model.specs.Fields.Regrid.{regrid}
use Rattle.mesh_model.specs.Tree.ValidGrid.{Valid}
use Rattle.mesh_model.specs.Fields.Valid.{ValidMesh}
use Rattle.mesh_model.specs.Fields.Views.{cell_view, edge_view, face_view}
use Rattle.mesh_model.specs.declared.fields.spot.RangeStop.{RangeStop}
use Rattle.mesh_model.specs.declared.fields.values.Group.TheVariants as groups
use Rattle.mesh_model.specs.declared.fields.spot.Spot.TheVariants as spots
use Rattle.mesh_model.proofs.FieldLemmas.BlockOctants.{block_of_cell}
use Rattle.mesh_model.proofs.FieldLemmas.FirstFound.{box_mapped, box_same, first_mapped, first_same, found_in_box}
use Rattle.mesh_model.proofs.TreeLemmas.Tests.{refuted}
use Rattle.mesh_model.proofs.TreeLemmas.Tiling.{leaf_says}
use Rattle.mesh_model.proofs.FieldLemmas.ZeroViews.{no_edge_views, no_face_views}
use Rattle.block_tree.specs.Directions.{edge_name}
use Rattle.block_tree.specs.Numbered.{block_at, block_in}
use Rattle.block_tree.proofs.Leaves.{leaves_are}
use Rattle.rank_world.specs.EdgeRange.{edge_above_at}
use Rattle.rank_world.specs.FaceRange.{face_above_at}
use Rattle.rank_world.proofs.FaceBlocks.{leaf_face_seen}
use Rattle.rank_world.proofs.Walked.{first_front, found_filtered}
use Rattle.regrid_move.specs.AxisMoves.{edge_range, edges_stop, face_range, faces_stop}
use Rattle.regrid_move.specs.Near.{block_stop, node_stop, variable_stop, view_stop}
use Rattle.regrid_move.specs.Regrids.{first_moved_excess}
use Rattle.leaf_split.proofs.EdgeViews.{edge_canonical}
use Rattle.regrid_move.proofs.Walks.{found_mapped, mapped_if, none_first, walked_same}

-- ---- the first of some

first_all : (a n : ℕ) (at : ℕ → Option RangeStop) → first_of_all at (range_with_len a n) ≡ first_below n (λ k. at (a + k))
first_all a zero at = refl
first_all a (suc n) at =
    let here : a ≡ a + zero = omega arith in
    ap₂ (λ p q. option_or p q) (ap at here) (first_all (a + 1) n at ∙ first_same n (λ k. at (a + 1 + k)) (λ k. at (a + suc k)) (λ k h. ap at (omega arith)))
    ∙ sym (first_front n (λ k. at (a + k)))

-- ---- what is found

find_none : {A : Type 0} (p : A → Bool) → ((x : A) → p x ≡ false) → (xs : List A) → find p xs ≡ None
find_none p none [] = refl
find_none p none (x ∷ xs) = ap (λ (t : Bool). if t then Some x else find p xs) (none x) ∙ find_none p none xs

module _ (m : Mesh) (valid : Valid (new_grid (marked m))) (v : ℕ) where
  above : CellAt → Bool
  above c = is_above (2 ^ 40) ((regrid m).cells v c)

  cell_same : (c : CellAt) → is_leaf (new_grid (marked m)) c ≡ true → option_map (cell_above (regrid m) v) (if above c then Some c else None) ≡ view_stop m.grid (m.cells v) v c
  unfolding above
  cell_same c leaf =
      let content : (regrid m).cells v c ≡ cell_view m.grid (m.cells v) c = ap (λ t. if t then cell_view m.grid (m.cells v) c else pos 0) leaf in
      mapped_if (cell_above (regrid m) v) (is_above (2 ^ 40) ((regrid m).cells v c)) c
      ∙ ap (λ (w : ℤ). if is_above (2 ^ 40) w then Some (record { var = groups.Cell v; spot = spots.Cell c; value = w }) else None) content

  block_same : (b : BlockAt) → is_leaf_block (new_grid (marked m)) b ≡ true → option_map (cell_above (regrid m) v) (find above (block_cells m.grid.shape.n b)) ≡ block_stop m.grid (m.cells v) v b
  block_same b leaf =
      ap (option_map (cell_above (regrid m) v)) (found_in_box above (in_block m.grid.shape.n b) m.grid.shape.n)
      ∙ box_mapped (cell_above (regrid m) v) m.grid.shape.n (λ i j k. if above (in_block m.grid.shape.n b i j k) then Some (in_block m.grid.shape.n b i j k) else None)
      ∙ box_same m.grid.shape.n (λ i j k. option_map (cell_above (regrid m) v) (if above (in_block m.grid.shape.n b i j k) then Some (in_block m.grid.shape.n b i j k) else None))
      (λ i j k. view_stop m.grid (m.cells v) v (in_block m.grid.shape.n b i j k))
      (λ i j k hi hj hk. cell_same (in_block m.grid.shape.n b i j k) (ap (is_leaf_block (new_grid (marked m))) (block_of_cell m.grid.shape.n b i j k hi hj hk) ∙ leaf))

  node_same : (t : Bool) (b : BlockAt) → is_leaf_block (new_grid (marked m)) b ≡ t →
      option_map (cell_above (regrid m) v) (if t then find above (block_cells m.grid.shape.n b) else None) ≡ (if t then block_stop m.grid (m.cells v) v b else None)
  node_same true b is = block_same b is
  node_same false b is = refl

  variable_same : first_cell_above (regrid m) v ≡ variable_stop m.grid (new_grid (marked m)) (m.cells v) v
  unfolding above block_at
  variable_same =
      let g = new_grid (marked m) in
      let at = λ (k : ℕ). if is_leaf_block g (block_in (nodes g.leaves) k) then find above (block_cells m.grid.shape.n (block_in (nodes g.leaves) k)) else None in
      ap (option_map (cell_above (regrid m) v)) (ap (λ ls. find above (flat_map (block_cells m.grid.shape.n) ls)) (sym (leaves_are g valid)) ∙ found_filtered above (block_cells m.grid.shape.n) (is_leaf_block g) (nodes g.leaves))
      ∙ first_mapped (cell_above (regrid m) v) (length (nodes g.leaves)) at
      ∙ first_same (length (nodes g.leaves)) (λ k. option_map (cell_above (regrid m) v) (at k)) (node_stop m.grid g (m.cells v) v)
      (λ k h. node_same (is_leaf_block g (block_in (nodes g.leaves) k)) (block_in (nodes g.leaves) k) refl)

-- ---- the others

inside_none : (most : ℕ) (z : ℤ) → Within most z → is_above most z ≡ false
inside_none most z within = refuted _ (λ t. let more = ltb-true most (unsigned_abs z) t in omega arith)

not_above : (t : Bool) (z : ℤ) → z ≡ pos 0 → (t && is_above (2 ^ 40) z) ≡ false
not_above true z is = ap (is_above (2 ^ 40)) is
not_above false z is = refl

plain : (k : ℕ) → 0 + k ≡ k
plain k = omega arith

-- ---- the faces and the edges

-- a number by its name: told where it is that of a leaf one and out of range
one_told : {T R : Type 0} (told : T → RangeStop) (range : R → RangeStop) (leaf : Bool) (t : T) (r : R) (new old : ℤ) → (leaf ≡ true → told t ≡ range r) → (leaf ≡ true → new ≡ old) →
    option_map told (if leaf && is_above (2 ^ 40) new then Some t else None) ≡ option_map range (if leaf && is_above (2 ^ 40) old then Some r else None)
one_told told range true t r new old same number =
    mapped_if told (is_above (2 ^ 40) new) t ∙ ap₂ (λ u (w : ℤ). if is_above (2 ^ 40) w then Some u else None) (same refl) (number refl) ∙ sym (mapped_if range (is_above (2 ^ 40) old) r)
one_told told range false t r new old same number = refl

module _ (m : Mesh) where
  abbrev g : Grid
  g = new_grid (marked m)

  n : ℕ
  n = m.grid.shape.n

  abbrev is_face_above : FaceAt → Bool
  is_face_above f = is_leaf_face (new_grid (marked m)) f && is_above (2 ^ 40) ((regrid m).faces f)

  abbrev is_edge_above : EdgeAt → Bool
  is_edge_above e = is_leaf_edge (new_grid (marked m)) e && is_above (2 ^ 40) ((regrid m).edges e)

  abbrev faces_at : BlockAt → Axis → List FaceAt
  faces_at b a = map (canonical_face m.grid.shape) (block_faces m.grid.shape.n b a)

  abbrev edges_at : BlockAt → Axis → List EdgeAt
  edges_at b a = map (canonical_edge m.grid.shape) (block_edges m.grid.shape.n b a)

  abbrev many_faces : Axis → Extents
  many_faces a = record { x = longer_on a X m.grid.shape.n; y = longer_on a Y m.grid.shape.n; z = longer_on a Z m.grid.shape.n }

  abbrev many_edges : Axis → Extents
  many_edges a = record { x = longer_across a X m.grid.shape.n; y = longer_across a Y m.grid.shape.n; z = longer_across a Z m.grid.shape.n }

  abbrev face_name : BlockAt → Axis → ℕ → ℕ → ℕ → FaceAt
  face_name b a i j k = face_of a (canonical_on m.grid.shape a (in_block m.grid.shape.n b i j k))

  abbrev name_of : BlockAt → Axis → ℕ → ℕ → ℕ → EdgeAt
  name_of b a i j k = edge_name m.grid.shape a b i j k

  more : suc m.grid.shape.n ≡ m.grid.shape.n + 1
  more = omega arith

  faces_listed : (b : BlockAt) (a : Axis) → find is_face_above (faces_at b a) ≡ first_in_places (many_faces a).x (many_faces a).y (many_faces a).z (λ i j k. if is_face_above (face_name b a i j k) then Some (face_name b a i j k) else None)
  faces_listed b X =
      let n = m.grid.shape.n in
      found_mapped is_face_above (canonical_face m.grid.shape) (λ i j k. face_of X (in_block n b i j k)) (suc n) n n
      ∙ ap (λ u. first_in_places u n n (λ i j k. if is_face_above (face_name b X i j k) then Some (face_name b X i j k) else None)) more
  faces_listed b Y =
      let n = m.grid.shape.n in
      found_mapped is_face_above (canonical_face m.grid.shape) (λ i j k. face_of Y (in_block n b i j k)) n (suc n) n
      ∙ ap (λ u. first_in_places n u n (λ i j k. if is_face_above (face_name b Y i j k) then Some (face_name b Y i j k) else None)) more
  faces_listed b Z =
      let n = m.grid.shape.n in
      found_mapped is_face_above (canonical_face m.grid.shape) (λ i j k. face_of Z (in_block n b i j k)) n n (suc n)
      ∙ ap (λ u. first_in_places n n u (λ i j k. if is_face_above (face_name b Z i j k) then Some (face_name b Z i j k) else None)) more

  edges_listed : (b : BlockAt) (a : Axis) → find is_edge_above (edges_at b a) ≡ first_in_places (many_edges a).x (many_edges a).y (many_edges a).z (λ i j k. if is_edge_above (name_of b a i j k) then Some (name_of b a i j k) else None)
  edges_listed b X =
      let n = m.grid.shape.n in
      found_mapped is_edge_above (canonical_edge m.grid.shape) (λ i j k. edge_of X (in_block n b i j k)) n (suc n) (suc n)
      ∙ ap₂ (λ u v. first_in_places n u v (λ i j k. if is_edge_above (name_of b X i j k) then Some (name_of b X i j k) else None)) more more
  edges_listed b Y =
      let n = m.grid.shape.n in
      found_mapped is_edge_above (canonical_edge m.grid.shape) (λ i j k. edge_of Y (in_block n b i j k)) (suc n) n (suc n)
      ∙ ap₂ (λ u v. first_in_places u n v (λ i j k. if is_edge_above (name_of b Y i j k) then Some (name_of b Y i j k) else None)) more more
  edges_listed b Z =
      let n = m.grid.shape.n in
      found_mapped is_edge_above (canonical_edge m.grid.shape) (λ i j k. edge_of Z (in_block n b i j k)) (suc n) (suc n) n
      ∙ ap₂ (λ u v. first_in_places u v n (λ i j k. if is_edge_above (name_of b Z i j k) then Some (name_of b Z i j k) else None)) more more

  module _ (valid : Valid (new_grid (marked m))) where
    face_same : (b : BlockAt) → is_leaf_block (new_grid (marked m)) b ≡ true → (a : Axis) (i j k : ℕ) → i < (many_faces a).x → j < (many_faces a).y → k < (many_faces a).z →
        option_map (face_above (regrid m)) (if is_face_above (face_name b a i j k) then Some (face_name b a i j k) else None) ≡ option_map face_range (face_above_at (new_grid (marked m)) (face_view m.grid m.faces) (face_name b a i j k))
    face_same b leaf a i j k hi hj hk =
        let f = face_name b a i j k in
        let canonical : is_canonical m.grid.shape f ≡ true = (leaf_face_seen (new_grid (marked m)) valid a b leaf i j k hi hj hk).canonical in
        let number = λ (t : is_leaf_face (new_grid (marked m)) f ≡ true). ap (λ t. if t then face_view m.grid m.faces f else pos 0) (ap₂ (λ s t. s && t) canonical t) in
        one_told (face_above (regrid m)) face_range (is_leaf_face (new_grid (marked m)) f) f (record { face = f; value = face_view m.grid m.faces f }) ((regrid m).faces f) (face_view m.grid m.faces f)
        (λ t. ap (λ (w : ℤ). record { var = groups.Face; spot = spots.Face f; value = w }) (number t)) number

    edge_same : (b : BlockAt) → is_leaf_block (new_grid (marked m)) b ≡ true → (a : Axis) (i j k : ℕ) → i < (many_edges a).x → j < (many_edges a).y → k < (many_edges a).z →
        option_map (edge_above (regrid m)) (if is_edge_above (name_of b a i j k) then Some (name_of b a i j k) else None) ≡ option_map edge_range (edge_above_at (new_grid (marked m)) (edge_view m.grid m.edges) (name_of b a i j k))
    edge_same b leaf a i j k hi hj hk =
        let e = name_of b a i j k in
        let inside = valid.tiles.inside b (leaf_says (new_grid (marked m)) b leaf) in
        let canonical : is_canonical_edge m.grid.shape e ≡ true = edge_canonical m.grid.shape b valid.shape.cells inside a i j k hi hj hk in
        let number = λ (t : is_leaf_edge (new_grid (marked m)) e ≡ true). ap (λ t. if t then edge_view m.grid m.edges e else pos 0) (ap₂ (λ s t. s && t) canonical t) in
        one_told (edge_above (regrid m)) edge_range (is_leaf_edge (new_grid (marked m)) e) e (record { edge = e; value = edge_view m.grid m.edges e }) ((regrid m).edges e) (edge_view m.grid m.edges e)
        (λ t. ap (λ (w : ℤ). record { var = groups.Edge; spot = spots.Edge e; value = w }) (number t)) number

    faces_same : option_map (face_above (regrid m)) (find is_face_above (faces_walked (new_grid (marked m)))) ≡ faces_stop m.grid (new_grid (marked m)) m.faces (length (nodes (new_grid (marked m)).leaves))
    faces_same =
        walked_same is_face_above (face_above (regrid m)) face_range (face_above_at (new_grid (marked m)) (face_view m.grid m.faces)) faces_at many_faces face_name (new_grid (marked m)) valid faces_listed face_same

    edges_same : option_map (edge_above (regrid m)) (find is_edge_above (edges_walked (new_grid (marked m)))) ≡ edges_stop m.grid (new_grid (marked m)) m.edges (length (nodes (new_grid (marked m)).leaves))
    edges_same =
        walked_same is_edge_above (edge_above (regrid m)) edge_range (edge_above_at (new_grid (marked m)) (edge_view m.grid m.edges)) edges_at many_edges name_of (new_grid (marked m)) valid edges_listed edge_same

-- where a variable is not declared nothing of it is out of range
off_none : {A : Type 0} (t : Bool) (x : A) → t ≡ false → (if t then Some x else None) ≡ None
off_none true x is = cc
off_none false x is = refl

module _ (m : Mesh) (count : ℕ) where
  pub no_faces_stop : ((f : FaceAt) → m.faces f ≡ pos 0) → faces_stop m.grid (new_grid (marked m)) m.faces count ≡ None
  no_faces_stop zeros =
      none_first (is_face_above m) (face_above (regrid m)) face_range (face_above_at (new_grid (marked m)) (face_view m.grid m.faces)) (faces_at m) (many_faces m) (face_name m) (new_grid (marked m))
      (λ f. off_none _ (record { face = f; value = face_view m.grid m.faces f }) (not_above (is_leaf_face (new_grid (marked m)) f) (face_view m.grid m.faces f) (no_face_views m.grid m.faces zeros f))) count

  pub no_edges_stop : ((e : EdgeAt) → m.edges e ≡ pos 0) → edges_stop m.grid (new_grid (marked m)) m.edges count ≡ None
  no_edges_stop zeros =
      none_first (is_edge_above m) (edge_above (regrid m)) edge_range (edge_above_at (new_grid (marked m)) (edge_view m.grid m.edges)) (edges_at m) (many_edges m) (name_of m) (new_grid (marked m))
      (λ e. off_none _ (record { edge = e; value = edge_view m.grid m.edges e }) (not_above (is_leaf_edge (new_grid (marked m)) e) (edge_view m.grid m.edges e) (no_edge_views m.grid m.edges zeros e))) count

pub excess_is : (m : Mesh) → ValidMesh m → Valid (new_grid (marked m)) → first_excess (regrid m) ≡ first_moved_excess m
unfolding first_excess
excess_is m mesh valid =
    let g = new_grid (marked m) in
    let count = length m.names.cells in
    let cells = first_all 0 count (first_cell_above (regrid m)) ∙ first_same count (λ k. first_cell_above (regrid m) (0 + k)) (λ w. variable_stop m.grid g (m.cells w) w) (λ k h. ap (first_cell_above (regrid m)) (plain k) ∙ variable_same m valid k) in
    let outs = find_none (λ w. is_above (2 ^ 100) (m.outs w)) (λ w. inside_none (2 ^ 100) (m.outs w) (mesh.range.outs w)) (variables m) in
    ap₂ (λ p q. option_or p q) cells
    (ap₂ (λ p q. option_or p q) (ap (option_map (out_above (regrid m))) outs) (ap₂ (λ p q. option_or p q) (faces_same m valid) (edges_same m valid)))
