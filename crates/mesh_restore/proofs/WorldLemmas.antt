-- Worlds all of whose leaves are filled.
use Rattle.std.proofs.Common.{◌≡◌, ℕ, zero, suc, ◌+◌, ◌<◌, ◌≤◌, ◌^◌, ◌↔◌, ◌⊎◌, Bool, true, false, None, Some, Option, is_some, List, [], ◌∷◌, length, map, get_or, ℤ, pos, zero-add, refl, sym, ap, subst, ◌∙◌, arith, inl, inr, if◌then◌else◌}
use Rattle.std.specs.List.{range_with_len}
use Rattle.std.specs.Global.{Vec}
use Rattle.std.proofs.lemmas.Bool.{cases_lt}
use Rattle.std.proofs.lemmas.List.{get_or_past, length-map}
use Rattle.std.proofs.lemmas.List.FromFn.{get_or-map-range_with_len, length-range_with_len}
use Rattle.amr_num.specs.Numbers.{Within}
use Rattle.amr_num.specs.declared.Axis.{Axis}
use Rattle.amr_num.specs.declared.Axis.TheVariants.{X, Y, Z}
use Rattle.amr_num.specs.declared.CellAt.{CellAt}
use Rattle.amr_num.specs.declared.EdgeAt.{EdgeAt}
use Rattle.amr_num.specs.declared.FaceAt.{FaceAt}
use Rattle.block_tree.specs.Interior.{array_on}
use Rattle.block_tree.specs.Numbered.{IsNode, block_at}
use Rattle.check_format.specs.Own.{place}
use Rattle.edge_average.specs.EdgeArrays.{EdgesWithin}
use Rattle.flux_conserve.specs.FaceArrays.{FacesWithin, OnlyFaces}
use Rattle.mesh_model.specs.declared.fields.values.Group.{Group}
use Rattle.mesh_model.specs.declared.fields.values.Group.TheVariants.{Cell, Edge, Face}
use Rattle.mesh_model.specs.declared.fields.values.Var.{Var}
use Rattle.mesh_model.specs.declared.fields.values.Var.TheVariants as vars
use Rattle.mesh_model.specs.Fields.ArrayPlaces.{HoldsFaces, HoldsViews, extents_of, number_at, place_in}
use Rattle.mesh_model.specs.Fields.FinePlaces.{faces_in}
use Rattle.mesh_model.specs.Fields.Octants.{cells_of}
use Rattle.mesh_model.specs.Fields.Plain.{Mesh}
use Rattle.mesh_model.specs.Fields.RangeWalk.{cells_walked}
use Rattle.mesh_model.specs.Fields.Valid.{ValidMesh}
use Rattle.mesh_model.specs.Images.Image.{edge_places, face_places, leaf_edges, leaf_faces}
use Rattle.mesh_model.specs.Fields.Arrays.{Counts, HasVar, array_in}
use Rattle.mesh_model.specs.Fields.Ranks.{AreZero, IsFit, Told, WorldState, rank_at}
use Rattle.mesh_model.specs.Tree.Kinds.{Grid, is_leaf, is_leaf_block}
use Rattle.mesh_model.specs.Tree.Order.{Sorted, nodes}
use Rattle.mesh_model.specs.Tree.ValidGrid.{Valid}
use Rattle.mesh_model.specs.Geometry.Places.{in_block}
use Rattle.mesh_model.proofs.FieldLemmas.BlockOctants.{block_of_cell}
use Rattle.mesh_model.proofs.FieldLemmas.CellSums.{view_leaf}
use Rattle.mesh_model.proofs.FieldLemmas.ValidGrid.{leaf_whole}
use Rattle.rank_world.specs.Holding.{IsLeafNode, IsOfMesh, LeafEdgesHold, LeafFacesHold, LeavesHold, LeavesHoldEdges, LeavesHoldFaces, OnlyAxes, OnlyLeafAxes, edge_var}
use Rattle.rank_world.specs.Starting.{IsNewWorld}
use Rattle.rank_world.proofs.Puts.{zero_small}
use Rattle.mesh_restore.specs.Filling.{AreWithin, ArraysWithin, HaveAll, IsFilled, Wanted, number_in}
use Rattle.mesh_restore.specs.Restoring.{IsStoredOf, OnlyCellArrays, list_at}
use Rattle.mesh_restore.proofs.GroupNumbers.{cells_listed, cells_shared, edges_listed, edges_shared, faces_listed, faces_shared, wanted_cells, wanted_edges, wanted_faces}

-- ---- what leaves have

-- all numbers that are wanted stand in the arrays of a world's own grid
abbrev pub AllHave : Group → (Grid → Wanted) → WorldState → Type 0
AllHave group v w = HaveAll w.told.grid group (v w.told.grid) w (length (nodes w.told.grid.leaves))

module _ (w : WorldState) where
  pub faces_hold : (field : FaceAt → ℤ) → AllHave Face (λ g. wanted_faces g field) w → LeafFacesHold w field
  faces_hold field all node a leaf = record {
    at = λ i j k hi hj hk t. (all a tt).at node leaf.there leaf (place i j k) (record { x = hi; y = hj; z = hk }) t;
  }

  pub edges_hold : (field : EdgeAt → ℤ) → AllHave Edge (λ g. wanted_edges g field) w → LeafEdgesHold false w field
  edges_hold field all node a leaf = record {
    at = λ i j k hi hj hk t. (all a tt).at node leaf.there leaf (place i j k) (record { x = hi; y = hj; z = hk }) t;
  }

  pub cells_hold : Valid w.told.grid → (v : ℕ) (field : CellAt → ℤ) → AllHave (Cell v) (λ g. wanted_cells g field) w → LeavesHold w v field
  cells_hold valid v field all node leaf = record {
    at = λ i j k hi hj hk.
        let g = w.told.grid in
        let b = block_at g node in
        let c = in_block g.shape.n b i j k in
        let is : is_leaf g c ≡ true = ap (is_leaf_block g) (block_of_cell g.shape.n b i j k hi hj hk) ∙ leaf.leaf in
        (all X refl).at node leaf.there leaf (place i j k) (record { x = hi; y = hj; z = hk }) refl
        ∙ sym (view_leaf g field c (leaf_whole g valid c is) is);
  }

  -- ---- small numbers

  more_within : (z : ℤ) → Within (2 ^ 40) z → Within (2 ^ 56) z
  more_within z small = omega arith

  pub faces_within : ArraysWithin w.told.grid Face (2 ^ 40) w → FacesWithin false w (2 ^ 56)
  faces_within small node a leaf = record { at = λ i j k hi hj hk. more_within (number_in w.told.grid w Face a node (place i j k)) (small.at node a (place i j k) leaf (record { x = hi; y = hj; z = hk })) }

  pub edges_within : ArraysWithin w.told.grid Edge (2 ^ 40) w → EdgesWithin false w (2 ^ 56)
  edges_within small node a leaf = record { at = λ i j k hi hj hk. more_within (number_in w.told.grid w Edge a node (place i j k)) (small.at node a (place i j k) leaf (record { x = hi; y = hj; z = hk })) }

-- the numbers of a new world are
pub zeros_within : (n g : ℕ) (w : WorldState) (group : Group) (most : ℕ) → IsFit n g w → AreZero n g (rank_at w 0).own.values → ((a : Axis) → HasVar w.told.counts (array_on group a)) → ArraysWithin w.told.grid group most w
zeros_within n g w group most fit zeros declared = record { at = λ node a p leaf inside. zero_small n g most w (array_on group a) node (place_in (extents_of w.told.grid.shape.n w.told.grid.shape.g (array_on group a)) (w.told.grid.shape.g + p.x) (w.told.grid.shape.g + p.y) (w.told.grid.shape.g + p.z)) fit zeros (declared a) leaf.there }

-- and stay so where the arrays stay
pub within_stays : (g : Grid) (group : Group) (most : ℕ) (old new : WorldState) → ((a : Axis) (node : ℕ) → array_in (rank_at new 0).own.values (array_on group a) node ≡ array_in (rank_at old 0).own.values (array_on group a) node) →
    ArraysWithin g group most old → ArraysWithin g group most new
within_stays g group most old new same small = record {
  at = λ node a p leaf inside. subst (λ xs. Within most (number_at (extents_of g.shape.n g.shape.g (array_on group a)) xs (g.shape.g + p.x) (g.shape.g + p.y) (g.shape.g + p.z))) (sym (same a node)) (small.at node a p leaf inside);
}

-- so those of a new world are small still when its cell variables are filled, and when its face variable is too
module _ (n g : ℕ) (grid : Grid) (counts : Counts) (new now : WorldState) (is : IsNewWorld n g grid counts new) (cells : OnlyCellArrays new now) where
  pub faces_small : 0 < now.told.counts.faces → ArraysWithin now.told.grid Face (2 ^ 40) now
  faces_small some =
      subst (λ (t : Told). ArraysWithin t.grid Face (2 ^ 40) now) (sym cells.told)
      (within_stays new.told.grid Face (2 ^ 40) new now (λ a node. cells.others (vars.Face a) node (λ v e. cc))
      (zeros_within n g new Face (2 ^ 40) is.fit is.zero (λ a. subst (λ (t : Told). 0 < t.counts.faces) cells.told some)))

  pub edges_small : (later : WorldState) → OnlyAxes (array_on Face) now later → 0 < later.told.counts.edges → ArraysWithin later.told.grid Edge (2 ^ 40) later
  edges_small later faces some =
      let told : later.told ≡ new.told = faces.told ∙ cells.told in
      subst (λ (t : Told). ArraysWithin t.grid Edge (2 ^ 40) later) (sym told)
      (within_stays new.told.grid Edge (2 ^ 40) new later (λ a node. faces.others (vars.Edge a) node (λ b e. cc) ∙ cells.others (vars.Edge a) node (λ v e. cc))
      (zeros_within n g new Edge (2 ^ 40) is.fit is.zero (λ a. subst (λ (t : Told). 0 < t.counts.edges) told some)))

-- ---- what stays where other arrays change

-- leaves that hold the contents of a cell variable
pub cells_stay : (old new : WorldState) (v : ℕ) (field : CellAt → ℤ) → new.told ≡ old.told → ((node : ℕ) → array_in (rank_at new 0).own.values (vars.Cell v) node ≡ array_in (rank_at old 0).own.values (vars.Cell v) node) →
    LeavesHold old v field → LeavesHold new v field
cells_stay old new v field told same holds node leaf =
    let here : IsLeafNode old.told.grid node = subst (λ (t : Told). IsLeafNode t.grid node) told leaf in
    subst (λ (t : Told). HoldsViews t.grid field (block_at t.grid node) (cells_of t.grid (array_in (rank_at new 0).own.values (vars.Cell v) node))) (sym told)
    (subst (λ xs. HoldsViews old.told.grid field (block_at old.told.grid node) (cells_of old.told.grid xs)) (sym (same node)) (holds node here))

-- leaves that hold the views of a field on faces
pub faces_stay : (old new : WorldState) (field : FaceAt → ℤ) → new.told ≡ old.told → ((a : Axis) (node : ℕ) → array_in (rank_at new 0).own.values (vars.Face a) node ≡ array_in (rank_at old 0).own.values (vars.Face a) node) →
    LeavesHoldFaces old field → LeavesHoldFaces new field
faces_stay old new field told same holds node leaf a =
    let here : IsLeafNode old.told.grid node = subst (λ (t : Told). IsLeafNode t.grid node) told leaf in
    subst (λ (t : Told). HoldsFaces t.grid field a (block_at t.grid node) (faces_in t.grid a (array_in (rank_at new 0).own.values (vars.Face a) node))) (sym told)
    (subst (λ xs. HoldsFaces old.told.grid field a (block_at old.told.grid node) (faces_in old.told.grid a xs)) (sym (same a node)) (holds node here a))

-- ---- a group is filled

module _ (old new : WorldState) (numbers : List ℤ) (valid : Valid old.told.grid) (order : Sorted old.told.grid.leaves) where
  pub filled_cells : (v : ℕ) (field : CellAt → ℤ) → IsFilled old.told.grid (Cell v) old new numbers → numbers ≡ map field (cells_walked old.told.grid) → LeavesHold new v field
  filled_cells v field is listed =
      let g = old.told.grid in
      let have = is.filled (wanted_cells g field) (cells_shared g valid order v field) (listed ∙ cells_listed g valid order v field) in
      cells_hold new (subst (λ (t : Told). Valid t.grid) (sym is.only.told) valid) v field
      (subst (λ (t : Told). HaveAll t.grid (Cell v) (wanted_cells t.grid field) new (length (nodes t.grid.leaves))) (sym is.only.told) have)

  pub filled_faces : (field : FaceAt → ℤ) → IsFilled old.told.grid Face old new numbers → numbers ≡ map field (leaf_faces old.told.grid) → LeafFacesHold new field
  filled_faces field is listed =
      let g = old.told.grid in
      let have = is.filled (wanted_faces g field) (faces_shared g valid order field) (listed ∙ faces_listed g valid order field) in
      faces_hold new field (subst (λ (t : Told). HaveAll t.grid Face (wanted_faces t.grid field) new (length (nodes t.grid.leaves))) (sym is.only.told) have)

  pub filled_edges : (field : EdgeAt → ℤ) → IsFilled old.told.grid Edge old new numbers → numbers ≡ map field (leaf_edges old.told.grid) → LeafEdgesHold false new field
  filled_edges field is listed =
      let g = old.told.grid in
      let have = is.filled (wanted_edges g field) (edges_shared g valid order field) (listed ∙ edges_listed g valid order field) in
      edges_hold new field (subst (λ (t : Told). HaveAll t.grid Edge (wanted_edges t.grid field) new (length (nodes t.grid.leaves))) (sym is.only.told) have)

-- with small numbers, they are small
pub small_after : (old new : WorldState) (group : Group) (numbers : List ℤ) → IsFilled old.told.grid group old new numbers → AreWithin (2 ^ 40) numbers → ArraysWithin old.told.grid group (2 ^ 40) old → ArraysWithin new.told.grid group (2 ^ 40) new
small_after old new group numbers is few small = subst (λ (t : Told). ArraysWithin t.grid group (2 ^ 40) new) (sym is.only.told) (is.within (2 ^ 40) few small)

-- only the faces change, and only the edges
pub only_faces : (old now new : WorldState) → OnlyAxes (array_on Face) old now → OnlyFaces false now new → OnlyAxes (array_on Face) old new
only_faces old now new one two = record { told = two.told ∙ one.told; others = λ u at none. two.others u at (λ a e leaf. none a e) ∙ one.others u at none }

pub only_edges : (old now new : WorldState) → OnlyAxes (array_on Edge) old now → OnlyLeafAxes (edge_var false) now new → OnlyAxes (array_on Edge) old new
only_edges old now new one two = record { told = two.told ∙ one.told; others = λ u at none. two.others u at (λ a e leaf. none a e) ∙ one.others u at none }

-- one cell variable more
abbrev cell_of : Var → ℕ
cell_of (vars.Cell v) = v
cell_of (vars.Face a) = 0
cell_of (vars.Edge a) = 0
cell_of vars.CellWork = 0
cell_of (vars.FaceWork a) = 0
cell_of (vars.EdgeWork a) = 0

abbrev pub HaveContents : WorldState → WorldState → List (Vec ℤ) → ℕ → Type 0
HaveContents old now cells many = (v : ℕ) (field : CellAt → ℤ) → v < many → list_at cells v ≡ map field (cells_walked old.told.grid) → LeavesHold now v field

module _ (old now new : WorldState) (cells : List (Vec ℤ)) (m : ℕ) (list : List ℤ) (is_list : list ≡ list_at cells m) (before : OnlyCellArrays old now) (is : IsFilled now.told.grid (Cell m) now new list) where
  pub only_cells : OnlyCellArrays old new
  only_cells = record { told = is.only.told ∙ before.told; others = λ u at none. is.only.others u at (λ a e. none m e) ∙ before.others u at none }

  pub contents_more : Valid old.told.grid → Sorted old.told.grid.leaves → HaveContents old now cells m → HaveContents old new cells (m + 1)
  contents_more valid order have v field few listed = elim (cases_lt v m) [
    | inl early ↦ cells_stay now new v field is.only.told (λ node. is.only.others (vars.Cell v) node (λ a e. let same = ap cell_of e in absurd (omega (arith, same, early)))) (have v field early listed)
    | inr late ↦
        let last : m ≡ v = omega (arith, few, late) in
        subst (λ u. LeavesHold new u field) last
        (filled_cells now new list (subst (λ (t : Told). Valid t.grid) (sym before.told) valid) (subst (λ (t : Told). Sorted t.grid.leaves) (sym before.told) order) m field is
        (is_list ∙ ap (list_at cells) last ∙ listed ∙ ap (λ (t : Told). map field (cells_walked t.grid)) (sym before.told)))
  ]

-- ---- the world of a mesh

some_name : (o : Option (List ℕ)) → (o ≡ None → ⊥) → is_some o ≡ true
some_name None none = absurd (none refl)
some_name (Some x) none = refl

where_some : {A : Type 0} (field : A → ℤ) (t : Bool) (xs : List A) → t ≡ true → map field (if t then xs else []) ≡ map field xs
where_some field t xs is = ap (λ u. map field (if u then xs else [])) is

module _ (m : Mesh) (g : Grid) (n : Counts) (cells : List (List ℤ)) (faces edges : List ℤ) (is : IsStoredOf m g n cells faces edges) where
  pub cells_stored : (v : ℕ) → v < n.cells → get_or cells v [] ≡ map (m.cells v) (cells_walked g)
  cells_stored v few =
      let low : v < length m.names.cells = subst (λ k. v < k) is.layout.cells few in
      ap (λ xs. get_or xs v []) is.cells
      ∙ get_or-map-range_with_len (λ u. map (m.cells u) (cells_walked m.grid)) 0 (length m.names.cells) v v [] low (zero-add v)
      ∙ ap (λ h. map (m.cells v) (cells_walked h)) (sym is.grid)

  pub faces_stored : 0 < n.faces → faces ≡ map m.faces (leaf_faces g)
  faces_stored some =
      is.faces ∙ where_some m.faces (is_some m.names.face) (leaf_faces m.grid) (some_name m.names.face (λ none. let zero_is = is.layout.faces.1 none in omega (arith, some, zero_is)))
      ∙ ap (λ h. map m.faces (leaf_faces h)) (sym is.grid)

  pub edges_stored : 0 < n.edges → edges ≡ map m.edges (leaf_edges g)
  edges_stored some =
      is.edges ∙ where_some m.edges (is_some m.names.edge) (leaf_edges m.grid) (some_name m.names.edge (λ none. let zero_is = is.layout.edges.1 none in omega (arith, some, zero_is)))
      ∙ ap (λ h. map m.edges (leaf_edges h)) (sym is.grid)

  -- a world in which leaves hold what the lists are of is that of the mesh
  pub world_is : (w : WorldState) → w.told.grid ≡ g → w.told.counts ≡ n →
      ((v : ℕ) → v < n.cells → LeavesHold w v (m.cells v)) → (0 < n.faces → LeavesHoldFaces w m.faces) → (0 < n.edges → LeavesHoldEdges false w m.edges) → IsOfMesh w m
  world_is w grid counts contents on_faces on_edges = record {
    grid = grid ∙ is.grid;
    cells = ap (λ (c : Counts). c.cells) counts ∙ is.layout.cells;
    faces = subst (λ (c : Counts). (c.faces ≡ 0) ↔ (m.names.face ≡ None)) (sym counts) is.layout.faces;
    edges = subst (λ (c : Counts). (c.edges ≡ 0) ↔ (m.names.edge ≡ None)) (sym counts) is.layout.edges;
    contents = λ v few. contents v (subst (λ (c : Counts). v < c.cells) counts few);
    on_faces = λ some. on_faces (subst (λ (c : Counts). 0 < c.faces) counts some);
    on_edges = λ some. on_edges (subst (λ (c : Counts). 0 < c.edges) counts some);
  }

-- ---- for who has an image's lists: those of a valid mesh are as many as there are variables, and small

places_within : {A : Type 0} (most : ℕ) (field : A → ℤ) → ((a : A) → Within most (field a)) → (xs : List A) → AreWithin most (map field xs)
places_within most field small [] k = subst (Within most) (sym (get_or_past (map field []) k (pos 0) (omega arith))) (omega arith)
places_within most field small (x ∷ xs) zero = small x
places_within most field small (x ∷ xs) (suc k) = places_within most field small xs k

pub stored_cells : (m : Mesh) (g : Grid) (n : Counts) (cells : List (List ℤ)) (faces edges : List ℤ) → IsStoredOf m g n cells faces edges → length cells ≡ n.cells
stored_cells m g n cells faces edges is =
    ap length is.cells ∙ length-map (range_with_len 0 (length m.names.cells)) (λ v. map (m.cells v) (cells_walked m.grid)) ∙ length-range_with_len 0 (length m.names.cells) ∙ sym is.layout.cells

pub stored_faces : (m : Mesh) (g : Grid) (n : Counts) (cells : List (List ℤ)) (faces edges : List ℤ) → ValidMesh m → IsStoredOf m g n cells faces edges → AreWithin (2 ^ 40) faces
stored_faces m g n cells faces edges valid is = subst (AreWithin (2 ^ 40)) (sym is.faces) (places_within (2 ^ 40) m.faces valid.range.faces (face_places m.names m.grid))

pub stored_edges : (m : Mesh) (g : Grid) (n : Counts) (cells : List (List ℤ)) (faces edges : List ℤ) → ValidMesh m → IsStoredOf m g n cells faces edges → AreWithin (2 ^ 40) edges
stored_edges m g n cells faces edges valid is = subst (AreWithin (2 ^ 40)) (sym is.edges) (places_within (2 ^ 40) m.edges valid.range.edges (edge_places m.names m.grid))
