-- The mesh of what is stored of a mesh is that mesh.
use Rattle.std.proofs.Common.{◌≡◌, ℕ, zero, suc, ◌+◌, ◌<◌, ◌≤◌, ◌==◌, Bool, true, false, ◌&&◌, ◌||◌, if◌then◌else◌, refl, sym, ap, ap₂, subst, ◌∙◌, arith, inl, inr, List, [], ◌∷◌, map, length, filter, get_or, Option, Some, None, ℤ, pos, eqb-true, eq-eqb}
use Rattle.std.specs.Prelude.{is_some, unwrap_or}
use Rattle.std.specs.List.{range_with_len}
use Rattle.std.proofs.lemmas.Bool.{cases_Bool, cases_lt}
use Rattle.std.proofs.lemmas.List.{get_or-map, get_or_past, length-map}
use Rattle.amr_num.specs.declared.Axis.{Axis}
use Rattle.amr_num.specs.declared.Axis.TheVariants.{X, Y, Z}
use Rattle.amr_num.specs.declared.BlockAt.{BlockAt}
use Rattle.amr_num.specs.declared.CellAt.{CellAt}
use Rattle.amr_num.specs.declared.FaceAt.{FaceAt}
use Rattle.amr_num.specs.declared.EdgeAt.{EdgeAt}
use Rattle.mesh_model.specs.Geometry.Coordinates.{axis_index}
use Rattle.mesh_model.specs.Geometry.Coordinates.{face_numbers, edge_numbers}
use Rattle.mesh_model.specs.Tree.Order.{IsIn, nodes}
use Rattle.mesh_model.specs.Tree.Kinds.{Grid, is_split_block, is_leaf_face, is_leaf_edge}
use Rattle.mesh_model.specs.Fields.Plain.{Mesh}
use Rattle.mesh_model.specs.Geometry.Canonical.{is_canonical, is_canonical_edge}
use Rattle.mesh_model.specs.Fields.RangeWalk.{cells_walked, faces_walked, edges_walked}
use Rattle.mesh_model.specs.Geometry.Coordinates.{is_same_cell, is_same_face, is_same_edge}
use Rattle.mesh_model.specs.Geometry.Blocks.{is_same_block}
use Rattle.mesh_model.specs.Tree.Start.{start_leaves}
use Rattle.mesh_model.specs.Fields.Valid.{ValidMesh}
use Rattle.mesh_model.proofs.GeometryLemmas.ShapeLimits.{cells_some}
use Rattle.mesh_model.proofs.TreeLemmas.Tests.{and_left, and_right, and_both, refuted, all_four}
use Rattle.mesh_model.proofs.TreeLemmas.Tiling.{leaf_says, leaf_shows}
use Rattle.mesh_model.proofs.FieldLemmas.Walking.{Member, cell_walked, face_walked, edge_walked}
use Rattle.block_tree.proofs.Flags.{same_says, same_shows}
use Rattle.block_tree.proofs.Leaves.{leaf_node, split_leaf}
use Rattle.mesh_model.specs.Tree.Forest.{flags_of, visited, lowered}
use Rattle.mesh_model.specs.Images.Image.{Stored, stored, mesh_of, blocks_by, grid_by, node_code, node_codes, code_of, is_parent, has_refine, has_derefine, marked, cell_numbers, face_places, edge_places, leaf_faces, leaf_edges}
use Rattle.mesh_model.specs.Images.Keyed.{value_at}
use Rattle.block_tree.proofs.Forests.{read_again}
use Rattle.check_format.proofs.Keys.{member_filter, fresh_has, field_again}

-- ---- what the tests of places say

pub cell_says : (c d : CellAt) → is_same_cell c d ≡ true → c ≡ d
cell_says c d t =
    let four = all_four (c.level == d.level) (c.x == d.x) (c.y == d.y) (c.z == d.z) t in
    let l = eqb-true _ _ four.0 in
    let x = eqb-true _ _ four.1 in
    let y = eqb-true _ _ four.2 in
    let z = eqb-true _ _ four.3 in
    λ i. record { level = l i; x = x i; y = y i; z = z i }

pub cell_shows : (c : CellAt) → is_same_cell c c ≡ true
cell_shows c = and_both ((c.level == c.level) && (c.x == c.x) && (c.y == c.y)) (c.z == c.z) (and_both ((c.level == c.level) && (c.x == c.x)) (c.y == c.y) (and_both (c.level == c.level) (c.x == c.x) (eq-eqb _ _ refl) (eq-eqb _ _ refl)) (eq-eqb _ _ refl)) (eq-eqb _ _ refl)

axis_says : (a b : Axis) → axis_index a ≡ axis_index b → a ≡ b
axis_says X X e = refl
axis_says X Y e = absurd (omega arith)
axis_says X Z e = absurd (omega arith)
axis_says Y X e = absurd (omega arith)
axis_says Y Y e = refl
axis_says Y Z e = absurd (omega arith)
axis_says Z X e = absurd (omega arith)
axis_says Z Y e = absurd (omega arith)
axis_says Z Z e = refl

pub face_says : (f h : FaceAt) → is_same_face f h ≡ true → f ≡ h
face_says f h t =
    let axis = axis_says f.axis h.axis (eqb-true _ _ (and_left (axis_index f.axis == axis_index h.axis) (is_same_cell (face_numbers f) (face_numbers h)) t)) in
    let rest = cell_says (face_numbers f) (face_numbers h) (and_right (axis_index f.axis == axis_index h.axis) (is_same_cell (face_numbers f) (face_numbers h)) t) in
    λ i. record { axis = axis i; level = (rest i).level; x = (rest i).x; y = (rest i).y; z = (rest i).z }

pub face_shows : (f : FaceAt) → is_same_face f f ≡ true
face_shows f = and_both (axis_index f.axis == axis_index f.axis) (is_same_cell (face_numbers f) (face_numbers f)) (eq-eqb _ _ refl) (cell_shows (face_numbers f))

pub edge_says : (f h : EdgeAt) → is_same_edge f h ≡ true → f ≡ h
edge_says f h t =
    let axis = axis_says f.axis h.axis (eqb-true _ _ (and_left (axis_index f.axis == axis_index h.axis) (is_same_cell (edge_numbers f) (edge_numbers h)) t)) in
    let rest = cell_says (edge_numbers f) (edge_numbers h) (and_right (axis_index f.axis == axis_index h.axis) (is_same_cell (edge_numbers f) (edge_numbers h)) t) in
    λ i. record { axis = axis i; level = (rest i).level; x = (rest i).x; y = (rest i).y; z = (rest i).z }

pub edge_shows : (f : EdgeAt) → is_same_edge f f ≡ true
edge_shows f = and_both (axis_index f.axis == axis_index f.axis) (is_same_cell (edge_numbers f) (edge_numbers f)) (eq-eqb _ _ refl) (cell_shows (edge_numbers f))

-- ---- codes

pub parent_again : (s r d : Bool) → is_parent (code_of s r d) ≡ s
parent_again true r d = refl
parent_again false true true = refl
parent_again false true false = refl
parent_again false false true = refl
parent_again false false false = refl

pub refine_again : (r d : Bool) → has_refine (code_of false r d) ≡ r
refine_again true true = refl
refine_again true false = refl
refine_again false true = refl
refine_again false false = refl

pub derefine_again : (r d : Bool) → has_derefine (code_of false r d) ≡ d
derefine_again true true = refl
derefine_again true false = refl
derefine_again false true = refl
derefine_again false false = refl

refine_low : (s d : Bool) → has_refine (code_of s false d) ≡ false
refine_low true d = refl
refine_low false d = refine_again false d

derefine_low : (s r : Bool) → has_derefine (code_of s r false) ≡ false
derefine_low true r = refl
derefine_low false r = derefine_again r false

none_is : {A : Type 0} (o : Option A) → is_some o ≡ false → o ≡ None
none_is None e = refl
none_is (Some x) e = absurd cc

pub flags_again : (m : Mesh) (bs : List BlockAt) → map is_parent (map (node_code m) bs) ≡ map (is_split_block m.grid) bs
flags_again m [] = refl
flags_again m (b ∷ bs) = ap₂ (λ u w. u ∷ w) (parent_again (is_split_block m.grid b) (m.refine b) (m.derefine b)) (flags_again m bs)

-- a mark of a node is that of its code
module _ (test : ℕ → Bool) (code : BlockAt → ℕ) where
  marked_there : (bs : List BlockAt) (b : BlockAt) → IsIn b bs → test (code b) ≡ true → marked test bs (map code bs) b ≡ true
  marked_there [] b i t = absurd i
  marked_there (c ∷ bs) b (inl e) t = ap (λ u. u || marked test bs (map code bs) b) (and_both (is_same_block c b) (test (code c)) (same_shows c b e) (ap (λ u. test (code u)) e ∙ t))
  marked_there (c ∷ bs) b (inr i) t = elim (cases_Bool (is_same_block c b && test (code c))) [
    | inl h ↦ ap (λ u. u || marked test bs (map code bs) b) h
    | inr h ↦ ap (λ u. u || marked test bs (map code bs) b) h ∙ marked_there bs b i t
  ]

  marked_off : (bs : List BlockAt) (b : BlockAt) → (IsIn b bs → test (code b) ≡ false) → marked test bs (map code bs) b ≡ false
  marked_off [] b h = refl
  marked_off (c ∷ bs) b h =
      ap₂ (λ u w. u || w) (refuted (is_same_block c b && test (code c)) (λ t.
      let e = same_says c b (and_left (is_same_block c b) (test (code c)) t) in
      let hit = and_right (is_same_block c b) (test (code c)) t in
      let miss = h (inl e) in
      let same = ap (λ u. test (code u)) e in
      cc))
      (marked_off bs b (λ i. h (inr i)))

get_range : (a n v : ℕ) → v < n → get_or (range_with_len a n) v 0 ≡ a + v
get_range a zero v h = absurd (omega arith)
get_range a (suc n) zero h = omega arith
get_range a (suc n) (suc v) h = let rest = get_range (a + 1) n v (omega arith) in omega arith

length_range : (a n : ℕ) → length (range_with_len a n) ≡ n
length_range a zero = refl
length_range a (suc n) = ap suc (length_range (a + 1) n)

module _ (m : Mesh) (valid : ValidMesh m) (turn : ℕ) where
  abbrev s : Stored
  s = stored m turn

  read : (visited m.grid.shape.max (flags_of m.grid) (start_leaves m.grid.shape) ≡ Some (nodes m.grid.leaves)) × (lowered (flags_of m.grid) (nodes m.grid.leaves) ≡ m.grid.leaves)
  read = read_again m.grid valid.grid valid.order

  pub blocks_again : blocks_by m.grid.shape (node_codes m) ≡ nodes m.grid.leaves
  unfolding blocks_by
  blocks_again = ap (λ u. unwrap_or (visited m.grid.shape.max u (start_leaves m.grid.shape)) []) (flags_again m (nodes m.grid.leaves)) ∙ ap (λ u. unwrap_or u []) read.0

  pub grid_again : grid_by m.grid.shape (node_codes m) ≡ m.grid
  unfolding grid_by
  grid_again =
      let same : lowered (map is_parent (node_codes m)) (blocks_by m.grid.shape (node_codes m)) ≡ m.grid.leaves = ap₂ lowered (flags_again m (nodes m.grid.leaves)) blocks_again ∙ read.1 in
      λ i. record { shape = m.grid.shape; leaves = same i }

  whole : (b : BlockAt) → IsIn b m.grid.leaves → is_split_block m.grid b ≡ false
  whole b i = refuted _ (λ t. let no = split_leaf m.grid valid.grid b t in let is = leaf_shows m.grid b i in cc)

  refine_is : (b : BlockAt) → marked has_refine (nodes m.grid.leaves) (node_codes m) b ≡ m.refine b
  refine_is b = elim (cases_Bool (m.refine b)) [
    | inl t ↦
        let leaf = leaf_says m.grid b (valid.marks.refine b t).0 in
        let code = ap₂ (λ u w. has_refine (code_of u w (m.derefine b))) (whole b leaf) t ∙ refine_again true (m.derefine b) in
        marked_there has_refine (node_code m) (nodes m.grid.leaves) b (leaf_node m.grid valid.grid b leaf) code ∙ sym t
    | inr f ↦ marked_off has_refine (node_code m) (nodes m.grid.leaves) b (λ i. ap (λ w. has_refine (code_of (is_split_block m.grid b) w (m.derefine b))) f ∙ refine_low (is_split_block m.grid b) (m.derefine b)) ∙ sym f
  ]

  derefine_is : (b : BlockAt) → marked has_derefine (nodes m.grid.leaves) (node_codes m) b ≡ m.derefine b
  derefine_is b = elim (cases_Bool (m.derefine b)) [
    | inl t ↦
        let leaf = leaf_says m.grid b (valid.marks.derefine b t).0 in
        let code = ap₂ (λ u w. has_derefine (code_of u (m.refine b) w)) (whole b leaf) t ∙ derefine_again (m.refine b) true in
        marked_there has_derefine (node_code m) (nodes m.grid.leaves) b (leaf_node m.grid valid.grid b leaf) code ∙ sym t
    | inr f ↦ marked_off has_derefine (node_code m) (nodes m.grid.leaves) b (λ i. ap (λ w. has_derefine (code_of (is_split_block m.grid b) (m.refine b) w)) f ∙ derefine_low (is_split_block m.grid b) (m.refine b)) ∙ sym f
  ]

  variable_is : (v : ℕ) → v < length m.names.cells → get_or (map (cell_numbers m) (range_with_len 0 (length m.names.cells))) v (pos 0, []) ≡ cell_numbers m v
  variable_is v h =
      let k = length m.names.cells in
      get_or-map (cell_numbers m) (range_with_len 0 k) v 0 (pos 0, []) (subst (λ u. v < u) (sym (length_range 0 k)) h) ∙ ap (cell_numbers m) (get_range 0 k v h ∙ omega arith)

  variable_none : (v : ℕ) → length m.names.cells ≤ v → get_or (map (cell_numbers m) (range_with_len 0 (length m.names.cells))) v (pos 0, []) ≡ (pos 0, [])
  variable_none v h = get_or_past (map (cell_numbers m) (range_with_len 0 (length m.names.cells))) v (pos 0, []) (omega (arith, length-map (range_with_len 0 (length m.names.cells)) (cell_numbers m), length_range 0 (length m.names.cells)))

  cells_are : (v : ℕ) (c : CellAt) → value_at is_same_cell (cells_walked m.grid) (get_or (map (cell_numbers m) (range_with_len 0 (length m.names.cells))) v (pos 0, [])).1 c ≡ m.cells v c
  cells_are v c = elim (cases_lt v (length m.names.cells)) [
    | inl lt ↦
        ap (λ (u : ℤ × List ℤ). value_at is_same_cell (cells_walked m.grid) u.1 c) (variable_is v lt)
        ∙ field_again CellAt is_same_cell cell_says cell_shows (cells_walked m.grid) (m.cells v) c (λ out. valid.numbers.cells v c (refuted _ (λ t. out (cell_walked m.grid c (cells_some valid.grid.shape) t))))
    | inr le ↦
        ap (λ (u : ℤ × List ℤ). value_at is_same_cell (cells_walked m.grid) u.1 c) (variable_none v le)
        ∙ empty (cells_walked m.grid) c ∙ sym (valid.declared.cells v le c)
  ]
    where
      empty : (ks : List CellAt) (c : CellAt) → value_at is_same_cell ks [] c ≡ pos 0
      empty [] c = refl
      empty (k ∷ ks) c = refl

  outs_are : (v : ℕ) → (get_or (map (cell_numbers m) (range_with_len 0 (length m.names.cells))) v (pos 0, [])).0 ≡ m.outs v
  outs_are v = elim (cases_lt v (length m.names.cells)) [
    | inl lt ↦ ap (λ (u : ℤ × List ℤ). u.0) (variable_is v lt)
    | inr le ↦ ap (λ (u : ℤ × List ℤ). u.0) (variable_none v le) ∙ sym (valid.declared.outs v le)
  ]

  face_off : (f : FaceAt) → (Member f (leaf_faces m.grid) → ⊥) → m.faces f ≡ pos 0
  unfolding leaf_faces
  face_off f out = valid.numbers.faces f (refuted _ (λ t. out (
      fresh_has FaceAt is_same_face face_says face_shows [] (filter (λ h. is_canonical m.grid.shape h && is_leaf_face m.grid h) (faces_walked m.grid)) f refl
      (member_filter (λ h. is_canonical m.grid.shape h && is_leaf_face m.grid h) f (faces_walked m.grid) (face_walked m.grid f valid.grid.shape t) t))))

  faces_at : (d : Bool) (f : FaceAt) → (d ≡ false → m.faces f ≡ pos 0) → value_at is_same_face (if d then leaf_faces m.grid else []) (map m.faces (if d then leaf_faces m.grid else [])) f ≡ m.faces f
  faces_at true f h = field_again FaceAt is_same_face face_says face_shows (leaf_faces m.grid) m.faces f (face_off f)
  faces_at false f h = sym (h refl)

  faces_are : (f : FaceAt) → value_at is_same_face (face_places m.names m.grid) (map m.faces (face_places m.names m.grid)) f ≡ m.faces f
  faces_are f = faces_at (is_some m.names.face) f (λ e. valid.declared.faces (none_is m.names.face e) f)

  edge_off : (e : EdgeAt) → (Member e (leaf_edges m.grid) → ⊥) → m.edges e ≡ pos 0
  unfolding leaf_edges
  edge_off e out = valid.numbers.edges e (refuted _ (λ t. out (
      fresh_has EdgeAt is_same_edge edge_says edge_shows [] (filter (λ h. is_canonical_edge m.grid.shape h && is_leaf_edge m.grid h) (edges_walked m.grid)) e refl
      (member_filter (λ h. is_canonical_edge m.grid.shape h && is_leaf_edge m.grid h) e (edges_walked m.grid) (edge_walked m.grid e valid.grid.shape t) t))))

  edges_at : (d : Bool) (e : EdgeAt) → (d ≡ false → m.edges e ≡ pos 0) → value_at is_same_edge (if d then leaf_edges m.grid else []) (map m.edges (if d then leaf_edges m.grid else [])) e ≡ m.edges e
  edges_at true e h = field_again EdgeAt is_same_edge edge_says edge_shows (leaf_edges m.grid) m.edges e (edge_off e)
  edges_at false e h = sym (h refl)

  edges_are : (e : EdgeAt) → value_at is_same_edge (edge_places m.names m.grid) (map m.edges (edge_places m.names m.grid)) e ≡ m.edges e
  edges_are e = edges_at (is_some m.names.edge) e (λ n. valid.declared.edges (none_is m.names.edge n) e)

  -- the mesh with this grid and these nodes
  abbrev with_grid : Grid → List BlockAt → Mesh
  with_grid g bs = record {
    grid = g;
    names = m.names;
    cells = λ v. value_at is_same_cell (cells_walked g) (get_or (map (cell_numbers m) (range_with_len 0 (length m.names.cells))) v (pos 0, [])).1;
    outs = λ v. (get_or (map (cell_numbers m) (range_with_len 0 (length m.names.cells))) v (pos 0, [])).0;
    faces = value_at is_same_face (face_places m.names g) (map m.faces (face_places m.names m.grid));
    edges = value_at is_same_edge (edge_places m.names g) (map m.edges (edge_places m.names m.grid));
    refine = marked has_refine bs (node_codes m);
    derefine = marked has_derefine bs (node_codes m);
  }

  same_mesh : with_grid m.grid (nodes m.grid.leaves) ≡ m
  same_mesh = λ i. record {
    grid = m.grid;
    names = m.names;
    cells = λ v c. cells_are v c i;
    outs = λ v. outs_are v i;
    faces = λ f. faces_are f i;
    edges = λ e. edges_are e i;
    refine = λ b. refine_is b i;
    derefine = λ b. derefine_is b i;
  }

  pub mesh_again : mesh_of (stored m turn) ≡ m
  unfolding mesh_of stored
  mesh_again = ap₂ with_grid grid_again blocks_again ∙ same_mesh
