-- The pieces of a mesh are its image but for the digest.
use Rattle.std.proofs.Common.{◌≡◌, ℕ, suc, ◌+◌, ◌<◌, Bool, true, false, ◌&&◌, if◌then◌else◌, List, [], ◌∷◌, ◌++◌, length, map, flat_map, filter, codes, is_some, option_to_list, slice_index_or, ℤ, pos, refl, sym, ap, ap₂, ◌∙◌, arith, append_assoc, append-nil, zero-add}
use Rattle.std.specs.List.{range_with_len}
use Rattle.std.proofs.Math.Numerals.{one-add}
use Rattle.std.proofs.lemmas.Bool.{and_parts}
use Rattle.std.proofs.lemmas.Grind.{flat_map-append}
use Rattle.std.proofs.lemmas.List.{length-map}
use Rattle.std.proofs.lemmas.List.Concat.{flat_map_single}
use Rattle.std.proofs.lemmas.List.Folds.{flat_map-map}
use Rattle.std.proofs.lemmas.List.FromFn.{get_or-map-range_with_len}
use Rattle.amr_num.specs.declared.Axis.{Axis}
use Rattle.amr_num.specs.declared.Axis.TheVariants.{X, Y, Z}
use Rattle.amr_num.specs.declared.BlockAt.{BlockAt}
use Rattle.amr_num.specs.declared.EdgeAt.{EdgeAt}
use Rattle.amr_num.specs.declared.FaceAt.{FaceAt}
use Rattle.block_tree.specs.Interior.{axes_of}
use Rattle.block_tree.specs.Numbered.{block_at}
use Rattle.block_tree.proofs.ByNumber.{flat_by_place}
use Rattle.byteorder.specs.Endian.{little_bytes}
use Rattle.mesh_model.specs.declared.fields.values.Group.{Group}
use Rattle.mesh_model.specs.declared.fields.values.Group.TheVariants as group
use Rattle.mesh_model.specs.Fields.Plain.{Mesh}
use Rattle.mesh_model.specs.Fields.RangeWalk.{cells_walked, edges_walked, faces_walked}
use Rattle.mesh_model.specs.Fields.Valid.{ValidMesh}
use Rattle.mesh_model.specs.Fields.VariableNames.{VariableNames}
use Rattle.mesh_model.specs.Fields.Views.{edge_view, face_view}
use Rattle.mesh_model.specs.Geometry.Canonical.{is_canonical, is_canonical_edge}
use Rattle.mesh_model.specs.Geometry.Coordinates.{is_same_edge, is_same_face}
use Rattle.mesh_model.specs.Geometry.Places.{block_cells, box_list, in_block}
use Rattle.mesh_model.specs.Images.Image.{body, cell_bytes, cell_numbers, content_bytes, edge_places, face_places, head_bytes, leaf_edges, leaf_faces, name_bytes, node_code, node_codes, out_bytes, side_code}
use Rattle.mesh_model.specs.Images.Keyed.{fresh}
use Rattle.mesh_model.specs.Tree.Kinds.{Grid, is_leaf_edge, is_leaf_face, is_split_edge}
use Rattle.mesh_model.specs.Tree.Order.{nodes}
use Rattle.mesh_model.proofs.FieldLemmas.CellKinds.{kinds_of_tiles, wide_of}
use Rattle.mesh_model.proofs.FieldLemmas.EdgeSums as edges
use Rattle.mesh_model.proofs.FieldLemmas.LeafFaces.{view_of_leaf_face}
use Rattle.mesh_model.proofs.FieldLemmas.Walking.{Member}
use Rattle.mesh_model.proofs.TreeLemmas.Tests.{not_true}
use Rattle.check_format.specs.Numbered.{Pieces, no_piece, one_piece, ◌then◌}
use Rattle.check_format.specs.Own.{Place, axes, edge_at, edge_stands, face_at, face_stands, is_own_edge, is_own_face, place, places_of}
use Rattle.check_format.specs.Written.{all_names, cell_pieces, count_bytes, count_piece, field_bytes, group_pieces, head_pieces, if_declared, image_pieces, name_piece, name_pieces, node_pieces, number_of, number_pieces, of_mesh, place_bytes, variable_count, variable_pieces}
use Rattle.check_format.specs.Writing.{PiecesAreBody}
use Rattle.check_format.proofs.Again.{edge_says, edge_shows, face_says, face_shows}
use Rattle.check_format.proofs.ArrayPieces.{array_places, group_is}
use Rattle.check_format.proofs.InOrder.{spread_flat}
use Rattle.check_format.proofs.Keys.{fresh_from, from_filter}
use Rattle.check_format.proofs.OwnGroups.{edges_by_leaves, faces_by_leaves}
use Rattle.check_format.proofs.Pieces.{all, all_each, all_one, all_then, flat_box, flat_passed, flat_same, range_same, whole_is}

-- ---- the bytes of what stands under leaves

-- by their own places
module _ (A : Type 0) (bytes : A → List ℕ) (n : ℕ) (stands : Axis → Axis → Bool) (own : BlockAt → Axis → Place → Bool) (at : BlockAt → Axis → Place → A) where
  own_places : (leaves : List BlockAt) → flat_map bytes (flat_map (λ b. flat_map (λ a. map (at b a) (filter (own b a) (places_of n (stands a)))) axes) leaves)
      ≡ flat_map (λ b. flat_map (λ a. flat_map (λ p. if own b a p then bytes (at b a p) else []) (places_of n (stands a))) axes) leaves
  own_places leaves =
      spread_flat (flat_map bytes) refl (flat_map-append bytes) (λ b. flat_map (λ a. map (at b a) (filter (own b a) (places_of n (stands a)))) axes) leaves
      ∙ ap (λ f. flat_map f leaves) (λ t b. (
      spread_flat (flat_map bytes) refl (flat_map-append bytes) (λ a. map (at b a) (filter (own b a) (places_of n (stands a)))) axes
      ∙ ap (λ f. flat_map f axes) (λ u a. on_axis b a u)) t)
    where
      on_axis : (b : BlockAt) (a : Axis) → flat_map bytes (map (at b a) (filter (own b a) (places_of n (stands a)))) ≡ flat_map (λ p. if own b a p then bytes (at b a p) else []) (places_of n (stands a))
      on_axis b a = flat_map-map bytes (at b a) (filter (own b a) (places_of n (stands a))) ∙ flat_passed (own b a) (λ p. bytes (at b a p)) (places_of n (stands a))

-- what stands somewhere passes
passing : (A : Type 0) (same : A → A → Bool) → ((a b : A) → same a b ≡ true → a ≡ b) → ((a : A) → same a a ≡ true) → (first second : A → Bool) (walked : List A) (a : A)
    → Member a (fresh same [] (filter (λ b. first b && second b) walked)) → second a ≡ true
passing A same says shows first second walked a i =
    (and_parts (first a) (second a) (from_filter (λ b. first b && second b) a walked (fresh_from A same says shows [] (filter (λ b. first b && second b) walked) a i))).1

-- the places of arrays are those of blocks
module _ (g : Grid) where
  next : g.shape.n + 1 ≡ suc g.shape.n
  next = omega arith

  pub face_list : (a : Axis) → array_places g group.Face a ≡ places_of g.shape.n (face_stands a)
  face_list X = ap (λ u. box_list u g.shape.n g.shape.n place) next
  face_list Y = ap (λ u. box_list g.shape.n u g.shape.n place) next
  face_list Z = ap (λ u. box_list g.shape.n g.shape.n u place) next

  pub edge_list : (a : Axis) → array_places g group.Edge a ≡ places_of g.shape.n (edge_stands a)
  edge_list X = ap (λ u. box_list g.shape.n u u place) next
  edge_list Y = ap (λ u. box_list u g.shape.n u place) next
  edge_list Z = ap (λ u. box_list u u g.shape.n place) next

  leaf_face : (f : FaceAt) → Member f (leaf_faces g) → is_leaf_face g f ≡ true
  unfolding leaf_faces
  leaf_face f i = passing FaceAt is_same_face face_says face_shows (is_canonical g.shape) (is_leaf_face g) (faces_walked g) f i

  leaf_edge : (e : EdgeAt) → Member e (leaf_edges g) → is_leaf_edge g e ≡ true
  unfolding leaf_edges
  leaf_edge e i = passing EdgeAt is_same_edge edge_says edge_shows (is_canonical_edge g.shape) (is_leaf_edge g) (edges_walked g) e i

module _ (m : Mesh) (valid : ValidMesh m) where
  abbrev g : Grid
  g = m.grid

  abbrev n : ℕ
  n = m.grid.shape.n

  -- ---- cells

  abbrev cell_content : ℕ → BlockAt → Axis → Place → List ℕ
  cell_content v b a p = content_bytes (m.cells v (in_block n b p.x p.y p.z))

  cells_are : (v : ℕ) → all (group_pieces g (number_of m) (group.Cell v)) ≡ flat_map content_bytes (map (m.cells v) (cells_walked g))
  cells_are v =
      group_is g valid.grid (number_of m) (group.Cell v) (cell_content v) (λ node a p. refl)
      ∙ ap (λ f. flat_map f g.leaves) (λ t b. block_is b t)
      ∙ sym
      (flat_map-map content_bytes (m.cells v) (cells_walked g)
      ∙ spread_flat (flat_map (λ c. content_bytes (m.cells v c))) refl (flat_map-append (λ c. content_bytes (m.cells v c))) (block_cells n) g.leaves)
    where
      block_is : (b : BlockAt) → flat_map (cell_content v b X) (box_list n n n place) ++ [] ≡ flat_map (λ c. content_bytes (m.cells v c)) (block_cells n b)
      block_is b =
          append-nil (flat_map (cell_content v b X) (box_list n n n place))
          ∙ flat_box (cell_content v b X) n n n place
          ∙ sym (flat_box (λ c. content_bytes (m.cells v c)) n n n (in_block n b))

  -- ---- faces and edges

  view_is_face : (f : FaceAt) → is_leaf_face g f ≡ true → face_view g m.faces f ≡ m.faces f
  view_is_face f leaf = view_of_leaf_face g (kinds_of_tiles g valid.grid.tiles valid.grid.shape) valid.grid.shape (wide_of g.shape valid.grid.shape) m.faces f leaf

  view_is_edge : (e : EdgeAt) → is_leaf_edge g e ≡ true → edge_view g m.edges e ≡ m.edges e
  unfolding is_leaf_edge
  view_is_edge e leaf = edges.view_leaf g (kinds_of_tiles g valid.grid.tiles valid.grid.shape).tree (wide_of g.shape valid.grid.shape) m.edges e (not_true (is_split_edge g e) (and_parts _ _ leaf).1) leaf

  -- the numbers of a group that stand under leaves by their own places, where a view of what has a number is the number
  module _ (A : Type 0) (kind : Group) (view number : A → ℤ) (stands : Axis → Axis → Bool) (own : BlockAt → Axis → Place → Bool) (at : BlockAt → Axis → Place → A) (all_places : List A) where
    abbrev content : BlockAt → Axis → Place → List ℕ
    content b a p = if own b a p then content_bytes (view (at b a p)) else []

    numbers_of_group : axes_of kind ≡ axes → ((a : Axis) → array_places g kind a ≡ places_of n (stands a)) → ((node : ℕ) (a : Axis) (p : Place) → place_bytes g (number_of m) kind node a p.z p.y p.x ≡ content (block_at g node) a p)
        → all_places ≡ flat_map (λ b. flat_map (λ a. map (at b a) (filter (own b a) (places_of n (stands a)))) axes) g.leaves → ((a : A) → Member a all_places → view a ≡ number a)
        → all (group_pieces g (number_of m) kind) ≡ flat_map content_bytes (map number all_places)
    numbers_of_group all_axes lists told law seen =
        group_is g valid.grid (number_of m) kind content told
        ∙ (λ t. flat_map (λ b. flat_map (λ a. flat_map (content b a) (lists a t)) (all_axes t)) g.leaves)
        ∙ sym (ap (flat_map (λ a. content_bytes (view a))) law ∙ own_places A (λ a. content_bytes (view a)) n stands own at g.leaves)
        ∙ flat_same (λ a. content_bytes (view a)) (λ a. content_bytes (number a)) all_places (λ a i. ap content_bytes (seen a i))
        ∙ sym (flat_map-map content_bytes number all_places)

  faces_are : all (group_pieces g (number_of m) group.Face) ≡ flat_map content_bytes (map m.faces (leaf_faces g))
  faces_are = numbers_of_group FaceAt group.Face (face_view g m.faces) m.faces face_stands (is_own_face g) (face_at g.shape) (leaf_faces g) refl (face_list g) (λ node a p. refl) (faces_by_leaves g valid.grid valid.order) (λ f i. view_is_face f (leaf_face g f i))

  edges_are : all (group_pieces g (number_of m) group.Edge) ≡ flat_map content_bytes (map m.edges (leaf_edges g))
  edges_are = numbers_of_group EdgeAt group.Edge (edge_view g m.edges) m.edges edge_stands (is_own_edge g) (edge_at g.shape) (leaf_edges g) refl (edge_list g) (λ node a p. refl) (edges_by_leaves g valid.grid valid.order) (λ e i. view_is_edge e (leaf_edge g e i))

  where_declared : {A : Type 0} (declared : Bool) (p : Pieces) (number : A → ℤ) (places : List A) → all p ≡ flat_map content_bytes (map number places)
      → all (if declared then p else no_piece) ≡ flat_map content_bytes (map number (if declared then places else []))
  where_declared true p number places is = is
  where_declared false p number places is = refl

  -- ---- cell variables

  abbrev outs : List ℤ
  outs = map m.outs (range_with_len 0 (length m.names.cells))

  abbrev out : ℕ → ℤ
  out v = slice_index_or outs v (pos 0)

  variable_is : (v : ℕ) → v < length m.names.cells → flat_map (variable_pieces g outs (number_of m) v).piece (range_with_len 0 (variable_count g)) ≡ cell_bytes (cell_numbers m v)
  variable_is v few =
      ap (λ k. flat_map (variable_pieces g outs (number_of m) v).piece (range_with_len 0 k)) (sym (one-add _))
      ∙ all_then (one_piece (out_bytes (out v))) (group_pieces g (number_of m) (group.Cell v))
      ∙ ap₂ (λ u w. u ++ w) (all_one (out_bytes (out v)) ∙ ap out_bytes (get_or-map-range_with_len m.outs 0 (length m.names.cells) v v (pos 0) few (zero-add v))) (cells_are v)

  variables_are : all (cell_pieces g m.names outs (number_of m)) ≡ flat_map cell_bytes (map (cell_numbers m) (range_with_len 0 (length m.names.cells)))
  variables_are =
      all_each (length m.names.cells) (variable_count g) (λ v. (variable_pieces g outs (number_of m) v).piece)
      ∙ range_same (λ v. flat_map (variable_pieces g outs (number_of m) v).piece (range_with_len 0 (variable_count g))) (λ v. cell_bytes (cell_numbers m v)) 0 (length m.names.cells) (λ v low high. variable_is v (omega arith))
      ∙ sym (flat_map-map cell_bytes (cell_numbers m) (range_with_len 0 (length m.names.cells)))

  -- ---- the head

  names_are : (v : VariableNames) → all (name_pieces v) ≡ flat_map name_bytes v.cells ++ flat_map name_bytes (option_to_list v.face) ++ flat_map name_bytes (option_to_list v.edge)
  names_are v =
      ap (λ k. flat_map (name_piece v) (range_with_len 0 k)) (sym (length-map (all_names v) name_bytes))
      ∙ flat_by_place (λ name. name) [] (map name_bytes (all_names v))
      ∙ flat_map-map (λ name. name) name_bytes (all_names v)
      ∙ flat_map-append name_bytes (v.cells ++ option_to_list v.face) (option_to_list v.edge)
      ∙ ap (λ t. t ++ flat_map name_bytes (option_to_list v.edge)) (flat_map-append name_bytes v.cells (option_to_list v.face))

  nodes_are : all (node_pieces g m.refine m.derefine) ≡ node_codes m
  unfolding block_at
  nodes_are = flat_by_place (λ b. node_code m b ∷ []) (record { level = 0; x = 0; y = 0; z = 0 }) (nodes g.leaves) ∙ flat_map_single (node_code m) (nodes g.leaves)

  regroup : (a b c d e f h k l : List ℕ) → ((a ++ b) ++ (c ++ d)) ++ ((e ++ f ++ h) ++ (k ++ l)) ≡ (a ++ b ++ c ++ d ++ e ++ f ++ h) ++ (k ++ l)
  regroup a b c d e f h k l = simp append_assoc

  head_is : (turn : ℕ) → all (head_pieces turn g m.names m.refine m.derefine) ≡ head_bytes (record { turn = turn; shape = g.shape; names = m.names }) ++ (little_bytes 4 (length (nodes g.leaves)) ++ node_codes m)
  head_is turn =
      all_then (one_piece (field_bytes turn g.shape m.names)) (name_pieces m.names then (one_piece (count_piece g) then node_pieces g m.refine m.derefine))
      ∙ ap₂ (λ u w. u ++ w) (all_one (field_bytes turn g.shape m.names)) (
      all_then (name_pieces m.names) (one_piece (count_piece g) then node_pieces g m.refine m.derefine)
      ∙ ap₂ (λ u w. u ++ w) (names_are m.names) (
      all_then (one_piece (count_piece g)) (node_pieces g m.refine m.derefine)
      ∙ ap₂ (λ u w. u ++ w) (all_one (count_piece g)) nodes_are))
      ∙ regroup (codes "AMRCHK01") (turn ∷ g.shape.n ∷ g.shape.g ∷ g.shape.rx ∷ g.shape.ry ∷ g.shape.rz ∷ g.shape.min ∷ g.shape.max ∷ []) (map side_code g.shape.sides) (count_bytes m.names)
      (flat_map name_bytes m.names.cells) (flat_map name_bytes (option_to_list m.names.face)) (flat_map name_bytes (option_to_list m.names.edge)) (little_bytes 4 (length (nodes g.leaves))) (node_codes m)

  numbers_are : all (number_pieces g m.names outs (number_of m)) ≡ flat_map cell_bytes (map (cell_numbers m) (range_with_len 0 (length m.names.cells)))
      ++ (flat_map content_bytes (map m.faces (face_places m.names g)) ++ flat_map content_bytes (map m.edges (edge_places m.names g)))
  numbers_are =
      all_then (cell_pieces g m.names outs (number_of m)) (if_declared m.names.face (group_pieces g (number_of m) group.Face) then if_declared m.names.edge (group_pieces g (number_of m) group.Edge))
      ∙ ap₂ (λ u w. u ++ w) variables_are (
      all_then (if_declared m.names.face (group_pieces g (number_of m) group.Face)) (if_declared m.names.edge (group_pieces g (number_of m) group.Edge))
      ∙ ap₂ (λ u w. u ++ w) (where_declared (is_some m.names.face) (group_pieces g (number_of m) group.Face) m.faces (leaf_faces g) faces_are) (where_declared (is_some m.names.edge) (group_pieces g (number_of m) group.Edge) m.edges (leaf_edges g) edges_are))

  parts : (h k l c f e : List ℕ) → (h ++ (k ++ l)) ++ (c ++ (f ++ e)) ≡ h ++ k ++ l ++ c ++ f ++ e
  parts h k l c f e = simp append_assoc

  body_is : (turn : ℕ) → all (image_pieces (of_mesh m turn)) ≡ body m turn
  unfolding body
  body_is turn =
      all_then (head_pieces turn g m.names m.refine m.derefine) (number_pieces g m.names outs (number_of m))
      ∙ ap₂ (λ u w. u ++ w) (head_is turn) numbers_are
      ∙ parts (head_bytes (record { turn = turn; shape = g.shape; names = m.names })) (little_bytes 4 (length (nodes g.leaves))) (node_codes m) (flat_map cell_bytes (map (cell_numbers m) (range_with_len 0 (length m.names.cells))))
      (flat_map content_bytes (map m.faces (face_places m.names g))) (flat_map content_bytes (map m.edges (edge_places m.names g)))

pub pieces_are_body : PiecesAreBody
pieces_are_body m turn valid = whole_is (image_pieces (of_mesh m turn)) ∙ body_is m valid turn
