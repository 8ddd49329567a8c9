-- The image of a mesh: its bytes, and the mesh that bytes stand for.
use Rattle.std.specs.Prelude.{ℕ, ◌+◌, ◌*◌, Bool, true, false, ◌&&◌, ◌||◌, ◌==◌, if◌then◌else◌, List, [], ◌∷◌, ◌++◌, length, map, flat_map, filter, codes, Option, Some, None, is_some, unwrap_or, slice_index_or, ℤ, pos}
use Rattle.std.specs.List.{range_with_len}
use Rattle.std.specs.Option.{option_to_list}
use Rattle.std.specs.Int.{w64, w128, cast_unsigned}
use Rattle.amr_num.specs.declared.SideKind.{SideKind}
use Rattle.amr_num.specs.declared.SideKind.TheVariants.{Periodic, Outflow, Closed}
use Rattle.amr_num.specs.declared.BlockAt.{BlockAt}
use Rattle.amr_num.specs.declared.FaceAt.{FaceAt}
use Rattle.amr_num.specs.declared.EdgeAt.{EdgeAt}
use Rattle.mesh_model.specs.declared.geometry.Shape.{Shape}
use Rattle.mesh_model.specs.Tree.Order.{nodes}
use Rattle.mesh_model.specs.Tree.Kinds.{Grid, is_split_block, is_leaf_face, is_leaf_edge}
use Rattle.mesh_model.specs.Fields.Plain.{Mesh}
use Rattle.mesh_model.specs.Geometry.Canonical.{is_canonical, is_canonical_edge}
use Rattle.mesh_model.specs.Fields.RangeWalk.{cells_walked, faces_walked, edges_walked}
use Rattle.mesh_model.specs.Geometry.Coordinates.{is_same_cell, is_same_face, is_same_edge}
use Rattle.mesh_model.specs.Geometry.Blocks.{is_same_block}
use Rattle.mesh_model.specs.Tree.Start.{start_leaves}
use Rattle.mesh_model.specs.Fields.VariableNames.{VariableNames}
use Rattle.byteorder.specs.Endian.{little_bytes}
use Rattle.sha2.specs.Sha256.{sha256}
use Rattle.mesh_model.specs.Tree.Forest.{visited, lowered}
use Rattle.mesh_model.specs.Images.Keyed.{fresh, value_at}

-- what stands in an image before the nodes
pub record Head : Type 0 where
  pub turn : ℕ
  pub shape : Shape
  pub names : VariableNames

-- ---- places

-- the faces and edges with numbers: the canonical leaf ones in the order of the walk, without those that came before
unfoldable pub leaf_faces : Grid → List FaceAt
leaf_faces g = fresh is_same_face [] (filter (λ f. is_canonical g.shape f && is_leaf_face g f) (faces_walked g))

unfoldable pub leaf_edges : Grid → List EdgeAt
leaf_edges g = fresh is_same_edge [] (filter (λ e. is_canonical_edge g.shape e && is_leaf_edge g e) (edges_walked g))

-- those of the variable, where it is declared
abbrev pub face_places : VariableNames → Grid → List FaceAt
face_places names g = if is_some names.face then leaf_faces g else []

abbrev pub edge_places : VariableNames → Grid → List EdgeAt
edge_places names g = if is_some names.edge then leaf_edges g else []

-- ---- the bytes

abbrev pub side_code : SideKind → ℕ
side_code Periodic = 0
side_code Outflow = 1
side_code Closed = 2

abbrev pub name_bytes : List ℕ → List ℕ
name_bytes name = length name ∷ name

abbrev pub head_bytes : Head → List ℕ
head_bytes h =
    codes "AMRCHK01"
    ++ (h.turn ∷ h.shape.n ∷ h.shape.g ∷ h.shape.rx ∷ h.shape.ry ∷ h.shape.rz ∷ h.shape.min ∷ h.shape.max ∷ [])
    ++ map side_code h.shape.sides
    ++ (length h.names.cells ∷ length (option_to_list h.names.face) ∷ length (option_to_list h.names.edge) ∷ [])
    ++ flat_map name_bytes h.names.cells ++ flat_map name_bytes (option_to_list h.names.face) ++ flat_map name_bytes (option_to_list h.names.edge)

-- a node's code: 4 for a parent; for a leaf 1 where it is marked refine, 2 where derefine, 3 where both, and 0
abbrev pub code_of : Bool → Bool → Bool → ℕ
code_of split refine derefine = if split then 4 else ((if refine then 1 else 0) + (if derefine then 2 else 0))

abbrev pub node_code : Mesh → BlockAt → ℕ
node_code m b = code_of (is_split_block m.grid b) (m.refine b) (m.derefine b)

abbrev pub node_codes : Mesh → List ℕ
node_codes m = map (node_code m) (nodes m.grid.leaves)

abbrev pub content_bytes : ℤ → List ℕ
content_bytes z = little_bytes 8 (cast_unsigned w64 z)

abbrev pub out_bytes : ℤ → List ℕ
out_bytes z = little_bytes 16 (cast_unsigned w128 z)

-- what has flowed out of a cell variable, and its contents
abbrev pub cell_numbers : Mesh → ℕ → ℤ × List ℤ
cell_numbers m v = (m.outs v, map (m.cells v) (cells_walked m.grid))

abbrev pub cell_bytes : ℤ × List ℤ → List ℕ
cell_bytes numbers = out_bytes numbers.0 ++ flat_map content_bytes numbers.1

-- all bytes before the digest
unfoldable pub body : Mesh → ℕ → List ℕ
body m turn =
    head_bytes (record { turn = turn; shape = m.grid.shape; names = m.names })
    ++ little_bytes 4 (length (nodes m.grid.leaves)) ++ node_codes m
    ++ flat_map cell_bytes (map (cell_numbers m) (range_with_len 0 (length m.names.cells)))
    ++ flat_map content_bytes (map m.faces (face_places m.names m.grid))
    ++ flat_map content_bytes (map m.edges (edge_places m.names m.grid))

unfoldable pub image : Mesh → ℕ → List ℕ
image m turn = body m turn ++ sha256 (body m turn)

-- ---- what is stored

pub record Stored : Type 0 where
  pub head : Head
  pub nodes : List ℕ
  pub cells : List (ℤ × List ℤ)
  pub faces : List ℤ
  pub edges : List ℤ

unfoldable pub stored : Mesh → ℕ → Stored
stored m turn = record {
  head = record { turn = turn; shape = m.grid.shape; names = m.names };
  nodes = node_codes m;
  cells = map (cell_numbers m) (range_with_len 0 (length m.names.cells));
  faces = map m.faces (face_places m.names m.grid);
  edges = map m.edges (edge_places m.names m.grid);
}

abbrev pub is_parent : ℕ → Bool
is_parent code = code == 4

abbrev pub has_refine : ℕ → Bool
has_refine code = (code == 1) || (code == 3)

abbrev pub has_derefine : ℕ → Bool
has_derefine code = (code == 2) || (code == 3)

-- the blocks of the nodes
unfoldable pub blocks_by : Shape → List ℕ → List BlockAt
blocks_by s codes = unwrap_or (visited s.max (map is_parent codes) (start_leaves s)) []

unfoldable pub grid_by : Shape → List ℕ → Grid
grid_by s codes = record { shape = s; leaves = lowered (map is_parent codes) (blocks_by s codes) }

-- a block is a node whose code passes
abbrev pub marked : (ℕ → Bool) → List BlockAt → List ℕ → BlockAt → Bool
marked test [] codes b = false
marked test (n ∷ ns) [] b = false
marked test (n ∷ ns) (c ∷ cs) b = (is_same_block n b && test c) || marked test ns cs b

-- what is stored of a cell variable
abbrev pub of_variable : Stored → ℕ → ℤ × List ℤ
of_variable s v = slice_index_or s.cells v (pos 0, [])

unfoldable pub mesh_of : Stored → Mesh
mesh_of s =
    let g = grid_by s.head.shape s.nodes in
    record {
      grid = g;
      names = s.head.names;
      cells = λ v. value_at is_same_cell (cells_walked g) (of_variable s v).1;
      outs = λ v. (of_variable s v).0;
      faces = value_at is_same_face (face_places s.head.names g) s.faces;
      edges = value_at is_same_edge (edge_places s.head.names g) s.edges;
      refine = marked has_refine (blocks_by s.head.shape s.nodes) s.nodes;
      derefine = marked has_derefine (blocks_by s.head.shape s.nodes) s.nodes;
    }
