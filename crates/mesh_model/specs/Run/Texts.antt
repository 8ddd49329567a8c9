-- What the reports print of a mesh.
use Rattle.std.specs.Prelude.{ℕ, ◌+◌, ◌*◌, ◌==◌, if◌then◌else◌, List, [], ◌∷◌, ◌++◌, length, map, flat_map, ℤ, pos, unsigned_abs, codes, decimal, unwrap_or, slice_index_or}
use Rattle.std.specs.Fmt.{signed_decimal}
use Rattle.std.specs.List.{join_with_byte}
use Rattle.amr_num.specs.declared.Axis.{Axis}
use Rattle.amr_num.specs.declared.Axis.TheVariants.{X, Y, Z}
use Rattle.amr_num.specs.declared.BlockAt.{BlockAt}
use Rattle.amr_num.specs.declared.CellAt.{CellAt}
use Rattle.mesh_model.specs.declared.fields.values.Group.{Group}
use Rattle.mesh_model.specs.declared.fields.values.Group.TheVariants.{Cell, Face, Edge}
use Rattle.mesh_model.specs.Geometry.Coordinates.{face_of, edge_of}
use Rattle.mesh_model.specs.Fields.VariableNames.{VariableNames}
use Rattle.mesh_model.specs.Tree.Kinds.{Grid}
use Rattle.mesh_model.specs.Fields.Plain.{Mesh}
use Rattle.mesh_model.specs.Fields.Circulation.{net_flux}
use Rattle.mesh_model.specs.Fields.GuardValues.{cell_guard, face_guard, edge_guard}
use Rattle.mesh_model.specs.Tree.Order.{nodes}
use Rattle.mesh_model.specs.Fields.Totals.{leaf_sum, total}
use Rattle.mesh_model.specs.Fields.Views.{face_view, edge_view}
use Rattle.mesh_model.specs.Geometry.Places.{guard_index, in_block, longer_across, longer_on, places}
use Rattle.mesh_model.specs.Geometry.Canonical.{canonical_edge, canonical_face}

-- a line of words: one space between each two, and one line feed at the end
abbrev pub text_line : List (List ℕ) → List ℕ
text_line words = join_with_byte 32 words ++ codes "\n"

-- a line of numbers
abbrev pub number_line : List ℤ → List ℕ
number_line numbers = text_line (map signed_decimal numbers)

-- the numbers of an array of nx by ny by nz places: a line runs over x, and lines go over y first, then over z
abbrev pub array_text : ℕ → ℕ → ℕ → (ℕ → ℕ → ℕ → ℤ) → List ℕ
array_text nx ny nz at = flat_map (λ k. flat_map (λ j. number_line (map (λ i. at i j k) (places nx))) (places ny)) (places nz)

abbrev pub axis_name : Axis → List ℕ
axis_name X = codes "x"
axis_name Y = codes "y"
axis_name Z = codes "z"

-- how a block is named
abbrev pub block_words : BlockAt → List (List ℕ)
block_words b = codes "block" ∷ decimal b.level ∷ decimal b.x ∷ decimal b.y ∷ decimal b.z ∷ []

-- the name of a group's variable
abbrev pub group_name : VariableNames → Group → List ℕ
group_name names (Cell v) = slice_index_or names.cells v []
group_name names Face = unwrap_or names.face []
group_name names Edge = unwrap_or names.edge []

-- a leaf's contents of a cell variable
abbrev pub cell_block_text : Mesh → ℕ → BlockAt → List ℕ
cell_block_text m v b =
    text_line (codes "cell" ∷ group_name m.names (Cell v) ∷ block_words b)
    ++ array_text m.grid.shape.n m.grid.shape.n m.grid.shape.n (λ i j k. m.cells v (in_block m.grid.shape.n b i j k))

-- a leaf's face views at its own level, with the normal a
abbrev pub face_block_text : Mesh → BlockAt → Axis → List ℕ
face_block_text m b a =
    let n = m.grid.shape.n in
    text_line (codes "face" ∷ group_name m.names Face ∷ axis_name a ∷ block_words b)
    ++ array_text (longer_on a X n) (longer_on a Y n) (longer_on a Z n) (λ i j k. face_view m.grid m.faces (canonical_face m.grid.shape (face_of a (in_block n b i j k))))

-- a leaf's edge views at its own level, along the axis a
abbrev pub edge_block_text : Mesh → BlockAt → Axis → List ℕ
edge_block_text m b a =
    let n = m.grid.shape.n in
    text_line (codes "edge" ∷ group_name m.names Edge ∷ axis_name a ∷ block_words b)
    ++ array_text (longer_across a X n) (longer_across a Y n) (longer_across a Z n) (λ i j k. edge_view m.grid m.edges (canonical_edge m.grid.shape (edge_of a (in_block n b i j k))))

-- the numbers of a variable, leaf by leaf
abbrev pub variable_text : Mesh → Group → List ℕ
variable_text m (Cell v) = flat_map (cell_block_text m v) m.grid.leaves
variable_text m Face = flat_map (λ b. flat_map (face_block_text m b) (X ∷ Y ∷ Z ∷ [])) m.grid.leaves
variable_text m Edge = flat_map (λ b. flat_map (edge_block_text m b) (X ∷ Y ∷ Z ∷ [])) m.grid.leaves

-- the total of a cell variable, and what has flowed out of the domain
abbrev pub total_line : List ℕ → ℤ → ℤ → List ℕ
total_line name total out = text_line (codes "total" ∷ name ∷ signed_decimal total ∷ codes "out" ∷ signed_decimal out ∷ [])

abbrev pub total_text : Mesh → ℕ → List ℕ
total_text m v = total_line (group_name m.names (Cell v)) (total m.grid (m.cells v)) (m.outs v)

-- how many nodes and leaves there are
unfoldable pub size_text : Grid → List ℕ
size_text g = text_line (codes "mesh" ∷ codes "nodes" ∷ decimal (length (nodes g.leaves)) ∷ codes "leaves" ∷ decimal (length g.leaves) ∷ [])

-- the same line, and the leaves
abbrev pub leaf_text : BlockAt → List ℕ
leaf_text b = text_line (codes "leaf" ∷ decimal b.level ∷ decimal b.x ∷ decimal b.y ∷ decimal b.z ∷ [])

unfoldable pub mesh_text : Grid → List ℕ
mesh_text g = size_text g ++ flat_map leaf_text g.leaves

-- how many leaf cells have a net flux
abbrev pub netflux_line : List ℕ → ℤ → List ℕ
netflux_line name cells = text_line (codes "netflux" ∷ name ∷ codes "cells" ∷ signed_decimal cells ∷ [])

unfoldable pub netflux_text : Mesh → List ℕ
netflux_text m =
    let counted : CellAt → ℤ = λ c. if unsigned_abs (net_flux m.grid (face_view m.grid m.faces) c) == 0 then pos 0 else pos 1 in
    netflux_line (group_name m.names Face) (leaf_sum m.grid counted)

-- the numbers of a variable in and round a leaf
unfoldable pub guards_text : Mesh → Group → BlockAt → List ℕ
guards_text m (Cell v) b =
    let n = m.grid.shape.n in
    let g = m.grid.shape.g in
    text_line (codes "guards" ∷ group_name m.names (Cell v) ∷ block_words b)
    ++ array_text (n + 2 * g) (n + 2 * g) (n + 2 * g) (λ i j k. cell_guard m.grid (m.cells v) b.level (guard_index n g b.x i) (guard_index n g b.y j) (guard_index n g b.z k))
guards_text m Face b =
    let n = m.grid.shape.n in
    let g = m.grid.shape.g in
    flat_map (λ a. text_line (codes "guards" ∷ group_name m.names Face ∷ axis_name a ∷ block_words b)
    ++ array_text (longer_on a X n + 2 * g) (longer_on a Y n + 2 * g) (longer_on a Z n + 2 * g) (λ i j k. face_guard m.grid m.faces a b.level (guard_index n g b.x i) (guard_index n g b.y j) (guard_index n g b.z k))) (X ∷ Y ∷ Z ∷ [])
guards_text m Edge b =
    let n = m.grid.shape.n in
    let g = m.grid.shape.g in
    flat_map (λ a. text_line (codes "guards" ∷ group_name m.names Edge ∷ axis_name a ∷ block_words b)
    ++ array_text (longer_across a X n + 2 * g) (longer_across a Y n + 2 * g) (longer_across a Z n + 2 * g) (λ i j k. edge_guard m.grid m.edges a b.level (guard_index n g b.x i) (guard_index n g b.y j) (guard_index n g b.z k))) (X ∷ Y ∷ Z ∷ [])
