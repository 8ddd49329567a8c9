-- How far a writer came.
use Rattle.std.specs.Prelude.{◌≡◌, ℕ, ◌≤◌, ◌<◌, ◌++◌, true, false, ℤ, IfSome, Option, is_some, List, [], length, flat_map, map, if◌then◌else◌}
use Rattle.std.specs.List.{range_with_len}
use Rattle.sha2.specs.Sha256.{sha256}
use Rattle.sha2.specs.Hashers.{Holds256}
use Rattle.amr_num.specs.declared.BlockAt.{BlockAt}
use Rattle.block_tree.specs.declared.tree.Tree.{Tree}
use Rattle.block_tree.specs.declared.marks.Marks.{Marks}
use Rattle.block_tree.specs.GridOf.{grid_of}
use Rattle.block_tree.specs.Interior.{HasInterior, HasViews}
use Rattle.block_tree.specs.Marked.{derefine_of, refine_of}
use Rattle.block_tree.specs.Numbered.{block_at}
use Rattle.mesh_model.specs.declared.fields.values.Var.{Var}
use Rattle.mesh_model.specs.declared.fields.values.Group.TheVariants.{Cell, Face, Edge}
use Rattle.mesh_model.specs.Fields.Plain.{Mesh}
use Rattle.mesh_model.specs.Fields.Valid.{ValidMesh}
use Rattle.mesh_model.specs.Fields.VariableNames.{VariableNames}
use Rattle.mesh_model.specs.Images.Image.{body}
use Rattle.mesh_model.specs.Tree.Kinds.{Grid}
use Rattle.check_format.specs.declared.leaves.LastLeaf.{LastLeaf}
use Rattle.check_format.specs.declared.writer.ImageWriter.{ImageWriter}
use Rattle.check_format.specs.Own.{IsOwn}
use Rattle.check_format.specs.Numbered.{Pieces, from_piece, whole}
use Rattle.check_format.specs.Written.{Handed, Numbers, image_pieces, of_mesh}

-- what is handed to a writer with a turn
abbrev pub handed : ℕ → Tree → Marks → VariableNames → List ℤ → Numbers → Handed
handed turn tree marks names outs number = record { turn = turn; grid = grid_of tree; names = names; outs = outs; refine = refine_of (grid_of tree) marks; derefine = derefine_of (grid_of tree) marks; number = number }

-- at each interior place of the leaves' arrays of declared variables there is a number
pub record HasNumbers (is_there : Var → ℕ → ℤ → ℤ → ℤ → Type 0) (g : Grid) (names : VariableNames) : Type 0 where
  pub cells : (v : ℕ) → v < length names.cells → HasInterior is_there g (Cell v)
  pub face : is_some names.face ≡ true → HasInterior is_there g Face
  pub edge : is_some names.edge ≡ true → HasInterior is_there g Edge

-- what is handed stands for a mesh
pub record StandsFor (m : Mesh) (h : Handed) : Type 0 where
  pub grid : h.grid ≡ m.grid
  pub names : h.names ≡ m.names
  pub outs : h.outs ≡ map m.outs (range_with_len 0 (length m.names.cells))
  pub refine : (b : BlockAt) → h.refine b ≡ m.refine b
  pub derefine : (b : BlockAt) → h.derefine b ≡ m.derefine b
  pub cells : (v : ℕ) → v < length m.names.cells → HasViews h.number m (Cell v)
  pub face : is_some m.names.face ≡ true → HasViews h.number m Face
  pub edge : is_some m.names.edge ≡ true → HasViews h.number m Edge

-- what is remembered of the last leaf is of this grid
abbrev pub IsOfGrid : Grid → Option LastLeaf → Type 0
IsOfGrid g last = IfSome last (λ t. IsOwn g (block_at g t.node) t.own)

-- the first pieces
abbrev pub first_pieces : Pieces → ℕ → List ℕ
first_pieces p n = flat_map p.piece (range_with_len 0 n)

-- what a writer of these pieces has still to give: the pieces from the next on, and their digest
abbrev pub left_of : Pieces → ImageWriter → List ℕ
left_of p w = if w.ended then [] else from_piece p w.next ++ sha256 (whole p)

-- its hasher took in the pieces that were given, and where the digest was given all were
pub record IsWriterOf (p : Pieces) (w : ImageWriter) : Type 0 where
  pub within : w.next ≤ p.count
  pub ended : w.ended ≡ true → w.next ≡ p.count
  pub hasher : w.ended ≡ false → Holds256 w.hasher (first_pieces p w.next)

-- the same of the image of a mesh
abbrev pub left : Mesh → ImageWriter → List ℕ
left m w = left_of (image_pieces (of_mesh m w.turn)) w

abbrev pub IsWriter : Mesh → ImageWriter → Type 0
IsWriter m w = IsWriterOf (image_pieces (of_mesh m w.turn)) w

-- the pieces of a mesh are its image but for the digest
abbrev pub PiecesAreBody : Type 0
PiecesAreBody = (m : Mesh) (turn : ℕ) → ValidMesh m → whole (image_pieces (of_mesh m turn)) ≡ body m turn

-- what stands for a mesh has its pieces
abbrev pub SamePieces : Type 0
SamePieces = (m : Mesh) (h : Handed) (k : ℕ) → ValidMesh m → StandsFor m h → k < (image_pieces h).count → (image_pieces h).piece k ≡ (image_pieces (of_mesh m h.turn)).piece k
