-- What is read of bytes.
use Rattle.std.specs.Prelude.{◌≡◌, ℕ, List, length, map, Ok, Err}
use Rattle.std.specs.List.{zip}
use Rattle.block_tree.specs.GridOf.{grid_of}
use Rattle.block_tree.specs.Marked.{IsMarksOf, room}
use Rattle.mesh_model.specs.Fields.RangeWalk.{cells_walked}
use Rattle.mesh_model.specs.Fields.VariableNames.{VariableNames}
use Rattle.mesh_model.specs.Geometry.Limits.{most_nodes}
use Rattle.mesh_model.specs.Images.Codec.{IsBytes}
use Rattle.mesh_model.specs.Images.Image.{Stored, edge_places, face_places, grid_by}
use Rattle.mesh_model.specs.Images.Reading.{digest_found, digest_kept, read, read_body}
use Rattle.mesh_model.specs.Tree.Kinds.{Grid}
use Rattle.check_format.specs.Nodes.{codes_of}
use Rattle.mesh_model.specs.declared.images.BadImage.{BadImage}
use Rattle.check_format.specs.declared.reading.images.BodyStop.{BodyStop}
use Rattle.check_format.specs.declared.reading.images.BodyStop.TheVariants as body
use Rattle.check_format.specs.declared.reading.images.Image.{Image}
use Rattle.check_format.specs.declared.reading.images.ImageStop.{ImageStop}
use Rattle.check_format.specs.declared.reading.images.ImageStop.TheVariants as image
use Rattle.check_format.specs.declared.reading.lists.Counts.{Counts}

-- what stands in the image
unfoldable pub stored_in : Image → Stored
stored_in im = record {
  head = record { turn = im.turn; shape = im.declared.shape; names = im.declared.names };
  nodes = codes_of (grid_of im.tree) im.marks;
  cells = zip im.outs.items (map (λ contents. contents.items) im.cells.items);
  faces = im.faces.items;
  edges = im.edges.items;
}

-- the tree is of the declared shape and is that of its nodes' codes, the marks are its own, with room for all nodes of any tree of the shape,
-- and there are an outflow and a list of contents for each cell variable
pub record IsWhole (im : Image) : Type 0 where
  pub shape : (grid_of im.tree).shape ≡ im.declared.shape
  pub grid : grid_by im.declared.shape (codes_of (grid_of im.tree) im.marks) ≡ grid_of im.tree
  pub marks : IsMarksOf (grid_of im.tree) im.marks
  pub room : room im.marks ≡ most_nodes im.declared.shape
  pub outs : length im.outs.items ≡ length im.declared.names.cells
  pub cells : length im.cells.items ≡ length im.declared.names.cells

-- the image is one that was read of bytes
pub record IsRead (im : Image) : Type 0 where
  pub bytes : List ℕ
  pub are : IsBytes bytes
  pub read : read bytes ≡ Ok (stored_in im)
  pub whole : IsWhole im

-- how many numbers a grid and names ask for
pub record AreCounts (v : VariableNames) (g : Grid) (c : Counts) : Type 0 where
  pub variables : c.variables ≡ length v.cells
  pub cells : c.cells ≡ length (cells_walked g)
  pub faces : c.faces ≡ length (face_places v g)
  pub edges : c.edges ≡ length (edge_places v g)

-- why bytes before the digest are none of an image: this part of them fails, or there was no memory
abbrev pub IsBodyStop : List ℕ → BodyStop → Type 0
IsBodyStop bytes (body.Bad p) = read_body bytes ≡ Err p
IsBodyStop bytes body.OutOfMemory = Unit {0}

-- these bytes are no image: the first part that fails, the digest that is kept and the one that was found
pub record IsBad (bytes : List ℕ) (b : BadImage) : Type 0 where
  pub part : read bytes ≡ Err b.part
  pub kept : b.kept ≡ digest_kept bytes
  pub found : b.found ≡ digest_found bytes

-- why bytes give no image
abbrev pub IsImageStop : List ℕ → ImageStop → Type 0
IsImageStop bytes (image.Bad b) = IsBad bytes b
IsImageStop bytes image.OutOfMemory = Unit {0}
