-- When a mesh is valid.
use Rattle.std.specs.Prelude.{◌≡◌, ℕ, false, ◌&&◌, ◌≤◌, pos, length, None}
use Rattle.amr_num.specs.declared.CellAt.{CellAt}
use Rattle.amr_num.specs.declared.FaceAt.{FaceAt}
use Rattle.amr_num.specs.declared.EdgeAt.{EdgeAt}
use Rattle.amr_num.specs.Numbers.{Within, number_range, outflow_range}
use Rattle.mesh_model.specs.Tree.Kinds.{is_leaf, is_leaf_face, is_leaf_edge}
use Rattle.mesh_model.specs.Fields.Plain.{Mesh, marked}
use Rattle.mesh_model.specs.Tree.MarkedGrid.{MarksFit, ValidMarkedGrid}
use Rattle.mesh_model.specs.Geometry.Canonical.{is_canonical, is_canonical_edge}
pub use Rattle.mesh_model.specs.Tree.Order.{IsIn}
use Rattle.mesh_model.specs.Tree.Order.{Sorted}
use Rattle.mesh_model.specs.Tree.ValidGrid.{FewNodes, Valid}

-- numbers stand on leaf cells, canonical leaf faces and canonical leaf edges, and are 0 elsewhere
pub record OnLeaves (m : Mesh) : Type 0 where
  pub cells : (v : ℕ) (c : CellAt) → is_leaf m.grid c ≡ false → m.cells v c ≡ pos 0
  pub faces : (f : FaceAt) → (is_canonical m.grid.shape f && is_leaf_face m.grid f) ≡ false → m.faces f ≡ pos 0
  pub edges : (e : EdgeAt) → (is_canonical_edge m.grid.shape e && is_leaf_edge m.grid e) ≡ false → m.edges e ≡ pos 0

-- there are at most four cell variables, and numbers are 0 for what is not declared
pub record OfDeclared (m : Mesh) : Type 0 where
  pub few : length m.names.cells ≤ 4
  pub cells : (v : ℕ) → length m.names.cells ≤ v → (c : CellAt) → m.cells v c ≡ pos 0
  pub outs : (v : ℕ) → length m.names.cells ≤ v → m.outs v ≡ pos 0
  pub faces : m.names.face ≡ None → (f : FaceAt) → m.faces f ≡ pos 0
  pub edges : m.names.edge ≡ None → (e : EdgeAt) → m.edges e ≡ pos 0

-- leaf numbers are at most 2^40 in absolute value, and what flowed out at most 2^100
pub record InRange (m : Mesh) : Type 0 where
  pub cells : (v : ℕ) (c : CellAt) → Within number_range (m.cells v c)
  pub outs : (v : ℕ) → Within outflow_range (m.outs v)
  pub faces : (f : FaceAt) → Within number_range (m.faces f)
  pub edges : (e : EdgeAt) → Within number_range (m.edges e)

-- the grid is valid, its leaves are listed in Morton order, there are not too many nodes, numbers are in their places, of declared variables and in range, and
-- marks where they may be
pub record ValidMesh (m : Mesh) : Type 0 where
  pub grid : Valid m.grid
  pub order : Sorted m.grid.leaves
  pub nodes : FewNodes m.grid
  pub numbers : OnLeaves m
  pub declared : OfDeclared m
  pub range : InRange m
  pub marks : MarksFit (marked m)

-- its grid with the marks is valid
abbrev pub valid_marked : (m : Mesh) → ValidMesh m → ValidMarkedGrid (marked m)
valid_marked m valid = record { grid = valid.grid; order = valid.order; nodes = valid.nodes; marks = valid.marks }
