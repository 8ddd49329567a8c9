-- Lists of numbers that are those of a mesh, in the order of its image.
use Rattle.std.specs.Prelude.{◌≡◌, ◌↔◌, ℕ, List, [], length, map, None, ℤ, slice_index_or}
use Rattle.std.specs.List.{range_with_len}
use Rattle.std.specs.Global.{Vec}
use Rattle.block_store.specs.Held.{numbers}
use Rattle.mesh_model.specs.declared.fields.values.Var.{Var}
use Rattle.mesh_model.specs.declared.fields.values.Var.TheVariants.{Cell}
use Rattle.mesh_model.specs.Fields.Ranks.{WorldState, rank_at}
use Rattle.mesh_model.specs.Fields.Arrays.{Counts, array_in}
use Rattle.mesh_model.specs.Fields.Plain.{Mesh}
use Rattle.mesh_model.specs.Fields.RangeWalk.{cells_walked}
use Rattle.mesh_model.specs.Images.Image.{edge_places, face_places}
use Rattle.mesh_model.specs.Tree.Kinds.{Grid}

-- there are arrays for the mesh's variables
pub record IsLayoutOf (m : Mesh) (n : Counts) : Type 0 where
  pub cells : n.cells ≡ length m.names.cells
  pub faces : (n.faces ≡ 0) ↔ (m.names.face ≡ None)
  pub edges : (n.edges ≡ 0) ↔ (m.names.edge ≡ None)

-- the grid is the mesh's, the lists have the contents of each cell variable, and the numbers of the leaf faces and of the leaf edges
pub record IsStoredOf (m : Mesh) (g : Grid) (n : Counts) (contents : List (List ℤ)) (on_faces on_edges : List ℤ) : Type 0 where
  pub grid : g ≡ m.grid
  pub layout : IsLayoutOf m n
  pub cells : contents ≡ map (λ v. map (m.cells v) (cells_walked m.grid)) (range_with_len 0 (length m.names.cells))
  pub faces : on_faces ≡ map m.faces (face_places m.names m.grid)
  pub edges : on_edges ≡ map m.edges (edge_places m.names m.grid)

-- one of the lists
abbrev pub list_at : List (Vec ℤ) → ℕ → List ℤ
list_at vs v = slice_index_or (numbers vs) v []

-- the arrays of cell variables may have other numbers, and all else is as it was
pub record OnlyCellArrays (old new : WorldState) : Type 0 where
  pub told : new.told ≡ old.told
  pub others : (u : Var) (at : ℕ) → ((v : ℕ) → u ≡ Cell v → ⊥) → array_in (rank_at new 0).own.values u at ≡ array_in (rank_at old 0).own.values u at
