-- What may be stored in an image.
use Rattle.std.specs.Prelude.{◌≡◌, ◌<◌, ◌≤◌, ℕ, suc, ◌^◌, Bool, true, not, ◌&&◌, ◌||◌, nat_lt, nat_le, List, [], ◌∷◌, length, map, is_some, ℤ}
use Rattle.std.specs.List.{AllByRecursion, list_all}
use Rattle.amr_num.specs.declared.BlockAt.{BlockAt}
use Rattle.amr_num.specs.Numbers.{Within}
use Rattle.mesh_model.specs.declared.geometry.Shape.{Shape}
use Rattle.mesh_model.specs.Geometry.Limits.{IsShape, most_nodes}
use Rattle.mesh_model.specs.Tree.Kinds.{Grid}
use Rattle.mesh_model.specs.Fields.RangeWalk.{cells_walked}
use Rattle.mesh_model.specs.Tree.Start.{start_leaves}
use Rattle.mesh_model.specs.Geometry.Touch.{touches}
use Rattle.mesh_model.specs.Tree.ValidGrid.{LevelRule}
use Rattle.mesh_model.specs.Tree.Forest.{visited}
use Rattle.mesh_model.specs.Images.Image.{Stored, is_parent, has_refine, has_derefine, blocks_by, grid_by, face_places, edge_places}

-- touching leaves differ by at most one level
unfoldable pub keeps_rule : Grid → Bool
keeps_rule g = list_all (λ a. list_all (λ b. not (touches g.shape a b) || nat_le a.level (suc b.level)) g.leaves) g.leaves

-- refine marks stand below the finest level, and derefine marks above the coarsest
abbrev pub marks_stand : Shape → List BlockAt → List ℕ → Bool
marks_stand s [] cs = true
marks_stand s (b ∷ bs) [] = true
marks_stand s (b ∷ bs) (c ∷ cs) = ((not (has_refine c) || nat_lt b.level s.max) && (not (has_derefine c) || nat_lt s.min b.level)) && marks_stand s bs cs

-- codes of the nodes of a valid grid
pub record TreeFits (s : Shape) (codes : List ℕ) : Type 0 where
  pub some : 0 < length codes
  pub few : length codes ≤ most_nodes s
  pub small : AllByRecursion (λ c. c ≤ 4) codes
  pub whole : is_some (visited s.max (map is_parent codes) (start_leaves s)) ≡ true
  pub rule : keeps_rule (grid_by s codes) ≡ true
  pub marks : marks_stand s (blocks_by s codes) codes ≡ true

-- so many numbers within a limit
pub record NumbersFit (n most : ℕ) (zs : List ℤ) : Type 0 where
  pub count : length zs ≡ n
  pub within : AllByRecursion (Within most) zs

pub record CellsFit (count : ℕ) (numbers : ℤ × List ℤ) : Type 0 where
  pub out : Within (2 ^ 100) numbers.0
  pub contents : NumbersFit count (2 ^ 40) numbers.1

pub record StoredFits (s : Stored) : Type 0 where
  pub shape : IsShape s.head.shape
  pub names : length s.head.names.cells ≤ 4
  pub tree : TreeFits s.head.shape s.nodes
  pub variables : length s.cells ≡ length s.head.names.cells
  pub cells : AllByRecursion (CellsFit (length (cells_walked (grid_by s.head.shape s.nodes)))) s.cells
  pub faces : NumbersFit (length (face_places s.head.names (grid_by s.head.shape s.nodes))) (2 ^ 40) s.faces
  pub edges : NumbersFit (length (edge_places s.head.names (grid_by s.head.shape s.nodes))) (2 ^ 40) s.edges
