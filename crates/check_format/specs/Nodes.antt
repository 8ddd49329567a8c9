-- The nodes that are read.
use Rattle.std.specs.Prelude.{◌≡◌, ℕ, Bool, not, ◌&&◌, ◌||◌, nat_lt, nat_le, List, length, map}
use Rattle.amr_num.specs.declared.BlockAt.{BlockAt}
use Rattle.mesh_model.specs.declared.geometry.Shape.{Shape}
use Rattle.mesh_model.specs.Geometry.Limits.{most_nodes}
use Rattle.mesh_model.specs.Images.Codec.{Codec, followed, number, times, via, where_passes}
use Rattle.mesh_model.specs.Images.Image.{code_of, has_derefine, has_refine}
use Rattle.mesh_model.specs.Images.Reading.{any}
use Rattle.mesh_model.specs.Tree.Kinds.{Grid, is_split_block}
use Rattle.mesh_model.specs.Tree.Order.{nodes}
use Rattle.block_tree.specs.declared.marks.Marks.{Marks}
use Rattle.block_tree.specs.GridOf.{grid_of}
use Rattle.block_tree.specs.Marked.{IsMarksOf, derefine_of, refine_of, room}
use Rattle.check_format.specs.declared.reading.nodes.Nodes.{Nodes}

-- the number of nodes and the codes of so many, before they are looked at
abbrev pub codes : Shape → Codec (List ℕ)
codes s = via (λ (p : ℕ × List ℕ). p.1) (λ cs. (length cs, cs)) (followed (where_passes (λ n. nat_lt 0 n && nat_le n (most_nodes s)) (number 4)) (λ n. times n any))

-- the marks of a code may stand on a block of this level
abbrev pub may_stand : Shape → ℕ → ℕ → Bool
may_stand s level code = (not (has_refine code) || nat_lt level s.max) && (not (has_derefine code) || nat_lt s.min level)

-- the codes of a grid's nodes with these marks
unfoldable pub codes_of : Grid → Marks → List ℕ
codes_of g marks = map (λ b. code_of (is_split_block g b) (refine_of g marks b) (derefine_of g marks b)) (nodes g.leaves)

-- the marks are those of a tree of this shape, with room for all its nodes after any change
pub record IsOf (s : Shape) (n : Nodes) : Type 0 where
  pub shape : (grid_of n.tree).shape ≡ s
  pub room : room n.marks ≡ most_nodes s
  pub marks : IsMarksOf (grid_of n.tree) n.marks
