-- New leaves that hold the old grid's views.
use Rattle.mesh_model.proofs.TreeLemmas.Tiling.{leaf_shows}
use Rattle.mesh_model.proofs.TreeLemmas.Closure.{parent_of_child}
use Rattle.mesh_model.specs.Tree.Order.{IsIn, nodes}
use Rattle.block_tree.proofs.Leaves.{split_leaf, leaf_node, parent_node}
use Rattle.regrid_move.specs.Near.{MayMove, IsNear}
use Rattle.mesh_model.specs.declared.fields.values.Var.{Var}
use Rattle.mesh_model.proofs.TreeLemmas.Tests.{refuted}
use Rattle.std.proofs.Common.{◌≡◌, ℕ, ◌<◌, false, List, ℤ, sym, ap, subst, ◌∙◌, arith, inl, inr}
use Rattle.amr_num.specs.declared.BlockAt.{BlockAt}
use Rattle.amr_num.specs.declared.CellAt.{CellAt}
use Rattle.mesh_model.specs.declared.geometry.Shape.{Shape}
use Rattle.mesh_model.specs.Geometry.Blocks.{child_block, parent_block}
use Rattle.mesh_model.specs.Fields.Octants.{IsSplit, OctantHolds, cells_of}
use Rattle.mesh_model.specs.Fields.ArrayPlaces.{HoldsViews, cell_extents, number_at}
use Rattle.mesh_model.specs.Tree.Kinds.{Grid, is_leaf_block, is_split_block}
use Rattle.mesh_model.specs.Fields.Ranks.{IsSized, WorldState, IsFit, OnlyOf, Told}
use Rattle.mesh_model.specs.Tree.ValidGrid.{Valid}
use Rattle.block_tree.specs.Numbered.{block_at, IsNumberOf}
use Rattle.rank_world.specs.Holding.{IsLeafNode, cell_array, numbers_of}

-- the numbers of an array that a new leaf has, in the old grid's shape
pub moved_as : (old new : WorldState) (v node : ℕ) (content : CellAt → ℤ) (b : BlockAt) (xs : List ℤ) → new.told.grid.shape ≡ old.told.grid.shape → cell_array new v node ≡ xs →
    HoldsViews old.told.grid content b (cells_of old.told.grid xs) → HoldsViews old.told.grid content b (numbers_of new v node)
moved_as old new v node content b xs shape is holds =
    subst (λ (s : Shape). HoldsViews old.told.grid content b (number_at (cell_extents s.n s.g) (cell_array new v node))) (sym shape)
    (subst (λ ys. HoldsViews old.told.grid content b (cells_of old.told.grid ys)) (sym is) holds)

pub octant_as : (old new : WorldState) (v node : ℕ) (content : CellAt → ℤ) (b : BlockAt) (q : ℕ) (xs : List ℤ) → new.told.grid.shape ≡ old.told.grid.shape → cell_array new v node ≡ xs →
    OctantHolds old.told.grid content b q (cells_of old.told.grid xs) → OctantHolds old.told.grid content b q (numbers_of new v node)
octant_as old new v node content b q xs shape is holds =
    subst (λ (s : Shape). OctantHolds old.told.grid content b q (number_at (cell_extents s.n s.g) (cell_array new v node))) (sym shape)
    (subst (λ ys. OctantHolds old.told.grid content b q (cells_of old.told.grid ys)) (sym is) holds)

pub octant_of : (old new : WorldState) (v node : ℕ) (content : CellAt → ℤ) (b : BlockAt) (q : ℕ) → new.told.grid.shape ≡ old.told.grid.shape →
    OctantHolds old.told.grid content b q (numbers_of new v node) → OctantHolds old.told.grid content b q (cells_of old.told.grid (cell_array new v node))
octant_of old new v node content b q shape holds = subst (λ (s : Shape). OctantHolds old.told.grid content b q (number_at (cell_extents s.n s.g) (cell_array new v node))) shape holds

-- parts in the grid's words
pub split_sized : (n e q : ℕ) (s : Shape) (parent old new : List ℤ) → IsSized n e s → IsSplit n e q parent old new → IsSplit s.n s.g q parent old new
split_sized n e q s parent old new sized is =
    subst (λ m. IsSplit m s.g q parent old new) (sym sized.cells) (subst (λ m. IsSplit n m q parent old new) (sym sized.guards) is)

-- a leaf is not split
pub whole_leaf : (g : Grid) → Valid g → (node : ℕ) → IsLeafNode g node → is_split_block g (block_at g node) ≡ false
whole_leaf g valid node leaf = refuted _ (λ s. let none = split_leaf g valid (block_at g node) s in let is = leaf.leaf in cc)

-- a world of which a leaf was written may be moved into further
pub may_again : (n g : ℕ) (old a b : WorldState) (v node : ℕ) (var : Var) → MayMove n g old a v node → OnlyOf a b 0 var node → IsFit n g b → MayMove n g old b v node
may_again n g old a b v node var may only fit = record {
  old_fit = may.old_fit;
  new_fit = fit;
  variable = may.variable;
  counts = ap (λ (t : Told). t.counts) only.told ∙ may.counts;
  shape = ap (λ (t : Told). t.grid.shape) only.told ∙ may.shape;
  range = may.range;
  leaf = subst (λ (t : Told). IsLeafNode t.grid node) (sym only.told) may.leaf;
}

-- a child that is listed among the leaves is a leaf node
pub leaf_node_of : (g : Grid) (b : BlockAt) (node : ℕ) → IsNumberOf g b node → IsIn b g.leaves → IsLeafNode g node
leaf_node_of g b node is i = record { there = is.there; leaf = ap (is_leaf_block g) is.block ∙ leaf_shows g b i }

-- a block whose first child is a leaf is a node
pub over_leaf : (g : Grid) → Valid g → (b : BlockAt) → IsIn (child_block b 0) g.leaves → IsIn b (nodes g.leaves)
over_leaf g valid b i = subst (λ x. IsIn x (nodes g.leaves)) (parent_of_child b 0) (parent_node g valid (child_block b 0) (leaf_node g valid (child_block b 0) i) (omega arith))

-- a block that is near, and neither a leaf nor a leaf's child, has children that are leaves
pub only_children : (g : Grid) (b : BlockAt) → IsNear g b → is_leaf_block g b ≡ false → (0 < b.level → is_leaf_block g (parent_block b) ≡ false) → (q : ℕ) → q < 8 → IsIn (child_block b q) g.leaves
only_children g b near no_leaf no_parent = elim near.which [
  | inl i ↦ (let leaf = leaf_shows g b i in cc)
  | inr (inl p) ↦ (let leaf = leaf_shows g (parent_block b) p.1 in let none = no_parent p.0 in cc)
  | inr (inr all) ↦ all
]
