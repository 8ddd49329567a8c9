-- New leaves whose faces or edges hold the old grid's views.
use Rattle.std.proofs.Common.{◌≡◌, ◌≢◌, ℕ, suc, ◌+◌, ◌-◌, ◌*◌, ◌/◌, ◌%◌, ◌<◌, ◌≤◌, ◌⊎◌, ◌^◌, true, List, length, ℤ, sym, ap, refl, subst, ◌∙◌, arith, inl, inr}
use Rattle.amr_num.specs.Numbers.{Within}
use Rattle.amr_num.specs.declared.Axis.{Axis}
use Rattle.amr_num.specs.declared.Axis.TheVariants.{X, Y, Z}
use Rattle.amr_num.specs.declared.BlockAt.{BlockAt}
use Rattle.amr_num.specs.declared.EdgeAt.{EdgeAt}
use Rattle.amr_num.specs.declared.FaceAt.{FaceAt}
use Rattle.mesh_model.specs.declared.geometry.Shape.{Shape}
use Rattle.mesh_model.specs.declared.fields.values.Var.{Var}
use Rattle.mesh_model.specs.declared.fields.values.Var.TheVariants.{Edge, Face}
use Rattle.mesh_model.specs.Geometry.Blocks.{InDomain, LiesIn, child_block}
use Rattle.mesh_model.specs.Geometry.Canonical.{canonical_on}
use Rattle.mesh_model.specs.Geometry.Coordinates.{face_of, next}
use Rattle.mesh_model.specs.Geometry.Places.{in_block, longer_across, longer_on}
use Rattle.mesh_model.specs.Fields.ArrayPlaces.{HoldsEdgeField, HoldsEdges, HoldsFaceField, HoldsFaces, IsSize, edge_extents, extents_of, face_extents, number_at}
use Rattle.mesh_model.specs.Fields.Arrays.{Counts, HasArray, HasVar, array_in, var_length}
use Rattle.mesh_model.specs.Fields.FinePlaces.{FineSumsAreSmall, IsSummed, edges_in, faces_in}
use Rattle.mesh_model.specs.Fields.Octants.{half_at}
use Rattle.mesh_model.specs.Fields.Plain.{Mesh}
use Rattle.mesh_model.specs.Fields.Ranks.{IsFit, IsSized, OnlyOf, Told, WorldState, rank_at, world_with}
use Rattle.mesh_model.specs.Fields.Valid.{ValidMesh}
use Rattle.mesh_model.specs.Fields.Views.{edge_view, face_view}
use Rattle.mesh_model.specs.Tree.Kinds.{Grid, is_split_block, is_split_edge, is_split_face}
use Rattle.mesh_model.specs.Tree.Order.{IsIn}
use Rattle.mesh_model.specs.Tree.ValidGrid.{Valid}
use Rattle.mesh_model.proofs.FieldLemmas.Bounds.{wider}
use Rattle.mesh_model.proofs.FieldLemmas.EdgeBounds.{split_edge_within}
use Rattle.mesh_model.proofs.FieldLemmas.KeptValid.{leaf_cells_few}
use Rattle.mesh_model.proofs.FieldLemmas.SideBounds.{split_face_within}
use Rattle.mesh_model.proofs.FieldLemmas.Worlds.{fit_after, has_array, only_of, written_in}
use Rattle.mesh_model.proofs.GeometryLemmas.ShapeLimits.{cells_least, cells_some}
use Rattle.mesh_model.proofs.TreeLemmas.Nodes.{in_node}
use Rattle.mesh_model.proofs.TreeLemmas.Tiling.{leaf_says, split_shows}
use Rattle.block_tree.proofs.Leaves.{node_inside}
use Rattle.block_tree.specs.Directions.{edge_name}
use Rattle.block_tree.specs.Numbered.{IsNode, block_at}
use Rattle.rank_world.specs.Holding.{IsLeafNode, IsOfValidMesh, OnlyAxes, OnlyAxesOf}
use Rattle.rank_world.proofs.FaceBlocks.{split_face_there}
use Rattle.restrict_op.proofs.EdgeOctants as edges
use Rattle.restrict_op.proofs.FaceOctants as faces
use Rattle.restrict_op.proofs.FineOctants.{var_along, whole_below}
use Rattle.regrid_move.specs.AxisMoves.{AxesMoved, AxisMoved, AxisOctantMoved, FieldOf, HasAxes, HoldsAxis, LeafAxesMoved, MayMoveAllAxes, MayMoveAxes, OctantHoldsAxis, array_of, count_of, var_of, view_of}
use Rattle.regrid_move.specs.Near.{AreNear}
use Rattle.regrid_move.specs.declared.kinds.Staggered.{Staggered}
use Rattle.regrid_move.specs.declared.kinds.Staggered.TheVariants.{Edges, Faces}
use Rattle.block_tree.proofs.RoundEdges.{split_edge_there}

-- ---- worlds of which arrays on axes are written

-- a world of which a leaf's arrays were written may be moved into further
pub may_again : (n g : ℕ) (k : Staggered) (old a b : WorldState) (node : ℕ) → MayMoveAxes n g k old a node → b.told ≡ a.told → IsFit n g b → MayMoveAxes n g k old b node
may_again n g k old a b node may told fit = record {
  old_fit = may.old_fit;
  new_fit = fit;
  declared = may.declared;
  counts = ap (λ (t : Told). t.counts) told ∙ may.counts;
  shape = ap (λ (t : Told). t.grid.shape) told ∙ may.shape;
  mesh = may.mesh;
  leaf = subst (λ (t : Told). IsLeafNode t.grid node) (sym told) may.leaf;
}

same_axis : (k : Staggered) (x y : Axis) → var_of k x ≡ var_of k y → x ≡ y
same_axis Faces x y is = cc
same_axis Edges x y is = cc

-- the arrays of a kind that is declared are there
pub has_axis : (k : Staggered) (counts : Counts) (a : Axis) → 0 < count_of k counts → HasVar counts (var_of k a)
has_axis Faces counts a some = some
has_axis Edges counts a some = some

-- a node's array on an axis that is given other numbers
module _ (n e : ℕ) (k : Staggered) (w : WorldState) (a : Axis) (node : ℕ) (var : Var) (is : var ≡ var_of k a) (xs : List ℤ) (size : IsSize n e) (fit : IsFit n e w) (there : IsNode w.told.grid node)
    (declared : 0 < count_of k w.told.counts) where
  pub axis_there : HasArray (rank_at w 0).own.values var node
  axis_there = has_array n e w var node fit there (subst (HasVar w.told.counts) (sym is) (has_axis k w.told.counts a declared))

  pub axis_only : OnlyOf w (world_with w 0 var node xs) 0 (var_of k a) node
  axis_only = subst (λ u. OnlyOf w (world_with w 0 var node xs) 0 u node) is (only_of w var node xs fit.one)

  pub axis_fit : IsFit n e (world_with w 0 var node xs)
  axis_fit = fit_after w var node xs fit.one n e size fit axis_there

  pub axis_value : length xs ≡ var_length n e var → array_of k (world_with w 0 var node xs) a node ≡ xs
  axis_value long = subst (λ u. array_in (rank_at (world_with w 0 var node xs) 0).own.values u node ≡ xs) is (written_in w var node xs fit.one n e size fit axis_there long)

-- what an array on an axis holds is held where another axis' is written
module _ (k : Staggered) (old b c : WorldState) (field : FieldOf k) (node : ℕ) (a x : Axis) (only : OnlyOf b c 0 (var_of k x) node) (apart : a ≢ x) where
  kept : array_of k c a node ≡ array_of k b a node
  kept = only.here.others (var_of k a) node (λ is at. apart (same_axis k a x is))

  pub axis_stays : AxisMoved k old b field node a → AxisMoved k old c field node a
  axis_stays moved =
      subst (λ (t : Told). HoldsAxis k old.told.grid field a (block_at t.grid node) (array_of k c a node)) (sym only.told)
      (subst (λ xs. HoldsAxis k old.told.grid field a (block_at b.told.grid node) xs) (sym kept) moved)

  pub octant_stays : (q : ℕ) → AxisOctantMoved k old b field node q a → AxisOctantMoved k old c field node q a
  octant_stays q moved =
      subst (λ (t : Told). OctantHoldsAxis k old.told.grid field a (block_at t.grid node) q (array_of k c a node)) (sym only.told)
      (subst (λ xs. OctantHoldsAxis k old.told.grid field a (block_at b.told.grid node) q xs) (sym kept) moved)

-- three axes, one after the other
module _ (k : Staggered) (b x y z : WorldState) (node : ℕ) (on_x : OnlyOf b x 0 (var_of k X) node) (on_y : OnlyOf x y 0 (var_of k Y) node) (on_z : OnlyOf y z 0 (var_of k Z) node) where
  pub three_told : z.told ≡ b.told
  three_told = on_z.told ∙ on_y.told ∙ on_x.told

  pub only_three : OnlyAxesOf (var_of k) b z node
  only_three = record {
    told = three_told;
    others = λ u at none. on_z.here.others u at (λ is same. none Z is same) ∙ on_y.here.others u at (λ is same. none Y is same) ∙ on_x.here.others u at (λ is same. none X is same);
  }

  module _ (old : WorldState) (field : FieldOf k) where
    pub three_moved : AxisMoved k old x field node X → AxisMoved k old y field node Y → AxisMoved k old z field node Z → AxesMoved k old z field node
    three_moved mx my mz X = axis_stays k old y z field node X Z on_z (λ is. absurd cc) (axis_stays k old x y field node X Y on_y (λ is. absurd cc) mx)
    three_moved mx my mz Y = axis_stays k old y z field node Y Z on_z (λ is. absurd cc) my
    three_moved mx my mz Z = mz

    -- what holds of each axis alone, of an octant
    pub three_octants : (q : ℕ) → AxisOctantMoved k old x field node q X → AxisOctantMoved k old y field node q Y → AxisOctantMoved k old z field node q Z → (a : Axis) → AxisOctantMoved k old z field node q a
    three_octants q mx my mz X = octant_stays k old y z field node X Z on_z (λ is. absurd cc) q (octant_stays k old x y field node X Y on_y (λ is. absurd cc) q mx)
    three_octants q mx my mz Y = octant_stays k old y z field node Y Z on_z (λ is. absurd cc) q my
    three_octants q mx my mz Z = mz

    -- an octant of each axis is kept where it is as its axis is written
    pub octants_kept : (q : ℕ) → (AxisOctantMoved k old b field node q X → AxisOctantMoved k old x field node q X) → (AxisOctantMoved k old x field node q Y → AxisOctantMoved k old y field node q Y) →
        (AxisOctantMoved k old y field node q Z → AxisOctantMoved k old z field node q Z) → (a : Axis) → AxisOctantMoved k old b field node q a → AxisOctantMoved k old z field node q a
    octants_kept q kx ky kz X moved = octant_stays k old y z field node X Z on_z (λ is. absurd cc) q (octant_stays k old x y field node X Y on_y (λ is. absurd cc) q (kx moved))
    octants_kept q kx ky kz Y moved = octant_stays k old y z field node Y Z on_z (λ is. absurd cc) q (ky (octant_stays k old b x field node Y X on_x (λ is. absurd cc) q moved))
    octants_kept q kx ky kz Z moved = kz (octant_stays k old x y field node Z Y on_y (λ is. absurd cc) q (octant_stays k old b x field node Z X on_x (λ is. absurd cc) q moved))

-- nothing is written, and what is written twice
pub none_of : (var : Axis → Var) (a : WorldState) (node : ℕ) → OnlyAxesOf var a a node
none_of var a node = record { told = refl; others = λ u at none. refl }

pub only_again : (var : Axis → Var) (a b c : WorldState) (node : ℕ) → OnlyAxesOf var a b node → OnlyAxesOf var b c node → OnlyAxesOf var a c node
only_again var a b c node first second = record { told = second.told ∙ first.told; others = λ u at none. second.others u at none ∙ first.others u at none }

-- ---- sums

-- sums in the sizes of a world's blocks and in the grid's
pub summed_sized : (n e q : ℕ) (var : Var) (s : Shape) (child old new : List ℤ) → IsSized n e s → IsSummed n e var q child old new → IsSummed s.n s.g var q child old new
summed_sized n e q var s child old new sized is =
    subst (λ m. IsSummed m s.g var q child old new) (sym sized.cells) (subst (λ m. IsSummed n m var q child old new) (sym sized.guards) is)

small_sized : (n e : ℕ) (var : Var) (s : Shape) (child : List ℤ) → IsSized n e s → FineSumsAreSmall s.n s.g var (number_at (extents_of s.n s.g var) child) → FineSumsAreSmall n e var (number_at (extents_of n e var) child)
small_sized n e var s child sized few =
    subst (λ m. FineSumsAreSmall m e var (number_at (extents_of m e var) child)) sized.cells
    (subst (λ m. FineSumsAreSmall s.n m var (number_at (extents_of s.n m var) child)) sized.guards few)

wide : (g : Grid) → Valid g → 1 < g.shape.n
wide g valid = let least = cells_least valid.shape in omega (arith, least)

-- in a valid mesh the views of faces with a split side, and of edges with a split cell round them, are small
split_face_small : (m : Mesh) → ValidMesh m → (f : FaceAt) → is_split_face m.grid f ≡ true → Within (2 ^ 62) (face_view m.grid m.faces f)
split_face_small m valid f split =
    wider (face_view m.grid m.faces f) _ (2 ^ 62) (split_face_within m.grid valid.grid m.faces (2 ^ 40) (λ h leaf. valid.range.faces h) (wide m.grid valid.grid) f split) (leaf_cells_few m valid)

split_edge_small : (m : Mesh) → ValidMesh m → (e : EdgeAt) → is_split_edge m.grid e ≡ true → Within (2 ^ 62) (edge_view m.grid m.edges e)
split_edge_small m valid e split =
    wider (edge_view m.grid m.edges e) _ (2 ^ 62) (split_edge_within m.grid valid.grid m.edges (2 ^ 40) (λ h leaf. valid.range.edges h) (wide m.grid valid.grid) e split) (leaf_cells_few m valid)

-- so the sums of a child's numbers are small, where the block round it is split
module _ (n e : ℕ) (w : WorldState) (a : Axis) (b : BlockAt) (q node : ℕ) (fit : IsFit n e w) (of : IsOfValidMesh w) (leaf : IsLeafNode w.told.grid node) (child : block_at w.told.grid node ≡ child_block b q)
    (split : is_split_block w.told.grid b ≡ true) (there : InDomain w.told.grid.shape b) where
  abbrev g : Grid
  g = w.told.grid

  valid : Valid w.told.grid
  valid = subst Valid (sym of.world.grid) of.valid.grid

  sums_small : (k : Staggered) → 0 < count_of k w.told.counts → FineSumsAreSmall n e (var_of k a) (number_at (extents_of n e (var_of k a)) (array_of k w a node))
  sums_small Faces some =
      small_sized n e (Face a) g.shape (array_of Faces w a node) fit.sizes
      (λ i j k hi hj hk.
      let m = of.mesh in
      let views = subst (λ c. HoldsFaces g m.faces a c (faces_in g a (array_of Faces w a node))) child (of.world.on_faces some node leaf a) in
      let f = face_of a (canonical_on g.shape a (in_block g.shape.n b (half_at g.shape.n q + i) (half_at g.shape.n (q / 2) + j) (half_at g.shape.n (q / 4) + k))) in
      let along = var_along g.shape.n (Face a) in
      let size = valid.shape.cells in
      let split_here : is_split_face g f ≡ true = split_face_there g valid a b split there (half_at g.shape.n q + i) (half_at g.shape.n (q / 2) + j) (half_at g.shape.n (q / 4) + k)
      (whole_below g.shape.n _ _ q i size along.x hi) (whole_below g.shape.n _ _ (q / 2) j size along.y hj) (whole_below g.shape.n _ _ (q / 4) k size along.z hk) in
      let small : Within (2 ^ 62) (face_view g m.faces f) = subst (λ h. Within (2 ^ 62) (face_view h m.faces f)) (sym of.world.grid) (split_face_small m of.valid f (subst (λ h. is_split_face h f ≡ true) of.world.grid split_here)) in
      subst (Within (2 ^ 62)) (sym (faces.four_view g m.faces a valid b q (array_of Faces w a node) views i j k hi hj hk)) small)
  sums_small Edges some =
      small_sized n e (Edge a) g.shape (array_of Edges w a node) fit.sizes
      (λ i j k hi hj hk.
      let m = of.mesh in
      let views = subst (λ c. HoldsEdges g m.edges a c (edges_in g a (array_of Edges w a node))) child (of.world.on_edges some node leaf a) in
      let f = edge_name g.shape a b (half_at g.shape.n q + i) (half_at g.shape.n (q / 2) + j) (half_at g.shape.n (q / 4) + k) in
      let along = var_along g.shape.n (Edge a) in
      let size = valid.shape.cells in
      let split_here : is_split_edge g f ≡ true = split_edge_there g b (cells_some valid.shape) there a (half_at g.shape.n q + i) (half_at g.shape.n (q / 2) + j) (half_at g.shape.n (q / 4) + k)
      (whole_below g.shape.n _ _ q i size along.x hi) (whole_below g.shape.n _ _ (q / 2) j size along.y hj) (whole_below g.shape.n _ _ (q / 4) k size along.z hk) split in
      let small : Within (2 ^ 62) (edge_view g m.edges f) = subst (λ h. Within (2 ^ 62) (edge_view h m.edges f)) (sym of.world.grid) (split_edge_small m of.valid f (subst (λ h. is_split_edge h f ≡ true) of.world.grid split_here)) in
      subst (Within (2 ^ 62)) (sym (edges.two_view g m.edges a valid b q (array_of Edges w a node) views i j k hi hj hk)) small)

child_lies : (b : BlockAt) (q : ℕ) → LiesIn (child_block b q) b
child_lies b q =
    let one : suc b.level - b.level ≡ 1 = omega arith in
    record {
      level = omega arith;
      x = ap (λ d. (2 * b.x + q % 2) / 2 ^ d) one ∙ omega arith;
      y = ap (λ d. (2 * b.y + q / 2 % 2) / 2 ^ d) one ∙ omega arith;
      z = ap (λ d. (2 * b.z + q / 4 % 2) / 2 ^ d) one ∙ omega arith;
    }

-- a block of which a child is a leaf is split, and in the domain
pub over_split : (g : Grid) (b : BlockAt) (q : ℕ) → IsIn (child_block b q) g.leaves → is_split_block g b ≡ true
over_split g b q leaf = split_shows g b (child_block b q) leaf (omega arith) (child_lies b q)

pub over_domain : (g : Grid) → Valid g → (b : BlockAt) (q : ℕ) → IsIn (child_block b q) g.leaves → InDomain g.shape b
over_domain g valid b q leaf = node_inside g valid b (in_node g valid b (child_block b q) leaf (child_lies b q))

pub child_small : (n e : ℕ) (k : Staggered) (old new : WorldState) (a : Axis) (q child node : ℕ) → Valid old.told.grid → MayMoveAxes n e k old new node → IsLeafNode old.told.grid child →
    block_at old.told.grid child ≡ child_block (block_at new.told.grid node) q → FineSumsAreSmall n e (var_of k a) (number_at (extents_of n e (var_of k a)) (array_of k old a child))
child_small n e k old new a q child node valid may leaf is =
    let b = block_at new.told.grid node in
    let listed = leaf_says old.told.grid (block_at old.told.grid child) leaf.leaf in
    let below = subst (λ c. IsIn c old.told.grid.leaves) is listed in
    sums_small n e old a b q child may.old_fit may.mesh leaf is (over_split old.told.grid b q below) (over_domain old.told.grid valid b q below) k may.declared

-- what sums make of blocks that hold views
pub octant_summed : (k : Staggered) (g : Grid) (field : FieldOf k) (a : Axis) (b : BlockAt) (q : ℕ) (child old new : List ℤ) → Valid g → IsSummed g.shape.n g.shape.g (var_of k a) q child old new →
    HoldsAxis k g field a (child_block b q) child → OctantHoldsAxis k g field a b q new
octant_summed Faces g field a b q child old new valid sums views = faces.all_summed g field a b q child old new valid sums views
octant_summed Edges g field a b q child old new valid sums views = edges.all_summed g field a b q child old new valid sums views

pub other_octant : (k : Staggered) (g : Grid) (field : FieldOf k) (a : Axis) (b : BlockAt) (q p : ℕ) (child old new : List ℤ) → Valid g → q < 8 → p < 8 → p ≢ q → IsSummed g.shape.n g.shape.g (var_of k a) q child old new →
    HoldsAxis k g field a (child_block b q) child → OctantHoldsAxis k g field a b p old → OctantHoldsAxis k g field a b p new
other_octant Faces g field a b q p child old new valid hq hp ne sums views there = faces.all_stay g field a b q p child old new valid hq hp ne sums views there
other_octant Edges g field a b q p child old new valid hq hp ne sums views there = edges.all_stay g field a b q p child old new valid hq hp ne sums views there

pub octants_make : (k : Staggered) (g : Grid) (field : FieldOf k) (a : Axis) (b : BlockAt) (xs : List ℤ) → Valid g → ((q : ℕ) → q < 8 → OctantHoldsAxis k g field a b q xs) → HoldsAxis k g field a b xs
octants_make Faces g field a b xs valid holds = faces.all_make g field a b (faces_in g a xs) valid holds
octants_make Edges g field a b xs valid holds = edges.all_make g field a b (edges_in g a xs) valid holds

-- ---- new leaves, one after the other

-- a field that is held in one grid is held in another of its shape
same_faces : (g h : Grid) (field : FaceAt → ℤ) (a : Axis) (b : BlockAt) (xs : List ℤ) → g.shape ≡ h.shape → HoldsFaceField g field a b (faces_in g a xs) → HoldsFaceField h field a b (faces_in h a xs)
same_faces g h field a b xs same holds = record {
  at = subst (λ (s : Shape). (i j k : ℕ) → i < longer_on a X s.n → j < longer_on a Y s.n → k < longer_on a Z s.n →
      number_at (face_extents s.n s.g a) xs (s.g + i) (s.g + j) (s.g + k) ≡ field (face_of a (canonical_on s a (in_block s.n b i j k)))) same holds.at;
}

same_edges : (g h : Grid) (field : EdgeAt → ℤ) (a : Axis) (b : BlockAt) (xs : List ℤ) → g.shape ≡ h.shape → HoldsEdgeField g field a b (edges_in g a xs) → HoldsEdgeField h field a b (edges_in h a xs)
same_edges g h field a b xs same holds = record {
  at = subst (λ (s : Shape). (i j k : ℕ) → i < longer_across a X s.n → j < longer_across a Y s.n → k < longer_across a Z s.n →
      number_at (edge_extents s.n s.g a) xs (s.g + i) (s.g + j) (s.g + k) ≡ field (edge_name s a b i j k)) same holds.at;
}

-- a new leaf with the old views has them as a field
pub moved_field : (k : Staggered) (old new : WorldState) (field : FieldOf k) (node : ℕ) → new.told.grid.shape ≡ old.told.grid.shape → AxesMoved k old new field node → HasAxes k new (view_of k old.told.grid field) node
moved_field Faces old new field node same moved = λ a.
    same_faces old.told.grid new.told.grid (face_view old.told.grid field) a (block_at new.told.grid node) (array_of Faces new a node) (sym same) (moved a)
moved_field Edges old new field node same moved = λ a.
    same_edges old.told.grid new.told.grid (edge_view old.told.grid field) a (block_at new.told.grid node) (array_of Edges new a node) (sym same) (moved a)

-- where another node's arrays are written a node keeps its own
pub axes_stay : (k : Staggered) (old b c : WorldState) (field : FieldOf k) (node at : ℕ) → OnlyAxesOf (var_of k) b c node → (at ≡ node → ⊥) → AxesMoved k old b field at → AxesMoved k old c field at
axes_stay k old b c field node at only apart moved a =
    subst (λ (t : Told). HoldsAxis k old.told.grid field a (block_at t.grid at) (array_of k c a at)) (sym only.told)
    (subst (λ xs. HoldsAxis k old.told.grid field a (block_at b.told.grid at) xs) (sym (only.others (var_of k a) at (λ x is there. apart there))) (moved a))

pub axes_again : (var : Axis → Var) (a b c : WorldState) (node : ℕ) → OnlyAxes var a b → OnlyAxesOf var b c node → OnlyAxes var a c
axes_again var a b c node before only = record { told = only.told ∙ before.told; others = λ u at none. only.others u at (λ x is same. none x is) ∙ before.others u at none }

pub no_axes : (var : Axis → Var) (a : WorldState) → OnlyAxes var a a
no_axes var a = record { told = refl; others = λ u at none. refl }

-- a leaf of the new tree into which numbers may be moved
pub may_leaf : (n g : ℕ) (k : Staggered) (old a b : WorldState) (node : ℕ) → MayMoveAllAxes n g old a → 0 < count_of k old.told.counts → b.told ≡ a.told → IsFit n g b → IsLeafNode b.told.grid node → MayMoveAxes n g k old b node
may_leaf n g k old a b node may declared told fit leaf = record {
  old_fit = may.old_fit;
  new_fit = fit;
  declared = declared;
  counts = ap (λ (t : Told). t.counts) told ∙ may.counts;
  shape = ap (λ (t : Told). t.grid.shape) told ∙ may.near.shape;
  mesh = may.mesh;
  leaf = leaf;
}

pub may_all_again : (n g : ℕ) (old a b : WorldState) → MayMoveAllAxes n g old a → b.told ≡ a.told → IsFit n g b → MayMoveAllAxes n g old b
may_all_again n g old a b may told fit = record {
  old_fit = may.old_fit;
  new_fit = fit;
  counts = ap (λ (t : Told). t.counts) told ∙ may.counts;
  near = subst (λ (t : Told). AreNear old.told.grid t.grid) (sym told) may.near;
  mesh = may.mesh;
}

-- a node's array that was given numbers which hold views
pub one_moved : (k : Staggered) (old new : WorldState) (field : FieldOf k) (node : ℕ) (a : Axis) (b : BlockAt) (ys : List ℤ) → block_at new.told.grid node ≡ b → array_of k new a node ≡ ys →
    HoldsAxis k old.told.grid field a b ys → AxisMoved k old new field node a
one_moved k old new field node a b ys block numbers holds =
    subst (λ d. HoldsAxis k old.told.grid field a d (array_of k new a node)) (sym block)
    (subst (λ zs. HoldsAxis k old.told.grid field a b zs) (sym numbers) holds)

-- where another kind's arrays are written the leaves keep their own
pub kind_stays : (k : Staggered) (var : Axis → Var) (old b c : WorldState) (field : FieldOf k) → OnlyAxes var b c → ((a x : Axis) → var_of k a ≡ var x → ⊥) → LeafAxesMoved k old b field → LeafAxesMoved k old c field
kind_stays k var old b c field only apart moved node leaf a =
    subst (λ (t : Told). HoldsAxis k old.told.grid field a (block_at t.grid node) (array_of k c a node)) (sym only.told)
    (subst (λ xs. HoldsAxis k old.told.grid field a (block_at b.told.grid node) xs) (sym (only.others (var_of k a) node (λ x is. apart a x is)))
    (moved node (subst (λ (t : Told). IsLeafNode t.grid node) only.told leaf) a))
