-- The laws of valid meshes.
use Rattle.std.specs.Prelude.{◌≡◌, ℕ, suc, ◌*◌, ◌%◌, ◌^◌, ◌<◌, ◌≤◌, ◌↔◌, Bool, true, false, ◌&&◌, ℤ, pos, negsuc, ◌+ℤ◌, ◌-ℤ◌, ◌≤ℤ◌, length, map, IsSome, None}
use Rattle.amr_num.specs.declared.Axis.{Axis}
use Rattle.amr_num.specs.declared.BlockAt.{BlockAt}
use Rattle.amr_num.specs.declared.CellAt.{CellAt}
use Rattle.amr_num.specs.declared.FaceAt.{FaceAt}
use Rattle.amr_num.specs.declared.EdgeAt.{EdgeAt}
use Rattle.amr_num.specs.Numbers.{Within, sum_below, floor_div, number_range}
use Rattle.mesh_model.specs.declared.geometry.Shape.{Shape}
use Rattle.mesh_model.specs.Fields.VariableNames.{VariableNames}
use Rattle.mesh_model.specs.Geometry.Coordinates.{Inside, on, with, extent, next, sub_cell, sub_face, half_edge, parent_face, face_of, edge_of, after, face_numbers, edge_numbers, EdgeInside}
use Rattle.mesh_model.specs.Geometry.Outside.{cell_in}
use Rattle.mesh_model.specs.Geometry.Blocks.{LiesIn, as_block}
use Rattle.mesh_model.specs.Geometry.Limits.{IsShape}
use Rattle.mesh_model.specs.Tree.MarkedGrid.{MarkedGrid, ValidMarkedGrid}
use Rattle.mesh_model.specs.Tree.Growth.{MayRefine, MayMerge}
use Rattle.mesh_model.specs.Tree.Kinds.{Grid, is_leaf, is_split, is_split_face, is_leaf_face, is_split_edge, is_leaf_edge}
use Rattle.mesh_model.specs.Fields.Plain.{Mesh, marked, on_faces}
use Rattle.mesh_model.specs.Fields.InnerRule.{Outer, octant_out, cell_out}
use Rattle.mesh_model.specs.Fields.Circulation.{circulation, net_flux}
use Rattle.mesh_model.specs.Fields.Views.{cell_view, face_view, edge_view, sides_of, inner_face, is_even, even_round, sum_of}
use Rattle.mesh_model.specs.Tree.Order.{Sorted, nodes, IsIn}
use Rattle.mesh_model.specs.Tree.ValidGrid.{Valid, FewNodes}
use Rattle.mesh_model.specs.Fields.Valid.{ValidMesh, OnLeaves, OfDeclared, InRange}
use Rattle.mesh_model.specs.Fields.Totals.{level_sum, leaf_sum, total}
use Rattle.mesh_model.specs.Tree.Closure.{is_refined, is_merged}
use Rattle.mesh_model.specs.Tree.Regrown.{new_grid}
use Rattle.mesh_model.specs.Fields.Regrid.{regrid}
use Rattle.mesh_model.specs.Fields.Advect.{Speeds, keeps_courant, blown_from, flux, on_outer, outflow, advect}
use Rattle.mesh_model.specs.Fields.Induct.{with_faces, less_circulation, induct, curl, uniform}
use Rattle.mesh_model.specs.Fields.Start.{start_mesh}
use Rattle.mesh_model.specs.Fields.RangeWalk.{first_excess}
use Rattle.mesh_model.specs.Fields.Balance.{Balanced}

-- ---- words that the laws use

-- the cell d lies in the cell c, as blocks of one cell do
abbrev pub CellIn : CellAt → CellAt → Type 0
CellIn d c = LiesIn (as_block d) (as_block c)

-- how many leaf cells there are
abbrev pub leaf_cells : Grid → ℕ
leaf_cells g = length g.leaves * (g.shape.n * g.shape.n * g.shape.n)

-- ---- kinds

-- a cell is split exactly where finer leaf cells lie in it
abbrev pub SplitIsByCells : Type 0
SplitIsByCells = (g : Grid) (c : CellAt) → Valid g →
    (is_split g c ≡ true) ↔ ((d : CellAt) × (is_leaf g d ≡ true) × (c.level < d.level) × CellIn d c)

-- no leaf cell is split, and a cell of the domain that is neither lies in a coarser leaf cell
abbrev pub KindsAreThree : Type 0
KindsAreThree = (g : Grid) (c : CellAt) → Valid g →
    (is_leaf g c ≡ true → is_split g c ≡ false)
    × (Inside g.shape c → c.level ≤ g.shape.max → is_leaf g c ≡ false → is_split g c ≡ false → (d : CellAt) × (is_leaf g d ≡ true) × (d.level < c.level) × CellIn c d)

-- ---- nodes

-- the nodes are the leaves and their ancestors
abbrev pub NodesAreLeavesAndAncestors : Type 0
NodesAreLeavesAndAncestors = (g : Grid) (b : BlockAt) → Valid g →
    IsIn b (nodes g.leaves) ↔ ((leaf : BlockAt) × IsIn leaf g.leaves × LiesIn leaf b)

-- and go by rising key
abbrev pub NodesAreInOrder : Type 0
NodesAreInOrder = (g : Grid) → Valid g → Sorted g.leaves → Sorted (nodes g.leaves)

-- ---- views

-- each cell's view is the sum of its sub-cells' views
abbrev pub CellsAddUp : Type 0
CellsAddUp = (g : Grid) (content : CellAt → ℤ) (c : CellAt) → Valid g →
    cell_view g content c ≡ sum_below 8 (λ q. cell_view g content (sub_cell c q))

-- each face's view is the sum of its subfaces' views
abbrev pub FacesAddUp : Type 0
FacesAddUp = (g : Grid) (number : FaceAt → ℤ) (f : FaceAt) → Valid g →
    face_view g number f ≡ sum_below 4 (λ q. face_view g number (sub_face f q))

-- each edge's view is the sum of its halves' views
abbrev pub EdgesAddUp : Type 0
EdgesAddUp = (g : Grid) (number : EdgeAt → ℤ) (e : EdgeAt) → Valid g →
    edge_view g number e ≡ sum_below 2 (λ h. edge_view g number (half_edge e h))

-- ---- the inner rule and the means

-- where a cell balances, the inner rule balances each of its octants
abbrev pub OctantsBalance : Type 0
OctantsBalance = (o : Outer) → cell_out o ≡ pos 0 → (i j k : ℕ) → i < 2 → j < 2 → k < 2 → octant_out o i j k ≡ pos 0

-- so where a cell of the domain that is not split has net flux 0, each of its sub-cells has
abbrev pub SubCellsBalance : Type 0
SubCellsBalance = (g : Grid) (number : FaceAt → ℤ) (c : CellAt) → Valid g → Inside g.shape c → is_split g c ≡ false →
    net_flux g (face_view g number) c ≡ pos 0 →
    (q : ℕ) → q < 8 → net_flux g (face_view g number) (sub_cell c q) ≡ pos 0

-- and where all leaf cells have net flux 0, each cell of the domain has, split, leaf or inside a coarser leaf
abbrev pub AllCellsBalance : Type 0
AllCellsBalance = (g : Grid) (number : FaceAt → ℤ) (c : CellAt) → Valid g → Balanced g number → Inside g.shape c →
    net_flux g (face_view g number) c ≡ pos 0

-- no subface on a side of a cell that is not split has a split cell beside it
abbrev pub SidesAreCalm : Type 0
SidesAreCalm = (g : Grid) (c : CellAt) → Valid g → Inside g.shape c → is_split g c ≡ false → (a : Axis) (q : ℕ) →
    (is_split_face g (sub_face (face_of a c) q) ≡ false) × (is_split_face g (sub_face (face_of a (after g.shape a c)) q) ≡ false)

-- a face at an odd position that is no leaf face and not split has what the inner rule gives of the views round its cell
abbrev pub InnerFacesReadViews : Type 0
InnerFacesReadViews = (g : Grid) (number : FaceAt → ℤ) (l : ℕ) (f : FaceAt) → Valid g → f.level ≡ suc l →
    Inside g.shape (face_numbers f) → is_split_face g f ≡ false → is_leaf_face g f ≡ false → on f.axis (face_numbers f) % 2 ≡ 1 →
    face_view g number f ≡ inner_face (sides_of g (face_view g number) (face_numbers (parent_face f))) f.axis (f.x % 2) (f.y % 2) (f.z % 2)

-- an edge with an odd position that is no leaf edge and not split has the floored mean of the views at the even positions beside it
abbrev pub MeansReadViews : Type 0
MeansReadViews = (g : Grid) (number : EdgeAt → ℤ) (l : ℕ) (e : EdgeAt) → Valid g → e.level ≡ suc l → EdgeInside g.shape e →
    is_split_edge g e ≡ false → is_leaf_edge g e ≡ false →
    (is_even (on (next e.axis) (edge_numbers e)) && is_even (on (next (next e.axis)) (edge_numbers e))) ≡ false →
    edge_view g number e ≡ floor_div (sum_of (map (λ c. edge_view g number (edge_of e.axis c)) (even_round g e))) (length (even_round g e))

-- ---- circulation

-- the circulation of views round a face is the sum of those round its subfaces
abbrev pub CirculationsAddUp : Type 0
CirculationsAddUp = (g : Grid) (number : EdgeAt → ℤ) (f : FaceAt) → Valid g →
    circulation g (edge_view g number) f ≡ sum_below 4 (λ q. circulation g (edge_view g number) (sub_face f q))

-- the signed sum of the circulations round the six faces of a cell is 0
abbrev pub CirculationsCancel : Type 0
CirculationsCancel = (g : Grid) (at : EdgeAt → ℤ) (c : CellAt) → net_flux g (circulation g at) c ≡ pos 0

-- ---- bounds

-- the view of a split cell, face or edge is at most the greatest number times the number of leaf cells
abbrev pub SplitCellsAreBounded : Type 0
SplitCellsAreBounded = (g : Grid) (content : CellAt → ℤ) (most : ℕ) → Valid g → ((c : CellAt) → is_leaf g c ≡ true → Within most (content c)) →
    (c : CellAt) → is_split g c ≡ true →
    Within (most * leaf_cells g) (cell_view g content c)

abbrev pub SplitFacesAreBounded : Type 0
SplitFacesAreBounded = (g : Grid) (number : FaceAt → ℤ) (most : ℕ) → Valid g → ((f : FaceAt) → is_leaf_face g f ≡ true → Within most (number f)) →
    (f : FaceAt) → is_split_face g f ≡ true →
    Within (most * leaf_cells g) (face_view g number f)

abbrev pub SplitEdgesAreBounded : Type 0
SplitEdgesAreBounded = (g : Grid) (number : EdgeAt → ℤ) (most : ℕ) → Valid g → ((e : EdgeAt) → is_leaf_edge g e ≡ true → Within most (number e)) →
    (e : EdgeAt) → is_split_edge g e ≡ true →
    Within (most * leaf_cells g) (edge_view g number e)

-- in a valid mesh there are few enough leaf cells for these views to stay below 2^62
abbrev pub LeafCellsAreFew : Type 0
LeafCellsAreFew = (m : Mesh) → ValidMesh m → number_range * leaf_cells m.grid ≤ 2 ^ 62

-- ---- start, closure and regrid

-- the start mesh of a shape is valid
abbrev pub StartIsValid : Type 0
StartIsValid = (s : Shape) (names : VariableNames) → IsShape s → length names.cells ≤ 4 → ValidMesh (start_mesh s names)

-- the refined set may be refined, and is within each set that may
abbrev pub RefinedIsLeast : Type 0
RefinedIsLeast = (m : MarkedGrid) → ValidMarkedGrid m → MayRefine m (is_refined m) × ((set : BlockAt → Bool) → MayRefine m set → (b : BlockAt) → is_refined m b ≡ true → set b ≡ true)

-- the merged set may be merged, and has in it each set that may
abbrev pub MergedIsGreatest : Type 0
MergedIsGreatest = (m : MarkedGrid) → ValidMarkedGrid m → MayMerge m (is_merged m) × ((set : BlockAt → Bool) → MayMerge m set → (p : BlockAt) → set p ≡ true → is_merged m p ≡ true)

-- the grid after regrid is valid, its leaves in Morton order
abbrev pub NewGridIsValid : Type 0
NewGridIsValid = (m : MarkedGrid) → ValidMarkedGrid m → Valid (new_grid m) × Sorted (new_grid m).leaves

-- so the mesh is, where its nodes and numbers keep the limits
abbrev pub RegridKeepsValidity : Type 0
RegridKeepsValidity = (m : Mesh) → ValidMesh m → FewNodes (new_grid (marked m)) → InRange (regrid m) → ValidMesh (regrid m)

-- ---- totals

-- the total by levels: over the levels and the cells of each, the contents of leaf cells
abbrev pub TotalIsByLevels : Type 0
TotalIsByLevels = (m : Mesh) (content : CellAt → ℤ) → ValidMesh m → total m.grid content ≡ leaf_sum m.grid content

-- the total is the sum of the views on level 0, whatever the tree
abbrev pub TotalIsOfLevelZero : Type 0
TotalIsOfLevelZero = (m : Mesh) (content : CellAt → ℤ) → ValidMesh m →
    total m.grid content ≡ level_sum m.grid.shape 0 (cell_view m.grid content)

abbrev pub RegridKeepsTotals : Type 0
RegridKeepsTotals = (m : Mesh) (v : ℕ) → ValidMesh m → total (regrid m).grid ((regrid m).cells v) ≡ total m.grid (m.cells v)

-- ---- advect

-- the cell from which the speed n blows is the one below a position, or above it for a negative speed, wrapped or clamped
abbrev pub upstream : ℤ → ℕ → ℤ
upstream (pos n) p = pos p -ℤ pos 1
upstream (negsuc n) p = pos p

abbrev pub DonorsAreWrappedOrClamped : Type 0
DonorsAreWrappedOrClamped = (s : Shape) (a : Axis) (n : ℤ) (c : CellAt) → IsShape s → on a c ≤ extent s a c.level →
    blown_from s a n c ≡ with a (cell_in s a c.level (upstream n (on a c))) c

-- what leaf cells lose through outer sides is the outward flux of all leaf faces there
abbrev pub OutflowIsByFaces : Type 0
OutflowIsByFaces = (g : Grid) (content : CellAt → ℤ) (n : Speeds) → Valid g →
    outflow g content n ≡ sum_below (suc g.shape.max) (λ l. level_sum g.shape l (net_flux g (on_faces g (on_outer g.shape (flux g content n)))))

-- total plus what flowed out of each variable stays
abbrev pub AdvectConserves : Type 0
AdvectConserves = (m : Mesh) (var : ℕ) (n : Speeds) (v : ℕ) → ValidMesh m →
    total (advect m var n).grid ((advect m var n).cells v) +ℤ (advect m var n).outs v ≡ total m.grid (m.cells v) +ℤ m.outs v

-- under the Courant limit no content becomes negative where none was
abbrev pub AdvectStaysPositive : Type 0
AdvectStaysPositive = (m : Mesh) (var : ℕ) (n : Speeds) (v : ℕ) → ValidMesh m → keeps_courant m.grid.shape n ≡ true → ((c : CellAt) → is_leaf m.grid c ≡ true → pos 0 ≤ℤ m.cells v c) →
    (c : CellAt) → pos 0 ≤ℤ (advect m var n).cells v c

-- a valid mesh is valid after the advect of one of its variables, where the numbers stay in range
abbrev pub AdvectKeepsValidity : Type 0
AdvectKeepsValidity = (m : Mesh) (var : ℕ) (n : Speeds) → ValidMesh m → var < length m.names.cells → InRange (advect m var n) →
    ValidMesh (advect m var n)

-- ---- the face variable

abbrev pub CurlBalances : Type 0
CurlBalances = (m : Mesh) → ValidMesh m → Balanced (curl m).grid (curl m).faces

abbrev pub UniformBalances : Type 0
UniformBalances = (m : Mesh) (b : Speeds) → ValidMesh m → Balanced (uniform m b).grid (uniform m b).faces

-- induct keeps the net flux of each leaf cell, whatever it was
abbrev pub InductKeepsNetFlux : Type 0
InductKeepsNetFlux = (m : Mesh) (n : Speeds) (c : CellAt) → ValidMesh m → is_leaf m.grid c ≡ true →
    net_flux m.grid (face_view m.grid (induct m n).faces) c ≡ net_flux m.grid (face_view m.grid m.faces) c

-- and so would any edge numbers in the place of those that induct takes
abbrev pub CirculationKeepsNetFlux : Type 0
CirculationKeepsNetFlux = (g : Grid) (faces : FaceAt → ℤ) (edges : EdgeAt → ℤ) (c : CellAt) → Valid g → is_leaf g c ≡ true →
    net_flux g (face_view g (less_circulation g faces (edge_view g edges))) c ≡ net_flux g (face_view g faces) c

abbrev pub InductKeepsBalance : Type 0
InductKeepsBalance = (m : Mesh) (n : Speeds) → ValidMesh m → Balanced m.grid m.faces → Balanced (induct m n).grid (induct m n).faces

abbrev pub RegridKeepsBalance : Type 0
RegridKeepsBalance = (m : Mesh) → ValidMesh m → Balanced m.grid m.faces → Balanced (regrid m).grid (regrid m).faces

-- new numbers of the face variable on leaf faces, as of curl, uniform and induct, leave a valid mesh where they are in range
abbrev pub NewFacesKeepValidity : Type 0
NewFacesKeepValidity = (m : Mesh) (k : FaceAt → ℤ) → ValidMesh m → IsSome m.names.face → InRange (with_faces m (on_faces m.grid k)) →
    ValidMesh (with_faces m (on_faces m.grid k))

-- ---- numbers out of range

-- where the walk finds no number out of range, all numbers are in range
abbrev pub AllNumbersAreWalked : Type 0
AllNumbersAreWalked = (m : Mesh) → IsShape m.grid.shape → OnLeaves m → OfDeclared m → first_excess m ≡ None → InRange m
