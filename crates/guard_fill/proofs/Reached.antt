-- Worlds whose leaves get their guard places one after the other.
use Rattle.std.proofs.Common.{◌≡◌, ◌≢◌, ℕ, ◌+◌, ◌<◌, ◌⊎◌, false, List, ℤ, refl, sym, ap, subst, ◌∙◌, arith, inl, inr, below_more}
use Rattle.std.proofs.lemmas.Bool.{cases_Bool, cases_order}
use Rattle.amr_num.specs.declared.Axis.{Axis}
use Rattle.amr_num.specs.declared.Axis.TheVariants.{X, Y, Z}
use Rattle.amr_num.specs.declared.CellAt.{CellAt}
use Rattle.amr_num.specs.declared.EdgeAt.{EdgeAt}
use Rattle.amr_num.specs.declared.FaceAt.{FaceAt}
use Rattle.mesh_model.specs.declared.fields.values.Var.{Var}
use Rattle.mesh_model.specs.declared.fields.values.Var.TheVariants.{Cell, CellWork, Edge, EdgeWork, Face, FaceWork}
use Rattle.mesh_model.specs.Geometry.Coordinates.{edge_of, face_of}
use Rattle.mesh_model.specs.Tree.Kinds.{is_leaf_block}
use Rattle.mesh_model.specs.Fields.Arrays.{array_in}
use Rattle.mesh_model.specs.Fields.ArrayPlaces.{HoldsEdges, HoldsFaces, extents_of, number_at}
use Rattle.mesh_model.specs.Fields.FinePlaces.{edges_in, faces_in, half_extents}
use Rattle.mesh_model.specs.Fields.Ranks.{IsSized, OnlyOf, Told, WorldState, rank_at}
use Rattle.mesh_model.specs.Fields.Views.{edge_view, face_view}
use Rattle.block_tree.specs.Numbered.{IsNode, block_at}
use Rattle.rank_world.specs.Holding.{IsLeafNode, IsOfValidMesh, LeavesHoldEdges, LeavesHoldFaces, edge_array, face_array}
use Rattle.rank_world.proofs.Meshes.{edges_same, faces_same, mesh_kept}
use Rattle.guard_fill.specs.Guarding.{AreNodeViews, AreViews, IsField, IsReachedTo, NodeReached, OnlyGuardPlaces, canon, there_in}
use Rattle.guard_fill.specs.Restricting.{HasViews, NodesHave}
use Rattle.guard_fill.proofs.AxisSums.{Apart}
use Rattle.guard_fill.proofs.Restricted.{has_along, node_along}
use Rattle.guard_fill.proofs.Spreading.{all_reached}
use Rattle.guard_fill.proofs.Summable.{apart_edges, apart_faces}

-- ---- what stays

cases_axis : (a b : Axis) → (a ≡ b) ⊎ (a ≢ b)
cases_axis X X = inl refl
cases_axis X Y = inr (λ e. absurd cc)
cases_axis X Z = inr (λ e. absurd cc)
cases_axis Y X = inr (λ e. absurd cc)
cases_axis Y Y = inl refl
cases_axis Y Z = inr (λ e. absurd cc)
cases_axis Z X = inr (λ e. absurd cc)
cases_axis Z Y = inr (λ e. absurd cc)
cases_axis Z Z = inl refl

pub none_guarded : (a : WorldState) (var : Var) → OnlyGuardPlaces a a var
none_guarded a var = record { told = refl; others = λ u k none. refl; own = λ k i j l leaf hi hj hk. refl }

-- own places of a leaf's array
abbrev pub OwnStay : WorldState → WorldState → Var → ℕ → Type 0
OwnStay now mid var node = let s = now.told.grid.shape in let e = extents_of s.n s.g var in let m = half_extents s.n var in (i j k : ℕ) → i < m.x → j < m.y → k < m.z →
    number_at e (array_in (rank_at mid 0).own.values var node) (s.g + i) (s.g + j) (s.g + k) ≡ number_at e (array_in (rank_at now 0).own.values var node) (s.g + i) (s.g + j) (s.g + k)

module _ (var : Axis → Var) (apart : Apart var) (now mid : WorldState) (x : Axis) (only : OnlyGuardPlaces now mid (var x)) where
  -- on each axis they stay
  pub axis_stays : (a : Axis) (node : ℕ) → IsLeafNode now.told.grid node → OwnStay now mid (var a) node
  axis_stays a node leaf = elim (cases_axis a x) [
    | inl same ↦ subst (λ b. OwnStay now mid (var b) node) (sym same) (λ i j k. only.own node i j k leaf)
    | inr ne ↦ (let kept : array_in (rank_at mid 0).own.values (var a) node ≡ array_in (rank_at now 0).own.values (var a) node = only.others (var a) node (λ is l. ne (apart a x is)) in
        λ i j k hi hj hk. (let s = now.told.grid.shape in ap (λ ys. number_at (extents_of s.n s.g (var a)) ys (s.g + i) (s.g + j) (s.g + k)) kept))
  ]

module _ (now mid : WorldState) (x : Axis) (only : OnlyGuardPlaces now mid (Face x)) where
  pub faces_stay : (field : FaceAt → ℤ) → LeavesHoldFaces now field → LeavesHoldFaces mid field
  faces_stay field holds node leaf a =
      let was : IsLeafNode now.told.grid node = subst (λ (t : Told). IsLeafNode t.grid node) only.told leaf in
      let stays = axis_stays Face apart_faces now mid x only a node was in
      subst (λ (t : Told). HoldsFaces t.grid field a (block_at t.grid node) (faces_in t.grid a (face_array mid a node))) (sym only.told)
      (record { at = λ i j k hi hj hk. stays i j k hi hj hk ∙ (holds node was a).at i j k hi hj hk })

  pub faces_mesh : IsOfValidMesh now → IsOfValidMesh mid
  faces_mesh of = record {
    mesh = of.mesh;
    valid = of.valid;
    world = mesh_kept now mid of.mesh only.told
        (λ v declared holds node leaf. node_along now mid v (of.mesh.cells v) node only.told (only.others (Cell v) node (λ is l. absurd cc)) (holds node (subst (λ (t : Told). IsLeafNode t.grid node) only.told leaf)))
        (faces_stay of.mesh.faces) (edges_same now mid of.mesh.edges only.told (λ a node leaf. only.others (Edge a) node (λ is l. absurd cc))) of.world;
  }

module _ (now mid : WorldState) (x : Axis) (only : OnlyGuardPlaces now mid (Edge x)) where
  pub edges_stay : (field : EdgeAt → ℤ) → LeavesHoldEdges false now field → LeavesHoldEdges false mid field
  edges_stay field holds node leaf a =
      let was : IsLeafNode now.told.grid node = subst (λ (t : Told). IsLeafNode t.grid node) only.told leaf in
      let stays = axis_stays Edge apart_edges now mid x only a node was in
      subst (λ (t : Told). HoldsEdges t.grid field a (block_at t.grid node) (edges_in t.grid a (edge_array false mid a node))) (sym only.told)
      (record { at = λ i j k hi hj hk. stays i j k hi hj hk ∙ (holds node was a).at i j k hi hj hk })

  pub edges_mesh : IsOfValidMesh now → IsOfValidMesh mid
  edges_mesh of = record {
    mesh = of.mesh;
    valid = of.valid;
    world = mesh_kept now mid of.mesh only.told
        (λ v declared holds node leaf. node_along now mid v (of.mesh.cells v) node only.told (only.others (Cell v) node (λ is l. absurd cc)) (holds node (subst (λ (t : Told). IsLeafNode t.grid node) only.told leaf)))
        (faces_same now mid of.mesh.faces only.told (λ a node leaf. only.others (Face a) node (λ is l. absurd cc))) (edges_stay of.mesh.edges) of.world;
  }

-- a world of a valid mesh is one still, and views are views still
pub still_mesh : (now mid : WorldState) (var : Var) → IsField var → OnlyGuardPlaces now mid var → IsOfValidMesh now → IsOfValidMesh mid
still_mesh now mid (Face a) field only of = faces_mesh now mid a only of
still_mesh now mid (Edge a) field only of = edges_mesh now mid a only of
still_mesh now mid (Cell v) field only of = absurd field
still_mesh now mid CellWork field only of = absurd field
still_mesh now mid (FaceWork a) field only of = absurd field
still_mesh now mid (EdgeWork a) field only of = absurd field

still_views : (now mid : WorldState) (var : Var) (view : CellAt → ℤ) → OnlyGuardPlaces now mid var → AreViews now var view → AreViews mid var view
still_views now mid (Face a) view only (field, holds, is) = (field, faces_stay now mid a only field holds, λ c. is c ∙ ap (λ (t : Told). face_view t.grid field (face_of a c)) (sym only.told))
still_views now mid (Edge a) view only (field, holds, is) = (field, edges_stay now mid a only field holds, λ c. is c ∙ ap (λ (t : Told). edge_view t.grid field (edge_of a c)) (sym only.told))
still_views now mid (Cell v) view only of = absurd of
still_views now mid CellWork view only of = absurd of
still_views now mid (FaceWork a) view only of = absurd of
still_views now mid (EdgeWork a) view only of = absurd of

still_nodes : (now mid : WorldState) (var : Var) (view : CellAt → ℤ) → OnlyGuardPlaces now mid var → NodesHave now var view → NodesHave mid var view
still_nodes now mid var view only nodes node there =
    let was : IsNode now.told.grid node = subst (λ (t : Told). IsNode t.grid node) only.told there in
    elim (cases_Bool (is_leaf_block now.told.grid (block_at now.told.grid node))) [
      | inl leaf ↦ (
          let here : HasViews now.told.grid.shape var view (block_at now.told.grid node) (number_at (extents_of now.told.grid.shape.n now.told.grid.shape.g var) (array_in (rank_at mid 0).own.values var node)) =
          record { at = λ i j k hi hj hk. only.own node i j k (record { there = was; leaf = leaf }) hi hj hk ∙ (nodes node was).at i j k hi hj hk } in
          subst (λ (t : Told). HasViews t.grid.shape var view (block_at t.grid node) (number_at (extents_of t.grid.shape.n t.grid.shape.g var) (array_in (rank_at mid 0).own.values var node))) (sym only.told) here)
      | inr inner ↦ has_along now mid var view node only.told (only.others var node (λ is l. (let yes = l.leaf in cc))) (nodes node was)
    ]

pub still_node_views : (now mid : WorldState) (var : Var) (view : CellAt → ℤ) → OnlyGuardPlaces now mid var → AreNodeViews now var view → AreNodeViews mid var view
still_node_views now mid var view only of = record {
  views = still_views now mid var view only of.views;
  nodes = subst (λ (t : Told). NodesHave mid var (λ c. view (canon t.grid.shape var c))) (sym only.told) (still_nodes now mid var (λ c. view (canon now.told.grid.shape var c)) only of.nodes);
}

-- ---- one more leaf

-- what was gathered, in the sizes of the grid
module _ (n e : ℕ) (w : WorldState) (var : Var) (node : ℕ) (xs : List ℤ) (sized : IsSized n e w.told.grid.shape) (all : IsReachedTo n e w var node 27 xs) where
  reached_own : let s = w.told.grid.shape in (i j k : ℕ) → i < (half_extents s.n var).x → j < (half_extents s.n var).y → k < (half_extents s.n var).z →
      number_at (extents_of s.n s.g var) xs (s.g + i) (s.g + j) (s.g + k) ≡ number_at (extents_of s.n s.g var) (array_in (rank_at w 0).own.values var node) (s.g + i) (s.g + j) (s.g + k)
  reached_own =
      let at : ℕ → ℕ → Type 0 = λ m d. (i j k : ℕ) → i < (half_extents m var).x → j < (half_extents m var).y → k < (half_extents m var).z →
      number_at (extents_of m d var) xs (d + i) (d + j) (d + k) ≡ number_at (extents_of m d var) (array_in (rank_at w 0).own.values var node) (d + i) (d + j) (d + k) in
      subst (λ m. at m w.told.grid.shape.g) (sym sized.cells) (subst (λ d. at n d) (sym sized.guards) all.own)

  reached_guards : (view : CellAt → ℤ) → AreNodeViews w var view → let s = w.told.grid.shape in (i j k : ℕ) → i < (extents_of s.n s.g var).x → j < (extents_of s.n s.g var).y → k < (extents_of s.n s.g var).z →
      number_at (extents_of s.n s.g var) xs i j k ≡ view (there_in s.n s.g s var (block_at w.told.grid node) i j k)
  reached_guards view of =
      let s = w.told.grid.shape in
      let at : ℕ → ℕ → Type 0 = λ m d. (i j k : ℕ) → i < (extents_of m d var).x → j < (extents_of m d var).y → k < (extents_of m d var).z →
      number_at (extents_of m d var) xs i j k ≡ view (there_in m d s var (block_at w.told.grid node) i j k) in
      subst (λ m. at m s.g) (sym sized.cells) (subst (λ d. at n d) (sym sized.guards) (all_reached n e w var node sized xs all view of))

module _ (n e : ℕ) (now mid new : WorldState) (var : Var) (node : ℕ) (sized : IsSized n e mid.told.grid.shape) (only : OnlyGuardPlaces now mid var) (here : OnlyOf mid new 0 var node)
    (leaf : IsLeafNode now.told.grid node) (all : IsReachedTo n e mid var node 27 (array_in (rank_at new 0).own.values var node)) where
  still : (k : ℕ) → k ≢ node → array_in (rank_at new 0).own.values var k ≡ array_in (rank_at mid 0).own.values var k
  still k ne = here.here.others var k (λ u is. ne is)

  here_own : OwnStay mid new var node
  here_own = reached_own n e mid var node (array_in (rank_at new 0).own.values var node) sized all

  step_own : (k : ℕ) → OwnStay mid new var k
  step_own k i j l hi hj hl =
      let s = mid.told.grid.shape in
      let other : k ≢ node → number_at (extents_of s.n s.g var) (array_in (rank_at new 0).own.values var k) (s.g + i) (s.g + j) (s.g + l) ≡ number_at (extents_of s.n s.g var) (array_in (rank_at mid 0).own.values var k) (s.g + i) (s.g + j) (s.g + l) =
      (λ ne. ap (λ xs. number_at (extents_of s.n s.g var) xs (s.g + i) (s.g + j) (s.g + l)) (still k ne)) in
      elim (cases_order k node) [
        | inl same ↦ subst (λ m. OwnStay mid new var m) (sym same) here_own i j l hi hj hl
        | inr (inl less) ↦ other (λ is. omega arith)
        | inr (inr more) ↦ other (λ is. omega arith)
      ]

  pub one_leaf_more : OnlyGuardPlaces now new var
  one_leaf_more = record {
    told = here.told ∙ only.told;
    others = λ u k none. here.here.others u k (λ is at. none is (subst (IsLeafNode now.told.grid) (sym at) leaf)) ∙ only.others u k none;
    own = λ k i j l leaf_k hi hj hl. subst (λ (t : Told). OwnIn t k) only.told (step_own k) i j l hi hj hl ∙ only.own k i j l leaf_k hi hj hl;
  }
    where
      OwnIn : Told → ℕ → Type 0
      OwnIn t k = let s = t.grid.shape in let e = extents_of s.n s.g var in let m = half_extents s.n var in (i j l : ℕ) → i < m.x → j < m.y → l < m.z →
          number_at e (array_in (rank_at new 0).own.values var k) (s.g + i) (s.g + j) (s.g + l) ≡ number_at e (array_in (rank_at mid 0).own.values var k) (s.g + i) (s.g + j) (s.g + l)

  pub one_leaf_reached : (view : CellAt → ℤ) → AreNodeViews now var view → ((k : ℕ) → k < node → IsLeafNode now.told.grid k → NodeReached mid var view k) →
      (k : ℕ) → k < node + 1 → IsLeafNode now.told.grid k → NodeReached new var view k
  one_leaf_reached view of so_far = below_more (λ k. IsLeafNode now.told.grid k → NodeReached new var view k) node
      (λ k l is. along k (still k (omega arith)) (so_far k l is))
      (λ is. record {
        at = subst (λ (t : Told). let s = t.grid.shape in let e = extents_of s.n s.g var in (i j k : ℕ) → i < e.x → j < e.y → k < e.z →
            number_at e (array_in (rank_at new 0).own.values var node) i j k ≡ view (there_in s.n s.g s var (block_at t.grid node) i j k)) (sym here.told)
            (reached_guards n e mid var node (array_in (rank_at new 0).own.values var node) sized all view (still_node_views now mid var view only of));
      })
    where
      along : (k : ℕ) → array_in (rank_at new 0).own.values var k ≡ array_in (rank_at mid 0).own.values var k → NodeReached mid var view k → NodeReached new var view k
      along k same reached = record {
        at = subst (λ (t : Told). let s = t.grid.shape in let e = extents_of s.n s.g var in (i j l : ℕ) → i < e.x → j < e.y → l < e.z →
            number_at e (array_in (rank_at new 0).own.values var k) i j l ≡ view (there_in s.n s.g s var (block_at t.grid k) i j l)) (sym here.told)
            (subst (λ xs. let s = mid.told.grid.shape in let e = extents_of s.n s.g var in (i j l : ℕ) → i < e.x → j < e.y → l < e.z →
            number_at e xs i j l ≡ view (there_in s.n s.g s var (block_at mid.told.grid k) i j l)) (sym same) reached.at);
      }
