-- Arrays that stand one on each axis, whose guard places are written one after the other.
use Rattle.std.proofs.Common.{◌≡◌, ℕ, ◌+◌, ◌<◌, ℤ, refl, sym, ap, subst, ◌∙◌, inl, inr}
use Rattle.std.proofs.lemmas.Bool.{cases_Bool}
use Rattle.amr_num.specs.declared.Axis.{Axis}
use Rattle.amr_num.specs.declared.Axis.TheVariants.{X, Y, Z}
use Rattle.amr_num.specs.declared.BlockAt.{BlockAt}
use Rattle.amr_num.specs.declared.CellAt.{CellAt}
use Rattle.amr_num.specs.declared.EdgeAt.{EdgeAt}
use Rattle.amr_num.specs.declared.FaceAt.{FaceAt}
use Rattle.mesh_model.specs.declared.geometry.Shape.{Shape}
use Rattle.mesh_model.specs.declared.fields.values.Var.{Var}
use Rattle.mesh_model.specs.declared.fields.values.Var.TheVariants.{Edge, Face}
use Rattle.mesh_model.specs.Geometry.Coordinates.{edge_of, face_of}
use Rattle.mesh_model.specs.Geometry.Places.{in_block}
use Rattle.mesh_model.specs.Tree.Kinds.{is_leaf_block}
use Rattle.mesh_model.specs.Fields.Arrays.{array_in}
use Rattle.mesh_model.specs.Fields.ArrayPlaces.{edge_there, extents_of, face_there, number_at}
use Rattle.mesh_model.specs.Fields.FinePlaces.{half_extents}
use Rattle.mesh_model.specs.Fields.Ranks.{Told, WorldState, rank_at}
use Rattle.mesh_model.specs.Fields.Views.{edge_view, face_view}
use Rattle.block_tree.specs.Numbered.{IsNode, block_at}
use Rattle.rank_world.specs.Holding.{IsLeafNode, NodesHoldEdges, NodesHoldFaces}
use Rattle.guard_fill.specs.Guarding.{AreNodeViews, LeavesGuardedEdges, LeavesGuardedFaces, LeavesReached, OnlyGuardAxes, OnlyGuardPlaces, canon, there_in}
use Rattle.guard_fill.specs.Restricting.{HasViews, NodesHave}
use Rattle.guard_fill.proofs.AxisSums.{Apart}
use Rattle.guard_fill.proofs.Reached.{axis_stays}
use Rattle.guard_fill.proofs.Restricted.{has_along}
use Rattle.guard_fill.proofs.Spreading.{edge_named, face_named}

-- own places of a leaf's array, in the sizes of what is told
OwnIn : Told → WorldState → WorldState → Var → ℕ → Type 0
OwnIn t old new var node = let s = t.grid.shape in let e = extents_of s.n s.g var in let m = half_extents s.n var in (i j k : ℕ) → i < m.x → j < m.y → k < m.z →
    number_at e (array_in (rank_at new 0).own.values var node) (s.g + i) (s.g + j) (s.g + k) ≡ number_at e (array_in (rank_at old 0).own.values var node) (s.g + i) (s.g + j) (s.g + k)

module _ (var : Axis → Var) (apart : Apart var) (w x : WorldState) (b : Axis) (only : OnlyGuardPlaces w x (var b)) where
  leaf_along : (node : ℕ) → IsLeafNode w.told.grid node → IsLeafNode x.told.grid node
  leaf_along node leaf = subst (λ (t : Told). IsLeafNode t.grid node) (sym only.told) leaf

  -- the nodes have on each axis what they had
  nodes_stay : (a : Axis) (view : CellAt → ℤ) → NodesHave w (var a) view → NodesHave x (var a) view
  nodes_stay a view nodes node there =
      let was : IsNode w.told.grid node = subst (λ (t : Told). IsNode t.grid node) only.told there in
      elim (cases_Bool (is_leaf_block w.told.grid (block_at w.told.grid node))) [
        | inl leaf ↦ (
            let stays = axis_stays var apart w x b only a node (record { there = was; leaf = leaf }) in
            let here : HasViews w.told.grid.shape (var a) view (block_at w.told.grid node) (number_at (extents_of w.told.grid.shape.n w.told.grid.shape.g (var a)) (array_in (rank_at x 0).own.values (var a) node)) =
            record { at = λ i j k hi hj hk. stays i j k hi hj hk ∙ (nodes node was).at i j k hi hj hk } in
            subst (λ (t : Told). HasViews t.grid.shape (var a) view (block_at t.grid node) (number_at (extents_of t.grid.shape.n t.grid.shape.g (var a)) (array_in (rank_at x 0).own.values (var a) node))) (sym only.told) here)
        | inr inner ↦ has_along w x (var a) view node only.told (only.others (var a) node (λ is l. (let yes = l.leaf in cc))) (nodes node was)
      ]

  -- and on another axis the guard places too
  reached_stay : (a : Axis) → (a ≡ b → ⊥) → (view : CellAt → ℤ) → LeavesReached w (var a) view → LeavesReached x (var a) view
  reached_stay a ne view leaves node leaf =
      let was : IsLeafNode w.told.grid node = subst (λ (t : Told). IsLeafNode t.grid node) only.told leaf in
      let same = only.others (var a) node (λ is l. ne (apart a b is)) in
      record {
        at = subst (λ (t : Told). let s = t.grid.shape in let e = extents_of s.n s.g (var a) in (i j k : ℕ) → i < e.x → j < e.y → k < e.z →
            number_at e (array_in (rank_at x 0).own.values (var a) node) i j k ≡ view (there_in s.n s.g s (var a) (block_at t.grid node) i j k)) (sym only.told)
            (subst (λ xs. let s = w.told.grid.shape in let e = extents_of s.n s.g (var a) in (i j k : ℕ) → i < e.x → j < e.y → k < e.z →
            number_at e xs i j k ≡ view (there_in s.n s.g s (var a) (block_at w.told.grid node) i j k)) (sym same) (leaves node was).at);
      }

-- three axes, one after the other
module _ (var : Axis → Var) (apart : Apart var) (w x y z : WorldState) (on_x : OnlyGuardPlaces w x (var X)) (on_y : OnlyGuardPlaces x y (var Y)) (on_z : OnlyGuardPlaces y z (var Z)) where
  pub three_guards_only : OnlyGuardAxes var w z
  unfolding OwnIn
  three_guards_only = record {
    told = on_z.told ∙ on_y.told ∙ on_x.told;
    others = λ u node none.
        on_z.others u node (λ is l. none Z is (subst (λ (t : Told). IsLeafNode t.grid node) (on_y.told ∙ on_x.told) l))
        ∙ on_y.others u node (λ is l. none Y is (subst (λ (t : Told). IsLeafNode t.grid node) on_x.told l)) ∙ on_x.others u node (none X);
    own = λ a node i j k leaf hi hj hk.
        let leaf_x = leaf_along var apart w x X on_x node leaf in
        let leaf_y = leaf_along var apart x y Y on_y node leaf_x in
        let last : OwnIn w.told y z (var a) node = subst (λ t. OwnIn t y z (var a) node) (on_y.told ∙ on_x.told) (axis_stays var apart y z Z on_z a node leaf_y) in
        let middle : OwnIn w.told x y (var a) node = subst (λ t. OwnIn t x y (var a) node) on_x.told (axis_stays var apart x y Y on_y a node leaf_x) in
        last i j k hi hj hk ∙ middle i j k hi hj hk ∙ axis_stays var apart w x X on_x a node leaf i j k hi hj hk;
  }

  module _ (view : Axis → CellAt → ℤ) (views : (u : WorldState) → u.told ≡ w.told → ((a : Axis) → NodesHave u (var a) (λ c. view a (canon w.told.grid.shape (var a) c))) → (a : Axis) → AreNodeViews u (var a) (view a))
      (nodes : (a : Axis) → NodesHave w (var a) (λ c. view a (canon w.told.grid.shape (var a) c)))
      (made_x : AreNodeViews w (var X) (view X) → LeavesReached x (var X) (view X)) (made_y : AreNodeViews x (var Y) (view Y) → LeavesReached y (var Y) (view Y)) (made_z : AreNodeViews y (var Z) (view Z) → LeavesReached z (var Z) (view Z)) where
    on_nodes_x : (a : Axis) → NodesHave x (var a) (λ c. view a (canon w.told.grid.shape (var a) c))
    on_nodes_x a = nodes_stay var apart w x X on_x a (λ c. view a (canon w.told.grid.shape (var a) c)) (nodes a)

    on_nodes_y : (a : Axis) → NodesHave y (var a) (λ c. view a (canon w.told.grid.shape (var a) c))
    on_nodes_y a = nodes_stay var apart x y Y on_y a (λ c. view a (canon w.told.grid.shape (var a) c)) (on_nodes_x a)

    pub three_reached : (a : Axis) → LeavesReached z (var a) (view a)
    three_reached X = reached_stay var apart y z Z on_z X (λ e. absurd cc) (view X) (reached_stay var apart x y Y on_y X (λ e. absurd cc) (view X) (made_x (views w refl nodes X)))
    three_reached Y = reached_stay var apart y z Z on_z Y (λ e. absurd cc) (view Y) (made_y (views x on_x.told on_nodes_x Y))
    three_reached Z = made_z (views y (on_y.told ∙ on_x.told) on_nodes_y Z)

-- ---- fields on faces

face_there_is : (s : Shape) (a : Axis) (b : BlockAt) (i j k : ℕ) → face_of a (there_in s.n s.g s (Face a) b i j k) ≡ face_there s a b i j k
face_there_is s X b i j k = refl
face_there_is s Y b i j k = refl
face_there_is s Z b i j k = refl

module _ (w : WorldState) (field : FaceAt → ℤ) where
  abbrev pub view_of_faces : Axis → CellAt → ℤ
  view_of_faces a c = face_view w.told.grid field (face_of a c)

  pub face_nodes : NodesHoldFaces w field → (a : Axis) → NodesHave w (Face a) (λ c. view_of_faces a (canon w.told.grid.shape (Face a) c))
  face_nodes holds a node there = record {
    at = λ i j k hi hj hk. (let g = w.told.grid in (holds node there a).at i j k hi hj hk ∙ ap (face_view g field) (face_named g.shape a (in_block g.shape.n (block_at g node) i j k)));
  }

  pub face_views_still : (u : WorldState) → u.told ≡ w.told → ((a : Axis) → NodesHave u (Face a) (λ c. view_of_faces a (canon w.told.grid.shape (Face a) c))) → (a : Axis) → AreNodeViews u (Face a) (view_of_faces a)
  face_views_still u told nodes a = record {
    views = (
      field,
      (λ node leaf x. record {
        at = λ i j k hi hj hk. (let g = u.told.grid in (nodes x node leaf.there).at i j k hi hj hk
            ∙ ap (λ (t : Told). face_view t.grid field (face_of x (canon t.grid.shape (Face x) (in_block g.shape.n (block_at g node) i j k)))) (sym told)
            ∙ ap (face_view g field) (sym (face_named g.shape x (in_block g.shape.n (block_at g node) i j k))));
      }),
      (λ c. ap (λ (t : Told). face_view t.grid field (face_of a c)) (sym told)),
    );
    nodes = subst (λ (t : Told). NodesHave u (Face a) (λ c. view_of_faces a (canon t.grid.shape (Face a) c))) (sym told) (nodes a);
  }

  pub face_guards : (z : WorldState) → z.told ≡ w.told → ((a : Axis) → LeavesReached z (Face a) (view_of_faces a)) → LeavesGuardedFaces z field
  face_guards z told reached node a leaf =
      let g = z.told.grid in record {
        at = λ i j k hi hj hk.
            (reached a node leaf).at i j k hi hj hk
            ∙ ap (λ (t : Told). face_view t.grid field (face_of a (there_in g.shape.n g.shape.g g.shape (Face a) (block_at g node) i j k))) (sym told)
            ∙ ap (face_view g field) (face_there_is g.shape a (block_at g node) i j k);
      }

-- ---- fields on edges

edge_there_is : (s : Shape) (a : Axis) (b : BlockAt) (i j k : ℕ) → edge_of a (there_in s.n s.g s (Edge a) b i j k) ≡ edge_there s a b i j k
edge_there_is s X b i j k = refl
edge_there_is s Y b i j k = refl
edge_there_is s Z b i j k = refl

module _ (w : WorldState) (field : EdgeAt → ℤ) where
  abbrev pub view_of_edges : Axis → CellAt → ℤ
  view_of_edges a c = edge_view w.told.grid field (edge_of a c)

  pub edge_nodes : NodesHoldEdges w field → (a : Axis) → NodesHave w (Edge a) (λ c. view_of_edges a (canon w.told.grid.shape (Edge a) c))
  edge_nodes holds a node there = record {
    at = λ i j k hi hj hk. (let g = w.told.grid in (holds node there a).at i j k hi hj hk ∙ ap (edge_view g field) (edge_named g.shape a (in_block g.shape.n (block_at g node) i j k)));
  }

  pub edge_views_still : (u : WorldState) → u.told ≡ w.told → ((a : Axis) → NodesHave u (Edge a) (λ c. view_of_edges a (canon w.told.grid.shape (Edge a) c))) → (a : Axis) → AreNodeViews u (Edge a) (view_of_edges a)
  edge_views_still u told nodes a = record {
    views = (
      field,
      (λ node leaf x. record {
        at = λ i j k hi hj hk. (let g = u.told.grid in (nodes x node leaf.there).at i j k hi hj hk
            ∙ ap (λ (t : Told). edge_view t.grid field (edge_of x (canon t.grid.shape (Edge x) (in_block g.shape.n (block_at g node) i j k)))) (sym told)
            ∙ ap (edge_view g field) (sym (edge_named g.shape x (in_block g.shape.n (block_at g node) i j k))));
      }),
      (λ c. ap (λ (t : Told). edge_view t.grid field (edge_of a c)) (sym told)),
    );
    nodes = subst (λ (t : Told). NodesHave u (Edge a) (λ c. view_of_edges a (canon t.grid.shape (Edge a) c))) (sym told) (nodes a);
  }

  pub edge_guards : (z : WorldState) → z.told ≡ w.told → ((a : Axis) → LeavesReached z (Edge a) (view_of_edges a)) → LeavesGuardedEdges z field
  edge_guards z told reached node a leaf =
      let g = z.told.grid in record {
        at = λ i j k hi hj hk.
            (reached a node leaf).at i j k hi hj hk
            ∙ ap (λ (t : Told). edge_view t.grid field (edge_of a (there_in g.shape.n g.shape.g g.shape (Edge a) (block_at g node) i j k))) (sym told)
            ∙ ap (edge_view g field) (edge_there_is g.shape a (block_at g node) i j k);
      }
