-- Electromotive forces of leaves, and worlds in whose work edges they stand.
use Rattle.std.proofs.Common.{◌≡◌, ℕ, suc, ◌+◌, ◌*◌, ◌^◌, ◌<◌, ◌≤◌, true, Bool, List, ℤ, length, unsigned_abs, refl, sym, ap, subst, ◌∙◌, arith, inl, inr}
use Rattle.amr_num.specs.Numbers.{Within, number_range}
use Rattle.amr_num.specs.declared.Axis.{Axis}
use Rattle.amr_num.specs.declared.Axis.TheVariants.{X, Y, Z}
use Rattle.amr_num.specs.declared.BlockAt.{BlockAt}
use Rattle.amr_num.specs.declared.FaceAt.{FaceAt}
use Rattle.mesh_model.specs.declared.fields.values.Var.TheVariants.{EdgeWork, Face}
use Rattle.mesh_model.specs.declared.geometry.Shape.{Shape}
use Rattle.mesh_model.specs.Fields.Advect.{Speeds, keeps_courant, speed, three}
use Rattle.mesh_model.specs.Fields.Arrays.{var_length}
use Rattle.mesh_model.specs.Fields.ArrayPlaces.{HoldsEdgeField, HoldsFaceGuards, IsSize, edge_extents, face_extents, number_at}
use Rattle.mesh_model.specs.Fields.FaceSplits.{by_axis}
use Rattle.mesh_model.specs.Fields.FinePlaces.{edges_in, faces_in}
use Rattle.mesh_model.specs.Fields.Induct.{leaf_electromotive_force}
use Rattle.mesh_model.specs.Fields.Ranks.{IsFit, IsSized, OnlyOf, Told, WorldState, world_with}
use Rattle.mesh_model.specs.Geometry.Blocks.{InDomain}
use Rattle.mesh_model.specs.Geometry.Limits.{IsShape}
use Rattle.mesh_model.specs.Tree.Kinds.{Grid}
use Rattle.mesh_model.specs.Tree.ValidGrid.{Valid}
use Rattle.mesh_model.proofs.FieldLemmas.Worlds.{fit_after, has_array, only_of, written_in}
use Rattle.block_tree.specs.Numbered.{block_at}
use Rattle.edge_average.specs.EdgeArrays.{EdgesWithin}
use Rattle.guard_fill.specs.Guarding.{LeavesGuardedFaces}
use Rattle.rank_world.specs.Holding.{IsLeafNode, LeafEdgesHold, OnlyAxes, edge_array, face_array}
use Rattle.rank_world.proofs.Puts.{which_array}
use Rattle.step_induct.specs.Forces.{AreEdgesWithin, AreFacesNear, Flow, IsFlowOf, IsForced, IsSlow}
use Rattle.step_induct.proofs.Lifted.{forces_of_leaves}
use Rattle.mesh_steps.specs.Forcing.{AreClosedSides, AreFacesGuarded, AreForced, AreForces, HasForces, MayForce, face_arrays}
use Rattle.mesh_steps.proofs.Flown.{speed_keeps}
use Rattle.mesh_model.proofs.TreeLemmas.Tiling.{leaf_says}
use Rattle.guard_fill.specs.Near.{IsNear}
use Rattle.guard_fill.proofs.NearFaces.{near_face_number_within}

-- ---- the forces of a leaf

abbrev pub flow_at : Speeds → BlockAt → List Bool → Flow
flow_at n b closed = record { level = b.level; speeds = n; closed = closed }

pub slow_flow : (s : Shape) (n : Speeds) (b : BlockAt) (closed : List Bool) → s.max ≤ 10 → keeps_courant s n ≡ true → b.level ≤ s.max → IsSlow (flow_at n b closed)
slow_flow s n b closed most keeps deep = record { level = omega (arith, most, deep); speed_on = λ a. speed_keeps s n a b.level keeps deep }

pub flow_of_sides : (s : Shape) (n : Speeds) (b : BlockAt) (closed : List Bool) → AreClosedSides s b closed → IsFlowOf s n b (flow_at n b closed)
flow_of_sides s n b closed sides = record { level = refl; speeds_of = refl; closed_low = sides.low; closed_high = sides.high }

pub wider_near : (n g : ℕ) (arrays : Axis → List ℤ) → AreFacesNear (2 ^ 50) n g arrays → AreFacesNear (2 ^ 56) n g arrays
wider_near n g arrays near = record { at = λ a i j k hi hj hk. let small = near.at a i j k hi hj hk in omega (arith, small) }

module _ (g : Grid) (n : Speeds) (a : Axis) (b : BlockAt) (flow : Flow) (faces : Axis → List ℤ) (old new : List ℤ) (shape : IsShape g.shape) (inside : InDomain g.shape b) (is : IsFlowOf g.shape n b flow) where
  abbrev Gives : ℕ → ℕ → Type 0
  Gives m e = AreFacesNear (2 ^ 50) m e faces → IsForced m e a flow faces old new →
      ((most : ℕ) → AreFacesNear most m e faces → AreEdgesWithin (2 * most) m e a (number_at (edge_extents m e a) new)) → AreForces g n a b faces new

  forces_there : Gives g.shape.n g.shape.g
  forces_there near forced size = record {
    forces = λ field guards. forces_of_leaves g field n a b flow faces old new shape inside is guards forced;
    within = λ i j k hi hj hk. let small = (size (2 ^ 50) near).at i j k hi hj hk in omega (arith, small);
  }

  pub leaf_forces : (m e : ℕ) → IsSized m e g.shape → Gives m e
  leaf_forces m e sized = subst (λ x. Gives x e) sized.cells (subst (λ d. Gives g.shape.n d) sized.guards forces_there)

-- ---- worlds

no_face : (c a : Axis) → Face c ≡ EdgeWork a → ⊥
no_face c a is = cc

-- work edges leave the faces as they are
pub faces_still : (old new : WorldState) (k : ℕ) → OnlyAxes EdgeWork old new → (c : Axis) → face_array new c k ≡ face_array old c k
faces_still old new k only c = only.others (Face c) k (λ a is. no_face c a is)

arrays_still : (old new : WorldState) (k : ℕ) → OnlyAxes EdgeWork old new → face_arrays new k ≡ face_arrays old k
arrays_still old new k only = λ i. by_axis (faces_still old new k only X i) (faces_still old new k only Y i) (faces_still old new k only Z i)

pub guarded_still : (old new : WorldState) (field : FaceAt → ℤ) → OnlyAxes EdgeWork old new → LeavesGuardedFaces old field → LeavesGuardedFaces new field
guarded_still old new field only guarded k c leaf =
    subst (λ (t : Told). HoldsFaceGuards t.grid field c (block_at t.grid k) (faces_in t.grid c (face_array new c k))) (sym only.told)
    (subst (λ xs. HoldsFaceGuards old.told.grid field c (block_at old.told.grid k) (faces_in old.told.grid c xs)) (sym (faces_still old new k only c))
    (guarded k c (subst (λ (t : Told). IsLeafNode t.grid k) only.told leaf)))

-- the work edges of a leaf along an axis have got its forces
module _ (w : WorldState) (node : ℕ) (speeds : Speeds) (a : Axis) (ys : List ℤ) (n e : ℕ) (may : MayForce n e w speeds) (leaf : IsLeafNode w.told.grid node) (size : IsSize n e)
    (long : length ys ≡ var_length n e (EdgeWork a)) (forces : AreForces w.told.grid speeds a (block_at w.told.grid node) (face_arrays w node) ys) where
  abbrev after : WorldState
  after = world_with w 0 (EdgeWork a) node ys

  changed : OnlyOf w after 0 (EdgeWork a) node
  changed = only_of w (EdgeWork a) node ys may.fit.one

  only_edges : OnlyAxes EdgeWork w after
  only_edges = record { told = refl; others = λ u k apart. changed.here.others u k (λ is at. apart a is) }

  pub forces_here : HasForces after speeds node a
  forces_here =
      let has = has_array n e w (EdgeWork a) node may.fit leaf.there tt in
      let is : edge_array true after a node ≡ ys = written_in w (EdgeWork a) node ys may.fit.one n e size may.fit has long in
      let b = block_at w.told.grid node in
      subst (AreForces w.told.grid speeds a b (face_arrays after node)) (sym is)
      (subst (λ xs. AreForces w.told.grid speeds a b xs ys) (sym (arrays_still w after node only_edges)) forces)

  forces_stay : (k : ℕ) (d : Axis) → (EdgeWork d ≡ EdgeWork a → k ≡ node → ⊥) → HasForces w speeds k d → HasForces after speeds k d
  forces_stay k d apart has =
      let b = block_at w.told.grid k in
      subst (AreForces w.told.grid speeds d b (face_arrays after k)) (sym (changed.here.others (EdgeWork d) k apart))
      (subst (λ xs. AreForces w.told.grid speeds d b xs (edge_array true w d k)) (sym (arrays_still w after k only_edges)) has)

  forces_after : (k : ℕ) (d : Axis) → HasForces w speeds k d → HasForces after speeds k d
  forces_after k d has = elim (which_array node k (EdgeWork a) (EdgeWork d)) [
    | inr other ↦ forces_stay k d other has
    | inl (is_node, is_var) ↦
        let is_axis : d ≡ a = cc in
        subst (λ u. HasForces after speeds u d) (sym is_node) (subst (HasForces after speeds node) (sym is_axis) forces_here)
  ]

  pub leaf_forced : AreForced n e w after speeds
  leaf_forced = record {
    only = only_edges;
    ready = record {
      fit = fit_after w (EdgeWork a) node ys may.fit.one n e size may.fit (has_array n e w (EdgeWork a) node may.fit leaf.there tt);
      declared = may.declared;
      guarded = record {
        field = may.guarded.field;
        guarded = guarded_still w after may.guarded.field only_edges may.guarded.guarded;
        small = may.guarded.small;
      };
      courant = may.courant;
    };
    keeps = forces_after;
  }

-- ---- steps one after the other

pub none_forced : (n e : ℕ) (w : WorldState) (speeds : Speeds) → MayForce n e w speeds → AreForced n e w w speeds
none_forced n e w speeds may = record {
  only = record { told = refl; others = λ u k apart. refl };
  ready = may;
  keeps = λ k a has. has;
}

pub then_forced : (n e : ℕ) (a b c : WorldState) (speeds : Speeds) → AreForced n e a b speeds → AreForced n e b c speeds → AreForced n e a c speeds
then_forced n e a b c speeds ab bc = record {
  only = record { told = bc.only.told ∙ ab.only.told; others = λ u k apart. bc.only.others u k apart ∙ ab.only.others u k apart };
  ready = bc.ready;
  keeps = λ k d has. bc.keeps k d (ab.keeps k d has);
}

-- once the work edges of all leaves have their forces, they hold those of the mesh
module _ (old new : WorldState) (speeds : Speeds) (only : OnlyAxes EdgeWork old new) (all : (k : ℕ) (a : Axis) → IsLeafNode old.told.grid k → HasForces new speeds k a) where
  back : (k : ℕ) → IsLeafNode new.told.grid k → IsLeafNode old.told.grid k
  back k = subst (λ (t : Told). IsLeafNode t.grid k) only.told

  pub forces_hold : (field : FaceAt → ℤ) → LeavesGuardedFaces old field → LeafEdgesHold true new (leaf_electromotive_force old.told.grid field speeds)
  forces_hold field guarded k a leaf =
      let held : HoldsEdgeField new.told.grid (leaf_electromotive_force new.told.grid field speeds) a (block_at new.told.grid k) (edges_in new.told.grid a (edge_array true new a k)) =
      (all k a (back k leaf)).forces field (elim [
        | X ↦ guarded_still old new field only guarded k X leaf
        | Y ↦ guarded_still old new field only guarded k Y leaf
        | Z ↦ guarded_still old new field only guarded k Z leaf
      ]) in
      let as_old = subst (λ (t : Told). HoldsEdgeField new.told.grid (leaf_electromotive_force t.grid field speeds) a (block_at new.told.grid k) (edges_in new.told.grid a (edge_array true new a k))) only.told held in
      record { at = λ i j l hi hj hl is. as_old.at i j l hi hj hl }

  pub forces_within : EdgesWithin true new (2 ^ 56)
  forces_within k a leaf = record { at = (all k a (back k leaf)).within }

-- ---- the faces near a leaf

module _ (n e : ℕ) (w : WorldState) (node : ℕ) (speeds : Speeds) (valid : Valid w.told.grid) (leaf : IsLeafNode w.told.grid node) (may : MayForce n e w speeds) where
  abbrev grid : Grid
  grid = w.told.grid

  abbrev s : Shape
  s = grid.shape

  number_near : (a : Axis) (i j k : ℕ) → IsNear s i → IsNear s j → IsNear s k → Within (2 ^ 50) (number_at (face_extents s.n s.g a) (face_array w a node) i j k)
  number_near a i j k hi hj hk =
      let b = block_at grid node in
      let small = near_face_number_within grid may.guarded.field number_range a b i j k (faces_in grid a (face_array w a node)) valid may.guarded.small (leaf_says grid b leaf.leaf) (may.guarded.guarded node a leaf) hi hj hk in
      omega (arith, small)

  near_there : AreFacesNear (2 ^ 50) s.n s.g (face_arrays w node)
  near_there = record {
    at = elim [
      | X ↦ λ i j k hi hj hk. number_near X i j k (record { low = hi.0; high = hi.1 }) (record { low = hj.0; high = hj.1 }) (record { low = hk.0; high = hk.1 })
      | Y ↦ λ i j k hi hj hk. number_near Y i j k (record { low = hi.0; high = hi.1 }) (record { low = hj.0; high = hj.1 }) (record { low = hk.0; high = hk.1 })
      | Z ↦ λ i j k hi hj hk. number_near Z i j k (record { low = hi.0; high = hi.1 }) (record { low = hj.0; high = hj.1 }) (record { low = hk.0; high = hk.1 })
    ];
  }

  pub leaf_near : AreFacesNear (2 ^ 50) n e (face_arrays w node)
  leaf_near = subst (λ m. AreFacesNear (2 ^ 50) m e (face_arrays w node)) may.fit.sizes.cells (subst (λ d. AreFacesNear (2 ^ 50) s.n d (face_arrays w node)) may.fit.sizes.guards near_there)
