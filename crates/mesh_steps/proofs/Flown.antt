-- Fluxes of leaves, and worlds in whose work faces they stand.
use Rattle.std.proofs.Common.{◌≡◌, ℕ, ◌+◌, ◌-◌, ◌*◌, ◌^◌, ◌<◌, ◌≤◌, true, List, ℤ, length, unsigned_abs, refl, sym, subst, ◌∙◌, arith, inl, inr, leb-true, pow_mono}
use Rattle.std.proofs.Math.Nat.{le-mul_of_pos_right}
use Rattle.std.proofs.lemmas.Nat.{mul-le, pow_pos}
use Rattle.amr_num.specs.Numbers.{Within, number_range}
use Rattle.amr_num.specs.declared.Axis.{Axis}
use Rattle.amr_num.specs.declared.Axis.TheVariants.{X, Y, Z}
use Rattle.amr_num.specs.declared.BlockAt.{BlockAt}
use Rattle.amr_num.specs.declared.CellAt.{CellAt}
use Rattle.mesh_model.specs.declared.fields.values.Var.TheVariants.{Cell, FaceWork}
use Rattle.mesh_model.specs.declared.geometry.Shape.{Shape}
use Rattle.mesh_model.specs.Fields.Advect.{Speeds, keeps_courant, leaf_flux, speed}
use Rattle.mesh_model.specs.Fields.Arrays.{var_length}
use Rattle.mesh_model.specs.Fields.ArrayPlaces.{HoldsFaceField, IsSize, cell_extents, face_extents, number_at}
use Rattle.mesh_model.specs.Fields.Octants.{cells_of}
use Rattle.mesh_model.specs.Fields.Ranks.{IsSized, OnlyOf, Told, WorldState, world_with}
use Rattle.mesh_model.specs.Geometry.Blocks.{InDomain}
use Rattle.mesh_model.specs.Geometry.Coordinates.{step}
use Rattle.mesh_model.specs.Geometry.Limits.{IsShape}
use Rattle.mesh_model.specs.Geometry.Places.{longer_on}
use Rattle.mesh_model.specs.Geometry.Touch.{block_on}
use Rattle.mesh_model.specs.Tree.Kinds.{Grid}
use Rattle.mesh_model.specs.Tree.Order.{IsIn}
use Rattle.mesh_model.specs.Tree.ValidGrid.{Valid}
use Rattle.mesh_model.proofs.TreeLemmas.Tiling.{leaf_says}
use Rattle.mesh_model.proofs.FieldLemmas.Worlds.{fit_after, has_array, only_of, written_in}
use Rattle.block_tree.specs.Numbered.{block_at}
use Rattle.rank_world.specs.Holding.{IsLeafNode, cell_array}
use Rattle.rank_world.proofs.Puts.{which_array}
use Rattle.guard_fill.specs.Filling.{HoldsSides, IsStraight, LeavesSided, NodeSided}
use Rattle.guard_fill.specs.Near.{IsNear}
use Rattle.guard_fill.proofs.NearViews.{near_view_within}
use Rattle.step_advect.specs.Fluxed.{AreFacesWithin, AreSidesWithin, Flow, IsFluxed}
use Rattle.step_advect.specs.Lifts.{HoldsBeside, IsFlowOf}
use Rattle.step_advect.proofs.Donors.{places_inside}
use Rattle.step_advect.proofs.Lifted.{fluxes_of_leaves}
use Rattle.flux_conserve.specs.Work.{IsJumpNode, OnlyWorkFaces, WorkHolds, WorkWithin, work_array}
use Rattle.staggered.specs.Blocks.{IsSmallBlock}
use Rattle.mesh_steps.specs.Flowing.{AreFlowed, AreFluxes, HasFluxes, IsReady}

-- the coordinate of a block on an axis
pub coordinate_small : (a : Axis) (b : BlockAt) → IsSmallBlock b → block_on a b < 8192
coordinate_small X b small = small.x
coordinate_small Y b small = small.y
coordinate_small Z b small = small.z

-- ---- speeds

courant_says : (s : Shape) (n : Speeds) → keeps_courant s n ≡ true → (unsigned_abs n.x + unsigned_abs n.y + unsigned_abs n.z) * 2 ^ s.max ≤ 2 ^ 20
unfolding keeps_courant
courant_says s n h = leb-true _ _ h

one_of_three : (n : Speeds) (a : Axis) → unsigned_abs (speed n a) ≤ unsigned_abs n.x + unsigned_abs n.y + unsigned_abs n.z
one_of_three n X = omega arith
one_of_three n Y = omega arith
one_of_three n Z = omega arith

-- under the Courant limit each speed moves at most one cell of a level
pub speed_keeps : (s : Shape) (n : Speeds) (a : Axis) (l : ℕ) → keeps_courant s n ≡ true → l ≤ s.max → unsigned_abs (speed n a) * 2 ^ l ≤ 2 ^ 20
speed_keeps s n a l keeps deep =
    let all = courant_says s n keeps in
    let one = mul-le (unsigned_abs (speed n a)) (2 ^ l) (unsigned_abs n.x + unsigned_abs n.y + unsigned_abs n.z) (2 ^ s.max) (one_of_three n a) (pow_mono deep) in
    omega arith

-- so it is small
pub speed_small : (l : ℕ) (v : ℤ) → unsigned_abs v * 2 ^ l ≤ 2 ^ 20 → Within (2 ^ 20) v
speed_small l v h = let less = le-mul_of_pos_right (unsigned_abs v) (pow_pos l) in omega arith

-- ---- the cells on both sides of a leaf's faces

longer_few : (a d : Axis) (n : ℕ) → longer_on a d n ≤ n + 1
longer_few X X n = omega arith
longer_few X Y n = omega arith
longer_few X Z n = omega arith
longer_few Y X n = omega arith
longer_few Y Y n = omega arith
longer_few Y Z n = omega arith
longer_few Z X n = omega arith
longer_few Z Y n = omega arith
longer_few Z Z n = omega arith

step_few : (a : Axis) → ((step a 1).x ≤ 1) × ((step a 1).y ≤ 1) × ((step a 1).z ≤ 1)
step_few X = (omega arith, omega arith, omega arith)
step_few Y = (omega arith, omega arith, omega arith)
step_few Z = (omega arith, omega arith, omega arith)

guards_some : (s : Shape) → IsShape s → 1 ≤ s.g
guards_some s shape = elim shape.guards [
  | inl one ↦ omega arith
  | inr (inl two) ↦ omega arith
  | inr (inr four) ↦ omega arith
]

-- they lie in its own cells or straight across its sides
straight_beside : (s : Shape) (a : Axis) (i j k h : ℕ) → 1 ≤ s.g → h ≤ 1 → i < longer_on a X s.n → j < longer_on a Y s.n → k < longer_on a Z s.n →
    IsStraight s (s.g + i - (step a h).x) (s.g + j - (step a h).y) (s.g + k - (step a h).z)
straight_beside s X i j k h some le hi hj hk = record { own = inr (inr ((omega arith, omega arith), (omega arith, omega arith))) }
straight_beside s Y i j k h some le hi hj hk = record { own = inr (inl ((omega arith, omega arith), (omega arith, omega arith))) }
straight_beside s Z i j k h some le hi hj hk = record { own = inl ((omega arith, omega arith), (omega arith, omega arith)) }

straight_above : (s : Shape) (a : Axis) (i j k : ℕ) → i < longer_on a X s.n → j < longer_on a Y s.n → k < longer_on a Z s.n → IsStraight s (s.g + i) (s.g + j) (s.g + k)
straight_above s X i j k hi hj hk = record { own = inr (inr ((omega arith, omega arith), (omega arith, omega arith))) }
straight_above s Y i j k hi hj hk = record { own = inr (inl ((omega arith, omega arith), (omega arith, omega arith))) }
straight_above s Z i j k hi hj hk = record { own = inl ((omega arith, omega arith), (omega arith, omega arith)) }

beside_sides : (g : Grid) (content : CellAt → ℤ) (a : Axis) (b : BlockAt) (numbers : ℕ → ℕ → ℕ → ℤ) → IsShape g.shape → HoldsSides g content b numbers → HoldsBeside g content a b numbers
beside_sides g content a b numbers shape sides = record {
  at = λ i j k h hi hj hk le.
      let some = guards_some g.shape shape in
      let there = places_inside g.shape.n g.shape.g a i j k h some hi hj hk in
      sides.at _ _ _ there.0 there.1 there.2 (straight_beside g.shape a i j k h some le hi hj hk);
}

module _ (g : Grid) (content : CellAt → ℤ) (b : BlockAt) (cells : List ℤ) (valid : Valid g) (small : (c : CellAt) → Within number_range (content c)) (leaf : IsIn b g.leaves)
    (guards : HoldsSides g content b (number_at (cell_extents g.shape.n g.shape.g) cells)) where
  number_small : (i j k : ℕ) → IsNear g.shape i → IsNear g.shape j → IsNear g.shape k → IsStraight g.shape i j k → Within (2 ^ 56) (number_at (cell_extents g.shape.n g.shape.g) cells i j k)
  number_small i j k hi hj hk straight =
      let some = guards_some g.shape valid.shape in
      let i_high = hi.high in
      let j_high = hj.high in
      let k_high = hk.high in
      let is = guards.at i j k (omega arith) (omega arith) (omega arith) straight in
      let view = near_view_within g content number_range b i j k valid small leaf hi hj hk in
      subst (Within (2 ^ 56)) (sym is) (omega arith)

  near_low : (i h m : ℕ) → i < m → m ≤ g.shape.n + 1 → h ≤ 1 → IsNear g.shape (g.shape.g + i - h)
  near_low i h m less few one = record { low = omega arith; high = omega arith }

  near_high : (i m : ℕ) → i < m → m ≤ g.shape.n + 1 → IsNear g.shape (g.shape.g + i)
  near_high i m less few = record { low = omega arith; high = omega arith }

  pub sides_small : (a : Axis) → AreSidesWithin (2 ^ 56) g.shape.n g.shape.g a (number_at (cell_extents g.shape.n g.shape.g) cells)
  sides_small a =
      let n = g.shape.n in
      let e = g.shape.g in
      let h = step_few a in
      record {
        low = λ i j k hi hj hk. number_small (e + i - (step a 1).x) (e + j - (step a 1).y) (e + k - (step a 1).z)
            (near_low i (step a 1).x (longer_on a X n) hi (longer_few a X n) h.0) (near_low j (step a 1).y (longer_on a Y n) hj (longer_few a Y n) h.1) (near_low k (step a 1).z (longer_on a Z n) hk (longer_few a Z n) h.2)
            (straight_beside g.shape a i j k 1 (guards_some g.shape valid.shape) (omega arith) hi hj hk);
        high = λ i j k hi hj hk. number_small (e + i) (e + j) (e + k)
            (near_high i (longer_on a X n) hi (longer_few a X n)) (near_high j (longer_on a Y n) hj (longer_few a Y n)) (near_high k (longer_on a Z n) hk (longer_few a Z n)) (straight_above g.shape a i j k hi hj hk);
      }

-- in the sizes of the world's blocks
sized_sides : (n e : ℕ) (s : Shape) (a : Axis) (cells : List ℤ) → IsSized n e s → AreSidesWithin (2 ^ 56) s.n s.g a (number_at (cell_extents s.n s.g) cells) →
    AreSidesWithin (2 ^ 56) n e a (number_at (cell_extents n e) cells)
sized_sides n e s a cells sized =
    let Given : ℕ → ℕ → Type 0 = λ m d. AreSidesWithin (2 ^ 56) m d a (number_at (cell_extents m d) cells) in
    λ is. subst (λ m. Given m e) sized.cells (subst (λ d. Given s.n d) sized.guards is)

-- those of a leaf whose guard cells are filled
pub leaf_sides : (n e : ℕ) (w : WorldState) (v node : ℕ) (speeds : Speeds) (a : Axis) → Valid w.told.grid → IsLeafNode w.told.grid node → IsReady n e w v speeds →
    AreSidesWithin (2 ^ 56) n e a (number_at (cell_extents n e) (cell_array w v node))
leaf_sides n e w v node speeds a valid leaf ready =
    let g = w.told.grid in
    let b = block_at g node in
    let cells = cell_array w v node in
    sized_sides n e g.shape a cells ready.fit.sizes
    (sides_small g ready.guarded.content b cells valid ready.guarded.small (leaf_says g b leaf.leaf) (ready.guarded.guarded node leaf) a)

-- ---- the fluxes of a leaf

module _ (g : Grid) (speeds : Speeds) (a : Axis) (b : BlockAt) (flow : Flow) (cells old new : List ℤ) (shape : IsShape g.shape) (inside : InDomain g.shape b) (is : IsFlowOf g.shape speeds a b flow)
  where
    abbrev Gives : ℕ → ℕ → Type 0
    Gives n e = AreSidesWithin (2 ^ 56) n e a (number_at (cell_extents n e) cells) → IsFluxed n e a flow cells old new →
        ((most : ℕ) → AreSidesWithin most n e a (number_at (cell_extents n e) cells) → AreFacesWithin most n e a (number_at (face_extents n e a) new)) →
        AreFluxes g speeds a b cells new

    fluxes_there : Gives g.shape.n g.shape.g
    fluxes_there small fluxed size = record {
      fluxes = λ content guards. fluxes_of_leaves g content speeds a b flow cells old new shape inside is (beside_sides g content a b (number_at (cell_extents g.shape.n g.shape.g) cells) shape guards) fluxed;
      within = (size (2 ^ 56) small).at;
    }

    pub leaf_fluxes : (n e : ℕ) → IsSized n e g.shape → Gives n e
    leaf_fluxes n e sized = subst (λ m. Gives m e) sized.cells (subst (λ d. Gives g.shape.n d) sized.guards fluxes_there)

-- ---- worlds

cell_apart : (v : ℕ) (a : Axis) → Cell v ≡ FaceWork a → ⊥
cell_apart v a is = cc

-- work faces leave the cells as they are
pub cells_same : (old new : WorldState) (v k : ℕ) → OnlyWorkFaces old new → cell_array new v k ≡ cell_array old v k
cells_same old new v k only = only.others (Cell v) k (λ a is leaf. cell_apart v a is)

pub guarded_same : (old new : WorldState) (v k : ℕ) (content : CellAt → ℤ) → OnlyWorkFaces old new → NodeSided old v content k → NodeSided new v content k
guarded_same old new v k content only guarded =
    subst (λ (t : Told). HoldsSides t.grid content (block_at t.grid k) (cells_of t.grid (cell_array new v k))) (sym only.told)
    (subst (λ xs. HoldsSides old.told.grid content (block_at old.told.grid k) (cells_of old.told.grid xs)) (sym (cells_same old new v k only)) guarded)

-- the work faces of a leaf on an axis have got its fluxes
module _ (w : WorldState) (v node : ℕ) (speeds : Speeds) (a : Axis) (ys : List ℤ) (n e : ℕ) (ready : IsReady n e w v speeds) (leaf : IsLeafNode w.told.grid node) (size : IsSize n e)
    (long : length ys ≡ var_length n e (FaceWork a)) (fluxes : AreFluxes w.told.grid speeds a (block_at w.told.grid node) (cell_array w v node) ys) where
  abbrev after : WorldState
  after = world_with w 0 (FaceWork a) node ys

  changed : OnlyOf w after 0 (FaceWork a) node
  changed = only_of w (FaceWork a) node ys ready.fit.one

  only_faces : OnlyWorkFaces w after
  only_faces = record {
    told = refl;
    others = λ u k apart. changed.here.others u k (λ is at. apart a is (subst (IsLeafNode w.told.grid) (sym at) leaf));
  }

  pub fluxes_here : HasFluxes after v speeds node a
  fluxes_here =
      let has = has_array n e w (FaceWork a) node ready.fit leaf.there tt in
      let is : work_array after a node ≡ ys = written_in w (FaceWork a) node ys ready.fit.one n e size ready.fit has long in
      let b = block_at w.told.grid node in
      subst (AreFluxes w.told.grid speeds a b (cell_array after v node)) (sym is)
      (subst (λ xs. AreFluxes w.told.grid speeds a b xs ys) (sym (cells_same w after v node only_faces)) fluxes)

  fluxes_stay : (k : ℕ) (d : Axis) → (FaceWork d ≡ FaceWork a → k ≡ node → ⊥) → HasFluxes w v speeds k d → HasFluxes after v speeds k d
  fluxes_stay k d apart has =
      let b = block_at w.told.grid k in
      subst (AreFluxes w.told.grid speeds d b (cell_array after v k)) (sym (changed.here.others (FaceWork d) k apart))
      (subst (λ xs. AreFluxes w.told.grid speeds d b xs (work_array w d k)) (sym (cells_same w after v k only_faces)) has)

  fluxes_after : (k : ℕ) (d : Axis) → HasFluxes w v speeds k d → HasFluxes after v speeds k d
  fluxes_after k d has = elim (which_array node k (FaceWork a) (FaceWork d)) [
    | inr other ↦ fluxes_stay k d other has
    | inl (is_node, is_var) ↦
        let is_axis : d ≡ a = cc in
        subst (λ u. HasFluxes after v speeds u d) (sym is_node) (subst (HasFluxes after v speeds node) (sym is_axis) fluxes_here)
  ]

  pub leaf_flowed : AreFlowed n e w after v speeds
  leaf_flowed = record {
    only = only_faces;
    ready = record {
      fit = fit_after w (FaceWork a) node ys ready.fit.one n e size ready.fit (has_array n e w (FaceWork a) node ready.fit leaf.there tt);
      variable = ready.variable;
      guarded = record {
        content = ready.guarded.content;
        guarded = λ k there. guarded_same w after v k ready.guarded.content only_faces (ready.guarded.guarded k there);
        small = ready.guarded.small;
      };
      courant = ready.courant;
    };
    keeps = fluxes_after;
  }

-- ---- steps one after the other

pub none_flowed : (n e : ℕ) (w : WorldState) (v : ℕ) (speeds : Speeds) → IsReady n e w v speeds → AreFlowed n e w w v speeds
none_flowed n e w v speeds ready = record {
  only = record { told = refl; others = λ u k apart. refl };
  ready = ready;
  keeps = λ k a has. has;
}

pub then_flowed : (n e : ℕ) (a b c : WorldState) (v : ℕ) (speeds : Speeds) → AreFlowed n e a b v speeds → AreFlowed n e b c v speeds → AreFlowed n e a c v speeds
then_flowed n e a b c v speeds ab bc = record {
  only = record {
    told = bc.only.told ∙ ab.only.told;
    others = λ u k apart. bc.only.others u k (λ d is leaf. apart d is (subst (λ (t : Told). IsLeafNode t.grid k) ab.only.told leaf)) ∙ ab.only.others u k apart;
  };
  ready = bc.ready;
  keeps = λ k d has. bc.keeps k d (ab.keeps k d has);
}

-- once the work faces of all leaves at a jump have their fluxes, they hold those of the mesh
module _ (old new : WorldState) (v : ℕ) (speeds : Speeds) (only : OnlyWorkFaces old new) (all : (k : ℕ) (a : Axis) → IsJumpNode old.told.grid k → HasFluxes new v speeds k a) where
  back : (k : ℕ) → IsJumpNode new.told.grid k → IsJumpNode old.told.grid k
  back k = subst (λ (t : Told). IsJumpNode t.grid k) only.told

  pub holds_after : (content : CellAt → ℤ) → LeavesSided old v content → WorkHolds new (leaf_flux old.told.grid content speeds)
  holds_after content guarded k a leaf =
      let s = new.told.grid.shape in
      let here = (all k a (back k leaf)).fluxes content (guarded_same old new v k content only (guarded k (back k leaf).own)) in
      subst (λ (t : Told). HoldsFaceField new.told.grid (leaf_flux t.grid content speeds) a (block_at new.told.grid k) (number_at (face_extents s.n s.g a) (work_array new a k))) only.told here

  pub within_after : WorkWithin new (2 ^ 56)
  within_after k a leaf = record { at = (all k a (back k leaf)).within }
