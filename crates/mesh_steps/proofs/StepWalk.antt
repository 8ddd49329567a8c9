-- Leaves whose work faces get what a step gives, one after the other, and that take these over.
use Rattle.std.proofs.Common.{◌≡◌, ℕ, ◌+◌, ◌<◌, ◌≤◌, true, false, List, ℤ, Option, None, Some, Result, Ok, Err, OnOk, IfErr, refl, sym, ap, ap₂, subst, ◌∙◌, arith, inl, inr}
use Rattle.std.specs.Option.{option_or}
use Rattle.std.proofs.lemmas.Bool.{cases_lt}
use Rattle.amr_num.specs.declared.Axis.{Axis}
use Rattle.amr_num.specs.declared.Axis.TheVariants.{X, Y, Z}
use Rattle.amr_num.specs.declared.EdgeAt.{EdgeAt}
use Rattle.amr_num.specs.declared.FaceAt.{FaceAt}
use Rattle.mesh_model.specs.declared.fields.values.Var.TheVariants.{Face, FaceWork}
use Rattle.mesh_model.specs.Fields.ArrayPlaces.{HoldsEdges, HoldsFaceField, HoldsFaces}
use Rattle.mesh_model.specs.Fields.FinePlaces.{edges_in, faces_in}
use Rattle.mesh_model.specs.Fields.FaceSplits.{by_axis}
use Rattle.mesh_model.specs.Fields.Ranks.{IsFit, OnlyOf, Told, WorldState}
use Rattle.mesh_model.specs.Tree.Kinds.{is_leaf_block}
use Rattle.mesh_model.specs.Tree.ValidGrid.{Valid}
use Rattle.mesh_model.proofs.FieldLemmas.FirstFound.{one_more_none}
use Rattle.block_tree.specs.Numbered.{block_at}
use Rattle.rank_world.specs.FaceRange.{HasAxis, HasWorkField, axis_above, first_above}
use Rattle.rank_world.specs.declared.faces.FaceAbove.{FaceAbove}
use Rattle.rank_world.specs.Holding.{IsLeafNode, LeavesHoldFaces, OnlyAxes, OnlyAxesOf, edge_array, edge_var, face_array, stored}
use Rattle.rank_world.proofs.FaceBlocks.{leaf_face_seen}
use Rattle.step_induct.specs.Circling.{AreEdgeArrays, IsFaceArray}
use Rattle.mesh_steps.specs.Circulations.{HasRead, HaveGiven, IsFacesTaken, IsSmall, LeavesShow, MayStep, NodeShows, OnlyFacesAndWork, edge_arrays, given, is_work, stepped}
use Rattle.mesh_steps.specs.declared.circulations.Step.{Step}
use Rattle.mesh_steps.specs.declared.circulations.Step.TheVariants.{Curl, Induct}
use Rattle.staggered.specs.Facing.{above_below, node_above}
use Rattle.mesh_steps.proofs.Given.{stepped_seen}

-- the arrays of edges along the axes, one by one
pub three_arrays : (step : Step) (w : WorldState) (node : ℕ) (p q r : List ℤ) → p ≡ edge_array (is_work step) w X node → q ≡ edge_array (is_work step) w Y node → r ≡ edge_array (is_work step) w Z node →
    by_axis p q r ≡ edge_arrays step w node
three_arrays step w node p q r on_x on_y on_z = λ i. by_axis (on_x i) (on_y i) (on_z i)

-- ---- worlds of which work faces alone change

-- the edges that a step reads, and the faces, are what they were
pub record SameRead (step : Step) (old new : WorldState) : Type 0 where
  pub told : new.told ≡ old.told
  pub edges : (a : Axis) (node : ℕ) → edge_array (is_work step) new a node ≡ edge_array (is_work step) old a node
  pub faces : (a : Axis) (node : ℕ) → face_array new a node ≡ face_array old a node

no_work_face : (step : Step) (a x : Axis) → edge_var (is_work step) x ≡ FaceWork a → ⊥
no_work_face Curl a x is = cc
no_work_face Induct a x is = cc

pub same_after_one : (step : Step) (old new : WorldState) (a : Axis) (node : ℕ) → OnlyOf old new 0 (FaceWork a) node → SameRead step old new
same_after_one step old new a node only = record {
  told = only.told;
  edges = λ x k. only.here.others (edge_var (is_work step) x) k (λ is at. no_work_face step a x is);
  faces = λ x k. only.here.others (Face x) k (λ is at. absurd cc);
}

pub same_after_all : (step : Step) (old new : WorldState) → OnlyAxes FaceWork old new → SameRead step old new
same_after_all step old new only = record {
  told = only.told;
  edges = λ x k. only.others (edge_var (is_work step) x) k (λ a is. no_work_face step a x is);
  faces = λ x k. only.others (Face x) k (λ a is. absurd cc);
}

module _ (step : Step) (old new : WorldState) (same : SameRead step old new) where
  pub shows_still : (faces : FaceAt → ℤ) (edges : EdgeAt → ℤ) (node : ℕ) → NodeShows step old faces edges node → NodeShows step new faces edges node
  shows_still faces edges node shows = record {
    on_edges = λ a.
        subst (λ (t : Told). HoldsEdges t.grid edges a (block_at t.grid node) (edges_in t.grid a (edge_array (is_work step) new a node))) (sym same.told)
        (subst (λ xs. HoldsEdges old.told.grid edges a (block_at old.told.grid node) (edges_in old.told.grid a xs)) (sym (same.edges a node)) (shows.on_edges a));
    on_faces = λ is a.
        subst (λ (t : Told). HoldsFaces t.grid faces a (block_at t.grid node) (faces_in t.grid a (face_array new a node))) (sym same.told)
        (subst (λ xs. HoldsFaces old.told.grid faces a (block_at old.told.grid node) (faces_in old.told.grid a xs)) (sym (same.faces a node)) (shows.on_faces is a));
  }

  arrays_still : (node : ℕ) → edge_arrays step new node ≡ edge_arrays step old node
  arrays_still node = λ i. by_axis (same.edges X node i) (same.edges Y node i) (same.edges Z node i)

  pub small_still : (n g node : ℕ) → IsSmall step n g old node → IsSmall step n g new node
  small_still n g node small = record {
    edges = subst (AreEdgeArrays n g) (sym (arrays_still node)) small.edges;
    faces = λ is a. subst (IsFaceArray n g a) (sym (same.faces a node)) (small.faces is a);
  }

  pub may_still : (n g node : ℕ) → IsFit n g new → MayStep step n g old node → MayStep step n g new node
  may_still n g node fit may = record {
    fit = fit;
    declared = subst (λ (t : Told). HasRead step t.counts) (sym same.told) may.declared;
    leaf = subst (λ (t : Told). IsLeafNode t.grid node) (sym same.told) may.leaf;
    small = small_still n g node may.small;
  }

-- the arrays of the leaf's other axes are what they were
pub has_still : (old new : WorldState) (field : FaceAt → ℤ) (node : ℕ) (a x : Axis) → (a ≡ x → ⊥) → OnlyOf old new 0 (FaceWork x) node → HasAxis true old field node a → HasAxis true new field node a
has_still old new field node a x apart only has =
    subst (λ (t : Told). HoldsFaceField t.grid field a (block_at t.grid node) (faces_in t.grid a (stored true new a node))) (sym only.told)
    (subst (λ xs. HoldsFaceField old.told.grid field a (block_at old.told.grid node) (faces_in old.told.grid a xs)) (sym (only.here.others (FaceWork a) node (λ is at. apart (same_work a x is)))) has)
  where
    same_work : (a x : Axis) → FaceWork a ≡ FaceWork x → a ≡ x
    same_work a x is = cc

-- ---- one leaf, axis by axis

module _ (step : Step) (old a : WorldState) (node : ℕ) (on_x : OnlyOf old a 0 (FaceWork X) node) (faces : FaceAt → ℤ) (edges : EdgeAt → ℤ) (shows : NodeShows step old faces edges node) where
  pub shows_first : NodeShows step a faces edges node
  shows_first = shows_still step old a (same_after_one step old a X node on_x) faces edges node shows

  abbrev Above : WorldState → Axis → Option FaceAbove
  Above w x = axis_above w.told.grid (stepped step w.told.grid faces edges) (block_at w.told.grid node) x

  abbrev First : Option FaceAbove
  First = first_above old.told.grid (stepped step old.told.grid faces edges) (block_at old.told.grid node)

  as_old : (w : WorldState) (x : Axis) (o : Option FaceAbove) → w.told ≡ old.told → Above w x ≡ o → Above old x ≡ o
  as_old w x o told is = subst (λ (t : Told). axis_above t.grid (stepped step t.grid faces edges) (block_at t.grid node) x ≡ o) told is

  pub on_second : (found : FaceAbove) → Above old X ≡ None → Above a Y ≡ Some found → First ≡ Some found
  on_second found none is = ap₂ (λ o r. option_or o (option_or r (Above old Z))) none (as_old a Y (Some found) on_x.told is)

  module _ (b d : WorldState) (on_y : OnlyOf a b 0 (FaceWork Y) node) (on_z : OnlyOf b d 0 (FaceWork Z) node) where
    pub shows_second : NodeShows step b faces edges node
    shows_second = shows_still step a b (same_after_one step a b Y node on_y) faces edges node shows_first

    pub has_all : HasAxis true a (given step old.told.grid faces edges) node X → HasAxis true b (given step a.told.grid faces edges) node Y → HasAxis true d (given step b.told.grid faces edges) node Z →
        HasWorkField d (given step old.told.grid faces edges) node
    has_all has_x has_y has_z = elim [
      | X ↦ has_still b d (given step old.told.grid faces edges) node X Z (λ is. cc) on_z (has_still a b (given step old.told.grid faces edges) node X Y (λ is. cc) on_y has_x)
      | Y ↦ has_still b d (given step old.told.grid faces edges) node Y Z (λ is. cc) on_z (subst (λ (t : Told). HasAxis true b (given step t.grid faces edges) node Y) on_x.told has_y)
      | Z ↦ subst (λ (t : Told). HasAxis true d (given step t.grid faces edges) node Z) (on_y.told ∙ on_x.told) has_z
    ]

    pub on_last : (o : Option FaceAbove) → Above old X ≡ None → Above a Y ≡ None → Above b Z ≡ o → First ≡ o
    on_last o none none_yet is = ap₂ (λ p q. option_or p (option_or q (Above old Z))) none (as_old a Y None on_x.told none_yet) ∙ as_old b Z o (on_y.told ∙ on_x.told) is

-- what holds of an answer's cases, by what holds of them
pub ok_mapped : {A E P Q : Type 0} (r : Result A E) → (P → Q) → OnOk r P → OnOk r Q
ok_mapped (Ok done) f is = f is
ok_mapped (Err e) f is = tt

pub ok_any : {A E P : Type 0} (r : Result A E) → P → OnOk r P
ok_any (Ok done) is = is
ok_any (Err e) is = tt

pub err_mapped : {A E : Type 0} (P Q : E → Type 0) (r : Result A E) → ((e : E) → P e → Q e) → IfErr r P → IfErr r Q
err_mapped P Q (Ok done) f is = tt
err_mapped P Q (Err e) f is = f e is

-- ---- leaves below a node

-- they have what the step gives, and none was out of range
pub record AreSteppedBelow (step : Step) (m : ℕ) (old new : WorldState) : Type 0 where
  pub has : (faces : FaceAt → ℤ) (edges : EdgeAt → ℤ) → LeavesShow step old faces edges → (k : ℕ) → k < m → IsLeafNode old.told.grid k → HasWorkField new (given step old.told.grid faces edges) k
  pub none : (faces : FaceAt → ℤ) (edges : EdgeAt → ℤ) → LeavesShow step old faces edges → above_below old.told.grid (stepped step old.told.grid faces edges) m ≡ None

pub none_stepped : (step : Step) (w : WorldState) → AreSteppedBelow step 0 w w
none_stepped step w = record { has = λ faces edges shows k h leaf. absurd (omega (arith, h)); none = λ faces edges shows. refl }

module _ (step : Step) (m : ℕ) (old now new : WorldState) (is : AreSteppedBelow step m old now) (before : OnlyAxes FaceWork old now) where
  leaves_now : (faces : FaceAt → ℤ) (edges : EdgeAt → ℤ) → LeavesShow step old faces edges → (k : ℕ) → IsLeafNode now.told.grid k → NodeShows step now faces edges k
  leaves_now faces edges shows k leaf = shows_still step old now (same_after_all step old now before) faces edges k (shows k (subst (λ (t : Told). IsLeafNode t.grid k) before.told leaf))

  -- one more leaf has
  module _ (leaf : is_leaf_block now.told.grid (block_at now.told.grid m) ≡ true) (there : IsLeafNode now.told.grid m) (only : OnlyAxesOf FaceWork now new m)
      (has : (faces : FaceAt → ℤ) (edges : EdgeAt → ℤ) → NodeShows step now faces edges m → HasWorkField new (given step now.told.grid faces edges) m)
      (none : (faces : FaceAt → ℤ) (edges : EdgeAt → ℤ) → NodeShows step now faces edges m → first_above now.told.grid (stepped step now.told.grid faces edges) (block_at now.told.grid m) ≡ None)
    where
      pub leaf_stepped : AreSteppedBelow step (m + 1) old new
      leaf_stepped = record {
        has = λ faces edges shows k h own a. elim (cases_lt k m) [
          | inl less ↦
              subst (λ (t : Told). HoldsFaceField t.grid (given step old.told.grid faces edges) a (block_at t.grid k) (faces_in t.grid a (stored true new a k))) (sym only.told)
              (subst (λ xs. HoldsFaceField now.told.grid (given step old.told.grid faces edges) a (block_at now.told.grid k) (faces_in now.told.grid a xs)) (sym (only.others (FaceWork a) k (λ x e at. omega (arith, at, less))))
              (is.has faces edges shows k less own a))
          | inr more ↦ (
              let last : k ≡ m = omega (arith, h, more) in
              subst (λ u. HasAxis true new (given step old.told.grid faces edges) u a) (sym last)
              (subst (λ (t : Told). HasAxis true new (given step t.grid faces edges) m a) before.told (has faces edges (leaves_now faces edges shows m there) a)))
        ];
        none = λ faces edges shows.
            let field = stepped step old.told.grid faces edges in
            let here : node_above now.told.grid (stepped step now.told.grid faces edges) m ≡ None = rw leaf (none faces edges (leaves_now faces edges shows m there)) in
            one_more_none m (node_above old.told.grid field) (is.none faces edges shows) (subst (λ (t : Told). node_above t.grid (stepped step t.grid faces edges) m ≡ None) before.told here);
      }

  -- a node that is no leaf is passed over
  pub node_passed : is_leaf_block now.told.grid (block_at now.told.grid m) ≡ false → AreSteppedBelow step (m + 1) old now
  node_passed inner = record {
    has = λ faces edges shows k h own. elim (cases_lt k m) [
      | inl less ↦ is.has faces edges shows k less own
      | inr more ↦ absurd (
          let last : k ≡ m = omega (arith, h, more) in
          let leaf : is_leaf_block now.told.grid (block_at now.told.grid m) ≡ true = subst (λ (t : Told). is_leaf_block t.grid (block_at t.grid m) ≡ true) (sym before.told) (subst (λ u. is_leaf_block old.told.grid (block_at old.told.grid u) ≡ true) last own.leaf) in
          cc)
    ];
    none = λ faces edges shows.
        let field = stepped step old.told.grid faces edges in
        let here : node_above now.told.grid (stepped step now.told.grid faces edges) m ≡ None = rw inner refl in
        one_more_none m (node_above old.told.grid field) (is.none faces edges shows) (subst (λ (t : Told). node_above t.grid (stepped step t.grid faces edges) m ≡ None) before.told here);
  }

-- so all have
pub all_stepped : (step : Step) (m : ℕ) (old new : WorldState) → OnlyAxes FaceWork old new → AreSteppedBelow step m old new → ((k : ℕ) → IsLeafNode old.told.grid k → k < m) →
    (faces : FaceAt → ℤ) (edges : EdgeAt → ℤ) → LeavesShow step old faces edges → HaveGiven step new faces edges
all_stepped step m old new only is all faces edges shows k leaf a =
    let own : IsLeafNode old.told.grid k = subst (λ (t : Told). IsLeafNode t.grid k) only.told leaf in
    subst (λ (t : Told). HasAxis true new (given step t.grid faces edges) k a) (sym only.told) (is.has faces edges shows k (all k own) own a)

-- ---- faces that are taken over

pub record AreFacesTakenBelow (m : ℕ) (old new : WorldState) : Type 0 where
  pub done : (k : ℕ) (a : Axis) → k < m → IsLeafNode old.told.grid k → face_array new a k ≡ stored true old a k
  pub rest : (k : ℕ) (a : Axis) → m ≤ k → stored true new a k ≡ stored true old a k

pub no_faces_taken : (w : WorldState) → AreFacesTakenBelow 0 w w
no_faces_taken w = record { done = λ k a h leaf. absurd (omega (arith, h)); rest = λ k a h. refl }

pub only_none : (w : WorldState) → OnlyFacesAndWork w w
only_none w = record { told = refl; others = λ u at none no_work. refl }

module _ (m : ℕ) (old now new : WorldState) (is : AreFacesTakenBelow m old now) (before : OnlyFacesAndWork old now) where
  module _ (taken : IsFacesTaken now new m) where
    pub leaf_taken : AreFacesTakenBelow (m + 1) old new
    leaf_taken = record {
      done = λ k a h own. elim (cases_lt k m) [
        | inl less ↦ taken.others (Face a) k (λ x e at. omega (arith, at, less)) (λ x e at. omega (arith, at, less)) ∙ is.done k a less own
        | inr more ↦ (let last : k ≡ m = omega (arith, h, more) in ap (face_array new a) last ∙ taken.here a ∙ is.rest m a (omega arith) ∙ ap (stored true old a) (sym last))
      ];
      rest = λ k a h. taken.others (FaceWork a) k (λ x e at. omega (arith, at, h)) (λ x e at. omega (arith, at, h)) ∙ is.rest k a (omega (arith, h));
    }

    pub only_taken : OnlyFacesAndWork old new
    only_taken = record {
      told = taken.told ∙ before.told;
      others = λ u k no_face no_work. taken.others u k (λ a e at. no_face a e) (λ a e at. no_work a e) ∙ before.others u k no_face no_work;
    }

  pub node_not_taken : is_leaf_block now.told.grid (block_at now.told.grid m) ≡ false → AreFacesTakenBelow (m + 1) old now
  node_not_taken inner = record {
    done = λ k a h own. elim (cases_lt k m) [
      | inl less ↦ is.done k a less own
      | inr more ↦ absurd (
          let last : k ≡ m = omega (arith, h, more) in
          let leaf : is_leaf_block now.told.grid (block_at now.told.grid m) ≡ true = subst (λ (t : Told). is_leaf_block t.grid (block_at t.grid m) ≡ true) (sym before.told) (subst (λ u. is_leaf_block old.told.grid (block_at old.told.grid u) ≡ true) last own.leaf) in
          cc)
    ];
    rest = λ k a h. is.rest k a (omega (arith, h));
  }

-- the faces hold the views of what the face variable is after the step then
pub all_taken : (step : Step) (m : ℕ) (old new : WorldState) → Valid old.told.grid → OnlyFacesAndWork old new → AreFacesTakenBelow m old new → ((k : ℕ) → IsLeafNode old.told.grid k → k < m) →
    (faces : FaceAt → ℤ) (edges : EdgeAt → ℤ) → HaveGiven step old faces edges → LeavesHoldFaces new (stepped step old.told.grid faces edges)
all_taken step m old new valid only is all faces edges have k leaf a =
    let g = old.told.grid in
    let own : IsLeafNode g k = subst (λ (t : Told). IsLeafNode t.grid k) only.told leaf in
    let field = stepped step g faces edges in
    let here : HoldsFaces g field a (block_at g k) (faces_in g a (stored true old a k)) = record {
      at = λ i j l hi hj hl. (have k own a).at i j l hi hj hl ∙ sym (stepped_seen g valid faces edges step _ (leaf_face_seen g valid a (block_at g k) own.leaf i j l hi hj hl));
    } in
    subst (λ (t : Told). HoldsFaces t.grid field a (block_at t.grid k) (faces_in t.grid a (face_array new a k))) (sym only.told)
    (subst (λ xs. HoldsFaces g field a (block_at g k) (faces_in g a xs)) (sym (is.done k a (all k own) own)) here)
