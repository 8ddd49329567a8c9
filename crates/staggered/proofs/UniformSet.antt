-- Leaves whose faces are set, one after the other.
use Rattle.std.proofs.Common.{◌≡◌, ℕ, ◌+◌, ◌*◌, ◌<◌, pos, replicate, true, false, refl, sym, ap, ap₂, subst, ◌∙◌, arith, inl, inr}
use Rattle.std.proofs.lemmas.Bool.{cases_lt}
use Rattle.std.proofs.lemmas.List.{get_or-replicate}
use Rattle.amr_num.specs.declared.Axis.{Axis}
use Rattle.amr_num.specs.declared.Axis.TheVariants.{X, Y, Z}
use Rattle.mesh_model.specs.declared.fields.values.Var.{Var}
use Rattle.mesh_model.specs.declared.fields.values.Var.TheVariants.{Face}
use Rattle.mesh_model.specs.Fields.Advect.{Speeds}
use Rattle.mesh_model.specs.Fields.Arrays.{var_length}
use Rattle.mesh_model.specs.Fields.ArrayPlaces.{HoldsFaces, face_extents, place_in, size_of}
use Rattle.mesh_model.specs.Fields.FinePlaces.{faces_in}
use Rattle.mesh_model.specs.Fields.Induct.{uniform_faces}
use Rattle.mesh_model.specs.Fields.Ranks.{IsSized, OnlyOf, Told, WorldState}
use Rattle.mesh_model.specs.Geometry.Places.{longer_on}
use Rattle.mesh_model.specs.Tree.Kinds.{Grid, is_leaf_block}
use Rattle.mesh_model.specs.Tree.ValidGrid.{Valid}
use Rattle.mesh_model.proofs.FieldLemmas.BlockPlaces.{place_inside}
use Rattle.block_tree.specs.Numbered.{block_at}
use Rattle.rank_world.specs.Holding.{IsLeafNode, LeavesHoldFaces, OnlyAxes, OnlyAxesOf, face_array}
use Rattle.rank_world.proofs.FaceBlocks.{leaf_face_seen}
use Rattle.staggered.specs.Facing.{AreEven, IsEven, level_flux, node_flux}
use Rattle.staggered.proofs.Uniform.{name_level, uniform_view}

-- ---- what changes

pub same_axis : (a x : Axis) → Face a ≡ Face x → a ≡ x
same_axis a x is = cc

pub one_axis : {var : Axis → Var} (old new : WorldState) (a : Axis) (node : ℕ) → OnlyOf old new 0 (var a) node → OnlyAxesOf var old new node
one_axis old new a node only = record { told = only.told; others = λ u k apart. only.here.others u k (λ is at. apart a is at) }

pub more_faces : {var : Axis → Var} (a b c : WorldState) (node : ℕ) → OnlyAxesOf var a b node → OnlyAxesOf var b c node → OnlyAxesOf var a c node
more_faces a b c node ab bc = record { told = bc.told ∙ ab.told; others = λ u k apart. bc.others u k apart ∙ ab.others u k apart }

pub node_more : {var : Axis → Var} (a b c : WorldState) (node : ℕ) → OnlyAxes var a b → OnlyAxesOf var b c node → OnlyAxes var a c
node_more a b c node ab bc = record { told = bc.told ∙ ab.told; others = λ u k apart. bc.others u k (λ x is at. apart x is) ∙ ab.others u k apart }

pub only_faces_none : {var : Axis → Var} (a : WorldState) → OnlyAxes var a a
only_faces_none a = record { told = refl; others = λ u k apart. refl }

-- another array of the node's faces is as it was
pub even_kept : (n g : ℕ) (old new : WorldState) (bs : Speeds) (node : ℕ) (a x : Axis) → (a ≡ x → ⊥) → OnlyOf old new 0 (Face x) node → IsEven n g old bs node a → IsEven n g new bs node a
even_kept n g old new bs node a x apart only even =
    only.here.others (Face a) node (λ is at. apart (same_axis a x is)) ∙ even ∙ ap (λ (t : Told). replicate (var_length n g (Face a)) (node_flux t.grid bs a node)) (sym only.told)

-- ---- the leaves below a node

pub record AreEvenBelow (m n g : ℕ) (old new : WorldState) (bs : Speeds) : Type 0 where
  pub done : (k : ℕ) → k < m → IsLeafNode old.told.grid k → AreEven n g new bs k

pub none_even : (n g : ℕ) (w : WorldState) (bs : Speeds) → AreEvenBelow 0 n g w w bs
none_even n g w bs = record { done = λ k h leaf. absurd (omega (arith, h)) }

module _ (n g m : ℕ) (old now new : WorldState) (bs : Speeds) (is : AreEvenBelow m n g old now bs) where
  pub leaf_even : OnlyAxesOf Face now new m → AreEven n g new bs m → AreEvenBelow (m + 1) n g old new bs
  leaf_even only even = record {
    done = λ k h leaf a. elim (cases_lt k m) [
      | inl less ↦ only.others (Face a) k (λ x is at. omega (arith, at, less)) ∙ is.done k less leaf a ∙ ap (λ (t : Told). replicate (var_length n g (Face a)) (node_flux t.grid bs a k)) (sym only.told)
      | inr more ↦ (let last : k ≡ m = omega (arith, h, more) in subst (λ p. IsEven n g new bs p a) (sym last) (even a))
    ];
  }

  pub node_not_even : OnlyAxes Face old now → is_leaf_block now.told.grid (block_at now.told.grid m) ≡ false → AreEvenBelow (m + 1) n g old now bs
  node_not_even before inner = record {
    done = λ k h there. elim (cases_lt k m) [
      | inl less ↦ is.done k less there
      | inr more ↦ absurd (
          let last : k ≡ m = omega (arith, h, more) in
          let leaf : is_leaf_block now.told.grid (block_at now.told.grid m) ≡ true = subst (λ (t : Told). is_leaf_block t.grid (block_at t.grid m) ≡ true) (sym before.told) (subst (λ u. is_leaf_block old.told.grid (block_at old.told.grid u) ≡ true) last there.leaf) in
          cc)
    ];
  }

-- ---- arrays with one number alone hold the views

pub longer_side : (a d : Axis) (n g i : ℕ) → i < longer_on a d n → g + i < longer_on a d (n + 2 * g)
longer_side X X n g i h = omega (arith, h)
longer_side X Y n g i h = omega (arith, h)
longer_side X Z n g i h = omega (arith, h)
longer_side Y X n g i h = omega (arith, h)
longer_side Y Y n g i h = omega (arith, h)
longer_side Y Z n g i h = omega (arith, h)
longer_side Z X n g i h = omega (arith, h)
longer_side Z Y n g i h = omega (arith, h)
longer_side Z Z n g i h = omega (arith, h)

array_holds : (g : Grid) (bs : Speeds) (a : Axis) (node : ℕ) → Valid g → IsLeafNode g node →
    HoldsFaces g (uniform_faces g bs) a (block_at g node) (faces_in g a (replicate (var_length g.shape.n g.shape.g (Face a)) (node_flux g bs a node)))
array_holds g bs a node valid leaf = record {
  at = λ i j k hi hj hk.
      let b = block_at g node in
      let n = g.shape.n in
      let e = g.shape.g in
      let ext = face_extents n e a in
      let there = place_inside ext (e + i) (e + j) (e + k) (longer_side a X n e i hi) (longer_side a Y n e j hj) (longer_side a Z n e k hk) in
      get_or-replicate (size_of ext) (place_in ext (e + i) (e + j) (e + k)) (node_flux g bs a node) (pos 0) there
      ∙ ap (level_flux g bs a) (sym (name_level g.shape a b i j k))
      ∙ sym (uniform_view g valid bs _ (leaf_face_seen g valid a b leaf.leaf i j k hi hj hk));
}

pub all_even : (m n g : ℕ) (old new : WorldState) (bs : Speeds) → Valid old.told.grid → IsSized n g old.told.grid.shape → OnlyAxes Face old new → AreEvenBelow m n g old new bs → ((k : ℕ) → IsLeafNode old.told.grid k → k < m) →
    LeavesHoldFaces new (uniform_faces old.told.grid bs)
all_even m n g old new bs valid sized only is all k leaf a =
    let h = old.told.grid in
    let there : IsLeafNode h k = subst (λ (t : Told). IsLeafNode t.grid k) only.told leaf in
    let sizes = ap₂ (λ x y. replicate (var_length x y (Face a)) (node_flux h bs a k)) sized.cells sized.guards in
    let array : face_array new a k ≡ replicate (var_length h.shape.n h.shape.g (Face a)) (node_flux h bs a k) =
    is.done k (all k there) there a ∙ ap (λ (t : Told). replicate (var_length n g (Face a)) (node_flux t.grid bs a k)) only.told ∙ sym sizes in
    subst (λ (t : Told). HoldsFaces t.grid (uniform_faces h bs) a (block_at t.grid k) (faces_in t.grid a (face_array new a k))) (sym only.told)
    (subst (λ xs. HoldsFaces h (uniform_faces h bs) a (block_at h k) (faces_in h a xs)) (sym array) (array_holds h bs a k valid there))
