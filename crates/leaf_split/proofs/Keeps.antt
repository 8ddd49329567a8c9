-- Sides of a child that are kept, and faces of it that are split from its parent's.
use Rattle.std.proofs.Common.{◌≡◌, ℕ, ◌+◌, ◌/◌, ◌%◌, ◌^◌, ◌<◌, ◌≤◌, Bool, true, false, not, ◌&&◌, List, ℤ, sym, ap, ap₂, subst, ◌∙◌, arith, inl, inr, eqb-true, eq-eqb}
use Rattle.std.proofs.lemmas.Bool.{and_parts}
use Rattle.amr_num.specs.Numbers.{Within}
use Rattle.amr_num.specs.declared.Axis.{Axis}
use Rattle.amr_num.specs.declared.Axis.TheVariants.{X, Y, Z}
use Rattle.amr_num.specs.declared.BlockAt.{BlockAt}
use Rattle.amr_num.specs.declared.FaceAt.{FaceAt}
use Rattle.mesh_model.specs.declared.geometry.Shape.{Shape}
use Rattle.mesh_model.specs.Geometry.Blocks.{InDomain, child_block}
use Rattle.mesh_model.specs.Geometry.Canonical.{canonical_on}
use Rattle.mesh_model.specs.Geometry.Coordinates.{face_of}
use Rattle.mesh_model.specs.Geometry.Places.{in_block, longer_on}
use Rattle.mesh_model.specs.Tree.Kinds.{Grid, is_leaf_block, is_leaf_face, is_split_block, is_split_face}
use Rattle.mesh_model.specs.Tree.ValidGrid.{Valid}
use Rattle.mesh_model.specs.Fields.ArrayPlaces.{HoldsFaces, face_extents}
use Rattle.mesh_model.specs.Fields.FaceSplits.{AreFacesSplit, KeptSidesHold, OtherSidesLieInside, SourcesAreSmall, all_faces, by_axis, is_kept_side, position}
use Rattle.mesh_model.specs.Fields.FinePlaces.{faces_in}
use Rattle.mesh_model.specs.Fields.Octants.{half_at}
use Rattle.mesh_model.specs.Fields.Ranks.{IsSized, WorldState}
use Rattle.mesh_model.specs.Fields.Views.{cross, face_view, is_even}
use Rattle.mesh_model.proofs.FieldLemmas.CellKinds.{kinds_of_tiles, wide_of}
use Rattle.mesh_model.proofs.FieldLemmas.LeafFaces.{Either, Seen, seen_sub, view_of_leaf_face}
use Rattle.mesh_model.proofs.GeometryLemmas.ShapeLimits.{cells_some}
use Rattle.mesh_model.proofs.TreeLemmas.Levels.{is_child}
use Rattle.mesh_model.proofs.TreeLemmas.Tests.{either_true, or_left, or_right, refuted}
use Rattle.mesh_model.proofs.TreeLemmas.Tiling.{child_is_no_leaf, child_of_whole, leaf_says}
use Rattle.block_tree.specs.Numbered.{block_at}
use Rattle.block_tree.specs.SideFaces.{face_name, side_position}
use Rattle.block_tree.proofs.Leaves.{split_leaf}
use Rattle.block_tree.proofs.SideFaces.{calm_face}
use Rattle.prolong_op.proofs.FaceChildren.{children_split}
use Rattle.prolong_op.proofs.FaceNames.{even_face}
use Rattle.prolong_op.proofs.Lines.{above_in_block, face_lines, faces_of}
use Rattle.rank_world.specs.Holding.{IsLeafNode, IsOfValidMesh, LeavesHoldFaces, face_array}
use Rattle.rank_world.proofs.FaceBlocks.{leaf_face_seen}
use Rattle.leaf_split.specs.FaceKeeps.{AreBitsOf, AreKeptSides, IsKeptSide, OthersStay, IsLeafBeside, IsSideCopied, side_of}
use Rattle.leaf_split.specs.declared.faces.Sides.{Sides}
use Rattle.leaf_split.proofs.SideLeaves.{across, by_spot, calm_beside, no_leaf_face, seen_beside}

-- ---- which positions are those of kept sides

module _ (n kept : ℕ) (x y z : Sides) (bits : AreBitsOf kept x y z) (a : Axis) (p : ℕ) where
  pub on_kept : is_kept_side n kept a p ≡ true → (high : Bool) × (p ≡ side_position n high) × (side_of (by_axis x y z a) high ≡ true)
  on_kept h = elim (either_true _ _ h) [
    | inl low ↦ (let both = and_parts _ _ low in (false, eqb-true p 0 both.0, sym (bits a false) ∙ both.1))
    | inr high ↦ (let both = and_parts _ _ high in (true, eqb-true p n both.0, sym (bits a true) ∙ both.1))
  ]

  kept_there : (high : Bool) → p ≡ side_position n high → side_of (by_axis x y z a) high ≡ true → is_kept_side n kept a p ≡ true
  kept_there false at is = or_left _ _ (ap₂ (λ u v. u && v) (eq-eqb p 0 at) (bits a false ∙ is))
  kept_there true at is = or_right _ _ (ap₂ (λ u v. u && v) (eq-eqb p n at) (bits a true ∙ is))

  pub off_kept : is_kept_side n kept a p ≡ false → (high : Bool) → p ≡ side_position n high → side_of (by_axis x y z a) high ≡ false
  off_kept h high at = refuted _ (λ is. let there = kept_there high at is in cc)

-- ---- a child of a leaf, and its sides

pub leaf_whole_block : (g : Grid) → Valid g → (b : BlockAt) → is_leaf_block g b ≡ true → is_split_block g b ≡ false
leaf_whole_block g valid b leaf = refuted _ (λ s. let none = split_leaf g valid b s in cc)

module _ (w : WorldState) (of : IsOfValidMesh w) (declared : 0 < w.told.counts.faces) (b : BlockAt) (q kept : ℕ) (x y z : Sides) (bits : AreBitsOf kept x y z) (xs : Axis → List ℤ)
    (leaf : is_leaf_block w.told.grid b ≡ true) (domain : InDomain w.told.grid.shape b) (inside : InDomain w.told.grid.shape (child_block b q))
    (sides : (a : Axis) → AreKeptSides w a (child_block b q) (by_axis x y z a) (xs a)) where
  g : Grid
  g = w.told.grid

  c : BlockAt
  c = child_block b q

  pub valid : Valid w.told.grid
  valid = subst Valid (sym of.world.grid) of.valid.grid

  some : 0 < w.told.grid.shape.n
  some = cells_some valid.shape

  pub whole : is_split_block w.told.grid b ≡ false
  whole = leaf_whole_block w.told.grid valid b leaf

  whole_child : is_split_block w.told.grid (child_block b q) ≡ false
  whole_child = child_of_whole w.told.grid (child_block b q) b (is_child b q) whole

  -- no face of the child is split
  calm : (a : Axis) (p u v : ℕ) → p ≤ w.told.grid.shape.n → u < w.told.grid.shape.n → v < w.told.grid.shape.n → is_split_face w.told.grid (face_name w.told.grid.shape a (child_block b q) p u v) ≡ false
  calm a p u v hp hu hv =
      calm_face w.told.grid a (child_block b q) some inside whole_child u v hu hv p hp (λ high at. calm_beside w.told.grid valid b (child_block b q) (is_child b q) whole domain inside a high)

  Inner : Axis → ℕ → FaceAt → Type 0
  Inner a p f = is_kept_side w.told.grid.shape.n kept a p ≡ false → (is_split_face w.told.grid f ≡ false) × (is_leaf_face w.told.grid f ≡ false)

  -- nor is a leaf face off the sides that are kept
  pub off_sides : (a : Axis) (i j k : ℕ) → i < longer_on a X w.told.grid.shape.n → j < longer_on a Y w.told.grid.shape.n → k < longer_on a Z w.told.grid.shape.n →
      is_kept_side w.told.grid.shape.n kept a (position a i j k) ≡ false →
      let f = face_of a (canonical_on w.told.grid.shape a (in_block w.told.grid.shape.n (child_block b q) i j k)) in (is_split_face w.told.grid f ≡ false) × (is_leaf_face w.told.grid f ≡ false)
  unfolding Inner
  off_sides a = by_spot w.told.grid.shape (Inner a) (child_block b q) a
      (λ p u v hp hu hv off. (
        calm a p u v hp hu hv,
        no_leaf_face w.told.grid a (child_block b q) some inside (child_is_no_leaf w.told.grid (child_block b q) b (is_child b q) whole) u v hu hv p hp
            (λ high at. (sides a high).none (off_kept w.told.grid.shape.n kept x y z bits a p off high at)),
      ))

  leaf_face : (f : FaceAt) → is_split_face w.told.grid f ≡ false → Seen w.told.grid f → is_leaf_face w.told.grid f ≡ true
  unfolding Either
  leaf_face f free seen = elim seen.kind [
    | inl split ↦ absurd (let both = sym split ∙ free in cc)
    | inr is ↦ is
  ]

  -- the number of a leaf face is in range
  in_range : (f : FaceAt) → is_leaf_face w.told.grid f ≡ true → Within (2 ^ 40) (face_view w.told.grid of.mesh.faces f)
  in_range f is =
      subst (Within (2 ^ 40)) (sym (view_of_leaf_face w.told.grid (kinds_of_tiles w.told.grid valid.tiles valid.shape) valid.shape (wide_of w.told.grid.shape valid.shape) of.mesh.faces f is)) (of.valid.range.faces f)

  OnSide : Axis → ℕ → FaceAt → Type 0
  OnSide a p f = is_kept_side w.told.grid.shape.n kept a p ≡ true → is_leaf_face w.told.grid f ≡ true

  -- a face on a side that is kept is a leaf face
  on_sides : (a : Axis) (i j k : ℕ) → i < longer_on a X w.told.grid.shape.n → j < longer_on a Y w.told.grid.shape.n → k < longer_on a Z w.told.grid.shape.n →
      is_kept_side w.told.grid.shape.n kept a (position a i j k) ≡ true → is_leaf_face w.told.grid (face_of a (canonical_on w.told.grid.shape a (in_block w.told.grid.shape.n (child_block b q) i j k))) ≡ true
  unfolding OnSide
  on_sides a = by_spot w.told.grid.shape (OnSide a) (child_block b q) a
      (λ p u v hp hu hv on.
      let there = on_kept w.told.grid.shape.n kept x y z bits a p on in
      let beside = (sides a there.0).beside there.2 in
      leaf_face (face_name w.told.grid.shape a (child_block b q) p u v) (calm a p u v hp hu hv)
      (subst (λ m. Seen w.told.grid (face_name w.told.grid.shape a (child_block b q) m u v)) (sym there.1)
      (seen_beside w.told.grid valid a there.0 (child_block b q) (block_at w.told.grid beside.0) some inside beside.1.beside beside.1.leaf.leaf u v hu hv)))

  pub kept_hold : (field : FaceAt → ℤ) → LeavesHoldFaces w field → KeptSidesHold w.told.grid field (child_block b q) kept (all_faces w.told.grid.shape.n w.told.grid.shape.g xs)
  kept_hold field holds = record {
    at = λ a i j k hi hj hk on.
        let there = on_kept w.told.grid.shape.n kept x y z bits a (position a i j k) on in
        ((sides a there.0).views there.2 field holds).at i j k hi hj hk there.1;
  }

  pub others_inside : OtherSidesLieInside w.told.grid (child_block b q) kept
  others_inside = record { at = λ a i j k hi hj hk side off. off_sides a i j k hi hj hk off }

  -- the faces of the parent of which those of the child are made are leaf faces
  above_whole : (a : Axis) (i j k : ℕ) → i < longer_on a X w.told.grid.shape.n → j < longer_on a Y w.told.grid.shape.n → k < longer_on a Z w.told.grid.shape.n →
      is_kept_side w.told.grid.shape.n kept a (position a i j k) ≡ false → is_even (position a i j k) ≡ true → let n = w.told.grid.shape.n in
      is_leaf_face w.told.grid (face_of a (canonical_on w.told.grid.shape a (in_block n b (half_at n q + i / 2) (half_at n (q / 2) + j / 2) (half_at n (q / 4) + k / 2)))) ≡ true
  unfolding Either
  above_whole a i j k hi hj hk off even =
      let n = w.told.grid.shape.n in
      let size = valid.shape in
      let f = face_of a (canonical_on w.told.grid.shape a (in_block n b (half_at n q + i / 2) (half_at n (q / 2) + j / 2) (half_at n (q / 4) + k / 2))) in
      let l = above_in_block n w.told.grid.shape.g (record { cells = valid.shape.cells; guards = valid.shape.guards }) (face_extents n w.told.grid.shape.g a) (faces_of n a) (face_lines n w.told.grid.shape.g a) q i j k hi hj hk in
      let seen = leaf_face_seen w.told.grid valid a b leaf (half_at n q + i / 2) (half_at n (q / 2) + j / 2) (half_at n (q / 4) + k / 2) l.0 l.1 l.2 in
      let neither = off_sides a i j k hi hj hk off in
      let r = cross a (i % 2) (j % 2) (k % 2) in
      let name = even_face w.told.grid.shape n a b q i j k valid.shape.cells (eqb-true (position a i j k % 2) 0 even) in
      leaf_face f
      (refuted _ (λ split.
      let below = seen_sub w.told.grid (kinds_of_tiles w.told.grid valid.tiles valid.shape) valid.shape (wide_of w.told.grid.shape valid.shape) f r seen.canonical split in
      elim below.kind [
        | inl s ↦ (let two = sym s ∙ ap (is_split_face w.told.grid) (sym name) ∙ neither.0 in cc)
        | inr s ↦ (let two = sym s ∙ ap (is_leaf_face w.told.grid) (sym name) ∙ neither.1 in cc)
      ]))
      seen

  pub small : (parent : Axis → List ℤ) → ((a : Axis) → HoldsFaces w.told.grid of.mesh.faces a b (faces_in w.told.grid a (parent a))) →
      SourcesAreSmall w.told.grid.shape.n w.told.grid.shape.g q kept (all_faces w.told.grid.shape.n w.told.grid.shape.g parent) (all_faces w.told.grid.shape.n w.told.grid.shape.g xs)
  small parent views = record {
    stay = λ a i j k hi hj hk on.
        subst (Within (2 ^ 40)) (sym ((kept_hold of.mesh.faces (of.world.on_faces declared)).at a i j k hi hj hk on))
        (in_range (face_of a (canonical_on w.told.grid.shape a (in_block w.told.grid.shape.n (child_block b q) i j k))) (on_sides a i j k hi hj hk on));
    split = λ a i j k hi hj hk off even.
        let n = w.told.grid.shape.n in
        let e = w.told.grid.shape.g in
        let l = above_in_block n e (record { cells = valid.shape.cells; guards = valid.shape.guards }) (face_extents n e a) (faces_of n a) (face_lines n e a) q i j k hi hj hk in
        let one : e + half_at n q + i / 2 ≡ e + (half_at n q + i / 2) = omega arith in
        let two : e + half_at n (q / 2) + j / 2 ≡ e + (half_at n (q / 2) + j / 2) = omega arith in
        let last : e + half_at n (q / 4) + k / 2 ≡ e + (half_at n (q / 4) + k / 2) = omega arith in
        let numbers = faces_in w.told.grid a (parent a) in
        let value = ap (λ u. numbers u (e + half_at n (q / 2) + j / 2) (e + half_at n (q / 4) + k / 2)) one
        ∙ ap₂ (numbers (e + (half_at n q + i / 2))) two last
        ∙ (views a).at (half_at n q + i / 2) (half_at n (q / 2) + j / 2) (half_at n (q / 4) + k / 2) l.0 l.1 l.2 in
        subst (Within (2 ^ 40)) (sym value)
        (in_range (face_of a (canonical_on w.told.grid.shape a (in_block n b (half_at n q + i / 2) (half_at n (q / 2) + j / 2) (half_at n (q / 4) + k / 2)))) (above_whole a i j k hi hj hk off even));
  }

-- ---- copied sides

other_less : (high : Bool) (n : ℕ) → side_position n high < n + 1
other_less false n = omega arith
other_less true n = omega arith

-- a side that is copied from the other side of the block beside it holds the views there, where that does
module _ (g : Grid) (high : Bool) (b d : BlockAt) (from old new : List ℤ) (field : FaceAt → ℤ) (i j k : ℕ) where
  copied_at : (a : Axis) → ((u v : ℕ) → face_name g.shape a d (side_position g.shape.n (not high)) u v ≡ face_name g.shape a b (side_position g.shape.n high) u v) →
      IsSideCopied g.shape.n g.shape.g a high from old new → HoldsFaces g field a d (faces_in g a from) →
      i < longer_on a X g.shape.n → j < longer_on a Y g.shape.n → k < longer_on a Z g.shape.n → position a i j k ≡ side_position g.shape.n high →
      faces_in g a new (g.shape.g + i) (g.shape.g + j) (g.shape.g + k) ≡ face_view g field (face_of a (canonical_on g.shape a (in_block g.shape.n b i j k)))
  unfolding face_name
  copied_at X names is holds hi hj hk at =
      let n = g.shape.n in
      let e = g.shape.g in
      let o = side_position n (not high) in
      let to : e + i ≡ e + side_position n high + 0 = omega arith in
      let other : e + o + 0 ≡ e + o = omega arith in
      ap (λ u. faces_in g X new u (e + j) (e + k)) to
      ∙ is.written 0 j k (omega arith) hj hk
      ∙ ap (λ u. faces_in g X from u (e + j) (e + k)) other
      ∙ holds.at o j k (other_less (not high) n) hj hk
      ∙ ap (face_view g field) (names j k ∙ ap (λ u. face_of X (canonical_on g.shape X (in_block n b u j k))) (sym at))
  copied_at Y names is holds hi hj hk at =
      let n = g.shape.n in
      let e = g.shape.g in
      let o = side_position n (not high) in
      let to : e + j ≡ e + side_position n high + 0 = omega arith in
      let other : e + o + 0 ≡ e + o = omega arith in
      ap (λ u. faces_in g Y new (e + i) u (e + k)) to
      ∙ is.written i 0 k hi (omega arith) hk
      ∙ ap (λ u. faces_in g Y from (e + i) u (e + k)) other
      ∙ holds.at i o k hi (other_less (not high) n) hk
      ∙ ap (face_view g field) (names i k ∙ ap (λ u. face_of Y (canonical_on g.shape Y (in_block n b i u k))) (sym at))
  copied_at Z names is holds hi hj hk at =
      let n = g.shape.n in
      let e = g.shape.g in
      let o = side_position n (not high) in
      let to : e + k ≡ e + side_position n high + 0 = omega arith in
      let other : e + o + 0 ≡ e + o = omega arith in
      ap (λ u. faces_in g Z new (e + i) (e + j) u) to
      ∙ is.written i j 0 hi hj (omega arith)
      ∙ ap (λ u. faces_in g Z from (e + i) (e + j) u) other
      ∙ holds.at i j o hi hj (other_less (not high) n)
      ∙ ap (face_view g field) (names i j ∙ ap (λ u. face_of Z (canonical_on g.shape Z (in_block n b i j u))) (sym at))

module _ (w : WorldState) (a : Axis) (high : Bool) (b : BlockAt) (node : ℕ) (some : 0 < w.told.grid.shape.n) (inside : InDomain w.told.grid.shape b) (beside : IsLeafBeside w.told.grid a high b node) where
  pub copied_side : (from old new : List ℤ) → IsSideCopied w.told.grid.shape.n w.told.grid.shape.g a high from old new → from ≡ face_array w a node → IsKeptSide w a high b true new
  copied_side from old new is same = record {
    beside = λ t. (node, beside);
    views = λ t field holds. record {
      at = λ i j k hi hj hk at.
          copied_at w.told.grid high b (block_at w.told.grid node) from old new field i j k a (λ u v. across w.told.grid.shape a high b some inside u v (block_at w.told.grid node) beside.beside) is
          (subst (λ ys. HoldsFaces w.told.grid field a (block_at w.told.grid node) (faces_in w.told.grid a ys)) (sym same) (holds node beside.leaf a)) hi hj hk at;
    };
    none = λ t. absurd cc;
  }

-- the low side is kept while the high one is written
pub low_stays : (w : WorldState) (a : Axis) (b : BlockAt) (kept : Bool) (old new : List ℤ) → 0 < w.told.grid.shape.n → OthersStay w.told.grid a true old new → IsKeptSide w a false b kept old → IsKeptSide w a false b kept new
low_stays w a b kept old new some others was = record {
  beside = was.beside;
  views = λ t field holds. record {
    at = λ i j k hi hj hk at. others.at i j k hi hj hk (λ up. absurd (omega (arith, at, up, some))) ∙ (was.views t field holds).at i j k hi hj hk at;
  };
  none = was.none;
}

-- ---- in the sizes of a world's blocks

pub copied_sized : (n e : ℕ) (s : Shape) (a : Axis) (high : Bool) (from old new : List ℤ) → IsSized n e s → IsSideCopied n e a high from old new → IsSideCopied s.n s.g a high from old new
copied_sized n e s a high from old new sized is = subst (λ m. IsSideCopied m s.g a high from old new) (sym sized.cells) (subst (λ m. IsSideCopied n m a high from old new) (sym sized.guards) is)

-- a child of a leaf, whose kept sides are copied and whose other faces are split from the leaf's
module _ (w : WorldState) (of : IsOfValidMesh w) (declared : 0 < w.told.counts.faces) (parent q kept : ℕ) (c : BlockAt) (node : IsLeafNode w.told.grid parent)
    (is : child_block (block_at w.told.grid parent) q ≡ c) (inside : InDomain w.told.grid.shape c) (n e : ℕ) (sized : IsSized n e w.told.grid.shape) (x y z : Sides) (bits : AreBitsOf kept x y z)
    (ps xs : Axis → List ℤ) (from : (a : Axis) → ps a ≡ face_array w a parent) (sides : (a : Axis) → AreKeptSides w a c (by_axis x y z a) (xs a)) where
  there : Valid w.told.grid
  there = subst Valid (sym of.world.grid) of.valid.grid

  at_home : InDomain w.told.grid.shape (block_at w.told.grid parent)
  at_home = there.tiles.inside (block_at w.told.grid parent) (leaf_says w.told.grid (block_at w.told.grid parent) node.leaf)

  child_inside : InDomain w.told.grid.shape (child_block (block_at w.told.grid parent) q)
  child_inside = subst (InDomain w.told.grid.shape) (sym is) inside

  child_sides : (a : Axis) → AreKeptSides w a (child_block (block_at w.told.grid parent) q) (by_axis x y z a) (xs a)
  child_sides a high = subst (λ d. IsKeptSide w a high d (side_of (by_axis x y z a) high) (xs a)) (sym is) (sides a high)

  parent_views : (field : FaceAt → ℤ) → LeavesHoldFaces w field → (a : Axis) → HoldsFaces w.told.grid field a (block_at w.told.grid parent) (faces_in w.told.grid a (ps a))
  parent_views field holds a = subst (λ ys. HoldsFaces w.told.grid field a (block_at w.told.grid parent) (faces_in w.told.grid a ys)) (sym (from a)) (holds parent node a)

  pub sources : SourcesAreSmall n e q kept (all_faces n e ps) (all_faces n e xs)
  sources =
      let s = w.told.grid.shape in
      subst (λ m. SourcesAreSmall m e q kept (all_faces m e ps) (all_faces m e xs)) sized.cells
      (subst (λ m. SourcesAreSmall s.n m q kept (all_faces s.n m ps) (all_faces s.n m xs)) sized.guards
      (small w of declared (block_at w.told.grid parent) q kept x y z bits xs node.leaf at_home child_inside child_sides ps (parent_views of.mesh.faces (of.world.on_faces declared))))

  pub held : q < 8 → (new : Axis → List ℤ) → AreFacesSplit n e q kept ps xs new → (field : FaceAt → ℤ) → LeavesHoldFaces w field → (a : Axis) → HoldsFaces w.told.grid field a c (faces_in w.told.grid a (new a))
  held hq new split field holds a =
      let s = w.told.grid.shape in
      let b = block_at w.told.grid parent in
      let here : AreFacesSplit s.n s.g q kept ps xs new = subst (λ m. AreFacesSplit m s.g q kept ps xs new) (sym sized.cells) (subst (λ m. AreFacesSplit n m q kept ps xs new) (sym sized.guards) split) in
      subst (λ d. HoldsFaces w.told.grid field a d (faces_in w.told.grid a (new a))) is
      (children_split w.told.grid field b q kept ps xs new there at_home hq (leaf_whole_block w.told.grid there b node.leaf) here (parent_views field holds)
      (kept_hold w of declared b q kept x y z bits xs node.leaf at_home child_inside child_sides field holds)
      (others_inside w of declared b q kept x y z bits xs node.leaf at_home child_inside child_sides) a)
