-- The first leaf face of a leaf that is out of range, as its arrays give it.
use Rattle.std.proofs.Common.{◌≡◌, ℕ, ◌+◌, ◌<◌, ◌≤◌, ◌^◌, ◌⊎◌, Bool, true, false, not, ◌&&◌, ◌||◌, ◌==◌, List, ℤ, Option, Some, None, refl, sym, ap, ap₂, subst, ◌∙◌, arith, inl, inr, eq-eqb, ne_eqb}
use Rattle.std.specs.Prelude.{if◌then◌else◌}
use Rattle.std.specs.Option.{option_map}
use Rattle.std.proofs.lemmas.Bool.{cases_Bool, cases_lt}
use Rattle.amr_num.specs.declared.Axis.{Axis}
use Rattle.amr_num.specs.declared.Axis.TheVariants.{X, Y, Z}
use Rattle.amr_num.specs.declared.BlockAt.{BlockAt}
use Rattle.amr_num.specs.declared.FaceAt.{FaceAt}
use Rattle.mesh_model.specs.Geometry.Blocks.{InDomain}
use Rattle.mesh_model.specs.Geometry.Canonical.{canonical_on}
use Rattle.mesh_model.specs.Geometry.Coordinates.{face_of}
use Rattle.mesh_model.specs.Geometry.Places.{in_block, longer_on}
use Rattle.mesh_model.specs.Tree.Kinds.{Grid, is_leaf_block, is_leaf_face, is_split_block, is_split_face}
use Rattle.mesh_model.specs.Tree.ValidGrid.{Valid}
use Rattle.mesh_model.specs.Fields.ArrayPlaces.{HoldsFaceField, face_extents, number_at}
use Rattle.mesh_model.specs.Fields.FinePlaces.{faces_in}
use Rattle.mesh_model.specs.Fields.Ranks.{IsFit, IsSized, WorldState}
use Rattle.mesh_model.specs.declared.geometry.Shape.{Shape}
use Rattle.mesh_model.proofs.TreeLemmas.Tests.{refuted}
use Rattle.block_tree.specs.Numbered.{block_at}
use Rattle.block_tree.proofs.Leaves.{split_leaf}
use Rattle.rank_world.specs.Holding.{IsLeafNode, stored}
use Rattle.mesh_model.specs.Fields.RangeWalk.{is_above}
use Rattle.mesh_model.proofs.FieldLemmas.FirstFound.{places_mapped, places_same}
use Rattle.mesh_model.proofs.FieldLemmas.LeafFaces.{Either, Seen, whole_leaf_face}
use Rattle.mesh_model.proofs.GeometryLemmas.ShapeLimits.{cells_some}
use Rattle.block_store.specs.Above.{counted_face_at, first_in_faces, is_counted_face}
use Rattle.block_store.specs.declared.above.Above.{Above}
use Rattle.block_store.specs.declared.above.CountedFaces.{CountedFaces}
use Rattle.block_tree.specs.SideFaces.{face_name, side_position}
use Rattle.block_tree.proofs.SideFaces.{calm_face, calm_side, split_face}
use Rattle.rank_world.specs.FaceRange.{CountLeafFaces, HasAxis, axis_above, face_above_at, told_face}
use Rattle.rank_world.proofs.FaceBlocks.{leaf_face_seen}

at_low : (l h : Bool) → ((l || not true) && (h || not false)) ≡ l
at_low true true = refl
at_low true false = refl
at_low false h = refl

at_high : (l h : Bool) → ((l || not false) && (h || not true)) ≡ h
at_high true true = refl
at_high true false = refl
at_high false true = refl
at_high false false = refl

neither : (l h : Bool) → ((l || not false) && (h || not false)) ≡ true
neither true true = refl
neither true false = refl
neither false true = refl
neither false false = refl

-- a position is that of the low side, that of the high side, or between
cases_position : (p n : ℕ) → p ≤ n → (p ≡ 0) ⊎ ((p ≡ n) ⊎ ((0 < p) × (p < n)))
cases_position p n h = elim (cases_lt p n) [
  | inl less ↦ elim (cases_lt 0 p) [
    | inl more ↦ inr (inr (more, less))
    | inr none ↦ inl (omega (arith, none))
  ]
  | inr more ↦ inr (inl (omega (arith, more, h)))
]

-- a face that is a leaf face or has a split side
leaf_or_split : (g : Grid) (f : FaceAt) → Seen g f → (t : Bool) → is_split_face g f ≡ t → is_leaf_face g f ≡ not t
unfolding Either
leaf_or_split g f seen t is = elim (cases_Bool (is_leaf_face g f)) [
  | inl leaf ↦ (let whole = whole_leaf_face g f leaf in leaf ∙ ap not (sym whole ∙ is))
  | inr none ↦ elim seen.kind [
    | inl split ↦ none ∙ ap not (sym split ∙ is)
    | inr leaf ↦ absurd cc
  ]
]

module _ (g : Grid) (valid : Valid g) (b : BlockAt) (inside : InDomain g.shape b) (leaf : is_leaf_block g b ≡ true) (whole : is_split_block g b ≡ false) (f : CountedFaces) (counts : CountLeafFaces g b f) where
  abbrev n : ℕ
  n = g.shape.n

  abbrev a : Axis
  a = f.axis

  some : 0 < n
  some = cells_some valid.shape

  abbrev split : ℕ → ℕ → ℕ → Bool
  split p s t = is_split_face g (face_name g.shape a b p s t)

  low_is : (s t : ℕ) → s < n → t < n → f.low ≡ not (split 0 s t)
  low_is s t hs ht = elim (cases_Bool f.low) [
    | inl calm ↦ calm ∙ ap not (sym (calm_side g a b some inside whole s t hs ht false (counts.low_calm calm)))
    | inr finer ↦ (let d = counts.low_finer finer in finer ∙ ap not (sym (split_face g a b some inside whole s t hs ht false d.0 d.1)))
  ]

  high_is : (s t : ℕ) → s < n → t < n → f.high ≡ not (split n s t)
  high_is s t hs ht = elim (cases_Bool f.high) [
    | inl calm ↦ calm ∙ ap not (sym (calm_side g a b some inside whole s t hs ht true (counts.high_calm calm)))
    | inr finer ↦ (let d = counts.high_finer finer in finer ∙ ap not (sym (split_face g a b some inside whole s t hs ht true d.0 d.1)))
  ]

  not_there : (high : Bool) (p : ℕ) → p ≡ side_position n high → (0 < p) × (p < n) → ⊥
  not_there false p is between = let z = between.0 in omega (arith, is, z)
  not_there true p is between = let z = between.1 in omega (arith, is, z)

  -- whether the face at a position, and places across, counts
  by_place : (p s t : ℕ) → p ≤ n → s < n → t < n → ((f.low || not (p == 0)) && (f.high || not (p == n))) ≡ not (split p s t)
  by_place p s t hp hs ht = elim (cases_position p n hp) [
    | inl low ↦
        ap₂ (λ u v. (f.low || not u) && (f.high || not v)) (eq-eqb p 0 low) (ne_eqb p n (λ is. absurd (let z = some in omega (arith, low, is, z))))
        ∙ at_low f.low f.high ∙ low_is s t hs ht ∙ ap (λ m. not (split m s t)) (sym low)
    | inr (inl high) ↦
        ap₂ (λ u v. (f.low || not u) && (f.high || not v)) (ne_eqb p 0 (λ is. absurd (let z = some in omega (arith, high, is, z)))) (eq-eqb p n high)
        ∙ at_high f.low f.high ∙ high_is s t hs ht ∙ ap (λ m. not (split m s t)) (sym high)
    | inr (inr between) ↦
        ap₂ (λ u v. (f.low || not u) && (f.high || not v)) (ne_eqb p 0 (λ is. absurd (let z = between.0 in omega (arith, is, z)))) (ne_eqb p n (λ is. absurd (let z = between.1 in omega (arith, is, z))))
        ∙ neither f.low f.high
        ∙ ap not (sym (calm_face g a b some inside whole s t hs ht p hp (λ high is. absurd (not_there high p is between))))
  ]

-- so it does where it is a leaf face
pub counts_leaf : (g : Grid) → Valid g → (b : BlockAt) → InDomain g.shape b → is_leaf_block g b ≡ true → is_split_block g b ≡ false → (x : Axis) (low high : Bool) →
    CountLeafFaces g b (record { axis = x; low = low; high = high }) → (i j k : ℕ) → i < longer_on x X g.shape.n → j < longer_on x Y g.shape.n → k < longer_on x Z g.shape.n →
    is_counted_face g.shape.n (record { axis = x; low = low; high = high }) i j k ≡ is_leaf_face g (face_of x (canonical_on g.shape x (in_block g.shape.n b i j k)))
unfolding face_name
counts_leaf g valid b inside leaf whole X low high counts i j k hi hj hk =
    by_place g valid b inside leaf whole (record { axis = X; low = low; high = high }) counts i j k (omega (arith, hi)) hj hk
    ∙ sym (leaf_or_split g _ (leaf_face_seen g valid X b leaf i j k hi hj hk) _ refl)
counts_leaf g valid b inside leaf whole Y low high counts i j k hi hj hk =
    by_place g valid b inside leaf whole (record { axis = Y; low = low; high = high }) counts j i k (omega (arith, hj)) hi hk
    ∙ sym (leaf_or_split g _ (leaf_face_seen g valid Y b leaf i j k hi hj hk) _ refl)
counts_leaf g valid b inside leaf whole Z low high counts i j k hi hj hk =
    by_place g valid b inside leaf whole (record { axis = Z; low = low; high = high }) counts k i j (omega (arith, hk)) hi hj
    ∙ sym (leaf_or_split g _ (leaf_face_seen g valid Z b leaf i j k hi hj hk) _ refl)

-- what is told of what is found
pub told_if : {A : Type 0} (f : Above → A) (t u : Bool) (found : Above) → option_map f (if t then (if u then Some found else None) else None) ≡ (if t && u then Some (f found) else None)
told_if f true true found = refl
told_if f true false found = refl
told_if f false u found = refl

-- the first that is found among a leaf's faces is the first leaf face out of range, where its numbers are those of the field
pub first_is : (g : Grid) → Valid g → (b : BlockAt) → InDomain g.shape b → is_leaf_block g b ≡ true → is_split_block g b ≡ false → (f : CountedFaces) → CountLeafFaces g b f → (field : FaceAt → ℤ) (numbers : ℕ → ℕ → ℕ → ℤ) →
    HoldsFaceField g field f.axis b numbers →
    option_map (told_face g.shape b f.axis) (first_in_faces (λ i j k. numbers (g.shape.g + i) (g.shape.g + j) (g.shape.g + k)) g.shape.n f) ≡ axis_above g field b f.axis
first_is g valid b inside leaf whole f counts field numbers holds =
    let n = g.shape.n in
    let e = g.shape.g in
    let a = f.axis in
    places_mapped (told_face g.shape b a) (longer_on a X n) (longer_on a Y n) (longer_on a Z n) (counted_face_at n f (λ i j k. numbers (e + i) (e + j) (e + k)))
    ∙ places_same (longer_on a X n) (longer_on a Y n) (longer_on a Z n) (λ i j k. option_map (told_face g.shape b a) (counted_face_at n f (λ i j k. numbers (e + i) (e + j) (e + k)) i j k))
    (λ i j k. face_above_at g field (face_of a (canonical_on g.shape a (in_block n b i j k))))
    (λ i j k hi hj hk.
    let name = face_of a (canonical_on g.shape a (in_block n b i j k)) in
    told_if (told_face g.shape b a) (is_counted_face n f i j k) (is_above (2 ^ 40) (numbers (e + i) (e + j) (e + k))) (record { i = i; j = j; k = k; value = numbers (e + i) (e + j) (e + k) })
    ∙ ap₂ (λ t (v : ℤ). if t && is_above (2 ^ 40) v then Some (record { face = name; value = v }) else None) (counts_leaf g valid b inside leaf whole a f.low f.high counts i j k hi hj hk) (holds.at i j k hi hj hk))

-- a place on an axis of a block's faces
pub at_most : (x a : Axis) (n i : ℕ) → i < longer_on x a n → i ≤ n
at_most X X n i h = omega (arith, h)
at_most X Y n i h = omega (arith, h)
at_most X Z n i h = omega (arith, h)
at_most Y X n i h = omega (arith, h)
at_most Y Y n i h = omega (arith, h)
at_most Y Z n i h = omega (arith, h)
at_most Z X n i h = omega (arith, h)
at_most Z Y n i h = omega (arith, h)
at_most Z Z n i h = omega (arith, h)

-- in the sizes of a world's blocks
pub first_sized : (m e : ℕ) (g : Grid) → IsSized m e g.shape → (b : BlockAt) (f : CountedFaces) (xs : List ℤ) →
    first_in_faces (λ i j k. number_at (face_extents m e f.axis) xs (e + i) (e + j) (e + k)) m f
    ≡ first_in_faces (λ i j k. faces_in g f.axis xs (g.shape.g + i) (g.shape.g + j) (g.shape.g + k)) g.shape.n f
first_sized m e g sized b f xs =
    ap₂ (λ u v. first_in_faces (λ i j k. number_at (face_extents u v f.axis) xs (v + i) (v + j) (v + k)) u f) (sym sized.cells) (sym sized.guards)

-- what is found in a node's array is the first of its leaf faces
pub axis_found : (work : Bool) (m e : ℕ) (w : WorldState) (a : Axis) (node : ℕ) → IsFit m e w → Valid w.told.grid → IsLeafNode w.told.grid node → InDomain w.told.grid.shape (block_at w.told.grid node) →
    (f : CountedFaces) → f.axis ≡ a → CountLeafFaces w.told.grid (block_at w.told.grid node) f → (xs : List ℤ) → xs ≡ stored work w a node → (field : FaceAt → ℤ) → HasAxis work w field node a →
    (r : Option Above) → r ≡ first_in_faces (λ i j k. number_at (face_extents m e f.axis) xs (e + i) (e + j) (e + k)) m f →
    option_map (told_face w.told.grid.shape (block_at w.told.grid node) f.axis) r ≡ axis_above w.told.grid field (block_at w.told.grid node) a
axis_found work m e w a node fit valid leaf inside f same counts xs is field has r found =
    let g = w.told.grid in
    let b = block_at g node in
    let whole : is_split_block g b ≡ false = refuted _ (λ s. let none = split_leaf g valid b s in let here = leaf.leaf in cc) in
    let there : HoldsFaceField g field f.axis b (faces_in g f.axis xs) =
    subst (λ x. HoldsFaceField g field x b (faces_in g x xs)) (sym same) (subst (λ ys. HoldsFaceField g field a b (faces_in g a ys)) (sym is) has) in
    ap (option_map (told_face g.shape b f.axis)) (found ∙ first_sized m e g fit.sizes b f xs)
    ∙ first_is g valid b inside leaf.leaf whole f counts field (faces_in g f.axis xs) there
    ∙ ap (axis_above g field b) same

-- what is told of a face in other words
pub told_as : (s t : Shape) (a x : Axis) (b d : BlockAt) (found : Above) → s ≡ t → a ≡ x → b ≡ d → told_face s b a found ≡ told_face t d x found
told_as s t a x b d found es ea eb = ap (λ (u : Shape). told_face u b a found) es ∙ ap₂ (λ y c. told_face t c y found) ea eb
