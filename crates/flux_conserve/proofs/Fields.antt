-- The numbers of faces by places, and fields on faces by their names.
use Rattle.std.proofs.Common.{◌≡◌, ℕ, suc, ◌+◌, ◌-◌, ◌*◌, ◌/◌, ◌%◌, ◌<◌, ◌≤◌, ◌≢◌, ◌⊎◌, Bool, true, false, not, ◌||◌, Option, Some, None, ℤ, refl, sym, ap, subst, ◌∙◌, arith, inl, inr, eq-eqb, ne_eqb}
use Rattle.std.specs.Prelude.{if◌then◌else◌}
use Rattle.std.proofs.lemmas.Bool.{cases_Bool, cases_order}
use Rattle.amr_num.specs.Numbers.{sum_below}
use Rattle.amr_num.proofs.Parts.{sum_below_same}
use Rattle.amr_num.specs.declared.Axis.{Axis}
use Rattle.amr_num.specs.declared.Axis.TheVariants.{X, Y, Z}
use Rattle.amr_num.specs.declared.BlockAt.{BlockAt}
use Rattle.amr_num.specs.declared.CellAt.{CellAt}
use Rattle.amr_num.specs.declared.FaceAt.{FaceAt}
use Rattle.mesh_model.specs.declared.geometry.Shape.{Shape}
use Rattle.mesh_model.specs.Fields.Advect.{Speeds, flux, leaf_flux}
use Rattle.mesh_model.specs.Fields.ArrayPlaces.{HoldsFaceField, HoldsFaces}
use Rattle.mesh_model.specs.Fields.Views.{face_down, face_view}
use Rattle.mesh_model.specs.Geometry.Blocks.{InDomain, child_block}
use Rattle.mesh_model.specs.Geometry.Coordinates.{face_of, sub_face}
use Rattle.mesh_model.specs.Geometry.Canonical.{canonical_on}
use Rattle.mesh_model.specs.Geometry.Places.{in_block, longer_on}
use Rattle.mesh_model.specs.Tree.Kinds.{Grid, is_leaf_block, is_leaf_face, is_split_block, is_split_face}
use Rattle.mesh_model.specs.Tree.ValidGrid.{Valid}
use Rattle.mesh_model.proofs.FieldLemmas.CellKinds.{kinds_of_tiles, wide_of}
use Rattle.mesh_model.proofs.FieldLemmas.FaceSums as faces
use Rattle.mesh_model.proofs.FieldLemmas.LeafFaces.{Either, Seen, face_adds, view_of_leaf_face}
use Rattle.mesh_model.proofs.FieldLemmas.ValidGrid.{deep_face, tree}
use Rattle.mesh_model.proofs.GeometryLemmas.Halves.{pair_inside, rest_below}
use Rattle.mesh_model.proofs.GeometryLemmas.ShapeLimits.{cells_some}
use Rattle.mesh_model.proofs.TreeLemmas.Tests.{refuted}
use Rattle.mesh_model.proofs.TreeLemmas.Levels.{is_child}
use Rattle.mesh_model.proofs.TreeLemmas.Tiling.{child_is_no_leaf, leaf_says}
use Rattle.block_tree.proofs.Leaves.{split_leaf}
use Rattle.rank_world.proofs.FaceBlocks.{leaf_face_seen}
use Rattle.flux_conserve.specs.Jumps.{BlockFaces, IsCalm, IsFacePlace, block_beside, child_beside, corrected, face_name, finer_beside, four_finer, if_split, is_at_jump, is_no_leaf, jumped, jumps_at, jumps_on, octant_on, or_four, quarter_at, quarter_sum, side_half, side_position, spot}
use Rattle.block_tree.proofs.SideFaces.{back_again, calm_child, calm_face, child_leaf, finer_name, split_face}

-- ---- places by three numbers, and by one along an axis and two across it

pub by_spot : (P : ℕ → ℕ → ℕ → Type 0) (a : Axis) (n : ℕ) → ((p s t : ℕ) → IsFacePlace n p s t → P (spot a p s t).x (spot a p s t).y (spot a p s t).z) →
    (i j k : ℕ) → i < longer_on a X n → j < longer_on a Y n → k < longer_on a Z n → P i j k
by_spot P X n each i j k hi hj hk = each i j k (record { along = omega arith; first = hj; second = hk })
by_spot P Y n each i j k hi hj hk = each j i k (record { along = omega arith; first = hi; second = hk })
by_spot P Z n each i j k hi hj hk = each k i j (record { along = omega arith; first = hi; second = hj })

pub at_spot : (P : ℕ → ℕ → ℕ → Type 0) (a : Axis) (n : ℕ) → ((i j k : ℕ) → i < longer_on a X n → j < longer_on a Y n → k < longer_on a Z n → P i j k) →
    (p s t : ℕ) → IsFacePlace n p s t → P (spot a p s t).x (spot a p s t).y (spot a p s t).z
at_spot P X n each p s t place = each p s t (omega arith) place.first place.second
at_spot P Y n each p s t place = each s p t place.first (omega arith) place.second
at_spot P Z n each p s t place = each s t p place.first place.second (omega arith)

-- ---- faces at a jump of level, and others

pub same_side : (n : ℕ) (u v : Bool) → 0 < n → side_position n u ≡ side_position n v → u ≡ v
same_side n false false some is = refl
same_side n false true some is = absurd (omega arith)
same_side n true false some is = absurd (omega arith)
same_side n true true some is = refl

pub some_or_none : {A : Type 0} (o : Option A) → (o ≡ None) ⊎ ((d : A) × (o ≡ Some d))
some_or_none None = inl refl
some_or_none (Some d) = inr (d, refl)

-- finer leaves stand at a face, on a side of its block
pub record IsJump (g : Grid) (a : Axis) (b : BlockAt) (p : ℕ) : Type 0 where
  pub high : Bool
  pub finer : BlockAt
  pub place : p ≡ side_position g.shape.n high
  pub there : finer_beside g a high b ≡ Some finer

module _ (g : Grid) (a : Axis) (b : BlockAt) (some : 0 < g.shape.n) where
  pub calm_at : (high : Bool) → finer_beside g a high b ≡ None → IsCalm g a b (side_position g.shape.n high)
  calm_at high none other is = subst (λ h. finer_beside g a h b ≡ None) (same_side g.shape.n high other some is) none

  side_kind : (p : ℕ) (high : Bool) → p ≡ side_position g.shape.n high → IsCalm g a b p ⊎ IsJump g a b p
  side_kind p high is = elim (some_or_none (finer_beside g a high b)) [
    | inl none ↦ inl (subst (IsCalm g a b) (sym is) (calm_at high none))
    | inr (d, there) ↦ inr (record { high = high; finer = d; place = is; there = there })
  ]

  inner_calm : (p : ℕ) → p ≢ 0 → p ≢ g.shape.n → IsCalm g a b p
  inner_calm p low high false is = absurd (low is)
  inner_calm p low high true is = absurd (high is)

  pub face_kind : (p : ℕ) → IsCalm g a b p ⊎ IsJump g a b p
  face_kind p = elim (cases_order p 0) [
    | inl low ↦ side_kind p false low
    | inr off_low ↦ elim (cases_order p g.shape.n) [
      | inl high ↦ side_kind p true high
      | inr off_high ↦ inl (inner_calm p (λ is. absurd (elim off_low [ inl h ↦ omega arith | inr h ↦ omega arith ])) (λ is. absurd (elim off_high [ inl h ↦ omega arith | inr h ↦ omega arith ])))
    ]
  ]

  -- ---- the corrected numbers

  module _ (numbers : BlockFaces) (s t : ℕ) where
    corrected_side : (high : Bool) → corrected g numbers a b (side_position g.shape.n high) s t ≡ or_four g.shape.n numbers a high b s t (finer_beside g a high b)
    unfolding corrected
    corrected_side false = refl
    corrected_side true = rw (ne_eqb g.shape.n 0 (λ is. absurd (omega arith)), eq-eqb g.shape.n g.shape.n refl) refl

    corrected_inner : (p : ℕ) → p ≢ 0 → p ≢ g.shape.n → corrected g numbers a b p s t ≡ numbers a b p s t
    unfolding corrected
    corrected_inner p low high = rw (ne_eqb p 0 low, ne_eqb p g.shape.n high) refl

    pub corrected_jump : (p : ℕ) (jump : IsJump g a b p) → corrected g numbers a b p s t ≡ four_finer g.shape.n numbers a jump.high jump.finer s t
    corrected_jump p jump = ap (λ q. corrected g numbers a b q s t) jump.place ∙ corrected_side jump.high ∙ ap (or_four g.shape.n numbers a jump.high b s t) jump.there

    calm_side : (p : ℕ) (high : Bool) → p ≡ side_position g.shape.n high → IsCalm g a b p → corrected g numbers a b p s t ≡ numbers a b p s t
    calm_side p high is calm =
        ap (λ q. corrected g numbers a b q s t) is ∙ corrected_side high ∙ ap (or_four g.shape.n numbers a high b s t) (calm high is) ∙ ap (λ q. numbers a b q s t) (sym is)

    pub corrected_calm : (p : ℕ) → IsCalm g a b p → corrected g numbers a b p s t ≡ numbers a b p s t
    corrected_calm p calm = elim (cases_order p 0) [
      | inl low ↦ calm_side p false low calm
      | inr off_low ↦ elim (cases_order p g.shape.n) [
        | inl high ↦ calm_side p true high calm
        | inr off_high ↦ corrected_inner p (λ is. absurd (elim off_low [ inl h ↦ omega arith | inr h ↦ omega arith ])) (λ is. absurd (elim off_high [ inl h ↦ omega arith | inr h ↦ omega arith ]))
      ]
    ]

-- ---- fields

-- a field by its names
abbrev pub named : Shape → (FaceAt → ℤ) → BlockFaces
named s field a b p q r = field (face_name s a b p q r)

module _ (g : Grid) (valid : Valid g) (a : Axis) (b : BlockAt) (leaf : is_leaf_block g b ≡ true) where
  some : 0 < g.shape.n
  some = cells_some valid.shape

  inside : InDomain g.shape b
  inside = valid.tiles.inside b (leaf_says g b leaf)

  whole : is_split_block g b ≡ false
  whole = refuted _ (λ split. let none = split_leaf g valid b split in cc)

  module _ (p s t : ℕ) (place : IsFacePlace g.shape.n p s t) where
    abbrev face : FaceAt
    face = face_name g.shape a b p s t

    pub calm_is : IsCalm g a b p → is_split_face g face ≡ false
    calm_is calm = calm_face g a b some inside whole s t place.first place.second p place.along calm

    jump_is : IsJump g a b p → is_split_face g face ≡ true
    jump_is jump = ap (λ q. is_split_face g (face_name g.shape a b q s t)) jump.place ∙ split_face g a b some inside whole s t place.first place.second jump.high jump.finer jump.there

    finer_is : (jump : IsJump g a b p) (r : ℕ) →
        face_name g.shape a (child_beside a jump.high (quarter_at g.shape.n s t) jump.finer) (side_position g.shape.n (not jump.high)) (2 * (s % (g.shape.n / 2)) + r % 2) (2 * (t % (g.shape.n / 2)) + r / 2 % 2)
        ≡ sub_face face r
    finer_is jump r =
        finer_name g a jump.high b jump.finer valid.shape.cells some inside jump.there s t r place.first place.second ∙ ap (λ q. sub_face (face_name g.shape a b q s t) r) (sym jump.place)

    -- the corrected numbers of a field are those of the jumped field
    pub field_corrected : (field : FaceAt → ℤ) → corrected g (named g.shape field) a b p s t ≡ jumped g field face
    unfolding quarter_sum
    field_corrected field = elim (face_kind g a b some p) [
      | inl calm ↦ corrected_calm g a b some (named g.shape field) s t p calm ∙ ap (λ (u : Bool). if u then sum_below 4 (λ r. field (sub_face face r)) else field face) (sym (calm_is calm))
      | inr jump ↦
          corrected_jump g a b some (named g.shape field) s t p jump
          ∙ sum_below_same 4 (λ r. field (face_name g.shape a (child_beside a jump.high (quarter_at g.shape.n s t) jump.finer) (side_position g.shape.n (not jump.high)) (2 * (s % (g.shape.n / 2)) + r % 2) (2 * (t % (g.shape.n / 2)) + r / 2 % 2)))
          (λ r. field (sub_face face r)) (λ r h. ap field (finer_is jump r))
          ∙ ap (λ (u : Bool). if u then sum_below 4 (λ r. field (sub_face face r)) else field face) (sym (jump_is jump))
    ]

-- ---- the finer faces at a jump

pub side_within : (n : ℕ) (high : Bool) → side_position n high ≤ n
side_within n false = omega arith
side_within n true = omega arith

finer_place : (n s t r : ℕ) (high : Bool) → (n ≡ 4) ⊎ (n ≡ 8) → IsFacePlace n (side_position n high) (2 * (s % (n / 2)) + r % 2) (2 * (t % (n / 2)) + r / 2 % 2)
finer_place n s t r high size = record {
  along = side_within n high;
  first = pair_inside n (s % (n / 2)) (r % 2) size (rest_below n s size) (omega arith);
  second = pair_inside n (t % (n / 2)) (r / 2 % 2) size (rest_below n t size) (omega arith);
}

-- ---- leaves at a jump

both_false : (u v : Bool) → (u || v) ≡ false → (u ≡ false) × (v ≡ false)
both_false true v is = cc
both_false false v is = (refl, is)

module _ (g : Grid) (b : BlockAt) where
  calm_on : is_at_jump g b ≡ false → (a : Axis) → jumps_on g a b ≡ false
  unfolding is_at_jump
  calm_on calm X = (both_false (jumps_on g X b) (jumps_on g Y b) (both_false (jumps_on g X b || jumps_on g Y b) (jumps_on g Z b) calm).0).0
  calm_on calm Y = (both_false (jumps_on g X b) (jumps_on g Y b) (both_false (jumps_on g X b || jumps_on g Y b) (jumps_on g Z b) calm).0).1
  calm_on calm Z = (both_false (jumps_on g X b || jumps_on g Y b) (jumps_on g Z b) calm).1

  no_jump_at : is_at_jump g b ≡ false → (a : Axis) (high : Bool) → jumps_at g a high b ≡ false
  no_jump_at calm a false = (both_false (jumps_at g a false b) (jumps_at g a true b) (calm_on calm a)).0
  no_jump_at calm a true = (both_false (jumps_at g a false b) (jumps_at g a true b) (calm_on calm a)).1

  jump_shows : (a : Axis) (high : Bool) → jumps_at g a high b ≡ true → is_at_jump g b ≡ true
  jump_shows a high jumps = elim (cases_Bool (is_at_jump g b)) [
    | inl is ↦ is
    | inr calm ↦ (let none = no_jump_at calm a high in cc)
  ]

  -- a block beside that is no leaf is a jump
  pub beside_jump : (a : Axis) (high : Bool) (d : BlockAt) → block_beside g.shape a high b ≡ Some d → is_leaf_block g d ≡ false → is_at_jump g b ≡ true
  unfolding jumps_at
  beside_jump a high d is none = jump_shows a high (ap (is_no_leaf g) is ∙ ap not none)

  no_finer : (valid : Valid g) (o : Option BlockAt) → is_no_leaf g o ≡ false → if_split g o ≡ None
  no_finer valid None calm = refl
  no_finer valid (Some d) calm = elim (cases_Bool (is_split_block g d)) [
    | inl split ↦ (let none = split_leaf g valid d split in let other : not (is_leaf_block g d) ≡ true = ap not none in cc)
    | inr same ↦ ap (λ (t : Bool). if t then Some d else None) same
  ]

  -- at no jump there stand no finer leaves
  pub no_jump_calm : Valid g → is_at_jump g b ≡ false → (a : Axis) (p : ℕ) → IsCalm g a b p
  unfolding jumps_at finer_beside
  no_jump_calm valid calm a p high is = no_finer valid (block_beside g.shape a high b) (no_jump_at calm a high)

module _ (g : Grid) (valid : Valid g) (a : Axis) (high : Bool) (b d : BlockAt) (leaf : is_leaf_block g b ≡ true) (finer : finer_beside g a high b ≡ Some d) (q : ℕ) where
  -- the children of the block beside that stand at the leaf are leaves, and at the faces there stands nothing finer
  pub near_leaf : is_leaf_block g (child_beside a high q d) ≡ true
  near_leaf = child_leaf g valid a high b d (inside g valid a b leaf) (whole g valid a b leaf) finer q

  pub near_calm : IsCalm g a (child_beside a high q d) (side_position g.shape.n (not high))
  near_calm = calm_at g a (child_beside a high q d) (cells_some valid.shape) (not high) (calm_child g valid a high b d (inside g valid a b leaf) (whole g valid a b leaf) finer q)

  -- they are at a jump themselves: beyond their faces would stand a child of the leaf
  pub near_jump : is_at_jump g (child_beside a high q d) ≡ true
  near_jump =
      let c = child_block b (octant_on a (side_half high) q) in
      beside_jump g (child_beside a high q d) a (not high) c (back_again g valid a high b d (inside g valid a b leaf) (whole g valid a b leaf) finer q)
      (child_is_no_leaf g c b (is_child b (octant_on a (side_half high) q)) (whole g valid a b leaf))

-- ---- the views of a field on the faces of a leaf

module _ (g : Grid) (valid : Valid g) (a : Axis) (b : BlockAt) (leaf : is_leaf_block g b ≡ true) (p s t : ℕ) (place : IsFacePlace g.shape.n p s t) where
  -- the four finer faces at a jump have no split side
  sub_calm : (jump : IsJump g a b p) (r : ℕ) → is_split_face g (sub_face (face_name g.shape a b p s t) r) ≡ false
  sub_calm jump r =
      let q = quarter_at g.shape.n s t in
      ap (is_split_face g) (sym (finer_is g valid a b leaf p s t place jump r))
      ∙ calm_is g valid a (child_beside a jump.high q jump.finer) (near_leaf g valid a jump.high b jump.finer leaf jump.there q) (side_position g.shape.n (not jump.high)) _ _
      (finer_place g.shape.n s t r (not jump.high) valid.shape.cells) (near_calm g valid a jump.high b jump.finer leaf jump.there q)

  seen : Seen g (face_name g.shape a b p s t)
  unfolding face_name
  seen = at_spot (λ i j k. Seen g (face_of a (canonical_on g.shape a (in_block g.shape.n b i j k)))) a g.shape.n (leaf_face_seen g valid a b leaf) p s t place

  -- a face at which no finer leaves stand is a leaf face
  pub calm_leaf_face : IsCalm g a b p → is_leaf_face g (face_name g.shape a b p s t) ≡ true
  unfolding Either
  calm_leaf_face calm = elim seen.kind [
    | inl split ↦ (let none = calm_is g valid a b leaf p s t place calm in cc)
    | inr is ↦ is
  ]

  -- the view of a leaf face is its number, and that of a face beside finer leaves the sum of those of the four finer faces
  pub view_jumped : (field : FaceAt → ℤ) → face_view g field (face_name g.shape a b p s t) ≡ jumped g field (face_name g.shape a b p s t)
  view_jumped field =
      let f = face_name g.shape a b p s t in
      let kinds = kinds_of_tiles g valid.tiles valid.shape in
      let wide = wide_of g.shape valid.shape in
      elim (face_kind g a b (cells_some valid.shape) p) [
        | inl calm ↦ (
            let whole = calm_is g valid a b leaf p s t place calm in
            view_of_leaf_face g kinds valid.shape wide field f (calm_leaf_face calm) ∙ ap (λ (u : Bool). if u then sum_below 4 (λ r. field (sub_face f r)) else field f) (sym whole))
        | inr jump ↦ (
            let split = jump_is g valid a b leaf p s t place jump in
            face_adds g kinds valid.shape wide field f
            ∙ sum_below_same 4 (λ r. face_view g field (sub_face f r)) (λ r. field (sub_face f r))
            (λ r h. view_of_leaf_face g kinds valid.shape wide field (sub_face f r) (faces.leaf_sub_face g kinds.tree wide f r split (sub_calm jump r)))
            ∙ ap (λ (u : Bool). if u then sum_below 4 (λ r. field (sub_face f r)) else field f) (sym split))
      ]

module _ (g : Grid) (valid : Valid g) (content : CellAt → ℤ) (n : Speeds) where
  flux_whole : (f : FaceAt) → is_split_face g f ≡ false → flux g content n f ≡ leaf_flux g content n f
  flux_whole f whole = faces.down_whole g (tree g valid) (wide_of g.shape valid.shape) (leaf_flux g content n) (10 - f.level) f whole

  flux_split : (f : FaceAt) → is_split_face g f ≡ true → ((r : ℕ) → r < 4 → is_split_face g (sub_face f r) ≡ false) → flux g content n f ≡ sum_below 4 (λ r. leaf_flux g content n (sub_face f r))
  flux_split f split calm =
      let wide = wide_of g.shape valid.shape in
      let deep = deep_face g valid f split in
      let one : 10 - f.level ≡ suc (9 - f.level) = omega arith in
      ap (λ d. face_down g (leaf_flux g content n) d f) one ∙ faces.down_split g (tree g valid) wide (leaf_flux g content n) (9 - f.level) f split
      ∙ sum_below_same 4 (λ r. face_down g (leaf_flux g content n) (9 - f.level) (sub_face f r)) (λ r. leaf_flux g content n (sub_face f r))
      (λ r h. faces.down_whole g (tree g valid) wide (leaf_flux g content n) (9 - f.level) (sub_face f r) (calm r h))

  module _ (a : Axis) (b : BlockAt) (leaf : is_leaf_block g b ≡ true) (p s t : ℕ) (place : IsFacePlace g.shape.n p s t) where
    -- the flux through a face of a leaf is what its own step gives, jumped
    pub flux_jumped : flux g content n (face_name g.shape a b p s t) ≡ jumped g (leaf_flux g content n) (face_name g.shape a b p s t)
    flux_jumped =
        let f = face_name g.shape a b p s t in
        let own = leaf_flux g content n in
        elim (face_kind g a b (cells_some valid.shape) p) [
          | inl calm ↦ (
              let whole = calm_is g valid a b leaf p s t place calm in
              flux_whole f whole ∙ ap (λ (u : Bool). if u then sum_below 4 (λ r. own (sub_face f r)) else own f) (sym whole))
          | inr jump ↦ (
              let split = jump_is g valid a b leaf p s t place jump in
              flux_split f split (λ r h. sub_calm g valid a b leaf p s t place jump r) ∙ ap (λ (u : Bool). if u then sum_below 4 (λ r. own (sub_face f r)) else own f) (sym split))
        ]

    -- and where no finer leaves stand, just that
    pub flux_own : IsCalm g a b p → flux g content n (face_name g.shape a b p s t) ≡ leaf_flux g content n (face_name g.shape a b p s t)
    flux_own calm = flux_whole (face_name g.shape a b p s t) (calm_is g valid a b leaf p s t place calm)

-- faces of a leaf that hold a field, jumped, hold its views
pub views_held : (g : Grid) (field : FaceAt → ℤ) (b : BlockAt) (a : Axis) (numbers : ℕ → ℕ → ℕ → ℤ) → Valid g → is_leaf_block g b ≡ true →
    HoldsFaceField g (jumped g field) a b numbers → HoldsFaces g field a b numbers
unfolding face_name
views_held g field b a numbers valid leaf holds = record {
  at = λ i j k hi hj hk.
      holds.at i j k hi hj hk
      ∙ sym (by_spot (λ i j k. let f = face_of a (canonical_on g.shape a (in_block g.shape.n b i j k)) in face_view g field f ≡ jumped g field f) a g.shape.n
      (λ p s t place. view_jumped g valid a b leaf p s t place field) i j k hi hj hk);
}

-- so it is through all faces of a leaf at no jump
pub fluxes_own : (g : Grid) (content : CellAt → ℤ) (n : Speeds) (b : BlockAt) (a : Axis) → Valid g → is_leaf_block g b ≡ true → is_at_jump g b ≡ false → (i j k : ℕ) →
    i < longer_on a X g.shape.n → j < longer_on a Y g.shape.n → k < longer_on a Z g.shape.n →
    let f = face_of a (canonical_on g.shape a (in_block g.shape.n b i j k)) in flux g content n f ≡ leaf_flux g content n f
unfolding face_name
fluxes_own g content n b a valid leaf calm =
    by_spot (λ i j k. let f = face_of a (canonical_on g.shape a (in_block g.shape.n b i j k)) in flux g content n f ≡ leaf_flux g content n f) a g.shape.n
    (λ p s t place. flux_own g valid content n a b leaf p s t place (no_jump_calm g b valid calm a p))

pub fluxes_jumped : (g : Grid) (content : CellAt → ℤ) (n : Speeds) (b : BlockAt) (a : Axis) → Valid g → is_leaf_block g b ≡ true → (i j k : ℕ) →
    i < longer_on a X g.shape.n → j < longer_on a Y g.shape.n → k < longer_on a Z g.shape.n →
    let f = face_of a (canonical_on g.shape a (in_block g.shape.n b i j k)) in flux g content n f ≡ jumped g (leaf_flux g content n) f
unfolding face_name
fluxes_jumped g content n b a valid leaf =
    by_spot (λ i j k. let f = face_of a (canonical_on g.shape a (in_block g.shape.n b i j k)) in flux g content n f ≡ jumped g (leaf_flux g content n) f) a g.shape.n
    (λ p s t place. flux_jumped g valid content n a b leaf p s t place)
