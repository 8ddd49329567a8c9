-- A uniform field on faces.
use Rattle.std.proofs.Common.{◌≡◌, ℕ, zero, suc, ◌+◌, ◌-◌, ◌*◌, ◌^◌, ◌<◌, ◌≤◌, Bool, true, false, not, ◌&&◌, ◌||◌, ◌==◌, ℤ, pos, ◌*ℤ◌, Option, Some, None, refl, sym, ap, ap₂, subst, ◌∙◌, arith, inl, inr, ne_eqb, pow_mono, to_z, of_z, w64, unsigned_abs}
use Rattle.std.proofs.lemmas.Int.{ints, unsigned_abs-mul}
use Rattle.std.proofs.lemmas.Nat.{mul-le}
use Rattle.amr_num.specs.Numbers.{Within, sum_below}
use Rattle.amr_num.specs.declared.Axis.{Axis}
use Rattle.amr_num.specs.declared.Axis.TheVariants.{X, Y, Z}
use Rattle.amr_num.specs.declared.BlockAt.{BlockAt}
use Rattle.amr_num.specs.declared.FaceAt.{FaceAt}
use Rattle.std.specs.Option.{option_or}
use Rattle.std.specs.Prelude.{if◌then◌else◌}
use Rattle.mesh_model.specs.Fields.FaceSplits.{position}
use Rattle.std.specs.Bool.{IsTrue}
use Rattle.std.proofs.lemmas.Bool.{cases_Bool, cases_lt, le-ltb, lt-ltb}
use Rattle.amr_num.proofs.Machine.{kept}
use Rattle.mesh_model.proofs.TreeLemmas.Tests.{refuted}
use Rattle.block_tree.specs.Numbered.{block_at}
use Rattle.block_tree.proofs.Leaves.{split_leaf}
use Rattle.mesh_model.specs.Fields.Advect.{Speeds, speed}
use Rattle.mesh_model.specs.Fields.Firsts.{first_below, first_in_places}
use Rattle.mesh_model.specs.Fields.Induct.{uniform_faces}
use Rattle.mesh_model.specs.Fields.RangeWalk.{is_above}
use Rattle.mesh_model.specs.Fields.Views.{face_view}
use Rattle.mesh_model.specs.Geometry.Blocks.{InDomain}
use Rattle.mesh_model.specs.Geometry.Canonical.{canonical_on, is_canonical}
use Rattle.mesh_model.specs.Geometry.Coordinates.{extent, face_of, is_periodic, on, step, sub_face, wrapped}
use Rattle.mesh_model.specs.Geometry.Places.{in_block, longer_on}
use Rattle.mesh_model.specs.Tree.Kinds.{Grid, is_leaf_block, is_leaf_face, is_split_block, is_split_face}
use Rattle.mesh_model.specs.Tree.ValidGrid.{Valid}
use Rattle.mesh_model.proofs.FieldLemmas.CellKinds.{Kinds, kinds_of_tiles, wide_of}
use Rattle.mesh_model.proofs.FieldLemmas.Divergence.{on_leaf_face}
use Rattle.mesh_model.proofs.FieldLemmas.FirstFound.{found_first}
use Rattle.mesh_model.proofs.FieldLemmas.LeafFaces.{Seen, face_top, view_is}
use Rattle.mesh_model.proofs.GeometryLemmas.OnAxes.{with_level}
use Rattle.mesh_model.specs.Geometry.Limits.{IsShape}
use Rattle.mesh_model.specs.declared.geometry.Shape.{Shape}
use Rattle.block_tree.specs.Beside.{finer_beside}
use Rattle.rank_world.specs.FaceRange.{CountLeafFaces, axis_above, face_above_at}
use Rattle.rank_world.specs.declared.faces.FaceAbove.{FaceAbove}
use Rattle.rank_world.proofs.FaceBlocks.{leaf_face_seen}
use Rattle.rank_world.proofs.FaceRange.{counts_leaf}
use Rattle.staggered.specs.Facing.{IsCalmBelow, level_flux}

-- ---- areas

pub four_power : (d : ℕ) → 2 ^ (2 * d) ≡ 4 ^ d
four_power zero = refl
four_power (suc d) =
    let before = four_power d in
    let next : 2 * suc d ≡ suc (suc (2 * d)) = omega arith in
    let fold : 2 ^ suc (suc (2 * d)) ≡ 4 * 2 ^ (2 * d) = grind arith in
    let twice = ap (λ m. 2 ^ m) next ∙ fold in
    let more : 4 ^ suc d ≡ 4 * 4 ^ d = grind arith in
    twice ∙ ap (λ m. 4 * m) before ∙ sym more

pub area_small : (d : ℕ) → d ≤ 10 → 4 ^ d ≤ 2 ^ 20
area_small d h =
    let double : 2 * d ≤ 20 = omega arith in
    let most : 2 ^ (2 * d) ≤ 2 ^ 20 = pow_mono double in
    omega (arith, most, four_power d)

-- what flows through an area is small
pub flux_small : (a : ℤ) (d : ℕ) → Within (2 ^ 40) a → d ≤ 10 → Within (2 ^ 60) (a *ℤ pos (4 ^ d))
flux_small a d within h =
    let size = unsigned_abs-mul a (pos (4 ^ d)) in
    let most = mul-le (unsigned_abs a) (4 ^ d) (2 ^ 40) (2 ^ 20) within (area_small d h) in
    omega (arith, size, most)

-- ---- the views of the field

four_fold : (b : ℤ) (m : ℕ) → b *ℤ pos (4 * m) ≡ sum_below 4 (λ q. b *ℤ pos m)
four_fold b m = omega (arith, ints)

-- by names
abbrev pub face_flux : Grid → Speeds → FaceAt → ℤ
face_flux g b f = level_flux g b f.axis f.level

module _ (g : Grid) (valid : Valid g) (b : Speeds) where
  kinds : Kinds g
  kinds = kinds_of_tiles g valid.tiles valid.shape

  wide : (a : Axis) (l : ℕ) → 0 < extent g.shape a l
  wide = wide_of g.shape valid.shape

  one_less : (f : FaceAt) → is_split_face g f ≡ true → g.shape.max - f.level ≡ suc (g.shape.max - suc f.level)
  one_less f s = let lt = face_top g kinds f s in omega arith

  -- the field divides by faces with a split side
  flux_adds : (f : FaceAt) → is_split_face g f ≡ true → face_flux g b f ≡ sum_below 4 (λ q. face_flux g b (sub_face f q))
  flux_adds f s =
      let power : 4 ^ suc (g.shape.max - suc f.level) ≡ 4 * 4 ^ (g.shape.max - suc f.level) = grind arith in
      ap (λ k. speed b f.axis *ℤ pos (4 ^ k)) (one_less f s)
      ∙ ap (λ k. speed b f.axis *ℤ pos k) power ∙ four_fold (speed b f.axis) (4 ^ (g.shape.max - suc f.level))

  leaf_flux : (f : FaceAt) → is_canonical g.shape f ≡ true → is_leaf_face g f ≡ true → uniform_faces g b f ≡ face_flux g b f
  leaf_flux f c t = on_leaf_face g (face_flux g b) f c t

  pub uniform_view : (f : FaceAt) → Seen g f → face_view g (uniform_faces g b) f ≡ face_flux g b f
  uniform_view f seen = view_is g kinds valid.shape wide (uniform_faces g b) (face_flux g b) leaf_flux flux_adds f seen

-- the level of a block's face
pub name_level : (s : Shape) (a : Axis) (b : BlockAt) (i j k : ℕ) → (face_of a (canonical_on s a (in_block s.n b i j k))).level ≡ b.level
name_level s a b i j k = with_level a (wrapped (is_periodic s a) (extent s a b.level) (on a (in_block s.n b i j k))) (in_block s.n b i j k)

-- ---- the first leaf face of a leaf

none_found : {A : Type 0} (n : ℕ) (at : ℕ → Option A) → ((i : ℕ) → i < n → at i ≡ None) → first_below n at ≡ None
none_found zero at none = refl
none_found (suc n) at none = ap₂ (λ p q. option_or p q) (none_found n at (λ i h. none i (omega arith))) (none n (omega arith))

none_in_places : {A : Type 0} (x y z : ℕ) (at : ℕ → ℕ → ℕ → Option A) → ((i j k : ℕ) → i < x → j < y → k < z → at i j k ≡ None) → first_in_places x y z at ≡ None
none_in_places x y z at none =
    none_found z (λ k. first_below y (λ j. first_below x (λ i. at i j k)))
    (λ k hk. none_found y (λ j. first_below x (λ i. at i j k)) (λ j hj. none_found x (λ i. at i j k) (λ i hi. none i j k hi hj hk)))

-- the first is that at a place along an axis where none is found at a lower position
first_along : {A : Type 0} (a : Axis) (n p : ℕ) (at : ℕ → ℕ → ℕ → Option A) (v : A) → p < n → ((i j k : ℕ) → i < longer_on a X n → j < longer_on a Y n → k < longer_on a Z n → position a i j k < p → at i j k ≡ None) →
    at (step a p).x (step a p).y (step a p).z ≡ Some v → first_in_places (longer_on a X n) (longer_on a Y n) (longer_on a Z n) at ≡ Some v
first_along X n p at v h none here =
    found_first n 0 (λ k. first_below n (λ j. first_below (n + 1) (λ i. at i j k))) v refl
    (found_first n 0 (λ j. first_below (n + 1) (λ i. at i j 0)) v refl
    (found_first (n + 1) p (λ i. at i 0 0) v (none_found p (λ i. at i 0 0) (λ i l. none i 0 0 (omega (arith, h, l)) (omega (arith, h)) (omega (arith, h)) l)) here (omega (arith, h))) (omega (arith, h))) (omega (arith, h))
first_along Y n p at v h none here =
    found_first n 0 (λ k. first_below (n + 1) (λ j. first_below n (λ i. at i j k))) v refl
    (found_first (n + 1) p (λ j. first_below n (λ i. at i j 0)) v
    (none_found p (λ j. first_below n (λ i. at i j 0)) (λ j l. none_found n (λ i. at i j 0) (λ i hi. none i j 0 hi (omega (arith, h, l)) (omega (arith, h)) l)))
    (found_first n 0 (λ i. at i p 0) v refl here (omega (arith, h))) (omega (arith, h))) (omega (arith, h))
first_along Z n p at v h none here =
    found_first (n + 1) p (λ k. first_below n (λ j. first_below n (λ i. at i j k))) v
    (none_found p (λ k. first_below n (λ j. first_below n (λ i. at i j k))) (λ k l. none_found n (λ j. first_below n (λ i. at i j k)) (λ j hj. none_found n (λ i. at i j k) (λ i hi. none i j k hi hj (omega (arith, h, l)) l))))
    (found_first n 0 (λ j. first_below n (λ i. at i j p)) v refl (found_first n 0 (λ i. at i 0 p) v refl here (omega (arith, h))) (omega (arith, h))) (omega (arith, h))

abbrev calm_of : {A : Type 0} → Option A → Bool
calm_of None = true
calm_of (Some d) = false

calm_none : {A : Type 0} (o : Option A) → calm_of o ≡ true → o ≡ None
calm_none None h = refl
calm_none (Some d) h = cc

calm_some : {A : Type 0} (o : Option A) → calm_of o ≡ false → (d : A) × (o ≡ Some d)
calm_some None h = absurd (let no : true ≡ false = h in cc)
calm_some (Some d) h = (d, refl)

abbrev pub first_place : Bool → ℕ
first_place true = 0
first_place false = 1

some_cells : (s : Shape) → IsShape s → 1 < s.n
some_cells s shape = elim shape.cells [ inl four ↦ omega (arith, four) | inr eight ↦ omega (arith, eight) ]

or_true : (h : Bool) → (h || true) ≡ true
or_true true = refl
or_true false = refl

lower_out : (calm high : Bool) (p n : ℕ) → p < first_place calm → ((calm || not (p == 0)) && (high || not (p == n))) ≡ false
lower_out true high p n h = absurd (omega (arith, h))
lower_out false high p n h = let zero_is : p ≡ 0 = omega (arith, h) in ap (λ q. not (q == 0) && (high || not (q == n))) zero_is

first_in : (calm high : Bool) (n : ℕ) → 1 < n → ((calm || not (first_place calm == 0)) && (high || not (first_place calm == n))) ≡ true
first_in true high n h = ap (λ u. high || not u) (ne_eqb 0 n (λ is. absurd (omega (arith, is, h)))) ∙ or_true high
first_in false high n h = ap (λ u. high || not u) (ne_eqb 1 n (λ is. absurd (omega (arith, is, h)))) ∙ or_true high

place_few : (calm : Bool) (n : ℕ) → 1 < n → first_place calm < n
place_few true n h = omega (arith, h)
place_few false n h = h

step_there : (a : Axis) (n p : ℕ) → p < n → ((step a p).x < longer_on a X n) × ((step a p).y < longer_on a Y n) × ((step a p).z < longer_on a Z n)
step_there X n p h = (omega (arith, h), omega (arith, h), omega (arith, h))
step_there Y n p h = (omega (arith, h), omega (arith, h), omega (arith, h))
step_there Z n p h = (omega (arith, h), omega (arith, h), omega (arith, h))

step_position : (a : Axis) (p : ℕ) → position a (step a p).x (step a p).y (step a p).z ≡ p
step_position X p = refl
step_position Y p = refl
step_position Z p = refl

module _ (g : Grid) (valid : Valid g) (bs : Speeds) (a : Axis) (b : BlockAt) (inside : InDomain g.shape b) (leaf : is_leaf_block g b ≡ true) (whole : is_split_block g b ≡ false) where
  abbrev pub n : ℕ
  n = g.shape.n

  abbrev pub flux : ℤ
  flux = level_flux g bs a b.level

  abbrev pub name : ℕ → ℕ → ℕ → FaceAt
  name i j k = face_of a (canonical_on g.shape a (in_block g.shape.n b i j k))

  abbrev pub told : ℕ → ℕ → ℕ → Option FaceAbove
  told i j k = Some (record { face = name i j k; value = flux })

  abbrev pub at_place : ℕ → ℕ → ℕ → Option FaceAbove
  at_place i j k = face_above_at g (uniform_faces g bs) (name i j k)

  -- a leaf face has this flux
  on_leaf : (i j k : ℕ) → i < longer_on a X n → j < longer_on a Y n → k < longer_on a Z n → is_leaf_face g (name i j k) ≡ true → uniform_faces g bs (name i j k) ≡ flux
  on_leaf i j k hi hj hk t =
      let seen = leaf_face_seen g valid a b leaf i j k hi hj hk in
      leaf_flux g valid bs (name i j k) seen.canonical t ∙ ap (level_flux g bs a) (name_level g.shape a b i j k)

  off_leaf : (i j k : ℕ) → is_leaf_face g (name i j k) ≡ false → at_place i j k ≡ None
  off_leaf i j k f = ap (λ t. if t && is_above (2 ^ 40) (uniform_faces g bs (name i j k)) then Some (record { face = name i j k; value = uniform_faces g bs (name i j k) }) else None) f

  found_there : (i j k : ℕ) → i < longer_on a X n → j < longer_on a Y n → k < longer_on a Z n → is_leaf_face g (name i j k) ≡ true → at_place i j k ≡ (if is_above (2 ^ 40) flux then told i j k else None)
  found_there i j k hi hj hk t =
      ap₂ (λ u (v : ℤ). if u && is_above (2 ^ 40) v then Some (record { face = name i j k; value = v }) else None) t (on_leaf i j k hi hj hk t)

  -- nothing is found where the flux is in range
  pub none_above : is_above (2 ^ 40) flux ≡ false → axis_above g (uniform_faces g bs) b a ≡ None
  none_above low = none_in_places (longer_on a X n) (longer_on a Y n) (longer_on a Z n) at_place (λ i j k hi hj hk. elim (cases_Bool (is_leaf_face g (name i j k))) [
    | inl t ↦ found_there i j k hi hj hk t ∙ ap (λ u. if u then told i j k else None) low
    | inr f ↦ off_leaf i j k f
  ])

  -- ---- the leaf faces

  module _ (calm : Bool) (below : IsCalmBelow g a b calm) where
    abbrev high : Bool
    high = calm_of (finer_beside g a true b)

    counts : CountLeafFaces g b (record { axis = a; low = calm; high = high })
    counts = record { low_calm = below.none; low_finer = below.some; high_calm = calm_none (finer_beside g a true b); high_finer = calm_some (finer_beside g a true b) }

    leaf_is : (i j k : ℕ) → i < longer_on a X n → j < longer_on a Y n → k < longer_on a Z n →
        is_leaf_face g (name i j k) ≡ ((calm || not (position a i j k == 0)) && (high || not (position a i j k == n)))
    leaf_is i j k hi hj hk = sym (counts_leaf g valid b inside leaf whole a calm high counts i j k hi hj hk)

    none_lower : (i j k : ℕ) → i < longer_on a X n → j < longer_on a Y n → k < longer_on a Z n → position a i j k < first_place calm → at_place i j k ≡ None
    none_lower i j k hi hj hk h = off_leaf i j k (leaf_is i j k hi hj hk ∙ lower_out calm high (position a i j k) n h)

    first_leaf : (i j k : ℕ) → i < longer_on a X n → j < longer_on a Y n → k < longer_on a Z n → position a i j k ≡ first_place calm → is_leaf_face g (name i j k) ≡ true
    first_leaf i j k hi hj hk h = leaf_is i j k hi hj hk ∙ ap (λ p. (calm || not (p == 0)) && (high || not (p == n))) h ∙ first_in calm high n (some_cells g.shape valid.shape)

    -- the first leaf face is found where the flux is out of range
    pub first_found : is_above (2 ^ 40) flux ≡ true → axis_above g (uniform_faces g bs) b a ≡ (let p = first_place calm in told (step a p).x (step a p).y (step a p).z)
    first_found above =
        let p = first_place calm in
        let few = place_few calm n (some_cells g.shape valid.shape) in
        let there = step_there a n p few in
        first_along a n p at_place (record { face = name (step a p).x (step a p).y (step a p).z; value = flux }) few none_lower
        (found_there (step a p).x (step a p).y (step a p).z there.0 there.1 there.2 (first_leaf (step a p).x (step a p).y (step a p).z there.0 there.1 there.2 (step_position a p))
        ∙ ap (λ u. if u then told (step a p).x (step a p).y (step a p).z else None) above)

-- ---- in the words of the code

pub flux_is : (g t : Grid) → t ≡ g → (bs : Speeds) (a : Axis) (node : ℕ) (b : BlockAt) (z : ℤ) → b ≡ block_at t node → z ≡ level_flux t bs a b.level → Within (2 ^ 60) z →
    to_z w64 (of_z w64 z) ≡ level_flux g bs a (block_at g node).level
flux_is g t same bs a node b z block is small =
    kept z (2 ^ 60) small (omega arith) ∙ is ∙ ap (λ (d : BlockAt). level_flux t bs a d.level) block ∙ ap (λ h. level_flux h bs a (block_at h node).level) same

pub inside_of : (g t : Grid) → t ≡ g → (node : ℕ) (b : BlockAt) → b ≡ block_at t node → InDomain t.shape b → InDomain g.shape (block_at g node)
inside_of g t same node b block inside = subst (λ (h : Grid). InDomain h.shape (block_at h node)) same (subst (InDomain t.shape) block inside)

pub whole_of : (g : Grid) → Valid g → (b : BlockAt) → is_leaf_block g b ≡ true → is_split_block g b ≡ false
whole_of g valid b leaf = refuted _ (λ s. let none = split_leaf g valid b s in cc)

pub not_above : (most : ℕ) (z : ℤ) → Within most z → is_above most z ≡ false
not_above most z within = le-ltb most (unsigned_abs z) within

pub above_one : (most : ℕ) (t : Bool) (z : ℤ) → (Within most z → IsTrue t) → t ≡ false → is_above most z ≡ true
above_one most true z fits is = cc
above_one most false z fits is = elim (cases_lt most (unsigned_abs z)) [
  | inl more ↦ lt-ltb most (unsigned_abs z) more
  | inr less ↦ (let no : false ≡ true = fits less in cc)
]
