-- How great the view of a face with a split cell beside it can be, and of an edge with one round it.
use Rattle.std.proofs.Common.{◌≡◌, ℕ, zero, suc, ◌+◌, ◌-◌, ◌*◌, ◌^◌, ◌<◌, ◌≤◌, ◌⊎◌, Bool, true, false, ◌||◌, not, ℤ, refl, sym, ap, ap₂, ◌∙◌, arith, inl, inr, subst, List, [], ◌∷◌, length, Option, Some, None}
use Rattle.std.specs.Prelude.{option_map}
use Rattle.std.proofs.Math.Nat.{mul-le-mul_left}
use Rattle.std.proofs.lemmas.Nat.{mul-le, pow_pos}
use Rattle.std.proofs.lemmas.Bool.{cases_Bool, cases_lt}
use Rattle.amr_num.specs.declared.Axis.{Axis}
use Rattle.amr_num.specs.declared.Axis.TheVariants.{X, Y, Z}
use Rattle.amr_num.specs.declared.BlockAt.{BlockAt}
use Rattle.amr_num.specs.declared.CellAt.{CellAt}
use Rattle.amr_num.specs.declared.FaceAt.{FaceAt}
use Rattle.amr_num.specs.Numbers.{Within, sum_below}
use Rattle.mesh_model.proofs.GeometryLemmas.ShapeLimits.{cells_some}
use Rattle.mesh_model.specs.Geometry.Coordinates.{sub_cell, sub_face, low_cell, high_cell, below, above, moved, on, extent, roots, is_periodic, face_numbers}
use Rattle.mesh_model.specs.Tree.Kinds.{Grid, holds, is_leaf, is_leaf_face, is_split_face}
use Rattle.mesh_model.specs.Tree.ValidGrid.{Valid}
use Rattle.mesh_model.specs.Fields.Views.{face_down, face_view}
use Rattle.mesh_model.proofs.FieldLemmas.CellKinds.{roots_pos, wide_of}
use Rattle.mesh_model.proofs.TreeLemmas.Tests.{and_left, either_true}
use Rattle.mesh_model.proofs.FieldLemmas.Slots.{low_cell_sub, high_cell_sub, octant_beside}
use Rattle.mesh_model.proofs.FieldLemmas.ValidGrid.{tree, deep_face}
use Rattle.mesh_model.proofs.FieldLemmas.Round.{above_is}
use Rattle.mesh_model.proofs.FieldLemmas.Bounds.{total, total_add, sum_within, total_times, wider, overlap, overlap_le, overlap_at, apart_le, Apart, share_coarse, share_fine, share_at, weight, weight_at, weight_leaf, weight_split}
use Rattle.mesh_model.proofs.FieldLemmas.FaceSums as faces

two_times : (a b c d : ℕ) → a * c * d + b * c * d ≡ (a + b) * c * d
two_times a b c d = grind arith

two_middle : (a b c d : ℕ) → c * a * d + c * b * d ≡ c * (a + b) * d
two_middle a b c d = grind arith

two_last : (a b c d : ℕ) → c * d * a + c * d * b ≡ c * d * (a + b)
two_last a b c d = grind arith

module _ (n : ℕ) (b : BlockAt) where
  moved_coarse : (a : Axis) (o : Option ℕ) (c : CellAt) → b.level < c.level → share_at n b (moved a o c) ≡ 0
  unfolding share_at
  moved_coarse a None c h = refl
  moved_coarse X (Some x) c h = share_coarse n b _ h
  moved_coarse Y (Some x) c h = share_coarse n b _ h
  moved_coarse Z (Some x) c h = share_coarse n b _ h

  moved_x : (o : Option ℕ) (c : CellAt) (d : ℕ) → c.level ≤ b.level → b.level - c.level ≡ d → share_at n b (moved X o c) ≡ overlap_at (b.x * n) n d o * overlap (b.y * n) n d c.y * overlap (b.z * n) n d c.z
  unfolding share_at overlap_at
  moved_x None c d h e = omega arith
  moved_x (Some x) c d h e = share_fine n d b _ h e

  moved_y : (o : Option ℕ) (c : CellAt) (d : ℕ) → c.level ≤ b.level → b.level - c.level ≡ d → share_at n b (moved Y o c) ≡ overlap (b.x * n) n d c.x * overlap_at (b.y * n) n d o * overlap (b.z * n) n d c.z
  unfolding share_at overlap_at
  moved_y None c d h e = omega arith
  moved_y (Some x) c d h e = share_fine n d b _ h e

  moved_z : (o : Option ℕ) (c : CellAt) (d : ℕ) → c.level ≤ b.level → b.level - c.level ≡ d → share_at n b (moved Z o c) ≡ overlap (b.x * n) n d c.x * overlap (b.y * n) n d c.y * overlap_at (b.z * n) n d o
  unfolding share_at overlap_at
  moved_z None c d h e = omega arith
  moved_z (Some x) c d h e = share_fine n d b _ h e

  -- two cells apart on an axis share the block's cells
  share_two : (a : Axis) (o p : Option ℕ) (c : CellAt) → Apart o p → share_at n b (moved a o c) + share_at n b (moved a p c) ≤ n * n * n
  share_two a o p c h = elim (cases_lt b.level c.level) [
    | inl lt ↦ let s = moved_coarse a o c lt in let t = moved_coarse a p c lt in omega arith
    | inr le ↦ at a le
  ]
    where
      at : (axis : Axis) → c.level ≤ b.level → share_at n b (moved axis o c) + share_at n b (moved axis p c) ≤ n * n * n
      at X le = subst (λ u. u ≤ n * n * n) (sym (ap₂ (λ s t. s + t) (moved_x o c _ le refl) (moved_x p c _ le refl) ∙ two_times _ _ _ _)) (mul-le _ _ _ _ (mul-le _ _ _ _ (apart_le _ n _ o p h) (overlap_le _ n _ c.y)) (overlap_le _ n _ c.z))
      at Y le = subst (λ u. u ≤ n * n * n) (sym (ap₂ (λ s t. s + t) (moved_y o c _ le refl) (moved_y p c _ le refl) ∙ two_middle _ _ _ _)) (mul-le _ _ _ _ (mul-le _ _ _ _ (overlap_le _ n _ c.x) (apart_le _ n _ o p h)) (overlap_le _ n _ c.z))
      at Z le = subst (λ u. u ≤ n * n * n) (sym (ap₂ (λ s t. s + t) (moved_z o c _ le refl) (moved_z p c _ le refl) ∙ two_last _ _ _ _)) (mul-le _ _ _ _ (mul-le _ _ _ _ (overlap_le _ n _ c.x) (overlap_le _ n _ c.y)) (apart_le _ n _ o p h))

pub weight_more : (n : ℕ) (b : BlockAt) (bs : List BlockAt) (o : Option CellAt) → weight_at n (b ∷ bs) o ≡ share_at n b o + weight_at n bs o
unfolding weight_at share_at weight
weight_more n b bs None = refl
weight_more n b bs (Some c) = refl

pub weight_none : (n : ℕ) (o : Option CellAt) → weight_at n [] o ≡ 0
unfolding weight_at weight
weight_none n None = refl
weight_none n (Some c) = refl

pub one_row : (k m : ℕ) → suc k * m ≡ m + k * m
one_row k m = grind arith

weight_two : (n : ℕ) (bs : List BlockAt) (a : Axis) (o p : Option ℕ) (c : CellAt) → Apart o p → weight_at n bs (moved a o c) + weight_at n bs (moved a p c) ≤ length bs * (n * n * n)
weight_two n [] a o p c h = let s = weight_none n (moved a o c) in let t = weight_none n (moved a p c) in omega arith
weight_two n (b ∷ bs) a o p c h =
    let s = weight_more n b bs (moved a o c) in
    let t = weight_more n b bs (moved a p c) in
    let here = share_two n b a o p c h in
    let rest = weight_two n bs a o p c h in
    let row = one_row (length bs) (n * n * n) in
    omega arith

apart_above : (p : Bool) (e q r : ℕ) (o : Option ℕ) → 1 < e → suc r ≡ q → above p e q ≡ o → Apart (Some r) o
apart_above p e q r None h s eq = tt
apart_above p e q r (Some t) h s eq = λ same. elim (above_is p e q t eq) [
  | inl f ↦ let a = f.0 in absurd (omega arith)
  | inr f ↦ let a = f.0 in let b = f.1 in absurd (omega arith)
]

apart_wrap : (e : ℕ) (o : Option ℕ) → 1 < e → above true e 0 ≡ o → Apart (Some (e - 1)) o
apart_wrap e None h eq = tt
apart_wrap e (Some t) h eq = λ same. elim (above_is true e 0 t eq) [
  | inl f ↦ let a = f.0 in absurd (omega arith)
  | inr f ↦ let a = f.1 in absurd (omega arith)
]

-- the cells before and after a place are not one
pub apart_sides : (p : Bool) (e q : ℕ) → 1 < e → Apart (below p e q) (above p e q)
apart_sides true e zero h = apart_wrap e _ h refl
apart_sides false e zero h = tt
apart_sides p e (suc q) h = apart_above p e (suc q) q _ h refl refl

-- ---- faces

four_beside : (n : ℕ) (bs : List BlockAt) (a : Axis) (h : ℕ) → h < 2 → (o : Option CellAt) → total 4 (λ q. weight_at n bs (option_map (λ c. sub_cell c (octant_beside a h q)) o)) ≤ weight_at n bs o
unfolding weight_at
four_beside n bs a h l None = omega arith
four_beside n bs X zero l (Some c) = let all = weight_split n bs c in omega arith
four_beside n bs Y zero l (Some c) = let all = weight_split n bs c in omega arith
four_beside n bs Z zero l (Some c) = let all = weight_split n bs c in omega arith
four_beside n bs X (suc zero) l (Some c) = let all = weight_split n bs c in omega arith
four_beside n bs Y (suc zero) l (Some c) = let all = weight_split n bs c in omega arith
four_beside n bs Z (suc zero) l (Some c) = let all = weight_split n bs c in omega arith
four_beside n bs a (suc (suc h)) l (Some c) = absurd (omega arith)

total_same : (k : ℕ) (u w : ℕ → ℕ) → ((q : ℕ) → u q ≡ w q) → total k u ≡ total k w
total_same k u w h = λ i. total k (λ q. h q i)

module _ (g : Grid) (valid : Valid g) where
  unfoldable pub leaves_at : Option CellAt → ℕ
  leaves_at = weight_at g.shape.n g.leaves

  pub holds_leaf : (o : Option CellAt) → holds (is_leaf g) o ≡ true → 1 ≤ leaves_at o
  unfolding leaves_at weight_at
  holds_leaf None h = cc
  holds_leaf (Some c) h = weight_leaf g (cells_some valid.shape) c h

  pub wide_two : (a : Axis) (l : ℕ) → 1 < g.shape.n → 1 < extent g.shape a l
  wide_two a l h =
      let some = roots_pos g.shape valid.shape a in
      let cells = mul-le 1 2 (roots g.shape a) g.shape.n some h in
      let all = mul-le 2 1 (roots g.shape a * g.shape.n) (2 ^ l) cells (pow_pos l) in
      omega arith

  beside : FaceAt → ℕ
  beside f = leaves_at (low_cell g.shape f) + leaves_at (high_cell g.shape f)

  leaf_face_weight : (f : FaceAt) → is_leaf_face g f ≡ true → 1 ≤ beside f
  unfolding is_leaf_face beside
  leaf_face_weight f h = elim (either_true (holds (is_leaf g) (low_cell g.shape f)) (holds (is_leaf g) (high_cell g.shape f)) (and_left (holds (is_leaf g) (low_cell g.shape f) || holds (is_leaf g) (high_cell g.shape f)) (not (is_split_face g f)) h)) [
    | inl t ↦ let one = holds_leaf (low_cell g.shape f) t in omega arith
    | inr t ↦ let one = holds_leaf (high_cell g.shape f) t in omega arith
  ]

  sub_weight : (f : FaceAt) → total 4 (λ q. beside (sub_face f q)) ≤ beside f
  unfolding beside leaves_at
  sub_weight f =
      let low = total_same 4 (λ q. leaves_at (low_cell g.shape (sub_face f q))) (λ q. leaves_at (option_map (λ c. sub_cell c (octant_beside f.axis 1 q)) (low_cell g.shape f))) (λ q. ap leaves_at (low_cell_sub g.shape f q (wide_of g.shape valid.shape f.axis f.level))) in
      let high = total_same 4 (λ q. leaves_at (high_cell g.shape (sub_face f q))) (λ q. leaves_at (option_map (λ c. sub_cell c (octant_beside f.axis 0 q)) (high_cell g.shape f))) (λ q. ap leaves_at (high_cell_sub g.shape f q)) in
      let sum = total_add 4 (λ q. leaves_at (low_cell g.shape (sub_face f q))) (λ q. leaves_at (high_cell g.shape (sub_face f q))) in
      let four = four_beside g.shape.n g.leaves f.axis 1 (omega arith) (low_cell g.shape f) in
      let more = four_beside g.shape.n g.leaves f.axis 0 (omega arith) (high_cell g.shape f) in
      omega arith

  module _ (number : FaceAt → ℤ) (most : ℕ) (small : (f : FaceAt) → is_leaf_face g f ≡ true → Within most (number f)) where
    leaf_within : (f : FaceAt) → is_leaf_face g f ≡ true → Within (most * beside f) (number f)
    leaf_within f leaf =
        let one = mul-le-mul_left {m = 1} {n = beside f} most (leaf_face_weight f leaf) in
        let bound = small f leaf in
        omega arith

    kind_leaf : (f : FaceAt) → is_split_face g f ≡ false → (is_split_face g f ≡ true) ⊎ (is_leaf_face g f ≡ true) → is_leaf_face g f ≡ true
    kind_leaf f w (inl s) = cc
    kind_leaf f w (inr l) = l

    whole_within : (d : ℕ) (f : FaceAt) → is_split_face g f ≡ false → (is_split_face g f ≡ true) ⊎ (is_leaf_face g f ≡ true) → Within (most * beside f) (face_down g number d f)
    whole_within d f w kind = subst (λ z. Within (most * beside f) z) (sym (faces.down_whole g (tree g valid) (wide_of g.shape valid.shape) number d f w)) (leaf_within f (kind_leaf f w kind))

    kind_below : (f : FaceAt) (q : ℕ) → is_split_face g f ≡ true → (is_split_face g (sub_face f q) ≡ true) ⊎ (is_leaf_face g (sub_face f q) ≡ true)
    kind_below f q s = elim (cases_Bool (is_split_face g (sub_face f q))) [
      | inl t ↦ inl t
      | inr n ↦ inr (faces.leaf_sub_face g (tree g valid) (wide_of g.shape valid.shape) f q s n)
    ]

    down_within : (d : ℕ) (f : FaceAt) → 10 - f.level ≡ d → (is_split_face g f ≡ true) ⊎ (is_leaf_face g f ≡ true) → Within (most * beside f) (face_down g number d f)
    down_within zero f e kind = elim (cases_Bool (is_split_face g f)) [
      | inl s ↦ let deep = deep_face g valid f s in absurd (omega arith)
      | inr w ↦ whole_within zero f w kind
    ]
    down_within (suc d) f e kind = elim (cases_Bool (is_split_face g f)) [
      | inl s ↦
          let sum = sum_within 4 (λ q. face_down g number d (sub_face f q)) (λ q. most * beside (sub_face f q)) (λ q l. down_within d (sub_face f q) (omega arith) (kind_below f q s)) in
          let times = total_times 4 most (λ q. beside (sub_face f q)) in
          let all = mul-le-mul_left most (sub_weight f) in
          subst (λ z. Within (most * beside f) z) (sym (faces.down_split g (tree g valid) (wide_of g.shape valid.shape) number d f s)) (wider (sum_below 4 (λ q. face_down g number d (sub_face f q))) (total 4 (λ q. most * beside (sub_face f q))) _ sum (omega arith))
      | inr w ↦ whole_within (suc d) f w kind
    ]

    beside_le : 1 < g.shape.n → (f : FaceAt) → beside f ≤ length g.leaves * (g.shape.n * g.shape.n * g.shape.n)
    unfolding beside leaves_at
    beside_le h f = weight_two g.shape.n g.leaves f.axis _ _ (face_numbers f) (apart_sides (is_periodic g.shape f.axis) (extent g.shape f.axis f.level) (on f.axis (face_numbers f)) (wide_two f.axis f.level h))

    -- the view of a split face is at most the number of leaf cells times the greatest number
    pub split_face_within : 1 < g.shape.n → (f : FaceAt) → is_split_face g f ≡ true → Within (most * (length g.leaves * (g.shape.n * g.shape.n * g.shape.n))) (face_view g number f)
    split_face_within h f s =
        let bound = mul-le-mul_left most (beside_le h f) in
        subst (λ z. Within (most * (length g.leaves * (g.shape.n * g.shape.n * g.shape.n))) z) (sym (faces.view_split g (tree g valid) (wide_of g.shape valid.shape) number f s)) (wider (face_down g number (10 - f.level) f) (most * beside f) _ (down_within (10 - f.level) f refl (inl s)) bound)
