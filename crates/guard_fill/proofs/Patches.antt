-- Patches that get the views that belong there.
use Rattle.std.proofs.Common.{◌≡◌, ℕ, zero, suc, ◌+◌, ◌-◌, ◌*◌, ◌/◌, ◌%◌, ◌^◌, ◌<◌, ◌≤◌, false, List, ℤ, refl, sym, ap, ap₂, subst, ◌∙◌, arith, inl, inr}
use Rattle.std.proofs.lemmas.Bool.{cases_lt, lt-ltb, le-ltb}
use Rattle.amr_num.specs.declared.Axis.{Axis}
use Rattle.amr_num.specs.declared.Axis.TheVariants.{X, Y, Z}
use Rattle.amr_num.specs.declared.BlockAt.{BlockAt}
use Rattle.amr_num.specs.declared.CellAt.{CellAt}
use Rattle.mesh_model.specs.declared.geometry.Shape.{Shape}
use Rattle.mesh_model.specs.Fields.ArrayPlaces.{HoldsViews, IsInBox, IsWritten, cell_extents, number_at, side}
use Rattle.mesh_model.specs.Fields.Octants.{cells_of, parted}
use Rattle.mesh_model.specs.Fields.Ranks.{IsSized, WorldState}
use Rattle.mesh_model.specs.Fields.Views.{cell_view}
use Rattle.mesh_model.specs.Geometry.Blocks.{child_block}
use Rattle.mesh_model.specs.Geometry.Coordinates.{extent, is_periodic, roots}
use Rattle.mesh_model.specs.Geometry.Outside.{brought_in, cell_in, inside_cell}
use Rattle.mesh_model.specs.Geometry.Places.{guard_index, in_block}
use Rattle.mesh_model.specs.Tree.Kinds.{Grid, is_split_block}
use Rattle.mesh_model.specs.Tree.ValidGrid.{Valid}
use Rattle.mesh_model.proofs.FieldLemmas.BlockOctants.{parts_are_views}
use Rattle.rank_world.specs.Holding.{NodesHold}
use Rattle.guard_fill.specs.declared.strips.Patch.{Patch}
use Rattle.guard_fill.specs.declared.strips.Strip.{Strip}
use Rattle.guard_fill.specs.Filling.{IsFilled, IsPatched}
use Rattle.guard_fill.specs.Strips.{AreWithin, IsPatch, IsStrip, begin_of, block_of, box_of, cell_at, direction_at, from_cells, inner, many_of, side_at}

-- ---- the numbers of a block's cells, in the sizes of a world's blocks

module _ (g : Grid) (n e : ℕ) (content : CellAt → ℤ) (b : BlockAt) (xs : List ℤ) (sized : IsSized n e g.shape) (holds : HoldsViews g content b (cells_of g xs)) where
  pub views_at : (i j k : ℕ) → i < n → j < n → k < n → inner e (number_at (cell_extents n e) xs) i j k ≡ cell_view g content (in_block n b i j k)
  views_at =
      let at : ℕ → ℕ → Type 0 = λ m d. (i j k : ℕ) → i < m → j < m → k < m → inner d (number_at (cell_extents m d) xs) i j k ≡ cell_view g content (in_block m b i j k) in
      subst (λ m. at m e) sized.cells (subst (λ d. at g.shape.n d) sized.guards holds.at)

  pub parts_at : (q : ℕ) → Valid g → q < 8 → is_split_block g b ≡ false → (i j k : ℕ) → i < n → j < n → k < n →
      parted n e q (number_at (cell_extents n e) xs) i j k ≡ cell_view g content (in_block n (child_block b q) i j k)
  parts_at q valid hq whole =
      let at : ℕ → ℕ → Type 0 = λ m d. (i j k : ℕ) → i < m → j < m → k < m → parted m d q (number_at (cell_extents m d) xs) i j k ≡ cell_view g content (in_block m (child_block b q) i j k) in
      subst (λ m. at m e) sized.cells (subst (λ d. at g.shape.n d) sized.guards (parts_are_views g content b q (cells_of g xs) valid hq whole holds))

-- a patch that was written from a block's views
pub patched : (n e : ℕ) (w : WorldState) (v level : ℕ) (p : Patch) (cells : ℕ → ℕ → ℕ → ℤ) (old new : List ℤ) → AreWithin n e p →
    IsWritten (cell_extents n e) (box_of p) (from_cells p cells) old new →
    ((content : CellAt → ℤ) → NodesHold w v content → (i j k : ℕ) → i < n → j < n → k < n → cells i j k ≡ cell_view w.told.grid content (in_block n (block_of level p) i j k)) →
    IsPatched n e w v level p old new
patched n e w v level p cells old new within is views = record {
  size = is.size;
  stays = is.stays;
  views = λ content holds i j k hi hj hk. is.written i j k hi hj hk ∙ views content holds (cell_at p.x i) (cell_at p.y j) (cell_at p.z k) (within.x.cells i hi) (within.y.cells j hj) (within.z.cells k hk);
}

-- ---- directions of places

-- a place is one of its direction's
pub place_of_side : (n g d i : ℕ) → i < side n g → side_at n g i ≡ d → (begin_of n g d ≤ i) × (i < begin_of n g d + many_of n g d)
place_of_side n g d i h is = elim (cases_lt i g) [
  | inl low ↦
      let zero_is : side_at n g i ≡ 0 = (let test = lt-ltb i g low in rw test refl) in
      subst (λ u. (begin_of n g u ≤ i) × (i < begin_of n g u + many_of n g u)) (sym zero_is ∙ is) (omega arith, omega arith)
  | inr some ↦ elim (cases_lt i (g + n)) [
    | inl within ↦
        let one_is : side_at n g i ≡ 1 = (let first = le-ltb i g some in let second = lt-ltb i (g + n) within in rw (first, second) refl) in
        subst (λ u. (begin_of n g u ≤ i) × (i < begin_of n g u + many_of n g u)) (sym one_is ∙ is) (omega arith, omega arith)
    | inr past ↦
        let two_is : side_at n g i ≡ 2 = (let first = le-ltb i g some in let second = le-ltb i (g + n) past in rw (first, second) refl) in
        subst (λ u. (begin_of n g u ≤ i) × (i < begin_of n g u + many_of n g u)) (sym two_is ∙ is) (omega arith, omega arith)
  ]
]

-- and one of a direction's places lies in it
pub side_of_place : (n g d i : ℕ) → d < 3 → begin_of n g d ≤ i → i < begin_of n g d + many_of n g d → side_at n g i ≡ d
side_of_place n g zero i h low high = let test = lt-ltb i g (omega arith) in rw test refl
side_of_place n g (suc zero) i h low high = let first = le-ltb i g low in let second = lt-ltb i (g + n) high in rw (first, second) refl
side_of_place n g (suc (suc zero)) i h low high = let first = le-ltb i g (omega arith) in let second = le-ltb i (g + n) low in rw (first, second) refl
side_of_place n g (suc (suc (suc d))) i h low high = absurd (omega arith)

pub side_few : (n g i : ℕ) → side_at n g i < 3
side_few n g i = elim (cases_lt i g) [
  | inl low ↦ let zero_is : side_at n g i ≡ 0 = (let test = lt-ltb i g low in rw test refl) in omega arith
  | inr some ↦ elim (cases_lt i (g + n)) [
    | inl within ↦ let one_is : side_at n g i ≡ 1 = (let first = le-ltb i g some in let second = lt-ltb i (g + n) within in rw (first, second) refl) in omega arith
    | inr past ↦ let two_is : side_at n g i ≡ 2 = (let first = le-ltb i g some in let second = le-ltb i (g + n) past in rw (first, second) refl) in omega arith
  ]
]

three_digits : (a b c d : ℕ) → a < 3 → b < 3 → c < 3 → a + 3 * b + 9 * c ≡ d → (a ≡ d % 3) × (b ≡ d / 3 % 3) × (c ≡ d / 9)
three_digits a b c d ha hb hc is = (omega arith, omega arith, omega arith)

pub sides_of_direction : (n g i j k d : ℕ) → direction_at n g i j k ≡ d → (side_at n g i ≡ d % 3) × (side_at n g j ≡ d / 3 % 3) × (side_at n g k ≡ d / 9)
sides_of_direction n g i j k d is = three_digits (side_at n g i) (side_at n g j) (side_at n g k) d (side_few n g i) (side_few n g j) (side_few n g k) is

pub direction_few : (n g i j k : ℕ) → direction_at n g i j k < 27
direction_few n g i j k = let a = side_few n g i in let b = side_few n g j in let c = side_few n g k in omega arith

-- ---- what stands for a place

-- on an axis
pub turn_over : (r m l : ℕ) → r * 2 ^ l * m ≡ r * m * 2 ^ l
turn_over r m l = grind arith

pub stands : (s : Shape) (a : Axis) (n e l b d t : ℕ) (st : Strip) → s.n ≡ n → IsStrip n e (is_periodic s a) (roots s a * 2 ^ l) b d st → t < st.many →
    cell_in s a l (guard_index n e b (st.to + t)) ≡ n * st.block + cell_at st t
stands s a n e l b d t st same is h =
    let all : extent s a l ≡ roots s a * 2 ^ l * n = ap (λ m. roots s a * m * 2 ^ l) same ∙ sym (turn_over (roots s a) n l) in
    ap (λ m. brought_in (is_periodic s a) m (m - 1) (guard_index n e b (st.to + t))) all ∙ is.stand t h

-- ---- a patch in its direction

module _ (n e d : ℕ) (w : WorldState) (v : ℕ) (b : BlockAt) (p : Patch) (old new : List ℤ) (few : d < 27) (sized : IsSized n e w.told.grid.shape)
    (is : IsPatch n e w.told.grid.shape b d p) (done : IsPatched n e w v b.level p old new) where
  -- a place of the box lies in the direction
  in_direction : (i j k : ℕ) → IsInBox (box_of p) i j k → direction_at n e i j k ≡ d
  in_direction i j k inside =
      let x = side_of_place n e (d % 3) i (omega arith) (let l = inside.x.0 in let t = is.x.to in omega arith) (let l = inside.x.1 in let t = is.x.to in let m = is.x.many in omega arith) in
      let y = side_of_place n e (d / 3 % 3) j (omega arith) (let l = inside.y.0 in let t = is.y.to in omega arith) (let l = inside.y.1 in let t = is.y.to in let m = is.y.many in omega arith) in
      let z = side_of_place n e (d / 9) k (omega arith) (let l = inside.z.0 in let t = is.z.to in omega arith) (let l = inside.z.1 in let t = is.z.to in let m = is.z.many in omega arith) in
      let sum : side_at n e i + 3 * side_at n e j + 9 * side_at n e k ≡ d % 3 + 3 * (d / 3 % 3) + 9 * (d / 9) = ap₂ (λ u w. u + 3 * w + 9 * side_at n e k) x y ∙ ap (λ u. d % 3 + 3 * (d / 3 % 3) + 9 * u) z in
      sum ∙ omega arith

  pub filled : IsFilled n e w v b d old new
  filled = record {
    size = done.size;
    stays = λ i j k hi hj hk off. done.stays i j k hi hj hk (λ inside. off (in_direction i j k inside));
    guards = λ content holds i j k hi hj hk here.
        let sides = sides_of_direction n e i j k d here in
        let x = place_of_side n e (d % 3) i hi sides.0 in
        let y = place_of_side n e (d / 3 % 3) j hj sides.1 in
        let z = place_of_side n e (d / 9) k hk sides.2 in
        let tx = i - p.x.to in
        let ty = j - p.y.to in
        let tz = k - p.z.to in
        let lx : tx < p.x.many = (let t = is.x.to in let m = is.x.many in omega arith) in
        let ly : ty < p.y.many = (let t = is.y.to in let m = is.y.many in omega arith) in
        let lz : tz < p.z.many = (let t = is.z.to in let m = is.z.many in omega arith) in
        let ex : p.x.to + tx ≡ i = (let t = is.x.to in omega arith) in
        let ey : p.y.to + ty ≡ j = (let t = is.y.to in omega arith) in
        let ez : p.z.to + tz ≡ k = (let t = is.z.to in omega arith) in
        let s = w.told.grid.shape in
        let sx = ap (λ u. cell_in s X b.level (guard_index n e b.x u)) (sym ex) ∙ stands s X n e b.level b.x (d % 3) tx p.x sized.cells is.x lx in
        let sy = ap (λ u. cell_in s Y b.level (guard_index n e b.y u)) (sym ey) ∙ stands s Y n e b.level b.y (d / 3 % 3) ty p.y sized.cells is.y ly in
        let sz = ap (λ u. cell_in s Z b.level (guard_index n e b.z u)) (sym ez) ∙ stands s Z n e b.level b.z (d / 9) tz p.z sized.cells is.z lz in
        let there : inside_cell s b.level (guard_index n e b.x i) (guard_index n e b.y j) (guard_index n e b.z k) ≡ in_block n (block_of b.level p) (cell_at p.x tx) (cell_at p.y ty) (cell_at p.z tz) =
        (λ t. record { level = b.level; x = sx t; y = sy t; z = sz t }) in
        ap (λ u. number_at (cell_extents n e) new u j k) (sym ex) ∙ ap₂ (λ u r. number_at (cell_extents n e) new (p.x.to + tx) u r) (sym ey) (sym ez)
        ∙ done.views content holds tx ty tz lx ly lz ∙ ap (cell_view w.told.grid content) (sym there);
  }
