-- Blocks that hold views, after cells were summed into them or parted among them.
use Rattle.amr_num.proofs.Sizes.{sum_within}
use Rattle.std.proofs.Common.{◌≡◌, ◌≢◌, ℕ, suc, ◌+◌, ◌-◌, ◌*◌, ◌/◌, ◌%◌, ◌<◌, ◌⊎◌, List, ℤ, false, sym, ap, ap₂, ◌∙◌, arith, ◌≤◌, ◌^◌, subst}
use Rattle.amr_num.specs.declared.BlockAt.{BlockAt}
use Rattle.amr_num.specs.declared.CellAt.{CellAt}
use Rattle.amr_num.specs.Numbers.{part, Within}
use Rattle.amr_num.proofs.Parts.{sum_below_same}
use Rattle.mesh_model.specs.Geometry.Blocks.{child_block}
use Rattle.mesh_model.specs.Geometry.Coordinates.{octant_of, parent_cell, sub_cell}
use Rattle.mesh_model.specs.Tree.Kinds.{Grid, block_of, is_split, is_split_block}
use Rattle.mesh_model.specs.Geometry.Places.{in_block}
use Rattle.mesh_model.specs.Tree.ValidGrid.{Valid}
use Rattle.mesh_model.specs.Fields.Views.{cell_view, view_at}
use Rattle.mesh_model.proofs.FieldLemmas.CellSums.{TreeLike, at_inner, cell_view_sum, parent_of_sub, octant_of_sub}
use Rattle.mesh_model.proofs.FieldLemmas.ValidGrid.{tree}
use Rattle.mesh_model.specs.declared.geometry.Shape.{Shape}
use Rattle.mesh_model.specs.Fields.Ranks.{IsSized}
use Rattle.mesh_model.specs.Fields.ArrayPlaces.{HoldsViews, IsInBox, side, Fits, IsSize, cell_extents, number_at}
use Rattle.mesh_model.specs.Fields.Octants.{IsRestricted, IsSplit, OctantHolds, cells_of, eight, half_at, octant_box, parted, SumsAreSmall}
use Rattle.mesh_model.proofs.GeometryLemmas.Halves.{half_below, half_of, halved, in_half, pair_inside, rest_below, same_half, two_halves, by_size}
use Rattle.mesh_model.proofs.FieldLemmas.BlockPlaces.{above_digit}

-- ---- cells

-- a coordinate of a child's cell, by the parent's cell in which it lies
coordinate : (n x r i d : ℕ) → (n ≡ 4) ⊎ (n ≡ 8) → n * (2 * x + r) + (2 * i + d) ≡ 2 * (n * x + (n / 2 * r + i)) + d
coordinate n x r i d size = let two = two_halves n r size in omega arith

-- the cells of a child are sub-cells of its parent's
pub cell_of_child : (n : ℕ) (b : BlockAt) (q i j k o : ℕ) → (n ≡ 4) ⊎ (n ≡ 8) →
    in_block n (child_block b q) (2 * i + o % 2) (2 * j + o / 2 % 2) (2 * k + o / 4 % 2)
    ≡ sub_cell (in_block n b (n / 2 * (q % 2) + i) (n / 2 * (q / 2 % 2) + j) (n / 2 * (q / 4 % 2) + k)) o
cell_of_child n b q i j k o size =
    let x = coordinate n b.x (q % 2) i (o % 2) size in
    let y = coordinate n b.y (q / 2 % 2) j (o / 2 % 2) size in
    let z = coordinate n b.z (q / 4 % 2) k (o / 4 % 2) size in
    λ t. record { level = suc b.level; x = x t; y = y t; z = z t }

-- the block of a block's cell
pub block_of_cell : (n : ℕ) (b : BlockAt) (i j k : ℕ) → i < n → j < n → k < n → block_of n (in_block n b i j k) ≡ b
block_of_cell n b i j k hi hj hk =
    let at : (x u : ℕ) → u < n → (n * x + u) / n ≡ x = λ x u h. (let turned : n * x + u ≡ u + n * x = omega arith in ap (λ m. m / n) turned ∙ above_digit u n x h) in
    let x = at b.x i hi in
    let y = at b.y j hj in
    let z = at b.z k hk in
    λ t. record { level = b.level; x = x t; y = y t; z = z t }

-- ---- sums

module _ (g : Grid) (content : CellAt → ℤ) (b : BlockAt) (valid : Valid g) where
  -- eight cells of a child that holds views make the view of the cell round them
  pub eight_view : (q : ℕ) (child : ℕ → ℕ → ℕ → ℤ) → HoldsViews g content (child_block b q) child → (i j k : ℕ) → i < g.shape.n / 2 → j < g.shape.n / 2 → k < g.shape.n / 2 →
      eight child (g.shape.g + 2 * i) (g.shape.g + 2 * j) (g.shape.g + 2 * k)
      ≡ cell_view g content (in_block g.shape.n b (half_at g.shape.n q + i) (half_at g.shape.n (q / 2) + j) (half_at g.shape.n (q / 4) + k))
  unfolding eight
  eight_view q child views i j k hi hj hk =
      let n = g.shape.n in
      let e = g.shape.g in
      let size = valid.shape.cells in
      let c = in_block n b (half_at n q + i) (half_at n (q / 2) + j) (half_at n (q / 4) + k) in
      let each : (o : ℕ) → o < 8 → child (e + 2 * i + o % 2) (e + 2 * j + o / 2 % 2) (e + 2 * k + o / 4 % 2) ≡ cell_view g content (sub_cell c o) = λ o ho.
      let there =
      views.at (2 * i + o % 2) (2 * j + o / 2 % 2) (2 * k + o / 4 % 2) (pair_inside n i (o % 2) size hi (omega arith)) (pair_inside n j (o / 2 % 2) size hj (omega arith))
      (pair_inside n k (o / 4 % 2) size hk (omega arith)) in
      let x : e + 2 * i + o % 2 ≡ e + (2 * i + o % 2) = omega arith in
      let y : e + 2 * j + o / 2 % 2 ≡ e + (2 * j + o / 2 % 2) = omega arith in
      let z : e + 2 * k + o / 4 % 2 ≡ e + (2 * k + o / 4 % 2) = omega arith in
      ap (λ u. child u (e + 2 * j + o / 2 % 2) (e + 2 * k + o / 4 % 2)) x ∙ ap₂ (λ v w. child (e + (2 * i + o % 2)) v w) y z
      ∙ there ∙ ap (cell_view g content) (cell_of_child n b q i j k o size) in
      sum_below_same 8 (λ o. child (e + 2 * i + o % 2) (e + 2 * j + o / 2 % 2) (e + 2 * k + o / 4 % 2)) (λ o. cell_view g content (sub_cell c o)) each
      ∙ sym (cell_view_sum g content (tree g valid) c)

  -- an octant that was set to the sums of the child's views holds views
  pub octant_summed : (q : ℕ) (child old new : List ℤ) → IsRestricted g.shape.n g.shape.g q child old new → HoldsViews g content (child_block b q) (cells_of g child) →
      OctantHolds g content b q (cells_of g new)
  octant_summed q child old new sums views = record { at = λ i j k hi hj hk. sums.written i j k hi hj hk ∙ eight_view q (cells_of g child) views i j k hi hj hk }

  -- the other octants stay
  pub other_octant : (q p : ℕ) (child old new : List ℤ) → q < 8 → p < 8 → p ≢ q → IsRestricted g.shape.n g.shape.g q child old new →
      OctantHolds g content b p (cells_of g old) → OctantHolds g content b p (cells_of g new)
  other_octant q p child old new hq hp ne sums there =
      let n = g.shape.n in
      let e = g.shape.g in
      let size = valid.shape.cells in
      let inside : (r u : ℕ) → u < n / 2 → e + half_at n r + u < side n e = λ r u lu. (let within = in_half n (r % 2) u size (omega arith) lu in omega arith) in
      record {
        at = λ i j k hi hj hk.
            let x = e + half_at n p + i in
            let y = e + half_at n (p / 2) + j in
            let z = e + half_at n (p / 4) + k in
            let beyond : IsInBox (octant_box n e q) x y z → ⊥ = λ is.
            let bx = same_half n (p % 2) i (q % 2) (x - (e + half_at n q)) size hi (let l = is.x in omega arith) (let l = is.x in omega arith) in
            let by = same_half n (p / 2 % 2) j (q / 2 % 2) (y - (e + half_at n (q / 2))) size hj (let l = is.y in omega arith) (let l = is.y in omega arith) in
            let bz = same_half n (p / 4 % 2) k (q / 4 % 2) (z - (e + half_at n (q / 4))) size hk (let l = is.z in omega arith) (let l = is.z in omega arith) in
            ne (omega arith) in
            sums.stays x y z (inside p i hi) (inside (p / 2) j hj) (inside (p / 4) k hk) beyond ∙ there.at i j k hi hj hk;
      }

-- a block whose octants all hold views holds views
pub octants_make : (g : Grid) (content : CellAt → ℤ) (b : BlockAt) → (g.shape.n ≡ 4) ⊎ (g.shape.n ≡ 8) → (numbers : ℕ → ℕ → ℕ → ℤ) →
    ((q : ℕ) → q < 8 → OctantHolds g content b q numbers) → HoldsViews g content b numbers
octants_make g content b size numbers octants =
    let n = g.shape.n in
    let e = g.shape.g in
    record {
      at = λ i j k hi hj hk.
          let h = n / 2 in
          let rx = half_below n i size hi in
          let ry = half_below n j size hj in
          let rz = half_below n k size hk in
          let q = i / h + 2 * (j / h) + 4 * (k / h) in
          let qx : q % 2 ≡ i / h = omega arith in
          let qy : q / 2 % 2 ≡ j / h = omega arith in
          let qz : q / 4 % 2 ≡ k / h = omega arith in
          let x : h * (q % 2) + i % h ≡ i = ap (λ r. h * r + i % h) qx ∙ halved n i size in
          let y : h * (q / 2 % 2) + j % h ≡ j = ap (λ r. h * r + j % h) qy ∙ halved n j size in
          let z : h * (q / 4 % 2) + k % h ≡ k = ap (λ r. h * r + k % h) qz ∙ halved n k size in
          let there = (octants q (omega arith)).at (i % h) (j % h) (k % h) (rest_below n i size) (rest_below n j size) (rest_below n k size) in
          let ex : e + h * (q % 2) + i % h ≡ e + i = omega arith in
          let ey : e + h * (q / 2 % 2) + j % h ≡ e + j = omega arith in
          let ez : e + h * (q / 4 % 2) + k % h ≡ e + k = omega arith in
          sym (ap (λ u. numbers u (e + h * (q / 2 % 2) + j % h) (e + h * (q / 4 % 2) + k % h)) ex ∙ ap₂ (λ v w. numbers (e + i) v w) ey ez)
          ∙ there
          ∙ ap (λ u. cell_view g content (in_block n b u (h * (q / 2 % 2) + j % h) (h * (q / 4 % 2) + k % h))) x
          ∙ ap₂ (λ v w. cell_view g content (in_block n b i v w)) y z;
    }

-- ---- parts

-- a cell that is not split parts its view among its sub-cells
pub view_parted : (g : Grid) (content : CellAt → ℤ) (c : CellAt) (o : ℕ) → TreeLike g → o < 8 → is_split g c ≡ false → part o (cell_view g content c) 8 ≡ cell_view g content (sub_cell c o)
view_parted g content c o like h whole =
    sym (at_inner g content c.level (sub_cell c o) (like.below_whole c o whole) (like.below_whole_leaf c o whole)
    ∙ ap₂ (λ r d. part r (view_at g content c.level d) 8) (octant_of_sub c o h) (parent_of_sub c o))

-- in a block that is not split and holds views, the parts of its cells are the views of its child's cells
pub parts_are_views : (g : Grid) (content : CellAt → ℤ) (b : BlockAt) (q : ℕ) (parent : ℕ → ℕ → ℕ → ℤ) → Valid g → q < 8 → is_split_block g b ≡ false →
    HoldsViews g content b parent → (i j k : ℕ) → i < g.shape.n → j < g.shape.n → k < g.shape.n →
    parted g.shape.n g.shape.g q parent i j k ≡ cell_view g content (in_block g.shape.n (child_block b q) i j k)
unfolding parted
parts_are_views g content b q parent valid hq whole views i j k hi hj hk =
    let n = g.shape.n in
    let e = g.shape.g in
    let size = valid.shape.cells in
    let o = i % 2 + 2 * (j % 2) + 4 * (k % 2) in
    let u = half_at n q + i / 2 in
    let v = half_at n (q / 2) + j / 2 in
    let w = half_at n (q / 4) + k / 2 in
    let hu = in_half n (q % 2) (i / 2) size (omega arith) (half_of n i size hi) in
    let hv = in_half n (q / 2 % 2) (j / 2) size (omega arith) (half_of n j size hj) in
    let hw = in_half n (q / 4 % 2) (k / 2) size (omega arith) (half_of n k size hk) in
    let c = in_block n b u v w in
    let not_split : is_split g c ≡ false = ap (is_split_block g) (block_of_cell n b u v w hu hv hw) ∙ whole in
    let x : e + half_at n q + i / 2 ≡ e + u = omega arith in
    let y : e + half_at n (q / 2) + j / 2 ≡ e + v = omega arith in
    let z : e + half_at n (q / 4) + k / 2 ≡ e + w = omega arith in
    let there =
    ap (λ l. parent l (e + half_at n (q / 2) + j / 2) (e + half_at n (q / 4) + k / 2)) x ∙ ap₂ (λ l m. parent (e + u) l m) y z ∙ views.at u v w hu hv hw in
    let ox : 2 * (i / 2) + o % 2 ≡ i = omega arith in
    let oy : 2 * (j / 2) + o / 2 % 2 ≡ j = omega arith in
    let oz : 2 * (k / 2) + o / 4 % 2 ≡ k = omega arith in
    ap (λ m. part o m 8) there ∙ view_parted g content c o (tree g valid) (omega arith) not_split
    ∙ ap (cell_view g content) (sym (cell_of_child n b q (i / 2) (j / 2) (k / 2) o size))
    ∙ ap (λ l. cell_view g content (in_block n (child_block b q) l (2 * (j / 2) + o / 2 % 2) (2 * (k / 2) + o / 4 % 2))) ox
    ∙ ap₂ (λ l m. cell_view g content (in_block n (child_block b q) i l m)) oy oz

-- a child whose cells were given these parts holds views
pub child_parted : (g : Grid) (content : CellAt → ℤ) (b : BlockAt) (q : ℕ) (parent old new : List ℤ) → Valid g → q < 8 → is_split_block g b ≡ false →
    IsSplit g.shape.n g.shape.g q parent old new → HoldsViews g content b (cells_of g parent) → HoldsViews g content (child_block b q) (cells_of g new)
child_parted g content b q parent old new valid hq whole parts views = record {
  at = λ i j k hi hj hk. parts.written i j k hi hj hk ∙ parts_are_views g content b q (cells_of g parent) valid hq whole views i j k hi hj hk;
}

-- an octant lies within the array
pub octant_fits : (n g q : ℕ) → IsSize n g → Fits (cell_extents n g) (octant_box n g q)
octant_fits n g q size = record { x = fits q; y = fits (q / 2); z = fits (q / 4) }
  where
    fits : (r : ℕ) → g + half_at n r + n / 2 ≤ side n g
    fits r = by_size (λ m. g + m / 2 * (r % 2) + m / 2 ≤ m + 2 * g) n size.cells (omega arith) (omega arith)

-- sums of numbers in range are small enough
pub small_sums : (n g : ℕ) (numbers : ℕ → ℕ → ℕ → ℤ) → (n ≡ 4) ⊎ (n ≡ 8) → ((i j k : ℕ) → i < n → j < n → k < n → Within (2 ^ 40) (numbers (g + i) (g + j) (g + k))) → SumsAreSmall n g numbers
unfolding eight
small_sums n g numbers size small i j k hi hj hk =
    let each : (o : ℕ) → o < 8 → Within (2 ^ 40) (numbers (g + 2 * i + o % 2) (g + 2 * j + o / 2 % 2) (g + 2 * k + o / 4 % 2)) = λ o h.
    (let here = small (2 * i + o % 2) (2 * j + o / 2 % 2) (2 * k + o / 4 % 2) (pair_inside n i (o % 2) size hi (omega arith)) (pair_inside n j (o / 2 % 2) size hj (omega arith)) (pair_inside n k (o / 4 % 2) size hk (omega arith)) in
    let x : g + (2 * i + o % 2) ≡ g + 2 * i + o % 2 = omega arith in
    let y : g + (2 * j + o / 2 % 2) ≡ g + 2 * j + o / 2 % 2 = omega arith in
    let z : g + (2 * k + o / 4 % 2) ≡ g + 2 * k + o / 4 % 2 = omega arith in
    subst (λ a. Within (2 ^ 40) (numbers a (g + 2 * j + o / 2 % 2) (g + 2 * k + o / 4 % 2))) x
    (subst (λ b. Within (2 ^ 40) (numbers (g + (2 * i + o % 2)) b (g + 2 * k + o / 4 % 2))) y (subst (λ c. Within (2 ^ 40) (numbers (g + (2 * i + o % 2)) (g + (2 * j + o / 2 % 2)) c)) z here))) in
    let all = sum_within 8 (2 ^ 40) (λ o. numbers (g + 2 * i + o % 2) (g + 2 * j + o / 2 % 2) (g + 2 * k + o / 4 % 2)) each in
    omega arith

-- sums in the sizes of a world's blocks and in the grid's
pub restricted_sized : (n e q : ℕ) (s : Shape) (child old new : List ℤ) → IsSized n e s → IsRestricted n e q child old new → IsRestricted s.n s.g q child old new
restricted_sized n e q s child old new sized is =
    subst (λ m. IsRestricted m s.g q child old new) (sym sized.cells) (subst (λ m. IsRestricted n m q child old new) (sym sized.guards) is)

pub few_sized : (n e : ℕ) (s : Shape) (child : List ℤ) → IsSized n e s → SumsAreSmall s.n s.g (number_at (cell_extents s.n s.g) child) → SumsAreSmall n e (number_at (cell_extents n e) child)
few_sized n e s child sized few =
    subst (λ m. SumsAreSmall m e (number_at (cell_extents m e) child)) sized.cells (subst (λ m. SumsAreSmall s.n m (number_at (cell_extents s.n m) child)) sized.guards few)
