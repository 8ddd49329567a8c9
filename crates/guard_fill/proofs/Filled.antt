-- Worlds whose leaves are filled one after the other.
use Rattle.std.proofs.Common.{◌≡◌, ◌≢◌, ℕ, ◌+◌, ◌*◌, ◌/◌, ◌%◌, ◌<◌, ◌⊎◌, ◌&&◌, ◌||◌, ◌==◌, Bool, true, false, List, ℤ, refl, sym, ap, subst, ◌∙◌, arith, inl, inr, below_more, eq-eqb}
use Rattle.std.proofs.lemmas.Bool.{cases_Bool, cases_order}
use Rattle.amr_num.specs.declared.CellAt.{CellAt}
use Rattle.mesh_model.specs.declared.fields.values.Var.TheVariants.{Cell}
use Rattle.mesh_model.specs.Fields.ArrayPlaces.{HoldsViews, cell_extents, number_at, side}
use Rattle.mesh_model.specs.Fields.Octants.{cells_of}
use Rattle.mesh_model.specs.Fields.Plain.{Mesh}
use Rattle.mesh_model.specs.Fields.Ranks.{IsSized, OnlyOf, Told, WorldState}
use Rattle.mesh_model.specs.Tree.Kinds.{is_leaf_block}
use Rattle.block_tree.specs.Numbered.{IsNode, block_at}
use Rattle.rank_world.specs.Holding.{IsLeafNode, IsOfMesh, LeavesHold, NodeHolds, NodesHold, cell_array, numbers_of}
use Rattle.rank_world.proofs.Meshes.{cells_keep_mesh}
use Rattle.guard_fill.specs.Filling.{HoldsAsked, IsGathered, IsOwn, IsStraight, LeavesAsked, LeavesGuarded, LeavesSided, NodeAsked, OnlyGuards, guard_at, is_asked, is_straight}
use Rattle.guard_fill.specs.Strips.{direction_at, side_at}
use Rattle.guard_fill.specs.declared.filling.Guards.{Guards}
use Rattle.guard_fill.specs.declared.filling.Guards.TheVariants.{All, AcrossSides}
use Rattle.guard_fill.proofs.Gathering.{gathered_all}
use Rattle.guard_fill.proofs.Patches.{side_few, side_of_place}
use Rattle.mesh_model.specs.declared.geometry.Shape.{Shape}
use Rattle.guard_fill.proofs.Restricted.{cells_step, node_along}

-- ---- what fills leave

pub none_filled : (a : WorldState) (v : ℕ) → OnlyGuards a a v
none_filled a v = record { only = record { told = refl; others = λ u k ne. refl }; others = λ k none. refl; cells = λ k i j l leaf hi hj hl. refl }

-- a leaf that holds a field's views holds them after a fill, and so does each node
module _ (a b : WorldState) (v : ℕ) (content : CellAt → ℤ) (only : OnlyGuards a b v) where
  leaf_keeps : (node : ℕ) → IsLeafNode a.told.grid node → NodeHolds a v content node → NodeHolds b v content node
  leaf_keeps node leaf holds =
      let here : HoldsViews a.told.grid content (block_at a.told.grid node) (cells_of a.told.grid (cell_array b v node)) = record {
        at = λ i j k hi hj hk.
            only.cells node i j k leaf hi hj hk ∙ holds.at i j k hi hj hk;
      } in
      subst (λ (t : Told). HoldsViews t.grid content (block_at t.grid node) (cells_of t.grid (cell_array b v node))) (sym only.only.told) here

  pub leaves_keep : LeavesHold a v content → LeavesHold b v content
  leaves_keep holds node leaf =
      let was : IsLeafNode a.told.grid node = subst (λ (t : Told). IsLeafNode t.grid node) only.only.told leaf in
      leaf_keeps node was (holds node was)

  pub nodes_keep : NodesHold a v content → NodesHold b v content
  nodes_keep holds node there =
      let was : IsNode a.told.grid node = subst (λ (t : Told). IsNode t.grid node) only.only.told there in
      elim (cases_Bool (is_leaf_block a.told.grid (block_at a.told.grid node))) [
        | inl leaf ↦ leaf_keeps node (record { there = was; leaf = leaf }) (holds node was)
        | inr inner ↦ node_along a b v content node only.only.told (only.others node (λ leaf. (let yes = leaf.leaf in cc))) (holds node was)
      ]

-- ---- one more leaf

-- what was gathered, in the sizes of the grid
module _ (n e : ℕ) (asked : Guards) (w : WorldState) (v node : ℕ) (xs : List ℤ) (sized : IsSized n e w.told.grid.shape) (all : IsGathered n e asked w v node xs) where
  gathered_cells : (i j k : ℕ) → let s = w.told.grid.shape in i < s.n → j < s.n → k < s.n → cells_of w.told.grid xs (s.g + i) (s.g + j) (s.g + k) ≡ numbers_of w v node (s.g + i) (s.g + j) (s.g + k)
  gathered_cells =
      let at : ℕ → ℕ → Type 0 = λ m d. (i j k : ℕ) → i < m → j < m → k < m → number_at (cell_extents m d) xs (d + i) (d + j) (d + k) ≡ number_at (cell_extents m d) (cell_array w v node) (d + i) (d + j) (d + k) in
      subst (λ m. at m w.told.grid.shape.g) (sym sized.cells) (subst (λ d. at n d) (sym sized.guards) all.cells)

  gathered_guards : (content : CellAt → ℤ) → NodesHold w v content → HoldsAsked asked w.told.grid content (block_at w.told.grid node) (cells_of w.told.grid xs)
  gathered_guards content holds =
      let g = w.told.grid in
      let at : ℕ → ℕ → Type 0 = λ m d. (i j k : ℕ) → i < side m d → j < side m d → k < side m d → is_asked asked (direction_at m d i j k) ≡ true → number_at (cell_extents m d) xs i j k ≡ guard_at m d g content (block_at g node) i j k in
      record { at = subst (λ m. at m g.shape.g) (sym sized.cells) (subst (λ d. at n d) (sym sized.guards) (gathered_all n e asked w v node xs all content holds)) }

module _ (n e : ℕ) (asked : Guards) (now mid new : WorldState) (v node : ℕ) (sized : IsSized n e mid.told.grid.shape) (only : OnlyGuards now mid v) (here : OnlyOf mid new 0 (Cell v) node)
    (leaf : IsLeafNode now.told.grid node) (all : IsGathered n e asked mid v node (cell_array new v node)) where
  still : (k : ℕ) → k ≢ node → cell_array new v k ≡ cell_array mid v k
  still k ne = here.here.others (Cell v) k (λ u is. ne is)

  pub one_filled : OnlyGuards now new v
  one_filled = record {
    only = cells_step now mid new v node only.only here;
    others = λ k none. still k (λ is. none (subst (IsLeafNode now.told.grid) (sym is) leaf)) ∙ only.others k none;
    cells = λ k i j l leaf_k hi hj hl. step k i j l hi hj hl ∙ only.cells k i j l leaf_k hi hj hl;
  }
    where
      here_cells : (i j l : ℕ) → let g = now.told.grid in i < g.shape.n → j < g.shape.n → l < g.shape.n →
          cells_of g (cell_array new v node) (g.shape.g + i) (g.shape.g + j) (g.shape.g + l) ≡ cells_of g (cell_array mid v node) (g.shape.g + i) (g.shape.g + j) (g.shape.g + l)
      here_cells =
          subst (λ (t : Told). (i j l : ℕ) → let g = t.grid in i < g.shape.n → j < g.shape.n → l < g.shape.n →
          cells_of g (cell_array new v node) (g.shape.g + i) (g.shape.g + j) (g.shape.g + l) ≡ cells_of g (cell_array mid v node) (g.shape.g + i) (g.shape.g + j) (g.shape.g + l)) only.only.told
          (gathered_cells n e asked mid v node (cell_array new v node) sized all)

      step : (k i j l : ℕ) → let g = now.told.grid in i < g.shape.n → j < g.shape.n → l < g.shape.n →
          cells_of g (cell_array new v k) (g.shape.g + i) (g.shape.g + j) (g.shape.g + l) ≡ cells_of g (cell_array mid v k) (g.shape.g + i) (g.shape.g + j) (g.shape.g + l)
      step k i j l hi hj hl =
          let g = now.told.grid in
          let other : k ≢ node → cells_of g (cell_array new v k) (g.shape.g + i) (g.shape.g + j) (g.shape.g + l) ≡ cells_of g (cell_array mid v k) (g.shape.g + i) (g.shape.g + j) (g.shape.g + l) =
          (λ ne. ap (λ xs. cells_of g xs (g.shape.g + i) (g.shape.g + j) (g.shape.g + l)) (still k ne)) in
          elim (cases_order k node) [
            | inl same ↦ subst
                (λ m. cells_of g (cell_array new v m) (g.shape.g + i) (g.shape.g + j) (g.shape.g + l) ≡ cells_of g (cell_array mid v m) (g.shape.g + i) (g.shape.g + j) (g.shape.g + l))
                (sym same) (here_cells i j l hi hj hl)
            | inr (inl less) ↦ other (λ is. omega arith)
            | inr (inr more) ↦ other (λ is. omega arith)
          ]

  pub one_guarded : (content : CellAt → ℤ) → NodesHold now v content → ((k : ℕ) → k < node → IsLeafNode now.told.grid k → NodeAsked asked mid v content k) →
      (k : ℕ) → k < node + 1 → IsLeafNode now.told.grid k → NodeAsked asked new v content k
  one_guarded content holds so_far = below_more (λ k. IsLeafNode now.told.grid k → NodeAsked asked new v content k) node
      (λ k l is. along k (still k (omega arith)) (so_far k l is))
      (λ is. subst (λ (t : Told). HoldsAsked asked t.grid content (block_at t.grid node) (cells_of t.grid (cell_array new v node))) (sym here.told)
      (gathered_guards n e asked mid v node (cell_array new v node) sized all content (nodes_keep now mid v content only holds)))
    where
      along : (k : ℕ) → cell_array new v k ≡ cell_array mid v k → NodeAsked asked mid v content k → NodeAsked asked new v content k
      along k same guarded =
          subst (λ (t : Told). HoldsAsked asked t.grid content (block_at t.grid k) (cells_of t.grid (cell_array new v k))) (sym here.told)
          (subst (λ (xs : List ℤ). HoldsAsked asked mid.told.grid content (block_at mid.told.grid k) (cells_of mid.told.grid xs)) (sym same) guarded)

-- after a fill the world is that of its mesh
pub filled_mesh : (a b : WorldState) (v : ℕ) (m : Mesh) → OnlyGuards a b v → IsOfMesh a m → IsOfMesh b m
filled_mesh a b v m only of = cells_keep_mesh a b v m only.only (λ content. leaves_keep a b v content only) of

-- ---- what was asked for, by places

pub all_asked : (w : WorldState) (v : ℕ) (content : CellAt → ℤ) → LeavesAsked All w v content → LeavesGuarded w v content
all_asked w v content leaves node leaf = record { at = λ i j k hi hj hk. (leaves node leaf).at i j k hi hj hk refl }

own_side : (s : Shape) (i : ℕ) → IsOwn s i → side_at s.n s.g i ≡ 1
own_side s i own = let low = own.0 in let high = own.1 in side_of_place s.n s.g 1 i (omega arith) low (omega arith)

first_two : (x y z : Bool) → x ≡ true → y ≡ true → ((x && y) || ((x && z) || (y && z))) ≡ true
first_two true true z hx hy = refl
first_two false y z hx hy = cc
first_two x false z hx hy = cc

first_and_last : (x y z : Bool) → x ≡ true → z ≡ true → ((x && y) || ((x && z) || (y && z))) ≡ true
first_and_last true false true hx hz = refl
first_and_last true true true hx hz = refl
first_and_last false y z hx hz = cc
first_and_last x y false hx hz = cc

last_two : (x y z : Bool) → y ≡ true → z ≡ true → ((x && y) || ((x && z) || (y && z))) ≡ true
last_two false true true hy hz = refl
last_two true true true hy hz = refl
last_two x false z hy hz = cc
last_two x y false hy hz = cc

digits_say : (d x y z : ℕ) → d % 3 ≡ x → d / 3 % 3 ≡ y → d / 9 ≡ z → ((x ≡ 1) × (y ≡ 1)) ⊎ (((x ≡ 1) × (z ≡ 1)) ⊎ ((y ≡ 1) × (z ≡ 1))) → is_straight d ≡ true
unfolding is_straight
digits_say d x y z dx dy dz own = elim own [
  | inl both ↦ first_two (d % 3 == 1) (d / 3 % 3 == 1) (d / 9 == 1) (eq-eqb (d % 3) 1 (dx ∙ both.0)) (eq-eqb (d / 3 % 3) 1 (dy ∙ both.1))
  | inr (inl both) ↦ first_and_last (d % 3 == 1) (d / 3 % 3 == 1) (d / 9 == 1) (eq-eqb (d % 3) 1 (dx ∙ both.0)) (eq-eqb (d / 9) 1 (dz ∙ both.1))
  | inr (inr both) ↦ last_two (d % 3 == 1) (d / 3 % 3 == 1) (d / 9 == 1) (eq-eqb (d / 3 % 3) 1 (dy ∙ both.0)) (eq-eqb (d / 9) 1 (dz ∙ both.1))
]

straight_digits : (x y z : ℕ) → x < 3 → y < 3 → z < 3 → ((x ≡ 1) × (y ≡ 1)) ⊎ (((x ≡ 1) × (z ≡ 1)) ⊎ ((y ≡ 1) × (z ≡ 1))) → is_straight (x + 3 * y + 9 * z) ≡ true
straight_digits x y z hx hy hz own = digits_say (x + 3 * y + 9 * z) x y z (omega arith) (omega arith) (omega arith) own

straight_asked : (s : Shape) (i j k : ℕ) → IsStraight s i j k → is_straight (direction_at s.n s.g i j k) ≡ true
straight_asked s i j k straight =
    straight_digits (side_at s.n s.g i) (side_at s.n s.g j) (side_at s.n s.g k) (side_few s.n s.g i) (side_few s.n s.g j) (side_few s.n s.g k) (elim straight.own [
      | inl both ↦ inl (own_side s i both.0, own_side s j both.1)
      | inr (inl both) ↦ inr (inl (own_side s i both.0, own_side s k both.1))
      | inr (inr both) ↦ inr (inr (own_side s j both.0, own_side s k both.1))
    ])

pub sides_asked : (w : WorldState) (v : ℕ) (content : CellAt → ℤ) → LeavesAsked AcrossSides w v content → LeavesSided w v content
sides_asked w v content leaves node leaf = record { at = λ i j k hi hj hk straight. (leaves node leaf).at i j k hi hj hk (straight_asked w.told.grid.shape i j k straight) }
