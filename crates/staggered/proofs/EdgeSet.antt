-- An edge that is set in each leaf that has it.
use Rattle.std.proofs.Common.{◌≡◌, ℕ, ◌+◌, ◌*◌, ◌/◌, ◌%◌, ◌<◌, ◌≤◌, true, false, ◌&&◌, List, [], ◌∷◌, drop, get_or, length, set, take, ℤ, pos, Option, Some, None, refl, sym, ap, ap₂, subst, ◌∙◌, arith, inl, inr, eq-eqb}
use Rattle.std.specs.List.{list_any}
use Rattle.std.specs.Prelude.{if◌then◌else◌}
use Rattle.std.proofs.lemmas.List.{get_or-drop, get_or-set_other, get_or-set_same, get_or-take}
use Rattle.std.proofs.lemmas.Bool.{and_parts, cases_Bool, cases_lt}
use Rattle.amr_num.specs.Numbers.{at}
use Rattle.amr_num.specs.declared.Axis.{Axis}
use Rattle.amr_num.specs.declared.Axis.TheVariants.{X, Y, Z}
use Rattle.amr_num.specs.declared.BlockAt.{BlockAt}
use Rattle.amr_num.specs.declared.CellAt.{CellAt}
use Rattle.amr_num.specs.declared.EdgeAt.{EdgeAt}
use Rattle.mesh_model.specs.declared.fields.values.Var.TheVariants.{Edge}
use Rattle.mesh_model.specs.declared.geometry.Shape.{Shape}
use Rattle.mesh_model.specs.Fields.ArrayPlaces.{AreRowsWritten, Fits, IsRowWritten, IsSize, edge_extents, row_of}
use Rattle.mesh_model.specs.Fields.EdgeSplits.{edge_box}
use Rattle.mesh_model.specs.Fields.FinePlaces.{edges_in}
use Rattle.mesh_model.specs.Fields.Ranks.{OnlyOf, Told, WorldState}
use Rattle.mesh_model.specs.Geometry.Coordinates.{above, below, edge_numbers, extent, is_periodic, is_same_edge, moved_twice, next, on}
use Rattle.mesh_model.specs.Geometry.Places.{longer_across}
use Rattle.mesh_model.specs.Geometry.Touch.{block_on}
use Rattle.mesh_model.specs.Tree.Kinds.{Grid, holds, is_leaf, is_leaf_block, is_leaf_edge}
use Rattle.mesh_model.specs.Tree.Order.{Sorted}
use Rattle.mesh_model.specs.Tree.ValidGrid.{Valid}
use Rattle.mesh_model.proofs.FieldLemmas.BlockPlaces.{above_digit, along_row, next_row, row_y, row_z}
use Rattle.mesh_model.proofs.FieldLemmas.CellKinds.{Kinds}
use Rattle.mesh_model.proofs.FieldLemmas.ValidGrid.{kinds}
use Rattle.mesh_model.proofs.RunLemmas.RunValid.{same_edge}
use Rattle.mesh_model.proofs.TreeLemmas.Tests.{either_true}
use Rattle.block_tree.specs.Directions.{edge_name}
use Rattle.block_tree.specs.Numbered.{block_at}
use Rattle.rank_world.specs.Holding.{IsLeafNode, LeafEdgesHold, LeavesHoldEdges, OnlyAxes, edge_array}
use Rattle.rank_world.proofs.EdgeContents.{view_of_leaf_edge}
use Rattle.staggered.specs.EdgeSetting.{AreEdgesSet, IsEdgePlace, IsEdgeSet, IsNodeSet, edge_number, edges_set, is_beside, set_or, with_edge}
use Rattle.staggered.proofs.FaceSet.{cases_axis}

same_edges : (a x : Axis) → Edge a ≡ Edge x → a ≡ x
same_edges a x is = cc

-- what is not the edge that is set keeps its number
not_set : (at : EdgeAt) (value : ℤ) (e : EdgeAt) (other : ℤ) → is_same_edge e at ≡ false → set_or at value e other ≡ other
not_set at value e other is = ap (λ t. if t then value else other) is

-- ---- edges that are not the one that is set

-- one along another axis
other_axis : (e at : EdgeAt) → (e.axis ≡ at.axis → ⊥) → is_same_edge e at ≡ false
other_axis e at apart = elim (cases_Bool (is_same_edge e at)) [
  | inr other ↦ other
  | inl same ↦ absurd (apart (ap (λ (x : EdgeAt). x.axis) (same_edge e at same)))
]

-- those of a block that does not lie on its level, or not beside it along its axis
along_block : (n b i : ℕ) → i < n → (n * b + i) / n ≡ b
along_block n b i h = ap (λ m. m / n) turned ∙ above_digit i n b h
  where
    turned : n * b + i ≡ i + n * b
    turned = omega arith

along_is : (s : Shape) (a : Axis) (b : BlockAt) (i j k : ℕ) → IsEdgePlace s.n a i j k → on a (edge_numbers (edge_name s a b i j k)) / s.n ≡ block_on a b
along_is s X b i j k place = along_block s.n b.x i place.x
along_is s Y b i j k place = along_block s.n b.y j place.y
along_is s Z b i j k place = along_block s.n b.z k place.z

level_is : (s : Shape) (a : Axis) (b : BlockAt) (i j k : ℕ) → (edge_name s a b i j k).level ≡ b.level
level_is s X b i j k = refl
level_is s Y b i j k = refl
level_is s Z b i j k = refl

beside_if_same : (s : Shape) (a : Axis) (b : BlockAt) (at : EdgeAt) (i j k : ℕ) → IsEdgePlace s.n a i j k → is_same_edge (edge_name s a b i j k) at ≡ true → is_beside s.n b at ≡ true
beside_if_same s a b at i j k place same =
    let e = same_edge (edge_name s a b i j k) at same in
    let level : b.level ≡ at.level = sym (level_is s a b i j k) ∙ ap (λ (x : EdgeAt). x.level) e in
    let along : on at.axis (edge_numbers at) / s.n ≡ block_on at.axis b = subst (λ (x : EdgeAt). on x.axis (edge_numbers x) / s.n ≡ block_on x.axis b) e (along_is s a b i j k place) in
    ap₂ (λ p q. p && q) (eq-eqb b.level at.level level) (eq-eqb _ _ along)

not_beside : (s : Shape) (a : Axis) (b : BlockAt) (at : EdgeAt) (i j k : ℕ) → IsEdgePlace s.n a i j k → is_beside s.n b at ≡ false → is_same_edge (edge_name s a b i j k) at ≡ false
not_beside s a b at i j k place far = elim (cases_Bool (is_same_edge (edge_name s a b i j k) at)) [
  | inr other ↦ other
  | inl same ↦ absurd (let near = beside_if_same s a b at i j k place same in cc)
]

-- ---- nodes

module _ (g : Grid) (old new : WorldState) (at : EdgeAt) (value : ℤ) (node : ℕ) where
  -- one whose array along the edge's axis was written, and no other
  pub node_set : OnlyOf old new 0 (Edge at.axis) node →
      AreEdgesSet g.shape.n g.shape.g g.shape at.axis (block_at g node) at value (edge_array false old at.axis node) (edge_array false new at.axis node) → IsNodeSet g old new at value node
  node_set only is a i j k place = elim (cases_axis a at.axis) [
    | inl same ↦
        subst (λ x. IsEdgePlace g.shape.n x i j k → edge_number g new x node i j k ≡ set_or at value (edge_name g.shape x (block_at g node) i j k) (edge_number g old x node i j k)) (sym same)
        (λ here. is.written i j k here.x here.y here.z) place
    | inr apart ↦
        ap (λ xs. edges_in g a xs (g.shape.g + i) (g.shape.g + j) (g.shape.g + k)) (only.here.others (Edge a) node (λ e here. apart (same_edges a at.axis e)))
        ∙ sym (not_set at value (edge_name g.shape a (block_at g node) i j k) (edge_number g old a node i j k) (other_axis (edge_name g.shape a (block_at g node) i j k) at apart))
  ]

-- one that has no such edge
pub node_stays : (g : Grid) (w : WorldState) (at : EdgeAt) (value : ℤ) (node : ℕ) → is_beside g.shape.n (block_at g node) at ≡ false → IsNodeSet g w w at value node
node_stays g w at value node far a i j k place =
    sym (not_set at value (edge_name g.shape a (block_at g node) i j k) (edge_number g w a node i j k) (not_beside g.shape a (block_at g node) at i j k place far))

-- ---- the leaves below a node

pub record AreEdgesSetBelow (m : ℕ) (old new : WorldState) (at : EdgeAt) (value : ℤ) : Type 0 where
  pub done : (k : ℕ) → k < m → IsLeafNode old.told.grid k → IsNodeSet old.told.grid old new at value k
  pub waits : (k : ℕ) (a : Axis) → m ≤ k → edge_array false new a k ≡ edge_array false old a k

pub none_set : (w : WorldState) (at : EdgeAt) (value : ℤ) → AreEdgesSetBelow 0 w w at value
none_set w at value = record { done = λ k h leaf. absurd (omega (arith, h)); waits = λ k a h. refl }

module _ (m : ℕ) (old now new : WorldState) (at : EdgeAt) (value : ℤ) (is : AreEdgesSetBelow m old now at value) (before : OnlyAxes Edge old now) (only : OnlyOf now new 0 (Edge at.axis) m) where
  pub node_more : (is_leaf_block now.told.grid (block_at now.told.grid m) ≡ true → IsNodeSet now.told.grid now new at value m) → AreEdgesSetBelow (m + 1) old new at value
  node_more set = record {
    done = λ k h leaf a i j l place. elim (cases_lt k m) [
      | inl less ↦
          let g = old.told.grid in
          ap (λ xs. edges_in g a xs (g.shape.g + i) (g.shape.g + j) (g.shape.g + l)) (only.here.others (Edge a) k (λ e here. omega (arith, here, less))) ∙ is.done k less leaf a i j l place
      | inr more ↦ (
          let g = old.told.grid in
          let last : k ≡ m = omega (arith, h, more) in
          let own : is_leaf_block g (block_at g m) ≡ true = subst (λ u. is_leaf_block g (block_at g u) ≡ true) last leaf.leaf in
          let here : is_leaf_block g (block_at g m) ≡ true → IsNodeSet g now new at value m = subst (λ (t : Told). is_leaf_block t.grid (block_at t.grid m) ≡ true → IsNodeSet t.grid now new at value m) before.told set in
          subst (λ u. edge_number g new a u i j l ≡ set_or at value (edge_name g.shape a (block_at g u) i j l) (edge_number g old a u i j l)) (sym last)
          (here own a i j l place ∙ ap (λ xs. set_or at value (edge_name g.shape a (block_at g m) i j l) (edges_in g a xs (g.shape.g + i) (g.shape.g + j) (g.shape.g + l))) (is.waits m a (omega arith))))
    ];
    waits = λ k a h. only.here.others (Edge a) k (λ e here. omega (arith, here, h)) ∙ is.waits k a (omega (arith, h));
  }

  pub only_more : OnlyAxes Edge old new
  only_more = record { told = only.told ∙ before.told; others = λ u k none. only.here.others u k (λ e here. none at.axis e) ∙ before.others u k none }

-- so it is set in all
pub all_set : (m : ℕ) (old new : WorldState) (at : EdgeAt) (value : ℤ) → OnlyAxes Edge old new → AreEdgesSetBelow m old new at value → ((k : ℕ) → IsLeafNode old.told.grid k → k < m) → IsEdgeSet old new at value
all_set m old new at value only is all = record { told = only.told; each = λ node leaf. is.done node (all node leaf) leaf }

-- ---- the leaves that held a field have its numbers with the one that was set
pub edges_hold : (old new : WorldState) (at : EdgeAt) (value : ℤ) → Valid old.told.grid → Sorted old.told.grid.leaves → IsEdgeSet old new at value → (field : EdgeAt → ℤ) → LeavesHoldEdges false old field →
    LeafEdgesHold false new (with_edge field at value)
edges_hold old new at value valid order is field holds node x leaf = record {
  at = λ i j k low_x low_y low_z t.
      let g = old.told.grid in
      let here : IsLeafNode g node = subst (λ (u : Told). IsLeafNode u.grid node) is.told leaf in
      let there : IsEdgePlace new.told.grid.shape.n x i j k = record { x = low_x; y = low_y; z = low_z } in
      let pl : IsEdgePlace g.shape.n x i j k = subst (λ (u : Told). IsEdgePlace u.grid.shape.n x i j k) is.told there in
      let name = edge_name g.shape x (block_at g node) i j k in
      let leaf_one : is_leaf_edge g name ≡ true = subst (λ (u : Told). is_leaf_edge u.grid (edge_name u.grid.shape x (block_at u.grid node) i j k) ≡ true) is.told t in
      ap (λ (u : Told). edge_number u.grid new x node i j k) is.told
      ∙ is.each node here x i j k pl
      ∙ ap (λ v. set_or at value name v) ((holds node here x).at i j k pl.x pl.y pl.z ∙ view_of_leaf_edge old valid order field name leaf_one)
      ∙ ap (λ (u : Told). with_edge field at value (edge_name u.grid.shape x (block_at u.grid node) i j k)) (sym is.told);
}

-- ---- a block's array

-- the block's edges stand within it
pub edges_fit : (n g : ℕ) (a : Axis) → Fits (edge_extents n g a) (edge_box n g a)
edges_fit n g X = record { x = omega arith; y = omega arith; z = omega arith }
edges_fit n g Y = record { x = omega arith; y = omega arith; z = omega arith }
edges_fit n g Z = record { x = omega arith; y = omega arith; z = omega arith }

-- a row of it begins within it
pub row_place : (n g : ℕ) (a : Axis) (m : ℕ) → IsSize n g → let h = longer_across a Y n in m < h * longer_across a Z n → let e = edge_extents n g a in (g < e.x) × (g + m % h < e.y) × (g + m / h < e.z)
row_place n g a m size within =
    let e = edge_extents n g a in
    let b = edge_box n g a in
    let fits = edges_fit n g a in
    let some = some_along a in
    let x = fits.x in
    let y = fits.y in
    let z = fits.z in
    let on_y = row_y e b fits m within in
    let on_z = row_z e b fits m within in
    (omega (arith, x, some), omega (arith, y, on_y), omega (arith, z, on_z))
  where
    some_cells : 0 < n
    some_cells = elim size.cells [ inl four ↦ omega (arith, four) | inr eight ↦ omega (arith, eight) ]

    some_along : (a : Axis) → 0 < longer_across a X n
    some_along X = some_cells
    some_along Y = omega arith
    some_along Z = omega arith

-- what a row of it has after the edge was set
pub row_number : (n g : ℕ) (s : Shape) (a : Axis) (b : BlockAt) (at : EdgeAt) (value : ℤ) (old : List ℤ) (m start many t : ℕ) → start ≡ row_of (edge_extents n g a) (edge_box n g a) m → t < many →
    let h = longer_across a Y n in
    set_or at value (edge_name s a b t (m % h) (m / h)) (get_or (take many (drop start old)) t (pos 0)) ≡ edges_set n g s a b at value old t (m % h) (m / h)
row_number n g s a b at value old m start many t is less =
    let h = longer_across a Y n in
    let e = edge_extents n g a in
    ap (set_or at value (edge_name s a b t (m % h) (m / h)))
    (get_or-take many (drop start old) t (pos 0) less ∙ get_or-drop start old t (pos 0) ∙ ap (λ p. get_or old (p + t) (pos 0)) is ∙ ap (λ p. get_or old p (pos 0)) (sym (along_row e g t (g + m % h) (g + m / h))))

-- one number more of a row is set, and those after it wait
module _ (out old : List ℤ) (t : ℕ) (x : ℤ) (want : ℕ → ℤ → ℤ) (inside : t < length out) (waits : (p : ℕ) → t ≤ p → at out p ≡ at old p) where
  pub one_more_set : ((p : ℕ) → p < t → at out p ≡ want p (at old p)) → x ≡ want t (at out t) → (p : ℕ) → p < t + 1 → at (set out t x) p ≡ want p (at old p)
  one_more_set done is p h = elim (cases_lt p t) [
    | inl less ↦ get_or-set_other out t p x (pos 0) (λ e. omega (arith, e, less)) ∙ done p less
    | inr more ↦ (let last : p ≡ t = omega (arith, h, more) in ap (at (set out t x)) last ∙ get_or-set_same out t x (pos 0) inside ∙ is ∙ ap (want t) (waits t (omega arith)) ∙ ap (λ q. want q (at old q)) (sym last))
  ]

  pub others_wait : (p : ℕ) → t + 1 ≤ p → at (set out t x) p ≡ at old p
  others_wait p h = get_or-set_other out t p x (pos 0) (λ e. omega (arith, e, h)) ∙ waits p (omega (arith, h))

-- a row that waits has what it had
pub row_waits : (n g : ℕ) (s : Shape) (a : Axis) (b : BlockAt) (at : EdgeAt) (value : ℤ) (old now : List ℤ) (m : ℕ) → AreRowsWritten m (edge_extents n g a) (edge_box n g a) (edges_set n g s a b at value old) old now →
    let h = longer_across a Y n in
    m < h * longer_across a Z n → (t : ℕ) → t < longer_across a X n → edges_set n g s a b at value now t (m % h) (m / h) ≡ edges_set n g s a b at value old t (m % h) (m / h)
row_waits n g s a b at value old now m so_far within t less =
    let h = longer_across a Y n in
    ap (set_or at value (edge_name s a b t (m % h) (m / h))) (next_row (edge_extents n g a) (edge_box n g a) (edges_fit n g a) m (edges_set n g s a b at value old) old now within so_far t less)

-- what a row is written with, by numbers that are the same
pub row_as : (start many : ℕ) (wanted meant : ℕ → ℤ) (old new : List ℤ) → ((t : ℕ) → t < many → wanted t ≡ meant t) → IsRowWritten start many wanted old new → IsRowWritten start many meant old new
row_as start many wanted meant old new same row = record { size = row.size; here = λ t h. row.here t h ∙ same t h; below = row.below; above = row.above }

-- ---- levels of leaf edges

pub leaf_edge_level : (g : Grid) → Valid g → (e : EdgeAt) → is_leaf_edge g e ≡ true → e.level ≤ 10
unfolding is_leaf_edge
leaf_edge_level g valid e h =
    let top = valid.shape.max in
    let s = g.shape in
    let b = next e.axis in
    let c = edge_numbers e in
    of_some (kinds g valid) b (next b) c (below (is_periodic s b) (extent s b e.level) (on b c)) (above (is_periodic s b) (extent s b e.level) (on b c))
    (below (is_periodic s (next b)) (extent s (next b) e.level) (on (next b) c)) (above (is_periodic s (next b)) (extent s (next b) e.level) (on (next b) c)) top (and_parts _ _ h).0
  where
    of_one : Kinds g → (b d : Axis) (c : CellAt) (o r : Option ℕ) → holds (is_leaf g) (moved_twice b o d r c) ≡ true → c.level ≤ g.shape.max
    of_one k b d c None r h = cc
    of_one k b d c (Some p) None h = cc
    of_one k X X c (Some p) (Some q) h = k.leaf_top _ h
    of_one k X Y c (Some p) (Some q) h = k.leaf_top _ h
    of_one k X Z c (Some p) (Some q) h = k.leaf_top _ h
    of_one k Y X c (Some p) (Some q) h = k.leaf_top _ h
    of_one k Y Y c (Some p) (Some q) h = k.leaf_top _ h
    of_one k Y Z c (Some p) (Some q) h = k.leaf_top _ h
    of_one k Z X c (Some p) (Some q) h = k.leaf_top _ h
    of_one k Z Y c (Some p) (Some q) h = k.leaf_top _ h
    of_one k Z Z c (Some p) (Some q) h = k.leaf_top _ h

    of_some : Kinds g → (b d : Axis) (c : CellAt) (p q r s : Option ℕ) → g.shape.max ≤ 10 →
        list_any (holds (is_leaf g)) (moved_twice b p d r c ∷ moved_twice b q d r c ∷ moved_twice b p d s c ∷ moved_twice b q d s c ∷ []) ≡ true → c.level ≤ 10
    of_some k b d c p q r s top h = elim (either_true _ _ h) [
      | inl l ↦ (let deep = of_one k b d c p r l in omega (arith, deep, top))
      | inr more ↦ elim (either_true _ _ more) [
        | inl l ↦ (let deep = of_one k b d c q r l in omega (arith, deep, top))
        | inr rest ↦ elim (either_true _ _ rest) [
          | inl l ↦ (let deep = of_one k b d c p s l in omega (arith, deep, top))
          | inr last ↦ elim (either_true _ _ last) [
            | inl l ↦ (let deep = of_one k b d c q s l in omega (arith, deep, top))
            | inr none ↦ absurd cc
          ]
        ]
      ]
    ]
