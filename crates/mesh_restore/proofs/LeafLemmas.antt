-- All arrays of leaves that are filled.
use Rattle.std.proofs.Common.{◌≡◌, ℕ, suc, ◌+◌, ◌<◌, ◌≤◌, Bool, true, false, List, [], ◌∷◌, ◌++◌, length, map, filter, flat_map, take, get_or, ℤ, refl, sym, ap, ap₂, subst, ◌∙◌, arith, inl, inr, append_assoc, append-nil, if◌then◌else◌, take_all}
use Rattle.std.proofs.Math.Seq.{take-suc}
use Rattle.std.proofs.lemmas.Bool.{cases_lt}
use Rattle.std.proofs.lemmas.Grind.{flat_map-append}
use Rattle.std.proofs.lemmas.List.Elements.{filter-append}
use Rattle.amr_num.specs.declared.Axis.{Axis}
use Rattle.amr_num.specs.declared.Axis.TheVariants.{X, Y, Z}
use Rattle.block_tree.specs.Interior.{array_on, axes_of}
use Rattle.block_tree.specs.Numbered.{IsNode, block_at}
use Rattle.block_tree.proofs.Leaves.{leaves_are}
use Rattle.check_format.specs.Own.{Place}
use Rattle.mesh_model.specs.declared.fields.values.Group.{Group}
use Rattle.mesh_model.specs.declared.fields.values.Group.TheVariants.{Cell, Edge, Face}
use Rattle.mesh_model.specs.declared.fields.values.Var.{Var}
use Rattle.mesh_model.specs.Fields.ArrayPlaces.{extents_of, number_at}
use Rattle.mesh_model.specs.Fields.Arrays.{array_in}
use Rattle.mesh_model.specs.Fields.Ranks.{OnlyOf, Told, WorldState, rank_at}
use Rattle.mesh_model.specs.Geometry.Limits.{IsShape}
use Rattle.mesh_model.specs.Tree.Kinds.{Grid, is_leaf_block}
use Rattle.mesh_model.specs.Tree.Order.{nodes}
use Rattle.mesh_model.specs.Tree.ValidGrid.{Valid}
use Rattle.rank_world.specs.Holding.{IsLeafNode, OnlyAxes, OnlyAxesOf}
use Rattle.mesh_restore.specs.Filling.{AreFilled, AreWithin, ArraysWithin, HasBelow, HaveAll, HaveBefore, IsAxisOf, IsFilled, IsFilling, IsLeafFilled, IsNodeFilled, IsPlaceOf, IsShared, Wanted, all_places, first_numbers, leaf_numbers, node_numbers, number_in, order_of, own_numbers}
use Rattle.mesh_restore.proofs.FillLemmas.{before_stays}
use Rattle.mesh_restore.proofs.PlaceLemmas.{small}

-- ---- an array is filled

module _ (g : Grid) (shape : IsShape g.shape) (group : Group) where
  nothing_below : (v : Wanted) (w : WorldState) (node : ℕ) (a : Axis) → HasBelow g group v w node a 0
  nothing_below v w node a = record { at = λ p inside less counts. absurd (omega (arith, less)) }

  -- one leaf more
  one_more : (v : Wanted) (w : WorldState) (node : ℕ) (a : Axis) → HaveBefore g group v w node a → HasBelow g group v w node a 4096 → HaveBefore g group v w (suc node) a
  one_more v w node a before below = record {
    at = λ other less leaf p inside counts. elim (cases_lt other node) [
      | inl early ↦ before.at other early leaf p inside counts
      | inr late ↦
          let here : node ≡ other = omega (arith, less, late) in
          let s = small g shape group a p inside in
          let x = s.0 in
          let y = s.1 in
          let z = s.2 in
          subst (λ u. v.counts (block_at g u) a p ≡ true → number_in g w group a u p ≡ v.value (block_at g u) a p) here (below.at p inside (omega (arith, x, y, z))) counts
    ];
  }

  -- what leaves have in the array of another axis stays
  module _ (v : Wanted) (old new : WorldState) (node : ℕ) (a c : Axis) (only : OnlyOf old new 0 (array_on group a) node) (apart : array_on group c ≡ array_on group a → ⊥) where
    same_number : (other : ℕ) (p : Place) → number_in g new group c other p ≡ number_in g old group c other p
    same_number other p =
        ap (λ xs. number_at (extents_of g.shape.n g.shape.g (array_on group c)) xs (g.shape.g + p.x) (g.shape.g + p.y) (g.shape.g + p.z)) (only.here.others (array_on group c) other (λ e here. apart e))

    before_other : (m : ℕ) → HaveBefore g group v old m c → HaveBefore g group v new m c
    before_other m before = record { at = λ other less leaf p inside counts. same_number other p ∙ before.at other less leaf p inside counts }

  only_axes : (old new : WorldState) (node : ℕ) (a : Axis) → OnlyOf old new 0 (array_on group a) node → OnlyAxesOf (array_on group) old new node
  only_axes old new node a only = record { told = only.told; others = λ u at none. only.here.others u at (λ e here. none a e here) }

  axes_again : (old now new : WorldState) (node : ℕ) → OnlyAxesOf (array_on group) old now node → OnlyAxesOf (array_on group) now new node → OnlyAxesOf (array_on group) old new node
  axes_again old now new node one two = record { told = two.told ∙ one.told; others = λ u at none. two.others u at none ∙ one.others u at none }

  -- the arrays on three axes
  module _ (three : axes_of group ≡ X ∷ Y ∷ Z ∷ []) (xy : array_on group X ≡ array_on group Y → ⊥) (xz : array_on group X ≡ array_on group Z → ⊥) (yz : array_on group Y ≡ array_on group Z → ⊥)
      (node : ℕ) (old first second new : WorldState) (rest after_x after_y left : List ℤ)
      (on_x : IsFilling g group X node 0 4096 (all_places g group X) old first rest after_x)
      (on_y : IsFilling g group Y node 0 4096 (all_places g group Y) first second after_x after_y)
      (on_z : IsFilling g group Z node 0 4096 (all_places g group Z) second new after_y left) where
    numbers_three : (v : Wanted) → let b = block_at g node in let own = λ (a : Axis). own_numbers g group v b a (all_places g group a) in leaf_numbers g group v b ≡ own X ++ (own Y ++ (own Z ++ []))
    numbers_three v = ap (flat_map (λ a. own_numbers g group v (block_at g node) a (all_places g group a))) three

    filled_three : (v : Wanted) (tail : List ℤ) → IsShared g group v → ((a : Axis) → HaveBefore g group v old node a) → rest ≡ leaf_numbers g group v (block_at g node) ++ tail → ((a : Axis) → HaveBefore g group v new (suc node) a) × (left ≡ tail)
    filled_three v tail shared before numbers =
        let b = block_at g node in
        let nx = own_numbers g group v b X (all_places g group X) in
        let ny = own_numbers g group v b Y (all_places g group Y) in
        let nz = own_numbers g group v b Z (all_places g group Z) in
        let split : rest ≡ nx ++ (ny ++ (nz ++ tail)) =
        numbers ∙ ap (λ u. u ++ tail) (numbers_three v) ∙ append_assoc nx (ny ++ (nz ++ [])) tail ∙ ap (λ u. nx ++ u) (append_assoc ny (nz ++ []) tail ∙ ap (λ u. ny ++ u) (ap (λ u. u ++ tail) (append-nil nz))) in
        let x = on_x.filled v (ny ++ (nz ++ tail)) shared (before X) (nothing_below v old node X) split in
        let first_x = one_more v first node X (before_stays g group v old first node X on_x.only (before X)) x.0 in
        let first_y = before_other v old first node X Y on_x.only (λ e. xy (sym e)) node (before Y) in
        let first_z = before_other v old first node X Z on_x.only (λ e. xz (sym e)) node (before Z) in
        let y = on_y.filled v (nz ++ tail) shared first_y (nothing_below v first node Y) x.1 in
        let second_y = one_more v second node Y (before_stays g group v first second node Y on_y.only first_y) y.0 in
        let second_x = before_other v first second node Y X on_y.only xy (suc node) first_x in
        let second_z = before_other v first second node Y Z on_y.only (λ e. yz (sym e)) node first_z in
        let z = on_z.filled v tail shared second_z (nothing_below v second node Z) y.1 in
        let new_z = one_more v new node Z (before_stays g group v second new node Z on_z.only second_z) z.0 in
        let new_x = before_other v second new node Z X on_z.only xz (suc node) second_x in
        let new_y = before_other v second new node Z Y on_z.only yz (suc node) second_y in
        (by_axes new_x new_y new_z, z.1)
      where
        by_axes : HaveBefore g group v new (suc node) X → HaveBefore g group v new (suc node) Y → HaveBefore g group v new (suc node) Z → (a : Axis) → HaveBefore g group v new (suc node) a
        by_axes x y z X = x
        by_axes x y z Y = y
        by_axes x y z Z = z

    pub three_filled : ((a : Axis) → IsAxisOf group a) → IsLeafFilled g group node old new rest left
    three_filled all = record {
      only = axes_again old second new node (axes_again old first second node (only_axes old first node X on_x.only) (only_axes first second node Y on_y.only)) (only_axes second new node Z on_z.only);
      filled = λ v tail shared before numbers. let both = filled_three v tail shared (λ a. before a (all a)) numbers in (λ a is. both.0 a, both.1);
      within = λ most small before.
          let x = on_x.within most small before in
          let y = on_y.within most x.0 x.1 in
          on_z.within most y.0 y.1;
    }

-- the array of a leaf's cells
pub cells_filled : (g : Grid) → IsShape g.shape → (v node : ℕ) (old new : WorldState) (rest left : List ℤ) → IsFilling g (Cell v) X node 0 4096 (all_places g (Cell v) X) old new rest left → IsLeafFilled g (Cell v) node old new rest left
cells_filled g shape v node old new rest left is = record {
  only = only_axes g shape (Cell v) old new node X is.only;
  filled = λ want tail shared before numbers.
      let own = own_numbers g (Cell v) want (block_at g node) X (all_places g (Cell v) X) in
      let here = is.filled want tail shared (before X refl) (nothing_below g shape (Cell v) want old node X) (numbers ∙ ap (λ u. u ++ tail) (append-nil own)) in
      let more = one_more g shape (Cell v) want new node X (before_stays g (Cell v) want old new node X is.only (before X refl)) here.0 in
      (λ a e. subst (λ c. HaveBefore g (Cell v) want new (suc node) c) (sym e) more, here.1);
  within = is.within;
}

-- ---- a node

module _ (g : Grid) (group : Group) (node : ℕ) where
  pub leaf_node_filled : (old new : WorldState) (rest left : List ℤ) → is_leaf_block g (block_at g node) ≡ true → IsLeafFilled g group node old new rest left → IsNodeFilled g group node old new rest left
  leaf_node_filled old new rest left leaf is = record {
    only = is.only;
    filled = λ v tail shared before numbers. is.filled v tail shared before (numbers ∙ ap (λ t. (if t then leaf_numbers g group v (block_at g node) else []) ++ tail) leaf);
    within = is.within;
  }

  pub other_node_filled : (w : WorldState) (rest : List ℤ) → is_leaf_block g (block_at g node) ≡ false → IsNodeFilled g group node w w rest rest
  other_node_filled w rest other = record {
    only = record { told = refl; others = λ u at none. refl };
    filled = λ v tail shared before numbers. (
      λ a is. record {
        at = λ k less leaf p inside counts. elim (cases_lt k node) [
          | inl early ↦ (before a is).at k early leaf p inside counts
          | inr late ↦ absurd (let here : k ≡ node = omega (arith, less, late) in let not_leaf = sym leaf.leaf ∙ ap (λ u. is_leaf_block g (block_at g u)) here ∙ other in cc)
        ];
      },
      numbers ∙ ap (λ t. (if t then leaf_numbers g group v (block_at g node) else []) ++ tail) other,
    );
    within = λ most small before. (small, before);
  }

-- ---- all nodes

module _ (g : Grid) (group : Group) where
  pub none_filled : (w : WorldState) (numbers : List ℤ) → AreFilled g group 0 w w numbers numbers
  none_filled w numbers = record {
    only = record { told = refl; others = λ u at none. refl };
    filled = λ v tail shared is. (λ a axis. record { at = λ other less leaf p inside counts. absurd (omega (arith, less)) }, is);
    within = λ most small before. (small, before);
  }

  numbers_more : (v : Wanted) (node : ℕ) → node < length (nodes g.leaves) → first_numbers g group v (suc node) ≡ first_numbers g group v node ++ node_numbers g group v node
  unfolding block_at
  numbers_more v node there =
      let bs = nodes g.leaves in
      let b = block_at g node in
      ap (λ u. flat_map (leaf_numbers g group v) (filter (is_leaf_block g) u)) (take-suc bs node (record { level = 0; x = 0; y = 0; z = 0 }) there)
      ∙ ap (flat_map (leaf_numbers g group v)) (filter-append (is_leaf_block g) (take node bs) (b ∷ []))
      ∙ flat_map-append (leaf_numbers g group v) (filter (is_leaf_block g) (take node bs)) (filter (is_leaf_block g) (b ∷ []))
      ∙ ap (λ u. first_numbers g group v node ++ u) (one (is_leaf_block g b))
    where
      one : (t : Bool) → flat_map (leaf_numbers g group v) (if t then block_at g node ∷ [] else []) ≡ (if t then leaf_numbers g group v (block_at g node) else [])
      one true = append-nil (leaf_numbers g group v (block_at g node))
      one false = refl

  pub node_more : (node : ℕ) (old now new : WorldState) (numbers rest left : List ℤ) → node < length (nodes g.leaves) → AreFilled g group node old now numbers rest → IsNodeFilled g group node now new rest left →
      AreFilled g group (suc node) old new numbers left
  node_more node old now new numbers rest left there before is = record {
    only = record { told = is.only.told ∙ before.only.told; others = λ u at none. is.only.others u at (λ a e here. none a e) ∙ before.only.others u at none };
    filled = λ v tail shared all.
        let so_far = before.filled v (node_numbers g group v node ++ tail) shared (all ∙ ap (λ u. u ++ tail) (numbers_more v node there) ∙ append_assoc (first_numbers g group v node) (node_numbers g group v node) tail) in
        is.filled v tail shared so_far.0 so_far.1;
    within = λ most small first. let so_far = before.within most small first in is.within most so_far.0 so_far.1;
  }

  pub all_filled : Valid g → (many : ℕ) (old new : WorldState) (numbers left : List ℤ) → many ≡ length (nodes g.leaves) → AreFilled g group many old new numbers left → IsFilled g group old new numbers
  all_filled valid many old new numbers left all is = record {
    only = is.only;
    filled = λ v shared numbers_are.
        let whole : first_numbers g group v many ≡ flat_map (leaf_numbers g group v) g.leaves =
        ap (λ u. flat_map (leaf_numbers g group v) (filter (is_leaf_block g) u)) (take_all many (nodes g.leaves) (omega (arith, all))) ∙ ap (flat_map (leaf_numbers g group v)) (leaves_are g valid) in
        let done = is.filled v [] shared (numbers_are ∙ sym (append-nil (first_numbers g group v many) ∙ whole)) in
        subst (HaveAll g group v new) all done.0;
    within = λ most small before. (is.within most small before).1;
  }

-- ---- in the words of the code

-- the arrays of a group that is no cell variable
pub axes_filled : (group : Group) → ((v : ℕ) → group ≡ Cell v → ⊥) → (node : ℕ) (old first second new : WorldState) (rest after_x after_y left : List ℤ) → IsShape old.told.grid.shape →
    IsFilling old.told.grid group X node 0 4096 (all_places old.told.grid group X) old first rest after_x →
    IsFilling first.told.grid group Y node 0 4096 (all_places first.told.grid group Y) first second after_x after_y →
    IsFilling second.told.grid group Z node 0 4096 (all_places second.told.grid group Z) second new after_y left → IsLeafFilled old.told.grid group node old new rest left
axes_filled (Cell v) none node old first second new rest after_x after_y left shape on_x on_y on_z = absurd (none v refl)
axes_filled Face none node old first second new rest after_x after_y left shape on_x on_y on_z =
    three_filled old.told.grid shape Face refl (λ e. cc) (λ e. cc) (λ e. cc) node old first second new rest after_x after_y left on_x
    (subst (λ (t : Told). IsFilling t.grid Face Y node 0 4096 (all_places t.grid Face Y) first second after_x after_y) on_x.only.told on_y)
    (subst (λ (t : Told). IsFilling t.grid Face Z node 0 4096 (all_places t.grid Face Z) second new after_y left) (on_y.only.told ∙ on_x.only.told) on_z) (λ a. tt)
axes_filled Edge none node old first second new rest after_x after_y left shape on_x on_y on_z =
    three_filled old.told.grid shape Edge refl (λ e. cc) (λ e. cc) (λ e. cc) node old first second new rest after_x after_y left on_x
    (subst (λ (t : Told). IsFilling t.grid Edge Y node 0 4096 (all_places t.grid Edge Y) first second after_x after_y) on_x.only.told on_y)
    (subst (λ (t : Told). IsFilling t.grid Edge Z node 0 4096 (all_places t.grid Edge Z) second new after_y left) (on_y.only.told ∙ on_x.only.told) on_z) (λ a. tt)

-- one node more, in the words of the world before it
pub node_next : (group : Group) (node : ℕ) (old now new : WorldState) (numbers rest left : List ℤ) → node < length (nodes old.told.grid.leaves) → AreFilled old.told.grid group node old now numbers rest → IsNodeFilled now.told.grid group node now new rest left →
    AreFilled old.told.grid group (node + 1) old new numbers left
node_next group node old now new numbers rest left there before is =
    let next : suc node ≡ node + 1 = omega arith in
    subst (λ m. AreFilled old.told.grid group m old new numbers left) next
    (node_more old.told.grid group node old now new numbers rest left there before (subst (λ (t : Told). IsNodeFilled t.grid group node now new rest left) before.only.told is))
