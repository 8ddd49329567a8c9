-- Worlds in which a line of a leaf has taken its sums.
use Rattle.std.proofs.Common.{◌≡◌, ℕ, ◌+◌, ◌^◌, ◌<◌, ◌≤◌, ◌⊎◌, Bool, true, false, not, List, ℤ, refl, sym, ap, subst, ◌∙◌, arith, inl, inr}
use Rattle.std.specs.Prelude.{if◌then◌else◌}
use Rattle.std.specs.List.{list_any}
use Rattle.std.proofs.lemmas.Bool.{cases_order}
use Rattle.amr_num.specs.Numbers.{Within}
use Rattle.amr_num.specs.declared.Axis.{Axis}
use Rattle.amr_num.specs.declared.BlockAt.{BlockAt}
use Rattle.amr_num.specs.declared.EdgeAt.{EdgeAt}
use Rattle.mesh_model.specs.Fields.FinePlaces.{edges_in}
use Rattle.mesh_model.specs.Fields.Ranks.{IsFit, IsSized, RankState, Told, WorldState}
use Rattle.mesh_model.specs.Fields.Views.{edge_view}
use Rattle.mesh_model.specs.Tree.Kinds.{Grid, holds, is_leaf, is_leaf_edge, is_split_edge}
use Rattle.mesh_model.specs.Geometry.Coordinates.{round_edge}
use Rattle.mesh_model.specs.Tree.ValidGrid.{Valid}
use Rattle.mesh_model.proofs.TreeLemmas.Tests.{and_right, not_true}
use Rattle.block_tree.specs.Directions.{edge_name}
use Rattle.block_tree.specs.Numbered.{block_at}
use Rattle.rank_world.specs.Holding.{IsLeafNode, LeafEdgesHold, LeavesHoldEdges, edge_array, edge_var}
use Rattle.rank_world.proofs.Puts.{which_array}
use Rattle.edge_average.specs.EdgeArrays.{AreHalved, EdgesWithin, IsTame, LineHolds, LineTaken, edge_stored}
use Rattle.edge_average.specs.EdgeSums.{edge_at}
use Rattle.edge_average.specs.Lines.{IsEdgePlace, edge_there, halved, has_finer, sum_of_halves}
use Rattle.edge_average.proofs.HalfEdges.{inside_of, split_there, view_halved, whole_of}
use Rattle.edge_average.proofs.LinePlaces.{at_line, by_line}
use Rattle.mesh_model.proofs.GeometryLemmas.ShapeLimits.{cells_some}

-- ---- numbers by three places, and by lines

pub small_tame : (work : Bool) (w : WorldState) → EdgesWithin work w (2 ^ 56) → IsTame work w
unfolding edge_at
small_tame work w small =
    let g = w.told.grid in
    let each : (node : ℕ) (a : Axis) (p s t : ℕ) → IsLeafNode g node → IsEdgePlace g.shape.n p s t → Within (2 ^ 56) (edge_stored work w a node p s t) =
    λ node a p s t leaf place.
    at_line (λ i j k. Within (2 ^ 56) (edges_in g a (edge_array work w a node) (g.shape.g + i) (g.shape.g + j) (g.shape.g + k))) a g.shape.n (small node a leaf).at p s t place in
    record {
      calm = λ node a p s t leaf place calm. each node a p s t leaf place;
      all = λ node a p s t leaf place. let one = each node a p s t leaf place in omega arith;
    }

pub tame_small : (work : Bool) (w : WorldState) → IsTame work w → EdgesWithin work w (2 ^ 58)
unfolding edge_at
tame_small work w tame node a leaf = record {
  at =
      let g = w.told.grid in
      by_line (λ i j k. Within (2 ^ 58) (edges_in g a (edge_array work w a node) (g.shape.g + i) (g.shape.g + j) (g.shape.g + k))) a g.shape.n
      (λ p s t place. tame.all node a p s t leaf place);
}

-- leaves all of whose lines hold a field's numbers and sums hold its views
pub views_held : (work : Bool) (w : WorldState) (field : EdgeAt → ℤ) → Valid w.told.grid →
    ((node : ℕ) (a : Axis) (s t : ℕ) → IsLeafNode w.told.grid node → s ≤ w.told.grid.shape.n → t ≤ w.told.grid.shape.n → LineHolds work w field node a s t) → LeavesHoldEdges work w field
unfolding edge_at edge_there
views_held work w field valid lines node leaf a = record {
  at =
      let g = w.told.grid in
      let b = block_at g node in
      by_line (λ i j k. edges_in g a (edge_array work w a node) (g.shape.g + i) (g.shape.g + j) (g.shape.g + k) ≡ edge_view g field (edge_name g.shape a b i j k)) a g.shape.n
      (λ p s t place. (lines node a s t leaf place.first place.second).at p place.along ∙ sym (view_halved g valid b leaf.leaf a p s t place field));
}

-- ---- one line of a leaf has taken its sums

same_axis : (work : Bool) (d a : Axis) → edge_var work d ≡ edge_var work a → d ≡ a
same_axis true d a is = cc
same_axis false d a is = cc

which_edges : (work : Bool) (node k : ℕ) (a d : Axis) → ((k ≡ node) × (d ≡ a)) ⊎ (edge_var work d ≡ edge_var work a → k ≡ node → ⊥)
which_edges work node k a d = elim (which_array node k (edge_var work a) (edge_var work d)) [
  | inl (is_node, is_var) ↦ inl (is_node, same_axis work d a is_var)
  | inr other ↦ inr other
]

leaf_whole : (g : Grid) (e : EdgeAt) → is_leaf_edge g e ≡ true → is_split_edge g e ≡ false
unfolding is_leaf_edge
leaf_whole g e is = not_true (is_split_edge g e) (and_right (list_any (holds (is_leaf g)) (round_edge g.shape e)) (not (is_split_edge g e)) is)

module _ (work : Bool) (n e : ℕ) (told : Told) (ranks again : List RankState) (valid : Valid told.grid) (node : ℕ) (a : Axis) (s t : ℕ) (hs : s ≤ told.grid.shape.n) (ht : t ≤ told.grid.shape.n)
    (leaf : IsLeafNode told.grid node) (finer : has_finer told.grid a (block_at told.grid node) s t ≡ true) (d : BlockAt) (u v : ℕ)
    (names : (p : ℕ) → edge_there told.grid.shape a d p u v ≡ edge_there told.grid.shape a (block_at told.grid node) p s t)
    (taken : LineTaken work n e (record { told = told; ranks = ranks }) (record { told = told; ranks = again }) node a s t d u v) (tame : IsTame work (record { told = told; ranks = ranks })) where
  abbrev old : WorldState
  old = record { told = told; ranks = ranks }

  abbrev new : WorldState
  new = record { told = told; ranks = again }

  abbrev g : Grid
  g = told.grid

  abbrev m : ℕ
  m = told.grid.shape.n

  -- a number is one that was taken, or it stays
  IsTaken : ℕ → Axis → ℕ → ℕ → Type 0
  IsTaken k x q r = (k ≡ node) × (x ≡ a) × (q ≡ s) × (r ≡ t)

  stays : (k : ℕ) (x : Axis) (p q r : ℕ) → IsEdgePlace m p q r → (k ≡ node → x ≡ a → q ≡ s → r ≡ t → ⊥) → edge_stored work new x k p q r ≡ edge_stored work old x k p q r
  stays k x p q r place apart = elim (which_edges work node k a x) [
    | inr other ↦ ap (λ xs. edge_at m told.grid.shape.g x xs p q r) (taken.only.here.others (edge_var work x) k other)
    | inl (is_node, is_axis) ↦
        subst (λ y. edge_stored work new x y p q r ≡ edge_stored work old x y p q r) (sym is_node)
        (subst (λ y. edge_stored work new y node p q r ≡ edge_stored work old y node p q r) (sym is_axis) (taken.others p q r place (λ is it. apart is_node is_axis is it)))
  ]

  away : (i j : ℕ) → (i < j) ⊎ (j < i) → i ≡ j → ⊥
  away i j (inl h) is = omega arith
  away i j (inr h) is = omega arith

  which : (k : ℕ) (x : Axis) (p q r : ℕ) → IsEdgePlace m p q r → IsTaken k x q r ⊎ (edge_stored work new x k p q r ≡ edge_stored work old x k p q r)
  unfolding IsTaken
  which k x p q r place = elim (cases_order q s) [
    | inr off ↦ inr (stays k x p q r place (λ i j is it. absurd (elim off [ inl h ↦ omega arith | inr h ↦ omega arith ])))
    | inl is_first ↦ elim (cases_order r t) [
      | inr off ↦ inr (stays k x p q r place (λ i j is it. absurd (elim off [ inl h ↦ omega arith | inr h ↦ omega arith ])))
      | inl is_second ↦ elim (which_edges work node k a x) [
        | inl (is_node, is_axis) ↦ inl (is_node, is_axis, is_first, is_second)
        | inr other ↦ inr (stays k x p q r place (λ i j is it. other (ap (edge_var work) j) i))
      ]
    ]
  ]

  -- what holds of the line that was taken holds of such a one
  taken_is : (P : ℕ → Axis → ℕ → ℕ → Type 0) (k : ℕ) (x : Axis) (q r : ℕ) → IsTaken k x q r → P node a s t → P k x q r
  unfolding IsTaken
  taken_is P k x q r (is_node, is_axis, is_first, is_second) one =
      subst (λ y. P y x q r) (sym is_node) (subst (λ y. P node y q r) (sym is_axis) (subst (λ y. P node a y r) (sym is_first) (subst (λ y. P node a s y) (sym is_second) one)))

  line_split : (p : ℕ) → p < m → is_split_edge g (edge_there g.shape a (block_at g node) p s t) ≡ true
  line_split p hp =
      split_there g (block_at g node) (cells_some valid.shape) (inside_of g valid (block_at g node) leaf.leaf) a p s t (record { along = hp; first = hs; second = ht }) (whole_of g valid (block_at g node) leaf.leaf) ∙ finer

  calm_stays : (k : ℕ) (x : Axis) (p q r : ℕ) → IsEdgePlace m p q r → has_finer g x (block_at g k) q r ≡ false → edge_stored work new x k p q r ≡ edge_stored work old x k p q r
  calm_stays k x p q r place calm = elim (which k x p q r place) [
    | inr same ↦ same
    | inl is ↦ (let stands : has_finer g x (block_at g k) q r ≡ true = taken_is (λ k x q r. has_finer g x (block_at g k) q r ≡ true) k x q r is finer in cc)
  ]

  tame_after : IsTame work new
  tame_after = record {
    calm = λ k x p q r is place calm. subst (Within (2 ^ 56)) (sym (calm_stays k x p q r place calm)) (tame.calm k x p q r is place calm);
    all = λ k x p q r is place. elim (which k x p q r place) [
      | inr same ↦ subst (Within (2 ^ 58)) (sym same) (tame.all k x p q r is place)
      | inl taken_here ↦ taken_is (λ k x q r. Within (2 ^ 58) (edge_stored work new x k p q r)) k x q r taken_here (taken.within p place.along)
    ];
  }

  line_after : (field : EdgeAt → ℤ) → LeafEdgesHold work old field → LineHolds work new field node a s t
  line_after field holds = record {
    at = λ p hp.
        let edge = edge_there g.shape a (block_at g node) p s t in
        taken.sums field holds p hp ∙ ap (sum_of_halves field) (names p) ∙ ap (λ (b : Bool). if b then sum_of_halves field edge else field edge) (sym (line_split p hp));
  }

  line_keeps : (field : EdgeAt → ℤ) (k : ℕ) (x : Axis) (q r : ℕ) → q ≤ m → r ≤ m → LeafEdgesHold work old field → LineHolds work old field k x q r → LineHolds work new field k x q r
  line_keeps field k x q r hq hr holds line = record {
    at = λ p hp. elim (which k x p q r (record { along = hp; first = hq; second = hr })) [
      | inr same ↦ same ∙ line.at p hp
      | inl is ↦
          taken_is (λ k x q r. edge_stored work new x k p q r ≡ halved g field (edge_there g.shape x (block_at g k) p q r)) k x q r is ((line_after field holds).at p hp)
    ];
  }

  leaf_edges_after : (field : EdgeAt → ℤ) → LeafEdgesHold work old field → LeafEdgesHold work new field
  unfolding edge_at edge_there
  leaf_edges_after field holds k x is = record {
    at =
        let b = block_at g k in
        let numbers : WorldState → ℕ → ℕ → ℕ → ℤ = λ w i j l. edges_in g x (edge_array work w x k) (g.shape.g + i) (g.shape.g + j) (g.shape.g + l) in
        by_line (λ i j l. is_leaf_edge g (edge_name g.shape x b i j l) ≡ true → numbers new i j l ≡ field (edge_name g.shape x b i j l)) x m
        (λ p q r place own. elim (which k x p q r place) [
          | inr same ↦ same ∙ at_line (λ i j l. is_leaf_edge g (edge_name g.shape x b i j l) ≡ true → numbers old i j l ≡ field (edge_name g.shape x b i j l)) x m (holds k x is).at p q r place own
          | inl taken_here ↦ (
              let split : is_split_edge g (edge_there g.shape x b p q r) ≡ true =
              taken_is (λ k x q r. is_split_edge g (edge_there g.shape x (block_at g k) p q r) ≡ true) k x q r taken_here (line_split p place.along) in
              let calm : is_split_edge g (edge_there g.shape x b p q r) ≡ false = leaf_whole g (edge_there g.shape x b p q r) own in
              cc)
        ]);
  }

  halved_after : AreHalved work n e old new
  halved_after = record {
    only = record {
      told = refl;
      others = λ x k apart. taken.only.here.others x k (λ is at. apart a is (subst (IsLeafNode told.grid) (sym at) leaf));
    };
    fit = taken.fit;
    tame = tame_after;
    leaf_edges = leaf_edges_after;
    keeps = λ field k x q r is hq hr holds line. line_keeps field k x q r hq hr holds line;
  }

-- the same of a world whose grid is only known to stay
module _ (work : Bool) (n e : ℕ) (old new : WorldState) (valid : Valid old.told.grid) (node : ℕ) (a : Axis) (s t : ℕ) (hs : s ≤ old.told.grid.shape.n) (ht : t ≤ old.told.grid.shape.n)
    (leaf : IsLeafNode old.told.grid node) (finer : has_finer old.told.grid a (block_at old.told.grid node) s t ≡ true) (d : BlockAt) (u v : ℕ)
    (names : (p : ℕ) → edge_there old.told.grid.shape a d p u v ≡ edge_there old.told.grid.shape a (block_at old.told.grid node) p s t)
    (taken : LineTaken work n e old new node a s t d u v) (tame : IsTame work old) where
  told_again : record { told = old.told; ranks = new.ranks } ≡ new
  told_again = λ i. record { told = sym taken.only.told i; ranks = new.ranks }

  taken_again : LineTaken work n e old (record { told = old.told; ranks = new.ranks }) node a s t d u v
  taken_again = subst (λ w. LineTaken work n e old w node a s t d u v) (sym told_again) taken

  pub line_halved : AreHalved work n e old new
  line_halved = subst (AreHalved work n e old) told_again (halved_after work n e old.told old.ranks new.ranks valid node a s t hs ht leaf finer d u v names taken_again tame)

  pub line_holds : (field : EdgeAt → ℤ) → LeafEdgesHold work old field → LineHolds work new field node a s t
  line_holds field holds =
      subst (λ w. LineHolds work w field node a s t) told_again (line_after work n e old.told old.ranks new.ranks valid node a s t hs ht leaf finer d u v names taken_again tame field holds)

-- ---- steps one after the other

pub none_halved : (work : Bool) (n e : ℕ) (w : WorldState) → IsFit n e w → IsTame work w → AreHalved work n e w w
none_halved work n e w fit tame = record {
  only = record { told = refl; others = λ x k apart. refl };
  fit = fit;
  tame = tame;
  leaf_edges = λ field holds. holds;
  keeps = λ field k x q r is hq hr holds line. line;
}

pub then_halved : (work : Bool) (n e : ℕ) (u v w : WorldState) → AreHalved work n e u v → AreHalved work n e v w → AreHalved work n e u w
then_halved work n e u v w uv vw =
    let back : (k : ℕ) → IsLeafNode v.told.grid k → IsLeafNode u.told.grid k = λ k is. subst (λ (m : Told). IsLeafNode m.grid k) uv.only.told is in
    let forth : (k : ℕ) → IsLeafNode u.told.grid k → IsLeafNode v.told.grid k = λ k is. subst (λ (m : Told). IsLeafNode m.grid k) (sym uv.only.told) is in
    let wide : (q : ℕ) → q ≤ u.told.grid.shape.n → q ≤ v.told.grid.shape.n = λ q h. subst (λ (m : Told). q ≤ m.grid.shape.n) (sym uv.only.told) h in
    record {
      only = record {
        told = vw.only.told ∙ uv.only.told;
        others = λ x k apart. vw.only.others x k (λ a is leaf. apart a is (back k leaf)) ∙ uv.only.others x k apart;
      };
      fit = vw.fit;
      tame = vw.tame;
      leaf_edges = λ field holds. vw.leaf_edges field (uv.leaf_edges field holds);
      keeps = λ field k x q r is hq hr holds line. vw.keeps field k x q r (forth k is) (wide q hq) (wide r hr) (uv.leaf_edges field holds) (uv.keeps field k x q r is hq hr holds line);
    }

-- ---- all lines have taken their sums

module _ (work : Bool) (n e : ℕ) (old new : WorldState) (valid : Valid old.told.grid) (steps : AreHalved work n e old new) (field : EdgeAt → ℤ) (holds_old : LeafEdgesHold work old field)
    (lines : (node : ℕ) (a : Axis) (s t : ℕ) → IsLeafNode old.told.grid node → s ≤ old.told.grid.shape.n → t ≤ old.told.grid.shape.n → LineHolds work new field node a s t) where
  same_told : record { told = old.told; ranks = new.ranks } ≡ new
  same_told = λ i. record { told = sym steps.only.told i; ranks = new.ranks }

  pub views_after : LeavesHoldEdges work new field
  views_after =
      subst (λ w. LeavesHoldEdges work w field) same_told
      (views_held work (record { told = old.told; ranks = new.ranks }) field valid (λ node a s t leaf hs ht. subst (λ w. LineHolds work w field node a s t) (sym same_told) (lines node a s t leaf hs ht)))

-- lines that hold go on holding
pub kept_line : (work : Bool) (n e : ℕ) (u v : WorldState) → IsSized n e u.told.grid.shape → AreHalved work n e u v → (node : ℕ) → IsLeafNode u.told.grid node → (a : Axis) (s t : ℕ) → s ≤ n → t ≤ n → (field : EdgeAt → ℤ) →
    LeafEdgesHold work u field → LineHolds work u field node a s t → LineHolds work v field node a s t
kept_line work n e u v sized uv node leaf a s t hs ht field holds line = uv.keeps field node a s t leaf (subst (λ m. s ≤ m) (sym sized.cells) hs) (subst (λ m. t ≤ m) (sym sized.cells) ht) holds line
