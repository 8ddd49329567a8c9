-- What leaves have in common with others is the same in each, and where it counts a leaf that is filled before has it.
use Rattle.std.proofs.Common.{◌≡◌, ℕ, zero, suc, ◌+◌, ◌*◌, ◌<◌, ◌≤◌, ◌⊎◌, Bool, true, false, not, ◌&&◌, ◌||◌, ◌==◌, Some, length, refl, sym, ap, subst, ◌∙◌, arith, inl, inr, lt-ltb, eq-eqb, eqb-true, ℤ}
use Rattle.std.specs.Prelude.{if◌then◌else◌, nat_lt}
use Rattle.std.proofs.lemmas.Bool.{cases_Bool}
use Rattle.amr_num.specs.declared.Axis.{Axis}
use Rattle.amr_num.specs.declared.Axis.TheVariants.{X, Y, Z}
use Rattle.amr_num.specs.declared.BlockAt.{BlockAt}
use Rattle.block_tree.specs.declared.directions.Direction.{Direction}
use Rattle.block_tree.specs.Directions.{block_toward, toward_on}
use Rattle.block_tree.specs.Numbered.{IsNode, block_at}
use Rattle.block_tree.proofs.Leaves.{leaf_node}
use Rattle.block_tree.proofs.Members.{at_in, before_at}
use Rattle.check_format.specs.Own.{Place, goes_up, is_own, part_at}
use Rattle.check_format.specs.Written.{is_own_place, many}
use Rattle.check_format.proofs.Sharing.{Chosen, IsPlace, has, moved_place, named, place_toward, toward_is, toward_parts}
use Rattle.check_format.proofs.Taking.{other_says}
use Rattle.mesh_model.specs.declared.fields.values.Group.{Group}
use Rattle.mesh_model.specs.Tree.Kinds.{Grid, is_leaf_block, is_split_block}
use Rattle.mesh_model.specs.Tree.Order.{IsIn, Sorted, key, nodes}
use Rattle.mesh_model.specs.Tree.ValidGrid.{Valid}
use Rattle.mesh_model.proofs.TreeLemmas.Nodes.{nodes_sorted}
use Rattle.mesh_model.proofs.TreeLemmas.Tests.{and_both, either_true, or_left, or_right}
use Rattle.mesh_model.proofs.TreeLemmas.Tiling.{leaf_says, leaf_shows}
use Rattle.rank_world.specs.Holding.{IsLeafNode}
use Rattle.mesh_restore.specs.Filling.{IsPlaceOf, IsShared, Wanted, part_of, stands}
use Rattle.mesh_restore.specs.Sources.{IsChoice, IsLeafToward, comes_before, goes_only_up, seen_at, seen_place}
use Rattle.mesh_restore.proofs.PlaceLemmas.{many_is}

-- ---- places as others count them

seen_is : (n s i : ℕ) → place_toward n s i ≡ seen_at n s i
seen_is n zero i = refl
seen_is n (suc zero) i = refl
seen_is n (suc (suc s)) i = refl

seen_places : (n : ℕ) (d : Direction) (p : Place) → moved_place n d p ≡ seen_place n d p
seen_places n d p = λ t. record { x = seen_is n d.x p.x t; y = seen_is n d.y p.y t; z = seen_is n d.z p.z t }

chosen_of : (d part : Direction) → IsChoice d part → Chosen d part
chosen_of d part c = record { x = c.x; y = c.y; z = c.z }

choice_of : (d part : Direction) → Chosen d part → IsChoice d part
choice_of d part c = record { x = c.x; y = c.y; z = c.z }

-- ---- the leaf itself, on axes of one root: with the steps up alone it lies beside itself too

abbrev up_step : ℕ → ℕ
up_step s = if s == 2 then 2 else 1

abbrev ups : Direction → Direction
ups d = record { x = up_step d.x; y = up_step d.y; z = up_step d.z }

up_or_one : (s : ℕ) → (up_step s ≡ 1) ⊎ ((up_step s ≡ s) × (s ≡ 2))
up_or_one s = elim (cases_Bool (s == 2)) [
  | inl t ↦ (let two = eqb-true s 2 t in inr (ap (λ u. if u then 2 else 1) t ∙ sym two, two))
  | inr f ↦ inl (ap (λ u. if u then 2 else 1) f)
]

up_choice : (s t : ℕ) → (s ≡ 1) ⊎ (s ≡ t) → (up_step s ≡ 1) ⊎ (up_step s ≡ t)
up_choice s t c = elim (up_or_one s) [
  | inl one ↦ inl one
  | inr same ↦ elim c [ inl one ↦ inl (same.0 ∙ one) | inr is ↦ inr (same.0 ∙ is) ]
]

up_toward : (periodic : Bool) (s e x : ℕ) → toward_on periodic s e x ≡ Some x → toward_on periodic (up_step s) e x ≡ Some x
up_toward periodic s e x is = elim (up_or_one s) [
  | inl one ↦ ap (λ u. toward_on periodic u e x) one
  | inr same ↦ ap (λ u. toward_on periodic u e x) same.0 ∙ is
]

up_some : (s : ℕ) → (s == 2) ≡ true → (up_step s == 2) ≡ true
up_some s t = ap (λ u. (if u then 2 else 1) == 2) t

up_none : (s : ℕ) → (up_step s == 0) ≡ false
up_none s = elim (cases_Bool (s == 2)) [
  | inl t ↦ ap (λ u. (if u then 2 else 1) == 0) t
  | inr f ↦ ap (λ u. (if u then 2 else 1) == 0) f
]

only_up : (d : Direction) → goes_up d ≡ true → goes_only_up (ups d) ≡ true
only_up d up =
    let some : goes_up (ups d) ≡ true = elim (either_true (d.x == 2) ((d.y == 2) || (d.z == 2)) up) [
      | inl x ↦ or_left (up_step d.x == 2) _ (up_some d.x x)
      | inr rest ↦ or_right (up_step d.x == 2) _ (elim (either_true (d.y == 2) (d.z == 2) rest) [
        | inl y ↦ or_left (up_step d.y == 2) _ (up_some d.y y)
        | inr z ↦ or_right (up_step d.y == 2) _ (up_some d.z z)
      ])
    ] in
    and_both _ _ some ((λ t. not (up_none d.x t || (up_none d.y t || up_none d.z t))))

-- ---- items at places, by their names

module _ (A : Type 0) (g : Grid) (valid : Valid g) (order : Sorted g.leaves) (group : Group) (name : BlockAt → Axis → Place → A)
    (same_name : (b c : BlockAt) (a : Axis) (p q : Place) → named g.shape (stands group a) c q ≡ named g.shape (stands group a) b p → name c a q ≡ name b a p) (field : A → ℤ) (passes : A → Bool) where
  unfoldable pub wanted : Wanted
  wanted = record { value = λ b a p. field (name b a p); counts = λ b a p. passes (name b a p) }

  place_is : (a : Axis) (p : Place) → IsPlaceOf g group a p → IsPlace g.shape.n (stands group a) p
  place_is a p h = record {
    x = subst (λ m. p.x < m) (many_is g group a X) h.x;
    y = subst (λ m. p.y < m) (many_is g group a Y) h.y;
    z = subst (λ m. p.z < m) (many_is g group a Z) h.z;
  }

  names_meet : (b c : BlockAt) (a : Axis) (p : Place) (d : Direction) → is_leaf_block g b ≡ true → IsPlaceOf g group a p → IsChoice d (part_of g.shape.n group a p) → block_toward g.shape d b ≡ Some c → name c a (seen_place g.shape.n d p) ≡ name b a p
  names_meet b c a p d leaf h choice toward =
      same_name b c a p (seen_place g.shape.n d p)
      (ap (named g.shape (stands group a) c) (sym (seen_places g.shape.n d p))
      ∙ (has g.shape valid.shape.cells (stands group a) b c (valid.tiles.inside b (leaf_says g b leaf)) p d (place_is a p h) (chosen_of d _ choice) toward).name)

  -- the node of a leaf that comes before
  earlier_node : (node : ℕ) → IsLeafNode g node → (c : BlockAt) → is_leaf_block g c ≡ true → key c < key (block_at g node) → (other : ℕ) × IsNode g other × (block_at g other ≡ c) × (other < node)
  unfolding block_at
  earlier_node node leaf c is early =
      let found = at_in c (nodes g.leaves) (leaf_node g valid c (leaf_says g c is)) in
      (found.0, found.1, found.2, before_at (nodes g.leaves) (nodes_sorted g valid order) found.0 node found.1 leaf.there (subst (λ u. key u < key (block_at g node)) (sym found.2) early))

  -- items of the group pass only where no split block lies towards them
  module _ (by_parts : (b : BlockAt) (a : Axis) (p : Place) → is_own_place group g b a p ≡ is_own g b (part_of g.shape.n group a p))
      (calm : (b : BlockAt) (a : Axis) (p : Place) → IsIn b g.leaves → IsPlace g.shape.n (stands group a) p → passes (name b a p) ≡ true → (d : Direction) (c : BlockAt) → Chosen d (part_of g.shape.n group a p) → block_toward g.shape d b ≡ Some c → is_split_block g c ≡ true → ⊥) where
    abbrev Before : ℕ → Axis → Place → Type 0
    Before node a p = (d : Direction) × (other : ℕ) × IsChoice d (part_of g.shape.n group a p) × IsLeafToward g node d other × (comes_before node d other ≡ true)

    in_self : (node : ℕ) (a : Axis) (p : Place) → IsLeafNode g node → (d : Direction) → Chosen d (part_of g.shape.n group a p) → block_toward g.shape d (block_at g node) ≡ Some (block_at g node) → goes_up d ≡ true → Before node a p
    in_self node a p leaf d chosen toward up =
        let b = block_at g node in
        let part = part_of g.shape.n group a p in
        let parts = toward_parts g.shape d b b toward in (
          ups d,
          node,
          record { x = up_choice d.x part.x chosen.x; y = up_choice d.y part.y chosen.y; z = up_choice d.z part.z chosen.z },
          record {
            there = leaf.there;
            leaf = leaf.leaf;
            toward = toward_is g.shape (ups d) b b refl (up_toward _ d.x _ b.x parts.1) (up_toward _ d.y _ b.y parts.2) (up_toward _ d.z _ b.z parts.3);
          },
          or_right (nat_lt node node) _ (and_both (node == node) (goes_only_up (ups d)) (eq-eqb node node refl) (only_up d up)),
        )

    in_leaf : (node : ℕ) (a : Axis) (p : Place) → IsLeafNode g node → (d : Direction) (c : BlockAt) → Chosen d (part_of g.shape.n group a p) → block_toward g.shape d (block_at g node) ≡ Some c → is_leaf_block g c ≡ true → key c < key (block_at g node) → Before node a p
    in_leaf node a p leaf d c chosen toward is early =
        let found = earlier_node node leaf c is early in (
          d,
          found.0,
          choice_of d _ chosen,
          record { there = found.1; leaf = ap (is_leaf_block g) found.2 ∙ is; toward = toward ∙ ap Some (sym found.2) },
          or_left (nat_lt found.0 node) _ (lt-ltb found.0 node found.3),
        )

    pub found_before : (node : ℕ) (a : Axis) (p : Place) → IsLeafNode g node → IsPlaceOf g group a p → is_own_place group g (block_at g node) a p ≡ false → passes (name (block_at g node) a p) ≡ true → Before node a p
    found_before node a p leaf h other counts =
        let b = block_at g node in
        let i = leaf_says g b leaf.leaf in
        let from = other_says g valid b i (part_of g.shape.n group a p) (sym (by_parts b a p) ∙ other) in
        elim from.4 [
          | inl self ↦ in_self node a p leaf from.0 from.2 (from.3 ∙ ap Some self.0) self.1
          | inr (inl split) ↦ absurd (calm b a p i (place_is a p h) counts from.0 from.1 from.2 from.3 split)
          | inr (inr early) ↦ in_leaf node a p leaf from.0 from.1 from.2 from.3 early.0 early.1
        ]

    pub are_shared : IsShared g group wanted
    unfolding wanted
    are_shared = record {
      value = λ b c a p d leaf h choice toward. ap field (names_meet b c a p d leaf h choice toward);
      counts = λ b c a p d leaf h choice toward. ap passes (names_meet b c a p d leaf h choice toward);
      found = found_before;
    }

  -- where all stand under each leaf
  pub all_shared : ((b : BlockAt) (a : Axis) (p : Place) → is_own_place group g b a p ≡ true) → IsShared g group wanted
  unfolding wanted
  all_shared all = record {
    value = λ b c a p d leaf h choice toward. ap field (names_meet b c a p d leaf h choice toward);
    counts = λ b c a p d leaf h choice toward. ap passes (names_meet b c a p d leaf h choice toward);
    found = λ node a p leaf h other counts. absurd (let own = all (block_at g node) a p in cc);
  }
