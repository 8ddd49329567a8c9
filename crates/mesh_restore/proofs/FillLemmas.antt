-- Arrays that are filled, place after place.
use Rattle.std.proofs.Common.{◌≡◌, ℕ, zero, suc, ◌+◌, ◌-◌, ◌*◌, ◌<◌, ◌≤◌, ◌⊎◌, Bool, true, false, ◌&&◌, ◌||◌, ◌==◌, Option, List, [], ◌∷◌, ◌++◌, length, map, filter, flat_map, drop, get_or, set, ℤ, pos, refl, sym, ap, ap₂, subst, ◌∙◌, arith, inl, inr, cond, append_assoc, append-nil, zero-add, ltb-true, eqb-true}
use Rattle.std.specs.Prelude.{nat_lt}
use Rattle.std.specs.List.{range_with_len}
use Rattle.std.proofs.lemmas.Bool.{cases_Bool, cases_lt, cases_order}
use Rattle.std.proofs.lemmas.Grind.{flat_map-append}
use Rattle.std.proofs.lemmas.List.{get_or-drop, get_or-set_other, get_or-set_same, length-set, map-append}
use Rattle.std.proofs.lemmas.List.Elements.{filter-append}
use Rattle.amr_num.specs.Numbers.{Within}
use Rattle.amr_num.specs.declared.Axis.{Axis}
use Rattle.amr_num.specs.declared.Axis.TheVariants.{X, Y, Z}
use Rattle.amr_num.specs.declared.BlockAt.{BlockAt}
use Rattle.block_tree.specs.declared.directions.Direction.{Direction}
use Rattle.block_tree.specs.Interior as interior
use Rattle.block_tree.specs.Interior.{array_on}
use Rattle.block_tree.specs.Numbered.{IsNode, block_at}
use Rattle.block_tree.proofs.ByNumber.{range_apart}
use Rattle.check_format.specs.declared.own.Own.{Own}
use Rattle.check_format.specs.Own.{Place, place}
use Rattle.check_format.specs.Written.{is_own_place, many}
use Rattle.mesh_model.specs.declared.fields.values.Group.{Group}
use Rattle.mesh_model.specs.declared.fields.values.Var.{Var}
use Rattle.mesh_model.specs.Fields.ArrayPlaces.{extents_of, number_at}
use Rattle.mesh_model.specs.Fields.Arrays.{HasVar, array_in}
use Rattle.mesh_model.specs.Fields.Ranks.{OnlyOf, Told, WorldState, rank_at}
use Rattle.mesh_model.specs.Geometry.Limits.{IsShape}
use Rattle.mesh_model.specs.Tree.Kinds.{Grid, is_leaf_block}
use Rattle.mesh_model.proofs.FieldLemmas.Worlds.{only_of_again, only_of_none}
use Rattle.mesh_model.proofs.TreeLemmas.Tests.{and_left, and_right, either_true}
use Rattle.rank_world.specs.Holding.{IsLeafNode}
use Rattle.rank_world.proofs.Puts.{which_array}
use Rattle.mesh_restore.specs.declared.sources.Source.{Source}
use Rattle.mesh_restore.specs.Filling.{AreWithin, ArraysWithin, HasBelow, HaveBefore, IsBeside, IsFilledLeaf, IsFilling, IsPlaceOf, IsPutAt, IsShared, Wanted, number_in, order_of, own_numbers, part_of}
use Rattle.mesh_restore.specs.Sources.{HasNoSource, IsChoice, IsLeafToward, IsSource, comes_before, goes_only_up, seen_place}
use Rattle.mesh_restore.proofs.PlaceLemmas.{many_few, same_place, seen_lower, seen_there, small}

-- ---- numbers of other leaves

module _ (g : Grid) (shape : IsShape g.shape) (w : WorldState) (group : Group) (a : Axis) (node : ℕ) (leaf : IsLeafNode g node) (p : Place) (inside : IsPlaceOf g group a p) where
  -- where no leaf filled before has it, it does not count
  pub none_beside : ((d : Direction) → IsChoice d (part_of g.shape.n group a p) → HasNoSource g node d) → IsBeside g w group a node p (pos 0)
  none_beside none = record {
    wanted = λ v shared before below other counts.
        let f = shared.found node a p leaf inside other counts in
        let late = (none f.0 f.2).none f.1 f.3 in
        let early = f.4 in
        cc;
    within = λ most small. omega arith;
  }

  -- the number of a leaf that was filled before
  pub some_beside : (s : Source) → IsSource g node s → IsChoice s.toward (part_of g.shape.n group a p) → (z : ℤ) → z ≡ number_in g w group a s.node (seen_place g.shape.n s.toward p) → IsBeside g w group a node p z
  some_beside s source chosen z is = record {
    wanted = λ v shared before below other counts.
        let toward = source.leaf.toward in
        let there = seen_there g shape group a p s.toward inside chosen in
        let same = shared.value (block_at g node) (block_at g s.node) a p s.toward leaf.leaf inside chosen toward in
        let count = shared.counts (block_at g node) (block_at g s.node) a p s.toward leaf.leaf inside chosen toward ∙ counts in
        elim (either_true (nat_lt s.node node) ((s.node == node) && goes_only_up s.toward) source.before) [
          | inl early ↦ is ∙ before.at s.node (ltb-true s.node node early) (record { there = source.leaf.there; leaf = source.leaf.leaf }) (seen_place g.shape.n s.toward p) there count ∙ same
          | inr self ↦
              let here : s.node ≡ node = eqb-true s.node node (and_left (s.node == node) (goes_only_up s.toward) self) in
              let lower = seen_lower g shape group a p s.toward inside chosen (and_right (s.node == node) (goes_only_up s.toward) self) in
              is ∙ ap (λ u. number_in g w group a u (seen_place g.shape.n s.toward p)) here
              ∙ below.at (seen_place g.shape.n s.toward p) there lower (subst (λ u. v.counts (block_at g u) a (seen_place g.shape.n s.toward p) ≡ true) here count)
              ∙ ap (λ u. v.value (block_at g u) a (seen_place g.shape.n s.toward p)) (sym here) ∙ same
        ];
    within = λ most small. subst (Within most) (sym is) (small.at s.node a (seen_place g.shape.n s.toward p) (record { there = source.leaf.there; leaf = source.leaf.leaf }) (seen_there g shape group a p s.toward inside chosen));
  }

-- ---- one array changes

-- the leaves before have what they had
pub before_stays : (g : Grid) (group : Group) (v : Wanted) (old new : WorldState) (node : ℕ) (a : Axis) → OnlyOf old new 0 (array_on group a) node → HaveBefore g group v old node a → HaveBefore g group v new node a
before_stays g group v old new node a only before = record {
  at = λ other less leaf p inside counts.
      ap (λ xs. number_at (extents_of g.shape.n g.shape.g (array_on group a)) xs (g.shape.g + p.x) (g.shape.g + p.y) (g.shape.g + p.z))
      (only.here.others (array_on group a) other (λ e here. absurd (omega (arith, here, less))))
      ∙ before.at other less leaf p inside counts;
}

module _ (g : Grid) (shape : IsShape g.shape) (group : Group) (a : Axis) (node : ℕ) (p : Place) (inside : IsPlaceOf g group a p) (z : ℤ) (old new : WorldState) (put : IsPutAt g group a node p z old new) where
  -- one place more has what is wanted
  pub below_next : (v : Wanted) → HasBelow g group v old node a (order_of p) → (v.counts (block_at g node) a p ≡ true → z ≡ v.value (block_at g node) a p) → HasBelow g group v new node a (order_of p + 1)
  below_next v below is = record {
    at = λ q there less counts. elim (cases_lt (order_of q) (order_of p)) [
      | inl lower ↦ put.others q there (λ e. let same = ap order_of e in absurd (omega (arith, same, lower))) ∙ below.at q there lower counts
      | inr more ↦
          let last : q ≡ p = same_place g shape group a q p there inside (omega (arith, less, more)) in
          ap (number_in g new group a node) last ∙ put.here ∙ is (ap (λ u. v.counts (block_at g node) a u) (sym last) ∙ counts) ∙ ap (v.value (block_at g node) a) (sym last)
    ];
  }

  by_place : (q : Place) → IsPlaceOf g group a q → (q ≡ p) ⊎ (q ≡ p → ⊥)
  by_place q there = elim (cases_order (order_of q) (order_of p)) [
    | inl same ↦ inl (same_place g shape group a q p there inside same)
    | inr apart ↦ inr (λ e. let same = ap order_of e in absurd (elim apart [ inl h ↦ omega (arith, same, h) | inr h ↦ omega (arith, same, h) ]))
  ]

  -- small numbers stay small
  pub within_next : (most : ℕ) → Within most z → ArraysWithin g group most old → ArraysWithin g group most new
  within_next most small before = record {
    at = λ k c q leaf there. elim (which_array node k (array_on group a) (array_on group c)) [
      | inr other ↦ subst (λ xs. Within most (number_at (extents_of g.shape.n g.shape.g (array_on group c)) xs (g.shape.g + q.x) (g.shape.g + q.y) (g.shape.g + q.z))) (sym (put.only.here.others (array_on group c) k other)) (before.at k c q leaf there)
      | inl (is_node, is_var) ↦ (
          let here : (k : ℕ) → Within most (number_in g old group c k q) → k ≡ node → Within most (number_in g new group c k q) = (λ k was same. changed q c is_var there k was same) in
          here k (before.at k c q leaf there) is_node)
    ];
  }
    where
      changed : (q : Place) (c : Axis) → array_on group c ≡ array_on group a → IsPlaceOf g group c q → (k : ℕ) → Within most (number_in g old group c k q) → k ≡ node → Within most (number_in g new group c k q)
      changed q c same there k was is_node =
          let by : Var → WorldState → ℕ → ℤ = λ var w u. number_at (extents_of g.shape.n g.shape.g var) (array_in (rank_at w 0).own.values var u) (g.shape.g + q.x) (g.shape.g + q.y) (g.shape.g + q.z) in
          let old_here : Within most (by (array_on group a) old node) = subst (λ u. Within most (by (array_on group a) old u)) is_node (subst (λ var. Within most (by var old k)) same was) in
          let inside_here : IsPlaceOf g group a q = record {
            x = subst (λ var. q.x < places var X) same there.x;
            y = subst (λ var. q.y < places var Y) same there.y;
            z = subst (λ var. q.z < places var Z) same there.z;
          } in
          let new_here : Within most (by (array_on group a) new node) = elim (by_place q inside_here) [
            | inl last ↦ subst (Within most) (sym (ap (number_in g new group a node) last ∙ put.here)) small
            | inr apart ↦ subst (Within most) (sym (put.others q inside_here apart)) old_here
          ] in
          subst (λ u. Within most (by (array_on group c) new u)) (sym is_node) (subst (λ var. Within most (by var new node)) (sym same) new_here)
        where
          places : Var → Axis → ℕ
          places var b = interior.places_along g.shape.n var b

-- ---- lists

-- small numbers stay small where the first is taken
pub within_rest : (most : ℕ) (xs : List ℤ) → AreWithin most xs → AreWithin most (drop 1 xs)
within_rest most xs small k = subst (Within most) (sym (get_or-drop 1 xs k (pos 0))) (small (1 + k))

own_more : (g : Grid) (group : Group) (v : Wanted) (b : BlockAt) (a : Axis) (ps qs : List Place) → own_numbers g group v b a (ps ++ qs) ≡ own_numbers g group v b a ps ++ own_numbers g group v b a qs
own_more g group v b a ps qs =
    ap (map (v.value b a)) (filter-append (is_own_place group g b a) ps qs)
    ∙ map-append (v.value b a) (filter (is_own_place group g b a) ps) (filter (is_own_place group g b a) qs)

own_one : (g : Grid) (group : Group) (v : Wanted) (b : BlockAt) (a : Axis) (p : Place) (u : Bool) → is_own_place group g b a p ≡ u → own_numbers g group v b a (p ∷ []) ≡ map (v.value b a) (cond u (p ∷ []) [])
own_one g group v b a p u is = ap (λ t. map (v.value b a) (cond t (p ∷ []) [])) is

-- ---- a place is filled

module _ (g : Grid) (shape : IsShape g.shape) (group : Group) (a : Axis) (node : ℕ) (p : Place) (inside : IsPlaceOf g group a p) (z : ℤ) (old new : WorldState) (put : IsPutAt g group a node p z old new) (rest : List ℤ) where
  -- with the next number, where it stands under the leaf
  pub own_filled : is_own_place group g (block_at g node) a p ≡ true → z ≡ get_or rest 0 (pos 0) → IsFilling g group a node (order_of p) (order_of p + 1) (p ∷ []) old new rest (drop 1 rest)
  own_filled own is = record {
    only = put.only;
    filled = λ v tail shared before below numbers.
        let all : rest ≡ v.value (block_at g node) a p ∷ tail = numbers ∙ ap (λ u. u ++ tail) (own_one g group v (block_at g node) a p true own) in (
          below_next g shape group a node p inside z old new put v below (λ counts. is ∙ ap (λ xs. get_or xs 0 (pos 0)) all),
          ap (drop 1) all,
        );
    within = λ most small before. (within_rest most rest small, within_next g shape group a node p inside z old new put most (subst (Within most) (sym is) (small 0)) before);
  }

  -- with a number of another leaf, where it does not
  pub beside_filled : is_own_place group g (block_at g node) a p ≡ false → IsBeside g old group a node p z → IsFilling g group a node (order_of p) (order_of p + 1) (p ∷ []) old new rest rest
  beside_filled other is = record {
    only = put.only;
    filled = λ v tail shared before below numbers. (
      below_next g shape group a node p inside z old new put v below (λ counts. is.wanted v shared before below other counts),
      numbers ∙ ap (λ u. u ++ tail) (own_one g group v (block_at g node) a p false other),
    );
    within = λ most small before. (small, within_next g shape group a node p inside z old new put most (is.within most before) before);
  }

-- ---- one place after another

module _ (g : Grid) (group : Group) (a : Axis) (node : ℕ) where
  -- nothing is filled
  pub nothing_filled : (q : ℕ) (w : WorldState) (rest : List ℤ) → IsFilling g group a node q q [] w w rest rest
  nothing_filled q w rest = record {
    only = only_of_none w 0 (array_on group a) node;
    filled = λ v tail shared before below numbers. (below, numbers);
    within = λ most small before. (small, before);
  }

  -- some places, and then others
  pub filled_again : (q r s : ℕ) (ps qs : List Place) (old now new : WorldState) (rest more left : List ℤ) →
      IsFilling g group a node q r ps old now rest more → IsFilling g group a node r s qs now new more left → IsFilling g group a node q s (ps ++ qs) old new rest left
  filled_again q r s ps qs old now new rest more left one two = record {
    only = only_of_again old now new 0 (array_on group a) node one.only two.only;
    filled = λ v tail shared before below numbers.
        let b = block_at g node in
        let first = one.filled v (own_numbers g group v b a qs ++ tail) shared before below
        (numbers ∙ ap (λ u. u ++ tail) (own_more g group v b a ps qs) ∙ append_assoc (own_numbers g group v b a ps) (own_numbers g group v b a qs) tail) in
        two.filled v tail shared (before_stays g group v old now node a one.only before) first.0 first.1;
    within = λ most small before. let first = one.within most small before in two.within most first.0 first.1;
  }

  -- where no places lie between
  pub filled_to : (q r s : ℕ) (ps : List Place) (old new : WorldState) (rest left : List ℤ) → IsFilling g group a node q r ps old new rest left → ((p : Place) → IsPlaceOf g group a p → order_of p < s → order_of p < r) →
      IsFilling g group a node q s ps old new rest left
  filled_to q r s ps old new rest left is none = record {
    only = is.only;
    filled = λ v tail shared before below numbers.
        let both = is.filled v tail shared before below numbers in
        (record { at = λ p inside less counts. both.0.at p inside (none p inside less) counts }, both.1);
    within = is.within;
  }

-- ---- lists of places that grow

pub map_next : {A : Type 0} (f : ℕ → A) (j : ℕ) → map f (range_with_len 0 (j + 1)) ≡ map f (range_with_len 0 j) ++ (f j ∷ [])
map_next f j = ap (map f) (range_apart 0 j 1) ∙ map-append f (range_with_len 0 j) (range_with_len (0 + j) 1) ∙ ap (λ k. map f (range_with_len 0 j) ++ (f k ∷ [])) (zero-add j)

-- ---- loops over places

module _ (group : Group) (a : Axis) (node : ℕ) where
  -- some places, and then others, each in the words of the world before
  pub filled_next : (q r s : ℕ) (ps : List Place) (qs : Grid → List Place) (old now new : WorldState) (rest more left : List ℤ) →
      IsFilling old.told.grid group a node q r ps old now rest more → IsFilling now.told.grid group a node r s (qs now.told.grid) now new more left →
      IsFilling old.told.grid group a node q s (ps ++ qs old.told.grid) old new rest left
  filled_next q r s ps qs old now new rest more left one two =
      filled_again old.told.grid group a node q r s ps (qs old.told.grid) old now new rest more left one
      (subst (λ (t : Told). IsFilling t.grid group a node r s (qs t.grid) now new more left) one.only.told two)

  pub filled_as : (g : Grid) (q r s : ℕ) (ps qs : List Place) (old new : WorldState) (rest left : List ℤ) → ps ≡ qs → r ≡ s → IsFilling g group a node q r ps old new rest left → IsFilling g group a node q s qs old new rest left
  filled_as g q r s ps qs old new rest left same to is = subst (λ u. IsFilling g group a node q s u old new rest left) same (subst (λ u. IsFilling g group a node q u ps old new rest left) to is)

module _ (g : Grid) (shape : IsShape g.shape) (group : Group) (a : Axis) where
  pub row_ends : (j k : ℕ) (p : Place) → IsPlaceOf g group a p → order_of p < 16 * (j + 1) + 256 * k → order_of p < many g group a X + (16 * j + 256 * k)
  row_ends j k p inside less =
      let x = inside.x in
      let few = many_few g shape group a X in
      omega (arith, less, x, few)

  pub plane_ends : (k : ℕ) (p : Place) → IsPlaceOf g group a p → order_of p < 256 * (k + 1) → order_of p < 16 * many g group a Y + 256 * k
  plane_ends k p inside less =
      let y = inside.y in
      let s = small g shape group a p inside in
      let sx = s.0 in
      let few = many_few g shape group a Y in
      omega (arith, less, y, sx, few)

  pub array_ends : (p : Place) → IsPlaceOf g group a p → order_of p < 4096 → order_of p < 256 * many g group a Z
  array_ends p inside less =
      let z = inside.z in
      let s = small g shape group a p inside in
      let sx = s.0 in
      let sy = s.1 in
      omega (arith, z, sx, sy)

-- what is known of a leaf and of a world holds of a later world
pub leaf_later : (old now : WorldState) (node : ℕ) (own : Own) (sources : List (Option Source)) → now.told ≡ old.told → IsFilledLeaf old.told.grid node own sources → IsFilledLeaf now.told.grid node own sources
leaf_later old now node own sources same is = subst (λ (t : Told). IsFilledLeaf t.grid node own sources) (sym same) is

pub declared_later : (old now : WorldState) (var : Var) → now.told ≡ old.told → HasVar old.told.counts var → HasVar now.told.counts var
declared_later old now var same is = subst (λ (t : Told). HasVar t.counts var) (sym same) is
