-- Leaves that are filled before others, in all directions.
use Rattle.std.proofs.Common.{◌≡◌, ℕ, suc, ◌+◌, ◌/◌, ◌%◌, ◌<◌, ◌≤◌, ◌⊎◌, Bool, true, false, ◌==◌, Option, Some, None, is_some, List, length, set, get_or, refl, sym, ap, subst, ◌∙◌, arith, inl, inr, if◌then◌else◌}
use Rattle.std.specs.Option.{unwrap_or, MatchOption}
use Rattle.std.proofs.lemmas.Bool.{cases_Bool, cases_lt}
use Rattle.std.proofs.lemmas.List.{get_or-set_other, get_or-set_same, length-set}
use Rattle.amr_num.specs.declared.BlockAt.{BlockAt}
use Rattle.block_tree.specs.declared.directions.Direction.{Direction}
use Rattle.block_tree.specs.Directions.{block_toward, direction_of}
use Rattle.block_tree.specs.Numbered.{IsNode, IsNumberOf, block_at}
use Rattle.block_tree.proofs.Members.{one_place}
use Rattle.check_format.proofs.Taking.{numbered}
use Rattle.mesh_model.specs.Fields.FaceSplits.{direction}
use Rattle.mesh_model.specs.Tree.Kinds.{Grid, is_leaf_block}
use Rattle.mesh_model.specs.Tree.Order.{Sorted, key, nodes}
use Rattle.mesh_model.specs.Tree.ValidGrid.{Valid}
use Rattle.mesh_model.proofs.TreeLemmas.Nodes.{nodes_sorted}
use Rattle.mesh_restore.specs.declared.sources.Source.{Source}
use Rattle.mesh_restore.specs.Sources.{AreSources, AreSourcesBelow, HasNoSource, IsChoice, IsLeafToward, IsSource, IsSourceRound, IsSourceToward, choice_of, comes_before}

-- ---- in one direction

same_block : (b c : BlockAt) → Some b ≡ Some c → b ≡ c
same_block b c is = ap (λ o. unwrap_or o b) is

module _ (g : Grid) (node : ℕ) (d : Direction) where
  pub no_block : block_toward g.shape d (block_at g node) ≡ None → HasNoSource g node d
  no_block none = record { none = λ other is. let there = is.toward in cc }

  module _ (c : BlockAt) (toward : block_toward g.shape d (block_at g node) ≡ Some c) where
    pub no_leaf : is_leaf_block g c ≡ false → HasNoSource g node d
    no_leaf none = record { none = λ other is. let same = ap (is_leaf_block g) (same_block c (block_at g other) (sym toward ∙ is.toward)) in let leaf = is.leaf in cc }

    pub not_before : Valid g → Sorted g.leaves → (found : ℕ) → IsNumberOf g c found → comes_before node d found ≡ false → HasNoSource g node d
    unfolding block_at
    not_before valid order found number late = record {
      none = λ other is.
          let same : block_at g other ≡ block_at g found = sym (same_block c (block_at g other) (sym toward ∙ is.toward)) ∙ sym number.block in
          let one : other ≡ found = one_place (nodes g.leaves) (nodes_sorted g valid order) other found is.there number.there (ap key same) in
          ap (comes_before node d) one ∙ late;
    }

    pub is_source : (found : ℕ) → IsNumberOf g c found → is_leaf_block g c ≡ true → comes_before node d found ≡ true → IsSource g node (record { node = found; toward = d })
    is_source found number leaf before = record {
      leaf = record { there = number.there; leaf = ap (is_leaf_block g) number.block ∙ leaf; toward = toward ∙ ap Some (sym number.block) };
      before = before;
    }

-- ---- in all directions

pub no_sources : (g : Grid) (node : ℕ) (sources : List (Option Source)) → length sources ≡ 27 → AreSourcesBelow g node 0 sources
no_sources g node sources size = record { size = size; each = λ d h. absurd (omega (arith, h)) }

pub next_source : (g : Grid) (node many : ℕ) (sources : List (Option Source)) (found : Option Source) → AreSourcesBelow g node many sources → many < 27 → IsSourceToward g node (direction_of many) found →
    AreSourcesBelow g node (many + 1) (set sources many found)
next_source g node many sources found before few is = record {
  size = length-set sources many found ∙ before.size;
  each = λ d h. elim (cases_lt d many) [
    | inl less ↦ subst (IsSourceToward g node (direction_of d)) (sym (get_or-set_other sources many d found None (λ e. absurd (omega (arith, e, less))))) (before.each d less)
    | inr more ↦
        let last : many ≡ d = omega (arith, h, more) in
        let size = before.size in
        subst (λ e. IsSourceToward g node (direction_of e) (get_or (set sources many found) e None)) last
        (subst (IsSourceToward g node (direction_of many)) (sym (get_or-set_same sources many found None (omega (arith, few, size)))) is)
  ];
}

-- ---- round a part of the boundary

direction_is : (d e : Direction) → d.x ≡ e.x → d.y ≡ e.y → d.z ≡ e.z → d ≡ e
direction_is d e x y z = λ i. record { x = x i; y = y i; z = z i }

one_or : (t : Bool) (s : ℕ) → ((if t then s else 1) ≡ 1) ⊎ ((if t then s else 1) ≡ s)
one_or true s = inr refl
one_or false s = inl refl

pub choice_is : (part : Direction) (bits : ℕ) → IsChoice (choice_of part bits) part
choice_is part bits = record { x = one_or (bits % 2 == 0) part.x; y = one_or (bits / 2 % 2 == 0) part.y; z = one_or (bits / 4 % 2 == 0) part.z }

choice_found : (d part : Direction) → IsChoice d part → (bits : ℕ) × (bits < 8) × (choice_of part bits ≡ d)
choice_found d part c = go c.x c.y c.z
  where
    go : (d.x ≡ 1) ⊎ (d.x ≡ part.x) → (d.y ≡ 1) ⊎ (d.y ≡ part.y) → (d.z ≡ 1) ⊎ (d.z ≡ part.z) → (bits : ℕ) × (bits < 8) × (choice_of part bits ≡ d)
    go (inr x) (inr y) (inr z) = (0, omega arith, direction_is (choice_of part 0) d (sym x) (sym y) (sym z))
    go (inl x) (inr y) (inr z) = (1, omega arith, direction_is (choice_of part 1) d (sym x) (sym y) (sym z))
    go (inr x) (inl y) (inr z) = (2, omega arith, direction_is (choice_of part 2) d (sym x) (sym y) (sym z))
    go (inl x) (inl y) (inr z) = (3, omega arith, direction_is (choice_of part 3) d (sym x) (sym y) (sym z))
    go (inr x) (inr y) (inl z) = (4, omega arith, direction_is (choice_of part 4) d (sym x) (sym y) (sym z))
    go (inl x) (inr y) (inl z) = (5, omega arith, direction_is (choice_of part 5) d (sym x) (sym y) (sym z))
    go (inr x) (inl y) (inl z) = (6, omega arith, direction_is (choice_of part 6) d (sym x) (sym y) (sym z))
    go (inl x) (inl y) (inl z) = (7, omega arith, direction_is (choice_of part 7) d (sym x) (sym y) (sym z))

step_few : (s t : ℕ) → t ≤ 2 → (s ≡ 1) ⊎ (s ≡ t) → s < 3
step_few s t h (inl one) = omega arith
step_few s t h (inr is) = omega arith

pub choice_few : (d part : Direction) → (part.x ≤ 2) × (part.y ≤ 2) × (part.z ≤ 2) → IsChoice d part → (d.x < 3) × (d.y < 3) × (d.z < 3)
choice_few d part few c = (step_few d.x part.x few.0 c.x, step_few d.y part.y few.1 c.y, step_few d.z part.z few.2 c.z)

-- the number of a direction
abbrev pub number_of : Direction → ℕ
number_of d = direction d.x d.y d.z

module _ (g : Grid) (node : ℕ) (part : Direction) (few : (part.x ≤ 2) × (part.y ≤ 2) × (part.z ≤ 2)) (sources : List (Option Source)) (all : AreSources g node sources) where
  at_choice : (d : Direction) → IsChoice d part → (o : Option Source) → get_or sources (number_of d) None ≡ o → IsSourceToward g node d o
  at_choice d c o is =
      let small = choice_few d part few c in
      let x = small.0 in
      let y = small.1 in
      let z = small.2 in
      subst (IsSourceToward g node d) is
      (subst (λ e. IsSourceToward g node e (get_or sources (number_of d) None)) (numbered d x y z) (all.each (number_of d) (omega arith)))

  -- one that is found
  pub some_round : (bits : ℕ) (s : Source) → get_or sources (number_of (choice_of part bits)) None ≡ Some s → IsSource g node s × IsChoice s.toward part
  some_round bits s is =
      let c = choice_is part bits in
      let found = at_choice (choice_of part bits) c (Some s) is in
      (found.0, subst (λ d. IsChoice d part) (sym found.1) c)

  -- and none
  pub none_round : ((bits : ℕ) → bits < 8 → get_or sources (number_of (choice_of part bits)) None ≡ None) → (d : Direction) → IsChoice d part → HasNoSource g node d
  none_round none d c =
      let from = choice_found d part c in
      at_choice d c None (sym (ap (λ e. get_or sources (number_of e) None) from.2) ∙ none from.0 from.1)

-- what is not there
pub not_some : (o : Option Source) → is_some o ≡ false → o ≡ None
not_some None h = refl
not_some (Some s) h = cc
