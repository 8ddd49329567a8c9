-- The steps of a look at the blocks round the parents.
use Rattle.std.proofs.Common.{◌≡◌, ℕ, ◌+◌, ◌<◌, ◌≤◌, ◌↔◌, Bool, true, false, IsTrue, List, length, map, MatchOption, Option, Some, None, is_some, sym, ap, subst, ◌∙◌, arith, inl, inr, refl}
use Rattle.std.proofs.lemmas.Bool.{cases_lt}
use Rattle.std.proofs.lemmas.List.{get_or-map, length-map}
use Rattle.amr_num.specs.declared.BlockAt.{BlockAt}
use Rattle.mesh_model.specs.declared.geometry.Shape.{Shape}
use Rattle.mesh_model.specs.Geometry.Blocks.{InDomain}
use Rattle.mesh_model.specs.Geometry.Limits.{IsShape}
use Rattle.mesh_model.specs.Tree.Forest.{flags_of, lowered, visited}
use Rattle.mesh_model.specs.Tree.Kinds.{Grid, is_split_block}
use Rattle.mesh_model.specs.Tree.Order.{IsIn, Sorted, nodes}
use Rattle.mesh_model.specs.Tree.Start.{start_leaves}
use Rattle.mesh_model.specs.Tree.ValidGrid.{LevelRule}
use Rattle.mesh_model.proofs.TreeLemmas.Nodes.{leaf_under, round_leaf, tiled_sorted}
use Rattle.mesh_model.proofs.TreeLemmas.Tiling.{domain_up, split_says}
use Rattle.morton_key.specs.Keyed.{HasKey}
use Rattle.block_tree.specs.Directions.{block_toward, direction_of}
use Rattle.block_tree.specs.Numbered.{block_in, flag_in}
use Rattle.block_tree.specs.Surrounded.{AreRound}
use Rattle.block_tree.specs.declared.directions.Direction.{Direction}
use Rattle.block_tree.proofs.FlagTrees.{run, run_split}
use Rattle.block_tree.proofs.Forests.{said}
use Rattle.block_tree.proofs.Members.{at_in, in_at}
use Rattle.block_tree.proofs.Next.{has_key}
use Rattle.block_tree.proofs.Rules.{round_rule, rule_round}
use Rattle.block_tree.proofs.Toward.{there_inside, there_says}

-- ---- one direction

pub toward_inside : (s : Shape) (d : Direction) (b e : BlockAt) → IsShape s → InDomain s b → block_toward s d b ≡ Some e → InDomain s e
toward_inside s d b e shape inside is =
    let top = shape.max in
    let room = inside.level in
    there_inside s b inside (omega arith) _ e (there_says s d b e is)

-- a block that was looked for among the nodes
found_is : (all : List BlockAt) (b : BlockAt) (r : Option ℕ) → MatchOption r (IsIn b all → ⊥) (λ place. (place < length all) × (block_in all place ≡ b)) → IsTrue (is_some r) ↔ IsIn b all
found_is all b None none = (λ h. absurd (cc), λ i. absurd (none i))
found_is all b (Some place) at = (λ h. subst (λ u. IsIn u all) at.1 (in_at all place at.0), λ i. refl)

pub round_found : (s : Shape) (d : Direction) (b e : BlockAt) (all : List BlockAt) (r : Option ℕ) (t : Bool) → block_toward s d b ≡ Some e →
    MatchOption r (IsIn e all → ⊥) (λ place. (place < length all) × (block_in all place ≡ e)) → t ≡ is_some r → IsTrue t ↔ ((f : BlockAt) → block_toward s d b ≡ Some f → IsIn f all)
round_found s d b e all r t is found same =
    let here = found_is all e r found in (
      λ h f there.
          let both : Some e ≡ Some f = sym is ∙ there in
          let one : e ≡ f = cc in
          subst (λ u. IsIn u all) one (here.0 (sym same ∙ h)),
      λ h. same ∙ here.1 (h e is),
    )

-- ---- the directions one after another

pub none_round : (s : Shape) (all : List BlockAt) (b : BlockAt) → AreRound s all b 0
none_round s all b = record { each = λ d e few is. absurd (omega arith) }

pub one_more_round : (s : Shape) (all : List BlockAt) (b : BlockAt) (d : ℕ) → AreRound s all b d → ((e : BlockAt) → block_toward s (direction_of d) b ≡ Some e → IsIn e all) → AreRound s all b (d + 1)
one_more_round s all b d before here = record {
  each = λ c e few is. elim (cases_lt c d) [
    | inl less ↦ before.each c e less is
    | inr more ↦ let last : c ≡ d = omega arith in here e (ap (λ n. block_toward s (direction_of n) b) (sym last) ∙ is)
  ];
}

-- ---- the nodes that flags stand for

module _ (s : Shape) (shape : IsShape s) (above : List Bool) (all : List BlockAt) (e : visited s.max above (start_leaves s) ≡ Some all) where
  abbrev tree : Grid
  tree = run s above all e

  run_flag : (i : ℕ) → i < length all → flag_in above i ≡ is_split_block tree (block_in all i)
  run_flag i h = ap (λ u. flag_in u i) (sym (run_split s above all e shape)) ∙ get_or-map (is_split_block tree) all i (record { level = 0; x = 0; y = 0; z = 0 }) false h

  pub run_inside : (b : BlockAt) → IsIn b all → InDomain s b
  run_inside b i =
      let says = said s shape above all e in
      let leaf = leaf_under tree.leaves b (subst (λ u. IsIn b u) (sym says.nodes_are) i) in
      domain_up s leaf.0 b leaf.2 (says.tiles.inside leaf.0 leaf.1)

  pub run_keyed : (b : BlockAt) → IsIn b all → HasKey b
  run_keyed b i = has_key s b shape (run_inside b i)

  pub run_sorted : Sorted all
  run_sorted = let says = said s shape above all e in subst Sorted says.nodes_are (tiled_sorted tree shape says.tiles says.order)

  -- the rule is kept where blocks stand round each flagged node
  pub all_round : ((i : ℕ) → i < length all → flag_in above i ≡ true → AreRound s all (block_in all i) 27) → LevelRule tree
  all_round round =
      let says = said s shape above all e in
      round_rule tree says.tiles shape (λ p split.
      let under = split_says tree p split in
      let place = at_in p all (subst (λ u. IsIn p u) says.nodes_are (round_leaf tree says.tiles p under.0 under.1 under.3)) in
      let flag : flag_in above place.0 ≡ true = run_flag place.0 place.1 ∙ ap (is_split_block tree) place.2 ∙ split in
      subst (λ u. AreRound s u p 27) (sym says.nodes_are) (subst (λ u. AreRound s all u 27) place.2 (round place.0 place.1 flag)))

  pub round_flagged : LevelRule tree → (i : ℕ) → i < length all → flag_in above i ≡ true → AreRound s all (block_in all i) 27
  round_flagged rule i h up =
      let says = said s shape above all e in
      subst (λ u. AreRound s u (block_in all i) 27) says.nodes_are (rule_round tree says.tiles shape rule (block_in all i) (sym (run_flag i h) ∙ up))
