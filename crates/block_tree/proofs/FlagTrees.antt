-- Lists of flags that are those of a tree, and those that are not.
use Rattle.std.proofs.Common.{◌≡◌, ℕ, ◌<◌, ◌≤◌, Bool, List, length, map, Option, Some, None, refl, sym, ap, subst, ◌∙◌, arith}
use Rattle.std.proofs.lemmas.List.{length-map}
use Rattle.amr_num.specs.declared.BlockAt.{BlockAt}
use Rattle.mesh_model.specs.declared.geometry.Shape.{Shape}
use Rattle.mesh_model.specs.Geometry.Limits.{IsShape, most_nodes}
use Rattle.mesh_model.specs.Tree.Order.{nodes}
use Rattle.mesh_model.specs.Tree.Kinds.{Grid, is_split_block}
use Rattle.mesh_model.specs.Tree.Forest.{HasFlags, flags_of, visited, lowered}
use Rattle.mesh_model.specs.Tree.Start.{start_leaves}
use Rattle.mesh_model.specs.Tree.ValidGrid.{Valid, LevelRule, FewNodes}
use Rattle.block_tree.specs.Listed.{IsTree, grid_in}
use Rattle.block_tree.proofs.Forests.{said, read_again}
use Rattle.block_tree.proofs.Made.{made_grid, made_tree}

module _ (s : Shape) (above : List Bool) where
  -- a grid with these flags is read back from them
  record IsRead (g : Grid) : Type 0 where
    run : visited s.max above (start_leaves s) ≡ Some (nodes g.leaves)
    leaves : lowered above (nodes g.leaves) ≡ g.leaves

  read : (g : Grid) → HasFlags s above g → IsRead g
  read g h =
      let again = read_again g h.valid h.order in
      record {
        run = sym (λ i. visited (h.shape i).max (h.flags i) (start_leaves (h.shape i))) ∙ again.0;
        leaves = sym (ap (λ u. lowered u (nodes g.leaves)) h.flags) ∙ again.1;
      }

  run_once : (all bs : List BlockAt) → visited s.max above (start_leaves s) ≡ Some all → visited s.max above (start_leaves s) ≡ Some bs → bs ≡ all
  run_once all bs e h = let both : Some bs ≡ Some all = sym h ∙ e in cc

  module _ (all : List BlockAt) (e : visited s.max above (start_leaves s) ≡ Some all) where
    abbrev pub run : Grid
    run = record { shape = s; leaves = lowered above all }

    -- it is the grid of the blocks visited
    is_run : (g : Grid) → HasFlags s above g → g ≡ run
    is_run g h =
        let back = read g h in
        let same : g.leaves ≡ lowered above all = sym back.leaves ∙ ap (lowered above) (run_once all (nodes g.leaves) e back.run) in
        λ i. record { shape = h.shape i; leaves = same i }

    module _ (shape : IsShape s) where
      pub run_split : map (is_split_block run) all ≡ above
      run_split = let says = said s shape above all e in sym (ap (map (is_split_block run)) says.nodes_are) ∙ says.flags_are

      pub run_length : length above ≡ length all
      run_length = sym (ap (λ (u : List Bool). length u) run_split) ∙ length-map all (is_split_block run)

      -- blocks that are visited under the flags, keep the level rule and are few are the nodes of a tree with these flags
      module _ (rule : LevelRule run) (few : length above ≤ most_nodes s) where
        run_valid : Valid run
        run_valid = record { shape = shape; tiles = (said s shape above all e).tiles; rule = rule }

        run_few : FewNodes run
        run_few =
            let count = run_length in
            let same = ap (λ (u : List BlockAt). length u) (said s shape above all e).nodes_are in
            omega arith

        pub run_tree : IsTree s all
        run_tree = let says = said s shape above all e in made_tree run run_valid says.order all (sym says.nodes_are) run_few

        pub run_has : HasFlags s above (grid_in s all)
        run_has =
            let says = said s shape above all e in
            subst (λ u. HasFlags s above u) (sym (made_grid run run_valid says.order all (sym says.nodes_are)))
            (record { shape = refl; valid = run_valid; order = says.order; few = run_few; flags = says.flags_are })

    -- where they don't keep the rule, no grid has these flags
    pub no_rule : (LevelRule run → ⊥) → (g : Grid) → HasFlags s above g → ⊥
    no_rule broken g h = broken (subst (λ u. LevelRule u) (is_run g h) h.valid.rule)

  -- nor has one where there are no such blocks, or more flags than a tree has nodes
  pub no_run : visited s.max above (start_leaves s) ≡ None → (g : Grid) → HasFlags s above g → ⊥
  no_run e g h = let both : None ≡ Some (nodes g.leaves) = sym e ∙ (read g h).run in cc

  pub no_room : most_nodes s < length above → (g : Grid) → HasFlags s above g → ⊥
  no_room many g h =
      let few : length (nodes g.leaves) ≤ most_nodes s = subst (λ u. length (nodes g.leaves) ≤ most_nodes u) h.shape h.few in
      let count = sym (length-map (nodes g.leaves) (is_split_block g)) ∙ ap (λ (u : List Bool). length u) h.flags in
      omega arith

  -- and no two grids have the same flags
  pub one_grid : (g h : Grid) → HasFlags s above g → HasFlags s above h → g ≡ h
  one_grid g h gs hs = let back = read h hs in is_run (nodes h.leaves) back.run g gs ∙ sym (is_run (nodes h.leaves) back.run h hs)
