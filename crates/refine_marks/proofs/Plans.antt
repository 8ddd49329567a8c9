-- What flags of the refined leaves and of the merged parents say.
use Rattle.std.proofs.Common.{◌≡◌, Bool, true, sym, subst, arith, List}
use Rattle.amr_num.specs.declared.BlockAt.{BlockAt}
use Rattle.mesh_model.specs.Tree.Closure.{is_refined, is_merged}
use Rattle.mesh_model.specs.Tree.Order.{IsIn, nodes}
use Rattle.mesh_model.specs.Tree.Kinds.{Grid}
use Rattle.mesh_model.specs.Tree.MarkedGrid.{MarkedGrid}
use Rattle.mesh_model.specs.Tree.Regrown.{new_grid, regrown}
use Rattle.mesh_model.specs.Tree.MarkedGrid.{ValidMarkedGrid}
use Rattle.mesh_model.proofs.TreeLemmas.Closure.{refined_leaf}
use Rattle.mesh_model.proofs.TreeLemmas.Levels.{is_child}
use Rattle.mesh_model.proofs.TreeLemmas.Nodes.{in_node}
use Rattle.mesh_model.proofs.TreeLemmas.Ruled.{room, refined_may, least, merged_may, greatest}
use Rattle.mesh_model.proofs.TreeLemmas.Tiling.{child_in, lies_refl}
use Rattle.mesh_model.specs.Geometry.Blocks.{child_block}
use Rattle.block_tree.specs.declared.marks.Marks.{Marks}
use Rattle.block_tree.specs.Growing.{MayRegrow}
use Rattle.block_tree.specs.declared.tree.Tree.{Tree}
use Rattle.block_tree.specs.GridOf.{grid_of}
use Rattle.block_tree.specs.Marked.{IsMarksOf}
use Rattle.block_tree.specs.Numbered.{blocks_of, flag_in}
use Rattle.refine_marks.specs.Flags.{AreFlagsOf}
use Rattle.refine_marks.specs.Planned.{marked_by, IsLeast, IsGreatest}
use Rattle.refine_marks.proofs.Sets.{set_is}
use Rattle.refine_marks.proofs.Valued.{marked_valid}

module _ (t : Tree) (marks : Marks) (fit : IsMarksOf (grid_of t) marks) where
  abbrev g : Grid
  g = grid_of t

  abbrev m : MarkedGrid
  m = marked_by t marks

  valid : ValidMarkedGrid m
  valid = marked_valid t marks fit

  refined_in : (b : BlockAt) → is_refined m b ≡ true → IsIn b (nodes g.leaves)
  refined_in b h = in_node g valid.grid b b (refined_leaf m (room m valid) b h) (lies_refl b)

  merged_in : (b : BlockAt) → is_merged m b ≡ true → IsIn b (nodes g.leaves)
  merged_in b h = in_node g valid.grid b (child_block b 0) ((merged_may m valid).leaf b 0 h (omega arith)) (child_in (child_block b 0) b (is_child b 0))

  module _ (refine : List Bool) (are : AreFlagsOf g (is_refined m) refine) where
    refine_set : blocks_of g (flag_in refine) ≡ is_refined m
    refine_set = λ i b. set_is t (is_refined m) refine are refined_in b i

    pub refine_least : IsLeast m (blocks_of g (flag_in refine))
    refine_least = subst (IsLeast m) (sym refine_set) (record { may = refined_may m valid; least = least m valid })

    module _ (merge : List Bool) (are_merged : AreFlagsOf g (is_merged m) merge) where
      merge_set : blocks_of g (flag_in merge) ≡ is_merged m
      merge_set = λ i b. set_is t (is_merged m) merge are_merged merged_in b i

      pub merge_greatest : IsGreatest m (blocks_of g (flag_in merge))
      merge_greatest = subst (IsGreatest m) (sym merge_set) (record { may = merged_may m valid; greatest = greatest m valid })

      grows : MayRegrow g (is_refined m) (is_merged m)
      grows =
          let may = merged_may m valid in
          record {
            leaf = refined_leaf m (room m valid);
            deep = λ b h. (refined_may m valid).deep b (refined_leaf m (room m valid) b h) h;
            children = may.leaf;
            stays = may.stays;
            rule = may.rule;
          }

      pub may_regrow : MayRegrow g (blocks_of g (flag_in refine)) (blocks_of g (flag_in merge))
      may_regrow = subst (λ r. MayRegrow g r (blocks_of g (flag_in merge))) (sym refine_set) (subst (MayRegrow g (is_refined m)) (sym merge_set) grows)

      pub grown_grid : new_grid m ≡ regrown g (blocks_of g (flag_in refine)) (blocks_of g (flag_in merge))
      grown_grid = sym (λ i. regrown g (refine_set i) (merge_set i))
