-- Trees that are made of a grid's nodes.
use Rattle.std.proofs.Common.{◌≡◌, refl, sym, ap, ◌∙◌, subst, inl, inr, arith, List, [], ◌∷◌, ◌++◌}
use Rattle.amr_num.specs.declared.BlockAt.{BlockAt}
use Rattle.mesh_model.specs.declared.geometry.Shape.{Shape}
use Rattle.mesh_model.specs.Fields.VariableNames.{no_names}
use Rattle.mesh_model.specs.Geometry.Limits.{IsShape}
use Rattle.mesh_model.specs.Tree.Order.{Sorted, begun_at, nodes, IsIn}
use Rattle.mesh_model.specs.Tree.Kinds.{Grid}
use Rattle.mesh_model.specs.Tree.Start.{start_grid, start_leaves}
use Rattle.mesh_model.specs.Fields.Start.{start_mesh}
use Rattle.mesh_model.specs.Tree.ValidGrid.{Valid, FewNodes}
use Rattle.mesh_model.specs.Fields.Valid.{ValidMesh}
use Rattle.mesh_model.proofs.TreeLemmas.Roots.{start_root}
use Rattle.mesh_model.proofs.FieldLemmas.Start.{start_mesh_valid}
use Rattle.block_tree.specs.Listed.{lowest, grid_in, IsTree}
use Rattle.block_tree.proofs.Leaves.{lowest_nodes}

module _ (g : Grid) (valid : Valid g) (order : Sorted g.leaves) (all : List BlockAt) (whole : all ≡ nodes g.leaves) where
  low : lowest all ≡ g.leaves
  low = ap lowest whole ∙ lowest_nodes g valid

  -- the grid is that of its nodes
  pub made_grid : grid_in g.shape all ≡ g
  made_grid = λ i. record { shape = g.shape; leaves = low i }

  -- and where they are not too many, the nodes are a tree
  pub made_tree : FewNodes g → IsTree g.shape all
  made_tree few = record {
    valid = subst (λ u. Valid u) (sym made_grid) valid;
    order = subst (λ u. Sorted u) (sym low) order;
    few = subst (λ u. FewNodes u) (sym made_grid) few;
    whole = ap nodes low ∙ sym whole;
  }

-- ---- the start

-- roots are their own nodes
root_nodes : (bs : List BlockAt) → ((b : BlockAt) → IsIn b bs → b.level ≡ 0) → bs ≡ nodes bs
unfolding nodes begun_at
root_nodes [] h = refl
root_nodes (b ∷ bs) h =
    let here : begun_at b.level b ≡ b ∷ [] = ap (λ l. begun_at l b) (h b (inl refl)) in
    ap (λ u. b ∷ u) (root_nodes bs (λ c i. h c (inr i))) ∙ ap (λ u. u ++ nodes bs) (sym here)

abbrev pub start_valid : (s : Shape) → IsShape s → ValidMesh (start_mesh s no_names)
start_valid s shape = start_mesh_valid s no_names shape (omega arith)

module _ (s : Shape) (shape : IsShape s) (all : List BlockAt) (whole : all ≡ start_leaves s) where
  as_nodes : all ≡ nodes (start_leaves s)
  as_nodes = whole ∙ root_nodes (start_leaves s) (λ b i. (start_root s b i).1)

  pub start_made : grid_in s all ≡ start_grid s
  start_made = made_grid (start_grid s) (start_valid s shape).grid (start_valid s shape).order all as_nodes

  pub start_tree : IsTree s all
  start_tree = made_tree (start_grid s) (start_valid s shape).grid (start_valid s shape).order all as_nodes (start_valid s shape).nodes
