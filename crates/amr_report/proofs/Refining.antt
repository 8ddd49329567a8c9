-- Roots may be refined where the greatest level is 1.
use Rattle.std.proofs.Common.{◌≡◌, ℕ, ◌≤◌, Bool, true, false, inl, inr, sym, ap, subst, ◌∙◌, arith}
use Rattle.amr_num.specs.declared.BlockAt.{BlockAt}
use Rattle.block_tree.specs.declared.tree.Tree.{Tree}
use Rattle.block_tree.specs.GridOf.{grid_of}
use Rattle.block_tree.specs.Growing.{MayRegrow}
use Rattle.block_tree.specs.Numbered.{blocks_of}
use Rattle.block_tree.proofs.Facts.{known}
use Rattle.block_tree.proofs.Flags.{set_empty, set_says}
use Rattle.block_tree.proofs.Leaves.{node_inside}
use Rattle.block_tree.proofs.Numbers.{node_in_all}
use Rattle.mesh_model.specs.declared.geometry.Shape.{Shape}
use Rattle.mesh_model.specs.Geometry.Limits.{IsShape}
use Rattle.mesh_model.specs.Tree.Order.{IsIn, nodes}
use Rattle.mesh_model.specs.Tree.Kinds.{Grid}
use Rattle.mesh_model.specs.Tree.Start.{start_grid}
use Rattle.mesh_model.specs.Geometry.Blocks.{InDomain}
use Rattle.mesh_model.proofs.TreeLemmas.Nodes.{node_in}
use Rattle.mesh_model.proofs.TreeLemmas.Regrown.{new_source}
use Rattle.mesh_model.proofs.TreeLemmas.Roots.{start_every, start_root}

module _ (t : Tree) (s : Shape) (start : grid_of t ≡ start_grid s) (low : s.max ≡ 1) where
  level_zero : (b : BlockAt) → IsIn b (grid_of t).leaves → b.level ≡ 0
  level_zero b i = (start_root s b (subst (λ (g : Grid). IsIn b g.leaves) start i)).1

  -- each node is a leaf
  root_leaf : (b : BlockAt) → IsIn b (nodes (grid_of t).leaves) → IsIn b (grid_of t).leaves
  root_leaf b i =
      let valid = (known t).valid in
      let under = node_in (grid_of t) valid b i in
      let up = under.2.level in
      let root = level_zero under.0 under.1 in
      let zero : b.level ≡ 0 = omega arith in
      let shape = subst (λ (g : Grid). IsShape g.shape) start valid.shape in
      let domain = subst (λ (g : Grid). InDomain g.shape b) start (node_inside (grid_of t) valid b i) in
      subst (λ (g : Grid). IsIn b g.leaves) (sym start) (start_every s shape b domain zero)

  -- flagged nodes may be refined, where no parent is merged
  pub may_refine : (flag none : ℕ → Bool) → ((i : ℕ) → none i ≡ false) → MayRegrow (grid_of t) (blocks_of (grid_of t) flag) (blocks_of (grid_of t) none)
  may_refine flag none lowered =
      let g = grid_of t in
      let top : g.shape.max ≡ 1 = ap (λ (h : Grid). h.shape.max) start ∙ low in
      let flagged : (b : BlockAt) → blocks_of g flag b ≡ true → IsIn b g.leaves = λ b h.
      let found = set_says g flag b h in root_leaf b (subst (λ u. IsIn u (nodes g.leaves)) found.3 (node_in_all t found.0 found.1)) in
      record {
        leaf = flagged;
        deep = λ b h. let zero = level_zero b (flagged b h) in omega arith;
        children = λ p q h. let empty = set_empty g none lowered p in cc;
        stays = λ p q h. let empty = set_empty g none lowered p in cc;
        rule = record {
          near = λ leaf other i j h.
              let from = new_source (blocks_of g flag) (blocks_of g none) g leaf i in
              let zero = level_zero from.0 from.1 in
              let few : leaf.level ≤ 1 = elim from.2 [
                | inl r ↦ let e = ap (λ (u : BlockAt). u.level) r.child in omega arith
                | inr (inl m) ↦ let up = m.level in omega arith
                | inr (inr k) ↦ let e = ap (λ (u : BlockAt). u.level) k.same in omega arith
              ] in omega arith;
        };
      }
