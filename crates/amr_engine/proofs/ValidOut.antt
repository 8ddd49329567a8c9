-- A mesh that is valid, told as one fact, is valid.
use Rattle.std.proofs.Common.{◌≡◌, List, sym, subst, ap}
use Rattle.std.proofs.Math.Logic.{∥∥₁_elim}
use Rattle.std.proofs.Math.Bridge.{le_prop}
use Rattle.std.proofs.Props.{props}
use Rattle.amr_num.specs.declared.BlockAt.{BlockAt}
use Rattle.mesh_model.specs.Tree.Kinds.{Grid}
use Rattle.mesh_model.specs.Tree.Order.{Sorted, nodes}
use Rattle.mesh_model.specs.Tree.ValidGrid.{FewNodes, Valid}
use Rattle.mesh_model.specs.Fields.Plain.{Mesh}
use Rattle.mesh_model.specs.Fields.Valid.{ValidMesh}
use Rattle.block_tree.specs.Listed.{IsTree, grid_in, lowest}
use Rattle.block_tree.proofs.Facts.{facts}
use Rattle.block_tree.proofs.Leaves.{lowest_nodes}

-- a valid grid is a tree by its nodes
tree_of : (g : Grid) → Valid g → Sorted g.leaves → FewNodes g → IsTree g.shape (nodes g.leaves)
tree_of g valid order few =
    let same : g.leaves ≡ lowest (nodes g.leaves) = sym (lowest_nodes g valid) in
    let grid : g ≡ grid_in g.shape (nodes g.leaves) = ap (λ (bs : List BlockAt). record { shape = g.shape; leaves = bs }) same in
    record { valid = subst Valid grid valid; order = subst Sorted same order; few = subst FewNodes grid few; whole = ap nodes (sym same) }

pub mesh_out : (m : Mesh) → ∥ ValidMesh m ∥₁ → ValidMesh m
mesh_out m t =
    let g = m.grid in
    let tree = facts g.shape (nodes g.leaves) (∥∥₁_elim t (hlevel props) (λ p. ∣ tree_of g p.grid p.order p.nodes ∣₁)) in
    let same : lowest (nodes g.leaves) ≡ g.leaves = ∥∥₁_elim t (hlevel props) (λ p. lowest_nodes g p.grid) in
    let grid : grid_in g.shape (nodes g.leaves) ≡ g = ap (λ (bs : List BlockAt). record { shape = g.shape; leaves = bs }) same in
    record {
      grid = subst Valid grid tree.valid;
      order = subst Sorted same tree.order;
      nodes = ∥∥₁_elim t le_prop (λ p. p.nodes);
      numbers = record {
        cells = λ v c off. ∥∥₁_elim t (hlevel props) (λ p. p.numbers.cells v c off);
        faces = λ f off. ∥∥₁_elim t (hlevel props) (λ p. p.numbers.faces f off);
        edges = λ e off. ∥∥₁_elim t (hlevel props) (λ p. p.numbers.edges e off);
      };
      declared = record {
        few = ∥∥₁_elim t le_prop (λ p. p.declared.few);
        cells = λ v far c. ∥∥₁_elim t (hlevel props) (λ p. p.declared.cells v far c);
        outs = λ v far. ∥∥₁_elim t (hlevel props) (λ p. p.declared.outs v far);
        faces = λ none f. ∥∥₁_elim t (hlevel props) (λ p. p.declared.faces none f);
        edges = λ none e. ∥∥₁_elim t (hlevel props) (λ p. p.declared.edges none e);
      };
      range = record {
        cells = λ v c. ∥∥₁_elim t le_prop (λ p. p.range.cells v c);
        outs = λ v. ∥∥₁_elim t le_prop (λ p. p.range.outs v);
        faces = λ f. ∥∥₁_elim t le_prop (λ p. p.range.faces f);
        edges = λ e. ∥∥₁_elim t le_prop (λ p. p.range.edges e);
      };
      marks = record {
        refine = λ b on. (∥∥₁_elim t (hlevel props) (λ p. (p.marks.refine b on).0), ∥∥₁_elim t le_prop (λ p. (p.marks.refine b on).1));
        derefine = λ b on. (∥∥₁_elim t (hlevel props) (λ p. (p.marks.derefine b on).0), ∥∥₁_elim t le_prop (λ p. (p.marks.derefine b on).1));
      };
    }
