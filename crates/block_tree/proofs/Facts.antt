-- What holds of every tree: the truncated fact of its ghost field as it is.
use Rattle.std.proofs.Common.{◌≡◌, ℕ, true, ◌==◌, ◌⊎◌, inl, inr, List, [], ◌∷◌, eqb-true, eq-eqb}
use Rattle.std.proofs.Math.Logic.{∥∥₁_elim}
use Rattle.std.proofs.Math.Bridge.{le_prop}
use Rattle.std.proofs.Props.{props}
use Rattle.std.proofs.lemmas.Bool.{cases_Bool}
use Rattle.std.specs.List.{list_any}
use Rattle.amr_num.specs.declared.BlockAt.{BlockAt}
use Rattle.mesh_model.specs.declared.geometry.Shape.{Shape}
use Rattle.mesh_model.specs.Geometry.Limits.{IsShape}
use Rattle.mesh_model.specs.Tree.Kinds.{Grid}
use Rattle.mesh_model.specs.Geometry.Blocks.{lies_in, InDomain}
use Rattle.mesh_model.specs.Tree.Order.{Sorted, nodes}
use Rattle.mesh_model.specs.Tree.ValidGrid.{Tiles}
use Rattle.mesh_model.proofs.TreeLemmas.Tests.{found, there}
use Rattle.mesh_model.proofs.TreeLemmas.Tiling.{lies_says, lies_shows}
use Rattle.block_tree.specs.declared.tree.Tree.{Tree}
use Rattle.block_tree.specs.Listed.{lowest, grid_in, IsTree}

-- one of two values, found by a test
either_out : {P : Type 0} → ∥ P ∥₁ → (x a b : ℕ) → (P → (x ≡ a) ⊎ (x ≡ b)) → (x ≡ a) ⊎ (x ≡ b)
either_out t x a b f = elim (cases_Bool (x == a)) [
  | inl h ↦ inl (eqb-true x a h)
  | inr h ↦ inr (∥∥₁_elim t (hlevel props) (λ p. elim (f p) [
    | inl e ↦ let h2 = eq-eqb x a e in cc
    | inr e ↦ e
  ]))
]

three_out : {P : Type 0} → ∥ P ∥₁ → (x a b c : ℕ) → (P → (x ≡ a) ⊎ ((x ≡ b) ⊎ (x ≡ c))) → (x ≡ a) ⊎ ((x ≡ b) ⊎ (x ≡ c))
three_out t x a b c f = elim (cases_Bool (x == a)) [
  | inl h ↦ inl (eqb-true x a h)
  | inr h ↦ inr (either_out t x b c (λ p. elim (f p) [
    | inl e ↦ let h2 = eq-eqb x a e in cc
    | inr e ↦ e
  ]))
]

sorted_out : {P : Type 0} → ∥ P ∥₁ → (bs : List BlockAt) → (P → Sorted bs) → Sorted bs
sorted_out t [] f = tt
sorted_out t (b ∷ bs) f = (λ c i. ∥∥₁_elim t le_prop (λ p. (f p).0 c i), sorted_out t bs (λ p. (f p).1))

-- the shape of a truncated fact is one of the allowed ones
pub shape_out : {P : Type 0} → ∥ P ∥₁ → (s : Shape) → (P → IsShape s) → IsShape s
shape_out t s f = record {
  rx = ∥∥₁_elim t le_prop (λ p. (f p).rx);
  ry = ∥∥₁_elim t le_prop (λ p. (f p).ry);
  rz = ∥∥₁_elim t le_prop (λ p. (f p).rz);
  few_x = ∥∥₁_elim t le_prop (λ p. (f p).few_x);
  few_y = ∥∥₁_elim t le_prop (λ p. (f p).few_y);
  few_z = ∥∥₁_elim t le_prop (λ p. (f p).few_z);
  cells = either_out t s.n 4 8 (λ p. (f p).cells);
  guards = three_out t s.g 1 2 4 (λ p. (f p).guards);
  min = ∥∥₁_elim t le_prop (λ p. (f p).min);
  max = ∥∥₁_elim t le_prop (λ p. (f p).max);
  six = ∥∥₁_elim t (hlevel props) (λ p. (f p).six);
  both = λ a. ∥∥₁_elim t (hlevel props) (λ p. (f p).both a);
}

domain_out : {P : Type 0} → ∥ P ∥₁ → (s : Shape) (b : BlockAt) → (P → InDomain s b) → InDomain s b
domain_out t s b f = ∥∥₁_elim t (hlevel props) f

equal_out : {P : Type 0} → ∥ P ∥₁ → (b c : BlockAt) → (P → b ≡ c) → b ≡ c
equal_out t b c f = ∥∥₁_elim t (hlevel props) f

list_out : {P : Type 0} → ∥ P ∥₁ → (b c : List BlockAt) → (P → b ≡ c) → b ≡ c
list_out t b c f = ∥∥₁_elim t (hlevel props) f

tiles_out : {P : Type 0} → ∥ P ∥₁ → (g : Grid) → (P → Tiles g) → Tiles g
tiles_out t g f = record {
  inside = λ leaf i. domain_out t g.shape leaf (λ p. (f p).inside leaf i);
  covered = λ b d level.
      let some : list_any (λ leaf. lies_in b leaf) g.leaves ≡ true = ∥∥₁_elim t (hlevel props) (λ p. let c = (f p).covered b d level in there (λ leaf. lies_in b leaf) c.0 g.leaves c.1 (lies_shows b c.0 c.2)) in
      let leaf = found (λ leaf. lies_in b leaf) g.leaves some in
      (leaf.0, leaf.1, lies_says b leaf.0 leaf.2);
  once = λ b leaf other level i j bl bo. equal_out t leaf other (λ p. (f p).once b leaf other level i j bl bo);
}

pub facts : (s : Shape) (all : List BlockAt) → ∥ IsTree s all ∥₁ → IsTree s all
facts s all t = record {
  valid = record {
    shape = shape_out t s (λ p. p.valid.shape);
    tiles = tiles_out t (grid_in s all) (λ p. p.valid.tiles);
    rule = record { near = λ leaf other i j h. ∥∥₁_elim t le_prop (λ p. p.valid.rule.near leaf other i j h) };
  };
  order = sorted_out t (lowest all) (λ p. p.order);
  few = ∥∥₁_elim t le_prop (λ p. p.few);
  whole = list_out t (nodes (lowest all)) all (λ p. p.whole);
}

-- and of a tree
pub known : (t : Tree) → IsTree t.shape t.nodes.items
known t = facts t.shape t.nodes.items t.valid
