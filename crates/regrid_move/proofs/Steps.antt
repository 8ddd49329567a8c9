-- Worlds that are written leaf by leaf, and variable by variable.
use Rattle.std.proofs.Common.{◌≡◌, ℕ, false, ℤ, Option, Some, None, is_some, refl, sym, subst, ◌∙◌}
use Rattle.amr_num.specs.declared.CellAt.{CellAt}
use Rattle.mesh_model.specs.declared.fields.values.Var.TheVariants.{Cell}
use Rattle.mesh_model.specs.Fields.Octants.{cells_of}
use Rattle.mesh_model.specs.Fields.ArrayPlaces.{HoldsViews}
use Rattle.mesh_model.specs.Fields.Ranks.{OnlyOf, Told, WorldState}
use Rattle.block_tree.specs.Numbered.{block_at}
use Rattle.rank_world.specs.Holding.{IsLeafNode, OnlyCells, cell_array}
use Rattle.regrid_move.specs.Near.{NodeMoved, LeavesMoved}

pub none_is : {A : Type 0} (r : Option A) → is_some r ≡ false → r ≡ None
none_is None h = refl
none_is (Some x) h = cc

-- a node's numbers stay where its array and what is told do
pub moved_same : (old b c : WorldState) (v node : ℕ) (content : CellAt → ℤ) → c.told ≡ b.told → cell_array c v node ≡ cell_array b v node → NodeMoved old b v content node → NodeMoved old c v content node
moved_same old b c v node content told same moved =
    subst (λ (t : Told). HoldsViews old.told.grid content (block_at t.grid node) (cells_of t.grid (cell_array c v node))) (sym told)
    (subst (λ xs. HoldsViews old.told.grid content (block_at b.told.grid node) (cells_of b.told.grid xs)) (sym same) moved)

pub node_stays : (old b c : WorldState) (v node k : ℕ) (content : CellAt → ℤ) → OnlyOf b c 0 (Cell v) node → (k ≡ node → ⊥) → NodeMoved old b v content k → NodeMoved old c v content k
node_stays old b c v node k content only apart moved = moved_same old b c v k content only.told (only.here.others (Cell v) k (λ u is. apart is)) moved

pub cells_again : (a b c : WorldState) (v node : ℕ) → OnlyCells a b v → OnlyOf b c 0 (Cell v) node → OnlyCells a c v
cells_again a b c v node before only = record {
  told = only.told ∙ before.told;
  others = λ u k apart. only.here.others u k (λ is at. apart is) ∙ before.others u k apart;
}

pub leaves_stay : (old b c : WorldState) (v w : ℕ) (content : CellAt → ℤ) → OnlyCells b c w → (v ≡ w → ⊥) → LeavesMoved old b v content → LeavesMoved old c v content
leaves_stay old b c v w content only apart moved node leaf =
    moved_same old b c v node content only.told (only.others (Cell v) node (λ is. apart (same_cell v w is)))
    (moved node (subst (λ (t : Told). IsLeafNode t.grid node) only.told leaf))
  where
    same_cell : (v w : ℕ) → Cell v ≡ Cell w → v ≡ w
    same_cell v w is = cc
