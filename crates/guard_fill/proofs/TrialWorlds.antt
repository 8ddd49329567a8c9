-- Worlds that tests write into.
use Rattle.std.proofs.Common.{◌≡◌, ℕ, ◌+◌, ◌<◌, ◌≤◌, ◌^◌, List, length, get_or, set, ℤ, pos, refl, sym, ap, subst, ◌∙◌, arith, inl, inr}
use Rattle.std.specs.Prelude.{replicate}
use Rattle.std.proofs.lemmas.Bool.{cases_lt, cases_order}
use Rattle.std.proofs.lemmas.List.{get_or-replicate, get_or-set_other, get_or-set_same, get_or_past, length-replicate, length-set, set_past}
use Rattle.amr_num.specs.Numbers.{Within}
use Rattle.mesh_model.specs.declared.fields.values.Var.TheVariants.{Cell}
use Rattle.mesh_model.specs.Fields.Arrays.{Counts, var_length}
use Rattle.mesh_model.specs.Fields.ArrayPlaces.{IsSize, cell_extents, place_in}
use Rattle.mesh_model.specs.Fields.Octants.{cells_of}
use Rattle.mesh_model.specs.Fields.Ranks.{IsFit, Told, WorldState, world_with}
use Rattle.mesh_model.specs.Tree.Kinds.{Grid}
use Rattle.mesh_model.specs.Tree.Order.{Sorted}
use Rattle.mesh_model.specs.Tree.ValidGrid.{FewNodes, Valid}
use Rattle.mesh_model.proofs.FieldLemmas.Worlds.{fit_after, has_array, only_of, written_in}
use Rattle.block_tree.specs.declared.tree.Tree.{Tree}
use Rattle.block_tree.specs.GridOf.{grid_of}
use Rattle.block_tree.specs.Numbered.{IsNode}
use Rattle.block_tree.proofs.Facts.{known}
use Rattle.rank_world.specs.Holding.{IsLeafNode, IsOfValidMesh, cell_array}
use Rattle.rank_world.specs.Starting.{IsNewWorld}
use Rattle.rank_world.proofs.Meshes.{of_some_mesh}
use Rattle.guard_fill.specs.Filling.{OnlyGuards}
use Rattle.guard_fill.specs.Restricting.{OnlyParents}
use Rattle.guard_fill.specs.Trials.{IsTrial}

small : IsSize 4 1
small = record { cells = inl refl; guards = inl refl }

-- numbers in range, after one was written
within_set : (xs : List ℤ) (p q : ℕ) (x : ℤ) → Within (2 ^ 40) x → Within (2 ^ 40) (get_or xs q (pos 0)) → Within (2 ^ 40) (get_or (set xs p x) q (pos 0))
within_set xs p q x here there = elim (cases_order q p) [
  | inr (inl less) ↦ subst (Within (2 ^ 40)) (sym (get_or-set_other xs p q x (pos 0) (λ e. omega arith))) there
  | inr (inr more) ↦ subst (Within (2 ^ 40)) (sym (get_or-set_other xs p q x (pos 0) (λ e. omega arith))) there
  | inl same ↦ elim (cases_lt p (length xs)) [
    | inl inside ↦ subst (λ i. Within (2 ^ 40) (get_or (set xs p x) i (pos 0))) (sym same) (subst (Within (2 ^ 40)) (sym (get_or-set_same xs p x (pos 0) inside)) here)
    | inr past ↦ subst (λ ys. Within (2 ^ 40) (get_or ys q (pos 0))) (sym (set_past xs p x past)) there
  ]
]

within_zero : (n q : ℕ) → Within (2 ^ 40) (get_or (replicate n (pos 0)) q (pos 0))
within_zero n q = elim (cases_lt q n) [
  | inl less ↦ subst (Within (2 ^ 40)) (sym (get_or-replicate n q (pos 0) (pos 0) less)) (omega arith)
  | inr past ↦ subst (Within (2 ^ 40)) (sym (get_or_past (replicate n (pos 0)) q (pos 0) (subst (λ m. m ≤ q) (sym (length-replicate n (pos 0))) past))) (omega arith)
]

-- a new world
pub new_trial : (g : Grid) (w : WorldState) → IsNewWorld 4 1 g (record { cells = 1; faces = 0; edges = 0 }) w → IsTrial w
new_trial g w new =
    let counts = new.counts_are in
    record {
      fit = new.fit;
      cells = ap (λ (n : Counts). n.cells) counts;
      faces = ap (λ (n : Counts). n.faces) counts;
      edges = ap (λ (n : Counts). n.edges) counts;
      range = λ v node h leaf. record {
        cells = λ i j k hi hj hk.
            let s = w.told.grid.shape in
            let is = new.zero.each (Cell v) node (has_array 4 1 w (Cell v) node new.fit leaf.there h) in
            subst (λ xs. Within (2 ^ 40) (cells_of w.told.grid xs (s.g + i) (s.g + j) (s.g + k))) (sym is)
            (within_zero (var_length 4 1 (Cell v)) (place_in (cell_extents s.n s.g) (s.g + i) (s.g + j) (s.g + k)));
      };
    }

-- a number is written
pub put_trial : (w : WorldState) (node p : ℕ) (x : ℤ) → IsTrial w → IsNode w.told.grid node → Within (2 ^ 40) x → IsTrial (world_with w 0 (Cell 0) node (set (cell_array w 0 node) p x))
put_trial w node p x trial there here =
    let xs = set (cell_array w 0 node) p x in
    let has = has_array 4 1 w (Cell 0) node trial.fit there (omega (arith, trial.cells)) in
    let only = only_of w (Cell 0) node xs trial.fit.one in
    let long : length xs ≡ var_length 4 1 (Cell 0) = length-set (cell_array w 0 node) p x ∙ trial.fit.whole.each (Cell 0) node has in
    let is = written_in w (Cell 0) node xs trial.fit.one 4 1 small trial.fit has long in
    record {
      fit = fit_after w (Cell 0) node xs trial.fit.one 4 1 small trial.fit has;
      cells = trial.cells;
      faces = trial.faces;
      edges = trial.edges;
      range = λ v k h leaf. record {
        cells = λ i j l hi hj hl.
            let s = w.told.grid.shape in
            let q = place_in (cell_extents s.n s.g) (s.g + i) (s.g + j) (s.g + l) in
            let first : v ≡ 0 = omega (arith, trial.cells) in
            let before = (trial.range v k h leaf).cells i j l hi hj hl in
            let after : List ℤ → Type 0 = λ ys. Within (2 ^ 40) (get_or ys q (pos 0)) in
            elim (cases_order k node) [
              | inl same ↦
                  let was : Within (2 ^ 40) (get_or (cell_array w 0 node) q (pos 0)) = subst (λ u. Within (2 ^ 40) (get_or (cell_array w u node) q (pos 0))) first (subst (λ m. Within (2 ^ 40) (get_or (cell_array w v m) q (pos 0))) same before) in
                  let now : after (cell_array (world_with w 0 (Cell 0) node xs) 0 node) = subst after (sym is) (within_set (cell_array w 0 node) p q x here was) in
                  subst (λ m. after (cell_array (world_with w 0 (Cell 0) node xs) v m)) (sym same) (subst (λ u. after (cell_array (world_with w 0 (Cell 0) node xs) u node)) (sym first) now)
              | inr (inl less) ↦ subst after (sym (only.here.others (Cell v) k (λ u e. absurd (omega arith)))) before
              | inr (inr more) ↦ subst after (sym (only.here.others (Cell v) k (λ u e. absurd (omega arith)))) before
            ];
      };
    }

-- what a trial becomes where its leaves' cells stay
module _ (a b : WorldState) (trial : IsTrial a) (fit : IsFit 4 1 b) where
  kept_trial : b.told ≡ a.told →
      ((node i j k : ℕ) → let g = a.told.grid in IsLeafNode g node → i < g.shape.n → j < g.shape.n → k < g.shape.n →
      cells_of g (cell_array b 0 node) (g.shape.g + i) (g.shape.g + j) (g.shape.g + k) ≡ cells_of g (cell_array a 0 node) (g.shape.g + i) (g.shape.g + j) (g.shape.g + k)) → IsTrial b
  kept_trial told same = record {
    fit = fit;
    cells = ap (λ (t : Told). t.counts.cells) told ∙ trial.cells;
    faces = ap (λ (t : Told). t.counts.faces) told ∙ trial.faces;
    edges = ap (λ (t : Told). t.counts.edges) told ∙ trial.edges;
    range = λ v node h leaf. record { cells = range v node h leaf };
  }
    where
      range : (v node : ℕ) → v < b.told.counts.cells → IsLeafNode b.told.grid node →
          (i j k : ℕ) → let g = b.told.grid in i < g.shape.n → j < g.shape.n → k < g.shape.n → Within (2 ^ 40) (cells_of g (cell_array b v node) (g.shape.g + i) (g.shape.g + j) (g.shape.g + k))
      range v node h leaf =
          let count = ap (λ (t : Told). t.counts.cells) told in
          let first : v ≡ 0 = omega (arith, trial.cells) in
          let was : IsLeafNode a.told.grid node = subst (λ (t : Told). IsLeafNode t.grid node) told leaf in
          subst (λ u. (i j k : ℕ) → let g = b.told.grid in i < g.shape.n → j < g.shape.n → k < g.shape.n → Within (2 ^ 40) (cells_of g (cell_array b u node) (g.shape.g + i) (g.shape.g + j) (g.shape.g + k))) (sym first)
          (subst (λ (t : Told). (i j k : ℕ) → let g = t.grid in i < g.shape.n → j < g.shape.n → k < g.shape.n → Within (2 ^ 40) (cells_of g (cell_array b 0 node) (g.shape.g + i) (g.shape.g + j) (g.shape.g + k))) (sym told)
          (λ i j k hi hj hk. subst (Within (2 ^ 40)) (sym (same node i j k was hi hj hk)) ((trial.range 0 node (omega (arith, trial.cells)) was).cells i j k hi hj hk)))

  pub filled_trial : OnlyGuards a b 0 → IsTrial b
  filled_trial only = kept_trial only.only.told only.cells

  pub restricted_trial : OnlyParents a b 0 → IsTrial b
  restricted_trial only =
      kept_trial only.only.told (λ node i j k leaf hi hj hk. let g = a.told.grid in ap (λ xs. cells_of g xs (g.shape.g + i) (g.shape.g + j) (g.shape.g + k)) (only.leaves node leaf))

-- it is that of a valid mesh
pub trial_mesh : (w : WorldState) (t : Tree) → grid_of t ≡ w.told.grid → IsTrial w → IsOfValidMesh w
trial_mesh w t grid trial =
    let valid : Valid w.told.grid = subst Valid grid (known t).valid in
    let order : Sorted w.told.grid.leaves = subst (λ (g : Grid). Sorted g.leaves) grid (known t).order in
    let few : FewNodes w.told.grid = subst FewNodes grid (known t).few in
    of_some_mesh w valid order few (omega (arith, trial.cells)) trial.faces trial.edges trial.range
