-- Flags of nodes, and the sets that they stand for.
use Rattle.std.proofs.Common.{◌≡◌, ℕ, ◌+◌, ◌<◌, ◌≤◌, Bool, true, false, ◌&&◌, ◌==◌, refl, sym, ap, ◌∙◌, arith, inl, inr, List, length, set, eqb-true, length-set, take, drop, ◌++◌, Vec, Global}
use Rattle.std.proofs.Math.Seq.{take-append_seam}
use Rattle.std.proofs.lemmas.Bool.{cases_lt}
use Rattle.std.proofs.lemmas.List.{get_or-set_same, get_or-set_other}
use Rattle.amr_num.specs.declared.BlockAt.{BlockAt}
use Rattle.mesh_model.specs.Tree.Order.{IsIn, nodes}
use Rattle.mesh_model.specs.Tree.Kinds.{Grid, is_leaf_block}
use Rattle.mesh_model.specs.Geometry.Touch.{touches}
use Rattle.mesh_model.specs.Tree.ValidGrid.{Valid}
use Rattle.mesh_model.proofs.TreeLemmas.Nodes.{in_node}
use Rattle.mesh_model.proofs.TreeLemmas.Tests.{all_three, all_four, found, there, refuted}
use Rattle.mesh_model.proofs.TreeLemmas.Tiling.{leaf_says, leaf_shows, lies_refl}
use Rattle.block_tree.specs.Numbered.{IsNode, block_at, flag_in}
use Rattle.block_tree.proofs.Members.{at_in}
use Rattle.refine_marks.specs.Flags.{AreFlagsAt, AreFlagsOf, touches_any}

pub and_four : (a b c d : Bool) → a ≡ true → b ≡ true → c ≡ true → d ≡ true → (a && b && c && d) ≡ true
and_four a b c d p q r s = rw (p, q, r, s) refl

pub and_three : (a b c : Bool) → a ≡ true → b ≡ true → c ≡ true → (a && b && c) ≡ true
and_three a b c p q r = rw (p, q, r) refl

pub at_level : (g : Grid) (l : ℕ) (chosen : BlockAt → Bool) (flags : List Bool) → AreFlagsOf g chosen flags → AreFlagsAt g l chosen flags
at_level g l chosen flags are = record { each = λ node i e. are.each node i }

-- a node is a flagged leaf of level l that touches b
abbrev pub is_near : Grid → List Bool → BlockAt → ℕ → ℕ → Bool
is_near g flags b l node =
    (((block_at g node).level == l) && is_leaf_block g (block_at g node) && flag_in flags node && touches g.shape (block_at g node) b)

module _ (g : Grid) where
  -- each node has a number
  pub number_of : (b : BlockAt) → IsIn b (nodes g.leaves) → (node : ℕ) × IsNode g node × (block_at g node ≡ b)
  unfolding block_at
  number_of b i = at_in b (nodes g.leaves) i

  module _ (chosen : BlockAt → Bool) (flags : List Bool) (b : BlockAt) (l : ℕ) (are : AreFlagsAt g l chosen flags) where
    pub near_touches : (node : ℕ) → IsNode g node → is_near g flags b l node ≡ true → touches_any g chosen l b ≡ true
    unfolding touches_any
    near_touches node i h =
        let leaf = block_at g node in
        let four = all_four (leaf.level == l) (is_leaf_block g leaf) (flag_in flags node) (touches g.shape leaf b) h in
        let in_set : chosen leaf ≡ true = sym (are.each node i (eqb-true _ _ four.0)) ∙ four.2 in
        there _ leaf g.leaves (leaf_says g leaf four.1) (and_three (leaf.level == l) (touches g.shape leaf b) (chosen leaf) four.0 four.3 in_set)

    pub none_touches : Valid g → ((node : ℕ) → IsNode g node → is_near g flags b l node ≡ false) → touches_any g chosen l b ≡ false
    unfolding touches_any
    none_touches valid h = refuted _ (λ t.
        let leaf = found (λ leaf. (leaf.level == l) && touches g.shape leaf b && chosen leaf) g.leaves t in
        let three = all_three (leaf.0.level == l) (touches g.shape leaf.0 b) (chosen leaf.0) leaf.2 in
        let number = number_of leaf.0 (in_node g valid leaf.0 leaf.0 leaf.1 (lies_refl leaf.0)) in
        let node = number.0 in
        let is = number.2 in
        let level : ((block_at g node).level == l) ≡ true = ap (λ (u : BlockAt). u.level == l) is ∙ three.0 in
        let whole : is_leaf_block g (block_at g node) ≡ true = ap (is_leaf_block g) is ∙ leaf_shows g leaf.0 leaf.1 in
        let flag : flag_in flags node ≡ true = are.each node number.1 (eqb-true _ _ level) ∙ ap chosen is ∙ three.2 in
        let touch : touches g.shape (block_at g node) b ≡ true = ap (λ u. touches g.shape u b) is ∙ three.1 in
        let some : is_near g flags b l node ≡ true = and_four ((block_at g node).level == l) (is_leaf_block g (block_at g node)) (flag_in flags node) (touches g.shape (block_at g node) b) level whole flag touch in
        let none = h node number.1 in
        cc)

-- ---- flags that are set one after the other

-- below a node the flags are new, and the others are as they were
pub record AreSetBelow (node : ℕ) (new : ℕ → Bool) (before now : List Bool) : Type 0 where
  pub size : length now ≡ length before
  pub done : (k : ℕ) → k < node → flag_in now k ≡ new k
  pub rest : (k : ℕ) → node ≤ k → flag_in now k ≡ flag_in before k

module _ (node : ℕ) (new : ℕ → Bool) (before now : List Bool) (h : AreSetBelow node new before now) where
  -- one more flag is written
  pub one_set : (v : Bool) → node < length before → v ≡ new node → AreSetBelow (node + 1) new before (set now node v)
  one_set v lt e =
      let size = h.size in
      record {
        size = length-set now node v ∙ size;
        done = λ k l. elim (cases_lt k node) [
          | inl less ↦ get_or-set_other now node k v false (λ s. absurd (omega arith)) ∙ h.done k less
          | inr most ↦ let same : k ≡ node = omega arith in ap (λ j. flag_in (set now node v) j) same ∙ get_or-set_same now node v false (omega arith) ∙ e ∙ ap new (sym same)
        ];
        rest = λ k l. get_or-set_other now node k v false (λ s. absurd (omega arith)) ∙ h.rest k (omega arith);
      }

  -- one more flag is right as it is
  pub one_kept : flag_in before node ≡ new node → AreSetBelow (node + 1) new before now
  one_kept e = record {
    size = h.size;
    done = λ k l. elim (cases_lt k node) [
      | inl less ↦ h.done k less
      | inr most ↦ let same : k ≡ node = omega arith in ap (λ j. flag_in now j) same ∙ h.rest node (omega arith) ∙ e ∙ ap new (sym same)
    ];
    rest = λ k l. h.rest k (omega arith);
  }

-- all are set
pub all_set : (g : Grid) (new : BlockAt → Bool) (before now : List Bool) (node : ℕ) → AreSetBelow node (λ k. new (block_at g k)) before now → length before ≡ length (nodes g.leaves) → length (nodes g.leaves) ≤ node → AreFlagsOf g new now
all_set g new before now node h size all = record { size = h.size ∙ size; each = λ k i. h.done k (omega arith) }

-- a list that is written as a whole
pub written : (v : Vec Bool Global) (new : List Bool) → length new ≡ length v.items → take v.len (new ++ drop (length new) v.items) ≡ new
written v new size =
    let long : v.len ≡ length new = let e = v.ok.0 in omega arith in
    ap (λ n. take n (new ++ drop (length new) v.items)) long ∙ take-append_seam new (drop (length new) v.items)
