-- Leaves that are marked by what they contain, one after the other.
use Rattle.std.proofs.Common.{◌≡◌, ◌≢◌, ℕ, ◌+◌, ◌<◌, ◌≤◌, Bool, true, false, ℤ, refl, sym, ap, subst, ◌∙◌, arith, inl, inr}
use Rattle.std.proofs.lemmas.Bool.{cases_Bool, cases_lt}
use Rattle.amr_num.specs.declared.BlockAt.{BlockAt}
use Rattle.amr_num.specs.declared.CellAt.{CellAt}
use Rattle.block_tree.specs.Marked.{derefine_of, refine_of}
use Rattle.block_tree.specs.Numbered.{IsNode, block_at}
use Rattle.block_tree.specs.declared.marks.Marks.{Marks}
use Rattle.block_tree.proofs.Flags.{same_says, same_shows}
use Rattle.mesh_model.specs.Fields.Ranks.{WorldState}
use Rattle.mesh_model.specs.Geometry.Blocks.{is_same_block}
use Rattle.mesh_model.specs.Tree.Kinds.{Grid, is_leaf_block}
use Rattle.mesh_model.specs.Tree.Order.{Sorted}
use Rattle.mesh_model.specs.Tree.ValidGrid.{Valid}
use Rattle.mesh_model.proofs.TreeLemmas.Tests.{refuted}
use Rattle.rank_world.specs.Contents.{node_of}
use Rattle.rank_world.specs.Holding.{LeavesHold}
use Rattle.rank_world.proofs.Contents.{leaf_of_number, number_of_node}
use Rattle.amr_engine.specs.MarkedWhere.{derefine_with, is_found, refine_with}
use Rattle.amr_engine.specs.declared.marking.Where.{Where}
use Rattle.amr_engine.specs.declared.marking.Where.TheVariants.{DerefineBelow, RefineAbove}

-- what a mark adds to a set: `with` says it of the refine and of the derefine marks
abbrev Added : (Where → Bool → Bool → Bool) → Grid → (CellAt → ℤ) → Where → (BlockAt → Bool) → (BlockAt → Bool) → ℕ → Type 0
Added with g content rule old new node = new (block_at g node) ≡ with rule (is_found g content rule (block_at g node)) (old (block_at g node))

-- of one of the two sets, the leaves below a node got their marks, and all other blocks are as they were
pub record IsSetBelow (m : ℕ) (with : Where → Bool → Bool → Bool) (w : WorldState) (v : ℕ) (rule : Where) (old new : BlockAt → Bool) : Type 0 where
  pub done : (content : CellAt → ℤ) → LeavesHold w v content → (k : ℕ) → k < m → IsNode w.told.grid k → Added with w.told.grid content rule old new k
  pub waits : (k : ℕ) → m ≤ k → IsNode w.told.grid k → new (block_at w.told.grid k) ≡ old (block_at w.told.grid k)
  pub inner : (b : BlockAt) → is_leaf_block w.told.grid b ≡ false → new b ≡ old b

pub record AreMarkedBelow (m : ℕ) (w : WorldState) (v : ℕ) (rule : Where) (old new : Marks) : Type 0 where
  pub refine : IsSetBelow m refine_with w v rule (refine_of w.told.grid old) (refine_of w.told.grid new)
  pub derefine : IsSetBelow m derefine_with w v rule (derefine_of w.told.grid old) (derefine_of w.told.grid new)

-- a mark that nothing adds leaves the set
pub record Leaves (with : Where → Bool → Bool → Bool) : Type 0 where
  pub none : (rule : Where) (before : Bool) → with rule false before ≡ before

pub refine_leaves : Leaves refine_with
refine_leaves = record { none = none }
  where
    none : (rule : Where) (before : Bool) → refine_with rule false before ≡ before
    none (RefineAbove above) before = refl
    none (DerefineBelow below) before = refl

pub derefine_leaves : Leaves derefine_with
derefine_leaves = record { none = none }
  where
    none : (rule : Where) (before : Bool) → derefine_with rule false before ≡ before
    none (RefineAbove above) before = refl
    none (DerefineBelow below) before = refl

module _ (with : Where → Bool → Bool → Bool) (leaves : Leaves with) (w : WorldState) (v : ℕ) (rule : Where) (valid : Valid w.told.grid) (order : Sorted w.told.grid.leaves) where
  pub none_set : (old : BlockAt → Bool) → IsSetBelow 0 with w v rule old old
  none_set old = record { done = λ content holds k h there. absurd (omega arith); waits = λ k h there. refl; inner = λ b no_leaf. refl }

  module _ (m : ℕ) (old now new : BlockAt → Bool) (is : IsSetBelow m with w v rule old now) (there : IsNode w.told.grid m) where
    other_node : (k : ℕ) → IsNode w.told.grid k → k ≢ m → is_same_block (block_at w.told.grid m) (block_at w.told.grid k) ≡ false
    other_node k node apart = refuted _ (λ same.
        let e = same_says (block_at w.told.grid m) (block_at w.told.grid k) same in
        absurd (apart (sym (number_of_node w.told.grid valid order k node) ∙ ap (node_of w.told.grid) (sym e) ∙ number_of_node w.told.grid valid order m there)))

    -- the mark is put on a node that is found
    pub set_put : ((content : CellAt → ℤ) → LeavesHold w v content → true ≡ is_found w.told.grid content rule (block_at w.told.grid m)) → is_leaf_block w.told.grid (block_at w.told.grid m) ≡ true →
        ((b : BlockAt) → new b ≡ with rule (is_same_block (block_at w.told.grid m) b) (now b)) → IsSetBelow (m + 1) with w v rule old new
    set_put found leaf put = record {
      done = λ content holds k h node. elim (cases_lt k m) [
        | inl less ↦
            put (block_at w.told.grid k) ∙ ap (λ t. with rule t (now (block_at w.told.grid k))) (other_node k node (λ e. omega arith)) ∙ leaves.none rule (now (block_at w.told.grid k))
            ∙ is.done content holds k less node
        | inr more ↦ (
            let last : k ≡ m = omega arith in
            subst (Added with w.told.grid content rule old new) (sym last)
            (put (block_at w.told.grid m) ∙ ap (λ t. with rule t (now (block_at w.told.grid m))) (same_shows (block_at w.told.grid m) (block_at w.told.grid m) refl ∙ found content holds)
            ∙ ap (with rule (is_found w.told.grid content rule (block_at w.told.grid m))) (is.waits m (omega arith) there)))
      ];
      waits = λ k h node. put (block_at w.told.grid k) ∙ ap (λ t. with rule t (now (block_at w.told.grid k))) (other_node k node (λ e. omega arith)) ∙ leaves.none rule (now (block_at w.told.grid k))
          ∙ is.waits k (omega arith) node;
      inner = λ b no_leaf.
          let apart : is_same_block (block_at w.told.grid m) b ≡ false = refuted _ (λ same.
          let here : is_leaf_block w.told.grid b ≡ true = ap (is_leaf_block w.told.grid) (sym (same_says (block_at w.told.grid m) b same)) ∙ leaf in cc) in
          put b ∙ ap (λ t. with rule t (now b)) apart ∙ leaves.none rule (now b) ∙ is.inner b no_leaf;
    }

    -- a node that is not found is passed over
    pub set_passed : ((content : CellAt → ℤ) → LeavesHold w v content → false ≡ is_found w.told.grid content rule (block_at w.told.grid m)) → IsSetBelow (m + 1) with w v rule old now
    set_passed found = record {
      done = λ content holds k h node. elim (cases_lt k m) [
        | inl less ↦ is.done content holds k less node
        | inr more ↦ (
            let last : k ≡ m = omega arith in
            subst (Added with w.told.grid content rule old now) (sym last)
            (is.waits m (omega arith) there ∙ sym (leaves.none rule (old (block_at w.told.grid m))) ∙ ap (λ t. with rule t (old (block_at w.told.grid m))) (found content holds)))
      ];
      waits = λ k h node. is.waits k (omega arith) node;
      inner = is.inner;
    }

  -- all leaves got their marks
  pub set_all : (old new : BlockAt → Bool) (count : ℕ) → IsSetBelow count with w v rule old new → ((k : ℕ) → IsNode w.told.grid k → k < count) → (content : CellAt → ℤ) → LeavesHold w v content → (b : BlockAt) →
      new b ≡ with rule (is_found w.told.grid content rule b) (old b)
  set_all old new count is all content holds b = elim (cases_Bool (is_leaf_block w.told.grid b)) [
    | inl leaf ↦ (
        let found = leaf_of_number w.told.grid valid order b leaf in
        let node = node_of w.told.grid b in
        subst (λ d. new d ≡ with rule (is_found w.told.grid content rule d) (old d)) found.1 (is.done content holds node (all node found.0.there) found.0.there))
    | inr no_leaf ↦
        is.inner b no_leaf ∙ sym (leaves.none rule (old b))
        ∙ sym (ap (λ t. with rule t (old b)) (none_found content b no_leaf))
  ]
    where
      none_found : (content : CellAt → ℤ) (b : BlockAt) → is_leaf_block w.told.grid b ≡ false → is_found w.told.grid content rule b ≡ false
      none_found content b no_leaf = rw no_leaf refl
