-- Sets of blocks that are given by flags of nodes.
use Rattle.std.proofs.Common.{◌≡◌, ◌≢◌, ℕ, zero, suc, ◌+◌, ◌<◌, ◌≤◌, ◌==◌, Bool, true, false, ◌&&◌, if◌then◌else◌, refl, sym, ap, ◌∙◌, subst, inl, inr, arith, List, [], ◌∷◌, length, replicate, slice_set, eq-eqb, eqb-true}
use Rattle.std.proofs.lemmas.Bool.{cases_Bool, cases_lt}
use Rattle.std.specs.List.{list_any, range_with_len}
use Rattle.amr_num.specs.declared.BlockAt.{BlockAt}
use Rattle.mesh_model.proofs.TreeLemmas.Nodes.{nodes_sorted}
use Rattle.mesh_model.specs.Tree.Order.{nodes, key}
use Rattle.mesh_model.specs.Tree.Kinds.{Grid}
use Rattle.mesh_model.specs.Geometry.Blocks.{is_same_block}
use Rattle.mesh_model.proofs.TreeLemmas.Tests.{refuted, and_left, and_right, and_both, or_left, or_right, either_true, all_four}
use Rattle.block_tree.specs.declared.tree.Tree.{Tree}
use Rattle.block_tree.specs.GridOf.{grid_of}
use Rattle.block_tree.specs.Numbered.{IsNode, block_at, blocks_of, flag_in}
use Rattle.block_tree.proofs.Facts.{known}
use Rattle.block_tree.proofs.Members.{one_place}

-- ---- tests

any_in_range : (p : ℕ → Bool) (a n : ℕ) → list_any p (range_with_len a n) ≡ true → (i : ℕ) × (a ≤ i) × (i < a + n) × (p i ≡ true)
any_in_range p a zero h = cc
any_in_range p a (suc n) h = elim (either_true (p a) (list_any p (range_with_len (a + 1) n)) h) [
  | inl t ↦ (a, omega arith, omega arith, t)
  | inr t ↦ let rest = any_in_range p (a + 1) n t in let low = rest.1 in let high = rest.2 in (rest.0, omega arith, omega arith, rest.3)
]

range_has_any : (p : ℕ → Bool) (a n i : ℕ) → a ≤ i → i < a + n → p i ≡ true → list_any p (range_with_len a n) ≡ true
range_has_any p a zero i low high t = absurd (omega arith)
range_has_any p a (suc n) i low high t = elim (cases_lt a i) [
  | inl lt ↦ or_right (p a) (list_any p (range_with_len (a + 1) n)) (range_has_any p (a + 1) n i (omega arith) (omega arith) t)
  | inr le ↦ let same : i ≡ a = omega arith in or_left (p a) (list_any p (range_with_len (a + 1) n)) (ap p (sym same) ∙ t)
]

pub same_says : (a b : BlockAt) → is_same_block a b ≡ true → a ≡ b
same_says a b h =
    let four = all_four (a.level == b.level) (a.x == b.x) (a.y == b.y) (a.z == b.z) h in
    let l = eqb-true _ _ four.0 in
    let x = eqb-true _ _ four.1 in
    let y = eqb-true _ _ four.2 in
    let z = eqb-true _ _ four.3 in
    λ i. record { level = l i; x = x i; y = y i; z = z i }

pub same_shows : (a b : BlockAt) → a ≡ b → is_same_block a b ≡ true
same_shows a b e = rw (eq-eqb a.level b.level (λ i. (e i).level), eq-eqb a.x b.x (λ i. (e i).x), eq-eqb a.y b.y (λ i. (e i).y), eq-eqb a.z b.z (λ i. (e i).z)) refl

both_ways : (a b : Bool) → (a ≡ true → b ≡ true) → (b ≡ true → a ≡ true) → a ≡ b
both_ways true b f g = sym (f refl)
both_ways false b f g = sym (refuted b (λ t. let e = g t in cc))

-- ---- sets by flags

module _ (g : Grid) (flag : ℕ → Bool) where
  pub set_says : (b : BlockAt) → blocks_of g flag b ≡ true → (i : ℕ) × IsNode g i × (flag i ≡ true) × (block_at g i ≡ b)
  unfolding blocks_of
  set_says b h =
      let found = any_in_range (λ i. flag i && is_same_block (block_at g i) b) 0 (length (nodes g.leaves)) h in
      let high = found.2 in
      (found.0, omega arith, and_left (flag found.0) (is_same_block (block_at g found.0) b) found.3, same_says (block_at g found.0) b (and_right (flag found.0) (is_same_block (block_at g found.0) b) found.3))

  pub set_shows : (b : BlockAt) (i : ℕ) → IsNode g i → flag i ≡ true → block_at g i ≡ b → blocks_of g flag b ≡ true
  unfolding blocks_of
  set_shows b i h t e =
      range_has_any (λ k. flag k && is_same_block (block_at g k) b) 0 (length (nodes g.leaves)) i (omega arith) (omega arith)
      (and_both (flag i) (is_same_block (block_at g i) b) t (same_shows (block_at g i) b e))

  pub set_empty : ((i : ℕ) → flag i ≡ false) → (b : BlockAt) → blocks_of g flag b ≡ false
  set_empty none b = refuted _ (λ h. let found = set_says b h in let no = none found.0 in let t = found.2 in cc)

-- ---- lists of flags

pub flag_put : (flags : List Bool) (node : ℕ) (v : Bool) → node < length flags → flag_in (slice_set flags node v) node ≡ v
flag_put [] node v h = absurd (omega arith)
flag_put (f ∷ fs) zero v h = refl
flag_put (f ∷ fs) (suc node) v h = flag_put fs node v (omega arith)

pub flag_kept : (flags : List Bool) (node i : ℕ) (v : Bool) → i ≢ node → flag_in (slice_set flags node v) i ≡ flag_in flags i
flag_kept [] node i v h = refl
flag_kept (f ∷ fs) zero zero v h = absurd (h refl)
flag_kept (f ∷ fs) zero (suc i) v h = refl
flag_kept (f ∷ fs) (suc node) zero v h = refl
flag_kept (f ∷ fs) (suc node) (suc i) v h = flag_kept fs node i v (λ e. h (ap suc e))

pub flag_lowered : (n i : ℕ) → flag_in (replicate n false) i ≡ false
flag_lowered zero i = refl
flag_lowered (suc n) zero = refl
flag_lowered (suc n) (suc i) = flag_lowered n i

module _ (t : Tree) where
  -- no two nodes have one block
  pub number_once : (i j : ℕ) → IsNode (grid_of t) i → IsNode (grid_of t) j → block_at (grid_of t) i ≡ block_at (grid_of t) j → i ≡ j
  unfolding block_at
  number_once i j h k e =
      let tree = known t in
      one_place (nodes (grid_of t).leaves) (nodes_sorted (grid_of t) tree.valid tree.order) i j h k (ap key e)

  -- the set has a node's block where the node is flagged
  pub set_at : (flag : ℕ → Bool) (i : ℕ) → IsNode (grid_of t) i → blocks_of (grid_of t) flag (block_at (grid_of t) i) ≡ flag i
  set_at flag i h = both_ways _ (flag i)
      (λ member. let found = set_says (grid_of t) flag (block_at (grid_of t) i) member in ap flag (sym (number_once found.0 i found.1 h found.3)) ∙ found.2)
      (λ member. set_shows (grid_of t) flag (block_at (grid_of t) i) i h member refl)

  -- flags that differ at one node give sets that differ at its block
  pub set_put : (old new : ℕ → Bool) (node : ℕ) (v : Bool) → IsNode (grid_of t) node → new node ≡ v → ((i : ℕ) → i ≢ node → new i ≡ old i) → (b : BlockAt) →
      blocks_of (grid_of t) new b ≡ (if is_same_block (block_at (grid_of t) node) b then v else blocks_of (grid_of t) old b)
  set_put old new node v h at others b =
      let g = grid_of t in
      elim (cases_Bool (is_same_block (block_at g node) b)) [
        | inl member ↦ rw member (ap (blocks_of g new) (sym (same_says (block_at g node) b member)) ∙ set_at new node h ∙ at)
        | inr other ↦ rw other (both_ways _ _
            (λ member.
            let found = set_says g new b member in
            set_shows g old b found.0 found.1 (sym (others found.0 (apart b found.0 other found.3)) ∙ found.2) found.3)
            (λ member.
            let found = set_says g old b member in
            set_shows g new b found.0 found.1 (others found.0 (apart b found.0 other found.3) ∙ found.2) found.3))
      ]
    where
      apart : (b : BlockAt) (i : ℕ) → is_same_block (block_at (grid_of t) node) b ≡ false → block_at (grid_of t) i ≡ b → i ≢ node
      apart b i other e = λ same. let member = same_shows (block_at (grid_of t) node) b (ap (block_at (grid_of t)) (sym same) ∙ e) in cc

  -- what holds of all blocks of a set holds of all blocks of the new one, where it holds of the block that is put in
  pub put_keeps : (P : BlockAt → Type 0) (old new : ℕ → Bool) (node : ℕ) (v : Bool) → IsNode (grid_of t) node → new node ≡ v → ((i : ℕ) → i ≢ node → new i ≡ old i) →
      ((b : BlockAt) → blocks_of (grid_of t) old b ≡ true → P b) → (v ≡ true → P (block_at (grid_of t) node)) → (b : BlockAt) → blocks_of (grid_of t) new b ≡ true → P b
  put_keeps P old new node v h at others kept put b member =
      let g = grid_of t in
      let found = set_says g new b member in
      elim (cases_Bool (found.0 == node)) [
        | inl same ↦
            let here = eqb-true found.0 node same in
            subst P (ap (block_at g) (sym here) ∙ found.3) (put (sym at ∙ ap new (sym here) ∙ found.2))
        | inr other ↦
            let apart : found.0 ≢ node = λ e. let same = eq-eqb found.0 node e in cc in
            kept b (set_shows g old b found.0 found.1 (sym (others found.0 apart) ∙ found.2) found.3)
      ]
