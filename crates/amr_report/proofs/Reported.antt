-- Numbers and types of nodes as they are reported.
use Rattle.std.proofs.Common.{◌≡◌, ℕ, zero, suc, ◌<◌, ◌==◌, false, inl, inr, List, [], ◌∷◌, ◌++◌, Some, None, length, pos, refl, ap, ◌∙◌, subst, arith, eqb-true}
use Rattle.std.proofs.lemmas.Bool.{cases_Bool}
use Rattle.std.specs.Fmt.{signed_decimal}
use Rattle.std.specs.Prelude.{codes, decimal, map}
use Rattle.amr_num.specs.declared.Axis.TheVariants.{X, Y, Z}
use Rattle.amr_num.specs.declared.BlockAt.{BlockAt}
use Rattle.mesh_model.specs.declared.tree.NodeKind.{NodeKind}
use Rattle.mesh_model.specs.declared.tree.NodeKind.TheVariants.{Leaf, AboveLeaf, Inner}
use Rattle.block_tree.specs.declared.tree.Tree.{Tree}
use Rattle.block_tree.specs.GridOf.{grid_of}
use Rattle.block_tree.specs.Numbered.{IsNumberOf, block_at, block_in}
use Rattle.block_tree.proofs.Facts.{known}
use Rattle.block_tree.proofs.Flags.{same_says, same_shows}
use Rattle.block_tree.proofs.Members.{in_at}
use Rattle.mesh_model.proofs.TreeLemmas.Nodes.{nodes_sorted}
use Rattle.mesh_model.specs.Tree.Order.{IsIn, Sorted, key, nodes}
use Rattle.mesh_model.specs.Tree.Kinds.{kind_of, Grid, is_leaf_block}
use Rattle.mesh_model.specs.Geometry.Blocks.{children, parent_block, is_same_block}
use Rattle.std.specs.List.{list_any}
use Rattle.mesh_model.specs.Tree.Reported.{all_across, node_number, parent_reported, reported, node_place, type_of}
use Rattle.mesh_model.proofs.TreeLemmas.Tests.{refuted}
use Rattle.amr_report.specs.Nodes.{node_line, node_begin, with_across, with_kind}
use Rattle.amr_report.proofs.Joined.{join_words}

-- ---- numbers

-- a block's place in sorted nodes
place_is : (all : List BlockAt) (b : BlockAt) (i : ℕ) → Sorted all → i < length all → block_in all i ≡ b → node_place b all ≡ Some i
place_is [] b i sorted h e = absurd (omega arith)
place_is (c ∷ cs) b zero sorted h e = rw (same_shows c b e) refl
place_is (c ∷ cs) b (suc i) sorted h e =
    let less : key c < key b = sorted.0 b (subst (λ u. IsIn u cs) e (in_at cs i (omega arith))) in
    let other : is_same_block c b ≡ false = refuted _ (λ t. let k = ap key (same_says c b t) in omega arith) in
    rw (other, place_is cs b i sorted.1 (omega arith) e) refl

no_place : (all : List BlockAt) (b : BlockAt) → (IsIn b all → ⊥) → node_place b all ≡ None
no_place [] b out = refl
no_place (c ∷ cs) b out =
    let other : is_same_block c b ≡ false = refuted _ (λ t. out (inl (same_says c b t))) in
    rw (other, no_place cs b (λ i. out (inr i))) refl

pub number_is : (tree : Tree) (b : BlockAt) (node : ℕ) → IsNumberOf (grid_of tree) b node → node_number (grid_of tree) b ≡ Some node
unfolding block_at
number_is tree b node h =
    let g = grid_of tree in
    let whole = known tree in
    place_is (nodes g.leaves) b node (nodes_sorted g whole.valid whole.order) h.there h.block

pub no_number : (tree : Tree) (b : BlockAt) → (IsIn b (nodes (grid_of tree).leaves) → ⊥) → node_number (grid_of tree) b ≡ None
no_number tree b out = no_place (nodes (grid_of tree).leaves) b out

pub parent_is : (tree : Tree) (b : BlockAt) (parent : ℕ) → 0 < b.level → IsNumberOf (grid_of tree) (parent_block b) parent → parent_reported (grid_of tree) b ≡ pos parent
parent_is tree b parent above h =
    let fine : (b.level == 0) ≡ false = refuted _ (λ t. let e = eqb-true b.level 0 t in omega arith) in
    rw (parent_reported, fine) (ap reported (number_is tree (parent_block b) parent h))

-- ---- lines

-- the words of a node's line after the first
abbrev node_words : Grid → ℕ → BlockAt → List (List ℕ)
node_words g number b =
    decimal number ∷ codes "level" ∷ decimal b.level ∷ codes "at" ∷ decimal b.x ∷ decimal b.y ∷ decimal b.z
    ∷ codes "type" ∷ decimal (type_of g b) ∷ codes "parent" ∷ signed_decimal (parent_reported g b)
    ∷ codes "faces" ∷ map signed_decimal (all_across g b)

-- a node's line, put together
pub node_whole : (g : Grid) (node : ℕ) (b : BlockAt) (line : List ℕ) → b ≡ block_at g node → line ≡ with_across (with_across (with_across (with_kind (node_begin node b) (type_of g (block_at g node)) (parent_reported g (block_at g node))) g X b) g Y b) g Z b → line ++ codes "\n" ≡ node_line g node
unfolding node_line
node_whole g node b line here made =
    let at : BlockAt → List ℕ = λ c. with_across (with_across (with_across (with_kind (node_begin node c) (type_of g (block_at g node)) (parent_reported g (block_at g node))) g X c) g Y c) g Z c in
    ap (λ t. t ++ codes "\n") (made ∙ (ap at here ∙ join_words (codes "node") (node_words g node (block_at g node))))
