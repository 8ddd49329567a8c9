use Rattle.std.proofs.Common.{◌≡◌, ◌∙◌, ap, ap₂, sym, subst, true, false, not}
use Rattle.std.specs.Prelude.{nat_lt}
use Rattle.mesh_model.specs.Tree.Kinds.{is_leaf_block, is_split_block}
use Rattle.mesh_model.proofs.TreeLemmas.Tests.{refuted}
use Rattle.morton_key.specs.Keyed.{HasKey}
use Rattle.block_tree.specs.GridOf.{grid_of}
use Rattle.block_tree.specs.Numbered.{block_at}
use Rattle.block_tree.proofs.BlocksBeside.{no_split}
use Rattle.block_tree.proofs.Facts.{known}
use Rattle.block_tree.proofs.Leaves.{split_leaf}
use Rattle.block_tree.proofs.Next.{has_key}
use Rattle.block_tree.proofs.Numbers.{key_at, no_leaf, splits}
use Rattle.check_format.proofs.Taking.{goes_before, goes_nowhere, goes_self, goes_split}
use Rattle.check_format.proofs.own.goes_to.Goals as goal

pub returns-then-eq : goal.returns-then-eq
returns-then-eq c = c.goes_up.ensures ∙ sym (goes_self (grid_of c.args.tree.now) c.args.b c.args.toward c.args.block (sym c.eq.ensures ∙ c.if-eq.true))

pub key_of-requires : goal.key_of-requires
key_of-requires c = subst (λ u. HasKey u) c.in-Some.ensures.block (key_at c.args.tree.now c.in-Some.node c.in-Some.ensures.there)

pub key_of-requires-else-not-is_leaf : goal.key_of-requires-else-not-is_leaf
key_of-requires-else-not-is_leaf c = has_key (grid_of c.args.tree.now).shape c.args.b (known c.args.tree.now).valid.shape c.requires

pub returns-in-None : goal.returns-in-None
returns-in-None c =
    let g = grid_of c.args.tree.now in
    sym (goes_nowhere g c.args.b c.args.toward c.args.block (sym c.eq.ensures ∙ c.if-eq.false)
    (no_split g (known c.args.tree.now).valid c.args.block c.in-None.ensures) (no_leaf c.args.tree.now c.args.block c.in-None.ensures))

pub returns-then-not-is_leaf : goal.returns-then-not-is_leaf
returns-then-not-is_leaf c =
    let g = grid_of c.args.tree.now in
    let inner : is_leaf_block g (block_at g c.in-Some.node) ≡ false = sym c.is_leaf.ensures ∙ c.if-not-is_leaf.true in
    ap not c.if-not-is_leaf.true
    ∙ sym (goes_split g c.args.b c.args.toward c.args.block (sym c.eq.ensures ∙ c.if-eq.false)
    (ap (is_split_block g) (sym c.in-Some.ensures.block) ∙ splits c.args.tree.now c.in-Some.node c.in-Some.ensures.there inner))

pub returns-else-not-is_leaf : goal.returns-else-not-is_leaf
returns-else-not-is_leaf c =
    let g = grid_of c.args.tree.now in
    let leaf : is_leaf_block g c.args.block ≡ true = ap (is_leaf_block g) (sym c.in-Some.ensures.block) ∙ sym c.is_leaf.ensures ∙ c.if-not-is_leaf.false in
    let whole : is_split_block g c.args.block ≡ false = refuted _ (λ s. let none = split_leaf g (known c.args.tree.now).valid c.args.block s in cc) in
    ap₂ (λ m n. nat_lt m n) c.key_of.ensures.value c.key_of-else-not-is_leaf.ensures.value
    ∙ sym (goes_before g c.args.b c.args.toward c.args.block (sym c.eq.ensures ∙ c.if-eq.false) whole leaf)
