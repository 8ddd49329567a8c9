use Rattle.std.proofs.Common.{not, ap, inl, inr, sym, ◌∙◌}
use Rattle.std.proofs.lemmas.Bool.{cases_Bool}
use Rattle.mesh_model.specs.Tree.Kinds.{is_split_block}
use Rattle.mesh_model.specs.Tree.ValidGrid.{Valid}
use Rattle.block_tree.specs.GridOf.{grid_of}
use Rattle.block_tree.specs.Numbered.{block_at}
use Rattle.block_tree.proofs.BlocksBeside.{no_split}
use Rattle.block_tree.proofs.Facts.{known}
use Rattle.block_tree.proofs.Numbers.{splits}
use Rattle.staggered.proofs.Uniform.{whole_of}
use Rattle.staggered.proofs.setting.is_split_block.Goals as goal

pub returns-in-None : goal.returns-in-None
returns-in-None c = sym (no_split (grid_of c.args.tree.now) (known c.args.tree.now).valid c.args.block c.in-None.ensures)

pub returns-in-Some : goal.returns-in-Some
returns-in-Some c =
    let h = grid_of c.args.tree.now in
    let valid : Valid h = (known c.args.tree.now).valid in
    let node = c.in-Some.node in
    let number = c.in-Some.ensures in
    elim (cases_Bool c.is_leaf.result) [
      | inl leaf ↦ ap not leaf ∙ sym (whole_of h valid (block_at h node) (sym c.is_leaf.ensures ∙ leaf)) ∙ ap (is_split_block h) number.block
      | inr inner ↦ ap not inner ∙ sym (splits c.args.tree.now node number.there (sym c.is_leaf.ensures ∙ inner)) ∙ ap (is_split_block h) number.block
    ]
