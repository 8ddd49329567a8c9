use Rattle.std.proofs.Common.{◌≡◌, ℕ, ◌+◌, Bool, true, false, if◌then◌else◌, refl, sym, ap, ap₂, ◌∙◌}
use Rattle.mesh_model.specs.Images.Image as image
use Rattle.mesh_model.specs.Tree.Kinds.{is_leaf_block, is_split_block}
use Rattle.block_tree.specs.GridOf.{grid_of}
use Rattle.block_tree.specs.Marked.{derefine_at, derefine_of, refine_at, refine_of}
use Rattle.block_tree.specs.Numbered.{block_at}
use Rattle.block_tree.proofs.Facts.{known}
use Rattle.block_tree.proofs.Flags.{set_at}
use Rattle.block_tree.proofs.Leaves.{split_leaf}
use Rattle.block_tree.proofs.Numbers.{splits}
use Rattle.check_format.proofs.head.node_code.Goals as goal
use Rattle.check_format.proofs.head.node_code.Goals.{then-refine, else-refine, then-derefine, else-derefine}

pub returns-then-not-is_leaf : goal.returns-then-not-is_leaf
returns-then-not-is_leaf c =
    let g = grid_of c.args.tree.now in
    let b = block_at g c.args.node in
    let split : is_split_block g b ≡ true = splits c.args.tree.now c.args.node c.requires.node (sym c.is_leaf.ensures ∙ c.if-not-is_leaf.true) in
    ap (λ t. image.code_of t (refine_of g c.args.marks.now b) (derefine_of g c.args.marks.now b)) (sym split)

-- a leaf is not split
whole : (split leaf : Bool) → (split ≡ true → leaf ≡ false) → leaf ≡ true → split ≡ false
whole false leaf h t = refl
whole true leaf h t = let f = h refl in cc

pub returns : goal.returns
returns c =
    let tree = c.args.tree.now in
    let g = grid_of tree in
    let b = block_at g c.args.node in
    let unsplit : is_split_block g b ≡ false = whole (is_split_block g b) (is_leaf_block g b) (split_leaf g (known tree).valid b) (sym c.is_leaf.ensures ∙ c.if-not-is_leaf.false) in
    let refine : c.if-refine.refine ≡ (if refine_of g c.args.marks.now b then 1 else 0) = elim c.if-refine.branch [
      | then-refine w ↦ w.refine-is ∙ ap (λ t. if t then 1 else 0) (sym w.if-refine.true ∙ c.refine.ensures ∙ sym (set_at tree (refine_at c.args.marks.now) c.args.node c.requires.node))
      | else-refine w ↦ w.refine-is ∙ ap (λ t. if t then 1 else 0) (sym w.if-refine.false ∙ c.refine.ensures ∙ sym (set_at tree (refine_at c.args.marks.now) c.args.node c.requires.node))
    ] in
    let derefine : c.if-derefine.derefine ≡ (if derefine_of g c.args.marks.now b then 2 else 0) = elim c.if-derefine.branch [
      | then-derefine w ↦ w.derefine-is ∙ ap (λ t. if t then 2 else 0) (sym w.if-derefine.true ∙ c.derefine.ensures ∙ sym (set_at tree (derefine_at c.args.marks.now) c.args.node c.requires.node))
      | else-derefine w ↦ w.derefine-is ∙ ap (λ t. if t then 2 else 0) (sym w.if-derefine.false ∙ c.derefine.ensures ∙ sym (set_at tree (derefine_at c.args.marks.now) c.args.node c.requires.node))
    ] in
    ap₂ (λ (r d : ℕ). r + d) refine derefine ∙ ap (λ t. image.code_of t (refine_of g c.args.marks.now b) (derefine_of g c.args.marks.now b)) (sym unsplit)
