use Rattle.std.proofs.Common.{◌≡◌, Some, Bool, List, map, false, true, ap, sym, subst, ◌∙◌, arith}
use Rattle.block_tree.specs.GridOf.{grid_of}
use Rattle.mesh_model.specs.Images.Image.{grid_by, is_parent}
use Rattle.mesh_model.specs.Tree.Forest.{HasFlags}
use Rattle.check_format.proofs.ReadNodes.{grid_is, no_tree, read_fails, read_gives, tree_by_marks}
use Rattle.check_format.proofs.reading.nodes.nodes_at.Goals as goal

pub returns-in-Err-NotTree-clause-read : goal.returns-in-Err-NotTree-clause-read
returns-in-Err-NotTree-clause-read c =
    let s = c.args.shape in
    let cs = c.in-Some.codes.now in
    let above : c.deref.result.now ≡ map is_parent cs = c.deref.ensures.value ∙ c.in_ok-above.ensures in
    read_fails s c.requires cs c.in-Some.rest.now c.args.bytes.now c.in-Some.ensures.read
    (no_tree s c.requires cs c.in-Some.ensures.some c.in-Some.ensures.few
    (λ g h. (rw c.in-Err-NotTree.field-0-is at c.in-Err-NotTree.ensures.stop) g (subst (λ (u : List Bool). HasFlags s u g) (sym above) h)))

pub returns-then-not-marks_stand-clause-read : goal.returns-then-not-marks_stand-clause-read
returns-then-not-marks_stand-clause-read c =
    let s = c.args.shape in
    let cs = c.in-Some.codes.now in
    let g = grid_of c.in-Ok.tree in
    let above : c.deref.result.now ≡ map is_parent cs = c.deref.ensures.value ∙ c.in_ok-above.ensures in
    let has = subst (λ (u : List Bool). HasFlags s u g) above c.in-Ok.ensures.tree in
    let small = sym c.are_codes.ensures ∙ c.if-not-are_codes.false in
    read_fails s c.requires cs c.in-Some.rest.now c.args.bytes.now c.in-Some.ensures.read
    (tree_by_marks s c.requires cs g has small ∙ sym c.marks_stand.ensures ∙ c.if-not-marks_stand.true)

pub returns-clause-read : goal.returns-clause-read
returns-clause-read c =
    let s = c.args.shape in
    let cs = c.in-Some.codes.now in
    let g = grid_of c.in-Ok.tree in
    let above : c.deref.result.now ≡ map is_parent cs = c.deref.ensures.value ∙ c.in_ok-above.ensures in
    let has = subst (λ (u : List Bool). HasFlags s u g) above c.in-Ok.ensures.tree in
    let small = sym c.are_codes.ensures ∙ c.if-not-are_codes.false in
    ap (λ u. Some (u, c.in-Some.rest.now)) c.in_ok-marks.ensures.codes
    ∙ read_gives s c.requires cs c.in-Some.rest.now c.args.bytes.now c.in-Some.ensures.read
    (tree_by_marks s c.requires cs g has small ∙ sym c.marks_stand.ensures ∙ c.if-not-marks_stand.false)

pub returns-clause-grid : goal.returns-clause-grid
returns-clause-grid c =
    let s = c.args.shape in
    let cs = c.in-Some.codes.now in
    let g = grid_of c.in-Ok.tree in
    let above : c.deref.result.now ≡ map is_parent cs = c.deref.ensures.value ∙ c.in_ok-above.ensures in
    let has = subst (λ (u : List Bool). HasFlags s u g) above c.in-Ok.ensures.tree in
    ap (grid_by s) c.in_ok-marks.ensures.codes ∙ grid_is s c.requires cs g has
