use Rattle.std.proofs.Common.{◌≡◌, Bool, refl, sym, ap, ◌∙◌, inl, inr}
use Rattle.std.specs.Prelude.{if◌then◌else◌}
use Rattle.std.proofs.lemmas.Bool.{cases_Bool}
use Rattle.amr_num.specs.declared.BlockAt.{BlockAt}
use Rattle.block_tree.specs.GridOf.{grid_of}
use Rattle.block_tree.specs.Marked.{derefine_at, derefine_of, refine_at, refine_of}
use Rattle.block_tree.specs.Numbered.{block_at}
use Rattle.block_tree.proofs.Flags.{same_says, set_at}
use Rattle.mesh_model.specs.Geometry.Blocks.{is_same_block}
use Rattle.amr_engine.specs.MarkedWhere.{derefine_with, refine_with}
use Rattle.amr_engine.proofs.marking.put.Goals as goal

-- a set whose flag at a block is put again stays
put_again : (set : BlockAt → Bool) (at b : BlockAt) (flag : Bool) → set at ≡ flag → (if is_same_block at b then flag else set b) ≡ set b
put_again set at b flag is = elim (cases_Bool (is_same_block at b)) [
  | inl same ↦ rw same (sym is ∙ ap set (same_says at b same))
  | inr other ↦ rw other refl
]

pub put-requires-clause-derefine : goal.put-requires-clause-derefine
put-requires-clause-derefine c on =
    let t = c.args.tree.now in
    c.requires.marks.fit.derefine (block_at (grid_of t) c.args.node) (set_at t (derefine_at c.args.marks.now) c.args.node c.requires.node ∙ sym c.derefine-derefine.ensures ∙ on)

pub put-requires-in-DerefineBelow-clause-refine : goal.put-requires-in-DerefineBelow-clause-refine
put-requires-in-DerefineBelow-clause-refine c on =
    let t = c.args.tree.now in
    c.requires.marks.fit.refine (block_at (grid_of t) c.args.node) (set_at t (refine_at c.args.marks.now) c.args.node c.requires.node ∙ sym c.refine-refine.ensures ∙ on)

pub returns-in-RefineAbove-clause-derefine : goal.returns-in-RefineAbove-clause-derefine
returns-in-RefineAbove-clause-derefine c b =
    let t = c.args.tree.now in
    let at = block_at (grid_of t) c.args.node in
    let old = derefine_of (grid_of t) c.args.marks.now in
    c.put.ensures.derefine b
    ∙ put_again old at b c.derefine-derefine.result (set_at t (derefine_at c.args.marks.now) c.args.node c.requires.node ∙ sym c.derefine-derefine.ensures)
    ∙ sym (ap (λ r. derefine_with r (is_same_block at b) (old b)) c.in-RefineAbove.is)

pub returns-in-DerefineBelow-clause-refine : goal.returns-in-DerefineBelow-clause-refine
returns-in-DerefineBelow-clause-refine c b =
    let t = c.args.tree.now in
    let at = block_at (grid_of t) c.args.node in
    let old = refine_of (grid_of t) c.args.marks.now in
    c.put-in-DerefineBelow.ensures.refine b
    ∙ put_again old at b c.refine-refine.result (set_at t (refine_at c.args.marks.now) c.args.node c.requires.node ∙ sym c.refine-refine.ensures)
    ∙ sym (ap (λ r. refine_with r (is_same_block at b) (old b)) c.in-DerefineBelow.is)
