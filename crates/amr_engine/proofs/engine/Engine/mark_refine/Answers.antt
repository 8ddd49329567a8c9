use Rattle.std.proofs.Common.{◌≡◌, true, IsErr, IfErr, OnOk, refl, sym, subst, ap, ◌∙◌}
use Rattle.std.specs.Prelude.{◌↔◌}
use Rattle.amr_num.specs.declared.BlockAt.{BlockAt}
use Rattle.block_tree.specs.GridOf.{grid_of}
use Rattle.block_tree.specs.Marked.{refine_of}
use Rattle.block_tree.specs.Numbered.{block_at}
use Rattle.mesh_model.specs.declared.language.script.Command.TheVariants as commands
use Rattle.mesh_model.specs.Tree.Kinds.{is_leaf_block}
use Rattle.refine_marks.specs.Flags.{AddsBlock}
use Rattle.amr_engine.specs.EngineMesh.{mesh_of}
use Rattle.amr_engine.specs.Stopping.{Changes}
use Rattle.amr_engine.proofs.Made.{at_limit, changes_valid, has_marks, marks_of, refine_changes}
use Rattle.amr_engine.proofs.Marks.{no_leaf_refine}
use Rattle.amr_engine.proofs.ValidOut.{mesh_out}
use Rattle.amr_engine.proofs.engine.Engine.mark_refine.Goals as goal

pub returns-in-None-clause-changes : goal.returns-in-None-clause-changes
returns-in-None-clause-changes g c =
    let self = c.args.self.now in
    let m = mesh_of self.names self.world self.outs.items self.marks in
    let valid = mesh_out m self.valid in
    (no_leaf_refine m c.tree.result.now self.marks c.args.at (has_marks self.names self.world self.outs.items self.marks self.laid_out valid c.tree.result.now c.tree.ensures) c.in-None.ensures, refl)

pub set_refine-requires-clause-marks : goal.set_refine-requires-clause-marks
set_refine-requires-clause-marks g c =
    let self = c.args.self.now in
    marks_of self.names self.world self.outs.items self.marks self.laid_out (mesh_out (mesh_of self.names self.world self.outs.items self.marks) self.valid) (grid_of c.tree-2.result.now) c.tree-2.ensures

pub invariant_of-self-2 : goal.invariant_of-self-2
invariant_of-self-2 g c =
    let self = c.args.self.now in
    let m = mesh_of self.names self.world self.outs.items self.marks in
    let valid = mesh_out m self.valid in
    let at = c.args.at in
    let t = c.tree-2.result.now in
    let is = c.tree-2.ensures in
    let new = c.set_refine.new.self in
    let result = c.set_refine.result in
    let told = c.set_refine.ensures in
    let back = is ∙ sym c.tree.ensures in
    let same : block_at (grid_of t) c.in-Some.node ≡ at = ap (λ h. block_at h c.in-Some.node) back ∙ c.in-Some.ensures.1.block in
    let leaf : is_leaf_block (grid_of t) at ≡ true = ap (λ h. is_leaf_block h at) back ∙ c.in-Some.ensures.0 in
    let made = refine_changes self.names self.world self.outs.items self.marks self.laid_out valid t at new is leaf told.marks result
    (subst (λ (b : BlockAt). IsErr result ↔ (b.level ≡ (grid_of t).shape.max)) same told.refused)
    (subst (λ (b : BlockAt). IfErr result (λ stop. stop ≡ record { level = b.level; limit = (grid_of t).shape.max })) same told.stop)
    (subst (λ b. OnOk result (AddsBlock b (refine_of (grid_of t) self.marks) (refine_of (grid_of t) new))) same told.refine) told.derefine told.unchanged in
    record {
      room = c.args.self.now.room;
      named = c.args.self.now.named;
      fit = self.fit;
      laid_out = record {
        cells = self.laid_out.cells;
        faces = self.laid_out.faces;
        edges = self.laid_out.edges;
        on_faces = self.laid_out.on_faces;
        on_edges = self.laid_out.on_edges;
        flowed = self.laid_out.flowed;
        room = c.set_refine.ensures.room ∙ self.laid_out.room;
      };
      valid = ∣ changes_valid self.names self.world self.outs.items self.marks self.laid_out valid (at_limit c.set_refine.result) (commands.MarkRefine c.args.at) (mesh_of self.names self.world self.outs.items c.set_refine.new.self) c.requires.place made ∣₁;
    }

pub returns-in-Ok-clause-changes : goal.returns-in-Ok-clause-changes
returns-in-Ok-clause-changes g c =
    let self = c.args.self.now in
    let m = mesh_of self.names self.world self.outs.items self.marks in
    let valid = mesh_out m self.valid in
    let at = c.args.at in
    let t = c.tree-2.result.now in
    let is = c.tree-2.ensures in
    let new = c.set_refine.new.self in
    let result = c.set_refine.result in
    let told = c.set_refine.ensures in
    let back = is ∙ sym c.tree.ensures in
    let same : block_at (grid_of t) c.in-Some.node ≡ at = ap (λ h. block_at h c.in-Some.node) back ∙ c.in-Some.ensures.1.block in
    let leaf : is_leaf_block (grid_of t) at ≡ true = ap (λ h. is_leaf_block h at) back ∙ c.in-Some.ensures.0 in
    let made = refine_changes self.names self.world self.outs.items self.marks self.laid_out valid t at new is leaf told.marks result
    (subst (λ (b : BlockAt). IsErr result ↔ (b.level ≡ (grid_of t).shape.max)) same told.refused)
    (subst (λ (b : BlockAt). IfErr result (λ stop. stop ≡ record { level = b.level; limit = (grid_of t).shape.max })) same told.stop)
    (subst (λ b. OnOk result (AddsBlock b (refine_of (grid_of t) self.marks) (refine_of (grid_of t) new))) same told.refine) told.derefine told.unchanged in
    subst (λ r. Changes (at_limit r) m (commands.MarkRefine at) (mesh_of self.names self.world self.outs.items new)) c.in-Ok.is made

pub returns-in-Err-clause-changes : goal.returns-in-Err-clause-changes
returns-in-Err-clause-changes g c =
    let self = c.args.self.now in
    let m = mesh_of self.names self.world self.outs.items self.marks in
    let valid = mesh_out m self.valid in
    let at = c.args.at in
    let t = c.tree-2.result.now in
    let is = c.tree-2.ensures in
    let new = c.set_refine.new.self in
    let result = c.set_refine.result in
    let told = c.set_refine.ensures in
    let back = is ∙ sym c.tree.ensures in
    let same : block_at (grid_of t) c.in-Some.node ≡ at = ap (λ h. block_at h c.in-Some.node) back ∙ c.in-Some.ensures.1.block in
    let leaf : is_leaf_block (grid_of t) at ≡ true = ap (λ h. is_leaf_block h at) back ∙ c.in-Some.ensures.0 in
    let made = refine_changes self.names self.world self.outs.items self.marks self.laid_out valid t at new is leaf told.marks result
    (subst (λ (b : BlockAt). IsErr result ↔ (b.level ≡ (grid_of t).shape.max)) same told.refused)
    (subst (λ (b : BlockAt). IfErr result (λ stop. stop ≡ record { level = b.level; limit = (grid_of t).shape.max })) same told.stop)
    (subst (λ b. OnOk result (AddsBlock b (refine_of (grid_of t) self.marks) (refine_of (grid_of t) new))) same told.refine) told.derefine told.unchanged in
    subst (λ r. Changes (at_limit r) m (commands.MarkRefine at) (mesh_of self.names self.world self.outs.items new)) c.in-Err.is made
