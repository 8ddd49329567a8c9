use Rattle.std.proofs.Common.{◌≡◌, length, arith, sym, subst, ap}
use Rattle.block_tree.specs.Marked.{IsUnmarked}
use Rattle.block_tree.specs.Growing.{MayRegrow}
use Rattle.block_tree.specs.GridOf.{grid_of}
use Rattle.mesh_model.specs.declared.geometry.Shape.{Shape}
use Rattle.mesh_model.specs.Fields.Ranks.{WorldState}
use Rattle.mesh_model.specs.Fields.Valid.{ValidMesh}
use Rattle.mesh_model.specs.Tree.Kinds.{Grid}
use Rattle.mesh_model.specs.Tree.Order.{nodes}
use Rattle.refine_marks.specs.Flags.{IsOnePerNode}
use Rattle.refine_marks.specs.Planned.{merged_by, refined_by}
use Rattle.regrid_move.specs.Regrids.{IsRegridded}
use Rattle.amr_engine.specs.EngineMesh.{mesh_of}
use Rattle.amr_engine.specs.Stopping.{MayStop, stopped_by}
use Rattle.mesh_model.specs.declared.language.script.Command.TheVariants as commands
use Rattle.amr_engine.proofs.Made.{marks_of, may_move, of_now, plan_now, regrid_allowed, regrid_is, regrid_laid, regrid_room, regrid_shape, regrid_stops, regrid_valid}
use Rattle.mesh_steps.proofs.Ranged.{leaves_in_range}
use Rattle.amr_engine.proofs.ValidOut.{mesh_out}
use Rattle.amr_engine.proofs.engine.Engine.regrid.Goals as goal

pub close-requires : goal.close-requires
close-requires g c =
    let self = c.args.self.now in
    marks_of self.names self.world self.outs.items self.marks self.laid_out (mesh_out (mesh_of self.names self.world self.outs.items self.marks) self.valid) (grid_of c.tree.result.now) c.tree.ensures

pub regrid-requires : goal.regrid-requires
regrid-requires g c =
    let self = c.args.self.now in
    let plan = c.in-Ok.plan in
    let m = mesh_of self.names self.world self.outs.items self.marks in
    let valid = mesh_out m self.valid in (
      omega arith,
      (
        self.fit,
        (
          record { mesh = m; valid = valid; world = of_now self.names self.world self.outs.items self.marks self.laid_out valid },
          (
            leaves_in_range self.world m (of_now self.names self.world self.outs.items self.marks self.laid_out valid) valid,
            (
              subst (λ h. IsOnePerNode h plan.refine.items) c.tree.ensures c.in-Ok.ensures.refine_flags,
              (
                subst (λ h. IsOnePerNode h plan.merge.items) c.tree.ensures c.in-Ok.ensures.merge_flags,
                subst (λ h. MayRegrow h (refined_by h plan) (merged_by h plan)) c.tree.ensures c.in-Ok.ensures.may_regrow,
              ),
            ),
          ),
        ),
      ),
    )

pub reset-requires : goal.reset-requires
reset-requires g c =
    let self = c.args.self.now in
    let m = mesh_of self.names self.world self.outs.items self.marks in
    let valid = mesh_out m self.valid in
    let plan = plan_now self.names self.world self.outs.items self.marks self.laid_out valid c.tree.result.now c.in-Ok.plan c.tree.ensures c.in-Ok.ensures.new_grid in
    let new = c.regrid.new.world in
    let done : IsRegridded m new = c.in-Ok-regrid.ensures.mesh m (may_move self.names self.world self.outs.items self.marks self.laid_out valid c.in-Ok.plan plan) in
    let here : length (nodes (grid_of c.tree-in-Ok-regrid.result.now).leaves) ≡ length (nodes new.told.grid.leaves) = ap (λ (h : Grid). length (nodes h.leaves)) c.tree-in-Ok-regrid.ensures in
    let few = regrid_room self.names self.world self.outs.items self.marks self.laid_out valid new done in
    omega (arith, here, few)

pub invariant_of-self-in-Ok-regrid : goal.invariant_of-self-in-Ok-regrid
invariant_of-self-in-Ok-regrid g c =
    let self = c.args.self.now in
    let m = mesh_of self.names self.world self.outs.items self.marks in
    let valid = mesh_out m self.valid in
    let plan = plan_now self.names self.world self.outs.items self.marks self.laid_out valid c.tree.result.now c.in-Ok.plan c.tree.ensures c.in-Ok.ensures.new_grid in
    let new = c.regrid.new.world in
    let done : IsRegridded m new = c.in-Ok-regrid.ensures.mesh m (may_move self.names self.world self.outs.items self.marks self.laid_out valid c.in-Ok.plan plan) in
    let none : IsUnmarked new.told.grid c.reset.new.self = subst (λ h. IsUnmarked h c.reset.new.self) c.tree-in-Ok-regrid.ensures c.reset.ensures.none in
    let is = regrid_is self.names self.world self.outs.items self.marks self.laid_out valid new c.reset.new.self done none in
    record {
      room = c.args.self.now.room;
      named = c.args.self.now.named;
      fit = c.in-Ok-regrid.ensures.fit;
      laid_out = regrid_laid self.names self.world self.outs.items self.marks self.laid_out valid new c.reset.new.self done none c.reset.ensures.room;
      valid = ∣ subst ValidMesh (sym is) (regrid_valid self.names self.world self.outs.items self.marks self.laid_out valid new c.reset.new.self done none) ∣₁;
    }

pub returns-in-Ok-regrid-clause-changes : goal.returns-in-Ok-regrid-clause-changes
returns-in-Ok-regrid-clause-changes g c =
    let self = c.args.self.now in
    let m = mesh_of self.names self.world self.outs.items self.marks in
    let valid = mesh_out m self.valid in
    let plan = plan_now self.names self.world self.outs.items self.marks self.laid_out valid c.tree.result.now c.in-Ok.plan c.tree.ensures c.in-Ok.ensures.new_grid in
    let new = c.regrid.new.world in
    let done : IsRegridded m new = c.in-Ok-regrid.ensures.mesh m (may_move self.names self.world self.outs.items self.marks self.laid_out valid c.in-Ok.plan plan) in
    let none : IsUnmarked new.told.grid c.reset.new.self = subst (λ h. IsUnmarked h c.reset.new.self) c.tree-in-Ok-regrid.ensures c.reset.ensures.none in
    (regrid_allowed self.names self.world self.outs.items self.marks self.laid_out valid new c.reset.new.self done none, regrid_is self.names self.world self.outs.items self.marks self.laid_out valid new c.reset.new.self done none)

pub returns-in-Ok-regrid-clause-declared : goal.returns-in-Ok-regrid-clause-declared
returns-in-Ok-regrid-clause-declared g c =
    let self = c.args.self.now in
    let m = mesh_of self.names self.world self.outs.items self.marks in
    let valid = mesh_out m self.valid in
    let plan = plan_now self.names self.world self.outs.items self.marks self.laid_out valid c.tree.result.now c.in-Ok.plan c.tree.ensures c.in-Ok.ensures.new_grid in
    let new = c.regrid.new.world in
    let done : IsRegridded m new = c.in-Ok-regrid.ensures.mesh m (may_move self.names self.world self.outs.items self.marks self.laid_out valid c.in-Ok.plan plan) in
    ap (λ (s : Shape). record { shape = s; names = self.names }) (regrid_shape self.names self.world self.outs.items self.marks self.laid_out valid new done)

pub returns-clause-changes : goal.returns-clause-changes
returns-clause-changes g c =
    let self = c.args.self.now in
    let m = mesh_of self.names self.world self.outs.items self.marks in
    let valid = mesh_out m self.valid in
    let plan = plan_now self.names self.world self.outs.items self.marks self.laid_out valid c.tree.result.now c.in-Ok.plan c.tree.ensures c.in-Ok.ensures.new_grid in
    let stop = c.in-Err-regrid.ensures.stop m (may_move self.names self.world self.outs.items self.marks self.laid_out valid c.in-Ok.plan plan) in
    let stays = c.in-Err-regrid.ensures.refused in (
      subst (λ cause. MayStop (stopped_by cause) m commands.Regrid) (sym c.of_regrid.ensures) (regrid_stops self.names self.world self.outs.items self.marks self.laid_out valid c.in-Err-regrid.stop stop),
      ap (λ (w : WorldState). mesh_of self.names w self.outs.items self.marks) stays,
    )
