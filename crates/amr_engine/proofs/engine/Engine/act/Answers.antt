use Rattle.std.proofs.Common.{◌^◌, Ok, arith, refl, sym, ap, subst, ◌∙◌}
use Rattle.mesh_model.specs.Run.Texts.{mesh_text, size_text}
use Rattle.mesh_model.specs.Run.TreeText.{tree_text}
use Rattle.mesh_model.specs.declared.language.script.Command.TheVariants.{Advect, Curl, DerefineWhere, EdgeSet, FaceSet, FillAll, FillBox, Induct, MarkDerefine, MarkRefine, NetFlux, PrintMesh, PrintSize, PrintTree, PrintVar, RefineWhere, Regrid, Total, Uniform}
use Rattle.amr_num.proofs.Machine.{kept}
use Rattle.mesh_model.specs.Fields.Setting.{derefine_where, refine_where}
use Rattle.mesh_model.specs.Language.Commands.{IsCommandOf}
use Rattle.mesh_model.specs.Run.Stops.{refusal}
use Rattle.amr_engine.specs.EngineMesh.{mesh_of}
use Rattle.amr_engine.specs.Plain.{declared_of, plain}
use Rattle.amr_engine.specs.Regions.{filled}
use Rattle.amr_engine.specs.declared.region.Region.TheVariants.{Everywhere, Within}
use Rattle.amr_report.specs.Printing.{Prints}
use Rattle.amr_engine.specs.Stopping.{Acts, Changes, Written}
use Rattle.amr_engine.proofs.Acted.{acts_changing, acts_printing}
use Rattle.amr_engine.proofs.engine.Engine.act.Goals as goal

pub returns-in-FillAll-clause-acts : goal.returns-in-FillAll-clause-acts
unfolding refusal
returns-in-FillAll-clause-acts g c =
    let self = c.args.self.now in
    let fits = subst (IsCommandOf (declared_of self)) c.in-FillAll.is c.requires.fits in
    acts_changing (Ok tt) (plain c.args.self.now) (plain c.fill.new.self) c.args.command (FillAll c.in-FillAll.var c.in-FillAll.value) (g.K.Sink.taken c.args.sink.now) (g.K.Sink.faults c.args.sink.now) c.in-FillAll.is (λ sink. cc)
    (refl, c.fill.ensures.mesh ∙ ap (λ n. filled (plain self) c.in-FillAll.var (record { region = Everywhere; value = n })) (kept c.in-FillAll.value (2 ^ 40) fits.1 (omega arith)))

pub returns-in-FillBox-clause-acts : goal.returns-in-FillBox-clause-acts
unfolding refusal
returns-in-FillBox-clause-acts g c =
    let self = c.args.self.now in
    let fits = subst (IsCommandOf (declared_of self)) c.in-FillBox.is c.requires.fits in
    acts_changing (Ok tt) (plain c.args.self.now) (plain c.fill-in-FillBox.new.self) c.args.command (FillBox c.in-FillBox.var c.in-FillBox.level c.in-FillBox.low c.in-FillBox.high c.in-FillBox.value) (g.K.Sink.taken c.args.sink.now) (g.K.Sink.faults c.args.sink.now) c.in-FillBox.is (λ sink. cc)
    (refl, c.fill-in-FillBox.ensures.mesh ∙ ap (λ n. filled (plain self) c.in-FillBox.var (record { region = Within (record { level = c.in-FillBox.level; low = c.in-FillBox.low; high = c.in-FillBox.high }); value = n })) (kept c.in-FillBox.value (2 ^ 40) fits.2 (omega arith)))

pub returns-in-RefineWhere-clause-acts : goal.returns-in-RefineWhere-clause-acts
unfolding refusal
returns-in-RefineWhere-clause-acts g c =
    let self = c.args.self.now in
    let fits = subst (IsCommandOf (declared_of self)) c.in-RefineWhere.is c.requires.fits in
    acts_changing (Ok tt) (plain c.args.self.now) (plain c.mark_where.new.self) c.args.command (RefineWhere c.in-RefineWhere.var c.in-RefineWhere.above) (g.K.Sink.taken c.args.sink.now) (g.K.Sink.faults c.args.sink.now) c.in-RefineWhere.is (λ sink. cc)
    (refl, c.mark_where.ensures.mesh ∙ ap (λ n. refine_where (plain self) c.in-RefineWhere.var n) (kept c.in-RefineWhere.above (2 ^ 40) fits.1 (omega arith)))

pub returns-in-DerefineWhere-clause-acts : goal.returns-in-DerefineWhere-clause-acts
unfolding refusal
returns-in-DerefineWhere-clause-acts g c =
    let self = c.args.self.now in
    let fits = subst (IsCommandOf (declared_of self)) c.in-DerefineWhere.is c.requires.fits in
    acts_changing (Ok tt) (plain c.args.self.now) (plain c.mark_where-in-DerefineWhere.new.self) c.args.command (DerefineWhere c.in-DerefineWhere.var c.in-DerefineWhere.below) (g.K.Sink.taken c.args.sink.now) (g.K.Sink.faults c.args.sink.now) c.in-DerefineWhere.is (λ sink. cc)
    (refl, c.mark_where-in-DerefineWhere.ensures.mesh ∙ ap (λ n. derefine_where (plain self) c.in-DerefineWhere.var n) (kept c.in-DerefineWhere.below (2 ^ 40) fits.1 (omega arith)))

pub returns-in-MarkRefine-clause-acts : goal.returns-in-MarkRefine-clause-acts
returns-in-MarkRefine-clause-acts g c = acts_changing c.mark_refine.result (plain c.args.self.now) (plain c.mark_refine.new.self) c.args.command (MarkRefine c.in-MarkRefine.at) (g.K.Sink.taken c.args.sink.now) (g.K.Sink.faults c.args.sink.now) c.in-MarkRefine.is (λ sink. cc) c.mark_refine.ensures.changes

pub returns-in-MarkDerefine-clause-acts : goal.returns-in-MarkDerefine-clause-acts
returns-in-MarkDerefine-clause-acts g c = acts_changing c.mark_derefine.result (plain c.args.self.now) (plain c.mark_derefine.new.self) c.args.command (MarkDerefine c.in-MarkDerefine.at) (g.K.Sink.taken c.args.sink.now) (g.K.Sink.faults c.args.sink.now) c.in-MarkDerefine.is (λ sink. cc) c.mark_derefine.ensures.changes

pub returns-in-Regrid-clause-acts : goal.returns-in-Regrid-clause-acts
returns-in-Regrid-clause-acts g c = acts_changing c.regrid.result (plain c.args.self.now) (plain c.regrid.new.self) c.args.command (Regrid) (g.K.Sink.taken c.args.sink.now) (g.K.Sink.faults c.args.sink.now) c.in-Regrid.is (λ sink. cc) c.regrid.ensures.changes

pub returns-in-Uniform-clause-acts : goal.returns-in-Uniform-clause-acts
returns-in-Uniform-clause-acts g c =
    acts_changing c.uniform.result (plain c.args.self.now) (plain c.uniform.new.self) c.args.command (Uniform c.in-Uniform.b) (g.K.Sink.taken c.args.sink.now) (g.K.Sink.faults c.args.sink.now) c.in-Uniform.is (λ sink. cc) c.uniform.ensures.changes

pub returns-in-FaceSet-clause-acts : goal.returns-in-FaceSet-clause-acts
returns-in-FaceSet-clause-acts g c =
    let self = c.args.self.now in
    let fits = subst (IsCommandOf (declared_of self)) c.in-FaceSet.is c.requires.fits in
    acts_changing c.set_face.result (plain self) (plain c.set_face.new.self) c.args.command (FaceSet c.in-FaceSet.at c.in-FaceSet.value) (g.K.Sink.taken c.args.sink.now) (g.K.Sink.faults c.args.sink.now) c.in-FaceSet.is (λ sink. cc)
    (subst (λ v. Changes c.set_face.result (plain self) (FaceSet c.in-FaceSet.at v) (plain c.set_face.new.self)) (kept c.in-FaceSet.value (2 ^ 40) fits.2 (omega arith)) c.set_face.ensures.changes)

pub returns-in-EdgeSet-clause-acts : goal.returns-in-EdgeSet-clause-acts
returns-in-EdgeSet-clause-acts g c =
    let self = c.args.self.now in
    let fits = subst (IsCommandOf (declared_of self)) c.in-EdgeSet.is c.requires.fits in
    acts_changing c.set_edge.result (plain self) (plain c.set_edge.new.self) c.args.command (EdgeSet c.in-EdgeSet.at c.in-EdgeSet.value) (g.K.Sink.taken c.args.sink.now) (g.K.Sink.faults c.args.sink.now) c.in-EdgeSet.is (λ sink. cc)
    (subst (λ v. Changes c.set_edge.result (plain self) (EdgeSet c.in-EdgeSet.at v) (plain c.set_edge.new.self)) (kept c.in-EdgeSet.value (2 ^ 40) fits.2 (omega arith)) c.set_edge.ensures.changes)

pub returns-in-Curl-clause-acts : goal.returns-in-Curl-clause-acts
returns-in-Curl-clause-acts g c =
    acts_changing c.curl.result (plain c.args.self.now) (plain c.curl.new.self) c.args.command Curl (g.K.Sink.taken c.args.sink.now) (g.K.Sink.faults c.args.sink.now) c.in-Curl.is (λ sink. cc) c.curl.ensures.changes

pub returns-in-Induct-clause-acts : goal.returns-in-Induct-clause-acts
returns-in-Induct-clause-acts g c =
    acts_changing c.induct.result (plain c.args.self.now) (plain c.induct.new.self) c.args.command (Induct c.in-Induct.speeds) (g.K.Sink.taken c.args.sink.now) (g.K.Sink.faults c.args.sink.now) c.in-Induct.is (λ sink. cc) c.induct.ensures.changes

pub returns-in-Advect-clause-acts : goal.returns-in-Advect-clause-acts
returns-in-Advect-clause-acts g c =
    acts_changing c.advect.result (plain c.args.self.now) (plain c.advect.new.self) c.args.command (Advect c.in-Advect.var c.in-Advect.speeds) (g.K.Sink.taken c.args.sink.now) (g.K.Sink.faults c.args.sink.now) c.in-Advect.is (λ sink. cc) c.advect.ensures.changes

pub returns-in-PrintVar-clause-acts : goal.returns-in-PrintVar-clause-acts
unfolding refusal
returns-in-PrintVar-clause-acts g c =
    let m = plain c.args.self.now in
    let w : Written = record { before = g.K.Sink.taken c.args.sink.now; after = g.K.Sink.taken c.print_variable.new.sink; faults = g.K.Sink.faults c.args.sink.now; new_faults = g.K.Sink.faults c.print_variable.new.sink } in
    acts_printing c.print_variable.result c.written-in-PrintVar.result m m c.args.command (PrintVar c.in-PrintVar.group) w c.in-PrintVar.is refl refl refl c.print_variable.ensures c.written-in-PrintVar.ensures refl

pub returns-in-PrintGuards-clause-acts : goal.returns-in-PrintGuards-clause-acts
returns-in-PrintGuards-clause-acts g c =
    let w : Written = record { before = g.K.Sink.taken c.args.sink.now; after = g.K.Sink.taken c.print_guards.new.sink; faults = g.K.Sink.faults c.args.sink.now; new_faults = g.K.Sink.faults c.print_guards.new.sink } in
    subst (λ k. Acts c.print_guards.result (plain c.args.self.now) k (plain c.print_guards.new.self) w) (sym c.in-PrintGuards.is) c.print_guards.ensures.acts

pub returns-in-Total-clause-acts : goal.returns-in-Total-clause-acts
unfolding refusal
returns-in-Total-clause-acts g c =
    let m = plain c.args.self.now in
    let w : Written = record { before = g.K.Sink.taken c.args.sink.now; after = g.K.Sink.taken c.print_total.new.sink; faults = g.K.Sink.faults c.args.sink.now; new_faults = g.K.Sink.faults c.print_total.new.sink } in
    acts_printing c.print_total.result c.written-in-Total.result m m c.args.command (Total c.in-Total.var) w c.in-Total.is refl refl refl c.print_total.ensures c.written-in-Total.ensures refl

pub returns-in-NetFlux-clause-acts : goal.returns-in-NetFlux-clause-acts
unfolding refusal
returns-in-NetFlux-clause-acts g c =
    let m = plain c.args.self.now in
    let w : Written = record { before = g.K.Sink.taken c.args.sink.now; after = g.K.Sink.taken c.print_net_flux.new.sink; faults = g.K.Sink.faults c.args.sink.now; new_faults = g.K.Sink.faults c.print_net_flux.new.sink } in
    acts_printing c.print_net_flux.result c.written-in-NetFlux.result m m c.args.command NetFlux w c.in-NetFlux.is refl refl refl c.print_net_flux.ensures c.written-in-NetFlux.ensures refl

pub returns-in-PrintSize-clause-acts : goal.returns-in-PrintSize-clause-acts
unfolding refusal mesh_of
returns-in-PrintSize-clause-acts g c =
    let m = plain c.args.self.now in
    let w : Written = record { before = g.K.Sink.taken c.args.sink.now; after = g.K.Sink.taken c.print_size.new.sink; faults = g.K.Sink.faults c.args.sink.now; new_faults = g.K.Sink.faults c.print_size.new.sink } in
    let printed = subst (λ grid. Prints c.print_size.result w.before (size_text grid) w.after w.faults w.new_faults) c.tree.ensures c.print_size.ensures in
    acts_printing c.print_size.result c.written.result m m c.args.command PrintSize w c.in-PrintSize.is refl refl refl printed c.written.ensures refl

pub returns-in-PrintMesh-clause-acts : goal.returns-in-PrintMesh-clause-acts
unfolding refusal mesh_of
returns-in-PrintMesh-clause-acts g c =
    let m = plain c.args.self.now in
    let w : Written = record { before = g.K.Sink.taken c.args.sink.now; after = g.K.Sink.taken c.print_mesh.new.sink; faults = g.K.Sink.faults c.args.sink.now; new_faults = g.K.Sink.faults c.print_mesh.new.sink } in
    let printed = subst (λ grid. Prints c.print_mesh.result w.before (mesh_text grid) w.after w.faults w.new_faults) c.tree-in-PrintMesh.ensures c.print_mesh.ensures in
    acts_printing c.print_mesh.result c.written-in-PrintMesh.result m m c.args.command PrintMesh w c.in-PrintMesh.is refl refl refl printed c.written-in-PrintMesh.ensures refl

pub returns-in-PrintTree-clause-acts : goal.returns-in-PrintTree-clause-acts
unfolding refusal mesh_of
returns-in-PrintTree-clause-acts g c =
    let m = plain c.args.self.now in
    let w : Written = record { before = g.K.Sink.taken c.args.sink.now; after = g.K.Sink.taken c.print_tree.new.sink; faults = g.K.Sink.faults c.args.sink.now; new_faults = g.K.Sink.faults c.print_tree.new.sink } in
    let printed = subst (λ grid. Prints c.print_tree.result w.before (tree_text grid) w.after w.faults w.new_faults) c.tree-in-PrintTree.ensures c.print_tree.ensures in
    acts_printing c.print_tree.result c.written-in-PrintTree.result m m c.args.command PrintTree w c.in-PrintTree.is refl refl refl printed c.written-in-PrintTree.ensures refl
