use Rattle.std.proofs.Common.{◌≡◌, IfOk, sym, ap, subst, arith, ◌∙◌}
use Rattle.amr_engine.specs.Plain.{declared_of}
use Rattle.mesh_model.specs.Fields.Ranks.{IsSized}
use Rattle.mesh_model.specs.Run.Runs.{declared_in}
use Rattle.amr_program.specs.Origins.{CanBegin, mesh_from}
use Rattle.amr_program.proofs.Beginning.{declared_read}
use Rattle.amr_program.proofs.origin.Origin.engine.Goals as goal

pub restore-requires : goal.restore-requires
restore-requires g c =
    let shape = ap (λ o. (declared_in (mesh_from o)).shape) c.in-Image.is ∙ ap (λ d. d.shape) (declared_read c.in-Image.image) in
    (omega arith, (subst CanBegin c.in-Image.is c.requires.begins, subst (IsSized _ _) shape c.requires.sizes))

pub returns-in-Image-clause-declared : goal.returns-in-Image-clause-declared
returns-in-Image-clause-declared g c =
    let declared = ap (λ o. declared_in (mesh_from o)) c.in-Image.is ∙ declared_read c.in-Image.image in
    subst (λ d. IfOk c.restore.result (λ engine. declared_of engine ≡ d)) (sym declared) c.restore.ensures.declared
