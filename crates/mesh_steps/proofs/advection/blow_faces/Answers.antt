use Rattle.std.proofs.Common.{◌≡◌, ◌^◌, subst, sym, ◌∙◌}
use Rattle.flux_conserve.specs.Jumps.{jumped}
use Rattle.flux_conserve.specs.Work.{WorkHolds}
use Rattle.mesh_model.specs.Fields.Advect.{flux, leaf_flux, three}
use Rattle.mesh_model.specs.Fields.Ranks.{Told}
use Rattle.mesh_model.specs.Tree.ValidGrid.{Valid}
use Rattle.block_tree.proofs.Facts.{known}
use Rattle.mesh_steps.proofs.Blown.{fluxes_held, none_flowed, none_held, none_within, then_corrected}
use Rattle.mesh_steps.proofs.advection.blow_faces.Goals as goal

pub returns-then-jumps-clause-only : goal.returns-then-jumps-clause-only
returns-then-jumps-clause-only g c = then_corrected c.args.world.now c.flow.new.world c.correct.new.world c.flow.ensures.only c.correct.ensures.only

pub returns-then-jumps-clause-flows : goal.returns-then-jumps-clause-flows
returns-then-jumps-clause-flows g c content sided =
    let a = c.args.world.now in
    let e = c.flow.new.world in
    let f = c.correct.new.world in
    let n = three c.args.speeds in
    let to_end : f.told ≡ a.told = c.correct.ensures.only.told ∙ c.flow.ensures.only.told in
    let grid : Valid a.told.grid = subst Valid c.tree.ensures (known c.tree.result.now).valid in
    let own = c.correct.ensures.field (leaf_flux a.told.grid content n) (c.flow.ensures.holds content sided) in
    let ended : WorkHolds f (jumped f.told.grid (leaf_flux f.told.grid content n)) =
    subst (λ (t : Told). WorkHolds f (jumped t.grid (leaf_flux f.told.grid content n))) (c.flow.ensures.only.told ∙ sym to_end)
    (subst (λ (t : Told). WorkHolds f (jumped e.told.grid (leaf_flux t.grid content n))) (sym to_end) own) in
    subst (λ (t : Told). WorkHolds f (flux t.grid content n)) to_end (fluxes_held f content n (subst (λ (t : Told). Valid t.grid) (sym to_end) grid) ended)

pub returns-else-jumps-clause-only : goal.returns-else-jumps-clause-only
returns-else-jumps-clause-only g c = none_flowed c.args.world.now

pub returns-else-jumps-clause-flows : goal.returns-else-jumps-clause-flows
returns-else-jumps-clause-flows g c content sided = none_held c.args.world.now (c.requires.calm c.if-jumps.false) (flux c.args.world.now.told.grid content (three c.args.speeds))

pub returns-else-jumps-clause-small : goal.returns-else-jumps-clause-small
returns-else-jumps-clause-small g c = none_within c.args.world.now (c.requires.calm c.if-jumps.false) (2 ^ 58)
