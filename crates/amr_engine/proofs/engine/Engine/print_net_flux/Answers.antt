use Rattle.std.proofs.Common.{List, ℕ, ℤ, sym, subst, ◌∙◌}
use Rattle.mesh_model.specs.declared.fields.values.Group.TheVariants.{Face}
use Rattle.mesh_model.specs.Run.Texts.{netflux_line, netflux_text}
use Rattle.mesh_model.specs.Fields.Totals.{leaf_sum}
use Rattle.amr_engine.specs.Netting.{counted_cell}
use Rattle.amr_report.specs.Printing.{Prints}
use Rattle.amr_engine.specs.EngineMesh.{mesh_of}
use Rattle.amr_engine.proofs.Made.{has_faces, named_now, of_now}
use Rattle.amr_engine.proofs.ValidOut.{mesh_out}
use Rattle.amr_engine.proofs.engine.Engine.print_net_flux.Goals as goal

pub returns : goal.returns
unfolding mesh_of netflux_text
returns g c =
    let self = c.args.self.now in
    let m = mesh_of self.names self.world self.outs.items self.marks in
    let valid = mesh_out m self.valid in
    let told : List ℕ → ℤ → Type 0 = λ name count. Prints c.print_netflux.result (g.K.Sink.taken c.args.sink.now) (netflux_line name count) (g.K.Sink.taken c.print_netflux.new.sink) (g.K.Sink.faults c.args.sink.now) (g.K.Sink.faults c.print_netflux.new.sink) in
    let some = has_faces self.names self.world self.outs.items self.marks self.laid_out valid c.requires in
    let count = c.net_fluxes.ensures.count m.faces ((of_now self.names self.world self.outs.items self.marks self.laid_out valid).on_faces some) in
    let name = named_now self.names self.world self.outs.items self.marks self.laid_out valid Face ∙ sym c.name_of-name.ensures.name in
    let all : ℤ = leaf_sum m.grid (counted_cell m.grid m.faces) in
    subst (λ t. told t all) (sym name) (subst (told c.name_of-name.result.now) count c.print_netflux.ensures)
