use Rattle.std.proofs.Common.{◌^◌, List, ℕ, ℤ, pos, [], ◌∷◌, get_or, subst, sym, ◌∙◌, arith}
use Rattle.amr_num.specs.Numbers.{Within}
use Rattle.std.specs.Fmt.{signed_decimal}
use Rattle.std.specs.Prelude.{codes}
use Rattle.mesh_model.specs.Run.Texts.{text_line}
use Rattle.mesh_model.specs.Fields.Totals as totals
use Rattle.amr_report.specs.Printing.{Prints}
use Rattle.amr_engine.specs.EngineMesh.{mesh_of}
use Rattle.mesh_steps.proofs.Machine.{kept_128, wide}
use Rattle.amr_engine.proofs.Made.{out_now, out_small, total_now}
use Rattle.amr_engine.proofs.ValidOut.{mesh_out}
use Rattle.amr_engine.proofs.engine.Engine.print_total.Goals as goal

pub returns : goal.returns
unfolding mesh_of
returns g c =
    let self = c.args.self.now in
    let var = c.args.var in
    let m = mesh_of self.names self.world self.outs.items self.marks in
    let valid = mesh_out m self.valid in
    let text : List ℕ → ℤ → ℤ → List ℕ = λ name total out. text_line (codes "total" ∷ name ∷ signed_decimal total ∷ codes "out" ∷ signed_decimal out ∷ []) in
    let told : List ℕ → ℤ → ℤ → Type 0 = λ name total out. Prints c.print_total.result (g.K.Sink.taken c.args.sink.now) (text name total out) (g.K.Sink.taken c.print_total.new.sink) (g.K.Sink.faults c.args.sink.now) (g.K.Sink.faults c.print_total.new.sink) in
    let total = wide c.total-total.result (2 ^ 85) c.total-total.ensures.small (omega arith)
    ∙ total_now self.names self.world self.outs.items self.marks self.laid_out valid var c.requires c.total-total.result c.total-total.ensures.value in
    let out_is = out_now self.names self.world self.outs.items self.marks self.laid_out valid var c.requires c.index.result.now c.index.ensures in
    let small = out_small self.names self.world self.outs.items self.marks self.laid_out valid var c.requires in
    let out = wide c.index.result.now (2 ^ 100) (subst (λ z. Within (2 ^ 100) z) out_is small) (omega arith) ∙ sym out_is in
    let name = c.name_of-name.ensures.name in
    let plain_total = totals.total m.grid (m.cells var) in
    let plain_out = get_or self.outs.items var (pos 0) in
    subst (λ n. told n plain_total plain_out) name (subst (λ t. told c.name_of-name.result.now t plain_out) total (subst (told c.name_of-name.result.now (kept_128 c.total-total.result)) out c.print_total.ensures))
