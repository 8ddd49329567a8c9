-- What each command keeps, along a run up to the first that is refused.
use Rattle.std.proofs.Common.{true, ◌≡◌, ◌≢◌, ℕ, List, [], ◌∷◌, Option, Some, None, All, ℤ, pos, ◌+ℤ◌, ◌≤ℤ◌, refl, sym, ap, subst, ◌∙◌, ne_eqb}
use Rattle.std.proofs.lemmas.List.Elements.{All-head, All-tail}
use Rattle.mesh_model.proofs.FieldLemmas.Walking.{or_none}
use Rattle.mesh_model.specs.declared.language.script.Command.{Command}
use Rattle.mesh_model.specs.declared.language.script.Command.TheVariants.{FillAll, FillBox, FaceSet, EdgeSet, Uniform, MarkRefine, MarkDerefine, RefineWhere, DerefineWhere, Regrid, Advect, Curl, Induct, Checkpoint, PrintSize, PrintMesh, PrintTree, PrintRanks, PrintTrace, PrintVar, PrintGuards, Total, NetFlux}
use Rattle.mesh_model.specs.declared.language.script.Line.{Line}
use Rattle.mesh_model.specs.declared.run.stops.Refusal.{Refusal}
use Rattle.mesh_model.specs.Fields.Advect.{three, keeps_courant}
use Rattle.mesh_model.specs.Language.Commands.{IsLineOf}
use Rattle.mesh_model.specs.Fields.Induct.{leaf_electromotive_force}
use Rattle.mesh_model.specs.Fields.Plain.{Mesh}
use Rattle.mesh_model.specs.Run.Runs.{AtEachCommand, KeepsBalance, KeepsOuts, KeepsTotals, StaysPositive, TheSink, declared_in, done, mesh_after, needs, text_of}
use Rattle.mesh_model.specs.Fields.Setting.{derefine_where, mark_derefine, mark_refine, refine_where, set_edge, set_face}
use Rattle.mesh_model.specs.Run.Stops.{refusal}
use Rattle.mesh_model.specs.Fields.Valid.{ValidMesh}
use Rattle.mesh_model.proofs.FieldLemmas.Conserving.{advect_conserves}
use Rattle.mesh_model.proofs.FieldLemmas.Divergence.{circulation_keeps_net, curl_balances, uniform_balances}
use Rattle.mesh_model.proofs.FieldLemmas.FieldsKept.{leaf_contents_stay_low}
use Rattle.mesh_model.proofs.FieldLemmas.RegridBalance.{regrid_balances}
use Rattle.mesh_model.proofs.RunLemmas.RunValid.{held, keeps_validity, same_declared}
use Rattle.mesh_model.proofs.FieldLemmas.Totals.{regrid_keeps_total}
use Rattle.mesh_model.proofs.FieldLemmas.ValidGrid.{leaf_inside}

-- ---- texts

-- a command that does not need the sink prints nothing
pub prints_nothing : (m : Mesh) (command : Command) → needs command ≢ TheSink → text_of m command ≡ []
prints_nothing m PrintSize silent = absurd (silent refl)
prints_nothing m PrintMesh silent = absurd (silent refl)
prints_nothing m PrintTree silent = absurd (silent refl)
prints_nothing m PrintRanks silent = absurd (silent refl)
prints_nothing m PrintTrace silent = absurd (silent refl)
prints_nothing m (PrintVar group) silent = absurd (silent refl)
prints_nothing m (PrintGuards group at) silent = absurd (silent refl)
prints_nothing m (Total var) silent = absurd (silent refl)
prints_nothing m NetFlux silent = absurd (silent refl)
prints_nothing m other silent = refl

-- ---- totals

pub keeps_totals : (m : Mesh) (command : Command) → ValidMesh m → KeepsTotals m command (mesh_after m command)
unfolding set_face set_edge mark_refine mark_derefine refine_where derefine_where
keeps_totals m (FillAll var value) valid v other = rw (ne_eqb v var (λ e. other (sym e))) refl
keeps_totals m (FillBox var level low high value) valid v other = rw (ne_eqb v var (λ e. other (sym e))) refl
keeps_totals m (FaceSet at value) valid v other = refl
keeps_totals m (EdgeSet at value) valid v other = refl
keeps_totals m (Uniform b) valid v other = refl
keeps_totals m (MarkRefine at) valid v other = refl
keeps_totals m (MarkDerefine at) valid v other = refl
keeps_totals m (RefineWhere var above) valid v other = refl
keeps_totals m (DerefineWhere var below) valid v other = refl
keeps_totals m Regrid valid v other = ap (λ t. t +ℤ m.outs v) (regrid_keeps_total m v valid)
keeps_totals m (Advect var speeds) valid v other = advect_conserves m var (three speeds) valid v
keeps_totals m Curl valid v other = refl
keeps_totals m (Induct speeds) valid v other = refl
keeps_totals m Checkpoint valid v other = refl
keeps_totals m PrintSize valid v other = refl
keeps_totals m PrintMesh valid v other = refl
keeps_totals m PrintTree valid v other = refl
keeps_totals m PrintRanks valid v other = refl
keeps_totals m PrintTrace valid v other = refl
keeps_totals m (PrintVar group) valid v other = refl
keeps_totals m (PrintGuards group at) valid v other = refl
keeps_totals m (Total var) valid v other = refl
keeps_totals m NetFlux valid v other = refl

pub keeps_outs : (m : Mesh) (command : Command) → KeepsOuts m command (mesh_after m command)
unfolding set_face set_edge mark_refine mark_derefine refine_where derefine_where
keeps_outs m (FillAll var value) v other = refl
keeps_outs m (FillBox var level low high value) v other = refl
keeps_outs m (FaceSet at value) v other = refl
keeps_outs m (EdgeSet at value) v other = refl
keeps_outs m (Uniform b) v other = refl
keeps_outs m (MarkRefine at) v other = refl
keeps_outs m (MarkDerefine at) v other = refl
keeps_outs m (RefineWhere var above) v other = refl
keeps_outs m (DerefineWhere var below) v other = refl
keeps_outs m Regrid v other = refl
keeps_outs m (Advect var speeds) v other = rw (ne_eqb v var (λ e. other (speeds, ap (λ u. Advect u speeds) (sym e)))) refl
keeps_outs m Curl v other = refl
keeps_outs m (Induct speeds) v other = refl
keeps_outs m Checkpoint v other = refl
keeps_outs m PrintSize v other = refl
keeps_outs m PrintMesh v other = refl
keeps_outs m PrintTree v other = refl
keeps_outs m PrintRanks v other = refl
keeps_outs m PrintTrace v other = refl
keeps_outs m (PrintVar group) v other = refl
keeps_outs m (PrintGuards group at) v other = refl
keeps_outs m (Total var) v other = refl
keeps_outs m NetFlux v other = refl

-- ---- no content below 0

pub courant_held : (m : Mesh) (var : ℕ) (speeds : List ℤ) → refusal m (Advect var speeds) ≡ None → keeps_courant m.grid.shape (three speeds) ≡ true
unfolding refusal
courant_held m var speeds none = held _ _ (or_none _ _ none).0

pub stays_positive : (m : Mesh) (command : Command) → ValidMesh m → refusal m command ≡ None → StaysPositive m command (mesh_after m command)
stays_positive m command valid none v advects low c leaf =
    let n = three advects.0 in
    let none_here : refusal m (Advect v advects.0) ≡ None = subst (λ k. refusal m k ≡ None) advects.1 none in
    let after = leaf_contents_stay_low m v n v valid valid.numbers (courant_held m v advects.0 none_here) low c in
    subst (λ k. pos 0 ≤ℤ (mesh_after m k).cells v c) (sym advects.1) after

-- ---- zero divergence

pub keeps_balance : (m : Mesh) (command : Command) → ValidMesh m → KeepsBalance m command (mesh_after m command)
unfolding set_edge mark_refine mark_derefine refine_where derefine_where
keeps_balance m (FillAll var value) valid other balanced = balanced
keeps_balance m (FillBox var level low high value) valid other balanced = balanced
keeps_balance m (FaceSet at value) valid other balanced = absurd (other (at, value, refl))
keeps_balance m (EdgeSet at value) valid other balanced = balanced
keeps_balance m (Uniform b) valid other balanced = uniform_balances m.grid valid.grid (three b)
keeps_balance m (MarkRefine at) valid other balanced = balanced
keeps_balance m (MarkDerefine at) valid other balanced = balanced
keeps_balance m (RefineWhere var above) valid other balanced = balanced
keeps_balance m (DerefineWhere var below) valid other balanced = balanced
keeps_balance m Regrid valid other balanced = regrid_balances m valid balanced
keeps_balance m (Advect var speeds) valid other balanced = balanced
keeps_balance m Curl valid other balanced = curl_balances m.grid valid.grid m.edges
keeps_balance m (Induct speeds) valid other balanced = record { at_leaf = λ d t. circulation_keeps_net m.grid valid.grid m.faces (leaf_electromotive_force m.grid m.faces (three speeds)) d (leaf_inside m.grid valid.grid d t) t ∙ balanced.at_leaf d t }
keeps_balance m Checkpoint valid other balanced = balanced
keeps_balance m PrintSize valid other balanced = balanced
keeps_balance m PrintMesh valid other balanced = balanced
keeps_balance m PrintTree valid other balanced = balanced
keeps_balance m PrintRanks valid other balanced = balanced
keeps_balance m PrintTrace valid other balanced = balanced
keeps_balance m (PrintVar group) valid other balanced = balanced
keeps_balance m (PrintGuards group at) valid other balanced = balanced
keeps_balance m (Total var) valid other balanced = balanced
keeps_balance m NetFlux valid other balanced = balanced

-- ---- along a run

-- it is kept at the first command, where that is done, and at the others
at_first : (R : Mesh → Command → Mesh → Type 0) (m : Mesh) (line : Line) (lines : List Line) (why : Option Refusal) →
    (why ≡ None → R m line.command (mesh_after m line.command) × AtEachCommand R (mesh_after m line.command) (done (mesh_after m line.command) lines)) →
    AtEachCommand R m (elim why [
      | None ↦ line ∷ done (mesh_after m line.command) lines
      | Some w ↦ []
    ])
at_first R m line lines None here = here refl
at_first R m line lines (Some w) here = tt

-- what each command keeps of a valid mesh is kept at each command of a run
pub along : (R : Mesh → Command → Mesh → Type 0) → ((m : Mesh) (command : Command) → ValidMesh m → refusal m command ≡ None → R m command (mesh_after m command)) →
    (m : Mesh) (lines : List Line) → ValidMesh m → All (IsLineOf (declared_in m)) lines → AtEachCommand R m (done m lines)
along R each m [] valid fit = tt
along R each m (line ∷ lines) valid fit = at_first R m line lines (refusal m line.command) (λ none. (
  each m line.command valid none,
  along R each (mesh_after m line.command) lines (keeps_validity m line.command valid (All-head (IsLineOf (declared_in m)) line lines fit) none) (subst (λ d. All (IsLineOf d) lines) (sym (same_declared m line.command)) (All-tail (IsLineOf (declared_in m)) line lines fit)),
))

pub runs_keep_totals : (m : Mesh) (lines : List Line) → ValidMesh m → All (IsLineOf (declared_in m)) lines → AtEachCommand KeepsTotals m (done m lines)
runs_keep_totals = along KeepsTotals (λ m command valid none. keeps_totals m command valid)

pub runs_keep_outs : (m : Mesh) (lines : List Line) → ValidMesh m → All (IsLineOf (declared_in m)) lines → AtEachCommand KeepsOuts m (done m lines)
runs_keep_outs = along KeepsOuts (λ m command valid none. keeps_outs m command)

pub runs_stay_positive : (m : Mesh) (lines : List Line) → ValidMesh m → All (IsLineOf (declared_in m)) lines → AtEachCommand StaysPositive m (done m lines)
runs_stay_positive = along StaysPositive stays_positive

pub runs_keep_balance : (m : Mesh) (lines : List Line) → ValidMesh m → All (IsLineOf (declared_in m)) lines → AtEachCommand KeepsBalance m (done m lines)
runs_keep_balance = along KeepsBalance (λ m command valid none. keeps_balance m command valid)
