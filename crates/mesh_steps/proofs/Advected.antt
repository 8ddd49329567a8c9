-- An advect of a variable, from what a step found.
use Rattle.std.proofs.Common.{◌≡◌, ℕ, ◌^◌, ◌<◌, ◌==◌, true, false, List, Some, None, find, length, set, get_or, ℤ, ◌+ℤ◌, pos, refl, sym, ap, ap₂, subst, ◌∙◌, arith, inl, inr, eqb-true, eq-eqb}
use Rattle.std.proofs.lemmas.Bool.{cases_Bool}
use Rattle.std.proofs.lemmas.List.{get_or-set_other, get_or-set_same}
use Rattle.std.specs.Option.{option_map, option_or}
use Rattle.std.specs.Prelude.{if◌then◌else◌}
use Rattle.amr_num.specs.declared.CellAt.{CellAt}
use Rattle.mesh_model.specs.declared.fields.spot.Spot.TheVariants as spots
use Rattle.mesh_model.specs.declared.fields.values.Group.TheVariants.{Cell}
use Rattle.mesh_model.specs.declared.language.script.Command.TheVariants.{Advect}
use Rattle.mesh_model.specs.declared.run.stops.Refusal.TheVariants as refusals
use Rattle.mesh_model.specs.Fields.Advect.{advect, keeps_courant, outflow, three}
use Rattle.mesh_model.specs.Fields.Plain.{Mesh}
use Rattle.mesh_model.specs.Fields.RangeWalk.{cell_above, cells_walked, first_cell_above, is_above, out_above, out_excess}
use Rattle.mesh_model.specs.Fields.Valid.{ValidMesh}
use Rattle.mesh_model.specs.Run.Stops.{refusal}
use Rattle.mesh_model.proofs.FieldLemmas.AdvectStops.{advect_excess}
use Rattle.mesh_steps.specs.Stepping.{IsCalm, content_after, first_above, out_after}
use Rattle.mesh_steps.specs.declared.hindrance.Above.{Above}

self_eqb : (v : ℕ) → (v == v) ≡ true
self_eqb v = eq-eqb v v refl

module _ (m : Mesh) (v : ℕ) (speeds : List ℤ) (valid : ValidMesh m) (there : v < length m.names.cells) where
  abbrev after : Mesh
  after = advect m v (three speeds)

  cell_is : (c : CellAt) → after.cells v c ≡ content_after m v speeds c
  cell_is c = ap (λ t. (if t then content_after m v speeds else m.cells v) c) (self_eqb v)

  -- what has flowed out is what had, and the step's outflow
  pub out_is : out_after m v speeds ≡ m.outs v +ℤ outflow m.grid (m.cells v) (three speeds)
  out_is = ap (λ t. if t then m.outs v +ℤ outflow m.grid (m.cells v) (three speeds) else m.outs v) (self_eqb v)

  first_is : first_cell_above after v ≡ option_map (cell_above after v) (first_above m v speeds)
  first_is = ap (λ (f : CellAt → ℤ). option_map (cell_above after v) (find (λ c. is_above (2 ^ 40) (f c)) (cells_walked m.grid))) (λ i c. cell_is c i)

  -- too great speeds are refused
  pub too_fast : keeps_courant m.grid.shape (three speeds) ≡ false → refusal m (Advect v speeds) ≡ Some (refusals.Courant speeds)
  unfolding refusal
  too_fast fast = rw fast refl

  refusal_is : keeps_courant m.grid.shape (three speeds) ≡ true → refusal m (Advect v speeds) ≡ option_map refusals.Range (option_or (first_cell_above after v) (out_excess after v))
  unfolding refusal
  refusal_is slow = rw slow (ap (option_map refusals.Range) (advect_excess m v (three speeds) valid there))

  -- a content out of range is refused
  pub content_refused : keeps_courant m.grid.shape (three speeds) ≡ true → (above : Above) → first_above m v speeds ≡ Some above.cell → above.value ≡ content_after m v speeds above.cell →
      refusal m (Advect v speeds) ≡ Some (refusals.Range (record { var = Cell v; spot = spots.Cell above.cell; value = above.value }))
  content_refused slow above found value =
      let stop : cell_above after v above.cell ≡ record { var = Cell v; spot = spots.Cell above.cell; value = above.value } = λ i. record { var = Cell v; spot = spots.Cell above.cell; value = (cell_is above.cell ∙ sym value) i } in
      refusal_is slow ∙ ap (λ o. option_map refusals.Range (option_or o (out_excess after v))) (first_is ∙ ap (option_map (cell_above after v)) found) ∙ ap (λ r. Some (refusals.Range r)) stop

  module _ (calm : IsCalm m v speeds) where
    none_above : first_cell_above after v ≡ None
    none_above = first_is ∙ ap (option_map (cell_above after v)) calm.none

    -- so is what has flowed out
    pub out_refused : (out : ℤ) → out ≡ out_after m v speeds → is_above (2 ^ 100) out ≡ true →
        refusal m (Advect v speeds) ≡ Some (refusals.Range (record { var = Cell v; spot = spots.Out; value = out }))
    out_refused out is above =
        let far : is_above (2 ^ 100) (after.outs v) ≡ true = subst (λ z. is_above (2 ^ 100) z ≡ true) is above in
        let excess : out_excess after v ≡ Some (out_above after v) = rw far refl in
        refusal_is calm.courant ∙ ap₂ (λ o p. option_map refusals.Range (option_or o p)) none_above excess ∙ ap (λ z. Some (refusals.Range (record { var = Cell v; spot = spots.Out; value = z }))) (sym is)

    -- and nothing else
    pub not_refused : (out : ℤ) → out ≡ out_after m v speeds → is_above (2 ^ 100) out ≡ false → refusal m (Advect v speeds) ≡ None
    not_refused out is below =
        let near : is_above (2 ^ 100) (after.outs v) ≡ false = subst (λ z. is_above (2 ^ 100) z ≡ false) is below in
        let excess : out_excess after v ≡ None = rw near refl in
        refusal_is calm.courant ∙ ap₂ (λ o p. option_map refusals.Range (option_or o p)) none_above excess

  -- the numbers that have flowed out, where that of the variable is set
  pub outs_set : (outs : List ℤ) (out : ℤ) → length outs ≡ length m.names.cells → ((u : ℕ) → get_or outs u (pos 0) ≡ m.outs u) → out ≡ out_after m v speeds → (u : ℕ) → get_or (set outs v out) u (pos 0) ≡ after.outs u
  outs_set outs out long same is u = elim (cases_Bool (u == v)) [
    | inl e ↦ (
        let here = eqb-true u v e in
        ap (λ x. get_or (set outs v out) x (pos 0)) here ∙ get_or-set_same outs v out (pos 0) (omega (arith, long, there)) ∙ is ∙ ap after.outs (sym here))
    | inr other ↦ (
        get_or-set_other outs v u out (pos 0) (λ e. absurd (let t = eq-eqb u v e in cc)) ∙ same u
        ∙ sym (ap (λ t. if t then m.outs u +ℤ outflow m.grid (m.cells u) (three speeds) else m.outs u) other))
  ]
