use Rattle.std.proofs.Common.{◌≡◌, ◌+◌, ℕ, ℤ, sym, ap, ◌∙◌, arith, inl, inr}
use Rattle.std.proofs.lemmas.Bool.{cases_lt}
use Rattle.std.specs.List.{list_any}
use Rattle.mesh_model.specs.Fields.ArrayPlaces.{cell_extents, number_at}
use Rattle.mesh_model.specs.Geometry.Places.{places}
use Rattle.amr_engine.specs.MarkedWhere.{passes}
use Rattle.amr_engine.proofs.Anys.{no_place, some_place}
use Rattle.amr_engine.proofs.Found.{row_by_places}
use Rattle.amr_engine.proofs.marking.some_in_plane.Goals as goal

pub loop-j-preserved : goal.loop-j-preserved
loop-j-preserved c j h =
    let numbers : ℕ → ℕ → ℤ = λ j i. number_at (cell_extents c.args.n c.args.g) c.args.values.now (c.args.g + i) (c.args.g + j) (c.args.g + c.args.k) in
    elim (cases_lt j c.loop-j.j) [
      | inl less ↦ c.loop-j.invariant j less
      | inr more ↦ (
          let last : j ≡ c.loop-j.j = omega arith in
          ap (λ m. list_any (λ i. passes c.args.rule (numbers m i)) (places c.args.n)) last
          ∙ sym (row_by_places (passes c.args.rule) c.args.n c.cell_row.result.now (numbers c.loop-j.j) c.cell_row.ensures.size c.cell_row.ensures.cells)
          ∙ sym c.row_has.ensures ∙ c.if-row_has.false)
    ]

pub returns-then-row_has : goal.returns-then-row_has
returns-then-row_has c =
    let numbers : ℕ → ℕ → ℤ = λ j i. number_at (cell_extents c.args.n c.args.g) c.args.values.now (c.args.g + i) (c.args.g + j) (c.args.g + c.args.k) in
    sym (some_place (λ j. list_any (λ i. passes c.args.rule (numbers j i)) (places c.args.n)) c.args.n c.loop-j.j c.loop-j-test.true
    (sym (row_by_places (passes c.args.rule) c.args.n c.cell_row.result.now (numbers c.loop-j.j) c.cell_row.ensures.size c.cell_row.ensures.cells)
    ∙ sym c.row_has.ensures ∙ c.if-row_has.true))

pub returns : goal.returns
returns c =
    let numbers : ℕ → ℕ → ℤ = λ j i. number_at (cell_extents c.args.n c.args.g) c.args.values.now (c.args.g + i) (c.args.g + j) (c.args.g + c.args.k) in
    sym (no_place (λ j. list_any (λ i. passes c.args.rule (numbers j i)) (places c.args.n)) c.args.n (λ j h. c.loop-j.invariant j (omega arith)))
