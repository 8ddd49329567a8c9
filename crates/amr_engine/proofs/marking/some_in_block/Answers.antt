use Rattle.std.proofs.Common.{◌≡◌, ◌+◌, ℕ, ℤ, sym, ap, ◌∙◌, arith, inl, inr}
use Rattle.std.proofs.lemmas.Bool.{cases_lt}
use Rattle.mesh_model.specs.Fields.ArrayPlaces.{cell_extents, number_at}
use Rattle.amr_engine.specs.MarkedWhere.{plane_has}
use Rattle.amr_engine.proofs.Anys.{no_place, some_place}
use Rattle.amr_engine.proofs.marking.some_in_block.Goals as goal

pub loop-k-preserved : goal.loop-k-preserved
loop-k-preserved c k h =
    let numbers : ℕ → ℕ → ℕ → ℤ = λ x y z. number_at (cell_extents c.args.n c.args.g) c.args.values.now (c.args.g + x) (c.args.g + y) (c.args.g + z) in
    elim (cases_lt k c.loop-k.k) [
      | inl less ↦ c.loop-k.invariant k less
      | inr more ↦ (
          let last : k ≡ c.loop-k.k = omega arith in
          ap (plane_has c.args.n numbers c.args.rule) last ∙ sym c.some_in_plane.ensures ∙ c.if-some_in_plane.false)
    ]

pub returns-then-some_in_plane : goal.returns-then-some_in_plane
returns-then-some_in_plane c =
    let numbers : ℕ → ℕ → ℕ → ℤ = λ x y z. number_at (cell_extents c.args.n c.args.g) c.args.values.now (c.args.g + x) (c.args.g + y) (c.args.g + z) in
    sym (some_place (plane_has c.args.n numbers c.args.rule) c.args.n c.loop-k.k c.loop-k-test.true (sym c.some_in_plane.ensures ∙ c.if-some_in_plane.true))

pub returns : goal.returns
returns c =
    let numbers : ℕ → ℕ → ℕ → ℤ = λ x y z. number_at (cell_extents c.args.n c.args.g) c.args.values.now (c.args.g + x) (c.args.g + y) (c.args.g + z) in
    sym (no_place (plane_has c.args.n numbers c.args.rule) c.args.n (λ k h. c.loop-k.invariant k (omega arith)))
