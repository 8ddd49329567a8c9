-- What an advect makes of an engine's mesh.
use Rattle.std.proofs.Common.{◌≡◌, ℕ, ◌^◌, ◌<◌, false, List, Ok, Err, length, set, get_or, ℤ, pos, None, refl, sym, ap, subst, ◌∙◌, arith, inl, inr}
use Rattle.std.proofs.lemmas.Bool.{cases_lt, lt-ltb}
use Rattle.std.proofs.lemmas.List.{length-set}
use Rattle.std.specs.Prelude.{unsigned_abs}
use Rattle.amr_num.specs.Numbers.{Within}
use Rattle.block_tree.specs.Marked.{derefine_of, refine_of}
use Rattle.block_tree.specs.declared.marks.Marks.{Marks}
use Rattle.mesh_model.specs.declared.language.script.Command.TheVariants.{Advect}
use Rattle.mesh_model.specs.Fields.Advect.{advect, three}
use Rattle.mesh_model.specs.Fields.Plain.{Mesh}
use Rattle.mesh_model.specs.Fields.RangeWalk.{is_above}
use Rattle.mesh_model.specs.Fields.Ranks.{Told, WorldState}
use Rattle.mesh_model.specs.Fields.Valid.{ValidMesh}
use Rattle.mesh_model.specs.Fields.VariableNames.{VariableNames}
use Rattle.mesh_model.specs.Language.Commands.{AreThree}
use Rattle.mesh_model.specs.Run.Stops.{refusal}
use Rattle.mesh_model.proofs.RunLemmas.RunValid.{keeps_validity}
use Rattle.rank_world.specs.Holding.{IsOfValidMesh}
use Rattle.amr_engine.specs.EngineMesh.{IsLaidOut, mesh_of}
use Rattle.mesh_steps.specs.Stepping.{Steps}
use Rattle.amr_engine.specs.Stopping.{Changes, cause_told}
use Rattle.mesh_steps.specs.declared.hindrance.Hindrance.{Hindrance}
use Rattle.mesh_steps.specs.declared.hindrance.Hindrance.TheVariants.{Content, FlowedOut, TooFast}
use Rattle.mesh_steps.proofs.Advected.{content_refused, not_refused, out_refused, outs_set, too_fast}
use Rattle.mesh_steps.proofs.Machine.{kept_128, wide}
use Rattle.amr_engine.proofs.Made.{laid_after, of_now, out_now, out_small, same_mesh}
use Rattle.amr_engine.proofs.Shown.{mesh_shown}

near_enough : (z : ℤ) → is_above (2 ^ 100) z ≡ false → Within (2 ^ 100) z
near_enough z h = elim (cases_lt (2 ^ 100) (unsigned_abs z)) [
  | inl lt ↦ (let t = lt-ltb (2 ^ 100) (unsigned_abs z) lt in absurd (cc))
  | inr le ↦ le
]

module _ (names : VariableNames) (w : WorldState) (outs : List ℤ) (marks : Marks) (laid : IsLaidOut names w outs marks) (valid : ValidMesh (mesh_of names w outs marks)) where
  abbrev now : Mesh
  now = mesh_of names w outs marks

  pub ready : IsOfValidMesh w
  ready = record { mesh = now; valid = valid; world = of_now names w outs marks laid valid }

  -- what had flowed out, as it is read
  module _ (var : ℕ) (there : var < length names.cells) (read : ℤ) (is : read ≡ get_or outs var read) where
    out_is_read : get_or outs var (pos 0) ≡ read
    out_is_read = out_now names w outs marks laid valid var there read is

    pub read_small : Within (2 ^ 100) (kept_128 read)
    read_small =
        let small : Within (2 ^ 100) read = subst (λ z. Within (2 ^ 100) z) out_is_read (out_small names w outs marks laid valid var there) in
        subst (λ z. Within (2 ^ 100) z) (sym (wide read (2 ^ 100) small (omega arith))) small

    pub read_is : kept_128 read ≡ now.outs var
    unfolding mesh_of
    read_is =
        let small : Within (2 ^ 100) read = subst (λ z. Within (2 ^ 100) z) out_is_read (out_small names w outs marks laid valid var there) in
        wide read (2 ^ 100) small (omega arith) ∙ sym out_is_read

  module _ (var : ℕ) (there : var < length names.cells) (speeds : List ℤ) (fast : AreThree (2 ^ 20) speeds) (new : WorldState) (told : new.told ≡ w.told) where
    named : var < length now.names.cells
    unfolding mesh_of
    named = there

    -- the step was made
    module _ (out : ℤ) (steps : Steps now var speeds new (Ok out)) where
      pub small_out : Within (2 ^ 100) out
      small_out = near_enough out steps.2

      pub advect_allowed : refusal now (Advect var speeds) ≡ None
      advect_allowed = not_refused now var speeds valid named steps.0 out steps.1 steps.2

      pub advect_valid : ValidMesh (advect now var (three speeds))
      unfolding mesh_of
      advect_valid = keeps_validity now (Advect var speeds) valid (there, fast) advect_allowed

      pub advect_is : mesh_of names new (set outs var out) marks ≡ advect now var (three speeds)
      unfolding mesh_of
      advect_is =
          mesh_shown names new (set outs var out) marks (advect now var (three speeds)) steps.3 advect_valid refl
          (outs_set now var speeds valid named outs out laid.flowed (λ u. refl) steps.1)
          (λ b. ap (λ (t : Told). refine_of t.grid marks b) told) (λ b. ap (λ (t : Told). derefine_of t.grid marks b) told)

      pub advect_laid : IsLaidOut names new (set outs var out) marks
      unfolding mesh_of
      advect_laid = laid_after names w outs marks laid valid new (set outs var out) (advect now var (three speeds)) told steps.3 advect_valid refl (length-set outs var out ∙ laid.flowed)

    -- or hindered, which leaves the mesh
    pub hindered : (hindrance : Hindrance) → Steps now var speeds new (Err hindrance) → Changes (Err (cause_told var speeds hindrance)) now (Advect var speeds) (mesh_of names new outs marks)
    hindered TooFast steps = (too_fast now var speeds valid named steps.0, same_mesh names w outs marks laid valid new told steps.1)
    hindered (Content above) steps = (content_refused now var speeds valid named steps.0 above steps.1 steps.2, same_mesh names w outs marks laid valid new told steps.3)
    hindered (FlowedOut out) steps = (out_refused now var speeds valid named steps.0 out steps.1 steps.2, same_mesh names w outs marks laid valid new told steps.3)
