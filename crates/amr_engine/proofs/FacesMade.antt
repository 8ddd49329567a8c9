-- What new faces of a world make of an engine's mesh: a uniform field, the circulations of its edges, or what a step leaves.
use Rattle.std.proofs.Common.{◌≡◌, ◌<◌, ◌^◌, true, false, List, Option, Some, None, IsSome, Result, Ok, Err, OnOk, IfErr, ℤ, refl, sym, ap, subst, ◌∙◌}
use Rattle.std.specs.Prelude.{find, ◌&&◌}
use Rattle.std.specs.Option.{option_map}
use Rattle.amr_num.specs.declared.FaceAt.{FaceAt}
use Rattle.block_tree.specs.Marked.{derefine_of, refine_of}
use Rattle.block_tree.specs.declared.marks.Marks.{Marks}
use Rattle.mesh_model.specs.declared.fields.spot.Spot.TheVariants as spots
use Rattle.mesh_model.specs.declared.fields.values.Group.TheVariants as groups
use Rattle.mesh_model.specs.declared.fields.values.Var.TheVariants.{Face, FaceWork}
use Rattle.mesh_model.specs.declared.language.script.Command.{Command}
use Rattle.mesh_model.specs.declared.language.script.Command.TheVariants.{Curl, Induct, Uniform}
use Rattle.mesh_model.specs.declared.run.stops.Refusal.TheVariants as refusals
use Rattle.mesh_model.specs.Fields.Advect.{keeps_courant, three}
use Rattle.mesh_model.specs.Fields.Induct.{curled, inducted, uniform_faces, with_faces}
use Rattle.mesh_model.specs.Fields.Plain.{Mesh}
use Rattle.mesh_model.specs.Fields.RangeWalk.{face_above, faces_walked, is_above}
use Rattle.mesh_model.specs.Fields.Ranks.{Told, WorldState}
use Rattle.mesh_model.specs.Fields.Valid.{ValidMesh}
use Rattle.mesh_model.specs.Fields.VariableNames.{VariableNames}
use Rattle.mesh_model.specs.Language.Commands.{AreThree, IsCommandOf}
use Rattle.mesh_model.specs.Run.Runs.{declared_in, mesh_after}
use Rattle.mesh_model.specs.Run.Stops.{range_of, refusal}
use Rattle.mesh_model.specs.Tree.Kinds.{is_leaf_face}
use Rattle.mesh_model.proofs.RunLemmas.RunValid.{keeps_validity}
use Rattle.rank_world.specs.Holding.{IsOfMesh, LeavesHoldFaces, OnlyAxes}
use Rattle.rank_world.specs.declared.faces.FaceAbove.{FaceAbove}
use Rattle.amr_engine.specs.EngineMesh.{IsLaidOut, mesh_of}
use Rattle.rank_world.specs.Contents.{edges_of, faces_of}
use Rattle.mesh_steps.specs.Circulations.{OnlyFacesAndWork}
use Rattle.mesh_steps.specs.Inducting.{Inducts}
use Rattle.mesh_steps.specs.declared.hindrance.FaceHindrance.{FaceHindrance}
use Rattle.mesh_steps.specs.declared.hindrance.FaceHindrance.TheVariants.{Number, TooFast}
use Rattle.mesh_steps.proofs.MeshSet.{axes_stay, faces_set, work_faces}
use Rattle.staggered.specs.Facing.{face_told, walked_above}
use Rattle.amr_engine.specs.Stopping.{Changes, MayStop, cause_of_faces, cause_of_induct, stopped_by}
use Rattle.amr_engine.proofs.FaceStops.{faces_excess}
use Rattle.amr_engine.proofs.Made.{laid_after, laid_same, of_now, same_mesh}
use Rattle.amr_engine.proofs.Shown.{mesh_shown}

-- nothing is told of nothing
none_told : (field : FaceAt → ℤ) (o : Option FaceAt) → option_map (face_told field) o ≡ None → o ≡ None
none_told field None is = refl
none_told field (Some f) is = absurd cc

-- what is told of a face
some_told : (m : Mesh) (field : FaceAt → ℤ) (o : Option FaceAt) (found : FaceAbove) → m.faces ≡ field → option_map (face_told field) o ≡ Some found →
    option_map refusals.Range (option_map (face_above m) o) ≡ Some (refusals.Range (record { var = groups.Face; spot = spots.Face found.face; value = found.value }))
some_told m field None found same is = absurd cc
some_told m field (Some f) found same is =
    let there : face_told field f ≡ found = cc in
    ap (λ (k : FaceAt → ℤ). Some (refusals.Range (record { var = groups.Face; spot = spots.Face f; value = k f }))) same
    ∙ ap (λ (a : FaceAbove). Some (refusals.Range (record { var = groups.Face; spot = spots.Face a.face; value = a.value }))) there

-- what follows of an error's case
pub if_error : {A E P Q : Type 0} (r : Result A E) → (P → Q) → IfErr r (λ e. P) → IfErr r (λ e. Q)
if_error (Ok done) f is = tt
if_error (Err e) f is = f is

-- where faces alone change, faces and work faces do
pub faces_alone : (old new : WorldState) → OnlyAxes Face old new → OnlyFacesAndWork old new
faces_alone old new only = record { told = only.told; others = λ u node no_face no_work. only.others u node no_face }

module _ (names : VariableNames) (w : WorldState) (outs : List ℤ) (marks : Marks) (laid : IsLaidOut names w outs marks) (valid : ValidMesh (mesh_of names w outs marks)) where
  abbrev now : Mesh
  now = mesh_of names w outs marks

  -- a world of which the faces alone were set is that of the mesh with these numbers on its faces
  pub faces_world : (new : WorldState) (k : FaceAt → ℤ) → OnlyFacesAndWork w new → LeavesHoldFaces new k → IsOfMesh new (with_faces now k)
  faces_world new k only holds = faces_set w new now k (of_now names w outs marks laid valid) only holds

  -- and a world of that mesh is the engine's
  module _ (new : WorldState) (k : FaceAt → ℤ) (told : new.told ≡ w.told) (world : IsOfMesh new (with_faces now k)) (after : ValidMesh (with_faces now k)) where
    pub faces_made : mesh_of names new outs marks ≡ with_faces now k
    unfolding mesh_of
    faces_made =
        mesh_shown names new outs marks (with_faces now k) world after refl (λ v. refl)
        (λ b. ap (λ (t : Told). refine_of t.grid marks b) told) (λ b. ap (λ (t : Told). derefine_of t.grid marks b) told)

    pub faces_laid : IsLaidOut names new outs marks
    unfolding mesh_of
    faces_laid = laid_after names w outs marks laid valid new outs (with_faces now k) told world after refl laid.flowed

  -- a world of which work faces alone changed is that of the mesh still
  pub work_faces_stay : (new : WorldState) → OnlyAxes FaceWork w new → IsOfMesh new now
  work_faces_stay new only = axes_stay FaceWork work_faces w new now only (of_now names w outs marks laid valid)

  -- ---- a command that makes another face variable, where the numbers are in range

  module _ (command : Command) (k : FaceAt → ℤ) (fits : IsCommandOf (declared_in now) command) (refused : refusal now command ≡ range_of (with_faces now k)) (made : mesh_after now command ≡ with_faces now k) where
    pub set_allowed : walked_above w.told.grid k ≡ None → refusal now command ≡ None
    unfolding mesh_of
    set_allowed none =
        refused
        ∙ ap (option_map refusals.Range) (faces_excess now k valid ∙ ap (option_map (face_above (with_faces now k))) (none_told k (find (λ f. is_leaf_face w.told.grid f && is_above (2 ^ 40) (k f)) (faces_walked w.told.grid)) none))

    pub set_refused : (found : FaceAbove) → walked_above w.told.grid k ≡ Some found → MayStop (stopped_by (cause_of_faces found)) now command
    unfolding mesh_of
    set_refused found is =
        refused ∙ ap (option_map refusals.Range) (faces_excess now k valid)
        ∙ some_told (with_faces now k) k (find (λ f. is_leaf_face w.told.grid f && is_above (2 ^ 40) (k f)) (faces_walked w.told.grid)) found refl is

    set_valid : walked_above w.told.grid k ≡ None → ValidMesh (with_faces now k)
    set_valid none = subst ValidMesh made (keeps_validity now command valid fits (set_allowed none))

    -- the mesh after it, whose world it is
    module _ (new : WorldState) (told : new.told ≡ w.told) (world : IsOfMesh new (with_faces now k)) (none : walked_above w.told.grid k ≡ None) where
      pub made_is : mesh_of names new outs marks ≡ mesh_after now command
      made_is = faces_made new k told world (set_valid none) ∙ sym made

      pub made_laid : IsLaidOut names new outs marks
      made_laid = faces_laid new k told world (set_valid none)

      pub made_valid : ValidMesh (mesh_of names new outs marks)
      made_valid = subst ValidMesh (sym (made_is ∙ made)) (set_valid none)

    pub set_is : (new : WorldState) → OnlyFacesAndWork w new → LeavesHoldFaces new k → walked_above w.told.grid k ≡ None → mesh_of names new outs marks ≡ mesh_after now command
    set_is new only holds none = made_is new only.told (faces_world new k only holds) none

    -- whichever it was, the engine's mesh is a valid one
    pub set_kept : (new : WorldState) (r : Result (Unit {0}) FaceAbove) → OnlyFacesAndWork w new → OnOk r (walked_above w.told.grid k ≡ None) → OnOk r (LeavesHoldFaces new k) → IfErr r (λ above. IsOfMesh new now) →
        IsLaidOut names new outs marks × ValidMesh (mesh_of names new outs marks)
    set_kept new (Ok done) only none holds stays = (
      made_laid new only.told (faces_world new k only holds) none,
      made_valid new only.told (faces_world new k only holds) none,
    )
    set_kept new (Err above) only none holds stays = (
      laid_same names w outs marks laid valid new only.told stays,
      subst ValidMesh (sym (same_mesh names w outs marks laid valid new only.told stays)) valid,
    )

  -- ---- uniform, curl and induct

  abbrev pub even : List ℤ → FaceAt → ℤ
  even b = uniform_faces w.told.grid (three b)

  pub uniform_refused : (b : List ℤ) → refusal now (Uniform b) ≡ range_of (with_faces now (even b))
  unfolding refusal mesh_of
  uniform_refused b = refl

  pub uniform_made : (b : List ℤ) → mesh_after now (Uniform b) ≡ with_faces now (even b)
  unfolding mesh_of
  uniform_made b = refl

  pub uniform_fits : (b : List ℤ) → IsSome names.face → AreThree (2 ^ 40) b → IsCommandOf (declared_in now) (Uniform b)
  unfolding mesh_of
  uniform_fits b some fluxes = (some, fluxes)

  abbrev pub round : FaceAt → ℤ
  round = curled w.told.grid (edges_of w)

  pub curl_refused : refusal now Curl ≡ range_of (with_faces now round)
  unfolding refusal mesh_of
  curl_refused = refl

  pub curl_made : mesh_after now Curl ≡ with_faces now round
  unfolding mesh_of
  curl_made = refl

  pub curl_fits : IsSome names.face → IsSome names.edge → IsCommandOf (declared_in now) Curl
  unfolding mesh_of
  curl_fits face edge = (face, edge)

  abbrev pub moved : List ℤ → FaceAt → ℤ
  moved speeds = inducted w.told.grid (faces_of w) (three speeds)

  pub induct_refused : (speeds : List ℤ) → keeps_courant w.told.grid.shape (three speeds) ≡ true → refusal now (Induct speeds) ≡ range_of (with_faces now (moved speeds))
  unfolding refusal mesh_of
  induct_refused speeds slow = rw slow refl

  induct_fast : (speeds : List ℤ) → keeps_courant w.told.grid.shape (three speeds) ≡ false → refusal now (Induct speeds) ≡ Some (refusals.Courant speeds)
  unfolding refusal mesh_of
  induct_fast speeds fast = rw fast refl

  pub induct_made : (speeds : List ℤ) → mesh_after now (Induct speeds) ≡ with_faces now (moved speeds)
  unfolding mesh_of
  induct_made speeds = refl

  module _ (speeds : List ℤ) (fits : IsCommandOf (declared_in now) (Induct speeds)) (new : WorldState) (told : new.told ≡ w.told) where
    -- a step is made
    module _ (done : Unit {0}) (is : Inducts now speeds new (Ok done)) where
      pub induct_changes : Changes (Ok done) now (Induct speeds) (mesh_of names new outs marks)
      unfolding mesh_of
      induct_changes = (
        set_allowed (Induct speeds) (moved speeds) fits (induct_refused speeds is.0) (induct_made speeds) is.1,
        made_is (Induct speeds) (moved speeds) fits (induct_refused speeds is.0) (induct_made speeds) new told is.2 is.1,
      )

      pub induct_laid : IsLaidOut names new outs marks
      unfolding mesh_of
      induct_laid = made_laid (Induct speeds) (moved speeds) fits (induct_refused speeds is.0) (induct_made speeds) new told is.2 is.1

      pub induct_valid : ValidMesh (mesh_of names new outs marks)
      unfolding mesh_of
      induct_valid = made_valid (Induct speeds) (moved speeds) fits (induct_refused speeds is.0) (induct_made speeds) new told is.2 is.1

    -- or hindered, which leaves the mesh
    pub induct_stays : (hindrance : FaceHindrance) → Inducts now speeds new (Err hindrance) → IsOfMesh new now
    induct_stays TooFast is = is.1
    induct_stays (Number found) is = is.2

    -- whichever it was, the engine's mesh is a valid one
    pub induct_kept : (r : Result (Unit {0}) FaceHindrance) → Inducts now speeds new r → IsLaidOut names new outs marks × ValidMesh (mesh_of names new outs marks)
    induct_kept (Ok done) is = (induct_laid done is, induct_valid done is)
    induct_kept (Err hindrance) is = (
      laid_same names w outs marks laid valid new told (induct_stays hindrance is),
      subst ValidMesh (sym (same_mesh names w outs marks laid valid new told (induct_stays hindrance is))) valid,
    )

    pub induct_hindered : (hindrance : FaceHindrance) → Inducts now speeds new (Err hindrance) → Changes (Err (cause_of_induct speeds hindrance)) now (Induct speeds) (mesh_of names new outs marks)
    unfolding mesh_of
    induct_hindered TooFast is = (induct_fast speeds is.0, same_mesh names w outs marks laid valid new told is.1)
    induct_hindered (Number found) is = (
      set_refused (Induct speeds) (moved speeds) fits (induct_refused speeds is.0) (induct_made speeds) found is.1,
      same_mesh names w outs marks laid valid new told is.2,
    )
