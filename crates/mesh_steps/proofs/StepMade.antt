-- What a step found and made, in the mesh's words.
use Rattle.std.proofs.Common.{◌≡◌, ℕ, ◌+◌, ◌^◌, ◌<◌, ◌≤◌, ◌==◌, true, false, List, Option, find, Err, ℤ, ◌+ℤ◌, sym, ap, ap₂, subst, ◌∙◌, arith, inl, inr, eqb-true}
use Rattle.std.proofs.lemmas.Bool.{cases_Bool, le-ltb, lt-ltb}
use Rattle.std.specs.Prelude.{if◌then◌else◌, unsigned_abs}
use Rattle.amr_num.specs.Numbers.{Within, number_range}
use Rattle.amr_num.specs.declared.CellAt.{CellAt}
use Rattle.amr_num.proofs.Sizes.{within_add}
use Rattle.flux_conserve.specs.Work.{WorkHolds}
use Rattle.guard_fill.specs.Filling.{LeavesSided}
use Rattle.mesh_model.specs.Fields.Advect.{advect, advected, flux, outflow, three}
use Rattle.mesh_model.specs.Fields.Plain.{Mesh}
use Rattle.mesh_model.specs.Fields.RangeWalk.{cells_walked, is_above}
use Rattle.mesh_model.specs.Fields.Ranks.{Told, WorldState}
use Rattle.rank_world.specs.Holding.{IsLeafNode, IsOfMesh, LeavesHold}
use Rattle.mesh_steps.specs.Settling.{AreFluxed, OnlyCellsAndWork, OnlyWorkCells, WorkCellsHold}
use Rattle.mesh_steps.specs.Stepping.{KeepsMeshes, Steps, content_after, first_above}
use Rattle.mesh_steps.specs.declared.hindrance.Hindrance.{Hindrance}
use Rattle.mesh_steps.specs.declared.hindrance.Hindrance.TheVariants.{Content, FlowedOut, TooFast}
use Rattle.mesh_steps.proofs.Kept.{meshes_kept, others_taken, taken_keeps_fields, work_keeps_fields, work_kept}
use Rattle.rank_world.proofs.Meshes.{edges_same, faces_same}
use Rattle.mesh_steps.proofs.Machine.{kept_128, wide}

-- what had flowed out and what flows out, as the machine adds them
pub flown_told : (out flown : ℤ) → Within (2 ^ 100) out → Within (2 ^ 90) flown → kept_128 (kept_128 out +ℤ kept_128 flown) ≡ out +ℤ flown
flown_told out flown ho hf =
    ap₂ (λ x y. kept_128 (x +ℤ y)) (wide out (2 ^ 100) ho (omega arith)) (wide flown (2 ^ 90) hf (omega arith))
    ∙ wide (out +ℤ flown) (2 ^ 100 + 2 ^ 90) (within_add (2 ^ 100) (2 ^ 90) out flown ho hf) (omega arith)

-- a number that is above a limit, and one that is not
pub is_far : (most : ℕ) (z : ℤ) → most < unsigned_abs z → is_above most z ≡ true
is_far most z h = lt-ltb most (unsigned_abs z) h

pub is_near : (most : ℕ) (z : ℤ) → unsigned_abs z ≤ most → is_above most z ≡ false
is_near most z h = le-ltb most (unsigned_abs z) h

module _ (old blown : WorldState) (v : ℕ) (speeds : List ℤ) (m : Mesh) (of : IsOfMesh old m) (there : v < old.told.counts.cells) (told : blown.told ≡ old.told)
    (meshes : KeepsMeshes old blown) (guards : (content : CellAt → ℤ) → LeavesHold old v content → LeavesSided blown v content) (flows : (content : CellAt → ℤ) → LeavesHold old v content → WorkHolds blown (flux old.told.grid content (three speeds))) where
  below : v < blown.told.counts.cells
  below = subst (λ (t : Told). v < t.counts.cells) (sym told) there

  grid_is : blown.told.grid ≡ m.grid
  grid_is = (meshes m of).grid

  pub are_fluxed : AreFluxed blown v (m.cells v) (three speeds)
  are_fluxed = record {
    cells = (meshes m of).contents v below;
    guarded = guards (m.cells v) (of.contents v there);
    faces = subst (λ (t : Told). WorkHolds blown (flux t.grid (m.cells v) (three speeds))) (sym told) (flows (m.cells v) (of.contents v there));
  }

  -- the first out of range, or none
  pub found_is : (o : Option CellAt) → find (λ c. is_above number_range (advected blown.told.grid (m.cells v) (three speeds) c)) (cells_walked blown.told.grid) ≡ o → first_above m v speeds ≡ o
  found_is o found = subst (λ h. find (λ c. is_above number_range (advected h (m.cells v) (three speeds) c)) (cells_walked h) ≡ o) grid_is found

  pub content_is : (c : CellAt) → advected blown.told.grid (m.cells v) (three speeds) c ≡ content_after m v speeds c
  content_is c = ap (λ h. advected h (m.cells v) (three speeds) c) grid_is

  pub flown_is : outflow blown.told.grid (m.cells v) (three speeds) ≡ outflow m.grid (m.cells v) (three speeds)
  flown_is = ap (λ h. outflow h (m.cells v) (three speeds)) grid_is

  module _ (settled : WorldState) (work : OnlyWorkCells blown settled) where
    -- contents stay until they are taken over
    pub still_of : IsOfMesh settled m
    still_of = meshes_kept blown settled work.told (work_kept blown settled work) (work_keeps_fields blown settled work) m (meshes m of)

    module _ (taken : WorldState) (only : OnlyCellsAndWork settled taken v) (made : WorkCellsHold settled (advected blown.told.grid (m.cells v) (three speeds)))
        (holds : (content : CellAt → ℤ) → WorkCellsHold settled content → LeavesHold taken v content) where
      new_holds : (u : ℕ) → u < taken.told.counts.cells → LeavesHold taken u ((advect m v (three speeds)).cells u)
      new_holds u inside = elim (cases_Bool (u == v)) [
        | inl same ↦ (
            let e = eqb-true u v same in
            let here : LeavesHold taken v (content_after m v speeds) = subst (λ h. LeavesHold taken v (advected h (m.cells v) (three speeds))) grid_is (holds (advected blown.told.grid (m.cells v) (three speeds)) made) in
            subst (λ t. LeavesHold taken u (if t then content_after m u speeds else m.cells u)) (sym same) (subst (λ x. LeavesHold taken x (content_after m x speeds)) (sym e) here))
        | inr other ↦
            subst (λ t. LeavesHold taken u (if t then content_after m u speeds else m.cells u)) (sym other)
            (λ node leaf. others_taken settled taken v u node (m.cells u) only other
            (still_of.contents u (subst (λ (t : Told). u < t.counts.cells) only.told inside) node (subst (λ (t : Told). IsLeafNode t.grid node) only.told leaf)))
      ]

      pub new_of : IsOfMesh taken (advect m v (three speeds))
      new_of = record {
        grid = ap (λ (t : Told). t.grid) only.told ∙ still_of.grid;
        cells = ap (λ (t : Told). t.counts.cells) only.told ∙ still_of.cells;
        faces = (λ zero. still_of.faces.0 (sym (ap (λ (t : Told). t.counts.faces) only.told) ∙ zero), λ none. ap (λ (t : Told). t.counts.faces) only.told ∙ still_of.faces.1 none);
        edges = (λ zero. still_of.edges.0 (sym (ap (λ (t : Told). t.counts.edges) only.told) ∙ zero), λ none. ap (λ (t : Told). t.counts.edges) only.told ∙ still_of.edges.1 none);
        contents = new_holds;
        on_faces = λ some. faces_same settled taken m.faces only.told (λ x node leaf. (taken_keeps_fields settled taken v only).on_faces x node) (still_of.on_faces (subst (λ (t : Told). 0 < t.counts.faces) only.told some));
        on_edges = λ some. edges_same settled taken m.edges only.told (λ x node leaf. (taken_keeps_fields settled taken v only).on_edges x node) (still_of.on_edges (subst (λ (t : Told). 0 < t.counts.edges) only.told some));
      }

-- a step that was hindered leaves the mesh
pub steps_of : (m : Mesh) (v : ℕ) (speeds : List ℤ) (new : WorldState) (hindrance : Hindrance) → Steps m v speeds new (Err hindrance) → IsOfMesh new m
steps_of m v speeds new TooFast steps = steps.1
steps_of m v speeds new (Content above) steps = steps.3
steps_of m v speeds new (FlowedOut out) steps = steps.3
