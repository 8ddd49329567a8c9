-- What a crash leaves of a run, by what its parts did to the disk.
use Rattle.std.proofs.Common.{◌≡◌, ◌⊎◌, inl, inr, ℕ, ◌+◌, ◌≤◌, List, [], ◌++◌, length, take, drop, Option, Some, None, Result, Ok, Err, refl, sym, ap, subst, ◌∙◌, arith}
use Rattle.std.proofs.lemmas.List.{take-append-drop}
use Rattle.outside_io.specs.Areas.{Areas}
use Rattle.outside_io.specs.Crash.{Reads, Rests}
use Rattle.outside_io.specs.Moved.{Rose}
use Rattle.outside_io.proofs.Moments.{weaker}
use Rattle.check_disk.specs.Images.{images}
use Rattle.check_disk.specs.Stages.{IsStage, stage}
use Rattle.mesh_model.specs.Fields.Plain.{Mesh}
use Rattle.mesh_model.specs.Images.Held.{Held, IsWhole, held}
use Rattle.mesh_model.specs.Run.Runs.{checkpoints, mesh_after_all}
use Rattle.mesh_model.specs.declared.images.BadImage.{BadImage}
use Rattle.mesh_model.specs.declared.language.script.Line.{Line}
use Rattle.amr_engine.specs.Saving.{HasSaved, StaysWhole}
use Rattle.amr_program.specs.declared.not_run.NotRun.{NotRun}
use Rattle.amr_program.specs.declared.words.Asked.{Asked}
use Rattle.amr_program.specs.declared.words.Start.{Start}
use Rattle.amr_program.specs.declared.words.Start.TheVariants.{New, Restart, Sample}
use Rattle.amr_program.specs.Answer.{IsTold, IsToldAt, Job, done_in, saved_by_then, saved_in}
use Rattle.amr_program.specs.Lasting.{Lasts, LeavesLastTwo, disk_run}
use Rattle.amr_program.specs.Outcome.{BeginsAt, LastsAt}
use Rattle.amr_program.proofs.Commands.{checkpoints_append}
use Rattle.amr_program.proofs.Coming.{Carries}
use Rattle.amr_program.proofs.Keeping.{begun_after, saved_after, stage_first, stays_after}
use Rattle.outside_io.proofs.Moments.{reads_on}

-- a disk that tells its areas tells of a restart
told_at : (start : Start) (areas : Areas) → IsToldAt start (Some areas)
told_at New areas = tt
told_at Restart areas = refl
told_at (Sample seed) areas = tt

pub told_some : (asked : Option Asked) (areas : Areas) → IsTold asked (Some areas)
told_some None areas = tt
told_some (Some asked) areas = told_at asked.start areas

-- the checkpoints of the first lines, and those of the others
split : (m : Mesh) (lines : List Line) (k : ℕ) → checkpoints m lines ≡ checkpoints m (take k lines) ++ checkpoints (mesh_after_all m (take k lines)) (drop k lines)
split m lines k = ap (checkpoints m) (sym (take-append-drop k lines)) ∙ checkpoints_append m (take k lines) (drop k lines)

stage_of : (first : Held Mesh BadImage) (all ms rest : List Mesh) (n : ℕ) → all ≡ ms ++ rest → n ≤ length ms → stage first ms n ≡ stage first all n
stage_of first all ms rest n is le = sym (ap (λ xs. stage first xs n) is ∙ stage_first first ms rest n le)

module _ {D : Type 0} (holds : D → Option Areas) (may_leave : D → Areas → Type 0) (moment : D → ℕ) (left_since : D → ℕ → Areas → Type 0) (faults : D → ℕ) where
  module _ (old new : D) (areas : Areas) (rests : Rests holds may_leave old areas) (whole : IsWhole (held areas.a areas.b)) where
    abbrev LastsOf : List Mesh → ℕ → Type 0
    LastsOf all n = Lasts holds may_leave moment left_since (Rose (faults old) (faults new)) (held areas.a areas.b) all n old new

    lasts_saved : (all ms rest : List Mesh) → all ≡ ms ++ rest → StaysWhole holds may_leave moment left_since ms old new → HasSaved holds may_leave ms old new → LastsOf all (length ms)
    lasts_saved all ms rest is stays has =
        let first = held areas.a areas.b in
        let n = length ms in
        record {
          begun = n;
          next = inl refl;
          moments = weaker moment left_since old new (IsStage images first ms n) (IsStage images first all n) (λ c s. (s.0, s.1, s.2 ∙ stage_of first all ms rest s.0 is s.1)) (stays areas rests whole);
          at_return = λ c left. let at = has areas rests whole in inl (ap (λ (x : Areas). held x.a x.b) (at.1.only c left) ∙ at.2 ∙ stage_of first all ms rest n is (omega arith));
        }

    lasts_begun : (all ms rest : List Mesh) (n : ℕ) → all ≡ ms ++ rest → length ms ≡ n + 1 → Rose (faults old) (faults new) → StaysWhole holds may_leave moment left_since ms old new
        → LeavesLastTwo holds may_leave moment left_since ms old new → LastsOf all n
    lasts_begun all ms rest n is one rose stays leaves =
        let first = held areas.a areas.b in
        record {
          begun = n + 1;
          next = inr (refl, rose);
          moments = weaker moment left_since old new (IsStage images first ms (length ms)) (IsStage images first all (n + 1)) (λ c s. (s.0, (let l = s.1 in omega (arith, l, one)), s.2 ∙ stage_of first all ms rest s.0 is s.1)) (stays areas rests whole);
          at_return = λ c left. elim (leaves areas rests whole c left) [
            | inl e ↦ inl (e ∙ ap (stage first ms) (omega (arith, one)) ∙ stage_of first all ms rest n is (omega (arith, one)))
            | inr e ↦ inr (e ∙ ap (stage first ms) one ∙ stage_of first all ms rest (n + 1) is (omega (arith, one)))
          ];
        }

    lasts_read : (all : List Mesh) → Reads holds may_leave moment left_since old new → LastsOf all 0
    lasts_read all reads = record {
      begun = 0;
      next = inl refl;
      moments = weaker moment left_since old new (may_leave old) (IsStage images (held areas.a areas.b) all 0) (λ c left. (0, omega arith, ap (λ (x : Areas). held x.a x.b) (rests.only c left))) reads.run;
      at_return = λ c left. inl (ap (λ (x : Areas). held x.a x.b) (rests.only c (reads.crash c left)));
    }

    pub job_lasts : (job : Result Job NotRun) (k : ℕ) → let d = disk_run holds may_leave moment left_since faults old new in
        LastsAt job k d ⊎ (BeginsAt job k d ⊎ ((k ≡ 0) × d.untouched)) → LastsOf (saved_in job) (saved_by_then job k)
    job_lasts (Ok j) k (inl lasts) = lasts_saved (saved_in (Ok j)) (checkpoints j.mesh (take k (done_in j))) _ (split j.mesh (done_in j) k) lasts.saved.0 lasts.saved.1
    job_lasts (Err reason) k (inl lasts) = lasts_read [] lasts.1
    job_lasts (Ok j) k (inr (inl begins)) = lasts_begun (saved_in (Ok j)) (checkpoints j.mesh (take (k + 1) (done_in j))) _ (saved_by_then (Ok j) k) (split j.mesh (done_in j) (k + 1)) begins.one begins.rose begins.begun.0 begins.begun.1
    job_lasts (Err reason) k (inr (inl begins)) = absurd begins
    job_lasts (Ok j) k (inr (inr none)) = subst (λ n. LastsOf (saved_in (Ok j)) (saved_by_then (Ok j) n)) (sym none.0) (lasts_read (saved_in (Ok j)) none.1)
    job_lasts (Err reason) k (inr (inr none)) = lasts_read [] none.1

  -- what was read first changes nothing
  pub read_carries : (old mid new : D) → Reads holds may_leave moment left_since old mid → faults mid ≡ faults old → Carries (disk_run holds may_leave moment left_since faults mid new) (disk_run holds may_leave moment left_since faults old new)
  read_carries old mid new reads calm = record {
    untouched = λ later. reads_on holds may_leave moment left_since old mid new reads later;
    saved = λ ms saved. (stays_after holds may_leave moment left_since old mid new reads ms saved.0, saved_after holds may_leave moment left_since old mid new reads ms saved.1);
    begun = λ ms begun. (stays_after holds may_leave moment left_since old mid new reads ms begun.0, begun_after holds may_leave moment left_since old mid new reads ms begun.1);
    calm = λ same. same ∙ calm;
    rose = λ rose. subst (λ n. Rose n (faults new)) calm rose;
  }
