-- What the disk goes through, one part of a run after another.
use Rattle.std.proofs.Common.{◌≡◌, ◌⊎◌, inl, inr, ℕ, zero, suc, ◌+◌, ◌-◌, ◌≤◌, List, [], ◌∷◌, ◌++◌, length, length-append, refl, sym, ap, subst, ◌∙◌, arith}
use Rattle.std.specs.Prelude.{Option}
use Rattle.outside_io.specs.Areas.{Areas}
use Rattle.outside_io.specs.Crash.{Reads, Rests}
use Rattle.outside_io.proofs.Moments.{joined, started, still_rests, weaker}
use Rattle.check_disk.specs.Images.{images}
use Rattle.check_disk.specs.Stages.{IsStage, stage}
use Rattle.check_disk.proofs.RunStages.{whole_stage}
use Rattle.mesh_model.specs.Fields.Plain.{Mesh}
use Rattle.mesh_model.specs.Images.Held.{Found, Held, IsWhole, held}
use Rattle.mesh_model.specs.declared.images.BadImage.{BadImage}
use Rattle.amr_engine.specs.Saving.{HasSaved, StaysWhole}
use Rattle.amr_program.specs.Lasting.{LeavesLastTwo}

-- ---- what is held after some of more meshes

pub stage_first : (first : Held Mesh BadImage) (xs ys : List Mesh) (n : ℕ) → n ≤ length xs → stage first (xs ++ ys) n ≡ stage first xs n
stage_first first xs ys zero le = refl
stage_first first [] ys (suc n) le = absurd (omega arith)
stage_first first (x ∷ xs) ys (suc n) le = stage_first (Found x) xs ys n (omega arith)

pub stage_past : (first : Held Mesh BadImage) (xs ys : List Mesh) (n : ℕ) → stage first (xs ++ ys) (length xs + n) ≡ stage (stage first xs (length xs)) ys n
stage_past first [] ys n = ap (stage first ys) (omega arith)
stage_past first (x ∷ xs) ys n = let more : length (x ∷ xs) + n ≡ suc (length xs + n) = omega arith in ap (stage first (x ∷ xs ++ ys)) more ∙ stage_past (Found x) xs ys n

module _ {D : Type 0} (holds : D → Option Areas) (may_leave : D → Areas → Type 0) (moment : D → ℕ) (left_since : D → ℕ → Areas → Type 0) where
  -- a disk that is left alone
  module _ (only_now : (disk : D) (c : Areas) → left_since disk (moment disk) c → may_leave disk c) (disk : D) where
    pub not_touched : Reads holds may_leave moment left_since disk disk
    not_touched = record { kept = refl; crash = λ c left. left; run = started moment left_since disk (may_leave disk) (only_now disk) }

  -- more meshes after some that were saved
  module _ (ms more : List Mesh) (old mid new : D) (stays : StaysWhole holds may_leave moment left_since ms old mid) (has : HasSaved holds may_leave ms old mid)
      (stays_on : StaysWhole holds may_leave moment left_since more mid new) where
    still_whole : (areas : Areas) (rests : Rests holds may_leave old areas) (whole : IsWhole (held areas.a areas.b)) → let at = has areas rests whole in IsWhole (held at.0.a at.0.b)
    still_whole areas rests whole = subst IsWhole (sym (has areas rests whole).2) (whole_stage (held areas.a areas.b) ms (length ms) whole)

    pub more_stay : StaysWhole holds may_leave moment left_since (ms ++ more) old new
    more_stay areas rests whole =
        let first = held areas.a areas.b in
        let at = has areas rests whole in
        let P : Areas → Type 0 = IsStage images first (ms ++ more) (length (ms ++ more)) in
        let long = length-append ms more in
        joined moment left_since old mid new P
        (weaker moment left_since old mid (IsStage images first ms (length ms)) P (λ c s. (s.0, (let l = s.1 in omega arith), s.2 ∙ sym (stage_first first ms more s.0 s.1))) (stays areas rests whole))
        (weaker moment left_since mid new (IsStage images (held at.0.a at.0.b) more (length more)) P
        (λ c s. (length ms + s.0, (let l = s.1 in omega arith), s.2 ∙ ap (λ h. stage h more s.0) at.2 ∙ sym (stage_past first ms more s.0))) (stays_on at.0 at.1 (still_whole areas rests whole)))

    pub more_saved : HasSaved holds may_leave more mid new → HasSaved holds may_leave (ms ++ more) old new
    more_saved has_more areas rests whole =
        let first = held areas.a areas.b in
        let at = has areas rests whole in
        let next = has_more at.0 at.1 (still_whole areas rests whole) in
        (next.0, next.1, next.2 ∙ ap (λ h. stage h more (length more)) at.2 ∙ sym (stage_past first ms more (length more)) ∙ ap (stage first (ms ++ more)) (sym (length-append ms more)))

  -- one more, which was begun
  pub one_begun : (ms : List Mesh) (m : Mesh) (old mid new : D) → ((t : ℕ) (c : Areas) → t ≤ moment new → may_leave new c → left_since new t c)
      → StaysWhole holds may_leave moment left_since ms old mid → HasSaved holds may_leave ms old mid → StaysWhole holds may_leave moment left_since (m ∷ []) mid new
      → LeavesLastTwo holds may_leave moment left_since (ms ++ m ∷ []) old new
  one_begun ms m old mid new counts_now stays has stays_on areas rests whole c left =
      let first = held areas.a areas.b in
      let at = has areas rests whole in
      let step = stays_on at.0 at.1 (still_whole ms (m ∷ []) old mid new stays has stays_on areas rests whole) in
      let long = length-append ms (m ∷ []) in
      let before : stage first (ms ++ m ∷ []) (length (ms ++ m ∷ []) - 1) ≡ held at.0.a at.0.b = ap (stage first (ms ++ m ∷ [])) (omega arith) ∙ stage_first first ms (m ∷ []) (length ms) (omega arith) ∙ sym at.2 in
      let after : stage first (ms ++ m ∷ []) (length (ms ++ m ∷ [])) ≡ Found m = ap (stage first (ms ++ m ∷ [])) long ∙ stage_past first ms (m ∷ []) 1 in
      one_of c _ _ _ before after (step.each c (counts_now (moment mid) c step.later left))
    where
      one_of : (c : Areas) (old_held older newer : Held Mesh BadImage) → older ≡ old_held → newer ≡ Found m → IsStage images old_held (m ∷ []) 1 c → (held c.a c.b ≡ older) ⊎ (held c.a c.b ≡ newer)
      one_of c old_held older newer before after (zero, le, is) = inl (is ∙ sym before)
      one_of c old_held older newer before after (suc zero, le, is) = inr (is ∙ sym after)
      one_of c old_held older newer before after (suc (suc k), le, is) = absurd (omega (arith, le))

  -- after reading alone
  module _ (old mid new : D) (reads : Reads holds may_leave moment left_since old mid) where
    pub stays_after : (ms : List Mesh) → StaysWhole holds may_leave moment left_since ms mid new → StaysWhole holds may_leave moment left_since ms old new
    stays_after ms stays areas rests whole =
        let P : Areas → Type 0 = IsStage images (held areas.a areas.b) ms (length ms) in
        joined moment left_since old mid new P
        (weaker moment left_since old mid (may_leave old) P (λ c left. (0, omega arith, ap (λ (x : Areas). held x.a x.b) (rests.only c left))) reads.run)
        (stays areas (still_rests holds may_leave moment left_since old mid areas reads rests) whole)

    pub saved_after : (ms : List Mesh) → HasSaved holds may_leave ms mid new → HasSaved holds may_leave ms old new
    saved_after ms has areas rests whole = has areas (still_rests holds may_leave moment left_since old mid areas reads rests) whole

    pub begun_after : (ms : List Mesh) → LeavesLastTwo holds may_leave moment left_since ms mid new → LeavesLastTwo holds may_leave moment left_since ms old new
    begun_after ms leaves areas rests whole c left = leaves areas (still_rests holds may_leave moment left_since old mid areas reads rests) whole c left
