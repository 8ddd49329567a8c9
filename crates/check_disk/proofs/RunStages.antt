-- One checkpoint more of a run.
use Rattle.std.proofs.Common.{◌≡◌, ◌⊎◌, inl, inr, ℕ, zero, suc, ◌+◌, ◌≤◌, ◌<◌, List, [], ◌∷◌, length, drop, get_or, set, refl, sym, ap, ◌∙◌, arith}
use Rattle.std.proofs.lemmas.List.{get_or-drop, drop-drop, drop-set-lt}
use Rattle.outside_io.specs.Areas.{Areas}
use Rattle.outside_io.specs.Crash.{LeavesOnly}
use Rattle.outside_io.proofs.Moments.{joined, weaker}
use Rattle.check_disk.specs.Format.{Format}
use Rattle.mesh_model.specs.Images.Held.{Held, Found, IsWhole}
use Rattle.check_disk.specs.Held.{held}
use Rattle.check_disk.specs.Stages.{stage, IsStage}

module _ {M F : Type 0} where
  pub whole_stage : (first : Held M F) (meshes : List M) (n : ℕ) → IsWhole first → IsWhole (stage first meshes n)
  whole_stage first meshes zero whole = whole
  whole_stage first [] (suc n) whole = whole
  whole_stage first (mesh ∷ meshes) (suc n) whole = whole_stage (Found mesh) meshes n tt

  -- after one more the mesh is held
  pub next_stage : (first : Held M F) (meshes : List M) (n : ℕ) (d : M) → n < length meshes → stage first meshes (n + 1) ≡ Found (get_or meshes n d)
  next_stage first [] n d lt = absurd (omega arith)
  next_stage first (mesh ∷ meshes) zero d lt = refl
  next_stage first (mesh ∷ meshes) (suc n) d lt =
      let more : suc n + 1 ≡ suc (n + 1) = omega arith in
      ap (stage first (mesh ∷ meshes)) more ∙ next_stage (Found mesh) meshes n d (omega arith)

pub later_stage : (format : Format) (first : Held format.Mesh format.Fault) (meshes : List format.Mesh) (n m : ℕ) (c : Areas) → n ≤ m → IsStage format first meshes n c → IsStage format first meshes m c
later_stage format first meshes n m c le is = (is.0, (let l = is.1 in omega arith), is.2)

-- the item that comes is as it was
pub item_same : {P : Type 0} (now was : List P) (n : ℕ) (d : P) → drop n now ≡ drop n was → get_or now n d ≡ get_or was n d
item_same now was n d rest =
    ap (λ k. get_or now k d) (omega arith) ∙ sym (get_or-drop n now 0 d) ∙ ap (λ l. get_or l 0 d) rest ∙ get_or-drop n was 0 d ∙ ap (λ k. get_or was k d) (omega arith)

pub rest_same : {P : Type 0} (now was : List P) (n : ℕ) (x : P) → drop n now ≡ drop n was → drop (n + 1) (set now n x) ≡ drop (n + 1) was
rest_same now was n x rest = drop-set-lt (n + 1) now n x (omega arith) ∙ sym (drop-drop 1 n now) ∙ ap (λ l. drop 1 l) rest ∙ drop-drop 1 n was

module _ {D : Type 0} (moment : D → ℕ) (left_since : D → ℕ → Areas → Type 0) (format : Format) (first : Held format.Mesh format.Fault) (meshes : List format.Mesh) (n : ℕ) (mesh : format.Mesh) where
  pub stage_moments : (start now next : D) (after : Areas) → stage first meshes (n + 1) ≡ Found mesh → held format after ≡ stage first meshes n
      → LeavesOnly moment left_since start now (IsStage format first meshes n) → LeavesOnly moment left_since now next (λ c. (held format c ≡ held format after) ⊎ (held format c ≡ Found mesh))
      → LeavesOnly moment left_since start next (IsStage format first meshes (n + 1))
  stage_moments start now next after is at so_far step =
      joined moment left_since start now next (IsStage format first meshes (n + 1))
      (weaker moment left_since start now (IsStage format first meshes n) (IsStage format first meshes (n + 1)) (λ c s. later_stage format first meshes n (n + 1) c (omega arith) s) so_far)
      (weaker moment left_since now next (λ c. (held format c ≡ held format after) ⊎ (held format c ≡ Found mesh)) (IsStage format first meshes (n + 1)) each step)
    where
      each : (c : Areas) → (held format c ≡ held format after) ⊎ (held format c ≡ Found mesh) → IsStage format first meshes (n + 1) c
      each c (inl old) = (n, omega arith, old ∙ at)
      each c (inr new) = (n + 1, omega arith, new ∙ sym is)
