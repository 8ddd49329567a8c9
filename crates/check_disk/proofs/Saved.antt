-- What a checkpoint's steps make of what is held.
use Rattle.std.proofs.Common.{◌≡◌, ◌⊎◌, inl, inr, ℕ, ◌≤◌, Option, ap, subst, ◌∙◌}
use Rattle.outside_io.specs.Areas.{Areas}
use Rattle.outside_io.specs.Crash.{LeavesOnly, Reads, Rests}
use Rattle.outside_io.proofs.Moments.{weaker, joined, still_rests}
use Rattle.check_disk.specs.declared.target.Target.{Target}
use Rattle.check_disk.specs.Format.{Format}
use Rattle.mesh_model.specs.Images.Held.{Found, is_open, turn_in, IsWhole}
use Rattle.check_disk.specs.Held.{held, mesh_in, next_of}
use Rattle.check_disk.specs.Steps.{IsBehind, IsOpened}
use Rattle.check_disk.proofs.Newer.{held_closed, held_opened}
use Rattle.check_disk.proofs.Gates.{behind_open}

module _ (format : Format) (target : Target) (areas : Areas) (mesh : format.Mesh) (next : next_of areas ≡ target) (whole : IsWhole (held format areas)) (few : target.turn ≤ 2) (fits : format.Fits mesh) where
  -- it is what was held, or the mesh
  abbrev pub Either : Areas → Type 0
  Either c = (held format c ≡ held format areas) ⊎ (held format c ≡ Found mesh)

  behind : (c : Areas) → IsBehind target.area areas c → held format c ≡ held format areas
  behind c is = held_closed format target.area target.turn areas c next whole is.there is.closed

  opened : (c : Areas) → IsOpened target.area (format.image mesh target.turn) areas c → held format c ≡ Found mesh
  opened c is = held_opened format target.area target.turn areas c mesh next whole is.there
      (ap is_open is.here ∙ behind_open (format.image mesh target.turn) (format.some mesh target.turn fits few))
      (ap (mesh_in format) is.here ∙ format.back mesh target.turn fits few)
      (ap turn_in is.here ∙ format.turned mesh target.turn fits few)

  further : (mid c : Areas) → IsBehind target.area areas mid → IsBehind target.area mid c → IsBehind target.area areas c
  further mid c first second = record { there = second.there ∙ first.there; closed = second.closed }

  opened_after : (written c : Areas) → IsBehind target.area areas written → IsOpened target.area (format.image mesh target.turn) written c → held format c ≡ Found mesh
  opened_after written c first is = opened c (record { there = is.there ∙ first.there; here = is.here })

  -- once it is opened
  pub done : (t : Target) (closed written c : Areas) → t ≡ target → IsBehind target.area areas closed → IsBehind t.area closed written → IsOpened t.area (format.image mesh t.turn) written c → held format c ≡ Found mesh
  done t closed written c same first second is =
      opened_after written c (further closed written first (subst (λ (x : Target). IsBehind x.area closed written) same second)) (subst (λ (x : Target). IsOpened x.area (format.image mesh x.turn) written c) same is)

  module _ {D : Type 0} (holds : D → Option Areas) (may_leave : D → Areas → Type 0) (moment : D → ℕ) (left_since : D → ℕ → Areas → Type 0) where
    -- while the disk is surveyed and the gate closed
    pub to_make : (old surveyed made : D) → Reads holds may_leave moment left_since old surveyed → Rests holds may_leave old areas
        → ((a : Areas) → Rests holds may_leave surveyed a → LeavesOnly moment left_since surveyed made (λ c. (c ≡ a) ⊎ IsBehind target.area a c))
        → LeavesOnly moment left_since old made Either
    to_make old surveyed made reads rests moments =
        joined moment left_since old surveyed made Either
        (weaker moment left_since old surveyed (may_leave old) Either (λ c left. inl (ap (held format) (rests.only c left))) reads.run)
        (weaker moment left_since surveyed made (λ c. (c ≡ areas) ⊎ IsBehind target.area areas c) Either each (moments areas (still_rests holds may_leave moment left_since old surveyed areas reads rests)))
      where
        each : (c : Areas) → (c ≡ areas) ⊎ IsBehind target.area areas c → Either c
        each c (inl same) = inl (ap (held format) same)
        each c (inr is) = inl (behind c is)

    -- while the image is written
    pub to_body : (old made wrote : D) (t : Target) (closed : Areas) → t ≡ target → LeavesOnly moment left_since old made Either → IsBehind target.area areas closed
        → LeavesOnly moment left_since made wrote (IsBehind t.area closed) → LeavesOnly moment left_since old wrote Either
    to_body old made wrote t closed same so_far first moments =
        joined moment left_since old made wrote Either so_far
        (weaker moment left_since made wrote (IsBehind t.area closed) Either (λ c is. inl (behind c (further closed c first (subst (λ (x : Target). IsBehind x.area closed c) same is)))) moments)

    -- while the gate is opened
    pub to_open : (old wrote opened : D) (t : Target) (closed written : Areas) → t ≡ target → LeavesOnly moment left_since old wrote Either → IsBehind target.area areas closed → IsBehind t.area closed written
        → LeavesOnly moment left_since wrote opened (λ c. IsBehind t.area written c ⊎ IsOpened t.area (format.image mesh t.turn) written c) → LeavesOnly moment left_since old opened Either
    to_open old wrote opened t closed written same so_far first second moments =
        joined moment left_since old wrote opened Either so_far
        (weaker moment left_since wrote opened (λ c. IsBehind t.area written c ⊎ IsOpened t.area (format.image mesh t.turn) written c) Either each moments)
      where
        each : (c : Areas) → IsBehind t.area written c ⊎ IsOpened t.area (format.image mesh t.turn) written c → Either c
        each c (inl is) = inl (behind c (further written c (further closed written first (subst (λ (x : Target). IsBehind x.area closed written) same second)) (subst (λ (x : Target). IsBehind x.area written c) same is)))
        each c (inr is) = inr (done t closed written c same first second is)
