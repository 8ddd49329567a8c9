-- What areas hold when the one that is next is closed, and when it is opened.
use Rattle.std.proofs.Common.{◌≡◌, ℕ, ◌+◌, ◌%◌, Bool, true, false, ◌==◌, cond, List, Result, Ok, Err, refl, sym, ap, ◌∙◌, arith}
use Rattle.std.proofs.lemmas.Bool.{eq-eqb, ne_eqb}
use Rattle.outside_io.specs.declared.disk.Area.{Area}
use Rattle.outside_io.specs.declared.disk.Area.TheVariants.{A, B}
use Rattle.outside_io.specs.Areas.{Areas, bytes_of, other_area}
use Rattle.check_disk.specs.declared.target.Target.{Target}
use Rattle.check_disk.specs.Format.{Format}
use Rattle.mesh_model.specs.Images.Held.{is_open, turn_in, b_is_newer, Found, held_by, IsWhole}
use Rattle.check_disk.specs.Held.{mesh_in, held, next_by, next_of}

not_a : {turn turn' : ℕ} → ◌≡◌ {A = Target} (record { area = A; turn = turn }) (record { area = B; turn = turn' }) → ⊥
not_a next = cc (ap (λ (n : Target). n.area) next)

not_b : {turn turn' : ℕ} → ◌≡◌ {A = Target} (record { area = B; turn = turn }) (record { area = A; turn = turn' }) → ⊥
not_b next = cc (ap (λ (n : Target). n.area) next)

second : (tb turn : ℕ) → (tb + 1) % 3 ≡ turn → (tb == (turn + 1) % 3) ≡ false
second tb turn h = ne_eqb tb ((turn + 1) % 3) (λ e. omega arith)

module _ {M F : Type 0} where
  -- area A is next: closed, it leaves what is held
  closed_a : (oa ob nb nb' : Bool) (ma ma' mb : Result M F) (ta tb turn : ℕ) → next_by oa ob nb ta tb ≡ record { area = A; turn = turn } → IsWhole (held_by oa ma ob mb nb)
      → held_by false ma' ob mb nb' ≡ held_by oa ma ob mb nb
  closed_a false false nb nb' ma ma' mb ta tb turn next whole = refl
  closed_a false true nb nb' ma ma' (Err e) ta tb turn next whole = refl
  closed_a false true nb nb' ma ma' (Ok k) ta tb turn next whole = refl
  closed_a true false nb nb' ma ma' mb ta tb turn next whole = absurd (not_b next)
  closed_a true true false nb' ma ma' mb ta tb turn next whole = absurd (not_b next)
  closed_a true true true nb' (Err e) ma' mb ta tb turn next whole = absurd whole
  closed_a true true true nb' (Ok m) ma' (Err e) ta tb turn next whole = absurd whole
  closed_a true true true nb' (Ok m) ma' (Ok k) ta tb turn next whole = refl

  closed_b : (oa ob nb nb' : Bool) (ma mb mb' : Result M F) (ta tb turn : ℕ) → next_by oa ob nb ta tb ≡ record { area = B; turn = turn } → IsWhole (held_by oa ma ob mb nb)
      → held_by oa ma false mb' nb' ≡ held_by oa ma ob mb nb
  closed_b false false nb nb' ma mb mb' ta tb turn next whole = absurd (not_a next)
  closed_b false true nb nb' ma mb mb' ta tb turn next whole = absurd (not_a next)
  closed_b true false nb nb' (Err e) mb mb' ta tb turn next whole = refl
  closed_b true false nb nb' (Ok m) mb mb' ta tb turn next whole = refl
  closed_b true true true nb' ma mb mb' ta tb turn next whole = absurd (not_a next)
  closed_b true true false nb' (Err e) mb mb' ta tb turn next whole = absurd whole
  closed_b true true false nb' (Ok m) (Err e) mb' ta tb turn next whole = absurd whole
  closed_b true true false nb' (Ok m) (Ok k) mb' ta tb turn next whole = refl

  -- opened with a mesh, it is the newer
  opened_a : (oa ob nb nb' : Bool) (ma mb : Result M F) (m : M) (ta tb turn : ℕ) → next_by oa ob nb ta tb ≡ record { area = A; turn = turn } → IsWhole (held_by oa ma ob mb nb)
      → nb' ≡ (tb == (turn + 1) % 3) → held_by {F = F} true (Ok m) ob mb nb' ≡ Found m
  opened_a oa false nb nb' ma mb m ta tb turn next whole is = refl
  opened_a false true nb nb' ma (Err e) m ta tb turn next whole is = absurd whole
  opened_a false true nb nb' ma (Ok k) m ta tb turn next whole is = ap (λ b. cond b (Found k) (Found m)) (is ∙ second tb turn (ap (λ (n : Target). n.turn) next))
  opened_a true true false nb' ma mb m ta tb turn next whole is = absurd (not_b next)
  opened_a true true true nb' (Err e) mb m ta tb turn next whole is = absurd whole
  opened_a true true true nb' (Ok j) (Err e) m ta tb turn next whole is = absurd whole
  opened_a true true true nb' (Ok j) (Ok k) m ta tb turn next whole is = ap (λ b. cond b (Found k) (Found m)) (is ∙ second tb turn (ap (λ (n : Target). n.turn) next))

  opened_b : (oa ob nb nb' : Bool) (ma mb : Result M F) (m : M) (ta tb turn : ℕ) → next_by oa ob nb ta tb ≡ record { area = B; turn = turn } → IsWhole (held_by oa ma ob mb nb)
      → nb' ≡ (turn == (ta + 1) % 3) → held_by {F = F} oa ma true (Ok m) nb' ≡ Found m
  opened_b false false nb nb' ma mb m ta tb turn next whole is = absurd (not_a next)
  opened_b false true nb nb' ma mb m ta tb turn next whole is = absurd (not_a next)
  opened_b true false nb nb' (Err e) mb m ta tb turn next whole is = absurd whole
  opened_b true false nb nb' (Ok k) mb m ta tb turn next whole is = ap (λ b. cond b (Found m) (Found k)) (is ∙ eq-eqb turn ((ta + 1) % 3) (sym (ap (λ (n : Target). n.turn) next)))
  opened_b true true true nb' ma mb m ta tb turn next whole is = absurd (not_a next)
  opened_b true true false nb' (Err e) mb m ta tb turn next whole is = absurd whole
  opened_b true true false nb' (Ok k) (Err e) m ta tb turn next whole is = absurd whole
  opened_b true true false nb' (Ok k) (Ok j) m ta tb turn next whole is = ap (λ b. cond b (Found m) (Found k)) (is ∙ eq-eqb turn ((ta + 1) % 3) (sym (ap (λ (n : Target). n.turn) next)))

-- what is next stays so when its area is closed
follows_a : (oa ob nb nb' : Bool) (ta ta' tb turn : ℕ) → next_by oa ob nb ta tb ≡ record { area = A; turn = turn } → next_by false ob nb' ta' tb ≡ record { area = A; turn = turn }
follows_a false false nb nb' ta ta' tb turn next = next
follows_a false true nb nb' ta ta' tb turn next = next
follows_a true false nb nb' ta ta' tb turn next = absurd (not_b next)
follows_a true true false nb' ta ta' tb turn next = absurd (not_b next)
follows_a true true true nb' ta ta' tb turn next = next

follows_b : (oa ob nb nb' : Bool) (ta tb tb' turn : ℕ) → next_by oa ob nb ta tb ≡ record { area = B; turn = turn } → next_by oa false nb' ta tb' ≡ record { area = B; turn = turn }
follows_b false false nb nb' ta tb tb' turn next = absurd (not_a next)
follows_b false true nb nb' ta tb tb' turn next = absurd (not_a next)
follows_b true false nb nb' ta tb tb' turn next = next
follows_b true true true nb' ta tb tb' turn next = absurd (not_a next)
follows_b true true false nb' ta tb tb' turn next = next

-- areas where the next area is closed and the other is the same
pub held_closed : (format : Format) (area : Area) (turn : ℕ) (areas c : Areas) → next_of areas ≡ record { area = area; turn = turn } → IsWhole (held format areas)
    → bytes_of c (other_area area) ≡ bytes_of areas (other_area area) → is_open (bytes_of c area) ≡ false → held format c ≡ held format areas
held_closed f A turn areas c next whole same shut =
    ap (λ o. held_by o (mesh_in f c.a) (is_open c.b) (mesh_in f c.b) (b_is_newer c.a c.b)) shut
    ∙ ap (λ (b : List ℕ). held_by false (mesh_in f c.a) (is_open b) (mesh_in f b) (b_is_newer c.a b)) same
    ∙ closed_a (is_open areas.a) (is_open areas.b) (b_is_newer areas.a areas.b) (b_is_newer c.a areas.b) (mesh_in f areas.a) (mesh_in f c.a) (mesh_in f areas.b) (turn_in areas.a) (turn_in areas.b) turn next whole
held_closed f B turn areas c next whole same shut =
    ap (λ o. held_by (is_open c.a) (mesh_in f c.a) o (mesh_in f c.b) (b_is_newer c.a c.b)) shut
    ∙ ap (λ (a : List ℕ). held_by (is_open a) (mesh_in f a) false (mesh_in f c.b) (b_is_newer a c.b)) same
    ∙ closed_b (is_open areas.a) (is_open areas.b) (b_is_newer areas.a areas.b) (b_is_newer areas.a c.b) (mesh_in f areas.a) (mesh_in f areas.b) (mesh_in f c.b) (turn_in areas.a) (turn_in areas.b) turn next whole

pub next_closed : (area : Area) (turn : ℕ) (areas c : Areas) → next_of areas ≡ record { area = area; turn = turn }
    → bytes_of c (other_area area) ≡ bytes_of areas (other_area area) → is_open (bytes_of c area) ≡ false → next_of c ≡ record { area = area; turn = turn }
next_closed A turn areas c next same shut =
    ap (λ o. next_by o (is_open c.b) (b_is_newer c.a c.b) (turn_in c.a) (turn_in c.b)) shut
    ∙ ap (λ (b : List ℕ). next_by false (is_open b) (b_is_newer c.a b) (turn_in c.a) (turn_in b)) same
    ∙ follows_a (is_open areas.a) (is_open areas.b) (b_is_newer areas.a areas.b) (b_is_newer c.a areas.b) (turn_in areas.a) (turn_in c.a) (turn_in areas.b) turn next
next_closed B turn areas c next same shut =
    ap (λ o. next_by (is_open c.a) o (b_is_newer c.a c.b) (turn_in c.a) (turn_in c.b)) shut
    ∙ ap (λ (a : List ℕ). next_by (is_open a) false (b_is_newer a c.b) (turn_in a) (turn_in c.b)) same
    ∙ follows_b (is_open areas.a) (is_open areas.b) (b_is_newer areas.a areas.b) (b_is_newer areas.a c.b) (turn_in areas.a) (turn_in areas.b) (turn_in c.b) turn next

-- areas where the next area is open with an image of that turn, and the other is the same
pub held_opened : (format : Format) (area : Area) (turn : ℕ) (areas c : Areas) (mesh : format.Mesh) → next_of areas ≡ record { area = area; turn = turn } → IsWhole (held format areas)
    → bytes_of c (other_area area) ≡ bytes_of areas (other_area area) → is_open (bytes_of c area) ≡ true → mesh_in format (bytes_of c area) ≡ Ok mesh → turn_in (bytes_of c area) ≡ turn → held format c ≡ Found mesh
held_opened f A turn areas c mesh next whole same opened is turned =
    ap (λ o. held_by o (mesh_in f c.a) (is_open c.b) (mesh_in f c.b) (b_is_newer c.a c.b)) opened
    ∙ ap (λ m. held_by true m (is_open c.b) (mesh_in f c.b) (b_is_newer c.a c.b)) is
    ∙ ap (λ (b : List ℕ). held_by true (Ok mesh) (is_open b) (mesh_in f b) (b_is_newer c.a b)) same
    ∙ opened_a (is_open areas.a) (is_open areas.b) (b_is_newer areas.a areas.b) (b_is_newer c.a areas.b) (mesh_in f areas.a) (mesh_in f areas.b) mesh (turn_in areas.a) (turn_in areas.b) turn next whole (ap (λ t. turn_in areas.b == (t + 1) % 3) turned)
held_opened f B turn areas c mesh next whole same opened is turned =
    ap (λ o. held_by (is_open c.a) (mesh_in f c.a) o (mesh_in f c.b) (b_is_newer c.a c.b)) opened
    ∙ ap (λ m. held_by (is_open c.a) (mesh_in f c.a) true m (b_is_newer c.a c.b)) is
    ∙ ap (λ (a : List ℕ). held_by (is_open a) (mesh_in f a) true (Ok mesh) (b_is_newer a c.b)) same
    ∙ opened_b (is_open areas.a) (is_open areas.b) (b_is_newer areas.a areas.b) (b_is_newer areas.a c.b) (mesh_in f areas.a) (mesh_in f areas.b) mesh (turn_in areas.a) (turn_in areas.b) turn next whole (ap (λ t. t == (turn_in areas.a + 1) % 3) turned)
