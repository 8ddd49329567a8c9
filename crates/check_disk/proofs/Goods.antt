-- Nothing damaged is held where each area is closed, or open with an image.
use Rattle.std.proofs.Common.{◌≡◌, ◌⊎◌, inl, inr, Bool, true, false, Result, Ok, Err, refl}
use Rattle.outside_io.specs.Areas.{Areas}
use Rattle.check_disk.specs.Format.{Format}
use Rattle.mesh_model.specs.Images.Held.{held_by, is_open, b_is_newer, IsWhole}
use Rattle.check_disk.specs.Held.{held, mesh_in, IsGood}

module _ {M F : Type 0} where
  not_ok : (e : F) (m : M) → ◌≡◌ {A = Result M F} (Err e) (Ok m) → ⊥
  not_ok e m is = cc is

  whole_by : (oa ob : Bool) (ma mb : Result M F) (nb : Bool) → (oa ≡ false) ⊎ ((m : M) × (ma ≡ Ok m)) → (ob ≡ false) ⊎ ((m : M) × (mb ≡ Ok m)) → IsWhole (held_by oa ma ob mb nb)
  whole_by false false ma mb nb ga gb = tt
  whole_by false true ma (Ok k) nb ga gb = tt
  whole_by false true ma (Err e) nb ga (inl is) = cc
  whole_by false true ma (Err e) nb ga (inr m) = absurd (not_ok e m.0 m.1)
  whole_by true ob (Err e) mb nb (inl is) gb = cc
  whole_by true ob (Err e) mb nb (inr m) gb = absurd (not_ok e m.0 m.1)
  whole_by true false (Ok m) mb nb ga gb = tt
  whole_by true true (Ok m) (Ok k) true ga gb = tt
  whole_by true true (Ok m) (Ok k) false ga gb = tt
  whole_by true true (Ok m) (Err e) nb ga (inl is) = cc
  whole_by true true (Ok m) (Err e) nb ga (inr k) = absurd (not_ok e k.0 k.1)

  good_by : (oa ob : Bool) (ma mb : Result M F) (nb : Bool) → IsWhole (held_by oa ma ob mb nb) → ((oa ≡ false) ⊎ ((m : M) × (ma ≡ Ok m))) × ((ob ≡ false) ⊎ ((m : M) × (mb ≡ Ok m)))
  good_by false false ma mb nb whole = (inl refl, inl refl)
  good_by false true ma (Err e) nb whole = absurd whole
  good_by false true ma (Ok k) nb whole = (inl refl, inr (k, refl))
  good_by true ob (Err e) mb nb whole = absurd whole
  good_by true false (Ok m) mb nb whole = (inr (m, refl), inl refl)
  good_by true true (Ok m) (Err e) nb whole = absurd whole
  good_by true true (Ok m) (Ok k) nb whole = (inr (m, refl), inr (k, refl))

pub good_whole : (format : Format) (areas : Areas) → IsGood format areas.a → IsGood format areas.b → IsWhole (held format areas)
good_whole format areas ga gb = whole_by (is_open areas.a) (is_open areas.b) (mesh_in format areas.a) (mesh_in format areas.b) (b_is_newer areas.a areas.b) ga gb

pub whole_good : (format : Format) (areas : Areas) → IsWhole (held format areas) → IsGood format areas.a × IsGood format areas.b
whole_good format areas whole = good_by (is_open areas.a) (is_open areas.b) (mesh_in format areas.a) (mesh_in format areas.b) (b_is_newer areas.a areas.b) whole
