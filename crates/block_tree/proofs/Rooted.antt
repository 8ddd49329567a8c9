-- The roots of the domain.
use Rattle.std.proofs.Common.{◌≡◌, ℕ, ◌<◌, ap, arith, [], ◌∷◌, if◌then◌else◌, lt-ltb, ltb-true}
use Rattle.std.specs.Prelude.{nat_lt, ◌&&◌}
use Rattle.mesh_model.specs.declared.geometry.Shape.{Shape}
use Rattle.mesh_model.specs.Tree.Start.{root_at, is_root, root_there}
use Rattle.mesh_model.specs.Geometry.Blocks.{InDomain}
use Rattle.mesh_model.proofs.TreeLemmas.Tests.{refuted, all_three, and_both}

module _ (s : Shape) (m : ℕ) where
  pub root_stands : InDomain s (root_at m) → root_there s (root_at m) ≡ root_at m ∷ []
  root_stands d =
      let x : (root_at m).x < s.rx = let h = d.x in omega arith in
      let y : (root_at m).y < s.ry = let h = d.y in omega arith in
      let z : (root_at m).z < s.rz = let h = d.z in omega arith in
      ap (λ u. if u then root_at m ∷ [] else []) (and_both (nat_lt (root_at m).x s.rx && nat_lt (root_at m).y s.ry) (nat_lt (root_at m).z s.rz) (and_both (nat_lt (root_at m).x s.rx) (nat_lt (root_at m).y s.ry) (lt-ltb _ _ x) (lt-ltb _ _ y)) (lt-ltb _ _ z))

  pub root_lacks : (InDomain s (root_at m) → ⊥) → root_there s (root_at m) ≡ []
  root_lacks out = ap (λ u. if u then root_at m ∷ [] else []) (refuted (is_root s (root_at m)) (λ t.
      let three = all_three (nat_lt (root_at m).x s.rx) (nat_lt (root_at m).y s.ry) (nat_lt (root_at m).z s.rz) t in
      let x = ltb-true _ _ three.0 in
      let y = ltb-true _ _ three.1 in
      let z = ltb-true _ _ three.2 in
      out (record { level = omega arith; x = omega arith; y = omega arith; z = omega arith })))
