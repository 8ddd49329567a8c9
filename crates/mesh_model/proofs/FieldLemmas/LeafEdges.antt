-- Edge views add up, so circulations do.
use Rattle.std.proofs.Common.{◌≡◌, ℕ, ◌<◌, Bool, true, false, ◌||◌, ℤ, refl, arith, subst, Option, Some, None}
use Rattle.amr_num.specs.declared.Axis.{Axis}
use Rattle.amr_num.specs.declared.CellAt.{CellAt}
use Rattle.amr_num.specs.declared.FaceAt.{FaceAt}
use Rattle.amr_num.specs.declared.EdgeAt.{EdgeAt}
use Rattle.amr_num.specs.Numbers.{sum_below}
use Rattle.mesh_model.specs.Geometry.Coordinates.{sub_face, extent, with, moved_twice, below, above, is_periodic, next, on, edge_numbers}
use Rattle.mesh_model.specs.Tree.Kinds.{Grid, is_split, holds, is_split_edge}
use Rattle.mesh_model.specs.Geometry.Limits.{IsShape}
use Rattle.mesh_model.specs.Fields.Views.{edge_view}
use Rattle.mesh_model.specs.Fields.Circulation.{circulation}
use Rattle.mesh_model.proofs.GeometryLemmas.OnAxes.{with_level}
use Rattle.mesh_model.proofs.FieldLemmas.CellKinds.{Kinds}
use Rattle.mesh_model.proofs.FieldLemmas.Circling.{Halves, circulation_sum}
use Rattle.mesh_model.proofs.FieldLemmas.EdgeSums.{edge_view_sum}
use Rattle.mesh_model.proofs.FieldLemmas.LeafFaces.{deep_beside}

four_lead : (P : Type 0) (a b c d : Bool) → (a ≡ true → P) → (b ≡ true → P) → (c ≡ true → P) → (d ≡ true → P) → (a || (b || (c || (d || false)))) ≡ true → P
four_lead P true b c d p q r t h = p refl
four_lead P false true c d p q r t h = q refl
four_lead P false false true d p q r t h = r refl
four_lead P false false false true p q r t h = t refl
four_lead P false false false false p q r t h = cc

module _ (g : Grid) (kinds : Kinds g) where
  deep_round : (b d : Axis) (o p : Option ℕ) (c : CellAt) → holds (is_split g) (moved_twice b o d p c) ≡ true → c.level < g.shape.max
  deep_round b d None p c h = cc
  deep_round b d (Some q) p c h = subst (λ l. l < g.shape.max) (with_level b q c) (deep_beside g kinds d p (with b q c) h)

  pub edge_top : (e : EdgeAt) → is_split_edge g e ≡ true → e.level < g.shape.max
  unfolding is_split_edge
  edge_top e h =
      let c : CellAt = edge_numbers e in
      let b = next e.axis in
      let d = next b in
      let b_low = below (is_periodic g.shape b) (extent g.shape b e.level) (on b c) in
      let b_high = above (is_periodic g.shape b) (extent g.shape b e.level) (on b c) in
      let d_low = below (is_periodic g.shape d) (extent g.shape d e.level) (on d c) in
      let d_high = above (is_periodic g.shape d) (extent g.shape d e.level) (on d c) in
      four_lead (e.level < g.shape.max)
      (holds (is_split g) (moved_twice b b_low d d_low c)) (holds (is_split g) (moved_twice b b_high d d_low c)) (holds (is_split g) (moved_twice b b_low d d_high c)) (holds (is_split g) (moved_twice b b_high d d_high c))
      (deep_round b d b_low d_low c) (deep_round b d b_high d_low c) (deep_round b d b_low d_high c) (deep_round b d b_high d_high c) h

  module _ (sh : IsShape g.shape) (wide : (a : Axis) (l : ℕ) → 0 < extent g.shape a l) (v : EdgeAt → ℤ) where
    halves : Halves (edge_view g v)
    halves e = edge_view_sum g kinds.tree wide v e (λ s. let lt = edge_top e s in let m = sh.max in omega arith)

    pub circulation_adds : (f : FaceAt) → circulation g (edge_view g v) f ≡ sum_below 4 (λ q. circulation g (edge_view g v) (sub_face f q))
    circulation_adds f = circulation_sum g (edge_view g v) halves f
