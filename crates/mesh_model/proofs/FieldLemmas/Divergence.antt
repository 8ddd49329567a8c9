-- Curl and uniform make the net flux of each leaf cell 0, and induct leaves it.
use Rattle.std.proofs.Common.{◌≡◌, ℕ, suc, ◌-◌, ◌*◌, ◌^◌, ◌<◌, true, ℤ, pos, ◌+ℤ◌, ◌-ℤ◌, ◌*ℤ◌, refl, sym, ap, ap₂, ◌∙◌, arith}
use Rattle.std.proofs.lemmas.Int.{ints}
use Rattle.amr_num.specs.declared.Axis.{Axis}
use Rattle.amr_num.specs.declared.Axis.TheVariants.{X, Y, Z}
use Rattle.amr_num.specs.declared.CellAt.{CellAt}
use Rattle.amr_num.specs.declared.FaceAt.{FaceAt}
use Rattle.amr_num.specs.declared.EdgeAt.{EdgeAt}
use Rattle.amr_num.specs.Numbers.{sum_below}
use Rattle.mesh_model.specs.Geometry.Coordinates.{sub_face, extent, after, face_of, Inside}
use Rattle.mesh_model.specs.Tree.Kinds.{Grid, is_leaf, is_leaf_face, is_split_face}
use Rattle.mesh_model.specs.Fields.Plain.{on_faces}
use Rattle.mesh_model.specs.Geometry.Canonical.{is_canonical}
use Rattle.mesh_model.specs.Tree.ValidGrid.{Valid}
use Rattle.mesh_model.specs.Fields.Views.{face_view, edge_view}
use Rattle.mesh_model.specs.Fields.Circulation.{circulation, net_flux}
use Rattle.mesh_model.specs.Fields.Balance.{Balanced}
use Rattle.mesh_model.specs.Fields.Advect.{Speeds, speed}
use Rattle.mesh_model.specs.Fields.Induct.{less_circulation, curled, uniform_faces}
use Rattle.mesh_model.proofs.FieldLemmas.CellKinds.{Kinds, kinds_of_tiles, wide_of}
use Rattle.mesh_model.proofs.FieldLemmas.Circling.{circulations_cancel}
use Rattle.mesh_model.proofs.FieldLemmas.Conserving.{net_plus}
use Rattle.mesh_model.proofs.FieldLemmas.LeafEdges.{circulation_adds}
use Rattle.mesh_model.proofs.FieldLemmas.LeafFaces.{seen_low, seen_high, face_adds, face_top, view_is, view_of_leaf_face}
use Rattle.mesh_model.proofs.FieldLemmas.Sums.{sum_below_sub}

pub net_same : (g : Grid) (at u : FaceAt → ℤ) (c : CellAt) → ((a : Axis) → at (face_of a c) ≡ u (face_of a c)) → ((a : Axis) → at (face_of a (after g.shape a c)) ≡ u (face_of a (after g.shape a c))) → net_flux g at c ≡ net_flux g u c
net_same g at u c low high =
    ap₂ (λ a b. a +ℤ b) (ap₂ (λ a b. a +ℤ b)
    (ap₂ (λ a b. a -ℤ b) (high X) (low X)) (ap₂ (λ a b. a -ℤ b) (high Y) (low Y))) (ap₂ (λ a b. a -ℤ b) (high Z) (low Z))

pub on_leaf_face : (g : Grid) (k : FaceAt → ℤ) (f : FaceAt) → is_canonical g.shape f ≡ true → is_leaf_face g f ≡ true → on_faces g k f ≡ k f
on_leaf_face g k f c h = rw (c, h) refl

four_fold : (b : ℤ) (m : ℕ) → b *ℤ pos (4 * m) ≡ sum_below 4 (λ q. b *ℤ pos m)
four_fold b m = omega (arith, ints)

minus_plus : (a b : ℤ) → a ≡ (a -ℤ b) +ℤ b
minus_plus a b = omega (arith, ints)

module _ (g : Grid) (valid : Valid g) where
  kinds : Kinds g
  kinds = kinds_of_tiles g valid.tiles valid.shape

  wide : (a : Axis) (l : ℕ) → 0 < extent g.shape a l
  wide = wide_of g.shape valid.shape

  -- new numbers that are a field divided by faces with a split side have that field's net flux
  pub net_of_new : (k : FaceAt → ℤ) → ((f : FaceAt) → is_split_face g f ≡ true → k f ≡ sum_below 4 (λ q. k (sub_face f q))) → (c : CellAt) → Inside g.shape c → is_leaf g c ≡ true → net_flux g (face_view g (on_faces g k)) c ≡ net_flux g k c
  net_of_new k adds c i t =
      let same = view_is g kinds valid.shape wide (on_faces g k) k (on_leaf_face g k) adds in
      net_same g (face_view g (on_faces g k)) k c (λ a. same (face_of a c) (seen_low g a c i t)) (λ a. same (face_of a (after g.shape a c)) (seen_high g a c i t))

  pub curl_balances : (edges : EdgeAt → ℤ) → Balanced g (curled g edges)
  curl_balances edges = record {
    at_leaf = λ c t. let i = kinds.leaf_range c t in
        net_of_new (circulation g (edge_view g edges)) (λ f s. circulation_adds g kinds valid.shape wide edges f) c i t
        ∙ circulations_cancel g (edge_view g edges) c;
  }

  one_less : (f : FaceAt) → is_split_face g f ≡ true → g.shape.max - f.level ≡ suc (g.shape.max - suc f.level)
  one_less f s = let lt = face_top g kinds f s in omega arith

  level_field : Speeds → FaceAt → ℤ
  level_field b f = speed b f.axis *ℤ pos (4 ^ (g.shape.max - f.level))

  level_adds : (b : Speeds) (f : FaceAt) → is_split_face g f ≡ true → level_field b f ≡ sum_below 4 (λ q. level_field b (sub_face f q))
  unfolding level_field
  level_adds b f s =
      let power : 4 ^ suc (g.shape.max - suc f.level) ≡ 4 * 4 ^ (g.shape.max - suc f.level) = grind arith in
      ap (λ k. speed b f.axis *ℤ pos (4 ^ k)) (one_less f s)
      ∙ ap (λ k. speed b f.axis *ℤ pos k) power ∙ four_fold (speed b f.axis) (4 ^ (g.shape.max - suc f.level))

  level_net : (b : Speeds) (c : CellAt) → net_flux g (level_field b) c ≡ pos 0
  unfolding level_field
  level_net b c = omega (arith, ints)

  pub uniform_balances : (b : Speeds) → Balanced g (uniform_faces g b)
  unfolding level_field
  uniform_balances b = record { at_leaf = λ c t. let i = kinds.leaf_range c t in net_of_new (level_field b) (level_adds b) c i t ∙ level_net b c }

  module _ (faces : FaceAt → ℤ) (edges : EdgeAt → ℤ) where
    -- what is left of the views of a field on faces without the circulations of edge numbers
    pub turned : FaceAt → ℤ
    turned f = face_view g faces f -ℤ circulation g (edge_view g edges) f

    pub turned_adds : (f : FaceAt) → turned f ≡ sum_below 4 (λ q. turned (sub_face f q))
    unfolding turned
    turned_adds f =
        ap₂ (λ a b. a -ℤ b) (face_adds g kinds valid.shape wide faces f) (circulation_adds g kinds valid.shape wide edges f)
        ∙ sym (sum_below_sub 4 (λ q. face_view g faces (sub_face f q)) (λ q. circulation g (edge_view g edges) (sub_face f q)))

    pub turned_leaf : (f : FaceAt) → is_canonical g.shape f ≡ true → is_leaf_face g f ≡ true → less_circulation g faces (edge_view g edges) f ≡ turned f
    unfolding turned
    turned_leaf f c t = on_leaf_face g (λ x. faces x -ℤ circulation g (edge_view g edges) x) f c t ∙ ap (λ a. a -ℤ circulation g (edge_view g edges) f) (sym (view_of_leaf_face g kinds valid.shape wide faces f t))

    turned_net : (c : CellAt) → net_flux g turned c ≡ net_flux g (face_view g faces) c
    unfolding turned
    turned_net c =
        let none = circulations_cancel g (edge_view g edges) c in
        let apart = net_plus g (face_view g faces) turned (circulation g (edge_view g edges)) c (λ a. minus_plus _ _) (λ a. minus_plus _ _) in
        omega (arith, ints, none, apart)

    -- taking the circulation of any edge numbers leaves the net flux of each leaf cell
    pub circulation_keeps_net : (c : CellAt) → Inside g.shape c → is_leaf g c ≡ true → net_flux g (face_view g (less_circulation g faces (edge_view g edges))) c ≡ net_flux g (face_view g faces) c
    circulation_keeps_net c i t =
        let same = view_is g kinds valid.shape wide (less_circulation g faces (edge_view g edges)) turned turned_leaf (λ f s. turned_adds f) in
        net_same g (face_view g (less_circulation g faces (edge_view g edges))) turned c (λ a. same (face_of a c) (seen_low g a c i t)) (λ a. same (face_of a (after g.shape a c)) (seen_high g a c i t))
        ∙ turned_net c
