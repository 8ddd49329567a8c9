-- Worlds in which a side of a leaf has taken its sums.
use Rattle.std.proofs.Common.{◌≡◌, ℕ, ◌+◌, ◌^◌, ◌<◌, ◌⊎◌, Bool, not, List, Some, None, ℤ, true, false, refl, sym, ap, subst, ◌∙◌, arith, inl, inr}
use Rattle.std.proofs.lemmas.Bool.{cases_order}
use Rattle.amr_num.specs.Numbers.{Within}
use Rattle.amr_num.specs.declared.Axis.{Axis}
use Rattle.amr_num.specs.declared.BlockAt.{BlockAt}
use Rattle.amr_num.specs.declared.FaceAt.{FaceAt}
use Rattle.mesh_model.specs.Geometry.Canonical.{canonical_on}
use Rattle.mesh_model.specs.Geometry.Coordinates.{face_of}
use Rattle.mesh_model.specs.Geometry.Places.{in_block}
use Rattle.mesh_model.specs.Tree.Kinds.{Grid, is_leaf_block, is_leaf_face}
use Rattle.mesh_model.specs.Tree.ValidGrid.{Valid}
use Rattle.mesh_model.specs.Fields.ArrayPlaces.{face_extents, number_at}
use Rattle.mesh_model.specs.Fields.Ranks.{IsFit, RankState, Told, WorldState}
use Rattle.mesh_model.proofs.GeometryLemmas.ShapeLimits.{cells_some}
use Rattle.block_tree.specs.Numbered.{IsNumberOf, block_at}
use Rattle.rank_world.specs.Holding.{IsLeafNode, LeafFacesHold, face_var}
use Rattle.rank_world.proofs.Puts.{which_array}
use Rattle.flux_conserve.specs.Jumps.{BlockFaces, IsCalm, IsFacePlace, child_beside, corrected, face_name, finer_beside, four_finer, is_at_jump, jumped, side_position}
use Rattle.flux_conserve.specs.FaceArrays.{AreSummed, CalmHas, FacesHave, FacesHold, FacesWithin, IsFinerNode, IsJumpNode, IsTame, IsUsed, NearHas, NearWithin, SideHas, SideTaken, face_at, stored, stored_at}
use Rattle.flux_conserve.proofs.Fields.{at_spot, by_spot, calm_leaf_face, corrected_calm, corrected_jump, face_kind, field_corrected, named, near_calm, near_jump, near_leaf, same_side, side_within}

-- ---- leaves that use their faces

pub used_leaf : (work : Bool) (g : Grid) (node : ℕ) → IsUsed work g node → IsLeafNode g node
used_leaf true g node is = is.own
used_leaf false g node is = is

jump_used : (work : Bool) (g : Grid) (node : ℕ) → IsJumpNode g node → IsUsed work g node
jump_used true g node is = is
jump_used false g node is = is.own

-- ---- numbers by three places, and by one along an axis and two across it

pub holds_has : (work : Bool) (w : WorldState) (field : FaceAt → ℤ) → FacesHold work w field → FacesHave work w (named w.told.grid.shape field)
unfolding face_at face_name
holds_has work w field holds = record {
  at = λ node a p s t leaf place.
      let g = w.told.grid in
      let xs = stored work w a node in
      at_spot (λ i j k. number_at (face_extents g.shape.n g.shape.g a) xs (g.shape.g + i) (g.shape.g + j) (g.shape.g + k) ≡ field (face_of a (canonical_on g.shape a (in_block g.shape.n (block_at g node) i j k))))
      a g.shape.n (holds node a leaf).at p s t place;
}

pub has_holds : (work : Bool) (w : WorldState) (field : FaceAt → ℤ) → FacesHave work w (named w.told.grid.shape field) → FacesHold work w field
unfolding face_at face_name
has_holds work w field has node a leaf = record {
  at =
      let g = w.told.grid in
      let xs = stored work w a node in
      by_spot (λ i j k. number_at (face_extents g.shape.n g.shape.g a) xs (g.shape.g + i) (g.shape.g + j) (g.shape.g + k) ≡ field (face_of a (canonical_on g.shape a (in_block g.shape.n (block_at g node) i j k))))
      a g.shape.n (λ p s t place. has.at node a p s t leaf place);
}

pub small_tame : (work : Bool) (w : WorldState) → FacesWithin work w (2 ^ 56) → IsTame work w
unfolding face_at
small_tame work w small =
    let g = w.told.grid in
    let each : (node : ℕ) (a : Axis) (p s t : ℕ) → IsUsed work g node → IsFacePlace g.shape.n p s t → Within (2 ^ 56) (stored_at work w a node p s t) =
    λ node a p s t leaf place.
    at_spot (λ i j k. Within (2 ^ 56) (number_at (face_extents g.shape.n g.shape.g a) (stored work w a node) (g.shape.g + i) (g.shape.g + j) (g.shape.g + k))) a g.shape.n (small node a leaf).at p s t place in
    record {
      calm = λ node a p s t leaf place calm. each node a p s t leaf place;
      all = λ node a p s t leaf place. let one = each node a p s t leaf place in omega arith;
    }

pub tame_small : (work : Bool) (w : WorldState) → IsTame work w → FacesWithin work w (2 ^ 58)
unfolding face_at
tame_small work w tame node a leaf = record {
  at =
      let g = w.told.grid in
      by_spot (λ i j k. Within (2 ^ 58) (number_at (face_extents g.shape.n g.shape.g a) (stored work w a node) (g.shape.g + i) (g.shape.g + j) (g.shape.g + k))) a g.shape.n
      (λ p s t place. tame.all node a p s t leaf place);
}

-- ---- corrected worlds

pub calm_of : (work : Bool) (w : WorldState) (faces : BlockFaces) → FacesHave work w faces → CalmHas work w faces
calm_of work w faces has = record { at = λ node a p s t leaf place calm. has.at node a p s t leaf place }

pub all_corrected : (work : Bool) (w : WorldState) (faces : BlockFaces) → Valid w.told.grid → CalmHas work w faces →
    ((node : ℕ) (a : Axis) (high : Bool) → IsLeafNode w.told.grid node → SideHas work w faces node a high) → FacesHave work w (corrected w.told.grid faces)
all_corrected work w faces valid calm sides = record {
  at = λ node a p s t leaf place.
      let g = w.told.grid in
      let b = block_at g node in
      let some = cells_some valid.shape in
      elim (face_kind g a b some p) [
        | inl still ↦ calm.at node a p s t leaf place still ∙ sym (corrected_calm g a b some faces s t p still)
        | inr jump ↦
            ap (λ q. stored_at work w a node q s t) jump.place ∙ (sides node a jump.high (used_leaf work g node leaf)).at jump.finer s t jump.there place.first place.second
            ∙ sym (corrected_jump g a b some faces s t p jump)
      ];
}

pub field_holds : (work : Bool) (w : WorldState) (field : FaceAt → ℤ) → Valid w.told.grid → FacesHave work w (corrected w.told.grid (named w.told.grid.shape field)) → FacesHold work w (jumped w.told.grid field)
field_holds work w field valid has =
    let g = w.told.grid in
    has_holds work w (jumped g field) (record {
      at = λ node a p s t leaf place. has.at node a p s t leaf place ∙ field_corrected g valid a (block_at g node) (used_leaf work g node leaf).leaf p s t place field;
    })

-- ---- finer leaves at a side

module _ (work : Bool) (w : WorldState) (valid : Valid w.told.grid) (node : ℕ) (a : Axis) (high : Bool) (beside : ℕ) (leaf : IsLeafNode w.told.grid node)
    (finer : IsFinerNode w.told.grid a high (block_at w.told.grid node) beside) where
  abbrev g : Grid
  g = w.told.grid

  near_node : (q child : ℕ) → IsNumberOf g (child_beside a high q (block_at g beside)) child → IsUsed work g child
  near_node q child is = jump_used work g child (record {
    own = record {
      there = is.there;
      leaf = ap (is_leaf_block g) is.block ∙ near_leaf g valid a high (block_at g node) (block_at g beside) leaf.leaf finer.finer q;
    };
    jump = ap (is_at_jump g) is.block ∙ near_jump g valid a high (block_at g node) (block_at g beside) leaf.leaf finer.finer q;
  })

  near_still : (q child : ℕ) → IsNumberOf g (child_beside a high q (block_at g beside)) child → IsCalm g a (block_at g child) (side_position g.shape.n (not high))
  near_still q child is =
      subst (λ c. IsCalm g a c (side_position g.shape.n (not high))) (sym is.block) (near_calm g valid a high (block_at g node) (block_at g beside) leaf.leaf finer.finer q)

  place_there : (u : Bool) (s t : ℕ) → s < g.shape.n → t < g.shape.n → IsFacePlace g.shape.n (side_position g.shape.n u) s t
  place_there u s t hs ht = record { along = side_within g.shape.n u; first = hs; second = ht }

  pub near_within : IsTame work w → NearWithin work w a high beside
  near_within tame = record {
    at = λ q s t child hq is hs ht. tame.calm child a (side_position g.shape.n (not high)) s t (near_node q child is) (place_there (not high) s t hs ht) (near_still q child is);
  }

  near_has : (faces : BlockFaces) → CalmHas work w faces → NearHas work w faces a high beside
  near_has faces calm = record {
    at = λ q s t child hq is hs ht.
        let p = side_position g.shape.n (not high) in
        calm.at child a p s t (near_node q child is) (place_there (not high) s t hs ht) (near_still q child is) ∙ ap (λ c. faces a c p s t) is.block;
  }

-- ---- one side of a leaf has taken its sums

-- the work faces of a node on an axis are certain ones, or others
same_axis : (work : Bool) (d a : Axis) → face_var work d ≡ face_var work a → d ≡ a
same_axis true d a is = cc
same_axis false d a is = cc

which_faces : (work : Bool) (node k : ℕ) (a d : Axis) → ((k ≡ node) × (d ≡ a)) ⊎ (face_var work d ≡ face_var work a → k ≡ node → ⊥)
which_faces work node k a d = elim (which_array node k (face_var work a) (face_var work d)) [
  | inl (is_node, is_var) ↦ inl (is_node, same_axis work d a is_var)
  | inr other ↦ inr other
]

which_side : (high h : Bool) (n : ℕ) → 0 < n → (h ≡ high) ⊎ (side_position n h ≡ side_position n high → ⊥)
which_side high h n some = elim (cases_order (side_position n h) (side_position n high)) [
  | inl same ↦ inl (same_side n h high some same)
  | inr apart ↦ inr (λ is. absurd (elim apart [ inl less ↦ omega arith | inr more ↦ omega arith ]))
]

module _ (work : Bool) (n e : ℕ) (told : Told) (ranks again : List RankState) (valid : Valid told.grid) (node : ℕ) (a : Axis) (high : Bool) (beside : ℕ) (leaf : IsLeafNode told.grid node)
    (finer : IsFinerNode told.grid a high (block_at told.grid node) beside)
    (taken : SideTaken work n e (record { told = told; ranks = ranks }) (record { told = told; ranks = again }) node a high beside) (tame : IsTame work (record { told = told; ranks = ranks })) where
  abbrev old : WorldState
  old = record { told = told; ranks = ranks }

  abbrev new : WorldState
  new = record { told = told; ranks = again }

  abbrev m : ℕ
  m = told.grid.shape.n

  some : 0 < m
  some = cells_some valid.shape

  -- a number at another place stays
  stays : (k : ℕ) (d : Axis) (p s t : ℕ) → IsFacePlace m p s t → (k ≡ node → d ≡ a → p ≡ side_position m high → ⊥) → stored_at work new d k p s t ≡ stored_at work old d k p s t
  stays k d p s t place apart = elim (which_faces work node k a d) [
    | inr other ↦ ap (λ xs. face_at m told.grid.shape.g d xs p s t) (taken.only.here.others (face_var work d) k other)
    | inl (is_node, is_axis) ↦
        subst (λ u. stored_at work new d u p s t ≡ stored_at work old d u p s t) (sym is_node)
        (subst (λ u. stored_at work new u node p s t ≡ stored_at work old u node p s t) (sym is_axis) (taken.others p s t place (λ is. apart is_node is_axis is)))
  ]

  -- a number is one that was taken, or it stays
  which : (k : ℕ) (d : Axis) (p s t : ℕ) → IsFacePlace m p s t → ((k ≡ node) × (d ≡ a) × (p ≡ side_position m high)) ⊎ (stored_at work new d k p s t ≡ stored_at work old d k p s t)
  which k d p s t place = elim (cases_order p (side_position m high)) [
    | inr apart ↦ inr (stays k d p s t place (λ i j is. absurd (elim apart [ inl h ↦ omega arith | inr h ↦ omega arith ])))
    | inl is_side ↦ elim (which_faces work node k a d) [
      | inl (is_node, is_axis) ↦ inl (is_node, is_axis, is_side)
      | inr other ↦ inr (stays k d p s t place (λ i j is. other (ap (face_var work) j) i))
    ]
  ]

  no_calm : (k : ℕ) (d : Axis) (p : ℕ) → k ≡ node → d ≡ a → p ≡ side_position m high → IsCalm told.grid d (block_at told.grid k) p → ⊥
  no_calm k d p is_node is_axis is_side calm =
      let none : finer_beside told.grid a high (block_at told.grid node) ≡ None =
      subst (λ u. finer_beside told.grid u high (block_at told.grid node) ≡ None) is_axis (subst (λ u. finer_beside told.grid d high (block_at told.grid u) ≡ None) is_node (calm high is_side)) in
      let there = finer.finer in
      cc

  calm_stays : (k : ℕ) (d : Axis) (p s t : ℕ) → IsFacePlace m p s t → IsCalm told.grid d (block_at told.grid k) p → stored_at work new d k p s t ≡ stored_at work old d k p s t
  calm_stays k d p s t place calm = stays k d p s t place (λ i j is. no_calm k d p i j is calm)

  tame_after : IsTame work new
  tame_after = record {
    calm = λ k d p s t is place calm. subst (Within (2 ^ 56)) (sym (calm_stays k d p s t place calm)) (tame.calm k d p s t is place calm);
    all = λ k d p s t is place. elim (which k d p s t place) [
      | inr same ↦ subst (Within (2 ^ 58)) (sym same) (tame.all k d p s t is place)
      | inl (is_node, is_axis, is_side) ↦
          subst (λ u. Within (2 ^ 58) (stored_at work new d u p s t)) (sym is_node)
          (subst (λ u. Within (2 ^ 58) (stored_at work new u node p s t)) (sym is_axis)
          (subst (λ u. Within (2 ^ 58) (stored_at work new a node u s t)) (sym is_side) (taken.within s t place.first place.second)))
    ];
  }

  calm_after : (faces : BlockFaces) → CalmHas work old faces → CalmHas work new faces
  calm_after faces calm = record { at = λ k d p s t is place still. calm_stays k d p s t place still ∙ calm.at k d p s t is place still }

  side_after : (faces : BlockFaces) → CalmHas work old faces → SideHas work new faces node a high
  side_after faces calm = record {
    at = λ d s t there hs ht.
        let is : Some (block_at told.grid beside) ≡ Some d = sym finer.finer ∙ there in
        let same : block_at told.grid beside ≡ d = cc in
        taken.sums faces (near_has work old valid node a high beside leaf finer faces calm) s t hs ht ∙ ap (λ c. four_finer m faces a high c s t) same;
  }

  other_side : (faces : BlockFaces) (k : ℕ) (d : Axis) (h : Bool) → (k ≡ node → d ≡ a → side_position m h ≡ side_position m high → ⊥) → SideHas work old faces k d h → SideHas work new faces k d h
  other_side faces k d h apart has = record {
    at = λ c s t there hs ht. stays k d (side_position m h) s t (record { along = side_within m h; first = hs; second = ht }) apart ∙ has.at c s t there hs ht;
  }

  side_keeps : (faces : BlockFaces) (k : ℕ) (d : Axis) (h : Bool) → CalmHas work old faces → SideHas work old faces k d h → SideHas work new faces k d h
  side_keeps faces k d h calm has = elim (which_faces work node k a d) [
    | inr other ↦ other_side faces k d h (λ i j is. other (ap (face_var work) j) i) has
    | inl (is_node, is_axis) ↦ elim (which_side high h m some) [
      | inr apart ↦ other_side faces k d h (λ i j is. apart is) has
      | inl same ↦
          subst (λ u. SideHas work new faces u d h) (sym is_node) (subst (λ u. SideHas work new faces node u h) (sym is_axis) (subst (λ u. SideHas work new faces node a u) (sym same) (side_after faces calm)))
    ]
  ]

  summed_after : AreSummed work n e old new
  summed_after = record {
    only = record {
      told = refl;
      others = λ u k apart. taken.only.here.others u k (λ is at. apart a is (subst (IsLeafNode told.grid) (sym at) leaf));
    };
    fit = taken.fit;
    tame = tame_after;
    calm = calm_after;
    keeps = λ faces k d h is calm has. side_keeps faces k d h calm has;
  }

-- the same of a world whose grid is only known to stay
module _ (work : Bool) (n e : ℕ) (old new : WorldState) (valid : Valid old.told.grid) (node : ℕ) (a : Axis) (high : Bool) (beside : ℕ) (leaf : IsLeafNode old.told.grid node)
    (finer : IsFinerNode old.told.grid a high (block_at old.told.grid node) beside) (taken : SideTaken work n e old new node a high beside) (tame : IsTame work old) where
  told_again : record { told = old.told; ranks = new.ranks } ≡ new
  told_again = λ i. record { told = sym taken.only.told i; ranks = new.ranks }

  pub summed : AreSummed work n e old new
  summed =
      subst (AreSummed work n e old) told_again
      (summed_after work n e old.told old.ranks new.ranks valid node a high beside leaf finer (subst (λ w. SideTaken work n e old w node a high beside) (sym told_again) taken) tame)

  pub side_summed : (faces : BlockFaces) → CalmHas work old faces → SideHas work new faces node a high
  side_summed faces calm =
      subst (λ w. SideHas work w faces node a high) told_again
      (side_after work n e old.told old.ranks new.ranks valid node a high beside leaf finer (subst (λ w. SideTaken work n e old w node a high beside) (sym told_again) taken) tame faces calm)

-- ---- steps one after the other

pub none_summed : (work : Bool) (n e : ℕ) (w : WorldState) → IsFit n e w → IsTame work w → AreSummed work n e w w
none_summed work n e w fit tame = record {
  only = record { told = refl; others = λ u k apart. refl };
  fit = fit;
  tame = tame;
  calm = λ faces calm. calm;
  keeps = λ faces k d h is calm has. has;
}

pub then_summed : (work : Bool) (n e : ℕ) (u v w : WorldState) → AreSummed work n e u v → AreSummed work n e v w → AreSummed work n e u w
then_summed work n e u v w uv vw =
    let back : (k : ℕ) → IsLeafNode v.told.grid k → IsLeafNode u.told.grid k = λ k is. subst (λ (m : Told). IsLeafNode m.grid k) uv.only.told is in
    let forth : (k : ℕ) → IsLeafNode u.told.grid k → IsLeafNode v.told.grid k = λ k is. subst (λ (m : Told). IsLeafNode m.grid k) (sym uv.only.told) is in
    record {
      only = record {
        told = vw.only.told ∙ uv.only.told;
        others = λ x k apart. vw.only.others x k (λ a is leaf. apart a is (back k leaf)) ∙ uv.only.others x k apart;
      };
      fit = vw.fit;
      tame = vw.tame;
      calm = λ faces calm. vw.calm faces (uv.calm faces calm);
      keeps = λ faces k d h is calm has. vw.keeps faces k d h (forth k is) (uv.calm faces calm) (uv.keeps faces k d h is calm has);
    }

-- ---- all sides have taken their sums

module _ (work : Bool) (n e : ℕ) (old new : WorldState) (valid : Valid old.told.grid) (steps : AreSummed work n e old new)
    (sides : (faces : BlockFaces) (node : ℕ) (a : Axis) (high : Bool) → IsLeafNode old.told.grid node → CalmHas work old faces → SideHas work new faces node a high) where
  same_told : record { told = old.told; ranks = new.ranks } ≡ new
  same_told = λ i. record { told = sym steps.only.told i; ranks = new.ranks }

  numbers_there : (faces : BlockFaces) → CalmHas work old faces → FacesHave work (record { told = old.told; ranks = new.ranks }) (corrected old.told.grid faces)
  numbers_there faces calm =
      all_corrected work (record { told = old.told; ranks = new.ranks }) faces valid (subst (λ w. CalmHas work w faces) (sym same_told) (steps.calm faces calm))
      (λ node a high leaf. subst (λ w. SideHas work w faces node a high) (sym same_told) (sides faces node a high leaf calm))

  pub numbers_after : (faces : BlockFaces) → CalmHas work old faces → FacesHave work new (corrected old.told.grid faces)
  numbers_after faces calm = subst (λ w. FacesHave work w (corrected old.told.grid faces)) same_told (numbers_there faces calm)

-- corrected numbers of a field are the jumped field, over a grid that is the same
pub field_after : (work : Bool) (old new : WorldState) → Valid old.told.grid → new.told ≡ old.told → (field : FaceAt → ℤ) →
    FacesHave work new (corrected old.told.grid (named old.told.grid.shape field)) → FacesHold work new (jumped old.told.grid field)
field_after work old new valid same field have =
    let back : record { told = old.told; ranks = new.ranks } ≡ new = λ i. record { told = sym same i; ranks = new.ranks } in
    subst (λ w. FacesHold work w (jumped old.told.grid field)) back
    (field_holds work (record { told = old.told; ranks = new.ranks }) field valid (subst (λ w. FacesHave work w (corrected old.told.grid (named old.told.grid.shape field))) (sym back) have))

-- ---- leaf faces alone

-- faces of leaves at which no finer leaves stand are leaf faces
pub leaf_calm : (w : WorldState) (field : FaceAt → ℤ) → Valid w.told.grid → LeafFacesHold w field → CalmHas false w (named w.told.grid.shape field)
unfolding face_at face_name
leaf_calm w field valid holds = record {
  at = λ node a p s t leaf place calm.
      let g = w.told.grid in
      let xs = stored false w a node in
      at_spot (λ i j k. let f = face_of a (canonical_on g.shape a (in_block g.shape.n (block_at g node) i j k)) in
      is_leaf_face g f ≡ true → number_at (face_extents g.shape.n g.shape.g a) xs (g.shape.g + i) (g.shape.g + j) (g.shape.g + k) ≡ field f)
      a g.shape.n (holds node a leaf).at p s t place (calm_leaf_face g valid a (block_at g node) leaf.leaf p s t place calm);
}

-- a split node beside a node's block, in the words of a grid that is the same
pub finer_told : (h g : Grid) (a : Axis) (high : Bool) (node beside : ℕ) (b : BlockAt) → h ≡ g → b ≡ block_at h node → IsFinerNode h a high b beside → IsFinerNode g a high (block_at g node) beside
finer_told h g a high node beside b same is finer = subst (λ u. IsFinerNode u a high (block_at u node) beside) same (subst (λ c. IsFinerNode h a high c beside) is finer)
