-- The first of the faces or edges of all leaves that is out of range, in the walk and leaf by leaf.
use Rattle.std.proofs.Common.{◌≡◌, ℕ, zero, suc, ◌<◌, Bool, true, false, List, [], ◌∷◌, ◌++◌, map, length, Option, Some, None, refl, sym, ap, ap₂, ◌∙◌}
use Rattle.std.specs.Prelude.{if◌then◌else◌, find, flat_map}
use Rattle.std.specs.Option.{option_or, option_map}
use Rattle.std.proofs.lemmas.List.Folds.{find-append}
use Rattle.amr_num.specs.declared.Axis.{Axis}
use Rattle.amr_num.specs.declared.Axis.TheVariants.{X, Y, Z}
use Rattle.amr_num.specs.declared.BlockAt.{BlockAt}
use Rattle.mesh_model.specs.Fields.ArrayPlaces.{Extents}
use Rattle.mesh_model.specs.Fields.Firsts.{first_below, first_in_places}
use Rattle.mesh_model.specs.Tree.Order.{nodes}
use Rattle.mesh_model.specs.Tree.Kinds.{Grid, is_leaf_block}
use Rattle.mesh_model.specs.Tree.ValidGrid.{Valid}
use Rattle.mesh_model.specs.Geometry.Places.{box_list}
use Rattle.mesh_model.specs.declared.fields.spot.RangeStop.{RangeStop}
use Rattle.mesh_model.proofs.FieldLemmas.FirstFound.{first_mapped, first_same, found_in_places, places_mapped, places_same}
use Rattle.block_tree.specs.Numbered.{block_at, block_in}
use Rattle.block_tree.proofs.Leaves.{leaves_are}
use Rattle.rank_world.proofs.Walked.{found_filtered, or_nothing}

pub mapped_if : {A B : Type 0} (f : A → B) (t : Bool) (a : A) → option_map f (if t then Some a else None) ≡ (if t then Some (f a) else None)
mapped_if f true a = refl
mapped_if f false a = refl

find_mapped : {A B : Type 0} (p : B → Bool) (h : A → B) (xs : List A) → find p (map h xs) ≡ option_map h (find (λ x. p (h x)) xs)
find_mapped p h [] = refl
find_mapped p h (x ∷ xs) = ap (λ r. if p (h x) then Some (h x) else r) (find_mapped p h xs) ∙ either (p (h x))
  where
    either : (t : Bool) → (if t then Some (h x) else option_map h (find (λ y. p (h y)) xs)) ≡ option_map h (if t then Some x else find (λ y. p (h y)) xs)
    either true = refl
    either false = refl

-- what is found among mapped things of a box
pub found_mapped : {A B : Type 0} (p : B → Bool) (h : A → B) (f : ℕ → ℕ → ℕ → A) (x y z : ℕ) →
    find p (map h (box_list x y z f)) ≡ first_in_places x y z (λ i j k. if p (h (f i j k)) then Some (h (f i j k)) else None)
found_mapped p h f x y z =
    find_mapped p h (box_list x y z f)
    ∙ ap (option_map h) (found_in_places (λ u. p (h u)) f x y z)
    ∙ places_mapped h x y z (λ i j k. if p (h (f i j k)) then Some (f i j k) else None)
    ∙ places_same x y z (λ i j k. option_map h (if p (h (f i j k)) then Some (f i j k) else None)) (λ i j k. if p (h (f i j k)) then Some (h (f i j k)) else None)
    (λ i j k hi hj hk. mapped_if h (p (h (f i j k))) (f i j k))

or_mapped : {A B : Type 0} (h : A → B) (p q : Option A) → option_map h (option_or p q) ≡ option_or (option_map h p) (option_map h q)
or_mapped h None q = refl
or_mapped h (Some x) q = refl

three_mapped : {A B : Type 0} (h : A → B) (p q r : Option A) → option_map h (option_or p (option_or q r)) ≡ option_or (option_map h p) (option_or (option_map h q) (option_map h r))
three_mapped h p q r = or_mapped h p (option_or q r) ∙ ap (option_or (option_map h p)) (or_mapped h q r)

first_none : {A : Type 0} (n : ℕ) (at : ℕ → Option A) → ((k : ℕ) → at k ≡ None) → first_below n at ≡ None
first_none zero at none = refl
first_none (suc n) at none = ap₂ (λ p q. option_or p q) (first_none n at none) (none n)

if_none : {A : Type 0} (t : Bool) (p : Option A) → p ≡ None → (if t then p else None) ≡ None
if_none true p is = is
if_none false p is = refl

-- the places of blocks, by axes, have names; what passes is told, and so is what is found at a name
module _ {T R : Type 0} (passes : T → Bool) (told : T → RangeStop) (range : R → RangeStop) (at : T → Option R) (names : BlockAt → Axis → List T) (many : Axis → Extents) (name : BlockAt → Axis → ℕ → ℕ → ℕ → T) where
  abbrev pub axis_first : BlockAt → Axis → Option R
  axis_first b a = first_in_places (many a).x (many a).y (many a).z (λ i j k. at (name b a i j k))

  abbrev pub block_first : BlockAt → Option RangeStop
  block_first b = option_map range (option_or (axis_first b X) (option_or (axis_first b Y) (axis_first b Z)))

  abbrev pub Listed : Type 0
  Listed = (b : BlockAt) (a : Axis) → find passes (names b a) ≡ first_in_places (many a).x (many a).y (many a).z (λ i j k. if passes (name b a i j k) then Some (name b a i j k) else None)

  abbrev pub Same : BlockAt → Type 0
  Same b = (a : Axis) (i j k : ℕ) → i < (many a).x → j < (many a).y → k < (many a).z → option_map told (if passes (name b a i j k) then Some (name b a i j k) else None) ≡ option_map range (at (name b a i j k))

  axis_same : Listed → (b : BlockAt) → Same b → (a : Axis) → option_map told (find passes (names b a)) ≡ option_map range (axis_first b a)
  axis_same listed b same a =
      let x = (many a).x in
      let y = (many a).y in
      let z = (many a).z in
      ap (option_map told) (listed b a)
      ∙ places_mapped told x y z (λ i j k. if passes (name b a i j k) then Some (name b a i j k) else None)
      ∙ places_same x y z (λ i j k. option_map told (if passes (name b a i j k) then Some (name b a i j k) else None)) (λ i j k. option_map range (at (name b a i j k))) (same a)
      ∙ sym (places_mapped range x y z (λ i j k. at (name b a i j k)))

  block_same : Listed → (b : BlockAt) → Same b → option_map told (find passes (flat_map (names b) (X ∷ Y ∷ Z ∷ []))) ≡ block_first b
  block_same listed b same =
      let found = λ (a : Axis). find passes (names b a) in
      ap (option_map told)
      (find-append passes (names b X) (names b Y ++ (names b Z ++ []))
      ∙ ap (option_or (found X)) (find-append passes (names b Y) (names b Z ++ []) ∙ ap (option_or (found Y)) (find-append passes (names b Z) [] ∙ or_nothing (found Z))))
      ∙ three_mapped told (found X) (found Y) (found Z)
      ∙ ap₂ (λ p q. option_or p q) (axis_same listed b same X) (ap₂ (λ p q. option_or p q) (axis_same listed b same Y) (axis_same listed b same Z))
      ∙ sym (three_mapped range (axis_first b X) (axis_first b Y) (axis_first b Z))

  module _ (g : Grid) where
    abbrev pub node_first : ℕ → Option RangeStop
    node_first node = if is_leaf_block g (block_at g node) then block_first (block_at g node) else None

    -- the first in the walk over the leaves
    pub walked_same : Valid g → Listed → ((b : BlockAt) → is_leaf_block g b ≡ true → Same b) →
        option_map told (find passes (flat_map (λ b. flat_map (names b) (X ∷ Y ∷ Z ∷ [])) g.leaves)) ≡ first_below (length (nodes g.leaves)) node_first
    unfolding block_at
    walked_same valid listed same =
        let f = λ (b : BlockAt). flat_map (names b) (X ∷ Y ∷ Z ∷ []) in
        let found = λ (k : ℕ). if is_leaf_block g (block_in (nodes g.leaves) k) then find passes (f (block_in (nodes g.leaves) k)) else None in
        ap (option_map told) (ap (λ ls. find passes (flat_map f ls)) (sym (leaves_are g valid)) ∙ found_filtered passes f (is_leaf_block g) (nodes g.leaves))
        ∙ first_mapped told (length (nodes g.leaves)) found
        ∙ first_same (length (nodes g.leaves)) (λ k. option_map told (found k)) node_first
        (λ k h. by_kind (is_leaf_block g (block_in (nodes g.leaves) k)) (block_in (nodes g.leaves) k) refl)
      where
        by_kind : (t : Bool) (b : BlockAt) → is_leaf_block g b ≡ t → option_map told (if t then find passes (flat_map (names b) (X ∷ Y ∷ Z ∷ [])) else None) ≡ (if t then block_first b else None)
        by_kind true b is = block_same listed b (same b is)
        by_kind false b is = refl

    -- nothing is found where nothing is out of range
    pub none_first : ((t : T) → at t ≡ None) → (count : ℕ) → first_below count node_first ≡ None
    none_first none count =
        let on = λ (b : BlockAt) (a : Axis). first_none (many a).z _ (λ k. first_none (many a).y _ (λ j. first_none (many a).x _ (λ i. none (name b a i j k)))) in
        let all = λ (b : BlockAt). ap (option_map range) (ap₂ (λ p q. option_or p q) (on b X) (ap₂ (λ p q. option_or p q) (on b Y) (on b Z))) in
        first_none count node_first (λ node. if_none (is_leaf_block g (block_at g node)) (block_first (block_at g node)) (all (block_at g node)))
