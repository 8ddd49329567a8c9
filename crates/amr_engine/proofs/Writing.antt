-- The image that is written of an engine's mesh, piece by piece.
use Rattle.std.proofs.Common.{◌≡◌, ◌⊎◌, inl, inr, ℕ, zero, suc, ◌+◌, ◌-◌, ◌<◌, ◌≤◌, ◌++◌, true, List, [], ◌∷◌, length, length-append, get_or, take, drop, map, Option, Some, None, ℤ, pos, is_some, IsSome, refl, sym, ap, subst, ◌∙◌, arith}
use Rattle.std.specs.Prelude.{◌↔◌, IfSome}
use Rattle.std.specs.Option.{ForSome}
use Rattle.std.specs.List.{range_with_len}
use Rattle.std.proofs.Math.Seq.{take-append_seam, drop-length}
use Rattle.std.proofs.lemmas.List.{drop-drop, ext_get_or, length-drop, length-take-le}
use Rattle.std.proofs.lemmas.List.FromFn.{get_or-map-range_with_len, length-map-range_with_len}
use Rattle.amr_num.specs.declared.BlockAt.{BlockAt}
use Rattle.block_tree.specs.GridOf.{grid_of}
use Rattle.block_tree.specs.Marked.{derefine_of, refine_of}
use Rattle.block_tree.specs.declared.marks.Marks.{Marks}
use Rattle.block_tree.specs.declared.tree.Tree.{Tree}
use Rattle.block_tree.specs.Numbered.{block_at}
use Rattle.check_format.specs.Own.{IsOwn}
use Rattle.check_format.specs.Writing.{HasNumbers, IsOfGrid, IsWriter, StandsFor, handed, left}
use Rattle.check_format.specs.declared.writer.ImageWriter.{ImageWriter}
use Rattle.mesh_model.specs.declared.fields.values.Group.TheVariants.{Cell, Edge, Face}
use Rattle.mesh_model.specs.Fields.Plain.{Mesh}
use Rattle.mesh_model.specs.Fields.Ranks.{IsFit, WorldState}
use Rattle.mesh_model.specs.Fields.Valid.{ValidMesh}
use Rattle.mesh_model.specs.Fields.VariableNames.{VariableNames}
use Rattle.mesh_model.specs.Images.Image.{body, image}
use Rattle.amr_engine.specs.EngineMesh.{IsLaidOut, mesh_of}
use Rattle.amr_engine.specs.Saving.{HasGiven, Resumes, given_of, turn_of}
use Rattle.amr_engine.proofs.Made.{grid_is, group_counted, of_now}
use Rattle.amr_engine.proofs.Printed.{interior_there, is_there, number_there, views_there}

-- ---- what is handed to the writer

module _ (n g : ℕ) (names : VariableNames) (w : WorldState) (outs : List ℤ) (marks : Marks) (fit : IsFit n g w) (laid : IsLaidOut names w outs marks) (valid : ValidMesh (mesh_of names w outs marks)) where
  flowed_of : outs ≡ map (mesh_of names w outs marks).outs (range_with_len 0 (length names.cells))
  unfolding mesh_of
  flowed_of =
      let out : ℕ → ℤ = λ v. get_or outs v (pos 0) in
      ext_get_or (pos 0) outs (map out (range_with_len 0 (length names.cells))) (laid.flowed ∙ sym (length-map-range_with_len out 0 (length names.cells)))
      (λ i below. sym (get_or-map-range_with_len out 0 (length names.cells) i i (pos 0) (omega (arith, below, laid.flowed)) (omega arith)))

  named_same : names ≡ (mesh_of names w outs marks).names
  unfolding mesh_of
  named_same = refl

  refined : (b : BlockAt) → refine_of w.told.grid marks b ≡ (mesh_of names w outs marks).refine b
  unfolding mesh_of
  refined b = refl

  derefined : (b : BlockAt) → derefine_of w.told.grid marks b ≡ (mesh_of names w outs marks).derefine b
  unfolding mesh_of
  derefined b = refl

  -- it stands for the mesh
  pub stands : (turn : ℕ) (tree : Tree) → grid_of tree ≡ w.told.grid → StandsFor (mesh_of names w outs marks) (handed turn tree marks names outs (number_there n g w fit))
  stands turn tree is =
      let m = mesh_of names w outs marks in
      let of = of_now names w outs marks laid valid in
      record {
        grid = is ∙ sym (grid_is names w outs marks laid valid);
        names = named_same;
        outs = flowed_of ∙ ap (λ (v : VariableNames). map m.outs (range_with_len 0 (length v.cells))) named_same;
        refine = λ b. ap (λ h. refine_of h marks b) is ∙ refined b;
        derefine = λ b. ap (λ h. derefine_of h marks b) is ∙ derefined b;
        cells = λ v below. views_there n g w fit m of valid (Cell v) (group_counted names w outs marks laid valid (Cell v) (subst (λ (x : VariableNames). v < length x.cells) (sym named_same) below));
        face = λ some. views_there n g w fit m of valid Face (group_counted names w outs marks laid valid Face (subst (λ (x : VariableNames). is_some x.face ≡ true) (sym named_same) some));
        edge = λ some. views_there n g w fit m of valid Edge (group_counted names w outs marks laid valid Edge (subst (λ (x : VariableNames). is_some x.edge ≡ true) (sym named_same) some));
      }

  -- and its numbers are there
  pub numbers_there : (tree : Tree) → grid_of tree ≡ w.told.grid → HasNumbers (is_there n g w fit) (grid_of tree) names
  numbers_there tree is = record {
    cells = λ v below. interior_there n g w fit (grid_of tree) is (Cell v) (group_counted names w outs marks laid valid (Cell v) below);
    face = λ some. interior_there n g w fit (grid_of tree) is Face (group_counted names w outs marks laid valid Face some);
    edge = λ some. interior_there n g w fit (grid_of tree) is Edge (group_counted names w outs marks laid valid Edge some);
  }

-- ---- how far a writer came

pub image_long : (m : Mesh) (turn : ℕ) → 1 ≤ length (image m turn)
unfolding image body
image_long m turn = omega arith

given_within : (m : Mesh) (o : Option ImageWriter) (turn : ℕ) → (given_of m o ≡ 0) ⊎ (turn_of o ≡ turn) → given_of m o ≤ length (image m turn)
given_within m None turn same = omega arith
given_within m (Some w) turn (inl none) = omega arith
given_within m (Some w) turn (inr same) = let e = ap (λ t. length (image m t)) same in omega arith

-- a list of which a first part is given and more comes
module _ (all front rest : List ℕ) (k r : ℕ) (within : k ≤ length all) (is : drop k all ≡ front ++ rest) (size : length front ≡ r) where
  front_is : take r (drop k all) ≡ front
  front_is = ap (take r) is ∙ subst (λ n. take n (front ++ rest) ≡ front) size (take-append_seam front rest)

  drop_seam : (xs ys : List ℕ) → drop (length xs) (xs ++ ys) ≡ ys
  drop_seam [] ys = refl
  drop_seam (x ∷ xs) ys = drop_seam xs ys

  rest_is : rest ≡ drop (k + r) all
  rest_is = sym (drop_seam front rest) ∙ ap (λ n. drop n (front ++ rest)) size ∙ ap (drop r) (sym is) ∙ drop-drop r k all

  sizes : (length all ≡ k + r + length rest)
  sizes = let whole = length-drop k all in let parts = ap length is ∙ length-append front rest in omega (arith, whole, parts, within, size)

none_left : (all : List ℕ) (k : ℕ) → k ≤ length all → (drop k all ≡ []) ↔ (k ≡ length all)
none_left all k within = (
  (λ none. let gone = sym (length-drop k all) ∙ ap length none in omega (arith, gone, within)),
  (λ end. ap (λ n. drop n all) end ∙ drop-length all),
)

-- what the writing of the next bytes makes of it: the writer before and after, and what was written
module _ (m : Mesh) (before : Option ImageWriter) (w after : ImageWriter) (turn r : ℕ) (buf : List ℕ) (few : turn ≤ 2)
    (same : (given_of m before ≡ 0) ⊎ (turn_of before ≡ turn)) (turned : w.turn ≡ turn) (rest : left m w ≡ drop (given_of m before) (image m turn))
    (wrote : left m w ≡ take r buf ++ left m after) (room : r ≤ length buf) (turn_stays : after.turn ≡ w.turn) where
  all : List ℕ
  all = image m turn

  within : given_of m before ≤ length all
  unfolding all
  within = given_within m before turn same

  taken : length (take r buf) ≡ r
  taken = length-take-le r buf room

  on : drop (given_of m before) all ≡ take r buf ++ left m after
  unfolding all
  on = sym rest ∙ wrote

  pub bytes_given : take r buf ≡ take r (drop (given_of m before) (image m turn))
  unfolding all
  bytes_given = sym (front_is all (take r buf) (left m after) (given_of m before) r within on taken)

  pub given_now : given_of m (Some after) ≡ given_of m before + r
  unfolding all
  given_now =
      let same_all : length (image m after.turn) ≡ length all = ap (λ t. length (image m t)) (turn_stays ∙ turned) in
      let parts = sizes all (take r buf) (left m after) (given_of m before) r within on taken in
      omega (arith, same_all, parts)

  pub given_short : given_of m (Some after) ≤ length (image m turn)
  unfolding all
  given_short = let now = given_now in let parts = sizes all (take r buf) (left m after) (given_of m before) r within on taken in omega (arith, now, parts)

  pub rest_now : left m after ≡ drop (given_of m (Some after)) (image m after.turn)
  unfolding all
  rest_now =
      rest_is all (take r buf) (left m after) (given_of m before) r within on taken
      ∙ ap (λ k. drop k all) (sym given_now) ∙ ap (λ t. drop (given_of m (Some after)) (image m t)) (sym (turn_stays ∙ turned))

  pub ended : (r ≡ 0) ↔ (left m w ≡ []) → (r ≡ 0) ↔ (given_of m before ≡ length (image m turn))
  unfolding all
  ended end =
      let none = none_left all (given_of m before) within in (
        (λ zero. none.0 (sym rest ∙ end.0 zero)),
        (λ full. end.1 (rest ∙ none.1 full)),
      )

  pub some_given : (r ≡ 0) ↔ (left m w ≡ []) → 1 ≤ given_of m (Some after)
  some_given end = some_by r refl
    where
      some_by : (k : ℕ) → r ≡ k → 1 ≤ given_of m (Some after)
      some_by zero e = let full = (ended end).0 e in let long = image_long m turn in let now = given_now in omega (arith, full, long, now, e)
      some_by (suc k) e = let now = given_now in omega (arith, now, e)

-- ---- the writer that goes on, and a new one

if_known : {A : Type 0} (o : Option A) (P : A → Type 0) → ForSome o P → IfSome o P
if_known None P h = tt
if_known (Some x) P h = h x refl

pub known_if : {A : Type 0} (o : Option A) (P : A → Type 0) → IfSome o P → ForSome o P
known_if o P h x e = subst (λ u. IfSome u P) e h

pub last_known : (m : Mesh) (w : ImageWriter) → ForSome w.last (λ t. IsOwn m.grid (block_at m.grid t.node) t.own) → IsOfGrid m.grid w.last
last_known m w last = if_known w.last (λ t. IsOwn m.grid (block_at m.grid t.node) t.own) last

pub goes_on : (m : Mesh) (w : ImageWriter) (turn : ℕ) → HasGiven m w → (given_of m (Some w) ≡ 0) ⊎ (turn_of (Some w) ≡ turn) → Resumes m (Some w) turn w
goes_on m w turn has (inl none) = let some = has.some in absurd (omega (arith, none, some))
goes_on m w turn has (inr same) = record { writer = has.writer; last = has.last; shape = has.shape; turn_is = same; rest = has.rest ∙ ap (λ t. drop (given_of m (Some w)) (image m t)) same }

pub begins : (m : Mesh) (w : ImageWriter) (turn : ℕ) → IsWriter m w → IsOfGrid m.grid w.last → w.shape ≡ m.grid.shape → w.turn ≡ turn → left m w ≡ image m turn → Resumes m None turn w
begins m w turn writer last shape turn_is rest = record { writer = ∣ writer ∣₁; last = known_if w.last (λ t. IsOwn m.grid (block_at m.grid t.node) t.own) last; shape = shape; turn_is = turn_is; rest = rest }
