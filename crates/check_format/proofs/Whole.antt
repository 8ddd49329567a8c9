-- Reading gives what was stored exactly on images.
use Rattle.std.proofs.Common.{◌≡◌, ℕ, ◌+◌, ◌-◌, ◌^◌, ◌<◌, ◌≤◌, ◌==◌, Bool, true, false, not, ◌||◌, cond, if◌then◌else◌, nat_lt, refl, sym, ap, subst, ◌∙◌, arith, inl, inr, List, [], ◌++◌, length, take, drop, Option, Some, None, Result, Ok, Err, eqb-true}
use Rattle.std.specs.Prelude.{bytes_eq}
use Rattle.std.proofs.lemmas.Bool.{cases_lt, le-ltb}
use Rattle.std.proofs.lemmas.List.{append-nil, nil_from_length, take-append-drop, take_at, drop_at, length-append, get_or-take, get_or_past, length-take}
use Rattle.std.proofs.lemmas.Slice.Eq.{bytes_eq-Decides}
use Rattle.sha2.specs.Sha256.{sha256}
use Rattle.sha2.proofs.Facts256.{length-sha256}
use Rattle.mesh_model.specs.Fields.Plain.{Mesh}
use Rattle.mesh_model.specs.Fields.Valid.{ValidMesh}
use Rattle.mesh_model.specs.Images.Codec.{Codec, Exact, IsBytes}
use Rattle.mesh_model.specs.Images.Fits.{TreeFits, StoredFits}
use Rattle.mesh_model.specs.Images.Image.{Head, Stored, stored, mesh_of, body, image, grid_by}
use Rattle.mesh_model.specs.Images.Reading.{NamesFit, HeadFits, ValuesFit, ValueLists, head, tree, values, part, ◌>>>◌, read_body, read}
use Rattle.mesh_model.specs.declared.images.Part.{Part}
use Rattle.mesh_model.specs.declared.images.Part.TheVariants.{Header, Tree, Values, Ending, Length, Digest}
use Rattle.check_format.proofs.Again.{mesh_again, grid_again}
use Rattle.check_format.proofs.Back.{stored_again, mesh_valid}
use Rattle.check_format.proofs.Codecs.{rest_bytes}
use Rattle.check_format.proofs.Fields.{head_exact, tree_exact, values_exact}
use Rattle.check_format.proofs.Spelled.{spelling, body_is, tree_fits, values_fit}

bind_ok : {A B : Type 0} (r : Result A Part) (f : A → Result B Part) (y : B) → (r >>> f) ≡ Ok y → (x : A) × (r ≡ Ok x) × (f x ≡ Ok y)
bind_ok (Ok x) f y e = (x, refl, e)
bind_ok (Err d) f y e = absurd cc

part_ok : {A : Type 0} (p : Part) (o : Option A) (x : A) → part p o ≡ Ok x → o ≡ Some x
part_ok p None x e = absurd cc
part_ok p (Some y) x e = cc

guard_ok : {A : Type 0} (b : Bool) (d : Part) (x y : A) → cond b (Ok x) (Err d) ≡ Ok y → (b ≡ true) × (x ≡ y)
guard_ok true d x y e = (refl, cc)
guard_ok false d x y e = absurd cc

-- the parts fit
record Fits (s : Stored) : Type 0 where
  head : HeadFits s.head
  tree : TreeFits s.head.shape s.nodes
  values : ValuesFit s.head.names (grid_by s.head.shape s.nodes) (s.cells, (s.faces, s.edges))

-- three parts one after the other, of any codecs
module _ (A B C S : Type 0) (a : Codec A) (P : A → Type 0) (ea : Exact A a P) (b : A → Codec B) (Q : A → B → Type 0) (eb : (x : A) → P x → Exact B (b x) (Q x)) (c : A → B → Codec C) (R : A → B → C → Type 0) (ec : (x : A) (y : B) → Exact C (c x y) (R x y)) (made : A → B → C → S) where
  last : (x : A) (y : B) → List ℕ → Result S Part
  last x y bytes = part Values ((c x y).read bytes) >>> λ v. if length v.1 == 0 then Ok (made x y v.0) else Err Ending

  middle : (x : A) → List ℕ → Result S Part
  middle x bytes = part Tree ((b x).read bytes) >>> λ t. last x t.0 t.1

  all_three : List ℕ → Result S Part
  all_three bytes = part Header (a.read bytes) >>> λ h. middle h.0 h.1

  record Took (bytes : List ℕ) (s : S) : Type 0 where
    first : A
    second : B
    third : C
    fits_first : P first
    fits_second : Q first second
    fits_third : R first second third
    bytes_are : bytes ≡ a.write first ++ ((b first).write second ++ (c first second).write third)
    made_is : made first second third ≡ s

  took : (bytes : List ℕ) (s : S) → IsBytes bytes → all_three bytes ≡ Ok s → Took bytes s
  unfolding all_three middle last
  took bytes s isb e =
      let one = bind_ok (part Header (a.read bytes)) (λ h. middle h.0 h.1) s e in
      let x = one.0 in
      let t1 = ea.spelled bytes x.0 x.1 isb (part_ok Header (a.read bytes) x one.1) in
      let b1 = rest_bytes (a.write x.0) x.1 bytes t1.0 isb in
      let two = bind_ok (part Tree ((b x.0).read x.1)) (λ t. last x.0 t.0 t.1) s one.2 in
      let y = two.0 in
      let t2 = (eb x.0 t1.1).spelled x.1 y.0 y.1 b1 (part_ok Tree ((b x.0).read x.1) y two.1) in
      let b2 = rest_bytes ((b x.0).write y.0) y.1 x.1 t2.0 b1 in
      let three = bind_ok (part Values ((c x.0 y.0).read y.1)) (λ v. if length v.1 == 0 then Ok (made x.0 y.0 v.0) else Err Ending) s two.2 in
      let v = three.0 in
      let t3 = (ec x.0 y.0).spelled y.1 v.0 v.1 b2 (part_ok Values ((c x.0 y.0).read y.1) v three.1) in
      let end = guard_ok (length v.1 == 0) Ending (made x.0 y.0 v.0) s three.2 in
      let nothing : v.1 ≡ [] = nil_from_length v.1 (eqb-true _ _ end.0) in
      let last_part : y.1 ≡ (c x.0 y.0).write v.0 = t3.0 ∙ ap (λ u. (c x.0 y.0).write v.0 ++ u) nothing ∙ append-nil ((c x.0 y.0).write v.0) in
      record {
        first = x.0;
        second = y.0;
        third = v.0;
        fits_first = t1.1;
        fits_second = t2.1;
        fits_third = t3.1;
        bytes_are = t1.0 ∙ ap (λ u. a.write x.0 ++ u) (t2.0 ∙ ap (λ u. (b x.0).write y.0 ++ u) last_part);
        made_is = end.1;
      }

  gives : (x : A) (y : B) (z : C) → P x → Q x y → R x y z → all_three (a.write x ++ ((b x).write y ++ (c x y).write z)) ≡ Ok (made x y z)
  unfolding all_three middle last
  gives x y z p q r =
      let third : (c x y).read ((c x y).write z) ≡ Some (z, []) = ap (c x y).read (sym (append-nil ((c x y).write z))) ∙ (ec x y).again z [] r in
      ap (λ u. part Header u >>> λ h. middle h.0 h.1) (ea.again x ((b x).write y ++ (c x y).write z) p)
      ∙ ap (λ u. part Tree u >>> λ t. last x t.0 t.1) ((eb x p).again y ((c x y).write z) q)
      ∙ ap (λ u. part Values u >>> λ v. if length v.1 == 0 then Ok (made x y v.0) else Err Ending) third

abbrev made_of : Head → List ℕ → ValueLists → Stored
made_of h t v = record { head = h; nodes = t; cells = v.0; faces = v.1.0; edges = v.1.1 }

as_three : (bytes : List ℕ) → read_body bytes ≡ all_three Head (List ℕ) ValueLists Stored head HeadFits head_exact (λ h. tree h.shape) (λ h. TreeFits h.shape) (λ h f. tree_exact h.shape) (λ h t. values h.names (grid_by h.shape t)) (λ h t. ValuesFit h.names (grid_by h.shape t)) (λ h t. values_exact h.names (grid_by h.shape t)) made_of bytes
unfolding read_body all_three middle last
as_three bytes = refl

body_takes : (bytes : List ℕ) (s : Stored) → IsBytes bytes → read_body bytes ≡ Ok s → (bytes ≡ spelling s) × Fits s
unfolding spelling
body_takes bytes s b e =
    let t = took Head (List ℕ) ValueLists Stored head HeadFits head_exact (λ h. tree h.shape) (λ h. TreeFits h.shape) (λ h f. tree_exact h.shape) (λ h t. values h.names (grid_by h.shape t)) (λ h t. ValuesFit h.names (grid_by h.shape t)) (λ h t. values_exact h.names (grid_by h.shape t)) made_of bytes s b (sym (as_three bytes) ∙ e) in
    subst (λ u. (bytes ≡ spelling u) × Fits u) t.made_is (t.bytes_are, record { head = t.fits_first; tree = t.fits_second; values = t.fits_third })

body_again : (s : Stored) → Fits s → read_body (spelling s) ≡ Ok s
unfolding spelling
body_again s fits =
    as_three (spelling s)
    ∙ gives Head (List ℕ) ValueLists Stored head HeadFits head_exact (λ h. tree h.shape) (λ h. TreeFits h.shape) (λ h f. tree_exact h.shape) (λ h t. values h.names (grid_by h.shape t)) (λ h t. ValuesFit h.names (grid_by h.shape t)) (λ h t. values_exact h.names (grid_by h.shape t)) made_of s.head s.nodes (s.cells, (s.faces, s.edges)) fits.head fits.tree fits.values

-- ---- with the digest

stored_fits : (s : Stored) → Fits s → StoredFits s
stored_fits s f = record {
  shape = f.head.shape;
  names = f.head.names.few;
  tree = f.tree;
  variables = f.values.variables;
  cells = f.values.cells;
  faces = f.values.faces;
  edges = f.values.edges;
}

-- bytes are the image of a valid mesh
pub record IsImage (bytes : List ℕ) (m : Mesh) (turn : ℕ) : Type 0 where
  pub valid : ValidMesh m
  pub names : NamesFit m.names
  pub small : turn ≤ 2
  pub spelled : bytes ≡ image m turn

front_bytes : (n : ℕ) (bytes : List ℕ) → IsBytes bytes → IsBytes (take n bytes)
front_bytes n bytes h i = elim (cases_lt i n) [
  | inl lt ↦ subst (λ u. u < 256) (sym (get_or-take n bytes i 0 lt)) (h i)
  | inr le ↦ subst (λ u. u < 256) (sym (get_or_past (take n bytes) i 0 (omega (arith, length-take n bytes)))) (omega arith)
]

err_not : {A : Type 0} (d : Part) (x : A) → Err d ≡ Ok x → ⊥
err_not d x e = cc

past : {A : Type 0} (b : Bool) (d : Part) (r : Result A Part) (x : A) → cond b (Err d) r ≡ Ok x → (b ≡ false) × (r ≡ Ok x)
past true d r x e = absurd (err_not d x e)
past false d r x e = (refl, e)

names_of : (s : Stored) → NamesFit s.head.names → NamesFit (mesh_of s).names
unfolding mesh_of
names_of s h = h

pub read_takes : (bytes : List ℕ) (s : Stored) → IsBytes bytes → read bytes ≡ Ok s → IsImage bytes (mesh_of s) s.head.turn
unfolding read image
read_takes bytes s isb e =
    let n = length bytes - 32 in
    let front = take n bytes in
    let kept = drop n bytes in
    let one = past (nat_lt (length bytes) 62 || nat_lt (2 ^ 29) (length bytes)) Length _ s e in
    let two = past (not (bytes_eq kept (sha256 front))) Digest _ s one.1 in
    let same : kept ≡ sha256 front = (bytes_eq-Decides kept (sha256 front)).0 (not_false (bytes_eq kept (sha256 front)) two.0) in
    let t = body_takes front s (front_bytes n bytes isb) two.1 in
    let fits = stored_fits s t.1 in
    let spelled : spelling s ≡ body (mesh_of s) s.head.turn = ap spelling (sym (stored_again s fits)) ∙ sym (body_is (mesh_of s) s.head.turn) in
    let front_is : front ≡ body (mesh_of s) s.head.turn = t.0 ∙ spelled in
    let kept_is : kept ≡ sha256 (body (mesh_of s) s.head.turn) = same ∙ ap sha256 front_is in
    record {
      valid = mesh_valid s fits;
      names = names_of s t.1.head.names;
      small = t.1.head.turn;
      spelled = sym (take-append-drop n bytes) ∙ (λ i. front_is i ++ kept_is i);
    }
  where
    not_false : (b : Bool) → not b ≡ false → b ≡ true
    not_false true h = refl
    not_false false h = absurd cc

-- what is stored of an image's mesh
fits_again : (m : Mesh) (turn : ℕ) → ValidMesh m → NamesFit m.names → turn ≤ 2 → Fits (stored m turn)
unfolding stored
fits_again m turn valid names small = record {
  head = record { turn = small; shape = valid.grid.shape; names = names };
  tree = tree_fits m valid turn;
  values = subst (λ g. ValuesFit m.names g ((stored m turn).cells, ((stored m turn).faces, (stored m turn).edges))) (sym (grid_again m valid turn)) (values_fit m valid turn);
}

pub read_image : (m : Mesh) (turn : ℕ) → ValidMesh m → NamesFit m.names → turn ≤ 2 → 30 ≤ length (body m turn) → length (body m turn) + 32 ≤ 2 ^ 29 → read (image m turn) ≡ Ok (stored m turn)
unfolding read image
read_image m turn valid names small least most =
    let b = body m turn in
    let d = sha256 b in
    let bytes = b ++ d in
    let dn : length d ≡ 32 = length-sha256 b in
    let whole : length bytes ≡ length b + 32 = length-append b d ∙ ap (λ u. length b + u) dn in
    let n : length bytes - 32 ≡ length b = omega arith in
    let t1 : nat_lt (length bytes) 62 ≡ false = le-ltb _ _ (omega arith) in
    let t2 : nat_lt (2 ^ 29) (length bytes) ≡ false = le-ltb _ _ (omega arith) in
    let front : take (length bytes - 32) bytes ≡ b = take_at b d (length bytes - 32) (sym n) in
    let kept : drop (length bytes - 32) bytes ≡ d = drop_at b d (length bytes - 32) (sym n) in
    let same : bytes_eq (drop (length bytes - 32) bytes) (sha256 (take (length bytes - 32) bytes)) ≡ true = (bytes_eq-Decides _ _).1 (kept ∙ ap sha256 (sym front)) in
    let rest = ap read_body (front ∙ body_is m turn) ∙ body_again (stored m turn) (fits_again m turn valid names small) in
    steps (nat_lt (length bytes) 62) (nat_lt (2 ^ 29) (length bytes)) (bytes_eq (drop (length bytes - 32) bytes) (sha256 (take (length bytes - 32) bytes))) (read_body (take (length bytes - 32) bytes)) (stored m turn) t1 t2 same rest
  where
    steps : (a b c : Bool) (r : Result Stored Part) (s : Stored) → a ≡ false → b ≡ false → c ≡ true → r ≡ Ok s → (if a || b then Err Length else (if not c then Err Digest else r)) ≡ Ok s
    steps true b c r s ha hb hc hr = absurd cc
    steps false true c r s ha hb hc hr = absurd cc
    steps false false true r s ha hb hc hr = hr
    steps false false false r s ha hb hc hr = absurd cc

-- so an image is that of one mesh and one turn
pub one_mesh : (m : Mesh) (turn : ℕ) → ValidMesh m → mesh_of (stored m turn) ≡ m
one_mesh m turn valid = mesh_again m valid turn
