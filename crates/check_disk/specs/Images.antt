-- The spelling of meshes: their images.
use Rattle.std.proofs.Common.{◌≡◌, ℕ, ◌<◌, ◌≤◌, ◌^◌, ◌||◌, true, List, length, get_or, nat_lt, Result, Ok, Err, inl, inr, refl, sym, ap, subst, ◌∙◌, arith, lt-ltb}
use Rattle.std.specs.List.{All}
use Rattle.std.proofs.lemmas.Bool.{cases_lt, le-ltb}
use Rattle.std.proofs.lemmas.List.{get_or_past}
use Rattle.mesh_model.specs.declared.images.BadImage.{BadImage}
use Rattle.mesh_model.specs.declared.images.Part.{Part}
use Rattle.mesh_model.specs.declared.images.Part.TheVariants.{Length}
use Rattle.mesh_model.specs.Fields.Plain.{Mesh}
use Rattle.mesh_model.specs.Fields.Valid.{ValidMesh}
use Rattle.mesh_model.specs.Images.Codec.{IsBytes}
use Rattle.mesh_model.specs.Images.Held.{mesh_read, read_mesh}
use Rattle.mesh_model.specs.Images.Image.{Stored, body, image, mesh_of, stored}
use Rattle.mesh_model.specs.Images.Reading.{NamesFit, read}
use Rattle.check_format.proofs.Final.{images_are_read, one_spelling, read_is_image}
use Rattle.check_format.proofs.ReadImages.{read_length}
use Rattle.check_disk.specs.Format.{Format}

-- a mesh that has images
pub record FitsImage (m : Mesh) : Type 0 where
  pub valid : ValidMesh m
  pub names : NamesFit m.names

pub image_turned : (m : Mesh) (turn : ℕ) → get_or (image m turn) 8 0 ≡ turn
unfolding image body
image_turned m turn = refl

-- ---- the length of an image: bytes of another length are read as none

err_not : {X E : Type 0} (e : E) (x : X) → ◌≡◌ {A = Result X E} (Err e) (Ok x) → ⊥
err_not e x is = cc

read_size : (bytes : List ℕ) (s : Stored) → read bytes ≡ Ok s → (62 ≤ length bytes) × (length bytes ≤ 2 ^ 29)
read_size bytes s is = elim (cases_lt (length bytes) 62) [
  | inl short ↦ absurd (wrong (ap (λ t. t || nat_lt (2 ^ 29) (length bytes)) (lt-ltb (length bytes) 62 short)))
  | inr enough ↦ elim (cases_lt (2 ^ 29) (length bytes)) [
    | inl long ↦ absurd (wrong (λ i. le-ltb (length bytes) 62 enough i || lt-ltb (2 ^ 29) (length bytes) long i))
    | inr fine ↦ (enough, fine)
  ]
]
  where
    wrong : (nat_lt (length bytes) 62 || nat_lt (2 ^ 29) (length bytes)) ≡ true → ⊥
    wrong t = err_not Length s (sym (read_length bytes t) ∙ is)

image_size : (m : Mesh) (turn : ℕ) → FitsImage m → turn ≤ 2 → (62 ≤ length (image m turn)) × (length (image m turn) ≤ 2 ^ 29)
image_size m turn fits few = read_size (image m turn) (stored m turn) (images_are_read m turn fits.valid fits.names few)

pub image_some : (m : Mesh) (turn : ℕ) → FitsImage m → turn ≤ 2 → 1 ≤ length (image m turn)
image_some m turn fits few = let size = image_size m turn fits few in omega (arith, size.0)

pub image_limit : (m : Mesh) (turn : ℕ) → FitsImage m → turn ≤ 2 → length (image m turn) ≤ 2 ^ 29
image_limit m turn fits few = (image_size m turn fits few).1

-- ---- reading is the inverse of writing

pub image_back : (m : Mesh) (turn : ℕ) → FitsImage m → turn ≤ 2 → read_mesh (image m turn) ≡ Ok m
unfolding read_mesh
image_back m turn fits few = ap (mesh_read (image m turn)) (images_are_read m turn fits.valid fits.names few) ∙ ap (λ (x : Mesh). Ok x) (one_spelling m turn fits.valid)

all_bytes : (bytes : List ℕ) → All (λ byte. byte < 256) bytes → IsBytes bytes
all_bytes bytes are i = elim (cases_lt i (length bytes)) [
  | inl lt ↦ are i 0 lt
  | inr past ↦ subst (λ byte. byte < 256) (sym (get_or_past bytes i 0 past)) (omega arith)
]

pub image_exact : (bytes : List ℕ) (m : Mesh) → All (λ byte. byte < 256) bytes → read_mesh bytes ≡ Ok m → (turn : ℕ) × (turn ≤ 2) × FitsImage m × (bytes ≡ image m turn)
unfolding read_mesh
image_exact bytes m are is = by_read (read bytes) refl is
  where
    by_read : (r : Result Stored Part) → read bytes ≡ r → mesh_read bytes r ≡ Ok m → (turn : ℕ) × (turn ≤ 2) × FitsImage m × (bytes ≡ image m turn)
    by_read (Err part) e is = absurd (err_not _ m is)
    by_read (Ok s) e is =
        let im = read_is_image bytes s (all_bytes bytes are) e in
        let same : mesh_of s ≡ m = cc is in
        (s.head.turn, im.small, record { valid = subst ValidMesh same im.valid; names = subst (λ (x : Mesh). NamesFit x.names) same im.names }, im.spelled ∙ ap (λ (x : Mesh). image x s.head.turn) same)

-- the spelling
abbrev pub images : Format
images = record {
  Mesh = Mesh;
  Fault = BadImage;
  Fits = FitsImage;
  image = image;
  read = read_mesh;
  turned = λ m turn fits few. image_turned m turn;
  some = image_some;
  limit = image_limit;
  back = image_back;
  exact = image_exact;
}
