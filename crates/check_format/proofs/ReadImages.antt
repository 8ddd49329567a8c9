-- The parts of an image, one after the other.
use Rattle.std.proofs.Common.{◌≡◌, ℕ, ◌-◌, ◌≤◌, ◌^◌, ◌==◌, Bool, true, false, not, ◌||◌, if◌then◌else◌, List, length, take, drop, replicate, Option, Some, None, Result, Ok, Err, inl, inr, refl, sym, ap, ap₂, ◌∙◌, arith, lt-ltb}
use Rattle.std.proofs.lemmas.Bool.{cases_lt, le-ltb}
use Rattle.std.specs.Prelude.{bytes_eq, nat_lt}
use Rattle.mesh_model.specs.declared.images.Part.{Part}
use Rattle.mesh_model.specs.declared.images.Part.TheVariants.{Digest, Ending, Header, Length, Tree, Values}
use Rattle.mesh_model.specs.Images.Codec.{Codec}
use Rattle.mesh_model.specs.Images.Image.{Head, Stored, grid_by}
use Rattle.mesh_model.specs.Images.Reading.{ValueLists, ◌>>>◌, digest_found, digest_kept, head, part, read, read_body, tree, values}
use Rattle.mesh_model.specs.Tree.Kinds.{Grid}
use Rattle.sha2.specs.Sha256.{sha256}
use Rattle.check_format.specs.Numbers.{counted_values}
use Rattle.check_format.specs.ReadImages.{AreCounts}
use Rattle.check_format.specs.declared.reading.lists.Counts.{Counts}

-- ---- before the digest

abbrev pub made_of : Head → List ℕ → ValueLists → Stored
made_of h cs v = record { head = h; nodes = cs; cells = v.0; faces = v.1.0; edges = v.1.1 }

then_end : Head → List ℕ → Option (ValueLists × List ℕ) → Result Stored Part
then_end h cs o = part Values o >>> λ v. if length v.1 == 0 then Ok (made_of h cs v.0) else Err Ending

then_values : Head → Option (List ℕ × List ℕ) → Result Stored Part
then_values h o = part Tree o >>> λ t. then_end h t.0 ((values h.names (grid_by h.shape t.0)).read t.1)

then_nodes : Option (Head × List ℕ) → Result Stored Part
then_nodes o = part Header o >>> λ h. then_values h.0 ((tree h.0.shape).read h.1)

in_parts : (bytes : List ℕ) → read_body bytes ≡ then_nodes (head.read bytes)
unfolding read_body then_nodes then_values then_end
in_parts bytes = λ i. read_body bytes

pub body_header : (bytes : List ℕ) → None ≡ head.read bytes → read_body bytes ≡ Err Header
unfolding then_nodes
body_header bytes e = in_parts bytes ∙ sym (ap then_nodes e)

module _ (bytes : List ℕ) (h : Head) (rest : List ℕ) (eh : Some (h, rest) ≡ head.read bytes) where
  after_head : read_body bytes ≡ then_values h ((tree h.shape).read rest)
  unfolding then_nodes
  after_head = in_parts bytes ∙ sym (ap then_nodes eh)

  pub body_tree : None ≡ (tree h.shape).read rest → read_body bytes ≡ Err Tree
  unfolding then_values
  body_tree e = after_head ∙ sym (ap (then_values h) e)

  module _ (cs after : List ℕ) (et : Some (cs, after) ≡ (tree h.shape).read rest) (g : Grid) (eg : grid_by h.shape cs ≡ g) (c : Counts) (ec : AreCounts h.names g c) where
    same_codec : counted_values c ≡ values h.names (grid_by h.shape cs)
    same_codec = (λ i. counted_values (record { variables = ec.variables i; cells = ec.cells i; faces = ec.faces i; edges = ec.edges i })) ∙ ap (values h.names) (sym eg)

    after_nodes : read_body bytes ≡ then_end h cs ((counted_values c).read after)
    unfolding then_values
    after_nodes = after_head ∙ sym (ap (then_values h) et) ∙ sym (ap (λ (u : Codec ValueLists). then_end h cs (u.read after)) same_codec)

    pub body_values : None ≡ (counted_values c).read after → read_body bytes ≡ Err Values
    unfolding then_end
    body_values e = after_nodes ∙ sym (ap (then_end h cs) e)

    module _ (v : ValueLists) (last : List ℕ) (ev : Some (v, last) ≡ (counted_values c).read after) where
      after_values : read_body bytes ≡ (if length last == 0 then Ok (made_of h cs v) else Err Ending)
      unfolding then_end
      after_values = after_nodes ∙ sym (ap (then_end h cs) ev)

      pub body_ending : (length last == 0) ≡ false → read_body bytes ≡ Err Ending
      body_ending e = after_values ∙ ap (λ u. if u then Ok (made_of h cs v) else Err Ending) e

      pub body_whole : (length last == 0) ≡ true → read_body bytes ≡ Ok (made_of h cs v)
      body_whole e = after_values ∙ ap (λ u. if u then Ok (made_of h cs v) else Err Ending) e

-- ---- with the digest

pub not_false : (b : Bool) → not b ≡ false → b ≡ true
not_false true h = refl
not_false false h = absurd cc

tested : Bool → Bool → Result Stored Part → Result Stored Part
tested size digest r = if size then Err Length else (if not digest then Err Digest else r)

module _ (bytes : List ℕ) where
  abbrev wrong_size : Bool
  wrong_size = nat_lt (length bytes) 62 || nat_lt (2 ^ 29) (length bytes)

  abbrev front : List ℕ
  front = take (length bytes - 32) bytes

  abbrev same_digest : Bool
  same_digest = bytes_eq (drop (length bytes - 32) bytes) (sha256 front)

  in_tests : read bytes ≡ tested wrong_size same_digest (read_body front)
  unfolding read tested
  in_tests = λ i. read bytes

  pub read_length : wrong_size ≡ true → read bytes ≡ Err Length
  unfolding tested
  read_length e = in_tests ∙ ap (λ u. tested u same_digest (read_body front)) e

  pub read_digest : wrong_size ≡ false → same_digest ≡ false → read bytes ≡ Err Digest
  unfolding tested
  read_digest e d = in_tests ∙ (λ i. tested (e i) (d i) (read_body front))

  pub read_front : wrong_size ≡ false → same_digest ≡ true → read bytes ≡ read_body front
  unfolding tested
  read_front e d = in_tests ∙ (λ i. tested (e i) (d i) (read_body front))

  -- bytes of a size of images end in a digest
  module _ (size : wrong_size ≡ false) where
    long : nat_lt (length bytes) 32 ≡ false
    long = elim (cases_lt (length bytes) 62) [
      | inl short ↦ absurd (let t = lt-ltb (length bytes) 62 short in let w : wrong_size ≡ true = ap (λ u. u || nat_lt (2 ^ 29) (length bytes)) t in cc)
      | inr enough ↦ le-ltb (length bytes) 32 (omega arith)
    ]

    kept_is : digest_kept bytes ≡ drop (length bytes - 32) bytes
    kept_is = ap (λ u. if u then replicate 32 0 else drop (length bytes - 32) bytes) long

    found_is : digest_found bytes ≡ sha256 front
    found_is = ap (λ u. sha256 (if u then bytes else front)) long

    pub digests_are : bytes_eq (digest_kept bytes) (digest_found bytes) ≡ same_digest
    digests_are = ap₂ bytes_eq kept_is found_is
