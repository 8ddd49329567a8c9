-- What a call of a writer gives, of what is left.
use Rattle.std.proofs.Common.{◌≡◌, ℕ, ◌-◌, ◌≤◌, false, if◌then◌else◌, List, [], ◌∷◌, ◌++◌, flat_map, length, refl, sym, ap, ap₂, subst, ◌∙◌, arith, append_assoc, append-nil}
use Rattle.std.specs.List.{range_with_len}
use Rattle.sha2.specs.Sha256.{sha256}
use Rattle.mesh_model.specs.Fields.Plain.{Mesh}
use Rattle.check_format.specs.declared.writer.ImageWriter.{ImageWriter}
use Rattle.check_format.specs.Numbered.{Pieces, from_piece, whole}
use Rattle.check_format.specs.Written.{Handed, image_pieces, of_mesh}
use Rattle.check_format.specs.Writing.{StandsFor, first_pieces, left}
use Rattle.check_format.proofs.Given.{given_parts, left_parts, none_left}
use Rattle.check_format.proofs.Pieces.{range_same}
use Rattle.check_format.proofs.SamePieces.{pieces_agree}

-- what is left where the digest was not given
pub left_is : (m : Mesh) (w : ImageWriter) (turn n : ℕ) → w.ended ≡ false → w.turn ≡ turn → w.next ≡ n
    → left m w ≡ from_piece (image_pieces (of_mesh m turn)) n ++ sha256 (whole (image_pieces (of_mesh m turn)))
left_is m w turn n e t k = λ i. if e i then [] else from_piece (image_pieces (of_mesh m (t i))) (k i) ++ sha256 (whole (image_pieces (of_mesh m (t i))))

pub no_bytes : (a b : List ℕ) → a ++ b ≡ [] → length a ≡ 0
no_bytes [] b e = refl
no_bytes (x ∷ a) b e = cc

-- pieces from a on up to b were given, of what stands for a mesh
module _ (m : Mesh) (h : Handed) (stands : StandsFor m h) (a b : ℕ) (on : a ≤ b) where
  abbrev q : Pieces
  q = image_pieces (of_mesh m h.turn)

  abbrev pub given : List ℕ
  given = flat_map (image_pieces h).piece (range_with_len a (b - a))

  same_count : (image_pieces h).count ≡ q.count
  same_count = (pieces_agree m h stands).count

  same_given : b ≤ (image_pieces h).count → given ≡ flat_map q.piece (range_with_len a (b - a))
  same_given within = range_same (image_pieces h).piece q.piece a (b - a) (λ k low high. (pieces_agree m h stands).piece k (omega (arith, within, high, on)))

  pub within_all : b ≤ (image_pieces h).count → b ≤ q.count
  within_all within = subst (λ n. b ≤ n) same_count within

  pub step : b ≤ (image_pieces h).count → from_piece q a ++ sha256 (whole q) ≡ given ++ (from_piece q b ++ sha256 (whole q))
  step within =
      ap (λ u. u ++ sha256 (whole q)) (left_parts q a b on (within_all within) ∙ ap (λ u. u ++ from_piece q b) (sym (same_given within)))
      ∙ append_assoc given (from_piece q b) (sha256 (whole q))

  pub taken_in : b ≤ (image_pieces h).count → first_pieces q a ++ given ≡ first_pieces q b
  taken_in within = ap (λ u. first_pieces q a ++ u) (same_given within) ∙ given_parts q a b on

  -- where nothing was given and no piece is behind, all were before
  pub nothing : b ≤ (image_pieces h).count → (image_pieces h).count ≤ b → given ≡ [] → from_piece q a ≡ []
  nothing within past e =
      left_parts q a b on (within_all within) ∙ ap₂ (λ u w. u ++ w) (sym (same_given within) ∙ e) (none_left q b (subst (λ n. n ≤ b) same_count past))

  pub all_before : b ≤ (image_pieces h).count → (image_pieces h).count ≤ b → given ≡ [] → first_pieces q a ≡ whole q
  all_before within past e =
      sym (append-nil (first_pieces q a)) ∙ ap (λ u. first_pieces q a ++ u) (sym e) ∙ taken_in within
      ∙ ap (λ k. flat_map q.piece (range_with_len 0 k)) (let l = within_all within in let r = subst (λ n. n ≤ b) same_count past in let s : b ≡ q.count - 0 = omega (arith, l, r) in s)
