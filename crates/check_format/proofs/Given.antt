-- Pieces that were given, and those that are left.
use Rattle.std.proofs.Common.{◌≡◌, ℕ, ◌+◌, ◌-◌, ◌≤◌, List, [], ◌++◌, flat_map, sym, ap, ◌∙◌, arith}
use Rattle.std.proofs.lemmas.Grind.{flat_map-append}
use Rattle.std.specs.List.{range_with_len}
use Rattle.block_tree.proofs.ByNumber.{range_apart}
use Rattle.check_format.specs.Numbered.{Pieces, from_piece, whole}
use Rattle.check_format.specs.Writing.{first_pieces}

parts : (f : ℕ → List ℕ) (a b n : ℕ) → a ≤ b → b ≤ n → flat_map f (range_with_len a (n - a)) ≡ flat_map f (range_with_len a (b - a)) ++ flat_map f (range_with_len b (n - b))
parts f a b n low high =
    let all : n - a ≡ (b - a) + (n - b) = omega arith in
    let next : a + (b - a) ≡ b = omega arith in
    ap (λ k. flat_map f (range_with_len a k)) all
    ∙ ap (flat_map f) (range_apart a (b - a) (n - b))
    ∙ flat_map-append f (range_with_len a (b - a)) (range_with_len (a + (b - a)) (n - b))
    ∙ ap (λ k. flat_map f (range_with_len a (b - a)) ++ flat_map f (range_with_len k (n - b))) next

module _ (p : Pieces) where
  -- what is left from one piece on is what is given up to another, and what is left from there on
  pub left_parts : (a b : ℕ) → a ≤ b → b ≤ p.count → from_piece p a ≡ flat_map p.piece (range_with_len a (b - a)) ++ from_piece p b
  left_parts a b low high = parts p.piece a b p.count low high

  -- and with all before
  pub given_parts : (a b : ℕ) → a ≤ b → first_pieces p a ++ flat_map p.piece (range_with_len a (b - a)) ≡ first_pieces p b
  given_parts a b low = sym (ap (λ k. flat_map p.piece (range_with_len 0 k)) (let e : b ≡ b - 0 = omega arith in e) ∙ parts p.piece 0 a b (omega arith) low ∙ ap (λ k. flat_map p.piece (range_with_len 0 k) ++ flat_map p.piece (range_with_len a (b - a))) (let e : a - 0 ≡ a = omega arith in e))

  pub all_given : first_pieces p p.count ≡ whole p
  all_given = ap (λ k. flat_map p.piece (range_with_len 0 k)) (let e : p.count ≡ p.count - 0 = omega arith in e)

  pub none_left : (a : ℕ) → p.count ≤ a → from_piece p a ≡ []
  none_left a past = ap (λ k. flat_map p.piece (range_with_len a k)) (let e : p.count - a ≡ 0 = omega arith in e)
