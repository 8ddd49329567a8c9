-- Numbers take eight bytes each.
use Rattle.std.proofs.Common.{◌≡◌, ℕ, zero, suc, ◌+◌, ◌-◌, ◌*◌, ◌/◌, ◌^◌, ◌<◌, ◌≤◌, Bool, true, false, not, List, [], ◌∷◌, ◌++◌, length, map, drop, Option, Some, None, ℤ, pos, refl, sym, ap, ◌∙◌, arith, length-drop}
use Rattle.std.specs.Prelude.{nat_lt, if◌then◌else◌, unwrap_or as option_unwrap_or}
use Rattle.std.specs.List.{zip}
use Rattle.std.specs.Int.{w64, cast_signed}
use Rattle.std.specs.Prelude.{unsigned_abs}
use Rattle.std.specs.Int.{w128}
use Rattle.std.proofs.Common.{to_z, of_z}
use Rattle.std.proofs.lemmas.Bool.{ltb-false}
use Rattle.std.proofs.lemmas.Int.{fits_signed_from_abs, to_z-of_z}
use Rattle.byteorder.specs.Endian.{little_number}
use Rattle.mesh_model.specs.Fields.RangeWalk.{is_above}
use Rattle.mesh_model.specs.Images.Codec.{◌>>=◌, number, read_times, times}
use Rattle.mesh_model.specs.Images.Reading.{content, integer}
use Rattle.check_format.proofs.Codecs.{bind_some, guarded, passed}

-- what follows a content
content_rest : (bytes : List ℕ) (x : ℤ × List ℕ) → content.read bytes ≡ Some x → length x.1 + 8 ≡ length bytes
content_rest bytes x e =
    let one = bind_some ((integer w64).read bytes) (λ (a : ℤ × List ℕ). if not (is_above (2 ^ 40) a.0) then Some a else None) x e in
    let same = passed (not (is_above (2 ^ 40) one.0.0)) one.0 x one.2 in
    let two = bind_some ((number 8).read bytes) (λ (a : ℕ × List ℕ). Some (cast_signed w64 a.0, a.1)) one.0 one.1 in
    let last : two.0.1 ≡ one.0.1 = ap (λ (o : Option (ℤ × List ℕ)). (option_unwrap_or o (pos 0, [])).1) two.2 in
    let front = guarded (nat_lt (length bytes) 8) (little_number 8 bytes, drop 8 bytes) two.0 two.1 in
    let long : 8 ≤ length bytes = ltb-false _ _ front.0 in
    let rest : drop 8 bytes ≡ x.1 = ap (λ (a : ℕ × List ℕ). a.1) front.1 ∙ last ∙ ap (λ (a : ℤ × List ℕ). a.1) same.1 in
    let len = ap length rest in
    omega (arith, length-drop 8 bytes)

then_contents : ℕ → Option (ℤ × List ℕ) → Option (List ℤ × List ℕ)
then_contents n o = o >>= λ first. read_times n content.read first.1 >>= λ others. Some (first.0 ∷ others.0, others.1)

wants_more : (n : ℕ) (bytes : List ℕ) → ((rest : List ℕ) → length rest / 8 < n → None ≡ (times n content).read rest) → length bytes / 8 < suc n
    → (o : Option (ℤ × List ℕ)) → content.read bytes ≡ o → None ≡ then_contents n o
unfolding then_contents
wants_more n bytes before h None e = refl
wants_more n bytes before h (Some x) e =
    let len = content_rest bytes x e in
    ap (λ u. u >>= λ others. Some (x.0 ∷ others.0, others.1)) (before x.1 (omega arith))

-- reading fails where bytes are wanting
pub contents_want : (n : ℕ) (bytes : List ℕ) → length bytes / 8 < n → None ≡ (times n content).read bytes
unfolding then_contents
contents_want zero bytes h = absurd (omega arith)
contents_want (suc n) bytes h = wants_more n bytes (contents_want n) h (content.read bytes) refl

pub zip_push : {A B : Type 0} (xs : List A) (ys : List B) (x : A) (y : B) → length ys ≡ length xs → zip (xs ++ x ∷ []) (ys ++ y ∷ []) ≡ zip xs ys ++ (x, y) ∷ []
zip_push [] [] x y e = refl
zip_push [] (b ∷ ys) x y e = absurd (omega arith)
zip_push (a ∷ xs) [] x y e = absurd (omega arith)
zip_push (a ∷ xs) (b ∷ ys) x y e = ap (λ u. (a, b) ∷ u) (zip_push xs ys x y (omega arith))

-- numbers within their limits keep their value in a word
pub content_kept : (z : ℤ) → unsigned_abs z ≤ 2 ^ 40 → to_z w64 (of_z w64 z) ≡ z
content_kept z h = to_z-of_z w64 z (fits_signed_from_abs w64 z (omega arith))

pub out_kept : (z : ℤ) → unsigned_abs z ≤ 2 ^ 100 → to_z w128 (of_z w128 z) ≡ z
out_kept z h = to_z-of_z w128 z (fits_signed_from_abs w128 z (omega arith))
