-- The bytes of the small spelling's images, one after another.
use Rattle.std.proofs.Common.{◌≡◌, ℕ, zero, suc, ◌+◌, ◌-◌, ◌<◌, ◌≤◌, List, [], ◌∷◌, ◌++◌, length, take, drop, get_or, set, refl, sym, ap, ◌∙◌, arith}
use Rattle.std.proofs.lemmas.List.{take_more, take_more_set, get_or-drop, length-drop}
use Rattle.check_disk.specs.Listed.{listed_image}
use Rattle.check_disk.specs.ListedLaws.{turn_at}

image_low : (mesh : List ℕ) (turn k : ℕ) → k < 8 → get_or (listed_image mesh turn) k 0 ≡ 65
unfolding listed_image
image_low mesh turn zero lt = refl
image_low mesh turn (suc zero) lt = refl
image_low mesh turn (suc (suc zero)) lt = refl
image_low mesh turn (suc (suc (suc zero))) lt = refl
image_low mesh turn (suc (suc (suc (suc zero)))) lt = refl
image_low mesh turn (suc (suc (suc (suc (suc zero))))) lt = refl
image_low mesh turn (suc (suc (suc (suc (suc (suc zero)))))) lt = refl
image_low mesh turn (suc (suc (suc (suc (suc (suc (suc zero))))))) lt = refl
image_low mesh turn (suc (suc (suc (suc (suc (suc (suc (suc k)))))))) lt = absurd (omega arith)

at_high : (mesh : List ℕ) (turn j : ℕ) → get_or (listed_image mesh turn) (suc (suc (suc (suc (suc (suc (suc (suc (suc j))))))))) 0 ≡ get_or mesh j 0
unfolding listed_image
at_high mesh turn j = refl

-- each byte of an image
pub low_byte : (mesh : List ℕ) (turn k : ℕ) → k < 8 → 65 ≡ get_or (listed_image mesh turn) k 0
low_byte mesh turn k lt = sym (image_low mesh turn k lt)

pub turn_byte : (mesh : List ℕ) (turn k : ℕ) → k ≡ 8 → turn ≡ get_or (listed_image mesh turn) k 0
turn_byte mesh turn k is = sym (ap (λ q. get_or (listed_image mesh turn) q 0) is ∙ turn_at mesh turn)

pub high_byte : (mesh : List ℕ) (turn k : ℕ) → 9 ≤ k → get_or mesh (k - 9) 0 ≡ get_or (listed_image mesh turn) k 0
high_byte mesh turn k le =
    let j = k - 9 in
    let is : k ≡ suc (suc (suc (suc (suc (suc (suc (suc (suc j)))))))) = omega arith in
    sym (ap (λ q. get_or (listed_image mesh turn) q 0) is ∙ at_high mesh turn j)

-- one byte more at the front of the buffer
pub one_byte : (image buf : List ℕ) (given n y : ℕ) → n < length buf → given + n < length image → y ≡ get_or image (given + n) 0 → take n buf ≡ take n (drop given image) → take (n + 1) (set buf n y) ≡ take (n + 1) (drop given image)
one_byte image buf given n y room more is so_far =
    let long = length-drop given image in
    take_more_set buf n y room ∙ ap (λ l. l ++ y ∷ []) so_far ∙ ap (λ z. take n (drop given image) ++ z ∷ []) (is ∙ sym (get_or-drop given image n 0)) ∙ sym (take_more (drop given image) n 0 (omega arith))
