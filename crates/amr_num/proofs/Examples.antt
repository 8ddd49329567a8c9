-- Numbers that can be worked out by hand.
use Rattle.std.proofs.Common.{◌≡◌, ℕ, ℤ, pos, negsuc, List, [], ◌∷◌, map, refl}
use Rattle.std.specs.List.{range_with_len}
use Rattle.amr_num.specs.Numbers.{part, spread, spread_all, carry, floor_div}
use Rattle.amr_num.specs.MortonKey.{interleave, low_end, morton, key}

abbrev parts : ℤ → ℕ → List ℤ
parts n k = map (λ q. part q n k) (range_with_len 0 k)

-- of a number below 0 the last parts are the smaller ones
parts_of_minus_three : parts (negsuc 2) 8 ≡ pos 0 ∷ pos 0 ∷ pos 0 ∷ pos 0 ∷ pos 0 ∷ negsuc 0 ∷ negsuc 0 ∷ negsuc 0 ∷ []
unfolding part
parts_of_minus_three = refl

-- what the octants of a cell with content 19 have
octants_of_nineteen : parts (pos 19) 8 ≡ pos 3 ∷ pos 3 ∷ pos 3 ∷ pos 2 ∷ pos 2 ∷ pos 2 ∷ pos 2 ∷ pos 2 ∷ []
unfolding part
octants_of_nineteen = refl

-- 7 over guides that miss 3
spread_with_guides : spread_all 4 (pos 7) (pos 2 ∷ pos 0 ∷ negsuc 0 ∷ pos 3 ∷ []) ≡ pos 3 ∷ pos 1 ∷ pos 0 ∷ pos 3 ∷ []
unfolding spread part
spread_with_guides = refl

mean_is_rounded_down : floor_div (negsuc 0) 2 ≡ negsuc 0
mean_is_rounded_down = refl

-- half of the finest cell's content, to and fro: what is carried is rounded down by the speed's direction
half_carried_up : carry (pos 524288) 0 (pos 5) ≡ pos 2
unfolding carry
half_carried_up = refl

half_carried_down : carry (negsuc 524287) 0 (pos 5) ≡ negsuc 1
unfolding carry
half_carried_down = refl

negative_content_carried_up : carry (pos 524288) 0 (negsuc 4) ≡ negsuc 2
unfolding carry
negative_content_carried_up = refl

finer_cells_carry_more : carry (pos 262144) 1 (pos 5) ≡ pos 2
unfolding carry
finer_cells_carry_more = refl

abbrev key_at : ℕ → ℕ → ℕ → ℕ → ℕ
key_at l x y z = key (record { level = l; x = x; y = y; z = z })

-- a parent stands before its children, and x runs fastest
keys_of_the_first_blocks : key_at 0 0 0 0 ∷ key_at 1 0 0 0 ∷ key_at 1 1 0 0 ∷ key_at 1 0 1 0 ∷ key_at 0 1 0 0 ∷ [] ≡ 0 ∷ 1 ∷ 2147483649 ∷ 4294967297 ∷ 17179869184 ∷ []
unfolding key morton interleave low_end
keys_of_the_first_blocks = refl
