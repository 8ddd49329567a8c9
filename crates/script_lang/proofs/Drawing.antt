-- The draws of a seed, counted on from a later one.
use Rattle.std.proofs.Common.{◌≡◌, ℕ, zero, suc, ◌+◌, ◌<◌, sym, ap, ◌∙◌, arith, add-suc, add-zero}
use Rattle.std.proofs.Math.Nat.{mod-eq_of_lt}
use Rattle.mesh_model.specs.Language.Sample.{draw, next_draw}

pub draw_below : (seed i : ℕ) → draw seed i < 65537
unfolding draw
draw_below seed zero = omega arith
draw_below seed (suc i) = omega arith

-- a draw is the seed of those that come after it
pub draw_again : (seed i j : ℕ) → draw (draw seed i) j ≡ draw seed (i + j)
unfolding draw
draw_again seed i zero = mod-eq_of_lt (draw_below seed i) ∙ ap (draw seed) (sym (add-zero i))
draw_again seed i (suc j) = ap next_draw (draw_again seed i j) ∙ ap (draw seed) (sym (add-suc i j))

-- the draw after one below 65537
pub draw_next : (x : ℕ) → x < 65537 → next_draw x ≡ draw x 1
unfolding draw
draw_next x h = ap next_draw (sym (mod-eq_of_lt h))

pub draw_after : (seed i x y : ℕ) → x ≡ draw seed i → y ≡ draw x 1 → y ≡ draw seed (i + 1)
draw_after seed i x y p q = q ∙ ap (λ s. draw s 1) p ∙ draw_again seed i 1
