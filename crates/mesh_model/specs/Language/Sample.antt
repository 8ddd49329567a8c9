-- The sample script of a seed: a box and a magnetic loop that are carried over a refined mesh, in three rounds.
use Rattle.std.specs.Prelude.{ℕ, zero, suc, ◌+◌, ◌*◌, ◌%◌, ℤ, pos, ◌-ℤ◌, List, [], ◌∷◌, ◌++◌, codes, decimal}
use Rattle.std.specs.Fmt.{signed_decimal}
use Rattle.std.specs.List.{join_with_byte}

-- THE DRAWS

abbrev pub next_draw : ℕ → ℕ
next_draw x = (75 * x + 74) % 65537

-- draw i of the seed, the first of which has the number 1
unfoldable pub draw : ℕ → ℕ → ℕ
draw seed zero = seed % 65537
draw seed (suc i) = next_draw (draw seed i)

-- the coordinate of a box's low cell, of which four fit below 32
abbrev pub corner : ℕ → ℕ
corner x = x % 28

-- a position of an edge in the middle half of the 32 cells along an axis
abbrev pub position : ℕ → ℕ
position x = 8 + x % 16

-- a speed, in the steps' unit: -30000 to 30000
abbrev pub speed : ℕ → ℤ
speed x = pos (x % 60001) -ℤ pos 30000

-- THE TEXT

-- a line: one space between each two words, and one line feed at the end
abbrev pub line : List (List ℕ) → List ℕ
line words = join_with_byte 32 words ++ codes "\n"

abbrev pub declarations : List ℕ
declarations =
    codes "domain 4 4 4\ncells 8 2\nbounds periodic periodic outflow outflow closed closed\nlevels 0 3\n"
    ++ codes "cellvar u\nfacevar b\nedgevar e\n"

-- a box of four cells along each axis, with its low cell at these coordinates, and its content
abbrev pub box : ℕ → ℕ → ℕ → ℕ → List ℕ
box a b c content = line (
    codes "fill u box 0" ∷ decimal a ∷ decimal b ∷ decimal c
    ∷ decimal (a + 4) ∷ decimal (b + 4) ∷ decimal (c + 4) ∷ decimal content ∷ [])

-- a loop of the face variable round an edge
abbrev pub loop : ℕ → ℕ → ℕ → List ℕ
loop p q value = line (codes "edgeset z 0" ∷ decimal p ∷ decimal q ∷ codes "5" ∷ decimal value ∷ []) ++ codes "curl\n"

-- both by the draws 1 to 7
abbrev pub start : ℕ → List ℕ
start seed =
    box (corner (draw seed 1)) (corner (draw seed 2)) (corner (draw seed 3)) (1000 + draw seed 4)
    ++ loop (position (draw seed 5)) (position (draw seed 6)) (1000 + draw seed 7)

-- a round: refining where a content is above the threshold, the two steps with these speeds, reports, and merging
abbrev pub round : ℕ → ℤ → ℤ → ℤ → List ℕ
round threshold x y z =
    line (codes "mark refine where u above" ∷ decimal threshold ∷ [])
    ++ codes "regrid\n"
    ++ line (codes "advect u" ∷ signed_decimal x ∷ signed_decimal y ∷ signed_decimal z ∷ [])
    ++ line (codes "induct" ∷ signed_decimal x ∷ signed_decimal y ∷ signed_decimal z ∷ [])
    ++ codes "total u\nnetflux\nprint size\nmark derefine where u below 1\nregrid\n"

-- the round whose speeds are the three draws after draw i
abbrev pub round_after : ℕ → ℕ → ℕ → List ℕ
round_after threshold seed i = round threshold (speed (draw seed (i + 1))) (speed (draw seed (i + 2))) (speed (draw seed (i + 3)))

unfoldable pub sample : ℕ → List ℕ
sample seed =
    declarations ++ start seed
    ++ round_after 800 seed 7 ++ round_after 100 seed 10 ++ round_after 12 seed 13
    ++ codes "end\n"
