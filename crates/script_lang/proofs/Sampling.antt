-- The text of the sample script, a part after another.
use Rattle.std.proofs.Common.{◌≡◌, ℕ, List, [], ◌∷◌, ◌++◌, Result, OnOk, ℤ, codes, ap, ◌∙◌, append_assoc}
use Rattle.std.proofs.lemmas.Result.{on_ok_weaker}
use Rattle.mesh_model.specs.Language.Sample.{declarations, draw, line, round, round_after, sample, start}
use Rattle.script_lang.proofs.Drawing.{draw_again}

-- what is added in two steps
pub two_parts : {T E : Type 0} (r : Result T E) (old next new a b : List ℕ) → next ≡ old ++ a → OnOk r (new ≡ next ++ b) → OnOk r (new ≡ old ++ (a ++ b))
two_parts r old next new a b e h =
    let both : new ≡ next ++ b → new ≡ old ++ (a ++ b) = λ f. f ∙ ap (λ t. t ++ b) e ∙ append_assoc old a b in
    on_ok_weaker r both h

-- a line and what follows it
pub line_of_two : (name x tail : List ℕ) → line (name ∷ x ∷ []) ++ tail ≡ name ++ (32 ∷ x ++ (10 ∷ tail))
line_of_two name x tail = append_assoc (name ++ 32 ∷ x) (10 ∷ []) tail ∙ append_assoc name (32 ∷ x) (10 ∷ tail)

pub line_of_four : (name x y z tail : List ℕ) → line (name ∷ x ∷ y ∷ z ∷ []) ++ tail ≡ name ++ (32 ∷ x ++ (32 ∷ y ++ (32 ∷ z ++ (10 ∷ tail))))
line_of_four name x y z tail =
    append_assoc (name ++ (32 ∷ x ++ (32 ∷ (y ++ (32 ∷ z))))) (10 ∷ []) tail
    ∙ append_assoc name (32 ∷ (x ++ (32 ∷ (y ++ (32 ∷ z))))) (10 ∷ tail)
    ∙ ap (λ t. name ++ (32 ∷ t)) (append_assoc x (32 ∷ (y ++ (32 ∷ z))) (10 ∷ tail) ∙ ap (λ t. x ++ (32 ∷ t)) (append_assoc y (32 ∷ z) (10 ∷ tail)))

-- a round as it is written in one piece
pub round_text : (t x y z reports : List ℕ) → line (codes "mark refine where u above" ∷ t ∷ []) ++ codes "regrid\n" ++ line (codes "advect u" ∷ x ∷ y ∷ z ∷ []) ++ line (codes "induct" ∷ x ∷ y ∷ z ∷ []) ++ reports ≡ codes "mark refine where u above " ++ (t ++ (codes "\nregrid\nadvect u " ++ (x ++ (codes " " ++ (y ++ (codes " " ++ (z ++ (codes "\ninduct " ++ (x ++ (codes " " ++ (y ++ (codes " " ++ (z ++ (codes "\n" ++ reports))))))))))))))
round_text t x y z reports =
    let mark = line (codes "mark refine where u above" ∷ t ∷ []) in
    let again = codes "regrid\n" in
    let advect = line (codes "advect u" ∷ x ∷ y ∷ z ∷ []) in
    let induct = line (codes "induct" ∷ x ∷ y ∷ z ∷ []) in
    let last = line_of_four (codes "induct") x y z reports in
    let steps = line_of_four (codes "advect u") x y z (induct ++ reports) ∙ ap (λ u. codes "advect u " ++ (x ++ (32 ∷ y ++ (32 ∷ z ++ (10 ∷ u))))) last in
    append_assoc (mark ++ again ++ advect) induct reports
    ∙ append_assoc (mark ++ again) advect (induct ++ reports)
    ∙ append_assoc mark again (advect ++ (induct ++ reports))
    ∙ line_of_two (codes "mark refine where u above") t (again ++ (advect ++ (induct ++ reports)))
    ∙ ap (λ u. codes "mark refine where u above " ++ (t ++ (codes "\nregrid\n" ++ u))) steps

-- a round with speeds that are equal
pub same_round : {T E : Type 0} (r : Result T E) (old new : List ℕ) (threshold : ℕ) (x y z u v w : ℤ) → x ≡ u → y ≡ v → z ≡ w → OnOk r (new ≡ old ++ round threshold x y z) → OnOk r (new ≡ old ++ round threshold u v w)
same_round r old new threshold x y z u v w p q s h =
    let same : new ≡ old ++ round threshold x y z → new ≡ old ++ round threshold u v w =
    λ f. f ∙ ap (λ a. old ++ round threshold a y z) p ∙ ap (λ a. old ++ round threshold u a z) q ∙ ap (λ a. old ++ round threshold u v a) s in
    on_ok_weaker r same h

-- a part by draws that count on from a later one
start_again : (seed : ℕ) → start (draw seed 0) ≡ start seed
start_again seed = simp draw_again

round_again : (threshold seed i : ℕ) → round_after threshold (draw seed i) 0 ≡ round_after threshold seed i
round_again threshold seed i = simp draw_again

-- the sample by what stands after each part
pub sample_text : (seed first second third fourth : ℕ) (a b c d text : List ℕ) →
    first ≡ draw seed 0 → second ≡ draw first 7 → third ≡ draw second 3 → fourth ≡ draw third 3 →
    a ≡ declarations ++ start first → b ≡ a ++ round_after 800 second 0 → c ≡ b ++ round_after 100 third 0 → d ≡ c ++ round_after 12 fourth 0 → text ≡ d ++ codes "end\n" → text ≡ sample seed
unfolding sample
sample_text seed first second third fourth a b c d text p q s t ea eb ec ed et =
    let seventh : second ≡ draw seed 7 = q ∙ ap (λ x. draw x 7) p ∙ draw_again seed 0 7 in
    let tenth : third ≡ draw seed 10 = s ∙ ap (λ x. draw x 3) seventh ∙ draw_again seed 7 3 in
    let thirteenth : fourth ≡ draw seed 13 = t ∙ ap (λ x. draw x 3) tenth ∙ draw_again seed 10 3 in
    let begun : a ≡ declarations ++ start seed = ea ∙ ap (λ x. declarations ++ start x) p ∙ ap (λ u. declarations ++ u) (start_again seed) in
    let one : b ≡ declarations ++ start seed ++ round_after 800 seed 7 = eb ∙ ap (λ x. a ++ round_after 800 x 0) seventh ∙ ap (λ u. a ++ u) (round_again 800 seed 7) ∙ ap (λ u. u ++ round_after 800 seed 7) begun in
    let two : c ≡ declarations ++ start seed ++ round_after 800 seed 7 ++ round_after 100 seed 10 = ec ∙ ap (λ x. b ++ round_after 100 x 0) tenth ∙ ap (λ u. b ++ u) (round_again 100 seed 10) ∙ ap (λ u. u ++ round_after 100 seed 10) one in
    let three : d ≡ declarations ++ start seed ++ round_after 800 seed 7 ++ round_after 100 seed 10 ++ round_after 12 seed 13 = ed ∙ ap (λ x. c ++ round_after 12 x 0) thirteenth ∙ ap (λ u. c ++ u) (round_again 12 seed 13) ∙ ap (λ u. u ++ round_after 12 seed 13) two in
    et ∙ ap (λ u. u ++ codes "end\n") three
