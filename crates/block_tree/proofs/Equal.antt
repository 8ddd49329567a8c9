-- Tests of equal blocks.
use Rattle.std.proofs.Common.{◌≡◌, Bool, true, ◌&&◌, ◌==◌, eqb-true, eq-eqb}
use Rattle.amr_num.specs.declared.BlockAt.{BlockAt}
use Rattle.mesh_model.proofs.TreeLemmas.Tests.{and_left, and_right, and_both}

-- as `==` computes it
abbrev pub equal_test : BlockAt → BlockAt → Bool
equal_test a b = (a.level == b.level) && ((a.x == b.x) && ((a.y == b.y) && (a.z == b.z)))

pub equal_shows : (a b : BlockAt) → a ≡ b → equal_test a b ≡ true
equal_shows a b e =
    and_both _ _ (eq-eqb _ _ (λ i. (e i).level)) (and_both _ _ (eq-eqb _ _ (λ i. (e i).x)) (and_both _ _ (eq-eqb _ _ (λ i. (e i).y)) (eq-eqb _ _ (λ i. (e i).z))))

pub equal_says : (a b : BlockAt) → equal_test a b ≡ true → a ≡ b
equal_says a b h =
    let l = eqb-true a.level b.level (and_left _ _ h) in
    let h2 = and_right (a.level == b.level) ((a.x == b.x) && ((a.y == b.y) && (a.z == b.z))) h in
    let x = eqb-true a.x b.x (and_left _ _ h2) in
    let h3 = and_right (a.x == b.x) ((a.y == b.y) && (a.z == b.z)) h2 in
    let y = eqb-true a.y b.y (and_left _ _ h3) in
    let z = eqb-true a.z b.z (and_right (a.y == b.y) (a.z == b.z) h3) in
    λ i. record { level = l i; x = x i; y = y i; z = z i }
