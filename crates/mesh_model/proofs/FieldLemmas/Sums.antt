-- Sums over a stretch and over a box: differences, doubling, and going round.
use Rattle.std.proofs.Common.{◌≡◌, ℕ, zero, suc, ◌+◌, ◌*◌, ◌<◌, ◌/◌, ◌%◌, Bool, true, false, ℤ, pos, ◌+ℤ◌, ◌-ℤ◌, refl, sym, ap, ap₂, ◌∙◌, arith}
use Rattle.std.proofs.lemmas.Int.{ints}
use Rattle.std.proofs.lemmas.Bool.Decides.{nat_tests}
use Rattle.amr_num.specs.Numbers.{sum_below}
use Rattle.amr_num.proofs.Parts.{sum_below_same, sum_below_add}
use Rattle.mesh_model.specs.Geometry.Coordinates.{wrapped}
use Rattle.mesh_model.specs.Fields.Totals.{box_sum}

pub sum_below_zero : (k : ℕ) (f : ℕ → ℤ) → ((q : ℕ) → q < k → f q ≡ pos 0) → sum_below k f ≡ pos 0
sum_below_zero zero f h = refl
sum_below_zero (suc k) f h = ap₂ (λ a b. a +ℤ b) (sum_below_zero k f (λ q p. h q (omega arith))) (h k (omega arith))

pub sum_below_sub : (k : ℕ) (f g : ℕ → ℤ) → sum_below k (λ q. f q -ℤ g q) ≡ sum_below k f -ℤ sum_below k g
sum_below_sub zero f g = refl
sum_below_sub (suc k) f g = let here = sum_below_sub k f g in omega (arith, ints)

-- a stretch of even length, two by two
pub sum_below_double : (k : ℕ) (f : ℕ → ℤ) → sum_below (2 * k) f ≡ sum_below k (λ x. f (2 * x + 0) +ℤ f (2 * x + 1))
sum_below_double zero f = refl
sum_below_double (suc k) f =
    let twice : 2 * suc k ≡ suc (suc (2 * k)) = omega arith in
    let even : 2 * k ≡ 2 * k + 0 = omega arith in
    let odd : suc (2 * k) ≡ 2 * k + 1 = omega arith in
    let here = sum_below_double k f in
    let a : f (2 * k) ≡ f (2 * k + 0) = ap f even in
    let b : f (suc (2 * k)) ≡ f (2 * k + 1) = ap f odd in
    ap (λ n. sum_below n f) twice ∙ omega (arith, ints)

-- ---- boxes

pub box_same : (a b c : ℕ) (f g : ℕ → ℕ → ℕ → ℤ) → ((x y z : ℕ) → x < a → y < b → z < c → f x y z ≡ g x y z) → box_sum a b c f ≡ box_sum a b c g
unfolding box_sum
box_same a b c f g h = sum_below_same c _ _ (λ z hz. sum_below_same b _ _ (λ y hy. sum_below_same a _ _ (λ x hx. h x y z hx hy hz)))

pub box_add : (a b c : ℕ) (f g : ℕ → ℕ → ℕ → ℤ) → box_sum a b c (λ x y z. f x y z +ℤ g x y z) ≡ box_sum a b c f +ℤ box_sum a b c g
unfolding box_sum
box_add a b c f g =
    sum_below_same c _ _ (λ z hz. sum_below_same b _ _ (λ y hy. sum_below_add a _ _) ∙ sum_below_add b _ _) ∙ sum_below_add c _ _

pub box_sub : (a b c : ℕ) (f g : ℕ → ℕ → ℕ → ℤ) → box_sum a b c (λ x y z. f x y z -ℤ g x y z) ≡ box_sum a b c f -ℤ box_sum a b c g
unfolding box_sum
box_sub a b c f g =
    sum_below_same c _ _ (λ z hz. sum_below_same b _ _ (λ y hy. sum_below_sub a _ _) ∙ sum_below_sub b _ _) ∙ sum_below_sub c _ _

pub box_zero : (a b c : ℕ) (f : ℕ → ℕ → ℕ → ℤ) → ((x y z : ℕ) → x < a → y < b → z < c → f x y z ≡ pos 0) → box_sum a b c f ≡ pos 0
unfolding box_sum
box_zero a b c f h = sum_below_zero c _ (λ z hz. sum_below_zero b _ (λ y hy. sum_below_zero a _ (λ x hx. h x y z hx hy hz)))

-- a plane of even sides, four by four
plane_double : (a b : ℕ) (f : ℕ → ℕ → ℤ) → sum_below (2 * b) (λ y. sum_below (2 * a) (λ x. f x y)) ≡ sum_below b (λ y. sum_below a (λ x. (f (2 * x + 0) (2 * y + 0) +ℤ f (2 * x + 1) (2 * y + 0)) +ℤ (f (2 * x + 0) (2 * y + 1) +ℤ f (2 * x + 1) (2 * y + 1))))
plane_double a b f =
    sum_below_double b (λ y. sum_below (2 * a) (λ x. f x y))
    ∙ sum_below_same b _ _ (λ y hy.
    ap₂ (λ m n. m +ℤ n) (sum_below_double a (λ x. f x (2 * y + 0))) (sum_below_double a (λ x. f x (2 * y + 1)))
    ∙ sym (sum_below_add a (λ x. f (2 * x + 0) (2 * y + 0) +ℤ f (2 * x + 1) (2 * y + 0)) (λ x. f (2 * x + 0) (2 * y + 1) +ℤ f (2 * x + 1) (2 * y + 1))))

eight : (f : ℕ → ℤ) → ((f 0 +ℤ f 1) +ℤ (f 2 +ℤ f 3)) +ℤ ((f 4 +ℤ f 5) +ℤ (f 6 +ℤ f 7)) ≡ sum_below 8 f
eight f = omega (arith, ints)

-- a box of even sides, eight by eight
pub box_double : (a b c : ℕ) (f : ℕ → ℕ → ℕ → ℤ) → box_sum (2 * a) (2 * b) (2 * c) f ≡ box_sum a b c (λ x y z. sum_below 8 (λ q. f (2 * x + q % 2) (2 * y + q / 2 % 2) (2 * z + q / 4 % 2)))
unfolding box_sum
box_double a b c f =
    sum_below_double c (λ z. sum_below (2 * b) (λ y. sum_below (2 * a) (λ x. f x y z)))
    ∙ sum_below_same c _ _ (λ z hz.
    ap₂ (λ m n. m +ℤ n) (plane_double a b (λ x y. f x y (2 * z + 0))) (plane_double a b (λ x y. f x y (2 * z + 1)))
    ∙ sym (sum_below_add b _ _)
    ∙ sum_below_same b _ _ (λ y hy. sym (sum_below_add a _ _) ∙ sum_below_same a _ _ (λ x hx. eight (λ q. f (2 * x + q % 2) (2 * y + q / 2 % 2) (2 * z + q / 4 % 2)))))

-- ---- going round

-- what each place hands on to the next
climb : (k : ℕ) (w : ℕ → ℤ) → sum_below k (λ p. w (suc p) -ℤ w p) ≡ w k -ℤ w 0
climb zero w = omega (arith, ints)
climb (suc k) w = let here = climb k w in omega (arith, ints)

pub wrapped_end : (e : ℕ) → wrapped true e e ≡ 0
unfolding wrapped
wrapped_end e = grind (arith, nat_tests)

pub wrapped_inside : (e p : ℕ) → p < e → wrapped true e p ≡ p
unfolding wrapped
wrapped_inside e p h = grind (arith, nat_tests)

-- on an axis with wrap, or whose ends have nothing, all differences together are nothing
pub round : (periodic : Bool) (e : ℕ) (w : ℕ → ℤ) → (periodic ≡ false → (w 0 ≡ pos 0) × (w e ≡ pos 0)) → sum_below e (λ p. w (wrapped periodic e (suc p)) -ℤ w p) ≡ pos 0
unfolding wrapped
round false e w ends = let both = ends refl in climb e w ∙ ap₂ (λ a b. a -ℤ b) both.1 both.0
round true zero w ends = refl
round true (suc k) w ends =
    let inner : sum_below k (λ p. w (wrapped true (suc k) (suc p)) -ℤ w p) ≡ w k -ℤ w 0 = sum_below_same k _ _ (λ p h. ap (λ n. w n -ℤ w p) (wrapped_inside (suc k) (suc p) (omega arith))) ∙ climb k w in
    let last : w (wrapped true (suc k) (suc k)) ≡ w 0 = ap w (wrapped_end (suc k)) in
    ap₂ (λ a b. a +ℤ (b -ℤ w k)) inner last ∙ omega (arith, ints)
