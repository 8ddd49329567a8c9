use Rattle.std.proofs.Common.{ℕ, ◌∙◌, ◌-◌, ◌/◌, ◌%◌, ◌^◌, Some, ap, sym, arith}
use Rattle.std.proofs.lemmas.Bool.{eqb-false}
use Rattle.amr_num.specs.MortonKey.{key}
use Rattle.morton_key.proofs.Placing.{read_back, key_level}
use Rattle.morton_key.proofs.block_of.Goals as goal

pub returns-then-level-gt10-clause-exact : goal.returns-then-level-gt10-clause-exact
returns-then-level-gt10-clause-exact c b h e =
    let level = key_level b h.level in
    let top = h.level in
    absurd (omega arith)

pub returns-then-level-gt10-clause-back : goal.returns-then-level-gt10-clause-back
returns-then-level-gt10-clause-back c b h e = absurd (returns-then-level-gt10-clause-exact c b h e)

pub returns-then-eq-clause-back : goal.returns-then-eq-clause-back
returns-then-eq-clause-back c b h e =
    let finer = λ (n : ℕ). n / 2 ^ (10 - c.args.k.0 % 16) in
    ap Some (read_back c.args.k.0 _ _ _ b h e (c.coordinate.ensures.value ∙ ap finer c.gathered.ensures.value) (c.coordinate-2.ensures.value ∙ ap finer c.gathered-2.ensures.value) (c.coordinate-3.ensures.value ∙ ap finer c.gathered-3.ensures.value))

pub returns-else-eq-clause-exact : goal.returns-else-eq-clause-exact
returns-else-eq-clause-exact c b h e =
    let finer = λ (n : ℕ). n / 2 ^ (10 - c.args.k.0 % 16) in
    let same = read_back c.args.k.0 _ _ _ b h e (c.coordinate.ensures.value ∙ ap finer c.gathered.ensures.value) (c.coordinate-2.ensures.value ∙ ap finer c.gathered-2.ensures.value) (c.coordinate-3.ensures.value ∙ ap finer c.gathered-3.ensures.value) in
    eqb-false c.key_of.result.0 c.args.k.0 (sym c.if-eq.ensures) (c.key_of.ensures.value ∙ ap key same ∙ e)

pub returns-else-eq-clause-back : goal.returns-else-eq-clause-back
returns-else-eq-clause-back c b h e = absurd (returns-else-eq-clause-exact c b h e)
