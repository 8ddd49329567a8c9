-- How a run of disk calls goes on.
use Rattle.std.proofs.Common.{◌≡◌, inl, inr, ⊎_elim, ℕ, Option, arith, ◌∙◌}
use Rattle.outside_io.specs.Areas.{Areas}
use Rattle.outside_io.specs.Crash.{Elapses, LeavesOnly, Reads, Rests}

module _ {D : Type 0} (moment : D → ℕ) (left_since : D → ℕ → Areas → Type 0) where
  -- before the first call
  pub started : (old : D) (P : Areas → Type 0) → ((c : Areas) → left_since old (moment old) c → P c) → LeavesOnly moment left_since old old P
  started old P here = record { later = omega arith; each = here; before = λ t c le left. inl left; keeps = λ t c le left. left }

  -- one call more, after which a crash leaves what has P
  pub goes_on : (old mid new : D) (P leaves : Areas → Type 0) → LeavesOnly moment left_since old mid P
      → Elapses (moment mid) (moment new) (left_since mid) (left_since new) leaves
      → ((c : Areas) → leaves c → P c) → LeavesOnly moment left_since old new P
  goes_on old mid new P leaves so_far time here = record {
    later = omega (arith, so_far.later, time.later);
    each = λ c left. ⊎_elim (so_far.each c) (here c) (time.nothing_else (moment old) c so_far.later left);
    before = λ t c le left. ⊎_elim (so_far.before t c le) (λ now. inr (here c now)) (time.nothing_else t c (omega (arith, le, so_far.later)) left);
    keeps = λ t c le left. time.keeps t c (omega (arith, le, so_far.later)) (so_far.keeps t c le left);
  }

  -- one run after another
  pub joined : (old mid new : D) (P : Areas → Type 0) → LeavesOnly moment left_since old mid P → LeavesOnly moment left_since mid new P
      → LeavesOnly moment left_since old new P
  joined old mid new P first second = record {
    later = omega (arith, first.later, second.later);
    each = λ c left. ⊎_elim (first.each c) (λ p. p) (second.before (moment old) c first.later left);
    before = λ t c le left. ⊎_elim (first.before t c le) (λ p. inr p) (second.before t c (omega (arith, le, first.later)) left);
    keeps = λ t c le left. second.keeps t c (omega (arith, le, first.later)) (first.keeps t c le left);
  }

  pub weaker : (old new : D) (P Q : Areas → Type 0) → ((c : Areas) → P c → Q c) → LeavesOnly moment left_since old new P → LeavesOnly moment left_since old new Q
  weaker old new P Q f run = record {
    later = run.later;
    each = λ c left. f c (run.each c left);
    before = λ t c le left. ⊎_elim (λ l. inl l) (λ p. inr (f c p)) (run.before t c le left);
    keeps = run.keeps;
  }

-- calls that write nothing, one after another
module _ {D : Type 0} (holds : D → Option Areas) (may_leave : D → Areas → Type 0) (moment : D → ℕ) (left_since : D → ℕ → Areas → Type 0) where
  pub one_read : (old new : D) → ((c : Areas) → left_since old (moment old) c → may_leave old c) → holds new ≡ holds old → ((c : Areas) → may_leave new c → may_leave old c)
      → Elapses (moment old) (moment new) (left_since old) (left_since new) (may_leave new) → Reads holds may_leave moment left_since old new
  one_read old new only_now kept crash time = record {
    kept = kept;
    crash = crash;
    run = goes_on moment left_since old old new (may_leave old) (may_leave new) (started moment left_since old (may_leave old) only_now) time crash;
  }

  pub reads_on : (old mid new : D) → Reads holds may_leave moment left_since old mid → Reads holds may_leave moment left_since mid new → Reads holds may_leave moment left_since old new
  reads_on old mid new first second = record {
    kept = second.kept ∙ first.kept;
    crash = λ c left. first.crash c (second.crash c left);
    run = joined moment left_since old mid new (may_leave old) first.run (weaker moment left_since mid new (may_leave mid) (may_leave old) first.crash second.run);
  }

  -- what rests stays at rest
  pub still_rests : (old new : D) (areas : Areas) → Reads holds may_leave moment left_since old new → Rests holds may_leave old areas → Rests holds may_leave new areas
  still_rests old new areas reads rests = record { told = reads.kept ∙ rests.told; only = λ c left. rests.only c (reads.crash c left) }
