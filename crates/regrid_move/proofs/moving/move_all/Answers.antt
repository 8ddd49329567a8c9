use Rattle.std.proofs.Common.{◌≡◌, ◌<◌, None, sym, subst, ◌∙◌, arith, inl, inr}
use Rattle.std.proofs.lemmas.Bool.{cases_lt}
use Rattle.mesh_model.specs.Fields.Arrays.{Counts}
use Rattle.mesh_model.specs.Fields.Ranks.{Told}
use Rattle.rank_world.specs.Holding.{LeavesHold}
use Rattle.regrid_move.specs.Near.{LeavesMoved, all_stop, variable_stop}
use Rattle.block_store.proofs.Aboves.{found_here, none_here}
use Rattle.regrid_move.proofs.Steps.{leaves_stay, none_is}
use Rattle.regrid_move.proofs.moving.move_all.Goals as goal

pub returns-then-is_some-clause-stop : goal.returns-then-is_some-clause-stop
returns-then-is_some-clause-stop g c contents holds =
    let old = c.args.old.now.told.grid in
    let new = c.move_variable-stop.new.new.told.grid in
    let v = c.loop-v.v in
    let inside : v < c.args.old.now.told.counts.cells = subst (λ (x : Counts). v < x.cells) (c.layout-2.view_is ∙ c.layout.ensures) c.loop-v-test.true in
    found_here c.args.old.now.told.counts.cells v (λ w. variable_stop old new (contents w) w) c.move_variable-stop.result
    (subst (λ (t : Told). all_stop old t.grid contents v ≡ None) (sym c.move_variable-stop.ensures.only.told) (c.loop-v.invariant.none contents holds))
    (c.move_variable-stop.ensures.stop (contents v) (holds v inside)) (sym c.is_some.ensures ∙ c.if-is_some.true) inside

pub loop-v-preserved : goal.loop-v-preserved
loop-v-preserved g c =
    let old = c.args.old.now in
    let v = c.loop-v.v in
    let was = c.loop-v.new in
    let new = c.move_variable-stop.new.new in
    let only = c.move_variable-stop.ensures.only in
    let inside : v < c.args.old.now.told.counts.cells = subst (λ (x : Counts). v < x.cells) (c.layout-2.view_is ∙ c.layout.ensures) c.loop-v-test.true in
    let none = none_is c.move_variable-stop.result (sym c.is_some.ensures ∙ c.if-is_some.false) in
    record {
      told = only.told ∙ c.loop-v.invariant.told;
      fit = c.move_variable-stop.ensures.fit;
      views = λ w content h holds. elim (cases_lt w v) [
        | inl less ↦ leaves_stay old was new w v content only (λ is. omega arith) (c.loop-v.invariant.views w content less holds)
        | inr more ↦ (
            let last : w ≡ v = omega arith in
            subst (λ m. LeavesMoved old new m content) (sym last) (c.move_variable-stop.ensures.views none content (subst (λ m. LeavesHold old m content) last holds)))
      ];
      none = λ contents holds.
          none_here v (λ w. variable_stop old.told.grid new.told.grid (contents w) w) c.move_variable-stop.result
          (subst (λ (t : Told). all_stop old.told.grid t.grid contents v ≡ None) (sym only.told) (c.loop-v.invariant.none contents holds))
          (c.move_variable-stop.ensures.stop (contents v) (holds v inside)) (sym c.is_some.ensures ∙ c.if-is_some.false);
    }
