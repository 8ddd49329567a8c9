use Rattle.std.proofs.Common.{rules, ◌≡◌, ℕ, ◌+◌, ◌-◌, ◌<◌, ◌≤◌, ◌++◌, [], ◌∷◌, map, drop, reverse, sym, ap, ap₂, subst, ◌∙◌, arith}
use Rattle.std.specs.Option.{option_map}
use Rattle.std.proofs.lemmas.List.{nil_from_length}
use Rattle.mesh_model.specs.Tree.Order.{IsIn}
use Rattle.morton_key.specs.Keyed.{HasKey}
use Rattle.mesh_model.specs.Tree.Forest.{visited}
use Rattle.block_tree.proofs.Visits.{none_left, go_down, go_up, keyed_top, keyed_rest, keyed_children, started}
use Rattle.block_tree.proofs.forest.visit.Goals as goal
use Rattle.block_tree.proofs.forest.visit.Goals.{then-flag+else-b-max+in_ok-pile_children, else-flag}

pub returns-in-None : goal.returns-in-None
returns-in-None c = none_left c.args.max c.loop-flag.nodes.items c.args.above.now c.loop-flag.flag-index c.loop-flag-test.true _ c.loop-flag.pending.items (nil_from_length c.loop-flag.pending.items (let h = c.in-None.ensures.cases.0 in search rules)) c.loop-flag.invariant.told

pub loop-flag-init : goal.loop-flag-init
loop-flag-init c = record {
  told = started _ (visited c.args.max c.args.above.now (reverse c.in_ok-pending.pending.items)) c.new-nodes.ensures.items ∙ ap (visited c.args.max c.args.above.now) c.in_ok-pending.ensures;
  keyed = λ b i. c.requires.keyed b (subst (λ u. IsIn b u) c.in_ok-pending.ensures i);
}

pub loop-flag-preserved : goal.loop-flag-preserved
loop-flag-preserved c = elim c.if-flag.branch [
  | then-flag+else-b-max+in_ok-pile_children w ↦
      let b = c.in-Some.b in
      let i = c.loop-flag.flag-index in
      let fs = c.args.above.now in
      let rest = c.pop.new.self.items in
      let more = ap (λ p. reverse p.items) w.pending-is ∙ w.in_ok-pile_children.ensures in
      let key = keyed_top c.args.max c.loop-flag.nodes.items fs i c.loop-flag-test.true _ b c.loop-flag.pending.items rest c.in-Some.ensures.items c.loop-flag.invariant.told c.loop-flag.invariant.keyed in
      record {
        told = ap (λ u. option_map (λ v. u ++ v) (visited c.args.max (drop (i + 1) fs) (reverse c.if-flag.pending.items))) c.in_ok-push.ensures
            ∙ go_up c.args.max c.loop-flag.nodes.items fs i c.loop-flag-test.true _ b c.loop-flag.pending.items rest c.in-Some.ensures.items c.loop-flag.invariant.told c.if-flag.pending.items w.if-flag.true (let h = w.if-b-max.false in omega arith) more;
        keyed = λ d j. keyed_children b (reverse rest) (let h = w.if-b-max.false in omega arith) key (keyed_rest c.args.max c.loop-flag.nodes.items fs i c.loop-flag-test.true _ b c.loop-flag.pending.items rest c.in-Some.ensures.items c.loop-flag.invariant.told c.loop-flag.invariant.keyed) d (subst (λ u. IsIn d u) more j);
      }
  | else-flag w ↦
      let b = c.in-Some.b in
      let i = c.loop-flag.flag-index in
      let fs = c.args.above.now in
      let rest = c.pop.new.self.items in
      let same = ap (λ p. reverse p.items) w.pending-is in
      record {
        told = ap₂ (λ u bs. option_map (λ v. u ++ v) (visited c.args.max (drop (i + 1) fs) bs)) c.in_ok-push.ensures same
            ∙ go_down c.args.max c.loop-flag.nodes.items fs i c.loop-flag-test.true _ b c.loop-flag.pending.items rest c.in-Some.ensures.items c.loop-flag.invariant.told w.if-flag.false;
        keyed = λ d j. keyed_rest c.args.max c.loop-flag.nodes.items fs i c.loop-flag-test.true _ b c.loop-flag.pending.items rest c.in-Some.ensures.items c.loop-flag.invariant.told c.loop-flag.invariant.keyed d (subst (λ u. IsIn d u) same j);
      }
]
