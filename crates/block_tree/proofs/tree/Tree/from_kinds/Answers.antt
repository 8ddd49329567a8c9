use Rattle.std.proofs.Common.{◌≡◌, ◌≤◌, ◌<◌, Bool, true, false, List, length, Option, Some, None, Vec, Global, sym, ap, ◌∙◌, subst, arith}
use Rattle.std.specs.Option.{option_map}
use Rattle.amr_num.specs.declared.BlockAt.{BlockAt}
use Rattle.mesh_model.specs.declared.geometry.Shape.{Shape}
use Rattle.mesh_model.specs.Geometry.Limits.{most_nodes}
use Rattle.mesh_model.specs.Tree.Forest.{lowered}
use Rattle.mesh_model.specs.Tree.ValidGrid.{LevelRule}
use Rattle.block_tree.proofs.FlagTrees.{no_room, no_rule, no_run, run_has, run_length, run_tree}
use Rattle.block_tree.proofs.tree.Tree.from_kinds.Goals as goal

abbrev listed : Option (Vec BlockAt Global) → Option (List BlockAt)
listed found = option_map (λ nodes. nodes.items) found

pub returns-then-above-most_nodes-clause-stop : goal.returns-then-above-most_nodes-clause-stop
returns-then-above-most_nodes-clause-stop c =
    no_room c.args.shape c.args.above.now (let many = c.if-above-most_nodes.true in let most = c.most_nodes.ensures.value in omega arith)

pub returns-in-Ok-None-clause-stop : goal.returns-in-Ok-None-clause-stop
returns-in-Ok-None-clause-stop c =
    no_run c.args.shape c.args.above.now (sym c.in-Ok-None.ensures ∙ ap listed c.in-Ok-None.field-0-is)

pub keeps_level_rule-requires-clause-few : goal.keeps_level_rule-requires-clause-few
keeps_level_rule-requires-clause-few c =
    let run = sym c.in-Ok-Some.ensures ∙ ap listed c.in-Ok-Some.field-0-is ∙ ap Some (sym c.deref.ensures.value) in
    let same = run_length c.args.shape c.args.above.now c.deref.result.now run c.requires in
    let many = c.if-above-most_nodes.false in
    let most = c.most_nodes.ensures.few in
    omega arith

pub returns-then-not-keeps_level_rule-clause-stop : goal.returns-then-not-keeps_level_rule-clause-stop
returns-then-not-keeps_level_rule-clause-stop c =
    let run = sym c.in-Ok-Some.ensures ∙ ap listed c.in-Ok-Some.field-0-is ∙ ap Some (sym c.deref.ensures.value) in
    no_rule c.args.shape c.args.above.now c.deref.result.now run (λ rule.
    let keeps = c.keeps_level_rule.ensures.1 rule in
    let other = c.if-not-keeps_level_rule.true in
    absurd (cc))

-- the rule of the nodes that were looked at is that of the nodes that are kept
kept_rule : (s : Shape) (above : List Bool) (seen all : List BlockAt) → seen ≡ all → LevelRule (record { shape = s; leaves = lowered above seen }) → LevelRule (record { shape = s; leaves = lowered above all })
kept_rule s above seen all same rule = subst (λ (u : List BlockAt). LevelRule (record { shape = s; leaves = lowered above u })) same rule

pub invariant_of-result : goal.invariant_of-result
invariant_of-result c =
    let s = c.args.shape in
    let above = c.args.above.now in
    let all = c.in-Ok-Some.nodes.items in
    let few : length above ≤ most_nodes s = let many = c.if-above-most_nodes.false in let most = c.most_nodes.ensures.value in omega arith in
    record { valid = ∣ run_tree s above all (sym c.in-Ok-Some.ensures ∙ ap listed c.in-Ok-Some.field-0-is) c.requires (kept_rule s above c.deref.result.now all c.deref.ensures.value (c.keeps_level_rule.ensures.0 c.if-not-keeps_level_rule.false)) few ∣₁ }

pub returns-clause-tree : goal.returns-clause-tree
returns-clause-tree c =
    let s = c.args.shape in
    let above = c.args.above.now in
    let all = c.in-Ok-Some.nodes.items in
    let few : length above ≤ most_nodes s = let many = c.if-above-most_nodes.false in let most = c.most_nodes.ensures.value in omega arith in
    run_has s above all (sym c.in-Ok-Some.ensures ∙ ap listed c.in-Ok-Some.field-0-is) c.requires (kept_rule s above c.deref.result.now all c.deref.ensures.value (c.keeps_level_rule.ensures.0 c.if-not-keeps_level_rule.false)) few
