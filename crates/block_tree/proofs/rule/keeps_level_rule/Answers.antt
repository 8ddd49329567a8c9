use Rattle.std.proofs.Common.{◌≡◌, ℕ, ◌<◌, true, false, sym, subst, arith, List, length, refl}
use Rattle.mesh_model.specs.Tree.ValidGrid.{LevelRule}
use Rattle.block_tree.specs.Numbered.{block_in, flag_in}
use Rattle.block_tree.specs.Surrounded.{AreRound}
use Rattle.block_tree.proofs.Members.{in_at}
use Rattle.block_tree.proofs.FlagTrees.{run_length}
use Rattle.block_tree.proofs.Surrounding.{all_round, round_flagged, run_inside, run_keyed, run_sorted}
use Rattle.block_tree.proofs.rule.keeps_level_rule.Goals as goal

pub bounds-above-node : goal.bounds-above-node
bounds-above-node c =
    let same = run_length c.args.shape.now c.args.above.now c.args.nodes.now c.requires.nodes c.requires.shape in
    let here = c.loop-node-test.true in
    omega arith

pub is_surrounded-requires-clause-inside : goal.is_surrounded-requires-clause-inside
is_surrounded-requires-clause-inside c =
    run_inside c.args.shape.now c.requires.shape c.args.above.now c.args.nodes.now c.requires.nodes (block_in c.args.nodes.now c.loop-node.node) (in_at c.args.nodes.now c.loop-node.node c.loop-node-test.true)

pub is_surrounded-requires-clause-keyed : goal.is_surrounded-requires-clause-keyed
is_surrounded-requires-clause-keyed c = run_keyed c.args.shape.now c.requires.shape c.args.above.now c.args.nodes.now c.requires.nodes

pub is_surrounded-requires-clause-order : goal.is_surrounded-requires-clause-order
is_surrounded-requires-clause-order c = run_sorted c.args.shape.now c.requires.shape c.args.above.now c.args.nodes.now c.requires.nodes

pub returns-then-not-is_surrounded : goal.returns-then-not-is_surrounded
returns-then-not-is_surrounded c = (
  λ h. absurd (cc),
  λ rule.
      let round = c.is_surrounded.ensures.1 (round_flagged c.args.shape.now c.requires.shape c.args.above.now c.args.nodes.now c.requires.nodes rule c.loop-node.node c.loop-node-test.true c.if-above-node.true) in
      let other = c.if-not-is_surrounded.true in
      absurd (cc),
)

pub returns : goal.returns
returns c = (
  λ h. all_round c.args.shape.now c.requires.shape c.args.above.now c.args.nodes.now c.requires.nodes (λ i lt up. c.loop-node.invariant i (let end = c.loop-node-test.false in omega arith) up),
  λ rule. refl,
)
