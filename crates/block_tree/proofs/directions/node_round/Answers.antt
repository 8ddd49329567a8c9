use Rattle.std.proofs.Common.{◌∙◌, sym}
use Rattle.block_tree.specs.GridOf.{grid_of}
use Rattle.block_tree.proofs.Parts.{round_less_x, round_less_y, round_less_z, round_there}
use Rattle.block_tree.proofs.directions.node_round.Goals as goal

pub returns-in-Some : goal.returns-in-Some
returns-in-Some c = round_there (grid_of c.args.tree.now) c.args.leaf c.args.b c.args.toward (sym c.has_edges.ensures ∙ c.if-not-has_edges.false) c.in-Some.node c.in-Some.ensures

pub returns-in-Some-node_toward : goal.returns-in-Some-node_toward
returns-in-Some-node_toward c =
    round_less_x (grid_of c.args.tree.now) c.args.leaf c.args.b c.args.toward (sym c.has_edges.ensures ∙ c.if-not-has_edges.false) c.in-Some-node_toward.node c.in-Some-node_toward.ensures

pub returns-in-Some-node_toward-2 : goal.returns-in-Some-node_toward-2
returns-in-Some-node_toward-2 c =
    round_less_y (grid_of c.args.tree.now) c.args.leaf c.args.b c.args.toward (sym c.has_edges.ensures ∙ c.if-not-has_edges.false) c.in-Some-node_toward-2.node c.in-Some-node_toward-2.ensures

pub returns-in-Some-node_toward-3 : goal.returns-in-Some-node_toward-3
returns-in-Some-node_toward-3 c =
    round_less_z (grid_of c.args.tree.now) c.args.leaf c.args.b c.args.toward (sym c.has_edges.ensures ∙ c.if-not-has_edges.false) c.in-Some-node_toward-3.node c.in-Some-node_toward-3.ensures
