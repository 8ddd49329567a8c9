use Rattle.std.proofs.Common.{◌≡◌, ◌≤◌, false, subst, sym, ◌∙◌, lit<}
use Rattle.mesh_model.specs.Tree.ValidGrid.{Valid}
use Rattle.block_tree.specs.Directions.{IsRound}
use Rattle.block_tree.specs.Numbered.{block_at}
use Rattle.block_tree.proofs.Facts.{known}
use Rattle.edge_average.specs.Lines.{has_finer, line_part}
use Rattle.edge_average.proofs.Readings.{calm_holds}
use Rattle.edge_average.proofs.Rounds.{bit_means, first_most, near_round, no_leaf, part_means, round_told, same_names, second_most, stands_round}
use Rattle.edge_average.proofs.Worlds.{line_halved, line_holds}
use Rattle.edge_average.proofs.halving.agree_line.Goals as goal

pub take_sums-requires : goal.take_sums-requires
take_sums-requires g c =
    let n = g.row.N in
    let line = c.args.line in
    let found = c.in-Some.round in
    let grid = c.args.world.now.told.grid in
    let b = block_at grid c.args.node in
    let sized = c.requires.fit.sizes in
    let inside = c.requires.line in
    let beyond = c.line_beyond-there.ensures in
    let valid : Valid grid = subst Valid c.tree-tree.ensures (known c.tree-tree.result.now).valid in
    let means = part_means grid valid n g.row.G sized line.axis line.first line.second inside.0 inside.1 c.part_of-part.result c.part_of-part.ensures.value in
    let round : IsRound grid false b (line_part grid.shape.n line.axis line.first line.second) found =
    round_told _ grid c.args.node c.at.result c.direction_at.result _ found c.tree-tree.ensures c.at.ensures.value (c.direction_at.ensures ∙ means) c.in-Some.ensures in
    let most = first_most grid valid n g.row.G sized b c.requires.leaf.leaf line.axis line.first line.second inside.0 inside.1 found round _ _ beyond.first beyond.second in
    let most_too = second_most grid valid n g.row.G sized b c.requires.leaf.leaf line.axis line.first line.second inside.0 inside.1 found round _ _ beyond.first beyond.second in
    let inner = no_leaf grid valid n g.row.G sized b c.requires.leaf.leaf line.axis line.first line.second inside.0 inside.1 found round _ _ beyond.first beyond.second in
    let near = near_round grid valid n g.row.G sized b c.requires.leaf.leaf line.axis line.first line.second inside.0 inside.1 found round _ _ beyond.first beyond.second in (
      lit< tt,
      (
        c.requires.fit,
        (c.requires.declared, (c.requires.leaf, (round.node.there, (inner, (inside, ((most, most_too), (beyond.axis, (near, c.requires.tame)))))))),
      ),
    )

pub returns-in-Some : goal.returns-in-Some
returns-in-Some g c =
    let n = g.row.N in
    let w = c.args.world.now in
    let new = c.take_sums.new.world in
    let line = c.args.line in
    let found = c.in-Some.round in
    let grid = w.told.grid in
    let b = block_at grid c.args.node in
    let sized = c.requires.fit.sizes in
    let inside = c.requires.line in
    let beyond = c.line_beyond-there.ensures in
    let valid : Valid grid = subst Valid c.tree-tree.ensures (known c.tree-tree.result.now).valid in
    let means = part_means grid valid n g.row.G sized line.axis line.first line.second inside.0 inside.1 c.part_of-part.result c.part_of-part.ensures.value in
    let round : IsRound grid false b (line_part grid.shape.n line.axis line.first line.second) found =
    round_told _ grid c.args.node c.at.result c.direction_at.result _ found c.tree-tree.ensures c.at.ensures.value (c.direction_at.ensures ∙ means) c.in-Some.ensures in
    let stands = stands_round grid valid n g.row.G sized b c.requires.leaf.leaf line.axis line.first line.second inside.0 inside.1 found round _ _ beyond.first beyond.second in
    let names = same_names grid valid n g.row.G sized b c.requires.leaf.leaf line.axis line.first line.second inside.0 inside.1 found round _ _ beyond.first beyond.second in
    let first : line.first ≤ grid.shape.n = subst (λ m. line.first ≤ m) (sym sized.cells) inside.0 in
    let second : line.second ≤ grid.shape.n = subst (λ m. line.second ≤ m) (sym sized.cells) inside.1 in
    record {
      halved = line_halved c.args.work n g.row.G w new valid c.args.node line.axis line.first line.second first second c.requires.leaf stands (block_at grid found.node) _ _ names c.take_sums.ensures c.requires.tame;
      line = line_holds c.args.work n g.row.G w new valid c.args.node line.axis line.first line.second first second c.requires.leaf stands (block_at grid found.node) _ _ names c.take_sums.ensures c.requires.tame;
    }

pub returns-then-not-is_kept-clause-line : goal.returns-then-not-is_kept-clause-line
returns-then-not-is_kept-clause-line g c field holds =
    let n = g.row.N in
    let w = c.args.world.now in
    let line = c.args.line in
    let grid = w.told.grid in
    let sized = c.requires.fit.sizes in
    let inside = c.requires.line in
    let valid : Valid grid = subst Valid c.tree-tree.ensures (known c.tree-tree.result.now).valid in
    let bit = bit_means grid valid n g.row.G sized line.axis line.first line.second inside.0 inside.1 c.part_of-part.result c.part_of-part.ensures.value (block_at grid c.args.node) c.args.parts c.requires.parts
    c.part_of-part.ensures.few in
    let calm : has_finer grid line.axis (block_at grid c.args.node) line.first line.second ≡ false = sym bit ∙ sym c.if-not-is_kept.ensures in
    let first : line.first ≤ grid.shape.n = subst (λ m. line.first ≤ m) (sym sized.cells) inside.0 in
    let second : line.second ≤ grid.shape.n = subst (λ m. line.second ≤ m) (sym sized.cells) inside.1 in
    calm_holds c.args.work w valid c.args.node c.requires.leaf line.axis line.first line.second calm field holds first second
