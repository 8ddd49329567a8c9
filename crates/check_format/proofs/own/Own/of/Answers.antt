use Rattle.std.proofs.Common.{◌∙◌, arith, subst}
use Rattle.block_tree.specs.Directions.{direction_of}
use Rattle.block_tree.specs.GridOf.{grid_of}
use Rattle.block_tree.specs.Numbered.{block_at}
use Rattle.check_format.specs.Own.{AreTaken}
use Rattle.check_format.proofs.Taking.{free_is_own}
use Rattle.check_format.proofs.own.Own.of.Goals as goal

pub returns : goal.returns
returns c =
    let g = grid_of c.args.tree.now in
    let taken = subst (λ b. AreTaken g b c.taken_parts.result) c.at.ensures.value c.taken_parts.ensures in
    record { each = λ d h. c.free_parts.ensures.each d h ∙ free_is_own g (block_at g c.args.node) c.taken_parts.result taken (direction_of d) (omega arith) (omega arith) (omega arith) }
