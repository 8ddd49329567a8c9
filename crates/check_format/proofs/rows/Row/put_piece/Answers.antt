use Rattle.std.proofs.Common.{◌<◌, subst, ◌∙◌, arith}
use Rattle.amr_num.specs.declared.Axis.TheVariants.{Y, Z}
use Rattle.block_tree.specs.GridOf.{grid_of}
use Rattle.block_tree.specs.Interior.{places_along}
use Rattle.check_format.specs.Written as written
use Rattle.check_format.proofs.Putting.{row_there}
use Rattle.check_format.proofs.rows.Row.put_piece.Goals as goal

pub returns-clause-put : goal.returns-clause-put
returns-clause-put g c =
    let s = c.args.self.now in
    let grid = grid_of c.args.tree.now in
    let y : s.j < written.many grid s.group s.axis Y = subst (λ n. s.j < n) (c.places_along.ensures ∙ (λ i. places_along (c.shape-n.ensures.value i).n (c.array_on-var.ensures i) Y)) (let h = c.if-self-places_along.false in omega (arith, h)) in
    let z : s.k < written.many grid s.group s.axis Z = subst (λ n. s.k < n) (c.places_along-else-self-places_along.ensures ∙ (λ i. places_along (c.shape-n.ensures.value i).n (c.array_on-var.ensures i) Z)) (let h = c.if-self-places_along-2.false in omega (arith, h)) in
    row_there grid (g.V.BlockValues.number c.args.values.now) s.group s.node s.axis s.k s.j c.args.part c.put_part.result c.args.buf.now c.put_part.new.buf y z c.put_part.ensures.put
