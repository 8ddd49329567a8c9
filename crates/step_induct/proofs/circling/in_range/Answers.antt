use Rattle.std.proofs.Common.{None, Some, ap, sym, ◌∙◌}
use Rattle.step_induct.proofs.Held.{found_told}
use Rattle.step_induct.proofs.circling.in_range.Goals as goal

pub returns-in-None-clause-in_range : goal.returns-in-None-clause-in_range
returns-in-None-clause-in_range c =
    found_told c.args.size.n c.args.size.g c.args.axis c.args.leaf_sides c.args.faces.now None c.counted.result c.counted.ensures (sym c.in-None.is ∙ c.faces_above.ensures)

pub returns-in-Some-clause-refused : goal.returns-in-Some-clause-refused
returns-in-Some-clause-refused c =
    found_told c.args.size.n c.args.size.g c.args.axis c.args.leaf_sides c.args.faces.now (Some c.in-Some.found) c.counted.result c.counted.ensures (sym c.in-Some.is ∙ c.faces_above.ensures)
    ∙ ap Some (sym c.told.ensures)
