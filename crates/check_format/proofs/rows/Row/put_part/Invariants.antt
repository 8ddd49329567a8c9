use Rattle.std.proofs.Common.{◌*◌, ◌-◌, ◌≤◌, flat_map}
use Rattle.std.specs.List.{range_with_len}
use Rattle.block_tree.specs.GridOf.{grid_of}
use Rattle.check_format.specs.Numbered.{IsPut}
use Rattle.check_format.specs.Written as written
use Rattle.check_format.proofs.rows.Row.put_part.Given as goal

abbrev pub invariant-loop-i : goal.invariant-loop-i
invariant-loop-i g l =
    IsPut (flat_map (written.place_bytes (grid_of l.tree) (g.V.BlockValues.number l.values) l.self.group l.self.node l.self.axis l.self.k l.self.j) (range_with_len (5 * l.part) (l.i - 5 * l.part)))
    l.size l.fn.buf l.buf
    × (l.size ≤ 8 * (l.i - 5 * l.part))
