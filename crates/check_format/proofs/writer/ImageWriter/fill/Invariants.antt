use Rattle.std.proofs.Common.{◌≡◌, ◌+◌, ◌-◌, ◌≤◌, flat_map}
use Rattle.std.specs.List.{range_with_len}
use Rattle.block_tree.specs.GridOf.{grid_of}
use Rattle.check_format.specs.Numbered.{IsPut}
use Rattle.check_format.specs.Written as written
use Rattle.check_format.specs.Writing.{IsOfGrid, handed}
use Rattle.check_format.proofs.writer.ImageWriter.fill.Given as goal

abbrev pub invariant-loop-number : goal.invariant-loop-number
invariant-loop-number g l =
    IsPut (flat_map (written.image_pieces (handed l.fn.self.turn l.tree l.marks l.names l.outs (g.V.BlockValues.number l.values))).piece (range_with_len l.fn.self.next (l.number - l.fn.self.next)))
    l.size l.fn.buf l.buf
    × (l.size ≤ l.room + 64)
    × IsOfGrid (grid_of l.tree) l.self.last
    × (l.self ≡ record l.fn.self { next = l.number; last = l.self.last })
