use Rattle.std.specs.Prelude.{map, take}
use Rattle.mesh_model.specs.Images.Image as image
use Rattle.check_format.specs.Numbered.{IsPut}
use Rattle.check_format.proofs.head.put_sides.Given as goal

abbrev pub invariant-loop-side : goal.invariant-loop-side
invariant-loop-side l = IsPut (map image.side_code (take l.side-index l.sides)) l.size l.fn.buf l.buf
